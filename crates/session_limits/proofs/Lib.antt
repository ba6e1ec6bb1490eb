mod NoCommands
