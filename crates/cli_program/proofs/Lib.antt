mod ServedFile
