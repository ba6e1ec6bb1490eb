-- The commands of the program, by their names.
use Rattle.std.specs.Prelude.{codes}
use Rattle.clap.specs.Words.{Text}
use Rattle.cli_words.specs.declared.command_line.Subcommand.{Subcommand}
use Rattle.cli_words.specs.declared.command_line.Subcommand.TheVariants.{Once, Format, Copy, Show, Status, Upgrade, Run, Ask}

-- the name of a command
abbrev pub name_of : Subcommand → Text
name_of Once = codes "once"
name_of Format = codes "format"
name_of Copy = codes "copy"
name_of Show = codes "show"
name_of Status = codes "status"
name_of Upgrade = codes "upgrade"
name_of Run = codes "run"
name_of Ask = codes "ask"
