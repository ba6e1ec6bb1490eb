use Rattle.cli_words.proofs.Names.{added_name_of}
use Rattle.cli_words.proofs.with_subcommand.Goals as goal

pub returns : goal.returns
returns c = added_name_of c.subcommand.result c.args.command c.args.subcommand c.in_ok-subcommand.subcommand
    c.in_ok-subcommand.was c.subcommand.ensures
