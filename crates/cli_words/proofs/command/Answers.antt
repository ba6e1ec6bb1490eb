use Rattle.cli_words.proofs.Names.{one_more_name, one_more_name_of}
use Rattle.cli_words.proofs.command.Goals as goal

pub returns : goal.returns
returns c =
    let once = one_more_name _ _ _ _ _ c.in_ok-command-2.ensures c.in_ok-command.ensures c.once_command.ensures in
    let format = one_more_name _ _ _ _ _ c.in_ok-command-3.ensures once c.format_command.ensures in
    let copy = one_more_name _ _ _ _ _ c.in_ok-command-4.ensures format c.copy_command.ensures in
    let show = one_more_name _ _ _ _ _ c.in_ok-command-5.ensures copy c.show_command.ensures in
    let status = one_more_name _ _ _ _ _ c.in_ok-command-6.ensures show c.status_command.ensures in
    let upgrade = one_more_name _ _ _ _ _ c.in_ok-command-7.ensures status c.upgrade_command.ensures in
    let run = one_more_name _ _ _ _ _ c.in_ok-command-8.ensures upgrade c.run_command.ensures in
    one_more_name_of c.with_subcommand-8.result _ _ _ _ c.with_subcommand-8.ensures run c.ask_command.ensures
