-- The priorities of lines on standard error.
use Rattle.std.specs.Prelude.{ℕ, Bool, List, [], codes, if◌then◌else◌}
use Rattle.cli_commands.specs.declared.priority.Priority.{Priority}
use Rattle.cli_commands.specs.declared.priority.Priority.TheVariants.{Error, Warning, Info}

-- What a line of a priority begins with: syslog's number of it.
abbrev pub mark_of : Priority → List ℕ
mark_of Error = codes "<3>"
mark_of Warning = codes "<4>"
mark_of Info = codes "<6>"

-- The same where lines begin with their priority, and nothing where they do not.
abbrev pub mark_where : Priority → Bool → List ℕ
mark_where priority is_marked = if is_marked then mark_of priority else []
