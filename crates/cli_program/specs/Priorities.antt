-- The priorities of a server's lines on standard error.
use Rattle.path_server.specs.declared.reports.Report.{Report}
use Rattle.path_server.specs.declared.reports.Report.TheVariants as report
use Rattle.cli_commands.specs.declared.priority.Priority.{Priority}
use Rattle.cli_commands.specs.declared.priority.Priority.TheVariants.{Error, Warning, Info}
use Rattle.cli_program.specs.declared.server_line.ServerLine.{ServerLine}
use Rattle.cli_program.specs.declared.server_line.ServerLine.TheVariants as line

-- The priority of a report: an error where the store takes no more commands, a warning where
-- something was refused or is tried again.
abbrev pub report_priority : Report → Priority
report_priority report.Stopped = Error
report_priority report.Exhausted = Error
report_priority (report.HalfDamaged epoch) = Error
report_priority report.Overfull = Error
report_priority report.Defect = Error
report_priority (report.TurnedAway count) = Warning
report_priority (report.LookupsTurnedAway count) = Warning
report_priority (report.AddressFull count) = Warning
report_priority (report.NoThread count) = Warning
report_priority (report.NotAccepted error pause) = Warning
report_priority (report.Faulted count peer why) = Warning
report_priority (report.NotPurged why) = Warning
report_priority (report.PurgesRest doubt) = Warning
report_priority (report.PurgedMost dropped rows) = Warning
report_priority (report.NoMemory actor) = Warning
report_priority report.Ready = Info
report_priority report.PurgedAgain = Info
report_priority report.PurgesGoOn = Info
report_priority (report.MemoryGiven actor) = Info
report_priority report.CheckpointBegun = Info
report_priority (report.CheckpointDone milliseconds) = Info

-- The priority of a line: that of its report, an error for a fault of the file, and its own for a
-- line of the program's own.
abbrev pub line_priority : ServerLine → Priority
line_priority (line.Report report) = report_priority report
line_priority (line.Fault fault) = Error
line_priority (line.Ready milliseconds) = Info
line_priority (line.Text priority text) = priority
