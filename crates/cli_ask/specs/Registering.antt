-- Which of two faults is the error of a registration.
use Rattle.std.specs.Prelude.{Option, None, Some, if◌then◌else◌, nat_le}
use Rattle.cli_ask.specs.declared.registering.LineFault.{LineFault}

-- That of the line that comes first.
abbrev pub first_fault : Option LineFault → LineFault → LineFault
first_fault None new = new
first_fault (Some before) new = if nat_le before.line new.line then before else new
