-- The commands of a journal are those of the database, each spelled as its record.
use Rattle.std.specs.Prelude.{◌≡◌, Result, Ok, Err, Some}
use Rattle.std.specs.Result.{result_ok}
use Rattle.std.proofs.Common.{ap}
use Rattle.path_db.specs.declared.command.Command.{Command}
use Rattle.path_records.specs.CommandRecord.{command_encoding, command_decoding}
use Rattle.path_records.proofs.Exports.{command_spelled, command_read_on}
use Rattle.store_layout.specs.CommandFormat.{CommandFormat}

-- A reading that returns a command did not refuse it.
pub returned_as_read : {T E : Type 0} (reading : Result T E) (value : T) → result_ok reading ≡ Some value → reading ≡ Ok value
returned_as_read (Ok other) value is = cc
returned_as_read (Err refusal) value is = cc

-- The format of commands: a command is encoded as its record, and bytes are read as one. Of the
-- limits, the one on removals counts.
abbrev pub command_format : CommandFormat Command
command_format = record {
  encoding = command_encoding;
  decoding = λ limits bytes. result_ok (command_decoding limits.removals bytes);
  spelled = λ limits bytes command each is.
      command_spelled limits.removals bytes command each (returned_as_read (command_decoding limits.removals bytes) command is);
  grows = λ small large bytes command larger is.
      ap result_ok (command_read_on small.removals large.removals bytes command larger.removals
      (returned_as_read (command_decoding small.removals bytes) command is));
}
