-- The code of each refusal.
use Rattle.std.specs.Prelude.{ℕ}
use Rattle.reply_codes.specs.declared.refusal.Refusal.{Refusal}
use Rattle.reply_codes.specs.declared.refusal.Refusal.TheVariants.{NoMemory, Message, Check, Lookup, Submit, NoReader, Stopped, NotAwaited, Future, NoCommands}
use Rattle.reply_codes.specs.Codes.{memory_code, reader_code, stopped_code, not_awaited_code, future_code, no_commands_code, seg_code, check_code, lookup_code, submit_code}

-- The code of a refusal, in one byte.
abbrev pub refusal_code : Refusal → ℕ
refusal_code NoMemory = memory_code
refusal_code (Message e) = seg_code e
refusal_code (Check e) = check_code e
refusal_code (Lookup e) = lookup_code e
refusal_code (Submit e) = submit_code e
refusal_code NoReader = reader_code
refusal_code Stopped = stopped_code
refusal_code NotAwaited = not_awaited_code
refusal_code Future = future_code
refusal_code NoCommands = no_commands_code
