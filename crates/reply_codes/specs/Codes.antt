-- The codes of refusals in replies.
use Rattle.std.specs.Prelude.{ℕ}
use Rattle.pw_wire.specs.declared.error.WireError.{WireError}
use Rattle.pw_wire.specs.declared.error.WireError.TheVariants.{Truncated, LongVarint, BadField, GroupWire, BadWire}
use Rattle.seg_core.specs.declared.error.SegError.{SegError}
use Rattle.seg_core.specs.declared.error.SegError.TheVariants.{NoMemory, Wire, KindOfField, RepeatedMessage, MissingField, Range, Chain, Loop, Entries, BadType, TooLarge}
use Rattle.seg_check.specs.declared.error.CheckError.{CheckError}
use Rattle.seg_check.specs.declared.error.CheckError.TheVariants.{BadSignature, Expired}
use Rattle.seg_lookup.specs.declared.error.LookupError.{LookupError}
use Rattle.seg_lookup.specs.declared.error.LookupError.TheVariants.{NullDestination, IsdOnlyWildcard, NoCore}
use Rattle.group_core.specs.declared.submit_error.SubmitError.{SubmitError}
use Rattle.group_core.specs.declared.submit_error.SubmitError.TheVariants as submit

-- The code where memory was refused.
abbrev pub memory_code : ℕ
memory_code = 0x01

-- The code of a lookup without a reader.
abbrev pub reader_code : ℕ
reader_code = 0x61

-- The code where the store stopped before a command was committed.
abbrev pub stopped_code : ℕ
stopped_code = 0x62

-- The code where the wait for a commit was given up, as the peer had left.
abbrev pub not_awaited_code : ℕ
not_awaited_code = 0x63

-- The code where a time lies too far after now.
abbrev pub future_code : ℕ
future_code = 0x33

-- The code of a command in a session that takes none.
abbrev pub no_commands_code : ℕ
no_commands_code = 0x64

-- The code of a fault in the wire format of a message.
abbrev pub wire_code : WireError → ℕ
wire_code Truncated = 0x11
wire_code LongVarint = 0x12
wire_code BadField = 0x13
wire_code GroupWire = 0x14
wire_code BadWire = 0x15

-- The code of why a message's body is refused.
abbrev pub seg_code : SegError → ℕ
seg_code NoMemory = memory_code
seg_code (Wire e) = wire_code e
seg_code KindOfField = 0x22
seg_code RepeatedMessage = 0x23
seg_code MissingField = 0x24
seg_code Range = 0x25
seg_code Chain = 0x26
seg_code Loop = 0x27
seg_code Entries = 0x28
seg_code BadType = 0x29
seg_code TooLarge = 0x2a

-- The code of why a segment is not accepted.
abbrev pub check_code : CheckError → ℕ
check_code (BadSignature entry) = 0x31
check_code Expired = 0x32

-- The code of why a lookup is refused.
abbrev pub lookup_code : LookupError → ℕ
lookup_code NullDestination = 0x41
lookup_code IsdOnlyWildcard = 0x42
lookup_code NoCore = 0x43

-- The code of why a command is not accepted.
abbrev pub submit_code : SubmitError → ℕ
submit_code submit.Busy = 0x51
submit_code submit.Full = 0x52
submit_code submit.TooLarge = 0x53
submit_code submit.Stopped = 0x54
submit_code submit.Exhausted = 0x55
submit_code submit.NoMemory = memory_code
submit_code submit.OldStore = 0x57
