-- The numbers of the calls of a device.
use Rattle.std.specs.Prelude.{ℕ}
use Rattle.store_loops.specs.declared.calls.DeviceCall.{DeviceCall}
use Rattle.store_loops.specs.declared.calls.DeviceCall.TheVariants.{WriteGroup, SyncGroup, OpenGate, SyncGate, Begin, WriteChunk, SyncChunks, OpenHalf, SyncHalf, CloseHalf, SyncClose, WriteFollowing, SyncFollowed}

-- The number of a call, in the order of the lines.
abbrev pub call_number : DeviceCall → ℕ
call_number WriteGroup = 1
call_number SyncGroup = 2
call_number OpenGate = 3
call_number SyncGate = 4
call_number Begin = 5
call_number WriteChunk = 6
call_number SyncChunks = 7
call_number OpenHalf = 8
call_number SyncHalf = 9
call_number CloseHalf = 10
call_number SyncClose = 11
call_number WriteFollowing = 12
call_number SyncFollowed = 13
