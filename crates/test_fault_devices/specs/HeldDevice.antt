-- A device whose syncs wait at a gate, as contracts see it.
use Rattle.test_fault_devices.specs.declared.held_device.HeldDevice.{HeldDevice}

-- The device whose calls are passed on.
abbrev pub held_device : {D G : Type 0} → HeldDevice D G → D
held_device held = held.device

-- The gate at which syncs wait.
abbrev pub held_gate : {D G : Type 0} → HeldDevice D G → G
held_gate held = held.gate
