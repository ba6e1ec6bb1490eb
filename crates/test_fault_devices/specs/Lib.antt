pub mod FuseDevice
pub mod FaultDevice
pub mod HeldDevice
pub mod MemFile
pub mod CachedFile
