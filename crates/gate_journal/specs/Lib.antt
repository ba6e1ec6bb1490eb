pub mod Commands
pub mod AllowedCommands
pub mod Payload
pub mod RecordError
pub mod Reading
pub mod ScannerView
pub mod Scanning
pub mod ErrorNumber
