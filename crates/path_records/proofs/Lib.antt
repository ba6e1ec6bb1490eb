mod Outlined
mod RowsRead
mod Writable
mod Refused
mod RefusedCommands
mod Records
mod Spelled
mod ReadBack
pub mod RowsBack
mod RowPieces
mod RowRuns
mod LongRows
mod CursorSteps
mod CursorEnds
pub mod Exports
