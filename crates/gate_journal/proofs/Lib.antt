mod Found
mod Payloads
mod Pieces
mod Ends
mod Needed
