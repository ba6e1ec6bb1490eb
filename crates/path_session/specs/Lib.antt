pub mod Refused
pub mod Serving
pub mod Answered
pub mod Taking
pub mod UnderWay
pub mod Kept
pub mod Acknowledged
pub mod Sending
