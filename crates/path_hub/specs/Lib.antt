pub mod HubLeftView
pub mod Judging
pub mod Sending
