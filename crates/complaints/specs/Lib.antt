pub mod Complaint
pub mod Examples
