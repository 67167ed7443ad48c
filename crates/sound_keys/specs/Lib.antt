pub mod Judged
pub mod Leads
