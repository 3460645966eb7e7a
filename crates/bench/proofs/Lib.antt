pub mod Leads
pub mod Items
pub mod Tells
pub mod Runs
