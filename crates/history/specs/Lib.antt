pub mod Wire
pub mod Transfers
pub mod Bytes
pub mod History
pub mod Rows
pub mod Run
pub mod Examples
pub mod Lists
