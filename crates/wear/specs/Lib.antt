pub mod Count
pub mod Promises
pub mod Run
pub mod Examples
