pub mod Characters
pub mod Words
pub mod Says
pub mod SaysLaws
