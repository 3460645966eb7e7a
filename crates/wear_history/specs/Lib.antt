pub mod Totals
pub mod Laws
pub mod Counted
pub mod Sum
pub mod Formula
pub mod Read
pub mod Examples
