pub mod TableLaws
pub mod DivisionLaws
pub mod CheckLaws
