pub mod Figures
pub mod Commands
pub mod Guards
pub mod FigureLaws
pub mod SheetLaws
