pub mod OnLiterals
pub mod ReportForm
pub mod Built
pub mod Short
pub mod Keys
