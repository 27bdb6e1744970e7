pub mod ReportForm
pub mod ReportJson
pub mod ProgramsJson
pub mod Answer
