pub mod ReadReports
