pub mod ReadJson
