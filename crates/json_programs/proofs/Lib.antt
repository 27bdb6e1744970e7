pub mod Built
