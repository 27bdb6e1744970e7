mod Counted
mod Lines
mod Numbers
mod Searchable
mod Small
mod Tried
mod Verified
