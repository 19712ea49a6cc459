pub mod Surface
pub mod Record
