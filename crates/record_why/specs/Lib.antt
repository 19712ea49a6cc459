pub mod Why
pub mod Words
pub mod Branch
