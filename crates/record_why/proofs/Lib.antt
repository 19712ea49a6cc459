pub mod Laws
pub mod First
pub mod Within
pub mod Branch
pub mod Back
