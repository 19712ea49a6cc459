pub mod DruckerPrager
pub mod Project
