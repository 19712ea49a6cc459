pub mod RoundTrip
pub mod Section3
