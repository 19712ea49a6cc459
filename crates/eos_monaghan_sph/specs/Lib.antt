pub mod Pressure
pub mod Stress
pub mod Timestep
