pub mod Forms
pub mod Adjust
pub mod Probes
