pub mod Computed
mod Examples
