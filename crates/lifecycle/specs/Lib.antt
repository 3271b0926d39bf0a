pub mod Lifecycle
