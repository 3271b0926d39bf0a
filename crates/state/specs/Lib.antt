pub mod Table
pub mod Sound
pub mod Capacity
pub mod Current
pub mod Answer
pub mod Change
