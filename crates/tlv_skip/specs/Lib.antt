-- `Containers` has how the members of a container are taken up to its end, and `Skipping` how an element is skipped to a depth.
pub mod Containers
pub mod Skipping
