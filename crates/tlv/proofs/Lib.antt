-- `Numbers` has the laws of numbers in bytes, `Heads` those of the element at a position, `Passes` those of passing over it,
-- `Says` the laws of what an element says, `Walks` those of walking a container, `Codes` those of what is written, and `Trips` that what is
-- written is read back. `Worked` has the theorem that every row of the worked encodings holds.
pub mod Numbers
pub mod Heads
pub mod Passes
pub mod Says
pub mod Walks
pub mod Codes
pub mod Trips
pub mod Worked
