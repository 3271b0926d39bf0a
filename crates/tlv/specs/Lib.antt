-- `Types` has the names of element types and tag controls, `Elements` what stands at a position: an element's control octet, tag, length and
-- value. `Passing` has how an element is passed over with whatever it holds, `Values` what an element says, `Members` how a container is
-- walked, `Encoding` what is written, and `Worked` the worked encodings of the appendix.
pub mod Types
pub mod Elements
pub mod Passing
pub mod Values
pub mod Members
pub mod Encoding
pub mod Worked
