-- `Laws` has the laws of what is read and written, and `View` what each change leaves of the entry at a position.
pub mod Laws
pub mod View
