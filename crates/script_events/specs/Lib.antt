-- `Events` has what an event asks of the table, and `Writes` what a raw write of the host leaves.
pub mod Events
pub mod Writes
