-- Vocabulary that no statement needs: `Lists` (how a list changes), `Lookups` (how an entry or a record is found), `Changes` (a table's view
-- as one record, and what each change does to it).
-- Views: `Counts` has the laws of the lists under tests, `Firsts` those at a position where a test holds first or nowhere, `Positions`
-- those of the lists by their elements. `Views` says what is read of a table, `Sound` what a sound table has, `Entries` and `Records`
-- what each change leaves of the views, and that the table stays sound.
-- Calls: `Effects` and `Laws` say what each call does, over views; `Acts` and its kin prove it of the definitions, with
-- `Losses`; `Calls` has all of it.
-- The equivalence: `Invariant` and `Simulation` are about views alone, with `Bits`, `Choices`, `Places`, `Order` and `CopyViews`; `Passed` has
-- requests that are let through. `Respond` and `RespondCopy` say that commands keep both, `Probes` what tells two views apart. `Reach`, `Forward`,
-- `Backward` and, for lists whose memberships are inputs, `Asked` bring this to tables, and `Theorem` has the theorems.
-- What follows: `Readings`, in share mode `ShareReadings` and of a store's count `CountReadings` have counterexamples to nearby readings, `Removal`
-- what a fabric's removal leaves, `Numbers` the numbers that each call can answer, `Unsound` what a table that is not sound is answered, `Refusals`
-- that a refusal is its number alone and that 11 is decided by the inputs alone, `Midway` what a copy that ran out leaves, `Modes` that no call
-- changes the modes, `Share` what the share mode promises, `FieldBytes` whose fields an answered position has, `Buffers` what a scene list buffer
-- counts for, `Owned` that a sound table stays sound through a host's calls, `Brought` which scenes a command can bring.
pub mod Lists
pub mod Lookups
pub mod Changes
pub mod Counts
pub mod Firsts
pub mod Positions
pub mod Views
pub mod Sound
pub mod Effects
pub mod Entries
pub mod Records
pub mod Laws
pub mod Losses
pub mod Acts
pub mod ActsCommands
pub mod ActsReads
pub mod ActsCopy
pub mod ActsLifecycle
pub mod Loaded
pub mod ActsLoad
pub mod Calls
pub mod Choices
pub mod Bits
pub mod Places
pub mod Invariant
pub mod Simulation
pub mod Order
pub mod CopyViews
pub mod Passed
pub mod Respond
pub mod RespondCopy
pub mod Probes
pub mod Reach
pub mod Forward
pub mod Backward
pub mod Asked
pub mod Theorem
pub mod Numbers
pub mod Unsound
pub mod Refusals
pub mod Modes
pub mod Share
pub mod Midway
pub mod Readings
pub mod ShareReadings
pub mod CountReadings
pub mod Removal
pub mod FieldBytes
pub mod Buffers
pub mod Owned
pub mod Brought
