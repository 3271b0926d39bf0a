-- `Laws` has the laws of `specs/Records.antt` that the functions' proofs cite, among them the three cases of `remember`, and `View`
-- what each change leaves of the record words that count, for callers.
pub mod Laws
pub mod View
