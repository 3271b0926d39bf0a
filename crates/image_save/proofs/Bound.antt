-- An image of a sound table of N places has at most 171 N + 8 bytes, and a buffer of as many is never answered 8. Assumes nothing.
use Prim.Native.Nat.{ℕ, ◌^◌, ◌≤◌, ◌<◌}
use mathlib.Core.Path.{◌≡◌}
use mathlib.Core.Bool.{true}
use native.Mathlib.Omega.{arith}
use lib.ListN.{length, get_or}
use borrow.Author.Tests.{ltb-true}
use Rattle.words.proofs.Tests.{and_left, all_head, all_tail}
use Rattle.slots.specs.Slots.{entry_at}
use Rattle.slots.proofs.View.{keys_at, lengths_at}
use Rattle.state.specs.Table.{Table}
use Rattle.state.specs.Sound.{sound}
use Rattle.state.proofs.Laws.{sound_bounds}
use Rattle.image_writer.specs.Image.{entry_bytes, image_length_max}
use Rattle.image_writer.proofs.Lengths.{fields-length, entry_most, image_most}
use Rattle.image_save.specs.Saving.{image_of, TimesFit, ImageBound}
use Rattle.image_save.proofs.Laws.{image_of_lem, sound-lengths, save-success}

module _ (t : Table) (s : sound t ≡ true) (times : TimesFit t) where
  key_under : (i : ℕ) → i < t.state.entries → get_or t.slots.keys i 0 < 2 ^ 48
  unfolding sound
  key_under i h = ltb-true _ _ (and_left _ _ (keys_at t.slots.keys t.state.entries i (all_head _ _ (all_tail _ _ s)) h))

  entry-short : (i : ℕ) → i < t.state.entries → length (entry_bytes (entry_at t.slots i)) ≤ 153
  entry-short i h =
      let b = sound_bounds t s in
      let l = lengths_at t.slots.fields t.state.entries i (sound-lengths t s) h in
      let f = fields-length t.slots.fields i (omega (arith, b.entries, b.fields)) l in
      entry_most (entry_at t.slots i) (key_under i h) (times i h) (omega (arith, l, f))

  image-short : length (image_of t) ≤ image_length_max t.state.size
  image-short =
      let b = sound_bounds t s in
      rw (← image_of_lem t)
      (image_most t.slots t.records t.state.entries t.state.recorded t.state.size b.entries b.recorded
      (omega (arith, b.recorded, b.records)) entry-short)

pub image_bound : ImageBound
image_bound t s times = (image-short t s times, λ buffer h. save-success buffer t s (omega (arith, image-short t s times)))
