-- The remaining capacity of a fabric, and whether a new scene of it finds a place: document 01, "Capacity" and "Upsert", with the cap of
-- document 02, Q-4, and its share mode, Q-5.
use Rattle.std.specs.Prelude.{◌≡◌, ℕ, ◌-◌, ◌/◌, ◌%◌, ◌≤◌, min, Bool, true, false, cond, not, ◌↔◌, List, ◌==◌, nat_lt, Option, Some, None}
use Rattle.words.specs.Constants.{max_shown, max_remaining}
use Rattle.words.specs.Words.{fabric_keys}
use Rattle.slots.specs.Slots.{count_keys}
use Rattle.state.specs.declared.ScenesState.{ScenesState}

-- the fabric's entries, on all endpoints
abbrev pub used : ScenesState → List ℕ → ℕ → ℕ
used s keys fabric = count_keys keys s.entries (fabric_keys fabric)

-- min(sat(sat(N − 1) / 2 − used), N − entries), not yet cut. This minus stops at 0
unfoldable pub room_for : ScenesState → List ℕ → ℕ → ℕ
room_for s keys fabric = min ((s.size - 1) / 2 - used s keys fabric) (s.size - s.entries)

-- the remaining capacity, as membership and info report it. Copy asks only whether it is 0, and looks at the room for that
unfoldable pub remaining : ScenesState → List ℕ → ℕ → ℕ
remaining s keys fabric = min (room_for s keys fabric) max_remaining

-- the share mode: bit 0 of the modes. The other bits mean nothing
abbrev pub share_mode : ScenesState → Bool
share_mode s = s.modes % 2 == 1

-- how many new scenes a fabric may still add: all free places; in share mode no more than its room, which is not cut
unfoldable pub places_for : ScenesState → List ℕ → ℕ → ℕ
places_for s keys fabric = cond (share_mode s) (room_for s keys fabric) (s.size - s.entries)

-- whether one more entry of a fabric fits
abbrev pub may_append : ScenesState → List ℕ → ℕ → Bool
may_append s keys fabric = nat_lt 0 (places_for s keys fabric)

-- where a scene is written, if anywhere: where its key was found, or else behind the last entry, if one more fits
unfoldable pub place_for : ScenesState → List ℕ → ℕ → Option ℕ → Option ℕ
place_for s keys fabric (Some p) = Some p
place_for s keys fabric None = cond (may_append s keys fabric) (Some s.entries) None

-- ---- the theorem of Q-4: what the smaller cap changes

-- the remaining capacity by document 01, and by the Rust: cut to what a byte can say
abbrev pub byte_remaining : ScenesState → List ℕ → ℕ → ℕ
byte_remaining s keys fabric = min (room_for s keys fabric) max_shown

-- In every table `remaining` is the smaller of 253 and `byte_remaining`, and 0 exactly where the room is 0. Up to N 508 the two are one, and
-- in an empty table of 509 places they are not
pub record ByCap : Type 0 where
  pub smaller : (s : ScenesState) (keys : List ℕ) (fabric : ℕ) → remaining s keys fabric ≡ min max_remaining (byte_remaining s keys fabric)
  pub up_to_508 : (s : ScenesState) (keys : List ℕ) (fabric : ℕ) → s.size ≤ 508 → remaining s keys fabric ≡ byte_remaining s keys fabric
  pub at_509 : (s : ScenesState) (keys : List ℕ) (fabric : ℕ) → s.size ≡ 509 → s.entries ≡ 0
      → (remaining s keys fabric ≡ 253) × (byte_remaining s keys fabric ≡ 254)
  pub none_left : (s : ScenesState) (keys : List ℕ) (fabric : ℕ) → remaining s keys fabric ≡ 0 ↔ room_for s keys fabric ≡ 0

-- ---- the theorem of Q-5: what the share mode changes

-- Without the mode a new scene needs a free place and nothing else, as by document 01 and by the Rust. In it the remaining capacity must not
-- be 0, for which no cap counts: an empty table of 1,024 places has 511 of them for a fabric. In either mode a place is free
pub record ByShare : Type 0 where
  pub without : (s : ScenesState) (keys : List ℕ) (fabric : ℕ) → share_mode s ≡ false → may_append s keys fabric ≡ nat_lt s.entries s.size
  pub within : (s : ScenesState) (keys : List ℕ) (fabric : ℕ) → share_mode s ≡ true → may_append s keys fabric ≡ not (remaining s keys fabric == 0)
  pub uncut : (s : ScenesState) (keys : List ℕ) (fabric : ℕ) → share_mode s ≡ true → s.size ≡ 1024 → s.entries ≡ 0 → places_for s keys fabric ≡ 511
  pub free : (s : ScenesState) (keys : List ℕ) (fabric : ℕ) → places_for s keys fabric ≤ s.size - s.entries
