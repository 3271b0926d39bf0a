-- `image_reader::find_places` meets its contract: what is noted so far, with what is still to come, is where the members stand. Assumes nothing.
use Prim.Native.Nat.{◌-◌}
use mathlib.Core.Path.{◌≡◌}
use lib.ListN.{length}
use Rattle.image_reader.specs.Places.{tags, places_from}
use Rattle.image_reader.proofs.Finding.{completed}
use Rattle.image_reader.proofs.find_places.Given as goal

abbrev pub invariant-loop-e : goal.invariant-loop-e
invariant-loop-e l = (length l.places ≡ tags) × (completed l.bytes l.i l.places ≡ places_from l.bytes l.from)

abbrev pub decreases-loop-e : goal.decreases-loop-e
decreases-loop-e l = length l.bytes - l.i
