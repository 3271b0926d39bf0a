-- The laws that take what a read of the table ensures to the definition of its letter. Assumes nothing.
use Prim.Native.Nat.{ℕ}
use mathlib.Core.Path.{◌≡◌, refl, ap, ◌∙◌}
use mathlib.Core.Bool.{Bool, true, false, cond}
use mathlib.Core.List.{List}
use lib.Dec.{eqb, ltb}
use lib.ListN.{length}
use Rattle.words.specs.Constants.{success}
use Rattle.std.specs.Prelude.{Option, Some, None}
use Rattle.words.specs.declared.SceneKey.{SceneKey}
use Rattle.words.specs.declared.GroupKey.{GroupKey}
use Rattle.requests.specs.declared.Membership.{Membership}
use Rattle.state.specs.declared.ScenesState.{ScenesState}
use Rattle.state.specs.declared.Outcome.{Outcome}
use Rattle.reads.specs.Reads.{Transition}
use Rattle.std.specs.Prelude.{None}
use Rattle.reads.specs.declared.SceneRead.{SceneRead}
use Rattle.reads.specs.declared.ListRead.{ListRead}
use Rattle.reads.specs.declared.InfoRead.{InfoRead}
use Rattle.state.specs.Table.{Table, table_of}
use Rattle.state.specs.Change.{find_scene}
use Rattle.state.specs.Answer.{Result, result_of, guarded}
use Rattle.reads.specs.Reads.{read_at, view_scene, Listed, listed_of, list_ids, get_scene_membership, info_row, read_fabric_scene_info}
use Rattle.script_answers.specs.declared.Tail.{Tail}
use Rattle.script_answers.specs.Done.{done_of, read_of, called_of}
use Rattle.script_reads.specs.Reads.{scene_tail, viewed, recalled, info_tail, informed, list_tail, listed}

-- ---- a read leaves the head as it was

pub cond_at : {A B : Type 0} (g : A → B) (s : B) (b : Bool) (x y : A) → g x ≡ s → g y ≡ s → g (cond b x y) ≡ s
cond_at g s true x y p q = p
cond_at g s false x y p q = q

guarded_at : {A : Type 0} (g : A → ScenesState) (s : ScenesState) (refuse : ℕ → A) (n : ℕ) (o : A)
    → ((k : ℕ) → g (refuse k) ≡ s) → g o ≡ s → g (guarded refuse n o) ≡ s
unfolding guarded
guarded_at g s refuse n o p q = cond_at g s (eqb n success) o (refuse n) q (p n)

read-state : (t : Table) (o : Transition) (x : Option ℕ) → (read_at x o t).state ≡ t.state
unfolding read_at
read-state t o (Some p) = refl
read-state t o None = refl

pub view-state : (key : SceneKey) (m : Membership) (t : Table) → (view_scene key m t).state ≡ t.state
unfolding view_scene
view-state key m t = guarded_at (λ (r : SceneRead). r.state) t.state _ _ _ (λ k. refl) (read-state t None (find_scene key t))

buffer-state : (l : List ℕ) (n : ℕ) (buffer : List ℕ) (t : Table) → (list_ids l n buffer t).read.state ≡ t.state
unfolding list_ids
buffer-state l n buffer t = cond_at (λ (r : Listed). r.read.state) t.state (ltb (length buffer) (length l)) _ _ refl refl

pub list-state : (key : GroupKey) (m : Membership) (buffer : List ℕ) (t : Table) → (get_scene_membership key m buffer t).read.state ≡ t.state
unfolding get_scene_membership
list-state key m buffer t = guarded_at (λ (r : Listed). r.read.state) t.state _ _ _ (λ k. refl) (buffer-state _ _ buffer t)

row-state : (x : Option ℕ) (fabric n : ℕ) (t : Table) → (info_row x fabric n t).state ≡ t.state
unfolding info_row
row-state (Some p) fabric n t = refl
row-state None fabric n t = cond_at (λ (r : InfoRead). r.state) t.state (eqb n 0) _ _ refl refl

info-state : (fabric endpoint : ℕ) (single : Bool) (t : Table) → (read_fabric_scene_info fabric endpoint single t).state ≡ t.state
unfolding read_fabric_scene_info
info-state fabric endpoint single t = guarded_at (λ (r : InfoRead). r.state) t.state _ _ _ (λ k. refl) (row-state _ fabric _ t)

-- ---- answers

module _ (k tm f w : List ℕ) where
  -- a recall's
  pub recalled-done : (o : Outcome) (tail : Tail) (found x : SceneRead) (y : Result)
      → tail ≡ scene_tail found → found ≡ x → result_of o.status o.save (table_of o.state k tm f w) ≡ y
      → done_of (record { status = o.status; save = o.save; state = o.state; tail = tail }) (table_of o.state k tm f w) ≡ recalled x y
  recalled-done o tail found x y e p q =
      let z : tail ≡ scene_tail x = e ∙ ap scene_tail p in
      λ i. record { status = (q i).status; save = (q i).save; tail = z i; table = (q i).table }

  module _ (s : ScenesState) where
    abbrev came : Table
    came = table_of s k tm f w

    read_done : {n m : ℕ} {tail rest : Tail} {after : ScenesState} → n ≡ m → tail ≡ rest → after ≡ s
        → read_of n tail (table_of after k tm f w) ≡ read_of m rest came
    read_done p q r = λ i. read_of (p i) (q i) (table_of (r i) k tm f w)

    -- a view's, an info read's and a list's
    pub viewed-done : (tail : Tail) (found x : SceneRead) → tail ≡ scene_tail found → found ≡ x → x.state ≡ s
        → read_of found.status tail (table_of found.state k tm f w) ≡ viewed x came
    viewed-done tail found x e p h =
        read_done (ap (λ (r : SceneRead). r.status) p) (e ∙ ap scene_tail p) (ap (λ (r : SceneRead). r.state) p ∙ h)

    pub informed-done : (tail : Tail) (row : InfoRead) (fabric endpoint : ℕ) (single : Bool)
        → tail ≡ info_tail row → row ≡ read_fabric_scene_info fabric endpoint single came
        → read_of row.status tail (table_of row.state k tm f w) ≡ informed (read_fabric_scene_info fabric endpoint single came) came
    informed-done tail row fabric endpoint single e p =
        read_done (ap (λ (r : InfoRead). r.status) p) (e ∙ ap info_tail p)
        (ap (λ (r : InfoRead). r.state) p ∙ info-state fabric endpoint single came)

    pub listed-done : (tail : Tail) (l : ListRead) (after : List ℕ) (x : Listed)
        → tail ≡ list_tail l → listed_of l after ≡ x → x.read.state ≡ s
        → called_of (read_of l.status tail (table_of l.state k tm f w)) after ≡ listed x came
    listed-done tail l after x e p h =
        let d = read_done (ap (λ (r : Listed). r.read.status) p) (e ∙ ap (λ (r : Listed). list_tail r.read) p)
        (ap (λ (r : Listed). r.read.state) p ∙ h) in
        λ i. called_of (d i) (p i).ids
