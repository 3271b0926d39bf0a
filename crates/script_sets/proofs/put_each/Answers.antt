-- `script_sets::put_each` meets its contract: what is still to be written makes one sheet of another, step by step. Assumes nothing.
use Prim.Native.Nat.{ℕ}
use mathlib.Core.Path.{◌≡◌, refl, sym, subst, ◌∙◌}
use mathlib.Core.List.{List, []}
use mathlib.Core.Logic.{inl, inr}
use Rattle.std.proofs.Common.{unwrap_or}
use Rattle.text_output.specs.Writing.{Sheet, sheet, puts}
use Rattle.field_sets.specs.declared.reader.Cursor.{Cursor}
use Rattle.field_sets.specs.Reader.{sets_in, next_item}
use Rattle.script_sets.specs.Texts.{each_text}
use Rattle.script_sets.proofs.Showing.{Ahead, begins, shows_cluster, shows_attribute, shows_end, shows_no_refusal, nearer_cluster, nearer_attribute}
use Rattle.script_sets.proofs.put_each.Goals as goal

pub loop-next-init : goal.loop-next-init
loop-next-init c =
    let a = c.args in
    let all : Sheet = puts (each_text (unwrap_or (sets_in a.bytes.now) [])) (sheet a.out.now a.at) in
    let from : Sheet = sheet a.out.now a.at in
    (refl, subst (λ (k : Cursor). Ahead a.bytes.now k from all) (sym c.start-cursor.ensures) (begins a.bytes.now c.requires from))

pub loop-next-smaller-in-Cluster : goal.loop-next-smaller-in-Cluster
loop-next-smaller-in-Cluster c =
    let bytes : List ℕ = c.args.bytes.now in
    let yields : next_item bytes c.loop-next.cursor ≡ c.next.result = sym c.next.ensures in
    nearer_cluster bytes c.loop-next.cursor _ _ c.loop-next.invariant.1 _ _ (yields ∙ c.in-Cluster.is)

pub loop-next-preserved-in-Cluster : goal.loop-next-preserved-in-Cluster
loop-next-preserved-in-Cluster c =
    let bytes : List ℕ = c.args.bytes.now in
    let yields : next_item bytes c.loop-next.cursor ≡ c.next.result = sym c.next.ensures in (
      c.put_cluster-next.auto.out ∙ c.loop-next.invariant.0,
      shows_cluster bytes c.loop-next.cursor _ _ c.loop-next.invariant.1 _ _ _ (yields ∙ c.in-Cluster.is) c.put_cluster-next.ensures,
    )

pub loop-next-smaller : goal.loop-next-smaller
loop-next-smaller c =
    let bytes : List ℕ = c.args.bytes.now in
    let yields : next_item bytes c.loop-next.cursor ≡ c.next.result = sym c.next.ensures in
    nearer_attribute bytes c.loop-next.cursor _ _ c.loop-next.invariant.1 _ _ (yields ∙ c.in-Attribute.is)

pub loop-next-preserved : goal.loop-next-preserved
loop-next-preserved c =
    let bytes : List ℕ = c.args.bytes.now in
    let yields : next_item bytes c.loop-next.cursor ≡ c.next.result = sym c.next.ensures in (
      c.put_attribute-next.auto.out ∙ c.loop-next.invariant.0,
      shows_attribute bytes c.loop-next.cursor _ _ c.loop-next.invariant.1 _ _ _ (yields ∙ c.in-Attribute.is) c.put_attribute-next.ensures,
    )

-- what can be read is not refused
pub returns-in-Done : goal.returns-in-Done
returns-in-Done c =
    let bytes : List ℕ = c.args.bytes.now in
    let yields : next_item bytes c.loop-next.cursor ≡ c.next.result = sym c.next.ensures in
    elim c.in-Done.is [
      | inl done ↦ shows_end bytes c.loop-next.cursor _ _ c.loop-next.invariant.1 (yields ∙ done)
      | inr refused ↦ shows_no_refusal bytes c.loop-next.cursor _ _ c.loop-next.invariant.1 (yields ∙ refused)
    ]
