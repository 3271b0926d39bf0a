-- `field_pairs::put_pairs` meets its contract. Assumes nothing.
use Prim.Native.Nat.{ℕ}
use mathlib.Core.Path.{refl, sym, ap, subst, ◌∙◌}
use mathlib.Core.List.{List}
use mathlib.Core.Logic.{inl, inr}
use Rattle.text_output.specs.Writing.{sheet, puts}
use Rattle.field_sets.specs.declared.reader.Cursor.{Cursor}
use Rattle.field_pairs.proofs.Rest.{rest_of, Readable, ToCluster, ToAttribute, to_cluster, to_attribute, to_end, to_refusal}
use Rattle.field_pairs.proofs.Rest.{readable-start, rest_start, same-room, put_step, put_same, put-nothing}
use Rattle.field_pairs.proofs.put_pairs.Goals as goal

pub loop-c-init : goal.loop-c-init
loop-c-init c = (
  subst (Readable c.args.bytes.now) (sym c.start-cursor.ensures) (readable-start c.args.bytes.now c.requires),
  refl,
  ap (λ (x : Cursor). puts (rest_of c.args.bytes.now 0 x) (sheet c.args.out.now 0)) c.start-cursor.ensures ∙ ap (λ (xs : List ℕ). puts xs (sheet c.args.out.now 0)) (rest_start c.args.bytes.now 0),
)

pub loop-c-smaller-in-Cluster : goal.loop-c-smaller-in-Cluster
loop-c-smaller-in-Cluster c =
    let bytes : List ℕ = c.args.bytes.now in
    let at_cluster_lem : ToCluster bytes c.loop-c.cluster c.loop-c.cursor c.in-Cluster.c c.in-Cluster.next = to_cluster _ _ _ c.loop-c.invariant.0 _ _ (sym c.next.ensures ∙ c.in-Cluster.is) in
    at_cluster_lem.less

pub loop-c-preserved-in-Cluster : goal.loop-c-preserved-in-Cluster
loop-c-preserved-in-Cluster c =
    let bytes : List ℕ = c.args.bytes.now in
    let at_cluster_lem : ToCluster bytes c.loop-c.cluster c.loop-c.cursor c.in-Cluster.c c.in-Cluster.next = to_cluster _ _ _ c.loop-c.invariant.0 _ _ (sym c.next.ensures ∙ c.in-Cluster.is) in
    let t = at_cluster_lem in
    (t.readable, c.loop-c.invariant.1, put_same _ _ _ (sym t.rest) ∙ c.loop-c.invariant.2)

pub loop-c-smaller : goal.loop-c-smaller
loop-c-smaller c =
    let bytes : List ℕ = c.args.bytes.now in
    let at_attribute_lem : ToAttribute bytes c.loop-c.cluster c.loop-c.cursor c.in-Attribute.a c.in-Attribute.next = to_attribute _ _ _ c.loop-c.invariant.0 _ _ (sym c.next.ensures ∙ c.in-Attribute.is) in
    at_attribute_lem.less

pub loop-c-preserved : goal.loop-c-preserved
loop-c-preserved c =
    let bytes : List ℕ = c.args.bytes.now in
    let at_attribute_lem : ToAttribute bytes c.loop-c.cluster c.loop-c.cursor c.in-Attribute.a c.in-Attribute.next = to_attribute _ _ _ c.loop-c.invariant.0 _ _ (sym c.next.ensures ∙ c.in-Attribute.is) in
    let t = at_attribute_lem in (
      t.readable,
      same-room _ _ _ c.put_word-n.ensures ∙ c.loop-c.invariant.1,
      put_step _ _ _ _ c.pair_word.ensures c.put_word-n.ensures _ ∙ put_same _ _ _ (sym t.rest) ∙ c.loop-c.invariant.2,
    )

-- what can be read is not refused
pub returns-in-Done : goal.returns-in-Done
returns-in-Done c =
    elim c.in-Done.is [
      | inl done ↦ put-nothing _ _ (to_end _ _ _ c.loop-c.invariant.0 (sym c.next.ensures ∙ done)) ∙ c.loop-c.invariant.2
      | inr refused ↦ to_refusal _ c.loop-c.cluster _ c.loop-c.invariant.0 (sym c.next.ensures ∙ refused)
    ]
