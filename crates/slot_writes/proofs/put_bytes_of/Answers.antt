-- `slot_writes::put_bytes_of` meets its contract. Assumes nothing.
use Rattle.std.proofs.Common.{List, ℕ, sym, ap, ◌+◌, ◌*◌, ◌∙◌, arith}
use Rattle.words.specs.Constants.{stride}
use Rattle.slots.specs.Slots.{length_at, overlay}
use Rattle.slots.proofs.Laws.{copied_within, length_then_lem}
use Rattle.slot_writes.proofs.put_bytes_of.Goals as goal

pub returns : goal.returns
returns c =
    let a = c.args in
    let f = a.fields.now in
    let n = length_at f a.from in
    c.copy_within.ensures.after
    ∙ copied_within f (a.from * stride) _ (a.to * stride) (n + 1) (omega arith) (omega arith)
    ∙ ap (λ (new : List ℕ). overlay (a.to * stride) new f) (sym (length_then_lem f a.from (omega arith) (omega arith)))
