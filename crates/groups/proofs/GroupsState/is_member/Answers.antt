-- `GroupsState::is_member` meets its contract: `any` says whether one of the words is the wanted one. Assumes nothing.
use Rattle.std.proofs.Common.{ℕ, Bool, not, ◌&&◌, eqb, refl, ap, ◌∙◌}
use Rattle.std.specs.List.{list_any}
use Rattle.std.proofs.lemmas.List.{take_all}
use Rattle.words.proofs.Below.{any_list}
use Rattle.groups.specs.Groups.{is_member}
use Rattle.groups.proofs.GroupsState.is_member.Goals as goal

pub returns : goal.returns
unfolding is_member
returns c =
    let a = c.args in
    let test : ℕ → Bool = λ word. eqb word c.word-wanted.result in
    ap (λ (b : Bool). not (eqb a.key.group 0) && b)
    (c.loop-word.invariant ∙ ap (list_any test) (take_all _ _ c.loop-word-test.false) ∙ any_list test a.words.now a.self.held c.requires ∙ rw c.word-wanted.ensures refl)
