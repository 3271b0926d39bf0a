-- `script::calls::call` meets its contract. Assumes nothing.
use mathlib.Core.Path.{◌≡◌, sym, ◌∙◌}
use mathlib.Core.Bool.{false}
use mathlib.Core.List.{[], ◌∷◌}
use Rattle.script_lines.specs.Lines.{one_of}
use Rattle.script_answers.specs.Done.{Done, Called, called_of}
use Rattle.script.specs.Calls.{call}
use Rattle.script.proofs.calls.call.Goals as goal

pub returns-then-one_of : goal.returns-then-one_of
unfolding call
returns-then-one_of c =
    let kept : Done → Called = λ d. called_of d c.args.buffer.now in
    rw (sym c.one_of.ensures ∙ c.if-one_of.true) (λ i. kept (c.command.ensures i))

pub returns-then-one_of-2 : goal.returns-then-one_of-2
unfolding call
returns-then-one_of-2 c =
    let no-command : one_of c.args.read.letter (65 ∷ 66 ∷ 83 ∷ 82 ∷ 88 ∷ 67 ∷ []) ≡ false = sym c.one_of.ensures ∙ c.if-one_of.false in
    rw (no-command, sym c.one_of-2.ensures ∙ c.if-one_of-2.true) c.query.ensures

pub returns-then-one_of-3 : goal.returns-then-one_of-3
unfolding call
returns-then-one_of-3 c =
    let kept : Done → Called = λ d. called_of d c.args.buffer.now in
    let no-command : one_of c.args.read.letter (65 ∷ 66 ∷ 83 ∷ 82 ∷ 88 ∷ 67 ∷ []) ≡ false = sym c.one_of.ensures ∙ c.if-one_of.false in
    let no_read : one_of c.args.read.letter (86 ∷ 76 ∷ 77 ∷ 73 ∷ []) ≡ false = sym c.one_of-2.ensures ∙ c.if-one_of-2.false in
    rw (no-command, no_read, sym c.one_of-3.ensures ∙ c.if-one_of-3.true) (λ i. kept (c.host_write.ensures i))

pub returns-then-one_of-4 : goal.returns-then-one_of-4
unfolding call
returns-then-one_of-4 c =
    let no-command : one_of c.args.read.letter (65 ∷ 66 ∷ 83 ∷ 82 ∷ 88 ∷ 67 ∷ []) ≡ false = sym c.one_of.ensures ∙ c.if-one_of.false in
    let no_read : one_of c.args.read.letter (86 ∷ 76 ∷ 77 ∷ 73 ∷ []) ≡ false = sym c.one_of-2.ensures ∙ c.if-one_of-2.false in
    let no_write : one_of c.args.read.letter (75 ∷ 101 ∷ 114 ∷ []) ≡ false = sym c.one_of-3.ensures ∙ c.if-one_of-3.false in
    rw (no-command, no_read, no_write, sym c.one_of-4.ensures ∙ c.if-one_of-4.true) c.image.ensures

pub returns : goal.returns
unfolding call
returns c =
    let kept : Done → Called = λ d. called_of d c.args.buffer.now in
    let no-command : one_of c.args.read.letter (65 ∷ 66 ∷ 83 ∷ 82 ∷ 88 ∷ 67 ∷ []) ≡ false = sym c.one_of.ensures ∙ c.if-one_of.false in
    let no_read : one_of c.args.read.letter (86 ∷ 76 ∷ 77 ∷ 73 ∷ []) ≡ false = sym c.one_of-2.ensures ∙ c.if-one_of-2.false in
    let no_write : one_of c.args.read.letter (75 ∷ 101 ∷ 114 ∷ []) ≡ false = sym c.one_of-3.ensures ∙ c.if-one_of-3.false in
    rw (no-command, no_read, no_write, sym c.one_of-4.ensures ∙ c.if-one_of-4.false)
    (λ i. kept (c.event.ensures i))
