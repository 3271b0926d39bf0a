-- `script_lines::reader::one_of` meets its contract. Assumes nothing.
use mathlib.Core.Path.{◌∙◌}
use Rattle.script_lines.proofs.Letters.{is_any}
use Rattle.script_lines.proofs.reader.one_of.Goals as goal

pub returns : goal.returns
returns c =
    c.contains.ensures.value ∙ is_any c.args.letter c.args.letters.now
