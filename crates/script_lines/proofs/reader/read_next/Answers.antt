-- `script_lines::reader::read_next` meets its contract. Assumes nothing.
use Rattle.text_input.proofs.Reading.{word_end}
use Rattle.script_lines.proofs.reader.read_next.Goals as goal

pub slice_bounds-read_word-end : goal.slice_bounds-read_word-end
slice_bounds-read_word-end c =
    word_end _ _ _ c.next_word-span.ensures c.requires
