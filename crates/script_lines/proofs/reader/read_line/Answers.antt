-- `script_lines::reader::read_line` meets its contract. Assumes nothing.
use mathlib.Core.Path.{sym, ap, ◌∙◌}
use lib.ListN.{drop}
use Rattle.std.proofs.lemmas.Result.{err_from_is_err_and}
use Rattle.std.specs.Prelude.{Result}
use Rattle.text_output.specs.declared.reason.Reason.{Reason}
use Rattle.script_lines.specs.declared.reader.Line.{Line}
use Rattle.script_lines.specs.Lines.{words_said}
use Rattle.script_lines.proofs.LineLaws.{left-blank, left_comment, left-long, left_unknown, left_letter, says-blank, says_comment, says_unknown, says_letter, letter_known, letter_unknown}
use Rattle.script_lines.proofs.reader.read_line.Goals as goal

pub returns-then-line-from : goal.returns-then-line-from
returns-then-line-from c =
    record {
      says = says-blank _ _ _ c.next_word-span.ensures c.if-line-from.true;
      line = left-blank _ _ _ c.next_word-span.ensures c.if-line-from.true;
    }

pub returns-then-letter-eq35 : goal.returns-then-letter-eq35
returns-then-letter-eq35 c =
    record {
      says = says_comment _ _ _ c.next_word-span.ensures c.if-line-from.false c.if-letter-eq35.true;
      line = left_comment _ _ _ c.next_word-span.ensures c.if-letter-eq35.true;
    }

pub returns-then-from-to : goal.returns-then-from-to
returns-then-from-to c =
    record {
      says = says_unknown _ _ _ c.next_word-span.ensures c.if-line-from.false c.if-letter-eq35.false c.if-from-to.true;
      line = left-long _ _ _ c.next_word-span.ensures c.if-from-to.true;
    }

pub returns-then-is_known : goal.returns-then-is_known
returns-then-is_known c =
    record {
      says = ap (λ (r : Result Line Reason). words_said r c.read_words.new.line) (sym c.in_ok-read_words.was)
          ∙ c.read_words.ensures.says
          ∙ letter_known _ _ _ (sym c.is_known.ensures ∙ c.if-is_known.true)
          ∙ says_letter _ _ _ c.next_word-span.ensures c.if-line-from.false c.if-letter-eq35.false c.if-from-to.false;
      line = c.read_words.ensures.line
          ∙ left_letter _ _ _ c.next_word-span.ensures c.if-from-to.false (sym c.is_known.ensures ∙ c.if-is_known.true);
    }

pub returns-in_err-read_words : goal.returns-in_err-read_words
returns-in_err-read_words c =
    record {
      says =
          let e = err_from_is_err_and c.from_residual.result c.from_residual.ensures.1 in
          rw (e.1, e.2)
          (ap (λ (r : Result Line Reason). words_said r c.read_words.new.line) (sym c.in_err-read_words.was)
          ∙ c.read_words.ensures.says
          ∙ letter_known _ _ _ (sym c.is_known.ensures ∙ c.if-is_known.true)
          ∙ says_letter _ _ _ c.next_word-span.ensures c.if-line-from.false c.if-letter-eq35.false c.if-from-to.false);
      line = c.read_words.ensures.line
          ∙ left_letter _ _ _ c.next_word-span.ensures c.if-from-to.false (sym c.is_known.ensures ∙ c.if-is_known.true);
    }

pub returns : goal.returns
returns c =
    let a = c.args in
    record {
      says =
          letter_unknown a.trace _ (drop c.next_word-span.result.to a.line.now) (sym c.is_known.ensures ∙ c.if-is_known.false)
          ∙ says_letter _ _ _ c.next_word-span.ensures c.if-line-from.false c.if-letter-eq35.false c.if-from-to.false;
      line = left_unknown _ _ _ c.next_word-span.ensures (sym c.is_known.ensures ∙ c.if-is_known.false);
    }
