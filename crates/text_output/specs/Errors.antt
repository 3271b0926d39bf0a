-- The answer to a line that is not understood, in ASCII codes.
use Rattle.std.specs.Prelude.{ℕ, List, [], ◌∷◌}
use Rattle.text_output.specs.declared.reason.Reason.{Reason}
use Rattle.text_output.specs.declared.reason.Reason.TheVariants.{Unknown, Missing, TooMany, NotANumber, TooLarge, NotHex, NotDigits, NoTable, TooLong, ReadFailed}
use Rattle.text_output.specs.Writing.{newline, number}

-- `unknown command`; `missing word`; `too many words`; `not a number`; `number too large`; `bad hexadecimal`; `bad digits`; `no table`;
-- `line too long`; `input cannot be read`
abbrev pub reason_text : Reason → List ℕ
reason_text Unknown = 32 ∷ 117 ∷ 110 ∷ 107 ∷ 110 ∷ 111 ∷ 119 ∷ 110 ∷ 32 ∷ 99 ∷ 111 ∷ 109 ∷ 109 ∷ 97 ∷ 110 ∷ 100 ∷ []
reason_text Missing = 32 ∷ 109 ∷ 105 ∷ 115 ∷ 115 ∷ 105 ∷ 110 ∷ 103 ∷ 32 ∷ 119 ∷ 111 ∷ 114 ∷ 100 ∷ []
reason_text TooMany = 32 ∷ 116 ∷ 111 ∷ 111 ∷ 32 ∷ 109 ∷ 97 ∷ 110 ∷ 121 ∷ 32 ∷ 119 ∷ 111 ∷ 114 ∷ 100 ∷ 115 ∷ []
reason_text NotANumber = 32 ∷ 110 ∷ 111 ∷ 116 ∷ 32 ∷ 97 ∷ 32 ∷ 110 ∷ 117 ∷ 109 ∷ 98 ∷ 101 ∷ 114 ∷ []
reason_text TooLarge = 32 ∷ 110 ∷ 117 ∷ 109 ∷ 98 ∷ 101 ∷ 114 ∷ 32 ∷ 116 ∷ 111 ∷ 111 ∷ 32 ∷ 108 ∷ 97 ∷ 114 ∷ 103 ∷ 101 ∷ []
reason_text NotHex = 32 ∷ 98 ∷ 97 ∷ 100 ∷ 32 ∷ 104 ∷ 101 ∷ 120 ∷ 97 ∷ 100 ∷ 101 ∷ 99 ∷ 105 ∷ 109 ∷ 97 ∷ 108 ∷ []
reason_text NotDigits = 32 ∷ 98 ∷ 97 ∷ 100 ∷ 32 ∷ 100 ∷ 105 ∷ 103 ∷ 105 ∷ 116 ∷ 115 ∷ []
reason_text NoTable = 32 ∷ 110 ∷ 111 ∷ 32 ∷ 116 ∷ 97 ∷ 98 ∷ 108 ∷ 101 ∷ []
reason_text TooLong = 32 ∷ 108 ∷ 105 ∷ 110 ∷ 101 ∷ 32 ∷ 116 ∷ 111 ∷ 111 ∷ 32 ∷ 108 ∷ 111 ∷ 110 ∷ 103 ∷ []
reason_text ReadFailed = 32 ∷ 105 ∷ 110 ∷ 112 ∷ 117 ∷ 116 ∷ 32 ∷ 99 ∷ 97 ∷ 110 ∷ 110 ∷ 111 ∷ 116 ∷ 32 ∷ 98 ∷ 101 ∷ 32 ∷ 114 ∷ 101 ∷ 97 ∷ 100 ∷ []

-- `error`, the line's number and the reason
abbrev pub error_line : ℕ → Reason → List (List ℕ)
error_line line reason = (101 ∷ 114 ∷ 114 ∷ 111 ∷ 114 ∷ []) ∷ number line ∷ reason_text reason ∷ newline ∷ []
