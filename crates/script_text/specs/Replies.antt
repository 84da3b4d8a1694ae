-- The line that tells each reply.
use Rattle.std.specs.Prelude.{ℕ, List, ◌++◌, codes}
use Rattle.item.specs.Escapes.{escaped}
use Rattle.item.specs.declared.formats.Format.{Format}
use Rattle.item.specs.declared.formats.Formats.{Formats}
use Rattle.wt_code.specs.declared.answers.Answer.{Answer}
use Rattle.wt_code.specs.declared.answers.Answer.TheVariants.{Done, Value, Row, Left, End, Refused}
use Rattle.wt_code.specs.Text.{text_of_refusal}
use Rattle.item_forms.specs.Forms.{written_as}
use Rattle.script_text.specs.declared.replies.Reply.{Reply}
use Rattle.script_text.specs.declared.replies.Reply.TheVariants.{Started, More, Answered}

abbrev pub line_of_value : Format → List ℕ → List ℕ
line_of_value format value = codes "ok " ++ escaped (written_as format value)

abbrev pub line_of_row : Formats → List ℕ → List ℕ → List ℕ
line_of_row formats key value = line_of_value formats.key key ++ (codes " " ++ escaped (written_as formats.value value))

abbrev pub line_of_told : Formats → Answer (List ℕ) → List ℕ
line_of_told formats Done = codes "ok"
line_of_told formats (Value value) = line_of_value formats.value value
line_of_told formats (Row key value) = line_of_row formats key value
line_of_told formats Left = codes "ok left"
line_of_told formats End = codes "ok end"
line_of_told formats (Refused refusal) = text_of_refusal refusal

abbrev pub line_of_reply : Formats → Reply → List ℕ
line_of_reply formats Started = codes "started"
line_of_reply formats More = codes "more"
line_of_reply formats (Answered answer) = line_of_told formats answer
