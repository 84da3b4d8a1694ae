-- The answer that tells each outcome.
use Rattle.std.specs.Prelude.{◌≡◌, ℕ, List}
use Rattle.wt_code.specs.declared.answers.Answer.{Answer}
use Rattle.wt_code.specs.declared.answers.Answer.TheVariants as answers
use Rattle.kv_model.specs.Decisions.{Outcome, Done, Gives, GivesRow, Left, End, Resumes, Refused}

-- A whole call goes on where it resumes, so it never answers that.
abbrev pub Tells : Outcome → Answer (List ℕ) → Type 0
Tells Done answer = answer ≡ answers.Done
Tells (Gives value) answer = answer ≡ answers.Value value
Tells (GivesRow key value) answer = answer ≡ answers.Row key value
Tells Left answer = answer ≡ answers.Left
Tells End answer = answer ≡ answers.End
Tells Resumes answer = ⊥
Tells (Refused refusal) answer = answer ≡ answers.Refused refusal
