-- What a line asks for, read from its words.
use Rattle.std.specs.Prelude.{ℕ, ◌&&◌, nat_le, List, [], ◌∷◌, length, Option, Some, None, option_map, option_and_then, if◌then◌else◌}
use Rattle.wt_calls.specs.declared.call.Call.{Call}
use Rattle.wt_calls.specs.declared.call.Call.TheVariants as call
use Rattle.script_text.specs.Words.{words_of, all_words}
use Rattle.script_text.specs.Actors.{first_of}
use Rattle.script_text.specs.SessionCalls.{session_call_of}
use Rattle.script_text.specs.SystemCalls.{system_call_of, control_of}
use Rattle.script_text.specs.declared.actors.First.{First}
use Rattle.script_text.specs.declared.actors.Mark.{Mark}
use Rattle.script_text.specs.declared.actors.Mark.TheVariants as mark
use Rattle.script_text.specs.declared.parse.TheConstants.{LINE_MAX}
use Rattle.script_text.specs.declared.line.Actor.{Actor}
use Rattle.script_text.specs.declared.line.Actor.TheVariants.{Session, System}
use Rattle.script_text.specs.declared.line.Control.{Control as Asked}
use Rattle.script_text.specs.declared.line.Line.{Line}
use Rattle.script_text.specs.declared.line.Line.TheVariants.{Whole, Start, Step, Finish, Control}

abbrev pub call_of : Actor → List ℕ → List (List ℕ) → Option Call
call_of (Session n) verb words = option_map (λ c. call.Session n c) (session_call_of verb words)
call_of (System n) verb words = option_map (λ c. call.System n c) (system_call_of verb words)

abbrev pub asked_or_called : Option Asked → Option Call → Option Line
asked_or_called (Some asked) called = Some (Control asked)
asked_or_called None called = option_map (λ c. Whole c) called

abbrev pub whole_of : Actor → List ℕ → List (List ℕ) → Option Line
whole_of actor verb words = asked_or_called (control_of actor verb words) (call_of actor verb words)

abbrev pub started_of : Actor → List ℕ → List (List ℕ) → Option Line
started_of actor verb words = option_map (λ c. Start c) (call_of actor verb words)

abbrev pub marked_alone : Actor → Mark → Option Line
marked_alone actor mark.Whole = None
marked_alone actor mark.Started = None
marked_alone actor mark.One = Some (Step actor)
marked_alone actor mark.Rest = Some (Finish actor)

-- a first word that stands alone
abbrev pub steps_of : First → Option Line
steps_of first = marked_alone first.actor first.mark

abbrev pub marked : Actor → Mark → List ℕ → List (List ℕ) → Option Line
marked actor mark.Whole verb words = whole_of actor verb words
marked actor mark.Started verb words = started_of actor verb words
marked actor mark.One verb words = None
marked actor mark.Rest verb words = None

-- a first word, a verb, and the words behind it
abbrev pub spoken_of : First → List ℕ → List (List ℕ) → Option Line
spoken_of first verb words = marked first.actor first.mark verb words

abbrev pub said_of : First → List (List ℕ) → Option Line
said_of first [] = steps_of first
said_of first (verb ∷ words) = spoken_of first verb words

abbrev pub line_of : List (List ℕ) → Option Line
line_of [] = None
line_of (word ∷ words) = option_and_then (λ first. said_of first words) (first_of word)

abbrev pub line_in : List ℕ → Option Line
line_in bytes = if nat_le (length bytes) LINE_MAX && all_words (words_of bytes) then line_of (words_of bytes) else None
