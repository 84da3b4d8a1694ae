-- The calls of the system, and what is asked of the whole machine, read from their words.
use Rattle.std.specs.Prelude.{ℕ, ◌==◌, List, Option, Some, None, option_map, option_and_then, if◌then◌else◌, codes}
use Rattle.std.specs.Str.{bytes_eq}
use Rattle.wt_calls.specs.declared.system_call.SystemCall.{SystemCall}
use Rattle.wt_calls.specs.declared.system_call.SystemCall.TheVariants.{Create, SetStamps, RollbackToStable, StartCheckpoint, StepCheckpoint, FinishCheckpoint, Evict}
use Rattle.script_text.specs.Words.{no_words, one_of, three_of}
use Rattle.script_text.specs.Numbers.{number_of, stamps_of}
use Rattle.script_text.specs.Items.{format_of}
use Rattle.script_text.specs.SessionCalls.{keyed_in}
use Rattle.script_text.specs.declared.line.Actor.{Actor}
use Rattle.script_text.specs.declared.line.Actor.TheVariants.{Session, System}
use Rattle.script_text.specs.declared.line.Control.{Control}
use Rattle.script_text.specs.declared.line.Control.TheVariants.{Checkpoint, Close, Crash, Frames}
use Rattle.script_text.specs.declared.system_calls.SystemVerb.{SystemVerb}
use Rattle.script_text.specs.declared.system_calls.SystemVerb.TheVariants as verb
use Rattle.script_text.specs.declared.system_calls.ControlVerb.{ControlVerb}
use Rattle.script_text.specs.declared.system_calls.ControlVerb.TheVariants as asked

-- the word that a call of the system begins with
abbrev pub system_verb_of : List ℕ → Option SystemVerb
system_verb_of word =
    if bytes_eq word (codes "create") then Some verb.Create
    else (if bytes_eq word (codes "set") then Some verb.Set
    else (if bytes_eq word (codes "ckpt-start") then Some verb.StartCheckpoint
    else (if bytes_eq word (codes "ckpt-step") then Some verb.StepCheckpoint
    else (if bytes_eq word (codes "ckpt-finish") then Some verb.FinishCheckpoint
    else (if bytes_eq word (codes "rts") then Some verb.RollbackToStable
    else (if bytes_eq word (codes "evict") then Some verb.Evict else None))))))

-- three words: a table and two formats
abbrev pub create_of : List (List ℕ) → Option SystemCall
create_of words =
    option_and_then (λ p. option_and_then (λ key. option_map (λ value. Create p.0 (record { key = key; value = value })) (format_of p.2)) (format_of p.1)) (three_of words)

abbrev pub set_of : List (List ℕ) → Option SystemCall
set_of words = if no_words words then None else option_map (λ stamps. SetStamps stamps.first stamps.second) (stamps_of (codes "oldest=") (codes "stable=") words)

abbrev pub evict_of : List (List ℕ) → Option SystemCall
evict_of words = option_map (λ k. Evict k.table k.key) (keyed_in words)

abbrev pub alone_of : SystemCall → List (List ℕ) → Option SystemCall
alone_of call words = if no_words words then Some call else None

-- the call of a verb and the words behind it
abbrev pub system_words : SystemVerb → List (List ℕ) → Option SystemCall
system_words verb.Create words = create_of words
system_words verb.Set words = set_of words
system_words verb.StartCheckpoint words = alone_of StartCheckpoint words
system_words verb.StepCheckpoint words = alone_of StepCheckpoint words
system_words verb.FinishCheckpoint words = alone_of FinishCheckpoint words
system_words verb.RollbackToStable words = alone_of RollbackToStable words
system_words verb.Evict words = evict_of words

abbrev pub system_call_of : List ℕ → List (List ℕ) → Option SystemCall
system_call_of word words = option_and_then (λ v. system_words v words) (system_verb_of word)

abbrev pub control_verb_of : List ℕ → Option ControlVerb
control_verb_of word =
    if bytes_eq word (codes "ckpt") then Some asked.Checkpoint
    else (if bytes_eq word (codes "close") then Some asked.Close
    else (if bytes_eq word (codes "crash") then Some asked.Crash
    else (if bytes_eq word (codes "frames") then Some asked.Frames else None)))

abbrev pub frames_of : List (List ℕ) → Option Control
frames_of words = option_map (λ n. Frames n) (option_and_then (number_of 4 1024) (one_of words))

abbrev pub control_alone_of : Control → List (List ℕ) → Option Control
control_alone_of control words = if no_words words then Some control else None

abbrev pub control_words : ControlVerb → List (List ℕ) → Option Control
control_words asked.Checkpoint words = control_alone_of Checkpoint words
control_words asked.Close words = control_alone_of Close words
control_words asked.Crash words = control_alone_of Crash words
control_words asked.Frames words = frames_of words

-- what the first actor of the system asks of the whole machine
abbrev pub control_of : Actor → List ℕ → List (List ℕ) → Option Control
control_of (Session n) word words = None
control_of (System n) word words = if n == 0 then option_and_then (λ v. control_words v words) (control_verb_of word) else None
