-- The first word of a line: an actor, and a mark behind it.
use Rattle.std.specs.Prelude.{ℕ, ◌-◌, Bool, ◌||◌, ◌==◌, List, [], ◌∷◌, Option, Some, None, option_map, option_and_then, if◌then◌else◌, codes}
use Rattle.std.specs.Str.{bytes_eq}
use Rattle.script_text.specs.Numbers.{number_of}
use Rattle.script_text.specs.Words.{after_of}
use Rattle.script_text.specs.declared.actors.Mark.{Mark}
use Rattle.script_text.specs.declared.actors.Mark.TheVariants.{Whole, Started, One, Rest}
use Rattle.script_text.specs.declared.actors.First.{First}
use Rattle.script_text.specs.declared.line.Actor.{Actor}
use Rattle.script_text.specs.declared.line.Actor.TheVariants.{Session, System}

-- an exclamation mark or a full stop
abbrev pub is_mark : ℕ → Bool
is_mark b = b == 33 || b == 46

-- the word up to its first mark, and from there on
abbrev pub before_mark : List ℕ → List ℕ
before_mark [] = []
before_mark (b ∷ rest) = if is_mark b then [] else b ∷ before_mark rest

abbrev pub from_mark : List ℕ → List ℕ
from_mark [] = []
from_mark (b ∷ rest) = if is_mark b then b ∷ rest else from_mark rest

abbrev pub mark_of : List ℕ → Option Mark
mark_of [] = Some Whole
mark_of (b ∷ rest) =
    if bytes_eq (b ∷ rest) (codes "!") then Some Started
    else (if bytes_eq (b ∷ rest) (codes ".") then Some One
    else (if bytes_eq (b ∷ rest) (codes "..") then Some Rest else None))

abbrev pub numbered_session : Option (List ℕ) → Option Actor
numbered_session digits = option_map (λ n. Session (n - 1)) (option_and_then (number_of 1 999) digits)

abbrev pub numbered_system : List ℕ → Option Actor
numbered_system digits = option_map (λ n. System (n - 1)) (number_of 2 4 digits)

abbrev pub numbered : Option (List ℕ) → Option (List ℕ) → Option Actor
numbered (Some digits) session = numbered_system digits
numbered None session = numbered_session session

abbrev pub actor_of : List ℕ → Option Actor
actor_of name = if bytes_eq name (codes "sys") then Some (System 0) else numbered (after_of (codes "sys") name) (after_of (codes "s") name)

abbrev pub first_of : List ℕ → Option First
first_of word = option_and_then (λ actor. option_map (λ mark. record { actor = actor; mark = mark }) (mark_of (from_mark word))) (actor_of (before_mark word))
