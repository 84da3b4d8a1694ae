-- Prepares in a history: who is met there, and at which read stamps.
use Rattle.std.proofs.Common.{◌≡◌, ◌≤◌, ℕ, refl, ap, sym, ◌∙◌, Bool, true, false, ◌&&◌, ◌||◌, List, [], ◌∷◌, length, inl, inr, arith}
use Rattle.std.specs.Prelude.{nat_lt, nat_le, ◌==◌}
use Rattle.std.proofs.lemmas.Bool.{and_parts, and_left, and_right, and_from, or_left, or_right, or_cases, or_parts, or_from, leb-false, lt-leb, le-ltb}
use Rattle.stamp.specs.declared.Name.{Name}
use Rattle.kv_model.specs.History.{Entry, Create, Commit, Prepare, Resolve, Undo, Rts, name_eq, reads_at, released, releases}
use Rattle.kv_model.specs.Reads.{prepared_in, IsPrepareAt, PreparedAt}
use Rattle.kv_model.proofs.Releases.{unreleased, false-from}

-- who is prepared was released
pub prepared-released : (history : List Entry) (n read : ℕ) (x : Name) → prepared_in history n read x ≡ true → released history n x ≡ true
prepared-released [] n read x e = absurd (cc)
prepared-released (Create table ∷ older) n read x e = prepared-released older n read x e
prepared-released (Commit name writes ∷ older) n read x e = or_right (name_eq name x && nat_lt (length older) n) (released older n x) (prepared-released older n read x e)
prepared-released (Resolve name writes ∷ older) n read x e = prepared-released older n read x e
prepared-released (Undo name ∷ older) n read x e = prepared-released older n read x e
prepared-released (Rts stable ∷ older) n read x e = prepared-released older n read x e
prepared-released (Prepare name stamp ∷ older) n read x e = elim (or_cases (name_eq name x && (nat_lt (length older) n && reads_at read stamp)) (prepared_in older n read x) e) [
  | inl here ↦ let p = and_parts (name_eq name x) (nat_lt (length older) n && reads_at read stamp) here in
      or_left (name_eq name x && nat_lt (length older) n) (released older n x)
      (and_from (name_eq name x) (nat_lt (length older) n) p.0 (and_parts (nat_lt (length older) n) (reads_at read stamp) p.1).0)
  | inr later ↦ or_right (name_eq name x && nat_lt (length older) n) (released older n x) (prepared-released older n read x later)
]

pub unprepared : (history : List Entry) (n read : ℕ) (x : Name) → released history (length history) x ≡ false → prepared_in history n read x ≡ false
unprepared history n read x none = false-from (prepared_in history n read x) (λ e. unreleased history n x none (prepared-released history n read x e))

pub unreleased-at : (history : List Entry) (n : ℕ) (x : Name) → released history (length history) x ≡ false → released history n x ≡ false
unreleased-at history n x none = false-from (released history n x) (unreleased history n x none)

-- an entry that does not release a name prepares none of it
pub prepared-past : (entry : Entry) (older : List Entry) (n read : ℕ) (x : Name) → releases entry x ≡ false → prepared_in (entry ∷ older) n read x ≡ prepared_in older n read x
prepared-past (Create table) older n read x none = refl
prepared-past (Commit name writes) older n read x none = refl
prepared-past (Resolve name writes) older n read x none = refl
prepared-past (Undo name) older n read x none = refl
prepared-past (Rts stable) older n read x none = refl
prepared-past (Prepare name stamp) older n read x none = ap (λ b. b || prepared_in older n read x) (and_left (name_eq name x) (nat_lt (length older) n && reads_at read stamp) none)

-- an entry that comes later changes nothing
pub prepared-later : (entry : Entry) (older : List Entry) (n read : ℕ) (x : Name) → n ≤ length older → prepared_in (entry ∷ older) n read x ≡ prepared_in older n read x
prepared-later (Create table) older n read x le = refl
prepared-later (Commit name writes) older n read x le = refl
prepared-later (Resolve name writes) older n read x le = refl
prepared-later (Undo name) older n read x le = refl
prepared-later (Rts stable) older n read x le = refl
prepared-later (Prepare name stamp) older n read x le = ap (λ b. b || prepared_in older n read x)
    (and_right (name_eq name x) (nat_lt (length older) n && reads_at read stamp) (and_left (nat_lt (length older) n) (reads_at read stamp) (le-ltb (length older) n le)))

-- its prepare is met where the name is seen and the read stamp admits the stamp
prepared-here : (entry : Entry) (older : List Entry) (n read stamp : ℕ) (x : Name) → IsPrepareAt entry x stamp → released older (length older) x ≡ false
    → prepared_in (entry ∷ older) n read x ≡ (released (entry ∷ older) n x && reads_at read stamp)
prepared-here (Create table) older n read stamp x is none = absurd is
prepared-here (Commit name writes) older n read stamp x is none = absurd is
prepared-here (Resolve name writes) older n read stamp x is none = absurd is
prepared-here (Undo name) older n read stamp x is none = absurd is
prepared-here (Rts stable) older n read stamp x is none = absurd is
prepared-here (Prepare name at) older n read stamp x is none =
    rw (is.0, is.1, unprepared older n read x none, unreleased-at older n x none) (alone (nat_lt (length older) n) (reads_at read stamp)) where
      alone : (b c : Bool) → ((true && (b && c)) || false) ≡ (((true && b) || false) && c)
      alone true true = refl
      alone true false = refl
      alone false true = refl
      alone false false = refl

pub prepared-at : (history : List Entry) (n read stamp : ℕ) (x : Name) → PreparedAt history x stamp → prepared_in history n read x ≡ (released history n x && reads_at read stamp)
prepared-at [] n read stamp x at = absurd at
prepared-at (entry ∷ older) n read stamp x (inl here) = prepared-here entry older n read stamp x here.0 here.1
prepared-at (entry ∷ older) n read stamp x (inr past) = prepared-past entry older n read x past.0 ∙ (prepared-at older n read stamp x past.1
    ∙ ap (λ b. b && reads_at read stamp) (sym (ap (λ b. b || released older n x) (and_left (releases entry x) (nat_lt (length older) n) past.0))))

-- a stamp that is not before one that is not admitted is not admitted
pub later-unread : (read first second : ℕ) → first ≤ second → reads_at read first ≡ false → reads_at read second ≡ false
later-unread read first second le e = let p = or_parts (read == 0) (nat_le first read) e in let less = leb-false first read p.1 in
    or_from (read == 0) (nat_le second read) p.0 (lt-leb second read (omega arith))

-- who is not met is not admitted, at a commit stamp that is not before its prepare's
pub unmet-unread : (history : List Entry) (n read stamp commit : ℕ) (x : Name) → PreparedAt history x stamp → prepared_in history n read x ≡ false → stamp ≤ commit
    → (released history n x && reads_at read commit) ≡ false
unmet-unread history n read stamp commit x at none le = by-release (released history n x) refl where
  whole : (released history n x && reads_at read stamp) ≡ false
  whole = sym (prepared-at history n read stamp x at) ∙ none

  by-release : (b : Bool) → released history n x ≡ b → (released history n x && reads_at read commit) ≡ false
  by-release false is = and_left (released history n x) (reads_at read commit) is
  by-release true is = and_right (released history n x) (reads_at read commit) (later-unread read stamp commit le (sym (ap (λ b. b && reads_at read stamp) is) ∙ whole))
