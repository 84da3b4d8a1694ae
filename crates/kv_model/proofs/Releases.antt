-- Which names are released and committed, as a history grows.
use Rattle.std.proofs.Common.{◌≡◌, ◌⊎◌, ◌<◌, ◌≤◌, ℕ, refl, ap, sym, ◌∙◌, Bool, true, false, ◌&&◌, List, [], ◌∷◌, length, inl, inr, arith}
use Rattle.std.specs.Prelude.{nat_lt, ◌==◌}
use Rattle.std.proofs.lemmas.Bool.{both_ways, and_right, and_parts, and_from, or_left, or_right, or_cases, le-ltb, lt-ltb, ltb-true, eqb-true}
use Rattle.stamp.specs.declared.Name.{Name}
use Rattle.kv_model.specs.Ordered.{IsOrderly}
use Rattle.kv_model.specs.History.{Entry, Create, Commit, Prepare, Resolve, Undo, Rts, released, releases, committed, ends, name_eq}

pub released-mono : (history : List Entry) (n more : ℕ) (x : Name) → n ≤ more → released history n x ≡ true → released history more x ≡ true
released-mono [] n more x le e = e
released-mono (entry ∷ older) n more x le e = elim (or_cases (releases entry x && nat_lt (length older) n) (released older n x) e) [
  | inl here ↦ let parts = and_parts (releases entry x) (nat_lt (length older) n) here in
      or_left (releases entry x && nat_lt (length older) more) (released older more x)
      (and_from (releases entry x) (nat_lt (length older) more) parts.0 (lt-ltb (length older) more (let low = ltb-true (length older) n parts.1 in omega arith)))
  | inr later ↦ or_right (releases entry x && nat_lt (length older) more) (released older more x) (released-mono older n more x le later)
]

pub released-whole : (history : List Entry) (n : ℕ) (x : Name) → released history n x ≡ true → released history (length history) x ≡ true
released-whole [] n x e = e
released-whole (entry ∷ older) n x e = elim (or_cases (releases entry x && nat_lt (length older) n) (released older n x) e) [
  | inl here ↦ or_left (releases entry x && nat_lt (length older) (length (entry ∷ older))) (released older (length (entry ∷ older)) x)
      (and_from (releases entry x) (nat_lt (length older) (length (entry ∷ older))) (and_parts (releases entry x) (nat_lt (length older) n) here).0 (lt-ltb (length older) (length (entry ∷ older)) (omega arith)))
  | inr later ↦ or_right (releases entry x && nat_lt (length older) (length (entry ∷ older))) (released older (length (entry ∷ older)) x)
      (released-mono older (length older) (length (entry ∷ older)) x (omega arith) (released-whole older n x later))
]

-- an entry that comes later changes nothing of what was released before
pub released-later : (entry : Entry) (history : List Entry) (n : ℕ) (x : Name) → n ≤ length history → released (entry ∷ history) n x ≡ released history n x
released-later entry history n x le = rw (and_right (releases entry x) (nat_lt (length history) n) (le-ltb (length history) n le)) refl

-- what the first entries released goes on to be
pub released-older : (entry : Entry) (history : List Entry) (n : ℕ) (x : Name) → released history n x ≡ true → released (entry ∷ history) n x ≡ true
released-older entry history n x e = or_right (releases entry x && nat_lt (length history) n) (released history n x) e

-- by this entry, or by one before it
pub released-cases : (entry : Entry) (history : List Entry) (n : ℕ) (x : Name) → released (entry ∷ history) n x ≡ true
    → ((releases entry x ≡ true) × (length history < n)) ⊎ (released history n x ≡ true)
released-cases entry history n x e = elim (or_cases (releases entry x && nat_lt (length history) n) (released history n x) e) [
  | inl here ↦ let p = and_parts (releases entry x) (nat_lt (length history) n) here in inl (p.0, ltb-true (length history) n p.1)
  | inr later ↦ inr later
]

pub false-from : (b : Bool) → (b ≡ true → ⊥) → b ≡ false
false-from true f = absurd (f refl)
false-from false f = refl

pub unreleased : (history : List Entry) (n : ℕ) (x : Name) → released history (length history) x ≡ false → released history n x ≡ true → ⊥
unreleased history n x none e = both_ways (released history (length history) x) none (released-whole history n x e)

-- a name that the entry does not release is released as before
pub still-unreleased : (entry : Entry) (history : List Entry) (x : Name) → releases entry x ≡ false → released history (length history) x ≡ false
    → released (entry ∷ history) (length (entry ∷ history)) x ≡ false
still-unreleased entry history x other none = false-from (released (entry ∷ history) (length (entry ∷ history)) x) (λ e. elim (released-cases entry history (length (entry ∷ history)) x e) [
  | inl here ↦ both_ways (releases entry x) other here.0
  | inr later ↦ unreleased history (length (entry ∷ history)) x none later
])

pub committed-mono : (history : List Entry) (n more : ℕ) (x : Name) → n ≤ more → committed history n x ≡ true → committed history more x ≡ true
committed-mono [] n more x le e = e
committed-mono (entry ∷ older) n more x le e = elim (or_cases (ends entry x && nat_lt (length older) n) (committed older n x) e) [
  | inl here ↦ let parts = and_parts (ends entry x) (nat_lt (length older) n) here in
      or_left (ends entry x && nat_lt (length older) more) (committed older more x)
      (and_from (ends entry x) (nat_lt (length older) more) parts.0 (lt-ltb (length older) more (let low = ltb-true (length older) n parts.1 in omega arith)))
  | inr later ↦ or_right (ends entry x && nat_lt (length older) more) (committed older more x) (committed-mono older n more x le later)
]

pub committed-whole : (history : List Entry) (n : ℕ) (x : Name) → committed history n x ≡ true → committed history (length history) x ≡ true
committed-whole [] n x e = e
committed-whole (entry ∷ older) n x e = elim (or_cases (ends entry x && nat_lt (length older) n) (committed older n x) e) [
  | inl here ↦ or_left (ends entry x && nat_lt (length older) (length (entry ∷ older))) (committed older (length (entry ∷ older)) x)
      (and_from (ends entry x) (nat_lt (length older) (length (entry ∷ older))) (and_parts (ends entry x) (nat_lt (length older) n) here).0 (lt-ltb (length older) (length (entry ∷ older)) (omega arith)))
  | inr later ↦ or_right (ends entry x && nat_lt (length older) (length (entry ∷ older))) (committed older (length (entry ∷ older)) x)
      (committed-mono older (length older) (length (entry ∷ older)) x (omega arith) (committed-whole older n x later))
]

pub still-uncommitted : (entry : Entry) (history : List Entry) (x : Name) → ends entry x ≡ false → committed history (length history) x ≡ false
    → committed (entry ∷ history) (length (entry ∷ history)) x ≡ false
still-uncommitted entry history x other none = false-from (committed (entry ∷ history) (length (entry ∷ history)) x) (λ e. elim (or_cases (ends entry x && nat_lt (length history) (length (entry ∷ history))) (committed history (length (entry ∷ history)) x) e) [
  | inl here ↦ both_ways (ends entry x) other (and_parts (ends entry x) (nat_lt (length history) (length (entry ∷ history))) here).0
  | inr later ↦ both_ways (committed history (length history) x) none (committed-whole history (length (entry ∷ history)) x later)
])

pub name_eq-same : (x y : Name) → name_eq x y ≡ true → (x.run ≡ y.run) × (x.id ≡ y.id)
name_eq-same x y e = let p = and_parts (x.run == y.run) (x.id == y.id) e in (eqb-true x.run y.run p.0, eqb-true x.id y.id p.1)

-- names that agree on both parts are released alike
pub released-same : (x y : Name) (history : List Entry) (n : ℕ) → x.run ≡ y.run → x.id ≡ y.id → released history n x ≡ released history n y
released-same x y history n run id = ap (released history n) (same x y run id) where
  same : (x y : Name) → x.run ≡ y.run → x.id ≡ y.id → x ≡ y
  same x y run id = λ i. record { run = run i; id = id i }

-- in an orderly history what was committed was released
pub committed-released : (history : List Entry) → IsOrderly history → (n : ℕ) (x : Name) → committed history n x ≡ true → released history (length history) x ≡ true
committed-released history orderly n x e = released-by history orderly (committed-whole history n x e) where
  more : (entry : Entry) (older : List Entry) → released older (length older) x ≡ true → released (entry ∷ older) (length (entry ∷ older)) x ≡ true
  more entry older e = released-whole (entry ∷ older) (length older) x (released-older entry older (length older) x e)

  quiet : (entry : Entry) (older : List Entry) → ends entry x ≡ false → committed (entry ∷ older) (length (entry ∷ older)) x ≡ true → committed older (length older) x ≡ true
  quiet entry older none e = elim (or_cases (ends entry x && nat_lt (length older) (length (entry ∷ older))) (committed older (length (entry ∷ older)) x) e) [
    | inl here ↦ absurd (both_ways (ends entry x) none (and_parts (ends entry x) (nat_lt (length older) (length (entry ∷ older))) here).0)
    | inr later ↦ committed-whole older (length (entry ∷ older)) x later
  ]

  released-by : (history : List Entry) → IsOrderly history → committed history (length history) x ≡ true → released history (length history) x ≡ true
  released-by [] orderly e = e
  released-by (Create t ∷ older) orderly e = more (Create t) older (released-by older orderly.1 (quiet (Create t) older refl e))
  released-by (Commit name writes ∷ older) orderly e = elim (or_cases (name_eq name x && nat_lt (length older) (length (Commit name writes ∷ older))) (committed older (length (Commit name writes ∷ older)) x) e) [
    | inl here ↦ or_left (name_eq name x && nat_lt (length older) (length (Commit name writes ∷ older))) (released older (length (Commit name writes ∷ older)) x) here
    | inr later ↦ more (Commit name writes) older (released-by older orderly.1 (committed-whole older (length (Commit name writes ∷ older)) x later))
  ]
  released-by (Prepare name stamp ∷ older) orderly e = more (Prepare name stamp) older (released-by older orderly (quiet (Prepare name stamp) older refl e))
  released-by (Resolve name writes ∷ older) orderly e = elim (or_cases (name_eq name x && nat_lt (length older) (length (Resolve name writes ∷ older))) (committed older (length (Resolve name writes ∷ older)) x) e) [
    | inl here ↦ let s = name_eq-same name x (and_parts (name_eq name x) (nat_lt (length older) (length (Resolve name writes ∷ older))) here).0 in
        more (Resolve name writes) older (sym (released-same name x older (length older) s.0 s.1) ∙ orderly.0.1)
    | inr later ↦ more (Resolve name writes) older (released-by older orderly.1 (committed-whole older (length (Resolve name writes ∷ older)) x later))
  ]
  released-by (Undo name ∷ older) orderly e = more (Undo name) older (released-by older orderly (quiet (Undo name) older refl e))
  released-by (Rts s ∷ older) orderly e = more (Rts s) older (released-by older orderly (quiet (Rts s) older refl e))
