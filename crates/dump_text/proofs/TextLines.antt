-- The lines of a text, and the bytes that no newline is among.
use Rattle.std.proofs.Common.{◌≡◌, ◌++◌, ◌<◌, ℕ, zero, suc, true, false, List, [], ◌∷◌, Some, None, length, take, drop, refl, ap, arith}
use Rattle.std.specs.Prelude.{◌==◌, Bool, not, slice_index_or}
use Rattle.std.specs.List.{list_all}
use Rattle.std.proofs.lemmas.Bool.{and_parts, and_from, not-true, not_from_false, eq-eqb}
use Rattle.dump_text.specs.Grammar.{Row}
use Rattle.dump_text.specs.Runs.{IsOneLine, is_of_line, rows_of, table_of}
use Rattle.dump_text.specs.Cuts.{lines_in}
use Rattle.dump_text.specs.declared.reader.Step.{Step}
use Rattle.dump_text.specs.declared.reader.Step.TheVariants as step
use Rattle.dump_text.specs.declared.reader.Table.{Table}

-- a line before a newline, and what is behind it
pub lines_cut : (text : List ℕ) (n : ℕ) → IsOneLine (take n text) → n < length text → slice_index_or text n 0 ≡ 10 → lines_in text ≡ take n text ∷ lines_in (drop (suc n) text)
lines_cut [] n one less is = absurd (omega (arith, less))
lines_cut (b ∷ rest) zero one less is = rw (eq-eqb b 10 is) refl
lines_cut (b ∷ rest) (suc n) one less is =
    let parts = and_parts (is_of_line b) (list_all is_of_line (take n rest)) one in
    rw (not-true (b == 10) parts.0, lines_cut rest n parts.1 (omega (arith, less)) is) refl

-- a text without a newline is a line
pub lines_one : (text : List ℕ) → IsOneLine text → 0 < length text → lines_in text ≡ text ∷ []
lines_one [] one less = absurd (omega (arith, less))
lines_one (b ∷ []) one less = rw (not-true (b == 10) (and_parts (is_of_line b) true one).0) refl
lines_one (b ∷ (x ∷ rest)) one less =
    let parts = and_parts (is_of_line b) (list_all is_of_line (x ∷ rest)) one in
    rw (not-true (b == 10) parts.0, lines_one (x ∷ rest) parts.1 (omega arith)) refl

-- ---- what is said

pub rows_behind : (said : List Step) (last : Step) → rows_of (said ++ last ∷ []) ≡ rows_of said ++ rows_of (last ∷ [])
rows_behind [] last = refl
rows_behind (step.Row key value ∷ said) last = ap (λ (l : List Row). (key, value) ∷ l) (rows_behind said last)
rows_behind (step.More ∷ said) last = rows_behind said last
rows_behind (step.Key ∷ said) last = rows_behind said last
rows_behind (step.Table t ∷ said) last = rows_behind said last

pub table_behind : (said : List Step) (last : Step) (t : Table) → table_of said ≡ Some t → table_of (said ++ last ∷ []) ≡ Some t
table_behind [] last t is = absurd cc
table_behind (step.Table u ∷ said) last t is = is
table_behind (step.More ∷ said) last t is = table_behind said last t is
table_behind (step.Key ∷ said) last t is = table_behind said last t is
table_behind (step.Row key value ∷ said) last t is = table_behind said last t is

pub table_first : (said : List Step) (last : Step) → table_of said ≡ None → table_of (said ++ last ∷ []) ≡ table_of (last ∷ [])
table_first [] last is = refl
table_first (step.Table u ∷ said) last is = absurd cc
table_first (step.More ∷ said) last is = table_first said last is
table_first (step.Key ∷ said) last is = table_first said last is
table_first (step.Row key value ∷ said) last is = table_first said last is

-- a step that tells neither
pub table_same : (said : List Step) (last : Step) → table_of (last ∷ []) ≡ None → table_of (said ++ last ∷ []) ≡ table_of said
table_same [] last none = none
table_same (step.Table u ∷ said) last none = refl
table_same (step.More ∷ said) last none = table_same said last none
table_same (step.Key ∷ said) last none = table_same said last none
table_same (step.Row key value ∷ said) last none = table_same said last none

pub unbroken_more : (text : List ℕ) (n : ℕ) → IsOneLine (take n text) → n < length text → (slice_index_or text n 0 == 10) ≡ false → IsOneLine (take (suc n) text)
unbroken_more [] n one less is = absurd (omega (arith, less))
unbroken_more (b ∷ rest) zero one less is = and_from (is_of_line b) true (not_from_false (b == 10) is) refl
unbroken_more (b ∷ rest) (suc n) one less is =
    let parts = and_parts (is_of_line b) (list_all is_of_line (take n rest)) one in
    and_from (is_of_line b) (list_all is_of_line (take (suc n) rest)) parts.0 (unbroken_more rest n parts.1 (omega (arith, less)) is)

-- no newline stands before a place
pub one_line : (text : List ℕ) (n : ℕ) → ((k : ℕ) → k < n → (slice_index_or text k 0 == 10) ≡ true → ⊥) → IsOneLine (take n text)
one_line text zero none = refl
one_line [] (suc n) none = refl
one_line (b ∷ rest) (suc n) none =
    and_from (is_of_line b) (list_all is_of_line (take n rest)) (here (b == 10) (none 0 (omega arith))) (one_line rest n (λ k less is. none (suc k) (omega (arith, less)) is))
  where
    here : (is : Bool) → (is ≡ true → ⊥) → not is ≡ true
    here true f = absurd (f refl)
    here false f = refl
