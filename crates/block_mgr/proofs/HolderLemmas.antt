-- What a call leaves at a cell.
use Rattle.std.specs.Prelude.{◌≡◌, ◌⊎◌, ℕ, ◌+◌, ◌<◌, ◌≤◌, Bool, true, false, ◌||◌, List, length, map, set, nat_lt, refl, cond}
use Rattle.std.proofs.Common.{inl, inr, sym, ◌∙◌, ap, subst, arith}
use Rattle.std.proofs.lemmas.Bool.{cases_lt, cases_eq, false≢true, lt-ltb}
use Rattle.std.proofs.lemmas.List.{get_or-set_same, get_or-set_other, length-set, set_past, get_or-map, get_or_past, length-map, ext_get_or}
use Rattle.block_mgr.specs.declared.cell.Cell.{Cell}
use Rattle.block_mgr.specs.Cells.{nothing, cell_at, is_used, kept}

pub at_set : (cells : List Cell) (u v : ℕ) (c : Cell) → (cell_at (set cells v c) u ≡ cell_at cells u) ⊎ ((u ≡ v) × (cell_at (set cells v c) u ≡ c))
at_set cells u v c = elim (cases_lt v (length cells)) [
  | inl within ↦ elim (cases_eq u v) [
    | inl same ↦ inr (same, ap (λ (k : ℕ). cell_at (set cells v c) k) same ∙ get_or-set_same cells v c nothing within)
    | inr other ↦ inl (get_or-set_other cells v u c nothing other)
  ]
  | inr past ↦ inl (ap (λ (l : List Cell). cell_at l u) (set_past cells v c past))
]

-- what holds of a cell holds after a change that keeps it
pub set_keeps : (P : Cell → Type 0) (cells : List Cell) (u v : ℕ) (c : Cell) → (P (cell_at cells v) → P c) → P (cell_at cells u) → P (cell_at (set cells v c) u)
set_keeps P cells u v c step is = elim (at_set cells u v c) [
  | inl same ↦ subst P (sym same) is
  | inr here ↦ subst P (sym here.1) (step (subst (λ (k : ℕ). P (cell_at cells k)) here.0 is))
]

pub at_map : (f : Cell → Cell) (cells : List Cell) (u : ℕ) → f nothing ≡ nothing → cell_at (map f cells) u ≡ f (cell_at cells u)
at_map f cells u empty = elim (cases_lt u (length cells)) [
  | inl within ↦ get_or-map f cells u nothing nothing within
  | inr past ↦ get_or_past (map f cells) u nothing (omega (arith, past, length-map cells f)) ∙ (sym empty ∙ ap f (sym (get_or_past cells u nothing past)))
]

pub map_keeps : (P : Cell → Type 0) (f : Cell → Cell) (cells : List Cell) (u : ℕ) → f nothing ≡ nothing → (P (cell_at cells u) → P (f (cell_at cells u))) → P (cell_at cells u) → P (cell_at (map f cells) u)
map_keeps P f cells u empty step is = subst P (sym (at_map f cells u empty)) (step is)

-- one of four
pub first_of_four : (a b c d : Bool) → a ≡ true → (a || (b || (c || d))) ≡ true
first_of_four a b c d is = ap (λ (x : Bool). x || (b || (c || d))) is

pub second_of_four : (a b c d : Bool) → b ≡ true → (a || (b || (c || d))) ≡ true
second_of_four true b c d is = refl
second_of_four false b c d is = ap (λ (x : Bool). x || (c || d)) is

pub third_of_four : (a b c d : Bool) → c ≡ true → (a || (b || (c || d))) ≡ true
third_of_four true b c d is = refl
third_of_four false true c d is = refl
third_of_four false false c d is = ap (λ (x : Bool). x || d) is

pub fourth_of_four : (a b c d : Bool) → d ≡ true → (a || (b || (c || d))) ≡ true
fourth_of_four true b c d is = refl
fourth_of_four false true c d is = refl
fourth_of_four false false true d is = refl
fourth_of_four false false false d is = is

pub used_live : (c : Cell) → c.is_live ≡ true → is_used c ≡ true
used_live c is = first_of_four c.is_live c.is_running c.is_last (nat_lt 0 c.names) is

pub used_running : (c : Cell) → c.is_running ≡ true → is_used c ≡ true
used_running c is = second_of_four c.is_live c.is_running c.is_last (nat_lt 0 c.names) is

pub used_last : (c : Cell) → c.is_last ≡ true → is_used c ≡ true
used_last c is = third_of_four c.is_live c.is_running c.is_last (nat_lt 0 c.names) is

pub used_named : (c : Cell) → 1 ≤ c.names → is_used c ≡ true
used_named c some = fourth_of_four c.is_live c.is_running c.is_last (nat_lt 0 c.names) (lt-ltb 0 c.names (omega (arith, some)))

pub kept_used : (c : Cell) → is_used c ≡ true → kept c ≡ c
kept_used c used = ap (λ (b : Bool). cond b c nothing) used

-- a block that is kept was there
pub kept_last : (c : Cell) → (kept c).is_last ≡ true → kept c ≡ c
kept_last c is = go (is_used c) refl
  where
    go : (b : Bool) → is_used c ≡ b → kept c ≡ c
    go true used = kept_used c used
    go false unused = absurd (false≢true (sym (ap (λ (b : Bool). (cond b c nothing).is_last) unused) ∙ is))

-- a block stands at a cell of the table
pub is_there : (cells : List Cell) (u : ℕ) → 1 ≤ (cell_at cells u).units → u < length cells
is_there cells u some = elim (cases_lt u (length cells)) [
  | inl lt ↦ lt
  | inr past ↦ absurd (omega (arith, some, ap (λ (c : Cell). c.units) (get_or_past cells u nothing past)))
]

-- one more cell changed
pub front_more : (f : Cell → Cell) (old now new : List Cell) (i : ℕ) → i < length now → new ≡ set now i (f (cell_at now i)) → ((k : ℕ) → k < i → cell_at now k ≡ f (cell_at old k)) → ((k : ℕ) → i ≤ k → cell_at now k ≡ cell_at old k) → (k : ℕ) → k < i + 1 → cell_at new k ≡ f (cell_at old k)
front_more f old now new i within is front back k lt = elim (cases_eq k i) [
  | inl same ↦ ap (λ (l : List Cell). cell_at l k) is ∙ (ap (λ (j : ℕ). cell_at (set now i (f (cell_at now i))) j) same ∙ (get_or-set_same now i (f (cell_at now i)) nothing within ∙ (ap f (back i (omega arith)) ∙ ap (λ (j : ℕ). f (cell_at old j)) (sym same))))
  | inr other ↦ ap (λ (l : List Cell). cell_at l k) is ∙ (get_or-set_other now i k (f (cell_at now i)) nothing other ∙ front k (omega (arith, lt, other)))
]

pub back_more : (f : Cell → Cell) (old now new : List Cell) (i : ℕ) → new ≡ set now i (f (cell_at now i)) → ((k : ℕ) → i ≤ k → cell_at now k ≡ cell_at old k) → (k : ℕ) → i + 1 ≤ k → cell_at new k ≡ cell_at old k
back_more f old now new i is back k le = ap (λ (l : List Cell). cell_at l k) is ∙ (get_or-set_other now i k (f (cell_at now i)) nothing (λ same. omega (arith, same, le)) ∙ back k (omega (arith, le)))

pub len_more : (f : Cell → Cell) (old now new : List Cell) (i : ℕ) → new ≡ set now i (f (cell_at now i)) → length now ≡ length old → length new ≡ length old
len_more f old now new i is same = ap length is ∙ (length-set now i (f (cell_at now i)) ∙ same)

pub all_mapped : (f : Cell → Cell) (old new : List Cell) (i : ℕ) → f nothing ≡ nothing → length new ≡ length old → length old ≤ i → ((k : ℕ) → k < i → cell_at new k ≡ f (cell_at old k)) → new ≡ map f old
all_mapped f old new i empty len all front = ext_get_or nothing new (map f old) (len ∙ sym (length-map old f)) (λ k lt. front k (omega (arith, lt, len, all)) ∙ sym (at_map f old k empty))
