-- The list of the units that a checkpoint has.
use Rattle.std.specs.Prelude.{◌≡◌, ℕ, ◌+◌, ◌*◌, ◌<◌, ◌≤◌, Bool, true, false, ◌||◌, ◌&&◌, cond, nat_lt, List, [], ◌∷◌, ◌++◌, length, map, set, take, get_or, refl}
use Rattle.std.specs.Cmp.{nat_eq_equiv}
use Rattle.std.specs.List.{list_any, IsDistinct}
use Rattle.std.proofs.Common.{inl, inr, sym, ◌∙◌, ap, subst, arith, eqb, eq-eqb, ne_eqb}
use Rattle.std.proofs.lemmas.Bool.{cases_lt, cases_eq, false≢true}
use Rattle.std.proofs.lemmas.Grind.{get_or_default_zero}
use Rattle.std.proofs.lemmas.List.{get_or-set_same, get_or-set_other, get_or_past, get_or-take, length-set, length-take, length-append, length_push, length-map, take_all, take_more_set, ext_get_or}
use Rattle.std.proofs.lemmas.List.Folds.{Any-from_list_any, list_any_none, list_any-append, list_any_more, list_any_at}
use Rattle.std.proofs.lemmas.Map.Keys.{IsDistinct-push, IsDistinct-from_apart, apart_from_distinct}
use Rattle.std.proofs.lemmas.Map.Steps.{length-le_from_distinct_below}
use Rattle.extent_list.specs.Space.{Space, Taken}
use Rattle.block_mgr.specs.declared.cell.Cell.{Cell}
use Rattle.block_mgr.specs.Cells.{AreUnits, Put, cell_at, nothing, is_used, kept, ended_cell}
use Rattle.block_mgr.specs.Marks.{Listed, ListedTo, is_marked}
use Rattle.block_mgr.proofs.HolderLemmas.{at_map, kept_used}

-- tests
one_of_four : (a b c d : Bool) → (b || c) ≡ true → (a || (b || (c || d))) ≡ true
one_of_four true b c d is = refl
one_of_four false true c d is = refl
one_of_four false false true d is = refl
one_of_four false false false d is = absurd (false≢true is)

none_of_two : (a b : Bool) → (a || b) ≡ false → (a ≡ false) × (b ≡ false)
none_of_two true b is = absurd (false≢true (sym is))
none_of_two false b is = (refl, is)

or_here : (a e : Bool) → e ≡ true → (a || (e || false)) ≡ true
or_here true e is = refl
or_here false e is = ap (λ (b : Bool). b || false) is

or_elsewhere : (a e : Bool) → e ≡ false → (a || (e || false)) ≡ a
or_elsewhere true e is = refl
or_elsewhere false e is = ap (λ (b : Bool). b || false) is

kept_more : (a m e : Bool) → (e ≡ true → m ≡ true) → ((a && m) || (e || false)) ≡ ((a || e) && m)
kept_more true true e step = refl
kept_more true false true step = absurd (false≢true (step refl))
kept_more true false false step = refl
kept_more false m true step = sym (step refl)
kept_more false m false step = refl

skipped_more : (a m e : Bool) → (e ≡ true → m ≡ false) → (a && m) ≡ ((a || e) && m)
skipped_more true m e step = refl
skipped_more false m true step = sym (step refl)
skipped_more false m false step = refl

and_known : (a m : Bool) → (m ≡ true → a ≡ true) → (a && m) ≡ m
and_known true m step = refl
and_known false true step = absurd (false≢true (step refl))
and_known false false step = refl

is_one : (a b : ℕ) → eqb a b ≡ true → a ≡ b
is_one a b is = elim (cases_eq a b) [
  | inl same ↦ same
  | inr other ↦ absurd (false≢true (sym (ne_eqb a b other) ∙ is))
]

-- places of a list
pub at_index : (xs : List ℕ) (u : ℕ) → list_any (eqb u) xs ≡ true → (k : ℕ) × (k < length xs) × (get_or xs k 0 ≡ u)
at_index xs u is =
    let there = Any-from_list_any (eqb u) xs is in
    (there.0, there.2, sym (get_or_default_zero xs there.0 there.1 there.2) ∙ (there.3 ∙ sym (is_one u there.1 there.4)))

pub has_at : (xs : List ℕ) (i : ℕ) → i < length xs → list_any (eqb (get_or xs i 0)) xs ≡ true
has_at xs i lt = list_any_at (eqb (get_or xs i 0)) xs i 0 lt (eq-eqb (get_or xs i 0) (get_or xs i 0) refl)

pub apart_at : (xs : List ℕ) (k i : ℕ) → IsDistinct eqb xs → k < i → i < length xs → get_or xs k 0 ≡ get_or xs i 0 → ⊥
apart_at xs k i distinct lt within same = false≢true (sym (apart_from_distinct eqb xs k i 0 distinct lt within) ∙ eq-eqb (get_or xs k 0) (get_or xs i 0) same)

-- an item is not among those before it
pub absent : (xs : List ℕ) (i : ℕ) → IsDistinct eqb xs → i < length xs → list_any (eqb (get_or xs i 0)) (take i xs) ≡ false
absent xs i distinct within = list_any_none (eqb (get_or xs i 0)) (take i xs) (λ k x less.
    let before : k < i = omega (arith, less, length-take i xs) in
    ne_eqb (get_or xs i 0) (get_or (take i xs) k x) (λ same. apart_at xs k i distinct before within (sym (get_or_default_zero xs k x (omega (arith, before, within))) ∙ (sym (get_or-take i xs k x before) ∙ sym same))))

pub distinct_none : IsDistinct eqb []
distinct_none = IsDistinct-from_apart eqb [] (λ i j d lt less. absurd (omega (arith, less)))

-- cells
pub marked_used : (c : Cell) → is_marked c ≡ true → is_used c ≡ true
marked_used c is = one_of_four c.is_live c.is_running c.is_last (nat_lt 0 c.names) is

pub marked_there : (cells : List Cell) (u : ℕ) → is_marked (cell_at cells u) ≡ true → u < length cells
marked_there cells u is = elim (cases_lt u (length cells)) [
  | inl lt ↦ lt
  | inr past ↦ absurd (false≢true (sym (ap is_marked (get_or_past cells u nothing past)) ∙ is))
]

pub marked_some : (cells : List Cell) (space : Space) (u : ℕ) → AreUnits cells space → is_marked (cell_at cells u) ≡ true → 1 ≤ (cell_at cells u).units
marked_some cells space u units is = elim (cases_lt 0 (cell_at cells u).units) [
  | inl some ↦ omega (arith, some)
  | inr none ↦ absurd (false≢true (sym (ap is_marked (units.empty u (omega (arith, none)))) ∙ is))
]

pub kept_marked : (c : Cell) → is_marked (kept c) ≡ is_marked c
kept_marked c = go (is_used c) (is_marked c) refl refl
  where
    go : (b m : Bool) → is_used c ≡ b → is_marked c ≡ m → is_marked (kept c) ≡ is_marked c
    go true m used is = ap is_marked (kept_used c used)
    go false true unused is = absurd (false≢true (sym unused ∙ marked_used c is))
    go false false unused is = ap (λ (b : Bool). is_marked (cond b c nothing)) unused ∙ sym is

-- the list after a change of one cell
module _ (cells : List Cell) (marked : List ℕ) (room : ℕ) (listed : Listed cells marked room) where
  pub listed_set : (u : ℕ) (next : Cell) → u < length cells → is_marked next ≡ is_marked (cell_at cells u) → Listed (set cells u next) marked room
  listed_set u next within same = record {
    exact = λ v. elim (cases_eq v u) [
      | inl here ↦ listed.exact v ∙ (ap (λ (k : ℕ). is_marked (cell_at cells k)) here ∙ (sym same ∙ (sym (ap is_marked (get_or-set_same cells u next nothing within)) ∙ ap (λ (k : ℕ). is_marked (cell_at (set cells u next) k)) (sym here))))
      | inr other ↦ listed.exact v ∙ sym (ap is_marked (get_or-set_other cells u v next nothing other))
    ];
    distinct = listed.distinct;
    room = omega (arith, length-set cells u next, listed.room);
  }

  pub listed_put : (after : List Cell) (total u more : ℕ) (next : Cell) → Put cells after total u next → is_marked next ≡ is_marked (cell_at cells u) → total ≤ more → Listed after marked more
  listed_put after total u more next put same most = record {
    exact = λ v. elim (cases_eq v u) [
      | inl here ↦ listed.exact v ∙ (ap (λ (k : ℕ). is_marked (cell_at cells k)) here ∙ (sym same ∙ (sym (ap is_marked put.here) ∙ ap (λ (k : ℕ). is_marked (cell_at after k)) (sym here))))
      | inr other ↦ listed.exact v ∙ sym (ap is_marked (put.others v other))
    ];
    distinct = listed.distinct;
    room = omega (arith, put.long, most);
  }

  distinct_more : (u : ℕ) → is_marked (cell_at cells u) ≡ false → IsDistinct eqb (marked ++ u ∷ [])
  distinct_more u unmarked = IsDistinct-push nat_eq_equiv marked u listed.distinct (listed.exact u ∙ unmarked)

  -- there is a place left for a unit that is not in the list
  pub room_more : (u : ℕ) → u < length cells → is_marked (cell_at cells u) ≡ false → length marked < room
  room_more u within unmarked =
      let few : length (marked ++ u ∷ []) ≤ length cells = length-le_from_distinct_below (marked ++ u ∷ []) (length cells) (distinct_more u unmarked) (λ q has. elim (cases_eq q u) [
        | inl here ↦ omega (arith, here, within)
        | inr other ↦ marked_there cells q (sym (listed.exact q) ∙ (sym (list_any-append (eqb q) marked (u ∷ []) ∙ or_elsewhere (list_any (eqb q) marked) (eqb q u) (ne_eqb q u other)) ∙ has))
      ]) in
      omega (arith, few, length-append marked (u ∷ []), listed.room)

  pub listed_push : (u : ℕ) (next : Cell) (more : ℕ) → u < length cells → is_marked (cell_at cells u) ≡ false → is_marked next ≡ true → room ≤ more → Listed (set cells u next) (marked ++ u ∷ []) more
  listed_push u next more within unmarked is most = record {
    exact = λ v. list_any-append (eqb v) marked (u ∷ []) ∙ elim (cases_eq v u) [
      | inl here ↦ or_here (list_any (eqb v) marked) (eqb v u) (eq-eqb v u here) ∙ (sym is ∙ (sym (ap is_marked (get_or-set_same cells u next nothing within)) ∙ ap (λ (k : ℕ). is_marked (cell_at (set cells u next) k)) (sym here)))
      | inr other ↦ or_elsewhere (list_any (eqb v) marked) (eqb v u) (ne_eqb v u other) ∙ (listed.exact v ∙ sym (ap is_marked (get_or-set_other cells u v next nothing other)))
    ];
    distinct = distinct_more u unmarked;
    room = omega (arith, length-set cells u next, listed.room, most);
  }

-- no cells
pub listed_none : (most : ℕ) → Listed [] [] most
listed_none most = record {
  exact = λ u. sym (ap is_marked (get_or_past [] u nothing (omega arith)));
  distinct = distinct_none;
  room = omega arith;
}

-- the same with more room
pub listed_grown : (cells after : List Cell) (marked list : List ℕ) (most more : ℕ) → Listed cells marked most → after ≡ cells → list ≡ marked → most ≤ more → Listed after list more
listed_grown cells after marked list most more listed same_cells same_list le = subst (λ (l : List ℕ). Listed after l more) (sym same_list) (subst (λ (l : List Cell). Listed l marked more) (sym same_cells) (record { exact = listed.exact; distinct = listed.distinct; room = omega (arith, listed.room, le) }))

-- the units that a place takes are so many more at most
pub taken_few : (old new : Space) (n capacity at count : ℕ) → Taken old new (4096 * n) capacity at → count ≡ length old.units → length new.units ≤ count + n
taken_few old new n capacity at count taken long = elim taken.2 [ inl same ↦ omega (arith, same, long) | inr moved ↦ omega (arith, moved.1, long) ]

-- the end of a checkpoint changes what is marked alone
abbrev with_marks : Cell → Bool → Bool → Cell
with_marks c running last = record c { is_running = running; is_last = last }

unmarked_same : (c : Cell) (last : Bool) → last ≡ false → is_marked c ≡ false → is_used c ≡ true → kept (with_marks c false last) ≡ c
unmarked_same c last none unmarked used =
    let both = none_of_two c.is_running c.is_last unmarked in
    let same : with_marks c false last ≡ c = ap (λ (b : Bool). with_marks c b last) (sym both.0) ∙ ap (λ (b : Bool). with_marks c c.is_running b) (none ∙ sym both.1) in
    ap kept same ∙ kept_used c used

pub ended_unmarked : (is_complete : Bool) (c : Cell) → is_marked c ≡ false → is_used c ≡ true → ended_cell is_complete c ≡ c
ended_unmarked true c unmarked used = unmarked_same c c.is_running (none_of_two c.is_running c.is_last unmarked).0 unmarked used
ended_unmarked false c unmarked used = unmarked_same c c.is_last (none_of_two c.is_running c.is_last unmarked).1 unmarked used

pub ended_nothing : (is_complete : Bool) → ended_cell is_complete nothing ≡ nothing
ended_nothing true = refl
ended_nothing false = refl

-- what the end leaves marked was marked
pub ended_marked : (is_complete : Bool) (c : Cell) → is_marked (ended_cell is_complete c) ≡ true → is_marked c ≡ true
ended_marked true c is = go c.is_running refl
  where
    go : (b : Bool) → c.is_running ≡ b → is_marked c ≡ true
    go true runs = ap (λ (b : Bool). b || c.is_last) runs
    go false idle = absurd (false≢true (sym (kept_marked (record c { is_running = false; is_last = c.is_running }) ∙ idle) ∙ is))
ended_marked false c is =
    let last : c.is_last ≡ true = sym (kept_marked (record c { is_running = false })) ∙ is in
    either c.is_running last
  where
    either : (b : Bool) → c.is_last ≡ true → (b || c.is_last) ≡ true
    either true last = refl
    either false last = last

-- one more unit of the list
module _ (f : Cell → Cell) (old now new : List Cell) (marked : List ℕ) (i : ℕ) (distinct : IsDistinct eqb marked) (within : i < length marked) (there : get_or marked i 0 < length now) (is : new ≡ set now (get_or marked i 0) (f (cell_at now (get_or marked i 0)))) (rest : (u : ℕ) → ((k : ℕ) → k < i → get_or marked k 0 ≡ u → ⊥) → cell_at now u ≡ cell_at old u) where
  pub still_old : cell_at now (get_or marked i 0) ≡ cell_at old (get_or marked i 0)
  still_old = rest (get_or marked i 0) (λ k lt same. apart_at marked k i distinct lt within same)

  pub front_listed : ((k : ℕ) → k < i → cell_at now (get_or marked k 0) ≡ f (cell_at old (get_or marked k 0))) → (k : ℕ) → k < i + 1 → cell_at new (get_or marked k 0) ≡ f (cell_at old (get_or marked k 0))
  front_listed front k less = elim (cases_eq k i) [
    | inl last ↦ ap (λ (l : List Cell). cell_at l (get_or marked k 0)) is ∙ (ap (λ (j : ℕ). cell_at (set now (get_or marked i 0) (f (cell_at now (get_or marked i 0)))) (get_or marked j 0)) last ∙ (get_or-set_same now (get_or marked i 0) (f (cell_at now (get_or marked i 0))) nothing there ∙ (ap f still_old ∙ ap (λ (j : ℕ). f (cell_at old (get_or marked j 0))) (sym last))))
    | inr other ↦
        let before : k < i = omega (arith, less, other) in
        ap (λ (l : List Cell). cell_at l (get_or marked k 0)) is ∙ (get_or-set_other now (get_or marked i 0) (get_or marked k 0) (f (cell_at now (get_or marked i 0))) nothing (λ same. apart_at marked k i distinct before within same) ∙ front k before)
  ]

  pub rest_listed : (u : ℕ) → ((k : ℕ) → k < i + 1 → get_or marked k 0 ≡ u → ⊥) → cell_at new u ≡ cell_at old u
  rest_listed u none = ap (λ (l : List Cell). cell_at l u) is ∙ (get_or-set_other now (get_or marked i 0) u (f (cell_at now (get_or marked i 0))) nothing (λ same. none i (omega arith) (sym same)) ∙ rest u (λ k lt same. none k (omega (arith, lt)) same))

-- a unit that is to come is marked
pub marked_now : (old now : List Cell) (marked : List ℕ) (i : ℕ) → ((u : ℕ) → list_any (eqb u) marked ≡ is_marked (cell_at old u)) → IsDistinct eqb marked → i < length marked → ((u : ℕ) → ((k : ℕ) → k < i → get_or marked k 0 ≡ u → ⊥) → cell_at now u ≡ cell_at old u) → is_marked (cell_at now (get_or marked i 0)) ≡ true
marked_now old now marked i exact distinct within rest =
    let u = get_or marked i 0 in
    ap is_marked (rest u (λ k lt same. apart_at marked k i distinct lt within same)) ∙ (sym (exact u) ∙ has_at marked i within)

-- all of them
pub all_listed : (is_complete : Bool) (old new : List Cell) (space : Space) (marked : List ℕ) → AreUnits old space → ((u : ℕ) → list_any (eqb u) marked ≡ is_marked (cell_at old u)) → length new ≡ length old
    → ((k : ℕ) → k < length marked → cell_at new (get_or marked k 0) ≡ ended_cell is_complete (cell_at old (get_or marked k 0))) → ((u : ℕ) → ((k : ℕ) → k < length marked → get_or marked k 0 ≡ u → ⊥) → cell_at new u ≡ cell_at old u) → new ≡ map (ended_cell is_complete) old
all_listed is_complete old new space marked units exact len front rest = ext_get_or nothing new (map (ended_cell is_complete) old) (len ∙ sym (length-map old (ended_cell is_complete))) (λ u lt. at u (is_marked (cell_at old u)) refl ∙ sym (at_map (ended_cell is_complete) old u (ended_nothing is_complete)))
  where
    used_or_none : (u : ℕ) → is_marked (cell_at old u) ≡ false → ended_cell is_complete (cell_at old u) ≡ cell_at old u
    used_or_none u unmarked = elim (cases_lt 0 (cell_at old u).units) [
      | inl some ↦ ended_unmarked is_complete (cell_at old u) unmarked (units.used u (omega (arith, some)))
      | inr none ↦
          let empty : cell_at old u ≡ nothing = units.empty u (omega (arith, none)) in
          ap (ended_cell is_complete) empty ∙ (ended_nothing is_complete ∙ sym empty)
    ]

    at : (u : ℕ) (m : Bool) → is_marked (cell_at old u) ≡ m → cell_at new u ≡ ended_cell is_complete (cell_at old u)
    at u true is =
        let there = at_index marked u (exact u ∙ is) in
        subst (λ (k : ℕ). cell_at new k ≡ ended_cell is_complete (cell_at old k)) there.2 (front there.0 there.1)
    at u false is = rest u (λ k lt same. false≢true (sym is ∙ (sym (exact u) ∙ subst (λ (v : ℕ). list_any (eqb v) marked ≡ true) same (has_at marked k lt)))) ∙ sym (used_or_none u is)

-- one more unit kept in the list, or not
module _ (cells : List Cell) (old now : List ℕ) (i kept : ℕ) (within : i < length old) (fits : kept < length now) (exact : (v : ℕ) → list_any (eqb v) (take kept now) ≡ (list_any (eqb v) (take i old) && is_marked (cell_at cells v))) where
  pub exact_kept : is_marked (cell_at cells (get_or old i 0)) ≡ true → (v : ℕ) → list_any (eqb v) (take (kept + 1) (set now kept (get_or old i 0))) ≡ (list_any (eqb v) (take (i + 1) old) && is_marked (cell_at cells v))
  exact_kept is v =
      let u = get_or old i 0 in
      ap (list_any (eqb v)) (take_more_set now kept u fits) ∙ (list_any-append (eqb v) (take kept now) (u ∷ []) ∙ (ap (λ (b : Bool). b || (eqb v u || false)) (exact v)
      ∙ (kept_more (list_any (eqb v) (take i old)) (is_marked (cell_at cells v)) (eqb v u) (λ same. ap (λ (k : ℕ). is_marked (cell_at cells k)) (is_one v u same) ∙ is) ∙ ap (λ (b : Bool). b && is_marked (cell_at cells v)) (sym (list_any_more (eqb v) old i 0 within)))))

  pub exact_skipped : is_marked (cell_at cells (get_or old i 0)) ≡ false → (v : ℕ) → list_any (eqb v) (take kept now) ≡ (list_any (eqb v) (take (i + 1) old) && is_marked (cell_at cells v))
  exact_skipped unmarked v =
      let u = get_or old i 0 in
      exact v ∙ (skipped_more (list_any (eqb v) (take i old)) (is_marked (cell_at cells v)) (eqb v u) (λ same. ap (λ (k : ℕ). is_marked (cell_at cells k)) (is_one v u same) ∙ unmarked) ∙ ap (λ (b : Bool). b && is_marked (cell_at cells v)) (sym (list_any_more (eqb v) old i 0 within)))

  pub distinct_kept : IsDistinct eqb old → IsDistinct eqb (take kept now) → IsDistinct eqb (take (kept + 1) (set now kept (get_or old i 0)))
  distinct_kept distinct front =
      let u = get_or old i 0 in
      subst (IsDistinct eqb) (sym (take_more_set now kept u fits)) (IsDistinct-push nat_eq_equiv (take kept now) u front (exact u ∙ ap (λ (b : Bool). b && is_marked (cell_at cells u)) (absent old i distinct within)))

-- of the first i units of a list those that are kept stand in front, and the others are as they were
pub record Walked (cells : List Cell) (old now : List ℕ) (i kept : ℕ) : Type 0 where
  pub len : length now ≡ length old
  pub order : kept ≤ i
  pub rest : (k : ℕ) → i ≤ k → get_or now k 0 ≡ get_or old k 0
  pub exact : (v : ℕ) → list_any (eqb v) (take kept now) ≡ (list_any (eqb v) (take i old) && is_marked (cell_at cells v))
  pub distinct : IsDistinct eqb (take kept now)

pub walked_none : (cells : List Cell) (old : List ℕ) → Walked cells old old 0 0
walked_none cells old = record {
  len = refl;
  order = omega arith;
  rest = λ k le. refl;
  exact = λ v. refl;
  distinct = distinct_none;
}

pub walked_more : (cells : List Cell) (old now new : List ℕ) (i kept next : ℕ) → IsDistinct eqb old → i < length old → Walked cells old now i kept
    → (is_marked (cell_at cells (get_or now i 0)) ≡ true → (next ≡ kept + 1) × (new ≡ set now kept (get_or now i 0))) → (is_marked (cell_at cells (get_or now i 0)) ≡ false → (next ≡ kept) × (new ≡ now)) → Walked cells old new (i + 1) next
walked_more cells old now new i kept next distinct within walked has none = go (is_marked (cell_at cells (get_or now i 0))) refl
  where
    same : get_or now i 0 ≡ get_or old i 0
    same = walked.rest i (omega arith)

    fits : kept < length now
    fits = omega (arith, walked.order, within, walked.len)

    go : (m : Bool) → is_marked (cell_at cells (get_or now i 0)) ≡ m → Walked cells old new (i + 1) next
    go true is =
        let moved : new ≡ set now kept (get_or old i 0) = (has is).1 ∙ ap (set now kept) same in
        let marked : is_marked (cell_at cells (get_or old i 0)) ≡ true = ap (λ (k : ℕ). is_marked (cell_at cells k)) (sym same) ∙ is in
        let count : next ≡ kept + 1 = (has is).0 in
        record {
          len = ap length moved ∙ (length-set now kept (get_or old i 0) ∙ walked.len);
          order = omega (arith, count, walked.order);
          rest = λ k le. ap (λ (l : List ℕ). get_or l k 0) moved ∙ (get_or-set_other now kept k (get_or old i 0) 0 (λ same. omega (arith, same, le, walked.order)) ∙ walked.rest k (omega (arith, le)));
          exact = λ v. ap (λ (n : ℕ). list_any (eqb v) (take n new)) count ∙ (ap (λ (l : List ℕ). list_any (eqb v) (take (kept + 1) l)) moved ∙ exact_kept cells old now i kept within fits walked.exact marked v);
          distinct = subst (λ (n : ℕ). IsDistinct eqb (take n new)) (sym count) (subst (λ (l : List ℕ). IsDistinct eqb (take (kept + 1) l)) (sym moved) (distinct_kept cells old now i kept within fits walked.exact distinct walked.distinct));
        }
    go false is =
        let still : new ≡ now = (none is).1 in
        let unmarked : is_marked (cell_at cells (get_or old i 0)) ≡ false = ap (λ (k : ℕ). is_marked (cell_at cells k)) (sym same) ∙ is in
        let count : next ≡ kept = (none is).0 in
        record {
          len = ap length still ∙ walked.len;
          order = omega (arith, count, walked.order);
          rest = λ k le. ap (λ (l : List ℕ). get_or l k 0) still ∙ walked.rest k (omega (arith, le));
          exact = λ v. ap (λ (n : ℕ). list_any (eqb v) (take n new)) count ∙ (ap (λ (l : List ℕ). list_any (eqb v) (take kept l)) still ∙ exact_skipped cells old now i kept within fits walked.exact unmarked v);
          distinct = subst (λ (n : ℕ). IsDistinct eqb (take n new)) (sym count) (subst (λ (l : List ℕ). IsDistinct eqb (take kept l)) (sym still) walked.distinct);
        }

-- the list once all were tried
pub listed_kept : (cells : List Cell) (old now : List ℕ) (i room : ℕ) → length old ≤ i → length cells ≤ room → ((u : ℕ) → is_marked (cell_at cells u) ≡ true → list_any (eqb u) old ≡ true) → ((v : ℕ) → list_any (eqb v) now ≡ (list_any (eqb v) (take i old) && is_marked (cell_at cells v))) → IsDistinct eqb now → Listed cells now room
listed_kept cells old now i room all fits known exact distinct = record {
  exact = λ v. exact v ∙ (ap (λ (l : List ℕ). list_any (eqb v) l && is_marked (cell_at cells v)) (take_all i old all) ∙ and_known (list_any (eqb v) old) (is_marked (cell_at cells v)) (known v));
  distinct = distinct;
  room = fits;
}

-- the list of no units, and one more
pub to_none : (cells : List Cell) → ListedTo cells [] 0
to_none cells = record {
  below = λ v lt. absurd (omega (arith, lt));
  none = λ v le. refl;
  distinct = distinct_none;
  few = omega arith;
}

module _ (cells : List Cell) (marked : List ℕ) (u : ℕ) (to : ListedTo cells marked u) where
  pub to_pushed : is_marked (cell_at cells u) ≡ true → ListedTo cells (marked ++ u ∷ []) (u + 1)
  to_pushed is = record {
    below = λ v lt. list_any-append (eqb v) marked (u ∷ []) ∙ elim (cases_eq v u) [
      | inl here ↦ or_here (list_any (eqb v) marked) (eqb v u) (eq-eqb v u here) ∙ (sym is ∙ ap (λ (k : ℕ). is_marked (cell_at cells k)) (sym here))
      | inr other ↦ or_elsewhere (list_any (eqb v) marked) (eqb v u) (ne_eqb v u other) ∙ to.below v (omega (arith, lt, other))
    ];
    none = λ v le. list_any-append (eqb v) marked (u ∷ []) ∙ (or_elsewhere (list_any (eqb v) marked) (eqb v u) (ne_eqb v u (λ same. omega (arith, le, same))) ∙ to.none v (omega (arith, le)));
    distinct = IsDistinct-push nat_eq_equiv marked u to.distinct (to.none u (omega arith));
    few = omega (arith, length_push marked u, to.few);
  }

  pub to_skipped : is_marked (cell_at cells u) ≡ false → ListedTo cells marked (u + 1)
  to_skipped unmarked = record {
    below = λ v lt. elim (cases_eq v u) [
      | inl here ↦ to.none v (omega (arith, here)) ∙ (sym unmarked ∙ ap (λ (k : ℕ). is_marked (cell_at cells k)) (sym here))
      | inr other ↦ to.below v (omega (arith, lt, other))
    ];
    none = λ v le. to.none v (omega (arith, le));
    distinct = to.distinct;
    few = omega (arith, to.few);
  }

  pub to_all : (room : ℕ) → length cells ≤ u → length cells ≤ room → Listed cells marked room
  to_all room all fits = record {
    exact = λ v. elim (cases_lt v u) [
      | inl lt ↦ to.below v lt
      | inr le ↦ to.none v le ∙ sym (ap is_marked (get_or_past cells v nothing (omega (arith, all, le))))
    ];
    distinct = to.distinct;
    room = fits;
  }
