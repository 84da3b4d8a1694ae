-- Blocks that are added for the live tree alone, and let go of.
use Rattle.std.specs.Prelude.{◌≡◌, ℕ, ◌+◌, ◌*◌, ◌/◌, ◌==◌, ◌<◌, true, false, List, [], ◌∷◌, ◌++◌, length, refl}
use Rattle.std.specs.List.{AllByRecursion}
use Rattle.std.proofs.Common.{inl, inr, sym, ◌∙◌, ap, subst, arith}
use Rattle.std.proofs.lemmas.Bool.{cases_Bool, cases_eq, cases_lt, eq-eqb, eqb-true, false≢true}
use Rattle.std.proofs.lemmas.List.{get_or_past, get_or-set_other, get_or-set_same}
use Rattle.std.proofs.lemmas.List.Sums.{fold-append}
use Rattle.block_mgr.specs.declared.cell.Cell.{Cell}
use Rattle.block_mgr.specs.Blocks.{Books, HasCell, HasLive, unit_of}
use Rattle.block_mgr.specs.Cells.{cell_at, freed, fresh, kept, nothing}
use Rattle.block_mgr.specs.Writes.{Added}
use Rattle.block_mgr.proofs.HasLemmas.{unused_nothing}
use Rattle.block_mgr.proofs.LiveLemmas.{unit_is}
use Rattle.device_layout.specs.declared.addr.Addr.{Addr}
use Rattle.tree_write.specs.Captures.{AreDistinct, IsPlaced}
use Rattle.leaf_write.specs.Adds.{AreAdded, with_all_fresh, with_fresh}
use Rattle.leaf_write.proofs.Lists.{all_both, all_map, all_zip}

-- ---- one cell

with_far : (u : ℕ) (c : Cell) (a : Addr) → (a.offset ≡ 8192 + 4096 * u → ⊥) → with_fresh u c a ≡ c
with_far u c a far = elim (cases_Bool (a.offset == 8192 + 4096 * u)) [
  | inl is ↦ absurd (far (eqb-true a.offset (8192 + 4096 * u) is))
  | inr isnt ↦ rw isnt refl
]

with_here : (u : ℕ) (c : Cell) (a : Addr) → a.offset ≡ 8192 + 4096 * u → with_fresh u c a ≡ fresh (a.size / 4096)
with_here u c a at = rw (eq-eqb a.offset (8192 + 4096 * u) at) refl

with_live : (u : ℕ) (c : Cell) (a : Addr) → c.is_live ≡ true → (with_fresh u c a).is_live ≡ true
with_live u c a live = elim (cases_Bool (a.offset == 8192 + 4096 * u)) [ inl is ↦ rw is refl | inr isnt ↦ rw isnt live ]

all_live : (u : ℕ) (c : Cell) (addrs : List Addr) → c.is_live ≡ true → (with_all_fresh u c addrs).is_live ≡ true
all_live u c [] live = live
all_live u c (a ∷ addrs) live = all_live u (with_fresh u c a) addrs (with_live u c a live)

here_live : (u : ℕ) (c : Cell) (a : Addr) (addrs : List Addr) → a.offset ≡ 8192 + 4096 * u → with_all_fresh u (with_fresh u c a) addrs ≡ nothing → ⊥
here_live u c a addrs at none = false≢true (sym (ap (λ (x : Cell). x.is_live) none) ∙ all_live u (with_fresh u c a) addrs (ap (λ (x : Cell). x.is_live) (with_here u c a at)))

-- where nothing was added nothing was
none_before : (u : ℕ) (c : Cell) (addrs : List Addr) → with_all_fresh u c addrs ≡ nothing → c ≡ nothing
none_before u c [] none = none
none_before u c (a ∷ addrs) none = elim (cases_eq a.offset (8192 + 4096 * u)) [
  | inl here ↦ absurd (here_live u c a addrs here none)
  | inr far ↦ sym (with_far u c a far) ∙ none_before u (with_fresh u c a) addrs none
]

-- and no address leads there
none_there : (u : ℕ) (c : Cell) (addrs : List Addr) → with_all_fresh u c addrs ≡ nothing → AllByRecursion (λ (x : Addr). x.offset ≡ 8192 + 4096 * u → ⊥) addrs
none_there u c [] none = tt
none_there u c (a ∷ addrs) none = ((λ at. here_live u c a addrs at none), none_there u (with_fresh u c a) addrs none)

-- none of the others begins where this one does
all_far : (u : ℕ) (c : Cell) (a : Addr) (addrs : List Addr) → a.offset ≡ 8192 + 4096 * u → AllByRecursion (λ (x : Addr). x.offset ≡ a.offset → ⊥) addrs → with_all_fresh u c addrs ≡ c
all_far u c a [] at far = refl
all_far u c a (x ∷ addrs) at far = ap (λ (d : Cell). with_all_fresh u d addrs) (with_far u c x (λ here. far.0 (here ∙ sym at))) ∙ all_far u c a addrs at far.1

-- ---- an address among those

abbrev IsThere : List Addr → Addr → Type 0
IsThere addrs x = (u : ℕ) (c : Cell) → x.offset ≡ 8192 + 4096 * u → with_all_fresh u c addrs ≡ fresh (x.size / 4096)

all_there : (addrs : List Addr) → AreDistinct addrs → AllByRecursion (λ (x : Addr). IsThere addrs x) addrs
all_there [] distinct = tt
all_there (a ∷ addrs) distinct = (
  (λ u c at. ap (λ (d : Cell). with_all_fresh u d addrs) (with_here u c a at) ∙ all_far u (fresh (a.size / 4096)) a addrs at distinct.0),
  all_map (λ (x : Addr). IsThere addrs x) (λ (x : Addr). IsThere (a ∷ addrs) x) addrs (λ x there u c at. there u (with_fresh u c a) at) (all_there addrs distinct.1),
)

fresh_live : (cells : List Cell) (a : Addr) (u units : ℕ) → a.offset ≡ 8192 + 4096 * u → a.size ≡ 4096 * units → cell_at cells u ≡ fresh (a.size / 4096) → HasLive cells a.offset a.size
fresh_live cells a u units at size is = let same : (cell_at cells u).units ≡ a.size / 4096 = ap (λ (c : Cell). c.units) is in (u, at, omega (arith, size, same), ap (λ (c : Cell). c.is_live) is)

pub live_added : (books now : Books) (addrs : List Addr) → AreAdded books addrs now → AllByRecursion (λ (a : Addr). HasLive now.cells a.offset a.size) addrs
live_added books now addrs added = all_zip (IsPlaced books) (λ (x : Addr). IsThere addrs x) (λ (a : Addr). HasLive now.cells a.offset a.size) addrs
    (λ a placed there. fresh_live now.cells a placed.unit placed.units placed.offset placed.size (added.cells placed.unit ∙ there placed.unit (cell_at books.cells placed.unit) placed.offset)) added.placed (all_there addrs added.distinct)

-- ---- one more

pub cells_added : (old new : Books) (a : Addr) (u : ℕ) → Added old new a → cell_at new.cells u ≡ with_fresh u (cell_at old.cells u) a
cells_added old new a u added = elim (cases_eq u added.unit) [
  | inl same ↦ ap (cell_at new.cells) same ∙ (added.put.here ∙ (ap fresh units ∙ sym (with_here u (cell_at old.cells u) a (added.offset ∙ ap (λ (k : ℕ). 8192 + 4096 * k) (sym same)))))
  | inr other ↦ added.put.others u other ∙ sym (with_far u (cell_at old.cells u) a (λ here. other (omega (arith, here, added.offset))))
]
  where
    units : added.units ≡ a.size / 4096
    units = omega (arith, added.size)

distinct_more : (addrs : List Addr) (a : Addr) → AreDistinct addrs → AllByRecursion (λ (x : Addr). a.offset ≡ x.offset → ⊥) addrs → AreDistinct (addrs ++ a ∷ [])
distinct_more [] a distinct far = (tt, tt)
distinct_more (x ∷ addrs) a distinct far = (all_both (λ (y : Addr). y.offset ≡ x.offset → ⊥) addrs (a ∷ []) distinct.0 (far.0, tt), distinct_more addrs a distinct.1 far.1)

pub added_none : (books : Books) → AreAdded books [] books
added_none books = record { placed = tt; distinct = tt; cells = λ u. refl }

pub added_more : (books mid books' : Books) (addrs : List Addr) (a : Addr) → AreAdded books addrs mid → Added mid books' a → AreAdded books (addrs ++ a ∷ []) books'
added_more books mid books' addrs a all one = record {
  placed = all_both (IsPlaced books) addrs (a ∷ []) all.placed (record { unit = one.unit; units = one.units; offset = one.offset; size = one.size; none = none_before one.unit (cell_at books.cells one.unit) addrs gone }, tt);
  distinct = distinct_more addrs a all.distinct
      (all_map (λ (x : Addr). x.offset ≡ 8192 + 4096 * one.unit → ⊥) (λ (x : Addr). a.offset ≡ x.offset → ⊥) addrs (λ x isnt same. isnt (sym same ∙ one.offset)) (none_there one.unit (cell_at books.cells one.unit) addrs gone));
  cells = λ u. cells_added mid books' a u one ∙ (ap (λ (c : Cell). with_fresh u c a) (all.cells u) ∙ sym (fold-append (with_fresh u) (cell_at books.cells u) addrs (a ∷ [])));
}
  where
    gone : with_all_fresh one.unit (cell_at books.cells one.unit) addrs ≡ nothing
    gone = sym (all.cells one.unit) ∙ one.none

-- ---- one less

live_within : (cells : List Cell) (v : ℕ) → (cell_at cells v).is_live ≡ true → v < length cells
live_within cells v live = elim (cases_lt v (length cells)) [
  | inl lt ↦ lt
  | inr past ↦ absurd (false≢true (sym (ap (λ (c : Cell). c.is_live) (get_or_past cells v nothing past)) ∙ live))
]

freed_here : (cells : List Cell) (v n : ℕ) → cell_at cells v ≡ fresh n → cell_at (freed cells v) v ≡ nothing
freed_here cells v n is =
    get_or-set_same cells v (kept (record (cell_at cells v) { is_live = false })) nothing (live_within cells v (ap (λ (c : Cell). c.is_live) is))
    ∙ unused_nothing (cell_at cells v) (ap (λ (c : Cell). c.is_running) is) (ap (λ (c : Cell). c.is_last) is) (ap (λ (c : Cell). c.names) is)

-- the first of the blocks is let go of
module _ (books now books' : Books) (a : Addr) (addrs : List Addr) (all : AreAdded books (a ∷ addrs) now) (cells : books'.cells ≡ freed now.cells (unit_of a.offset)) where
  abbrev v : ℕ
  v = unit_of a.offset

  there : a.offset ≡ 8192 + 4096 * v
  there = let at = all.placed.0.offset in let same = unit_is a.offset all.placed.0.unit all.placed.0.offset in omega (arith, at, same)

  none : cell_at books.cells v ≡ nothing
  none = ap (cell_at books.cells) (sym (unit_is a.offset all.placed.0.unit all.placed.0.offset)) ∙ all.placed.0.none

  is_fresh : cell_at now.cells v ≡ fresh (a.size / 4096)
  is_fresh = all.cells v ∙ (all_there (a ∷ addrs) all.distinct).0 v (cell_at books.cells v) there

  left_at : (u : ℕ) → cell_at (freed now.cells v) u ≡ with_all_fresh u (cell_at books.cells u) addrs
  left_at u = elim (cases_eq u v) [
    | inl same ↦ subst (λ (k : ℕ). cell_at (freed now.cells v) k ≡ with_all_fresh k (cell_at books.cells k) addrs) (sym same)
        (freed_here now.cells v (a.size / 4096) is_fresh ∙ (sym none ∙ sym (all_far v (cell_at books.cells v) a addrs there all.distinct.0)))
    | inr other ↦ get_or-set_other now.cells v u (kept (record (cell_at now.cells v) { is_live = false })) nothing other
        ∙ (all.cells u ∙ ap (λ (c : Cell). with_all_fresh u c addrs) (with_far u (cell_at books.cells u) a (λ here. other (omega (arith, here, there)))))
  ]

  pub added_less : AreAdded books addrs books'
  added_less = record { placed = all.placed.1; distinct = all.distinct.1; cells = λ u. ap (λ (l : List Cell). cell_at l u) cells ∙ left_at u }

-- ---- the same cells

pub has_same : (P : Cell → Type 0) (old new : List Cell) (at n : ℕ) → ((u : ℕ) → cell_at new u ≡ cell_at old u) → HasCell P old at n → HasCell P new at n
has_same P old new at n same (u, place, size, is) = (u, place, subst (λ (c : Cell). n ≡ 4096 * c.units) (sym (same u)) size, subst P (sym (same u)) is)
