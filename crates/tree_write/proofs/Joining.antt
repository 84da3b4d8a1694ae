-- Blocks that are captured, and then more.
use Rattle.std.specs.Prelude.{◌≡◌, ℕ, ◌+◌, ◌*◌, ◌/◌, ◌≤◌, ◌==◌, true, List, [], ◌∷◌, ◌++◌, Option, refl}
use Rattle.std.specs.List.{AllByRecursion}
use Rattle.std.proofs.Common.{inl, inr, sym, ◌∙◌, ap, subst, arith}
use Rattle.std.proofs.lemmas.Bool.{cases_Bool, cases_lt, eq-eqb, eqb-true, false≢true}
use Rattle.std.proofs.lemmas.List.{map-append}
use Rattle.std.proofs.lemmas.List.Sums.{fold-append}
use Rattle.disk_model.specs.Crash.{Keeps, LeavesOnly, Looked}
use Rattle.disk_model.specs.declared.disk.Disk.{Ghosts}
use Rattle.disk_model.proofs.Crash.{joined, keeps_fewer, keeps_refl, keeps_trans, looked_only, started}
use Rattle.extent_list.specs.Space.{Space, HasNoRoom}
use Rattle.block_mgr.specs.declared.cell.Cell.{Cell}
use Rattle.block_mgr.specs.Blocks.{Books, Has, HasLive}
use Rattle.block_mgr.specs.Cells.{AreUnits, cell_at, is_used, nothing}
use Rattle.block_mgr.proofs.HasLemmas.{used_some}
use Rattle.block_mgr.proofs.HolderLemmas.{used_live}
use Rattle.device_layout.specs.declared.addr.Addr.{Addr}
use Rattle.stored.specs.Blocks.{Apart, AreApart, Block, IsAddressed, IsAt, Holds}
use Rattle.stored.specs.Stored.{Stored}
use Rattle.checkpoint_core.specs.Stands.{AreInUse, HasStill, Stands}
use Rattle.checkpoint_core.specs.Finishes.{IsOld}
use Rattle.checkpoint_core.proofs.Holding.{holds_kept}
use Rattle.tree_write.specs.Captures.{AreDistinct, AreOnce, Captures, IsNewOrLive, IsPlaced, MayWrite, places_of, with_addr, with_addrs}
use Rattle.tree_write.specs.Sizes.{LacksAll, PlacesAll}
use Rattle.tree_write.proofs.Lists.{all_both, all_map}

-- ---- cells

pub with_far : (u : ℕ) (c : Cell) (a : Addr) → (a.offset ≡ 8192 + 4096 * u → ⊥) → with_addr u c a ≡ c
with_far u c a far = elim (cases_Bool (a.offset == 8192 + 4096 * u)) [
  | inl is ↦ absurd (far (eqb-true a.offset (8192 + 4096 * u) is))
  | inr isnt ↦ rw isnt refl
]

pub with_here : (u : ℕ) (c : Cell) (a : Addr) → a.offset ≡ 8192 + 4096 * u → with_addr u c a ≡ record { units = a.size / 4096; is_live = true; is_running = true; is_last = c.is_last; names = 0 }
with_here u c a at = rw (eq-eqb a.offset (8192 + 4096 * u) at) refl

with_live : (u : ℕ) (c : Cell) (a : Addr) → c.is_live ≡ true → (with_addr u c a).is_live ≡ true
with_live u c a live = elim (cases_Bool (a.offset == 8192 + 4096 * u)) [ inl is ↦ rw is refl | inr isnt ↦ rw isnt live ]

all_live : (u : ℕ) (c : Cell) (addrs : List Addr) → c.is_live ≡ true → (with_addrs u c addrs).is_live ≡ true
all_live u c [] live = live
all_live u c (a ∷ addrs) live = all_live u (with_addr u c a) addrs (with_live u c a live)

-- where nothing is captured nothing was
pub none_before : (u : ℕ) (c : Cell) (addrs : List Addr) → with_addrs u c addrs ≡ nothing → c ≡ nothing
none_before u c [] none = none
none_before u c (a ∷ addrs) none = elim (cases_Bool (a.offset == 8192 + 4096 * u)) [
  | inl is ↦
      let here : (with_addr u c a).is_live ≡ true = ap (λ (x : Cell). x.is_live) (with_here u c a (eqb-true a.offset (8192 + 4096 * u) is)) in
      absurd (false≢true (sym (ap (λ (x : Cell). x.is_live) none) ∙ all_live u (with_addr u c a) addrs here))
  | inr isnt ↦ let same : with_addr u c a ≡ c = rw isnt refl in sym same ∙ none_before u (with_addr u c a) addrs none
]

pub with_both : (u : ℕ) (c : Cell) (xs ys : List Block) → with_addrs u (with_addrs u c (places_of xs)) (places_of ys) ≡ with_addrs u c (places_of (xs ++ ys))
with_both u c xs ys =
    sym (fold-append (with_addr u) c (places_of xs) (places_of ys)) ∙ ap (λ (l : List Addr). with_addrs u c l) (sym (map-append {A = Block} {B = Addr} (λ b. b.place) xs ys))

-- ---- room

pub places_both : (space mid last : Space) (capacity : ℕ) (sizes more : List ℕ) → PlacesAll space capacity sizes mid → PlacesAll mid capacity more last → PlacesAll space capacity (sizes ++ more) last
places_both space mid last capacity [] more placed also = subst (λ (s : Space). PlacesAll s capacity more last) placed also
places_both space mid last capacity (size ∷ sizes) more placed also = (placed.0, placed.1, placed.2, places_both placed.0 mid last capacity sizes more placed.3 also)

-- where the first ones have places, and one behind them has none
pub lacks_behind : (space mid : Space) (capacity size : ℕ) (sizes more : List ℕ) → PlacesAll space capacity sizes mid → HasNoRoom mid size capacity → LacksAll space capacity (sizes ++ size ∷ more)
lacks_behind space mid capacity size [] more placed none = inl (subst (λ (s : Space). HasNoRoom s size capacity) placed none)
lacks_behind space mid capacity size (x ∷ sizes) more placed none = inr (placed.0, placed.1, placed.2, lacks_behind placed.0 mid capacity size sizes more placed.3 none)

pub lacks_after : (space mid : Space) (capacity : ℕ) (sizes more : List ℕ) → PlacesAll space capacity sizes mid → LacksAll mid capacity more → LacksAll space capacity (sizes ++ more)
lacks_after space mid capacity [] more placed lacks = subst (λ (s : Space). LacksAll s capacity more) placed lacks
lacks_after space mid capacity (size ∷ sizes) more placed lacks = inr (placed.0, placed.1, placed.2, lacks_after placed.0 mid capacity sizes more placed.3 lacks)

pub lacks_more : (space : Space) (capacity : ℕ) (sizes more : List ℕ) → LacksAll space capacity sizes → LacksAll space capacity (sizes ++ more)
lacks_more space capacity [] more lacks = absurd lacks
lacks_more space capacity (size ∷ sizes) more (inl none) = inl none
lacks_more space capacity (size ∷ sizes) more (inr later) = inr (later.0, later.1, later.2, lacks_more later.0 capacity sizes more later.3)

-- ---- blocks at two places

-- what is in use does not begin where nothing does
pub used_not_placed : (books : Books) (a b : Addr) → Has books.cells a.offset a.size → IsPlaced books b → b.offset ≡ a.offset → ⊥
used_not_placed books a b (u, at, size, used) placed same =
    let one : u ≡ placed.unit = omega (arith, at, placed.offset, same) in
    false≢true (sym (ap is_used (ap (cell_at books.cells) one ∙ placed.none)) ∙ used)

pub live_is_used : (cells : List Cell) (at n : ℕ) → HasLive cells at n → Has cells at n
live_is_used cells at n (u, offset, size, live) = (u, offset, size, used_live (cell_at cells u) live)

once_first : (first books : Books) (b : Block) (more : List Block) → Has books.cells b.place.offset b.place.size → AllByRecursion (λ (c : Block). IsNewOrLive first books c.place) more
    → AllByRecursion (λ (c : Block). c.place.offset ≡ b.place.offset → HasLive first.cells c.place.offset c.place.size) more
once_first first books b more used each = all_map (λ (c : Block). IsNewOrLive first books c.place) (λ (c : Block). c.place.offset ≡ b.place.offset → HasLive first.cells c.place.offset c.place.size) more
    (λ c is same. elim is [ inl placed ↦ absurd (used_not_placed books b.place c.place used placed same) | inr live ↦ live ]) each

once_both : (first books : Books) (blocks more : List Block) → AreOnce first blocks → AreOnce first more → AreInUse books.cells blocks → AllByRecursion (λ (c : Block). IsNewOrLive first books c.place) more → AreOnce first (blocks ++ more)
once_both first books [] more once also used each = also
once_both first books (b ∷ blocks) more once also used each = (
  all_both (λ (c : Block). c.place.offset ≡ b.place.offset → HasLive first.cells c.place.offset c.place.size) blocks more once.0 (once_first first books b more used.0 each),
  once_both first books blocks more once.1 also used.1 each,
)

-- two blocks in use that begin at two places
has_apart : (cells : List Cell) (space : Space) (x y : Addr) → AreUnits cells space → Has cells x.offset x.size → Has cells y.offset y.size → (x.offset ≡ y.offset → ⊥) → AreApart x y
has_apart cells space x y units (u, x_at, x_size, x_used) (v, y_at, y_size, y_used) other =
    let x_some : 1 ≤ (cell_at cells u).units = used_some cells space u units x_used in
    let y_some : 1 ≤ (cell_at cells v).units = used_some cells space v units y_used in
    apart_of x_some y_some
  where
    apart_of : 1 ≤ (cell_at cells u).units → 1 ≤ (cell_at cells v).units → AreApart x y
    apart_of x_some y_some = elim (cases_lt u v) [
      | inl less ↦ let le = units.apart u v less y_some in inl (omega (arith, x_at, x_size, y_at, le))
      | inr not_less ↦ elim (cases_lt v u) [
        | inl more ↦ let le = units.apart v u more x_some in inr (omega (arith, y_at, y_size, x_at, le))
        | inr neither ↦ absurd (other (omega (arith, x_at, y_at, not_less, neither)))
      ]
    ]

-- blocks in use are apart where no two begin at one place
pub distinct_apart : (cells : List Cell) (space : Space) (blocks : List Block) → AreUnits cells space → AreInUse cells blocks → AreDistinct (places_of blocks) → Apart blocks
distinct_apart cells space [] units used distinct = tt
distinct_apart cells space (b ∷ blocks) units used distinct = (all_apart blocks used.1 distinct.0, distinct_apart cells space blocks units used.1 distinct.1)
  where
    all_apart : (more : List Block) → AreInUse cells more → AllByRecursion (λ (x : Addr). x.offset ≡ b.place.offset → ⊥) (places_of more) → AllByRecursion (λ (c : Block). AreApart b.place c.place) more
    all_apart [] also other = tt
    all_apart (c ∷ more) also other = (has_apart cells space b.place c.place units used.0 also.0 (λ same. other.0 (sym same)), all_apart more also.1 other.1)

-- ---- captures

module _ {D : Type 0} (g : Ghosts D) (old : Option Stored) (first books : Books) (before mid : D) (looked : Looked g before mid) (only : (c : List ℕ) → g.left_since before (g.moment before) c → g.may_leave before c) where
  pub stands_looked : Stands (g.seen before) (g.may_leave before) books old → Stands (g.seen mid) (g.may_leave mid) books old
  stands_looked stands = record {
    seen_has = subst (λ (l : List ℕ). HasStill old l) (sym looked.content) stands.seen_has;
    images_have = λ synced c left. stands.images_have synced c (looked.images c left);
    in_use = stands.in_use;
  }

  pub may_looked : MayWrite (g.seen before) (g.may_leave before) books old → MayWrite (g.seen mid) (g.may_leave mid) books old
  may_looked may = record { stands = stands_looked may.stands; units = may.units; unnamed = may.unnamed }

  pub left_looked : LeavesOnly g before mid (IsOld (g.may_leave before) old)
  left_looked = looked_only g before mid (IsOld (g.may_leave before) old) looked (λ c left. inl (only c left))

  pub old_looked : (c : List ℕ) → IsOld (g.may_leave mid) old c → IsOld (g.may_leave before) old c
  old_looked c (inl left) = inl (looked.images c left)
  old_looked c (inr has) = inr has

  -- nothing is captured while the disk is looked at
  pub captures_looked : MayWrite (g.seen before) (g.may_leave before) books old → Captures g old first [] [] books books before mid
  captures_looked may = record {
    may = may_looked may;
    left = left_looked;
    images = λ c left. inl (looked.images c left);
    addressed = tt;
    holds = tt;
    in_use = tt;
    each = tt;
    once = tt;
    cells = λ u. refl;
    used = λ at n has. has;
    live = λ at n has. has;
    keeps = subst (λ (l : List ℕ). Keeps (Has books.cells) (g.seen before) l) (sym looked.content) (keeps_refl (Has books.cells) (g.seen before));
    places = refl;
  }

module _ {D : Type 0} (g : Ghosts D) (old : Option Stored) (first : Books) where
  -- nothing is captured
  pub captures_none : (books : Books) (d : D) → ((c : List ℕ) → g.left_since d (g.moment d) c → g.may_leave d c) → MayWrite (g.seen d) (g.may_leave d) books old → Captures g old first [] [] books books d d
  captures_none books d only may = record {
    may = may;
    left = started g d (IsOld (g.may_leave d) old) (λ c left. inl (only c left));
    images = λ c left. inl left;
    addressed = tt;
    holds = tt;
    in_use = tt;
    each = tt;
    once = tt;
    cells = λ u. refl;
    used = λ at n has. has;
    live = λ at n has. has;
    keeps = keeps_refl (Has books.cells) (g.seen d);
    places = refl;
  }

  -- one capture after the other is again one
  pub captures_join : (blocks more : List Block) (sizes others : List ℕ) (books mid books' : Books) (before between after : D) → g.capacity between ≡ g.capacity before
      → Captures g old first blocks sizes books mid before between → Captures g old first more others mid books' between after → Captures g old first (blocks ++ more) (sizes ++ others) books books' before after
  captures_join blocks more sizes others books mid books' before between after room one two = record {
    may = two.may;
    left = joined g before between after _ _ one.left two.left old_between;
    images = λ c left. old_between c (two.images c left);
    addressed = all_both (λ (b : Block). IsAddressed b) blocks more one.addressed two.addressed;
    holds = holds_both;
    in_use = all_both (λ (b : Block). Has books'.cells b.place.offset b.place.size) blocks more (all_map (λ (b : Block). Has mid.cells b.place.offset b.place.size) (λ (b : Block). Has books'.cells b.place.offset b.place.size) blocks (λ b has. two.used b.place.offset b.place.size has) one.in_use) two.in_use;
    each = all_both (λ (b : Block). IsNewOrLive first books b.place) blocks more one.each (all_map (λ (b : Block). IsNewOrLive first mid b.place) (λ (b : Block). IsNewOrLive first books b.place) more (λ b is. new_before b is) two.each);
    once = once_both first mid blocks more one.once two.once one.in_use two.each;
    cells = λ u. two.cells u ∙ (ap (λ (c : Cell). with_addrs u c (places_of more)) (one.cells u) ∙ with_both u (cell_at books.cells u) blocks more);
    used = λ at n has. two.used at n (one.used at n has);
    live = λ at n has. two.live at n (one.live at n has);
    keeps = keeps_trans (Has books.cells) (g.seen before) (g.seen between) (g.seen after) one.keeps (keeps_fewer (Has mid.cells) (Has books.cells) (g.seen between) (g.seen after) one.used two.keeps);
    places = places_both books.space mid.space books'.space (g.capacity before) sizes others one.places (subst (λ (k : ℕ). PlacesAll mid.space k others books'.space) room two.places);
  }
    where
      old_between : (c : List ℕ) → IsOld (g.may_leave between) old c → IsOld (g.may_leave before) old c
      old_between c (inl left) = one.images c left
      old_between c (inr has) = inr has

      holds_both : Holds (g.seen after) (blocks ++ more)
      holds_both = all_both (λ (b : Block). IsAt (g.seen after) b) blocks more (holds_kept mid.cells (g.seen between) (g.seen after) blocks one.holds one.in_use two.keeps) two.holds

      new_before : (b : Block) → IsNewOrLive first mid b.place → IsNewOrLive first books b.place
      new_before b (inl placed) = inl (record { unit = placed.unit; units = placed.units; offset = placed.offset; size = placed.size; none = none_before placed.unit (cell_at books.cells placed.unit) (places_of blocks) (sym (one.cells placed.unit) ∙ placed.none) })
      new_before b (inr live) = inr live

  -- those that the live tree had at first are distinct: then all are apart
  pub captures_apart : (blocks : List Block) (sizes : List ℕ) (books books' : Books) (before after : D) → Captures g old first blocks sizes books books' before after → AreDistinct (places_of blocks) → Apart blocks
  captures_apart blocks sizes books books' before after done distinct = distinct_apart books'.cells books'.space blocks done.may.units done.in_use distinct
