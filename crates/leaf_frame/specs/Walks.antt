-- A way over the keys of a leaf that keeps its place.
use Rattle.std.specs.Prelude.{◌≡◌, ℕ, true, List, [], Option, Some, None, MatchOption, slice_get}
use Rattle.std.specs.Borrow.{Bor}
use Rattle.kv_model.specs.Rows.{Way, Up, Down, comes_after}
use Rattle.row_page.specs.Rows.{Row}
use Rattle.row_page.specs.Views.{row_seen}
use Rattle.leaf_rows.specs.Rows.{AreFit}
use Rattle.leaf_chains.specs.declared.slot.KeyChain.{KeyChain}
use Rattle.leaf_chains.specs.Nearest.{IsWayUp}
use Rattle.leaf_frame.specs.declared.near.First.{First}
use Rattle.leaf_frame.specs.declared.near.First.TheVariants as first
use Rattle.leaf_frame.specs.declared.page.RowAt.{RowAt}
use Rattle.leaf_frame.specs.declared.slot_way.SlotsAhead.{SlotsAhead}
use Rattle.leaf_frame.specs.declared.slot_way.SlotsAhead.TheVariants as along
use Rattle.leaf_frame.specs.Leaf.{HeldLeaf}
use Rattle.leaf_frame.specs.Near.{IsNearRow, IsNearSlot, NoRowPast, NoSlotPast}

-- on this way, and past this key, or all of them
pub record Walked : Type 0 where
  pub way : Way
  pub from : Option (List ℕ)
  pub leaf : HeldLeaf

abbrev pub walk_on : Way → Option (List ℕ) → HeldLeaf → Walked
walk_on way from leaf = record { way = way; from = from; leaf = leaf }

-- further on, past this key
abbrev pub onward : List ℕ → Walked → Walked
onward key w = walk_on w.way (Some key) w.leaf

-- the row of the nearest key that has one, at its place
pub record IsRowAt (way : Way) (from : Option (List ℕ)) (page : List Row) (r : RowAt) : Type 0 where
  pub near : IsNearRow way from page r.cell
  pub place : slice_get page r.index ≡ Some (row_seen r.cell)

-- the way of the slots that are left
abbrev pub way_along : SlotsAhead → Way
way_along (along.Up walk) = Up
way_along along.Down = Down

-- the slots that are left are those past where it has come, behind the nearest one where that was sought
abbrev pub SlotsFrom : SlotsAhead → Option (List ℕ) → List KeyChain → Option (Bor KeyChain) → Type 0
SlotsFrom (along.Up walk) from chains None = IsWayUp from chains walk
SlotsFrom (along.Up walk) from chains (Some s) = IsNearSlot Up from chains s.now × IsWayUp (Some s.now.key) chains walk
SlotsFrom along.Down from chains None = Unit {0}
SlotsFrom along.Down from chains (Some s) = IsNearSlot Down from chains s.now

-- none is left
abbrev pub AreThrough : SlotsAhead → Option (List ℕ) → List KeyChain → Type 0
AreThrough (along.Up walk) from chains = walk ≡ []
AreThrough along.Down from chains = NoSlotPast Down from chains

-- where it has come: the nearest slot, where it was sought, and those behind it, and the nearest row
pub record IsPlaced (slots : SlotsAhead) (from : Option (List ℕ)) (page : List Row) (chains : List KeyChain) (there : Option (Bor KeyChain)) (row : Option RowAt) : Type 0 where
  pub fit : AreFit page
  pub slot : SlotsFrom slots from chains there
  pub row_at : MatchOption row (NoRowPast (way_along slots) from page) (IsRowAt (way_along slots) from page)

-- ---- which of them comes first on the way

-- no row, or one whose key comes later
abbrev pub RowLater : Way → List ℕ → Option RowAt → Type 0
RowLater way key None = Unit {0}
RowLater way key (Some r) = comes_after way key r.cell.key.now ≡ true

abbrev pub SlotLater : Way → List ℕ → Option (Bor KeyChain) → Type 0
SlotLater way key None = Unit {0}
SlotLater way key (Some s) = comes_after way key s.now.key ≡ true

abbrev pub IsFirst : Way → Option (Bor KeyChain) → Option RowAt → First → Type 0
IsFirst way there row (first.Slot s) = (there ≡ Some s) × RowLater way s.now.key row
IsFirst way there row (first.Row r) = (row ≡ Some r) × SlotLater way r.cell.key.now there
IsFirst way there row (first.Both s r) = (there ≡ Some s) × ((row ≡ Some r) × (s.now.key ≡ r.cell.key.now))
