-- A way goes on behind the nearest key.
use Rattle.std.proofs.Common.{◌≡◌, ◌∙◌, ◌<◌, ℕ, true, List, Option, Some, None, Bor, sym, subst, inl, inr}
use Rattle.std.specs.Prelude.{IfNone, MatchOption, option_map}
use Rattle.kv_model.specs.Holds.{Member}
use Rattle.kv_model.specs.Rows.{Way, Up, Down, is_past}
use Rattle.stamp.specs.declared.View.{View}
use Rattle.row_page.specs.Rows.{Row}
use Rattle.leaf_rows.specs.Rows.{AreFit}
use Rattle.leaf_chains.specs.declared.slot.KeyChain.{KeyChain}
use Rattle.leaf_chains.specs.Nearest.{IsWayUp}
use Rattle.leaf_frame.specs.declared.near.First.TheVariants as first
use Rattle.leaf_frame.specs.declared.near.Near.{Near}
use Rattle.leaf_frame.specs.declared.page.RowAt.{RowAt}
use Rattle.leaf_frame.specs.declared.slot_way.SlotsAhead.{SlotsAhead}
use Rattle.leaf_frame.specs.declared.slot_way.SlotsAhead.TheVariants as along
use Rattle.leaf_frame.specs.Leaf.{HeldLeaf, leaf_of}
use Rattle.leaf_frame.specs.Near.{IsNear, IsNearSlot, IsOfBoth, IsOfRow, IsOfSlot, NoRowPast, NoSlotPast, NonePast, chain_in, keys_in}
use Rattle.leaf_frame.specs.Looks.{version_seen}
use Rattle.leaf_frame.specs.Next.{PassedBy}
use Rattle.leaf_frame.specs.Walks.{AreThrough, IsFirst, IsPlaced, IsRowAt, RowLater, SlotLater, SlotsFrom, Walked, onward, way_along}
use Rattle.leaf_frame.proofs.Keys.{further, left_behind, strictly}
use Rattle.leaf_frame.proofs.Passing.{Stands, goes_on}
use Rattle.leaf_frame.proofs.SlotWays.{none_left, none_left_on}
use Rattle.leaf_frame.proofs.Nearing.{of_nearer, of_row_alone, of_slot_alone}

abbrev pub SlotFrom : Way → Option (List ℕ) → List KeyChain → Option (Bor KeyChain) → Type 0
SlotFrom way from chains there = MatchOption there (NoSlotPast way from chains) (λ s. IsNearSlot way from chains s.now)

abbrev pub RowFrom : Way → Option (List ℕ) → List Row → Option RowAt → Type 0
RowFrom way from page row = MatchOption row (NoRowPast way from page) (IsRowAt way from page)

-- ---- what lies behind a key that is passed stays the nearest

pub slot_stays : (way : Way) (from : Option (List ℕ)) (key : List ℕ) (chains : List KeyChain) (there : Option (Bor KeyChain)) → is_past way from key ≡ true → SlotLater way key there → SlotFrom way from chains there → SlotFrom way (Some key) chains there
slot_stays way from key chains None past later none = λ k behind. none k (further way from key k past behind)
slot_stays way from key chains (Some s) past later near = record {
  past = later;
  known = near.known;
  chain = near.chain;
  before = λ k behind before. near.before k (further way from key k past behind) before;
}

pub row_stays : (way : Way) (from : Option (List ℕ)) (key : List ℕ) (page : List Row) (row : Option RowAt) → is_past way from key ≡ true → RowLater way key row → RowFrom way from page row → RowFrom way (Some key) page row
row_stays way from key page None past later none = λ k behind. none k (further way from key k past behind)
row_stays way from key page (Some r) past later at = record {
  near = record {
    past = later;
    known = at.near.known;
    row = at.near.row;
    before = λ k behind before. at.near.before k (further way from key k past behind) before;
  };
  place = at.place;
}

-- ---- the one that comes first is the nearest of all

pub near_is_slot : (way : Way) (from : Option (List ℕ)) (leaf : HeldLeaf) (s : KeyChain) (row : Option RowAt) (n : Near) → IsNearSlot way from leaf.chains s → RowFrom way from leaf.page row → RowLater way s.key row → IsOfSlot n s → IsNear way from leaf n
near_is_slot way from leaf s None n slot none later is = of_slot_alone way from leaf s n slot none is
near_is_slot way from leaf s (Some r) n slot at later is = of_nearer way from leaf s r.cell n slot at.near (inl (later, is))

pub near_is_row : (way : Way) (from : Option (List ℕ)) (leaf : HeldLeaf) (there : Option (Bor KeyChain)) (r : RowAt) (n : Near) → SlotFrom way from leaf.chains there → IsRowAt way from leaf.page r → SlotLater way r.cell.key.now there → IsOfRow n r.cell → IsNear way from leaf n
near_is_row way from leaf None r n none at later is = of_row_alone way from leaf r.cell n none at.near is
near_is_row way from leaf (Some s) r n slot at later is = of_nearer way from leaf s.now r.cell n slot at.near (inr (inl (later, is)))

pub near_is_both : (way : Way) (from : Option (List ℕ)) (leaf : HeldLeaf) (s : KeyChain) (r : RowAt) (n : Near) → IsNearSlot way from leaf.chains s → IsRowAt way from leaf.page r → IsOfBoth n s r.cell → IsNear way from leaf n
near_is_both way from leaf s r n slot at is = of_nearer way from leaf s r.cell n slot at.near (inr (inr is))

-- ---- where the way has come behind it

-- the nearest slot, or none
pub slot_from : (slots : SlotsAhead) (from : Option (List ℕ)) (chains : List KeyChain) (there : Option (Bor KeyChain)) → SlotsFrom slots from chains there → IfNone there (AreThrough slots from chains) → SlotFrom (way_along slots) from chains there
slot_from (along.Up walk) from chains None left none = none_left from chains (subst (λ (l : List ℕ). IsWayUp from chains l) none left)
slot_from (along.Up walk) from chains (Some s) left none = left.0
slot_from along.Down from chains None left none = none
slot_from along.Down from chains (Some s) left none = left

slots_behind_slot : (slots : SlotsAhead) (from : Option (List ℕ)) (chains : List KeyChain) (s : Bor KeyChain) (key : List ℕ) → key ≡ s.now.key → SlotsFrom slots from chains (Some s) → SlotsFrom slots (Some key) chains None
slots_behind_slot (along.Up walk) from chains s key is left = subst (λ (k : List ℕ). IsWayUp (Some k) chains walk) (sym is) left.1
slots_behind_slot along.Down from chains s key is left = tt

slots_behind_row : (slots : SlotsAhead) (from : Option (List ℕ)) (chains : List KeyChain) (there : Option (Bor KeyChain)) (key : List ℕ) → is_past (way_along slots) from key ≡ true → SlotLater (way_along slots) key there → SlotsFrom slots from chains there
    → IfNone there (AreThrough slots from chains) → SlotsFrom slots (Some key) chains there
slots_behind_row (along.Up walk) from chains None key past later left none =
    subst (λ (l : List ℕ). IsWayUp (Some key) chains l) (sym none) (none_left_on from chains key past (subst (λ (l : List ℕ). IsWayUp from chains l) none left))
slots_behind_row (along.Up walk) from chains (Some s) key past later left none = (slot_stays Up from key chains (Some s) past later left.0, left.1)
slots_behind_row along.Down from chains None key past later left none = tt
slots_behind_row along.Down from chains (Some s) key past later left none = slot_stays Down from key chains (Some s) past later left

pub the_slot : (way : Way) (from : Option (List ℕ)) (chains : List KeyChain) (there : Option (Bor KeyChain)) (s : Bor KeyChain) → SlotFrom way from chains there → there ≡ Some s → IsNearSlot way from chains s.now
the_slot way from chains there s slot is = subst (λ (o : Option (Bor KeyChain)). SlotFrom way from chains o) is slot

pub the_row : (way : Way) (from : Option (List ℕ)) (page : List Row) (row : Option RowAt) (r : RowAt) → RowFrom way from page row → row ≡ Some r → IsRowAt way from page r
the_row way from page row r at is = subst (λ (o : Option RowAt). RowFrom way from page o) is at

-- the slots that are left, with the nearest one, and the nearest row
pub record IsSought (slots : SlotsAhead) (from : Option (List ℕ)) (page : List Row) (chains : List KeyChain) (there : Option (Bor KeyChain)) (row : Option RowAt) : Type 0 where
  pub fit : AreFit page
  pub left : SlotsFrom slots from chains there
  pub slot : SlotFrom (way_along slots) from chains there
  pub through : IfNone there (AreThrough slots from chains)
  pub row_at : RowFrom (way_along slots) from page row

pub sought : (before slots : SlotsAhead) (from : Option (List ℕ)) (page : List Row) (chains : List KeyChain) (had there : Option (Bor KeyChain)) (row : Option RowAt) → IsPlaced before from page chains had row → way_along slots ≡ way_along before
    → SlotsFrom slots from chains there → IfNone there (AreThrough slots from chains) → IsSought slots from page chains there row
sought before slots from page chains had there row placed same left none = record {
  fit = placed.fit;
  left = left;
  slot = slot_from slots from chains there left none;
  through = none;
  row_at = subst (λ (w : Way). RowFrom w from page row) (sym same) placed.row_at;
}

pub behind_slot : (slots : SlotsAhead) (from : Option (List ℕ)) (page : List Row) (chains : List KeyChain) (there : Option (Bor KeyChain)) (row : Option RowAt) (s : Bor KeyChain) (key : List ℕ) → IsSought slots from page chains there row
    → IsFirst (way_along slots) there row (first.Slot s) → key ≡ s.now.key → IsPlaced slots (Some key) page chains None row
behind_slot slots from page chains there row s key at comes is =
    let way = way_along slots in
    record {
      fit = at.fit;
      slot = slots_behind_slot slots from chains s key is (subst (λ (o : Option (Bor KeyChain)). SlotsFrom slots from chains o) comes.0 at.left);
      row_at = row_stays way from key page row (subst (λ (k : List ℕ). is_past way from k ≡ true) (sym is) (the_slot way from chains there s at.slot comes.0).past) (subst (λ (k : List ℕ). RowLater way k row) (sym is) comes.1) at.row_at;
    }

pub behind_row : (slots : SlotsAhead) (from : Option (List ℕ)) (page : List Row) (chains : List KeyChain) (there : Option (Bor KeyChain)) (row new : Option RowAt) (r : RowAt) (key : List ℕ) → IsSought slots from page chains there row
    → IsFirst (way_along slots) there row (first.Row r) → key ≡ r.cell.key.now → RowFrom (way_along slots) (Some r.cell.key.now) page new → IsPlaced slots (Some key) page chains there new
behind_row slots from page chains there row new r key at comes is next =
    let way = way_along slots in
    record {
      fit = at.fit;
      slot = slots_behind_row slots from chains there key (subst (λ (k : List ℕ). is_past way from k ≡ true) (sym is) (the_row way from page row r at.row_at comes.0).near.past) (subst (λ (k : List ℕ). SlotLater way k there) (sym is) comes.1) at.left at.through;
      row_at = subst (λ (k : List ℕ). RowFrom way (Some k) page new) (sym is) next;
    }

pub behind_both : (slots : SlotsAhead) (from : Option (List ℕ)) (page : List Row) (chains : List KeyChain) (there : Option (Bor KeyChain)) (row new : Option RowAt) (s : Bor KeyChain) (r : RowAt) (key : List ℕ) → IsSought slots from page chains there row
    → IsFirst (way_along slots) there row (first.Both s r) → key ≡ r.cell.key.now → RowFrom (way_along slots) (Some r.cell.key.now) page new → IsPlaced slots (Some key) page chains None new
behind_both slots from page chains there row new s r key at comes is next = record {
  fit = at.fit;
  slot = slots_behind_slot slots from chains s key (is ∙ sym comes.1.1) (subst (λ (o : Option (Bor KeyChain)). SlotsFrom slots from chains o) comes.0 at.left);
  row_at = subst (λ (k : List ℕ). RowFrom (way_along slots) (Some k) page new) (sym is) next;
}

-- nothing is left
pub none_near : (slots : SlotsAhead) (from : Option (List ℕ)) (page : List Row) (chains : List KeyChain) (there : Option (Bor KeyChain)) (row : Option RowAt) → IsSought slots from page chains there row → there ≡ None → row ≡ None → NonePast (way_along slots) from (leaf_of page chains)
none_near slots from page chains there row at no_slot no_row = λ k past. (
  subst (λ (o : Option (Bor KeyChain)). SlotFrom (way_along slots) from chains o) no_slot at.slot k past,
  subst (λ (o : Option RowAt). RowFrom (way_along slots) from page o) no_row at.row_at k past,
)

pub still_placed : (slots : SlotsAhead) (from : Option (List ℕ)) (page : List Row) (chains : List KeyChain) (there : Option (Bor KeyChain)) (row : Option RowAt) → IsSought slots from page chains there row → IsPlaced slots from page chains there row
still_placed slots from page chains there row at = record { fit = at.fit; slot = at.left; row_at = at.row_at }

-- ---- past the keys that give nothing

pub record Passes (view : View) (w here : Walked) : Type 0 where
  pub way : here.way ≡ w.way
  pub leaf : here.leaf ≡ w.leaf
  pub stands : Stands w.way w.from view w.leaf here.from

-- at the same way and leaf
near_there : (view : View) (w here : Walked) (n : Near) → Passes view w here → IsNear here.way here.from here.leaf n → IsNear w.way here.from w.leaf n
near_there view w here n passes near = subst (λ (y : Way). IsNear y here.from w.leaf n) passes.way (subst (λ (l : HeldLeaf). IsNear here.way here.from l n) passes.leaf near)

pub passes_on : (view : View) (w here new : Walked) (n : Near) → Passes view w here → IsNear here.way here.from here.leaf n → new ≡ onward n.key.now here → PassedBy view (chain_in n.there) (option_map version_seen n.cell) → Passes view w new
passes_on view w here new n passes near is passed = subst (λ (y : Walked). Passes view w y) (sym is) (record {
  way = passes.way;
  leaf = passes.leaf;
  stands = goes_on w.way w.from here.from view w.leaf n passes.stands (near_there view w here n passes near) passed;
})

pub ahead : Walked → ℕ
ahead w = left_behind w.way (keys_in w.leaf) w.from

pub fewer_behind : (here : Walked) (key : List ℕ) → is_past here.way here.from key ≡ true → Member key (keys_in here.leaf) → ahead (onward key here) < ahead here
unfolding ahead
fewer_behind here key past known = strictly here.way here.from key (keys_in here.leaf) past known

pub fewer_ahead : (here new : Walked) (n : Near) → IsNear here.way here.from here.leaf n → new ≡ onward n.key.now here → ahead new < ahead here
fewer_ahead here new n near is = subst (λ (y : Walked). ahead y < ahead here) (sym is) (fewer_behind here n.key.now near.past near.known)
