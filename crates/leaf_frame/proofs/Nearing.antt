-- The nearest key of slots and rows.
use Rattle.std.proofs.Common.{◌≡◌, ◌∙◌, ℕ, true, List, [], map, Option, None, sym, ap, subst, inl, inr}
use Rattle.std.specs.Prelude.{option_map}
use Rattle.kv_model.specs.Holds.{Member}
use Rattle.kv_model.specs.Rows.{Way, is_past, comes_after}
use Rattle.row_page.specs.declared.cell.Cell.{Cell}
use Rattle.row_page.specs.Rows.{Row}
use Rattle.reconcile.specs.Shows.{shown_at}
use Rattle.update_chain.proofs.Below.{member-append-left, member-append-right}
use Rattle.leaf_chains.specs.declared.slot.KeyChain.{KeyChain}
use Rattle.leaf_chains.specs.Slots.{chain_at}
use Rattle.kv_model.proofs.KeyOrder.{after-trans}
use Rattle.leaf_frame.specs.declared.near.Near.{Near}
use Rattle.leaf_frame.specs.Leaf.{HeldLeaf}
use Rattle.leaf_frame.specs.Looks.{version_seen}
use Rattle.leaf_frame.specs.Near.{IsBare, IsNear, IsNearRow, IsNearSlot, IsNearer, IsOfRow, IsOfSlot, NoRowPast, NoSlotPast, chain_in, keys_in}

-- what is said of a key holds of the one that is named
near_at : (way : Way) (from : Option (List ℕ)) (leaf : HeldLeaf) (n : Near) (key : List ℕ) → n.key.now ≡ key → is_past way from key ≡ true → Member key (keys_in leaf) → chain_at key leaf.chains ≡ chain_in n.there
    → shown_at key leaf.page ≡ option_map version_seen n.cell → ((k : List ℕ) → is_past way from k ≡ true → comes_after way k key ≡ true → IsBare k leaf) → IsNear way from leaf n
near_at way from leaf n key is past known chain row before = record {
  past = subst (λ (k : List ℕ). is_past way from k ≡ true) (sym is) past;
  known = subst (λ (k : List ℕ). Member k (keys_in leaf)) (sym is) known;
  chain = subst (λ (k : List ℕ). chain_at k leaf.chains ≡ chain_in n.there) (sym is) chain;
  row = subst (λ (k : List ℕ). shown_at k leaf.page ≡ option_map version_seen n.cell) (sym is) row;
  before = subst (λ (x : List ℕ). (k : List ℕ) → is_past way from k ≡ true → comes_after way k x ≡ true → IsBare k leaf) (sym is) before;
}

slot_known : (leaf : HeldLeaf) (key : List ℕ) → Member key (map {A = KeyChain} (λ s. s.key) leaf.chains) → Member key (keys_in leaf)
slot_known leaf key there = member-append-left key (map {A = KeyChain} (λ s. s.key) leaf.chains) (map {A = Row} (λ r. r.0) leaf.page) there

row_known : (leaf : HeldLeaf) (key : List ℕ) → Member key (map {A = Row} (λ r. r.0) leaf.page) → Member key (keys_in leaf)
row_known leaf key there = member-append-right key (map {A = KeyChain} (λ s. s.key) leaf.chains) (map {A = Row} (λ r. r.0) leaf.page) there

-- no row before the slot, nor at it
slot_first : (way : Way) (from : Option (List ℕ)) (leaf : HeldLeaf) (s : KeyChain) (n : Near) → IsNearSlot way from leaf.chains s → IsOfSlot n s → shown_at s.key leaf.page ≡ None
    → ((k : List ℕ) → is_past way from k ≡ true → comes_after way k s.key ≡ true → shown_at k leaf.page ≡ None) → IsNear way from leaf n
slot_first way from leaf s n near is here before =
    near_at way from leaf n s.key is.0 near.past (slot_known leaf s.key near.known) (near.chain ∙ sym is.1) (here ∙ sym is.2) (λ k past after. (near.before k past after, before k past after))

row_first : (way : Way) (from : Option (List ℕ)) (leaf : HeldLeaf) (c : Cell) (n : Near) → IsNearRow way from leaf.page c → IsOfRow n c → chain_at c.key.now leaf.chains ≡ []
    → ((k : List ℕ) → is_past way from k ≡ true → comes_after way k c.key.now ≡ true → chain_at k leaf.chains ≡ []) → IsNear way from leaf n
row_first way from leaf c n near is here before =
    near_at way from leaf n c.key.now is.0 near.past (row_known leaf c.key.now near.known) (here ∙ sym is.1) (near.row ∙ sym is.2) (λ k past after. (before k past after, near.before k past after))

pub of_slot_alone : (way : Way) (from : Option (List ℕ)) (leaf : HeldLeaf) (s : KeyChain) (n : Near) → IsNearSlot way from leaf.chains s → NoRowPast way from leaf.page → IsOfSlot n s → IsNear way from leaf n
of_slot_alone way from leaf s n near none is = slot_first way from leaf s n near is (none s.key near.past) (λ k past after. none k past)

pub of_row_alone : (way : Way) (from : Option (List ℕ)) (leaf : HeldLeaf) (c : Cell) (n : Near) → NoSlotPast way from leaf.chains → IsNearRow way from leaf.page c → IsOfRow n c → IsNear way from leaf n
of_row_alone way from leaf c n none near is = row_first way from leaf c n near is (none c.key.now near.past) (λ k past after. none k past)

pub of_nearer : (way : Way) (from : Option (List ℕ)) (leaf : HeldLeaf) (s : KeyChain) (c : Cell) (n : Near) → IsNearSlot way from leaf.chains s → IsNearRow way from leaf.page c → IsNearer way s c n → IsNear way from leaf n
of_nearer way from leaf s c n slot row (inl first) =
    slot_first way from leaf s n slot first.1 (row.before s.key slot.past first.0) (λ k past after. row.before k past (after-trans way k s.key c.key.now after first.0))
of_nearer way from leaf s c n slot row (inr (inl first)) =
    row_first way from leaf c n row first.1 (slot.before c.key.now row.past first.0) (λ k past after. slot.before k past (after-trans way k c.key.now s.key after first.0))
of_nearer way from leaf s c n slot row (inr (inr both)) =
    near_at way from leaf n c.key.now both.key row.past (row_known leaf c.key.now row.known) (ap (λ (k : List ℕ). chain_at k leaf.chains) (sym both.same) ∙ (slot.chain ∙ sym both.chain)) (row.row ∙ sym both.row)
    (λ k past after. (slot.before k past (subst (λ (x : List ℕ). comes_after way k x ≡ true) (sym both.same) after), row.before k past after))
