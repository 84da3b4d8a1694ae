-- What a snapshot sees of the versions that a leaf holds.
use Rattle.std.proofs.Common.{◌≡◌, ℕ, suc, refl, ap, sym, ◌∙◌, true, false, List, [], ◌∷◌, inl, inr, subst}
use Rattle.std.specs.Prelude.{Option, Some, None, IfSome, bytes_eq, option_map, slice_get}
use Rattle.std.specs.Option.{option_to_list}
use Rattle.std.proofs.lemmas.Bool.{both_ways, cases_Bool}
use Rattle.std.proofs.lemmas.Option.{same_Some}
use Rattle.item.specs.declared.Change.{Change}
use Rattle.stamp.specs.declared.Version.{Version}
use Rattle.kv_model.specs.Holds.{Member}
use Rattle.kv_model.proofs.Finishing.{member-append}
use Rattle.kv_model.proofs.ReconciledKeys.{cell-member, member-cell}
use Rattle.row_page.specs.Changes.{PageChange, version_in}
use Rattle.row_page.specs.Rows.{Row}
use Rattle.leaf_rows.specs.Rows.{AreFit, version_at}
use Rattle.reconcile.specs.Shows.{shown_at}
use Rattle.snapshot.specs.Sight.{Sight, is_seen}
use Rattle.update_chain.specs.declared.update.Update.{Update}
use Rattle.update_chain.proofs.Below.{member-append-left, member-append-right}
use Rattle.leaf_chains.specs.Slots.{chain_at}
use Rattle.reconcile.specs.Held.{versions}
use Rattle.leaf_frame.specs.Leaf.{HeldLeaf}
use Rattle.leaf_frame.specs.Updates.{AllSeen, IsLeastUnseen}
use Rattle.leaf_frame.proofs.Pages.{shows_row}
use Rattle.evict_step.specs.Cuts.{AllHeldSeen, HoldsLeastUnseen, HoldsUnseen}

-- ---- updates

version-from : (chain : List Update) (v : Version Change) → Member v (versions chain) → (u : Update) × Member u chain × (u.version ≡ v)
version-from [] v there = absurd there
version-from (u ∷ chain) v (inl same) = (u, inl refl, sym same)
version-from (u ∷ chain) v (inr later) = let s = version-from chain v later in (s.0, inr s.1, s.2)

pub version-to : (chain : List Update) (u : Update) → Member u chain → Member u.version (versions chain)
version-to [] u there = absurd there
version-to (x ∷ chain) u (inl same) = inl (ap (λ (y : Update). y.version) same)
version-to (x ∷ chain) u (inr later) = inr (version-to chain u later)

-- ---- rows

-- every row that stands at a place is seen
abbrev pub RowsSeen : Sight → List Row → Type 0
RowsSeen s rows = (i : ℕ) (r : Row) → slice_get rows i ≡ Some r → is_seen s r.1.window.name ≡ true

row-of : (key : List ℕ) (rows : List Row) (v : Version PageChange) → version_at key rows ≡ Some v → (i : ℕ) × (r : Row) × (slice_get rows i ≡ Some r) × (r.1 ≡ v)
row-of key [] v is = absurd cc
row-of key (x ∷ rows) v is = elim (cases_Bool (bytes_eq x.0 key)) [
  | inl here ↦ (0, x, refl, same_Some x.1 v (rw here at is))
  | inr other ↦ let s = row-of key rows v (rw other at is) in (suc s.0, s.1, s.2, s.3)
]

shown-from : (key : List ℕ) (rows : List Row) (v : Version Change) → shown_at key rows ≡ Some v → (i : ℕ) × (r : Row) × (slice_get rows i ≡ Some r) × (version_in r.1 ≡ v)
shown-from key rows v is = by (version_at key rows) refl where
  by : (o : Option (Version PageChange)) → version_at key rows ≡ o → (i : ℕ) × (r : Row) × (slice_get rows i ≡ Some r) × (version_in r.1 ≡ v)
  by None none = let clash : None ≡ Some v = sym (ap (option_map version_in) none) ∙ is in absurd cc
  by (Some p) some = let s = row-of key rows p some in
      (s.0, s.1, s.2, ap version_in s.3 ∙ same_Some (version_in p) v (sym (ap (option_map version_in) some) ∙ is))

-- ---- both

pub all-seen : (s : Sight) (held : HeldLeaf) → AllSeen s held.chains → RowsSeen s held.page → AllHeldSeen s held
all-seen s held updates rows key v there = elim (member-append v (versions (chain_at key held.chains)) (option_to_list (shown_at key held.page)) there) [
  | inl at ↦ let u = version-from (chain_at key held.chains) v at in subst (λ (x : Version Change). is_seen s x.window.name ≡ true) u.2 (updates u.0 (key, u.1))
  | inr at ↦ let r = shown-from key held.page v (member-cell (shown_at key held.page) v at) in subst (λ (x : Version Change). is_seen s x.window.name ≡ true) r.3 (rows r.0 r.1 r.2)
]

-- an update that is not seen
update-unseen : (s : Sight) (held : HeldLeaf) (id : ℕ) → IsLeastUnseen s held.chains id → HoldsUnseen s held id
update-unseen s held id least = record {
  key = least.there.0;
  version = least.update.version;
  there = member-append-left least.update.version (versions (chain_at least.there.0 held.chains)) (option_to_list (shown_at least.there.0 held.page)) (version-to (chain_at least.there.0 held.chains) least.update least.there.1);
  unseen = least.unseen;
  is = least.is;
}

-- it is the least
pub updates-unseen : (s : Sight) (held : HeldLeaf) (id : ℕ) → IsLeastUnseen s held.chains id → HoldsLeastUnseen s held id
updates-unseen s held id least = record { holds = update-unseen s held id least; least = least.least }

-- a row that is not
pub row-unseen : (s : Sight) (held : HeldLeaf) (id : ℕ) → AreFit held.page → ((i : ℕ) × (r : Row) × (slice_get held.page i ≡ Some r) × (is_seen s r.1.window.name ≡ false) × (r.1.window.name.id ≡ id)) → HoldsUnseen s held id
row-unseen s held id fit row = record {
  key = row.1.0;
  version = version_in row.1.1;
  there = member-append-right (version_in row.1.1) (versions (chain_at row.1.0 held.chains)) (option_to_list (shown_at row.1.0 held.page)) (cell-member (shown_at row.1.0 held.page) (version_in row.1.1) (shows_row held.page row.0 row.1 fit.ascend row.2));
  unseen = row.3;
  is = row.4;
}

-- where one is told, and each update is seen
pub rows-unseen : (s : Sight) (held : HeldLeaf) (page : List Row) (told : Option ℕ) → page ≡ held.page → AreFit held.page → AllSeen s held.chains
    → IfSome told (λ id. (i : ℕ) × (r : Row) × (slice_get page i ≡ Some r) × (is_seen s r.1.window.name ≡ false) × (r.1.window.name.id ≡ id)) → IfSome told (λ id. HoldsLeastUnseen s held id)
rows-unseen s held page None is fit all row = tt
rows-unseen s held page (Some id) is fit all row = record {
  holds = row-unseen s held id fit (row.0, row.1, subst (λ (rows : List Row). slice_get rows row.0 ≡ Some row.1) is row.2, row.3, row.4);
  least = λ u has unseen. absurd (both_ways (is_seen s u.version.window.name) unseen (all u has));
}
