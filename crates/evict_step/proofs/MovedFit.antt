-- Versions that move fit a row of their key, as each that is held does.
use Rattle.std.proofs.Common.{◌≡◌, ℕ, Bool, refl, sym, List, [], ◌∷◌, inl, inr, subst}
use Rattle.std.specs.Prelude.{Some, bytes_eq, filter}
use Rattle.std.specs.List.{AllByRecursion}
use Rattle.std.specs.Option.{option_to_list}
use Rattle.std.proofs.lemmas.Bool.{cases_Bool}
use Rattle.std.proofs.lemmas.Option.{same_Some}
use Rattle.item.specs.declared.Change.{Change}
use Rattle.stamp.specs.declared.Version.{Version}
use Rattle.kv_model.specs.History.{down_to}
use Rattle.kv_model.specs.Holds.{Member}
use Rattle.kv_model.proofs.Finishing.{member-append}
use Rattle.kv_model.proofs.ReconciledKeys.{member-cell}
use Rattle.row_page.specs.Changes.{version_in}
use Rattle.row_page.specs.Rows.{Row, RowFits, key_most}
use Rattle.leaf_rows.specs.Rows.{AreFit}
use Rattle.reconcile.specs.Shows.{shown_at}
use Rattle.reconcile.proofs.Keyed.{key_self, same_key}
use Rattle.update_chain.specs.declared.update.Update.{Update}
use Rattle.leaf_chains.specs.declared.slot.KeyChain.{KeyChain}
use Rattle.leaf_chains.specs.Slots.{chain_at}
use Rattle.reconcile.specs.Capture.{ChainFits, ChainsFit}
use Rattle.reconcile.specs.Cells.{cell_version}
use Rattle.reconcile.specs.declared.image.Moved.{Moved}
use Rattle.reconcile.specs.Held.{held_at, moved_of, versions}
use Rattle.reconcile.specs.Moving.{versions_in}
use Rattle.reconcile.proofs.Sifting.{down_member, drop_member, filter_member}
use Rattle.evict_step.specs.Backs.{AllFit}
use Rattle.evict_step.proofs.BroughtBack.{same-row}

-- ---- what is held

chain-fits : (key : List ℕ) (chain : List Update) → ChainFits key chain → (v : Version Change) → Member v (versions chain) → RowFits [] key_most (key, cell_version v)
chain-fits key [] fit v there = absurd there
chain-fits key (u ∷ older) fit v (inl same) = subst (λ (x : Version Change). RowFits [] key_most (key, cell_version x)) (sym same) fit.0
chain-fits key (u ∷ older) fit v (inr later) = chain-fits key older fit.1 v later

shown-fits : (key : List ℕ) (rows : List Row) → AllByRecursion (λ (r : Row). RowFits [] key_most r) rows → (v : Version Change) → shown_at key rows ≡ Some v → RowFits [] key_most (key, cell_version v)
shown-fits key [] fit v is = absurd cc
shown-fits key (r ∷ rows) fit v is = elim (cases_Bool (bytes_eq r.0 key)) [
  | inl t ↦ let found : Some (version_in r.1) ≡ Some v = rw t at is in
      subst (λ (k : List ℕ). RowFits [] key_most (k, cell_version v)) (same_key r.0 key t)
      (subst (λ (x : Version Change). RowFits [] key_most (r.0, cell_version x)) (same_Some (version_in r.1) v found) (subst (λ (x : Row). RowFits [] key_most x) (same-row r) fit.0))
  | inr f ↦ shown-fits key rows fit.1 v (rw f at is)
]

held-fits : (key : List ℕ) (page : List Row) (chains : List KeyChain) → AreFit page → ChainsFit chains → (v : Version Change) → Member v (held_at key page chains) → RowFits [] key_most (key, cell_version v)
held-fits key page chains rows fit v there = elim (member-append v (versions (chain_at key chains)) (option_to_list (shown_at key page)) there) [
  | inl at ↦ chain-fits key (chain_at key chains) (fit key) v at
  | inr at ↦ shown-fits key page rows.fit v (member-cell (shown_at key page) v at)
]

-- ---- what moves

moved-there : (m : Moved) (moved : List Moved) → Member m moved → Member m.version (versions_in m.key moved)
moved-there m [] there = absurd there
moved-there m (x ∷ moved) (inl same) = subst (λ (y : Moved). Member m.version (versions_in m.key (y ∷ moved))) same (rw (key_self m.key) (inl refl))
moved-there m (x ∷ moved) (inr later) = elim (cases_Bool (bytes_eq x.key m.key)) [
  | inl is ↦ rw is (inr (moved-there m moved later))
  | inr isnt ↦ rw isnt (moved-there m moved later)
]

all-from : (P : Moved → Type 0) (l : List Moved) → ((m : Moved) → Member m l → P m) → AllByRecursion P l
all-from P [] each = tt
all-from P (m ∷ l) each = (each m (inl refl), all-from P l (λ x there. each x (inr there)))

pub moved-fit : (live past : Version Change → Bool) (page : List Row) (chains : List KeyChain) (moved : List Moved) → AreFit page → ChainsFit chains → ((key : List ℕ) → versions_in key moved ≡ moved_of live past (held_at key page chains)) → AllFit moved
moved-fit live past page chains moved rows fit are = all-from (λ (m : Moved). RowFits [] key_most (m.key, cell_version m.version)) moved (λ m there.
    let held = held_at m.key page chains in
    let among : Member m.version (moved_of live past held) = subst (λ (l : List (Version Change)). Member m.version l) (are m.key) (moved-there m moved there) in
    held-fits m.key page chains rows fit m.version (filter_member live held m.version (down_member past (filter live held) m.version (drop_member (down_to past (filter live held)) m.version among))).0)
