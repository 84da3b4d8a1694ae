-- What is gathered of one leaf.
use Rattle.std.specs.Prelude.{◌≡◌, ℕ, Bool, List, [], ◌++◌, Option, Some, None, refl}
use Rattle.std.specs.Option.{option_to_list}
use Rattle.std.proofs.Common.{inl, inr, sym, ◌∙◌, ap}
use Rattle.std.proofs.lemmas.Bool.{cases_Bool}
use Rattle.item.specs.declared.Change.{Change}
use Rattle.stamp.specs.declared.Version.{Version}
use Rattle.reconcile.specs.Shows.{shown_at}
use Rattle.update_chain.specs.declared.update.Update.{Update}
use Rattle.leaf_chains.specs.Slots.{chain_at}
use Rattle.reconcile.specs.Held.{is_past, moved_of, versions}
use Rattle.reconcile.specs.declared.image.Moved.{Moved}
use Rattle.reconcile.specs.Moving.{versions_in}
use Rattle.leaf_frame.specs.Leaf.{HeldLeaf}
use Rattle.tree_dir.specs.declared.leaf.Leaf.{Leaf}
use Rattle.evict_step.specs.Kept.{list_of}
use Rattle.hist_gather.specs.declared.source.Source.{Source}
use Rattle.hist_gather.specs.Sources.{held_by, moved_at, older_at, older_in, sees}

-- a version alone is the newest, and none lies below it
alone : (live past : Version Change → Bool) (o : Option (Version Change)) → moved_of live past (option_to_list o) ≡ []
alone live past None = refl
alone live past (Some v) = elim (cases_Bool (live v)) [
  | inr dead ↦ rw dead refl
  | inl is ↦ rw is (elim (cases_Bool (past v)) [ inl old ↦ rw old refl | inr new ↦ rw new refl ])
]

-- so where no key has an update
pub none_moved : (from : Source) (held : HeldLeaf) (key : List ℕ) → chain_at key held.chains ≡ [] → [] ≡ moved_at from held key
none_moved from held key none =
    let live = sees from.snapshot.now.sight in
    let past = is_past from.horizon.pin from.horizon.floor in
    sym (ap (λ (c : List Update). moved_of live past (versions c ++ option_to_list (shown_at key held.page))) none ∙ alone live past (shown_at key held.page))

-- of a leaf in a frame
pub older_moved : (from : Source) (l : Leaf) (held : HeldLeaf) (older : List Moved) → Some held ≡ held_by from.engine.now l → ((key : List ℕ) → versions_in key older ≡ moved_at from held key) → (key : List ℕ) → versions_in key older ≡ older_at from l key
older_moved from l held older is moved key = moved key ∙ ap (λ (o : Option HeldLeaf). older_in from l.id o key) is

-- of any other
pub older_kept : (from : Source) (l : Leaf) (older : List Moved) → None ≡ held_by from.engine.now l → older ≡ list_of from.kept.now l.id → (key : List ℕ) → versions_in key older ≡ older_at from l key
older_kept from l older is kept key = ap (versions_in key) kept ∙ ap (λ (o : Option HeldLeaf). older_in from l.id o key) is
