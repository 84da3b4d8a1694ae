-- What is gathered of all leaves is what a running checkpoint wants.
use Rattle.std.specs.Prelude.{◌≡◌, ◌⊎◌, ℕ, ◌<◌, List, [], ◌∷◌, ◌++◌, find, length, Option, Some, None, option_and_then, option_map, slice_get, refl}
use Rattle.std.specs.List.{Contains}
use Rattle.std.specs.Option.{option_to_list}
use Rattle.std.proofs.Common.{inl, inr, sym, ◌∙◌, ap, subst, arith}
use Rattle.std.proofs.lemmas.List.{append-nil}
use Rattle.std.proofs.lemmas.Option.{same_Some}
use Rattle.item.specs.declared.Change.{Change}
use Rattle.stamp.specs.declared.Version.{Version}
use Rattle.kv_model.specs.Captures.{CapturedIn}
use Rattle.kv_model.specs.Holds.{Member}
use Rattle.kv_model.specs.History.{Table, line}
use Rattle.kv_model.specs.Machine.{Checkpoint, Machine}
use Rattle.kv_model.specs.Reconciling.{PrefixHasEnded}
use Rattle.kv_model.specs.StoreLaws.{Held}
use Rattle.kv_model.specs.SweepLaws.{Added}
use Rattle.reconcile.specs.Shows.{shown_at}
use Rattle.snapshot.specs.Sight.{Sight}
use Rattle.update_chain.specs.declared.update.Update.{Update}
use Rattle.leaf_chains.specs.Slots.{chain_at}
use Rattle.reconcile.specs.Held.{held_at, is_past, moved_of, versions}
use Rattle.reconcile.specs.Moving.{versions_in}
use Rattle.leaf_frame.specs.Leaf.{HeldLeaf}
use Rattle.tree_dir.specs.declared.leaf.Framed.{Framed}
use Rattle.tree_dir.specs.declared.leaf.Leaf.{Leaf}
use Rattle.tree_dir.specs.Leaves.{Directory, leaf_under}
use Rattle.call_steps.specs.declared.frame.Frame.{Frame}
use Rattle.engine_world.specs.Leaves.{LeafInFrame, LeafOnDevice, frame_in}
use Rattle.engine_world.specs.Stands.{Engine, Stands}
use Rattle.engine_world.specs.Worlds.{World}
use Rattle.engine_world.proofs.Homes.{LiesIn, lies-or-not}
use Rattle.evict_step.specs.Kept.{KeepsThese, but_rows, list_of, records_in}
use Rattle.evict_step.proofs.Again.{other_or_row, others_among}
use Rattle.hist_store.specs.declared.key_history.KeyHistory.{KeyHistory}
use Rattle.hist_store.specs.Versions.{versions_of}
use Rattle.ckpt_content.specs.Finished.{tables_then}
use Rattle.hist_gather.specs.declared.source.Source.{Source}
use Rattle.hist_gather.specs.Added.{HasMore}
use Rattle.hist_gather.specs.Sources.{HaveTaken, IsTaken, OfPlaces, cell_in, ended_sight, held_by, moved_at, older_at, older_in, sees}
use Rattle.hist_gather.proofs.KeyGathered.{Laws, device-held, frame-held, set-held, wider-held}
use Rattle.hist_gather.proofs.Members.{in_front, in_table, table_in}
use Rattle.hist_gather.proofs.Then.{then_place}

no-member : (l : List (Version Change)) → ((v : Version Change) → Member v l → ⊥) → l ≡ []
no-member [] none = refl
no-member (v ∷ l) none = absurd (none v (inl refl))

module _ (laws : Laws) (from : Source) (w : World) (c : Checkpoint) (st : Stands from.engine.now w) (keeps : KeepsThese w from.kept.now) (runs : w.machine.checkpoint ≡ Some c) (ended : PrefixHasEnded w.machine c) (taken : IsTaken w.machine from.snapshot.now.sight from.horizon) where
  abbrev e : Engine
  e = from.engine.now

  abbrev m : Machine
  m = w.machine

  abbrev d : Directory
  d = e.hub.dir

  abbrev cell : Leaf → List ℕ → Option (Version Change)
  cell l key = cell_in from.snapshot.now.sight (w.shelf l.id) (held_by e l) key

  -- what is gathered of a key is captured with the cell of its leaf
  abbrev IsCaptured : Leaf → ℕ → List ℕ → List (Version Change) → Type 0
  IsCaptured l table key older = CapturedIn m c table key (cell l key) (Held older)

  -- ---- a leaf in a frame

  module _ (l : Leaf) (f : LeafInFrame m w.shelf w.records d.leaves e.pieces e.states l) where
    abbrev held : HeldLeaf
    held = f.laid.frame.leaf

    there : held_by e l ≡ Some held
    there = ap (option_and_then (λ (framed : Framed). option_map (λ (g : Frame). g.leaf) (frame_in e.pieces framed.frame))) f.laid.placed ∙ ap (option_map (λ (g : Frame). g.leaf)) f.laid.there

    older-framed : (key : List ℕ) → older_at from l key ≡ moved_at from held key
    older-framed key = ap (λ (o : Option HeldLeaf). older_in from l.id o key) there

    cell-framed : (key : List ℕ) → cell l key ≡ find (sees from.snapshot.now.sight) (held_at key held.page held.chains)
    cell-framed key = ap (λ (o : Option HeldLeaf). cell_in from.snapshot.now.sight (w.shelf l.id) o key) there

    framed-own : (key : List ℕ) → LiesIn d.leaves l key → IsCaptured l l.table key (older_at from l key ++ [])
    framed-own key lies = subst (λ (o : Option (Version Change)). CapturedIn m c l.table key o (Held (older_at from l key ++ []))) (sym (cell-framed key))
        (subst (λ (older : List (Version Change)). CapturedIn m c l.table key (find (sees from.snapshot.now.sight) (held_at key held.page held.chains)) (Held (older ++ []))) (sym (older-framed key))
        (frame-held laws m c st.valid runs ended l.table key (chain_at key held.chains) (shown_at key held.page) (f.keys key lies) from.snapshot.now.sight taken.ended
        from.horizon.pin from.horizon.floor (taken.past l.table key)))

    framed-other : (key : List ℕ) → (LiesIn d.leaves l key → ⊥) → older_at from l key ≡ []
    framed-other key outside =
        let bare = f.bare key outside in
        let empty : held_at key held.page held.chains ≡ [] = ap (λ (c : List Update). versions c ++ option_to_list (shown_at key held.page)) bare.0 ∙ ap (λ (o : Option (Version Change)). [] ++ option_to_list o) bare.1 in
        older-framed key ∙ ap (moved_of (sees from.snapshot.now.sight) (is_past from.horizon.pin from.horizon.floor)) empty

  -- ---- a leaf in none

  module _ (l : Leaf) (f : LeafOnDevice m w.shelf w.records d.leaves l) where
    abbrev all : List ℕ → List (Version Change)
    all key = records_in from.kept.now l.id key

    away : held_by e l ≡ None
    away = ap (option_and_then (λ (framed : Framed). option_map (λ (g : Frame). g.leaf) (frame_in e.pieces framed.frame))) f.none

    older-kept : (key : List ℕ) → older_at from l key ≡ all key
    older-kept key = ap (λ (o : Option HeldLeaf). older_in from l.id o key) away

    -- its cell is its row
    cell-away : (key : List ℕ) → cell l key ≡ shown_at key (w.shelf l.id)
    cell-away key = ap (λ (o : Option HeldLeaf). cell_in from.snapshot.now.sight (w.shelf l.id) o key) away

    abbrev IsCapturedRow : List ℕ → List (Version Change) → Type 0
    IsCapturedRow key older = CapturedIn m c l.table key (shown_at key (w.shelf l.id)) (Held older)

    -- what the history has of the leaf is kept of it
    among : (key : List ℕ) (v : Version Change) → Member v (w.records l.id key ++ []) → Member v (all key ++ [])
    among key v there =
        in_front (all key) [] v (others_among (w.shelf l.id) (list_of from.kept.now l.id) key v (subst (λ (vs : List (Version Change)). Member v vs) (append-nil (w.records l.id key) ∙ keeps l.id key) there))

    -- what is kept besides is the row of its key
    stands-in : (key : List ℕ) (captured : IsCapturedRow key (w.records l.id key ++ [])) → (v : Version Change) → Member v (all key ++ []) → Member v (line m.history l.table key)
    stands-in key captured v there =
        elim (other_or_row (w.shelf l.id) (list_of from.kept.now l.id) key v (subst (λ (vs : List (Version Change)). Member v vs) (append-nil (all key)) there)) [
          | inl other ↦ captured.within v (in_front (w.records l.id key) [] v (subst (λ (vs : List (Version Change)). Member v vs) (sym (keeps l.id key)) other))
          | inr row ↦ captured.cell_there v row
        ]

    kept-own : (key : List ℕ) → LiesIn d.leaves l key → IsCaptured l l.table key (older_at from l key ++ [])
    kept-own key lies =
        let captured : IsCapturedRow key (w.records l.id key ++ []) = device-held laws m c st.valid runs ended l.table key (shown_at key (w.shelf l.id)) (w.records l.id key) (f.keys key lies) in
        subst (λ (o : Option (Version Change)). CapturedIn m c l.table key o (Held (older_at from l key ++ []))) (sym (cell-away key))
        (subst (λ (older : List (Version Change)). IsCapturedRow key (older ++ [])) (sym (older-kept key))
        (wider-held laws m c st.valid runs ended l.table key (shown_at key (w.shelf l.id)) (w.records l.id key ++ []) (all key ++ []) (among key) (stands-in key captured) captured))

    -- a key that lies elsewhere has no row, and nothing in the history
    kept-other : (key : List ℕ) → (LiesIn d.leaves l key → ⊥) → older_at from l key ≡ []
    kept-other key outside = older-kept key ∙ no-member (all key) (λ v there. none-there v (other_or_row (w.shelf l.id) (list_of from.kept.now l.id) key v there))
      where
        none-there : (v : Version Change) → Member v (versions_in key (but_rows (w.shelf l.id) (list_of from.kept.now l.id))) ⊎ (shown_at key (w.shelf l.id) ≡ Some v) → ⊥
        none-there v (inl other) = subst (λ (vs : List (Version Change)). Member v vs) (sym (keeps l.id key) ∙ (f.bare key outside).1) other
        none-there v (inr row) = let clash : None ≡ Some v = sym (f.bare key outside).0 ∙ row in cc

  -- ---- a leaf

  own : (l : Leaf) → Contains d.leaves l → (key : List ℕ) → LiesIn d.leaves l key → IsCaptured l l.table key (older_at from l key ++ [])
  own l there key lies = elim (st.leaves l there) [ inl f ↦ framed-own l f key lies | inr f ↦ kept-own l f key lies ]

  -- of a key that lies elsewhere it has nothing
  other : (l : Leaf) → Contains d.leaves l → (key : List ℕ) → (LiesIn d.leaves l key → ⊥) → older_at from l key ≡ []
  other l there key outside = elim (st.leaves l there) [ inl f ↦ framed-other l f key outside | inr f ↦ kept-other l f key outside ]

  -- so a key of which it has something lies in it
  lies : (l : Leaf) → Contains d.leaves l → (key : List ℕ) (v : Version Change) → Member v (older_at from l key) → LiesIn d.leaves l key
  lies l there key v has = elim (lies-or-not d l key st.dir there) [
    | inl is ↦ is
    | inr outside ↦ absurd (subst (λ (older : List (Version Change)). Member v older) (other l there key outside) has)
  ]

  -- ---- all leaves

  module _ (count : ℕ) (slots : List KeyHistory) (more : HasMore (OfPlaces from count) [] slots) where
    added : (t : Table) (place : ℕ) → place < count → slice_get e.hub.tables.tables place ≡ Some t → (key : List ℕ) (l : Leaf) → Contains d.leaves l → l.table ≡ t.number → LiesIn d.leaves l key
        → Added [] (older_at from l key) (versions_of t.number key slots)
    added t place within at key l there number home = record {
      fewer = λ v has. in_front (older_at from l key) [] v (elim (more.from t.number key v has) [
        | inl none ↦ absurd none
        | inr of ↦ only v of
      ]);
      old = λ v has. absurd has;
      new = λ v has. more.into t.number key v (place, within, (t, at, (refl, l, table_in t.number d.leaves l there number, has)));
    } where
      only : (v : Version Change) → OfPlaces from count t.number key v → Member v (older_at from l key)
      only v of =
          let n : Leaf = of.2.2.1 in
          let its = in_table of.2.0.number d.leaves n of.2.2.2 in
          let in_its : LiesIn d.leaves n key = lies n its.0 key v of.2.2.3 in
          let one : leaf_under t.number key d.leaves ≡ Some n = ap (λ (k : ℕ). leaf_under k key d.leaves) (of.2.2.0 ∙ sym its.1) ∙ in_its in
          let same : n ≡ l = same_Some n l (sym one ∙ (ap (λ (k : ℕ). leaf_under k key d.leaves) (sym number) ∙ home)) in
          subst (λ (x : Leaf). Member v (older_at from x key)) same of.2.2.3

    of-table : (t : Table) (place : ℕ) → place < count → slice_get e.hub.tables.tables place ≡ Some t → (l : Leaf) → Contains d.leaves l → l.table ≡ t.number → (key : List ℕ) → leaf_under t.number key d.leaves ≡ Some l → IsCaptured l t.number key (versions_of t.number key slots)
    of-table t place within at l there number key under =
        let in_it : LiesIn d.leaves l key = ap (λ (k : ℕ). leaf_under k key d.leaves) number ∙ under in
        let captured : IsCaptured l t.number key (older_at from l key ++ []) = subst (λ (n : ℕ). IsCaptured l n key (older_at from l key ++ [])) number (own l there key in_it) in
        set-held laws m c st.valid runs ended t.number key (cell l key) (older_at from l key) (versions_of t.number key slots) (added t place within at key l there number in_it) captured

    pub gathers : count ≡ length (tables_then m c) → from.snapshot.now.sight ≡ ended_sight e → HaveTaken w c e (λ table key. versions_of table key slots)
    gathers all sight t there l has number key under =
        let at = then_place m c e.hub.tables.tables st.valid runs st.made t there in
        let low = at.1 in
        subst (λ (s : Sight). CapturedIn m c t.number key (cell_in s (w.shelf l.id) (held_by e l) key) (Held (versions_of t.number key slots))) sight
        (of-table t at.0 (omega (arith, low, all)) at.2 l has number key under)
