-- What an engine has of the keys of a leaf, and what serves as the leaf's rows.
use Rattle.std.specs.Prelude.{◌≡◌, ℕ, List, [], ◌∷◌, ◌++◌, find, Option, Some, None, option_and_then, option_map, refl}
use Rattle.std.specs.Option.{option_to_list}
use Rattle.std.proofs.Common.{inl, inr, sym, ◌∙◌, ap, subst}
use Rattle.std.proofs.lemmas.Bool.{cases_Bool}
use Rattle.item.specs.declared.Change.{Change}
use Rattle.stamp.specs.declared.Name.{Name}
use Rattle.stamp.specs.declared.Version.{Version}
use Rattle.kv_model.specs.History.{Table}
use Rattle.kv_model.specs.Holds.{Member}
use Rattle.row_page.specs.Rows.{Row}
use Rattle.reconcile.specs.Held.{held_at, versions}
use Rattle.reconcile.specs.Shows.{shown_at}
use Rattle.snapshot.specs.Sight.{Sight, is_seen}
use Rattle.update_chain.specs.declared.update.Update.{Update}
use Rattle.leaf_chains.specs.Slots.{chain_at}
use Rattle.leaf_frame.specs.Leaf.{HeldLeaf}
use Rattle.frame_capture.specs.Capture.{captured_over}
use Rattle.tree_dir.specs.declared.leaf.Framed.{Framed}
use Rattle.tree_dir.specs.declared.leaf.Leaf.{Leaf}
use Rattle.tree_dir.specs.Leaves.{leaf_under}
use Rattle.call_steps.specs.declared.frame.Frame.{Frame}
use Rattle.engine_world.specs.Leaves.{frame_in}
use Rattle.engine_world.specs.Stands.{Engine}
use Rattle.ckpt_content.specs.Finished.{tables_then}
use Rattle.hist_gather.specs.Sources.{cell_in, ended_sight, held_by, sees}
use Rattle.ckpt_step.specs.Moments.{AreServedIn, Cells, IsMoment, Moment, Serves}
use Rattle.ckpt_step.specs.Steps.{IsLoaded}

-- what is captured of a chain over a row is the newest of both that is seen
captured_find : (s : Sight) (chain : List Update) (row : Option (Version Change)) → captured_over s chain row ≡ find (sees s) (versions chain ++ option_to_list row)
captured_find s [] None = refl
captured_find s [] (Some v) = elim (cases_Bool (is_seen s v.window.name)) [ inl seen ↦ rw seen refl | inr unseen ↦ rw unseen refl ]
captured_find s (u ∷ older) row = elim (cases_Bool (is_seen s u.version.window.name)) [ inl seen ↦ rw seen refl | inr unseen ↦ rw unseen (captured_find s older row) ]

module _ (e : Engine) (s : Sight) (floor : Name) (n : Moment) (moment : IsMoment e s floor n) (t : Table) (stood : Member t (tables_then n.world.machine n.checkpoint)) (l : Leaf) where
  abbrev leaves : List Leaf
  leaves = e.hub.dir.leaves

  -- what it has of a key is what its leaf has
  cell_of : (held : Option HeldLeaf) (key : List ℕ) → leaf_under t.number key leaves ≡ Some l → held_by e l ≡ held → n.cells t.number key ≡ cell_in (ended_sight e) (n.world.shelf l.id) held key
  cell_of held key under has =
      ap (λ (cells : Cells). cells t.number key) moment.cells
      ∙ (ap (option_and_then (λ (x : Leaf). cell_in (ended_sight e) (n.world.shelf x.id) (held_by e x) key)) under
      ∙ ap (λ (o : Option HeldLeaf). cell_in (ended_sight e) (n.world.shelf l.id) o key) has)

  -- in no frame: the row of its block
  pub cell_laid : (key : List ℕ) → leaf_under t.number key leaves ≡ Some l → l.frame ≡ None → n.cells t.number key ≡ shown_at key (n.world.shelf l.id)
  cell_laid key under none = cell_of None key under (ap (option_and_then (λ (framed : Framed). option_map (λ (f : Frame). f.leaf) (frame_in e.pieces framed.frame))) none)

  -- in a frame: what is captured of it
  pub cell_held : (held : HeldLeaf) (key : List ℕ) → leaf_under t.number key leaves ≡ Some l → IsLoaded e l held → n.cells t.number key ≡ captured_over s (chain_at key held.chains) (shown_at key held.page)
  cell_held held key under loaded =
      cell_of (Some held) key under is
      ∙ (ap (λ (x : Sight). find (sees x) (held_at key held.page held.chains)) (sym moment.sight)
      ∙ sym (captured_find s (chain_at key held.chains) (shown_at key held.page)))
    where
      is : held_by e l ≡ Some held
      is =
          ap (option_and_then (λ (framed : Framed). option_map (λ (f : Frame). f.leaf) (frame_in e.pieces framed.frame))) loaded.placed
          ∙ (ap (option_map (λ (f : Frame). f.leaf)) loaded.there ∙ ap (λ (h : HeldLeaf). Some h) (sym loaded.is))

  -- rows that show it serve
  pub cells_serve : (rows : List Row) → ((key : List ℕ) → leaf_under t.number key leaves ≡ Some l → shown_at key rows ≡ n.cells t.number key) → AreServedIn n leaves t.number l rows
  cells_serve rows same key under = subst (λ (o : Option (Version Change)). Serves n t.number key o) (sym (same key under)) (moment.serve t stood key)
