-- What an engine has of each key serves the checkpoint that runs.
use Rattle.std.specs.Prelude.{◌≡◌, ℕ, ◌==◌, ◌++◌, not, List, [], Option, Some, None, option_and_then, option_map}
use Rattle.std.specs.List.{Contains}
use Rattle.std.proofs.Common.{inl, inr, sym, ◌∙◌, ap, subst}
use Rattle.std.proofs.lemmas.Bool.{and_parts, eqb-true}
use Rattle.item.specs.declared.Change.{Change}
use Rattle.stamp.specs.declared.Version.{Version}
use Rattle.kv_model.specs.Captures.{CapturedIn}
use Rattle.kv_model.specs.Machine.{Checkpoint, Machine}
use Rattle.kv_model.specs.StoreLaws.{Held}
use Rattle.kv_model.proofs.CapturedKeys.{leaf-is-held}
use Rattle.kv_model.proofs.ReconciledKeys.{capture-is-held}
use Rattle.kv_model.proofs.SweptKeys.{adds-hold}
use Rattle.reconcile.proofs.Sifting.{keys-reconciled}
use Rattle.reconcile.specs.Held.{held_at, is_past, moved_of}
use Rattle.reconcile.specs.Shows.{shown_at}
use Rattle.row_page.specs.Rows.{is_below}
use Rattle.txn_table.specs.Tabled.{floor_of, pin_of}
use Rattle.txn_table.proofs.Capturing.{ended-are-seen}
use Rattle.txn_table.proofs.Pasts.{pasts-stand}
use Rattle.leaf_chains.specs.Slots.{chain_at}
use Rattle.leaf_frame.specs.Leaf.{HeldLeaf}
use Rattle.tree_dir.specs.declared.leaf.Framed.{Framed}
use Rattle.tree_dir.specs.declared.leaf.Leaf.{Leaf}
use Rattle.tree_dir.specs.Leaves.{leaf_under}
use Rattle.call_steps.specs.declared.frame.Frame.{Frame}
use Rattle.engine_world.specs.Leaves.{LeafInFrame, LeafOnDevice, frame_in}
use Rattle.engine_world.specs.Stands.{Engine, Stands}
use Rattle.engine_world.specs.Worlds.{World}
use Rattle.engine.proofs.Evictions.{past-is}
use Rattle.engine.specs.Running.{IsRunning, recorded, sight_of_running}
use Rattle.engine.specs.declared.running_checkpoint.RunningCheckpoint.{RunningCheckpoint}
use Rattle.hist_gather.specs.Sources.{cell_in, ended_sight, held_by, sees}
use Rattle.hist_gather.proofs.KeyGathered.{Laws, device-held, frame-held}
use Rattle.hist_gather.proofs.Then.{then_place}
use Rattle.ckpt_step.specs.Moments.{CellsServe, Moment, Serves, moment_of}
use Rattle.ckpt_step.proofs.Members.{some_same}
use Rattle.ckpt_step.proofs.TableLeaves.{contains_of, member_of, under_in, under_some}

laws : Laws
laws = record { captures = capture-is-held; rests = leaf-is-held; adds = adds-hold; reconciled = keys-reconciled }

module _ (e : Engine) (w : World) (c : Checkpoint) (running : RunningCheckpoint) (st : Stands e w) (runs : w.machine.checkpoint ≡ Some c) (is : IsRunning w.machine c running) where
  abbrev m : Machine
  m = w.machine

  -- the cell of a leaf, beside whatever the history keeps
  abbrev IsCell : Leaf → List ℕ → Type 0
  IsCell l key = (older : List (Version Change)) × CapturedIn m c l.table key (cell_in (ended_sight e) (w.shelf l.id) (held_by e l) key) (Held older)

  framed : (l : Leaf) → LeafInFrame m w.shelf w.records e.hub.dir.leaves e.pieces e.states l → (key : List ℕ) → leaf_under l.table key e.hub.dir.leaves ≡ Some l → IsCell l key
  framed l f key lies =
      let held = f.laid.frame.leaf in
      let pin = pin_of e.hub.txns e.hub.stamps.oldest (recorded (Some running)) in
      let floor = floor_of e.hub.txns (sight_of_running (Some running)) in
      let there : held_by e l ≡ Some held = ap (option_and_then (λ (framed : Framed). option_map (λ (g : Frame). g.leaf) (frame_in e.pieces framed.frame))) f.laid.placed ∙ ap (option_map (λ (g : Frame). g.leaf)) f.laid.there in
      let cell = ap (λ (o : Option HeldLeaf). cell_in (ended_sight e) (w.shelf l.id) o key) there in
      let older = moved_of (sees (ended_sight e)) (is_past pin floor) (held_at key held.page held.chains) ++ [] in (
        older,
        subst (λ (o : Option (Version Change)). CapturedIn m c l.table key o (Held older)) (sym cell)
            (frame-held laws m c st.valid runs is.ended l.table key (chain_at key held.chains) (shown_at key held.page) (f.keys key lies) (ended_sight e) (ended-are-seen e.hub.txns m st.valid st.txns) pin floor (past-is pasts-stand e w (Some running) st (c, runs, is) l.table key)),
      )

  laid : (l : Leaf) → LeafOnDevice m w.shelf w.records e.hub.dir.leaves l → (key : List ℕ) → leaf_under l.table key e.hub.dir.leaves ≡ Some l → IsCell l key
  laid l f key lies =
      let away : held_by e l ≡ None = ap (option_and_then (λ (framed : Framed). option_map (λ (g : Frame). g.leaf) (frame_in e.pieces framed.frame))) f.none in
      let cell = ap (λ (o : Option HeldLeaf). cell_in (ended_sight e) (w.shelf l.id) o key) away in
      let older = w.records l.id key ++ [] in
      (older, subst (λ (o : Option (Version Change)). CapturedIn m c l.table key o (Held older)) (sym cell) (device-held laws m c st.valid runs is.ended l.table key (shown_at key (w.shelf l.id)) (w.records l.id key) (f.keys key lies)))

  is_cell : (l : Leaf) → Contains e.hub.dir.leaves l → (key : List ℕ) → leaf_under l.table key e.hub.dir.leaves ≡ Some l → IsCell l key
  is_cell l there key lies = elim (st.leaves l there) [ inl f ↦ framed l f key lies | inr f ↦ laid l f key lies ]

  abbrev pub n : Moment
  n = moment_of e w c

  serves : (table : ℕ) (key : List ℕ) (l : Leaf) → l.table ≡ table → leaf_under table key e.hub.dir.leaves ≡ Some l → IsCell l key → Serves n table key (n.cells table key)
  serves table key l own under cell =
      let is : n.cells table key ≡ cell_in (ended_sight e) (w.shelf l.id) (held_by e l) key = ap (λ (o : Option Leaf). option_and_then (λ (l : Leaf). cell_in (ended_sight e) (w.shelf l.id) (held_by e l) key) o) under in
      let captured : CapturedIn m c table key (n.cells table key) (Held cell.0) = subst (λ (o : Option (Version Change)). CapturedIn m c table key o (Held cell.0)) (sym is) (subst (λ (t : ℕ). CapturedIn m c t key (cell_in (ended_sight e) (w.shelf l.id) (held_by e l) key) (Held cell.0)) own cell.1) in
      record {
        there = captured.cell_there;
        top = captured.top;
        below = λ v x at also. inl (some_same (sym at ∙ also));
      }

  -- of each key of the tables that stood then
  pub cells_serve : CellsServe n
  cells_serve t there key =
      let place = then_place m c e.hub.tables.tables st.valid runs st.made t there in
      let begun = st.begun place.0 t place.2 in
      let some = under_some t.number key e.hub.dir.leaves begun.0 st.dir.begins (member_of e.hub.dir.leaves begun.0 begun.1) begun.2 in
      let l = some.0 in
      let in_it = under_in t.number key e.hub.dir.leaves l some.1 in
      let own : l.table ≡ t.number = eqb-true l.table t.number (and_parts (l.table == t.number) (not (is_below key l.entry.key)) in_it.1).0 in
      serves t.number key l own some.1 (is_cell l (contains_of e.hub.dir.leaves l in_it.0) key (ap (λ (n : ℕ). leaf_under n key e.hub.dir.leaves) own ∙ some.1))
