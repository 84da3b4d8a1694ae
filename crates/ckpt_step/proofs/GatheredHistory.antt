-- The records that are written of what was gathered.
use Rattle.std.proofs.Common.{◌≡◌, ◌∙◌, ℕ, true, List, [], ◌∷◌, length, Option, Some, map, refl, sym, ap, subst, inl, inr}
use Rattle.std.specs.Prelude.{◌==◌, bytes_eq, option_and_then, reverse, slice_get}
use Rattle.std.proofs.lemmas.Bool.{and_parts, cases_Bool, eqb-true}
use Rattle.item.specs.declared.Change.{Change}
use Rattle.stamp.specs.declared.Name.{Name}
use Rattle.stamp.specs.declared.Version.{Version}
use Rattle.kv_model.specs.Captures.{CapturedIn}
use Rattle.kv_model.specs.Holds.{Member}
use Rattle.kv_model.specs.History.{Placed, Table, has_table, is_at}
use Rattle.kv_model.specs.Ordered.{Older}
use Rattle.kv_model.specs.StoreLaws.{Held}
use Rattle.kv_model.proofs.ContentKeys.{at-there, of-key-into}
use Rattle.kv_model.proofs.Opening.{at-placed, of-key-from}
use Rattle.row_page.specs.Changes.{version_in}
use Rattle.stored.specs.HistoryTree.{HistoryRecord, record_in}
use Rattle.hist_store.specs.declared.key_history.KeyHistory.{KeyHistory}
use Rattle.hist_store.specs.Versions.{is_of, versions_of}
use Rattle.hist_pages.specs.Records.{AreRecordsOf, record_of}
use Rattle.hist_pages.proofs.Telling.{version_back}
use Rattle.hist_gather.specs.Added.{AreKnown}
use Rattle.hist_gather.specs.Sources.{HaveTaken, cell_in, ended_sight, held_by}
use Rattle.ckpt_content.specs.Checkpoints.{records_at}
use Rattle.ckpt_content.specs.Finished.{tables_then}
use Rattle.ckpt_content.proofs.WrittenHistories.{captured_alike}
use Rattle.engine.specs.declared.running_checkpoint.RunningCheckpoint.{RunningCheckpoint}
use Rattle.engine_world.specs.Stands.{Engine}
use Rattle.tree_dir.specs.declared.leaf.Leaf.{Leaf}
use Rattle.tree_dir.specs.Leaves.{leaf_under}
use Rattle.ckpt_step.specs.Moments.{Cells, IsFinishing, IsHistoryThen, Moment}
use Rattle.ckpt_step.proofs.FirstOnes.{take_get}
use Rattle.ckpt_step.proofs.Members.{all_of, map_member, member_at, member_map}
use Rattle.ckpt_step.proofs.TableLeaves.{begins_parts, contains_of, member_of, under_in, under_some}
use Rattle.ckpt_step.proofs.Then.{then_first}
use Rattle.ckpt_step.proofs.Turned.{member_turned}

-- where a key has versions, there is a slot of its table
slot_there : (table : ℕ) (key : List ℕ) (v : Version Change) (slots : List KeyHistory) → Member v (versions_of table key slots) → (h : KeyHistory) × Member h slots × (h.table ≡ table)
slot_there table key v [] there = absurd there
slot_there table key v (h ∷ slots) there = elim (cases_Bool (is_of table key h)) [
  | inl own ↦ (h, inl refl, eqb-true h.table table (and_parts (h.table == table) (bytes_eq h.key key) own).0)
  | inr other ↦ (let g = slot_there table key v slots (rw other at there) in (g.0, inr g.1, g.2))
]

module _ (slots : List KeyHistory) (records : List HistoryRecord) (are : AreRecordsOf slots records) where
  -- a version of a slot has a record
  written : (table : ℕ) (key : List ℕ) (v : Version Change) → Member v (versions_of table key slots) → Member v (records_at table key records)
  written table key v there =
      subst (λ (w : Version Change). Member w (records_at table key records)) (version_back table key v)
      (of-key-into table key (map {A = HistoryRecord} record_in records) (record_in (record_of table key v))
      (map_member {A = HistoryRecord} record_in (record_of table key v) records (are.all table key v there)) (at-there table key (record_in (record_of table key v)) refl refl))

  -- and a record is of a version of its slot
  of_slot : (table : ℕ) (key : List ℕ) (v : Version Change) → Member v (records_at table key records) → Member v (versions_of table key slots)
  of_slot table key v there =
      let p = of-key-from table key (map {A = HistoryRecord} record_in records) v there in
      let r = member_map {A = HistoryRecord} record_in p.0 records p.1 in
      let at = at-placed table key (record_in r.0) (subst (λ (q : Placed). is_at table key q ≡ true) r.2 p.2) in
      subst (λ (n : ℕ). Member v (versions_of n key slots)) at.0
      (subst (λ (k : List ℕ). Member v (versions_of r.0.table k slots)) at.1
      (subst (λ (w : Version Change). Member w (versions_of r.0.table r.0.key slots)) (sym (p.3 ∙ ap (λ (q : Placed). q.version) r.2)) (are.only r.0 r.1)))

-- ---- at the moment at which a checkpoint is finished

module _ (e : Engine) (running : RunningCheckpoint) (floor : Name) (n : Moment) (fin : IsFinishing e running floor n) where
  abbrev known : List Table
  known = e.hub.tables.tables

  abbrev begun : List Table
  begun = tables_then n.world.machine n.checkpoint

  -- each table that stood as it started has a place
  place_of : (t : Table) → Member t begun → (place : ℕ) × (slice_get known place ≡ Some t)
  place_of t stood =
      let firsts = then_first n.world.machine n.checkpoint known fin.stands.valid fin.runs fin.stands.made in
      let j = member_at t (reverse begun) (member_turned t begun stood) in
      (j.0, (take_get (length begun) known j.0 t (subst (λ (l : List Table). slice_get l j.0 ≡ Some t) (sym firsts) j.1)).0)

  -- and each of its keys lies in a leaf
  leaf_of : (t : Table) → Member t begun → (key : List ℕ) → (l : Leaf) × (leaf_under t.number key e.hub.dir.leaves ≡ Some l)
  leaf_of t stood key =
      let at = place_of t stood in
      let m = fin.stands.begun at.0 t at.1 in
      under_some t.number key e.hub.dir.leaves m.0 fin.stands.dir.begins (member_of e.hub.dir.leaves m.0 m.1) m.2

  cell_is : (table : ℕ) (key : List ℕ) (l : Leaf) → leaf_under table key e.hub.dir.leaves ≡ Some l → n.cells table key ≡ cell_in (ended_sight e) (n.world.shelf l.id) (held_by e l) key
  cell_is table key l under =
      ap (λ (cells : Cells). cells table key) fin.cells
      ∙ ap (λ (o : Option Leaf). option_and_then (λ (x : Leaf). cell_in (ended_sight e) (n.world.shelf x.id) (held_by e x) key) o) under

  pub history_then : (slots : List KeyHistory) (records : List HistoryRecord) → AreRecordsOf slots records → HaveTaken n.world n.checkpoint e (λ table key. versions_of table key slots) → AreKnown begun slots → IsHistoryThen n records
  history_then slots records are taken placed = record {
    taken = λ t stood key.
        let l = leaf_of t stood key in
        let own = under_in t.number key e.hub.dir.leaves l.0 l.1 in
        let there = taken t stood l.0 (contains_of e.hub.dir.leaves l.0 own.0) (begins_parts t.number key l.0 own.1).0 key l.1 in
        captured_alike Older _ _ _ _ (Held (versions_of t.number key slots)) (Held (records_at t.number key records))
        (written slots records are t.number key) (of_slot slots records are t.number key)
        (subst (λ (o : Option (Version Change)). CapturedIn n.world.machine n.checkpoint t.number key o (Held (versions_of t.number key slots))) (sym (cell_is t.number key l.0 l.1)) there);
    known = λ r there.
        let h = slot_there r.table r.key (version_in r.version) slots (are.only r there) in
        subst (λ (number : ℕ). has_table begun number ≡ true) h.2 (all_of (λ (x : KeyHistory). has_table begun x.table ≡ true) slots h.0 placed h.1);
  }
