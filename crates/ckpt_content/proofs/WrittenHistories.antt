-- The records that are written of a history in memory.
use Rattle.std.proofs.Common.{◌≡◌, ◌∙◌, ℕ, Bool, true, List, [], ◌∷◌, Option, map, refl, sym, ap, subst, inl, inr}
use Rattle.std.specs.Prelude.{◌==◌, bytes_eq}
use Rattle.std.proofs.lemmas.Bool.{and_parts, cases_Bool, eqb-true}
use Rattle.item.specs.declared.Change.{Change}
use Rattle.stamp.specs.declared.Version.{Version}
use Rattle.kv_model.specs.Captures.{Captured}
use Rattle.kv_model.specs.Holds.{Member}
use Rattle.kv_model.specs.History.{Placed, has_table, is_at, tables}
use Rattle.kv_model.specs.Ordered.{Older}
use Rattle.kv_model.specs.StoreLaws.{Held}
use Rattle.kv_model.proofs.ContentKeys.{at-there, of-key-into}
use Rattle.kv_model.proofs.Opening.{at-placed, of-key-from}
use Rattle.row_page.specs.Changes.{version_in}
use Rattle.stored.specs.HistoryTree.{HistoryRecord, record_in}
use Rattle.hist_store.specs.declared.key_history.KeyHistory.{KeyHistory}
use Rattle.hist_store.specs.Versions.{is_of, versions_of}
use Rattle.hist_pages.specs.Records.{AreRecordsOf, record_of}
use Rattle.hist_pages.proofs.Members.{mapped_member, member_mapped}
use Rattle.hist_pages.proofs.Telling.{version_back}
use Rattle.ckpt_content.specs.Checkpoints.{records_at}
use Rattle.ckpt_content.specs.Laws.{WrittenHistoriesServe}

-- which versions a history has is all that counts
pub captured_alike : {A : Type 0} (Below : A → A → Type 0) (seen low : A → Bool) (l : List A) (cell : Option A) (One Other : A → Type 0) → ((x : A) → One x → Other x) → ((x : A) → Other x → One x)
    → Captured Below seen low l cell One → Captured Below seen low l cell Other
captured_alike Below seen low l cell One Other into back c = record {
  cell_there = c.cell_there;
  within = λ x at. c.within x (back x at);
  all = λ x there sees. elim (c.all x there sees) [
    | inl held ↦ inl (elim held [ inl is ↦ inl is | inr at ↦ inr (into x at) ])
    | inr covered ↦ inr covered
  ];
  top = c.top;
}

-- where a key has versions, there is a slot of its table
slot_there : (table : ℕ) (key : List ℕ) (v : Version Change) (slots : List KeyHistory) → Member v (versions_of table key slots) → (h : KeyHistory) × Member h slots × (h.table ≡ table)
slot_there table key v [] there = absurd there
slot_there table key v (h ∷ slots) there = elim (cases_Bool (is_of table key h)) [
  | inl own ↦ (h, inl refl, eqb-true h.table table (and_parts (h.table == table) (bytes_eq h.key key) own).0)
  | inr other ↦ (let g = slot_there table key v slots (rw other at there) in (g.0, inr g.1, g.2))
]

module _ (slots : List KeyHistory) (records : List HistoryRecord) (are : AreRecordsOf slots records) where
  -- a version of a slot has a record
  written : (table : ℕ) (key : List ℕ) (v : Version Change) → Member v (versions_of table key slots) → Member v (records_at table key records)
  written table key v there =
      subst (λ (w : Version Change). Member w (records_at table key records)) (version_back table key v)
      (of-key-into table key (map {A = HistoryRecord} record_in records) (record_in (record_of table key v))
      (member_mapped {A = HistoryRecord} record_in (record_of table key v) records (are.all table key v there)) (at-there table key (record_in (record_of table key v)) refl refl))

  -- and a record is of a version of its slot
  of_slot : (table : ℕ) (key : List ℕ) (v : Version Change) → Member v (records_at table key records) → Member v (versions_of table key slots)
  of_slot table key v there =
      let p = of-key-from table key (map {A = HistoryRecord} record_in records) v there in
      let r = mapped_member {A = HistoryRecord} record_in p.0 records p.1 in
      let at = at-placed table key (record_in r.0) (subst (λ (q : Placed). is_at table key q ≡ true) r.2 p.2) in
      subst (λ (n : ℕ). Member v (versions_of n key slots)) at.0
      (subst (λ (k : List ℕ). Member v (versions_of r.0.table k slots)) at.1
      (subst (λ (w : Version Change). Member w (versions_of r.0.table r.0.key slots)) (sym (p.3 ∙ ap (λ (q : Placed). q.version) r.2)) (are.only r.0 r.1)))

pub written_histories_serve : WrittenHistoriesServe
written_histories_serve m slots records are older placed = record {
  older = λ t there key. captured_alike Older _ _ _ _ (Held (versions_of t.number key slots)) (Held (records_at t.number key records))
      (written slots records are t.number key) (of_slot slots records are t.number key) (older t there key);
  known = λ r there.
      let h = slot_there r.table r.key (version_in r.version) slots (are.only r there) in
      subst (λ (n : ℕ). has_table (tables m.history) n ≡ true) h.2 (placed h.0 h.1);
}
