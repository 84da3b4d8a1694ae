-- What an opening makes of a key: the line of what is kept.
use Rattle.std.proofs.Common.{◌≡◌, ◌∙◌, ℕ, true, List, [], ◌∷◌, Option, Some, None, refl, sym, ap, subst, inl, inr}
use Rattle.std.specs.Prelude.{filter}
use Rattle.std.proofs.lemmas.Bool.{and_from, both_ways, cases_Bool}
use Rattle.item.specs.declared.Change.{Change}
use Rattle.stamp.specs.declared.Name.{Name}
use Rattle.stamp.specs.declared.Version.{Version}
use Rattle.kv_model.specs.AgreementLaws.{head_of}
use Rattle.kv_model.specs.Captures.{In, UpTo}
use Rattle.kv_model.specs.Content.{Content, IsLayered, base, descending, is_kept_version, kept, placed_lt, start, table_lt}
use Rattle.kv_model.specs.Holds.{Descends, Member}
use Rattle.kv_model.specs.History.{has_table, line}
use Rattle.kv_model.specs.Marks.{MarkedStands, keeps_cell, recorded_mark}
use Rattle.kv_model.specs.OpeningLaws.{cell_of, kept_records_of, records_of}
use Rattle.kv_model.specs.Ordered.{NameBelow, Older}
use Rattle.kv_model.specs.Regular.{IsRegular}
use Rattle.kv_model.specs.StoreLaws.{Held}
use Rattle.kv_model.proofs.Capturing.{member-into}
use Rattle.kv_model.proofs.ContentKeys.{key-content, of-key-into, starts-stand}
use Rattle.kv_model.proofs.Finishing.{line-base, older-order}
use Rattle.kv_model.proofs.Opening.{at-placed, of-key-from, start-valid}
use Rattle.kv_model.proofs.Ordering.{line-descends}
use Rattle.hist_store.specs.Versions.{with_version}
use Rattle.hist_store.proofs.Adding.{adds-add, adds-descend, with-within}
use Rattle.ckpt_content.specs.Laws.{OpenedLines, OpenedLists}
use Rattle.ckpt_content.specs.Opened.{AreKeptRecords, IsKept, IsLineOf, with_cell}
use Rattle.ckpt_content.proofs.Descents.{one_descent}

-- a member that no other is above is the first
newest_first : (l : List (Version Change)) → Descends Older l → (v : Version Change) → Member v l → ((w : Version Change) → Member w l → UpTo Older w v) → head_of l ≡ Some v
newest_first [] down v there up = absurd there
newest_first (n ∷ older) down v (inl same) up = ap Some (sym same)
newest_first (n ∷ older) down v (inr later) up = elim (up n (inl refl)) [ inl same ↦ ap Some same | inr below ↦ absurd (older-order.asym n v below (down.0 v later)) ]

module _ (c : Content) (table : ℕ) (key : List ℕ) (regular : IsRegular c) (layered : IsLayered c) (has : has_table c.tables table ≡ true) where
  stands : MarkedStands (start c) table key (recorded_mark c) (cell_of c table key) (Held (kept_records_of c table key))
  stands = starts-stand c table key regular layered has

  one_cell : (v w : Version Change) → In (cell_of c table key) v → In (cell_of c table key) w → v ≡ w
  one_cell v w here there = let same : Some v ≡ Some w = sym here ∙ there in cc

  -- a record that is kept is among those that are
  record_kept : (v : Version Change) → Member v (records_of c table key) → keeps_cell (recorded_mark c) v ≡ true → Member v (kept_records_of c table key)
  record_kept v there is =
      let p = of-key-from table key c.records v there in
      let known = subst (λ (n : ℕ). has_table c.tables n ≡ true) (sym (at-placed table key p.0 p.2).0) has in
      subst (λ (w : Version Change). Member w (kept_records_of c table key)) (sym p.3)
      (of-key-into table key (filter (is_kept_version c) c.records) p.0
      (member-into (is_kept_version c) c.records p.0 p.1
      (and_from (has_table c.tables p.0.table) (keeps_cell (recorded_mark c) p.0.version) known (subst (λ (w : Version Change). keeps_cell (recorded_mark c) w ≡ true) p.3 is))) p.2)

  from : (v : Version Change) → Member v (line (base c) table key) → IsKept c table key v
  from v there =
      let is = (key-content c table key regular layered has).from v (subst (λ (l : List (Version Change)). Member v l) (line-base (descending table_lt c.tables) (descending placed_lt (kept c)) table key) there) in
      elim is.0 [ inl cell ↦ inl (cell, is.1) | inr at ↦ inr (record_kept v at is.1) ]

  into : (v : Version Change) → IsKept c table key v → Member v (line (base c) table key)
  into v is = stands.stores.kept.within v is

  -- none is above the cell, where that is kept
  up_to : (v : Version Change) → In (cell_of c table key) v → (w : Version Change) → IsKept c table key w → UpTo Older w v
  up_to v cell w (inl is) = inl (one_cell w v is.0 cell)
  up_to v cell w (inr at) = let x = stands.layered w at in subst (λ (z : Version Change). UpTo Older w z) (one_cell x.0 v x.1 cell) x.2

  descends : Descends Older (line (base c) table key)
  descends = line-descends (base c) (start-valid c regular).orderly table key

  opened : IsLineOf c table key (line (base c) table key)
  opened = record {
    from = from;
    into = into;
    descends = descends;
    newest = λ v cell is. newest_first (line (base c) table key) descends v (into v (inl (cell, is))) (λ w there. up_to v cell w (from w there));
  }

  module _ (versions : List (Version Change)) (are : AreKeptRecords c table key versions) where
    -- where no cell is kept, it is the records
    bare : ((v : Version Change) → In (cell_of c table key) v → keeps_cell (recorded_mark c) v ≡ true → ⊥) → line (base c) table key ≡ versions
    bare none = one_descent Older older-order (line (base c) table key) versions descends are.descends
        (λ v there. elim (from v there) [ inl is ↦ absurd (none v is.0 is.1) | inr at ↦ are.into v at ])
        (λ v there. into v (inr (are.from v there)))

    -- the cell is there with the records: one of its name is it
    cell_there : (n : Version Change) → In (cell_of c table key) n → Member n (with_version n versions)
    cell_there n cell =
        let w = (adds-add n versions).new n (inl refl) in
        let same : w.0 ≡ n = elim (with-within n versions w.0 w.1) [
          | inl is ↦ is
          | inr at ↦ elim (up_to n cell w.0 (inr (are.from w.0 at))) [
            | inl is ↦ is
            | inr below ↦ absurd (older-order.irrefl n (subst (λ (x : Name). NameBelow x n.window.name) w.2 below))
          ]
        ] in
        subst (λ (z : Version Change). Member z (with_version n versions)) same w.1

    with_one : (n : Version Change) → In (cell_of c table key) n → keeps_cell (recorded_mark c) n ≡ true → line (base c) table key ≡ with_version n versions
    with_one n cell is = one_descent Older older-order (line (base c) table key) (with_version n versions) descends (adds-descend n versions are.descends)
        (λ v there. elim (from v there) [
          | inl kept_cell ↦ subst (λ (z : Version Change). Member z (with_version n versions)) (one_cell n v cell kept_cell.0) (cell_there n cell)
          | inr at ↦ (adds-add n versions).old v (are.into v at)
        ])
        (λ v there. elim (with-within n versions v there) [
          | inl same ↦ subst (λ (z : Version Change). Member z (line (base c) table key)) (sym same) (into n (inl (cell, is)))
          | inr at ↦ into v (inr (are.from v at))
        ])

    listed : (o : Option (Version Change)) → cell_of c table key ≡ o → line (base c) table key ≡ with_cell (recorded_mark c) o versions
    listed None none = bare (λ v cell is. let some : None ≡ Some v = sym none ∙ cell in absurd cc)
    listed (Some n) cell = elim (cases_Bool (keeps_cell (recorded_mark c) n)) [
      | inl is ↦ rw is (with_one n cell is)
      | inr hidden ↦ rw hidden (bare (λ v other is. both_ways (keeps_cell (recorded_mark c) n) hidden (subst (λ (z : Version Change). keeps_cell (recorded_mark c) z ≡ true) (one_cell v n other cell) is)))
    ]

pub opened_lines : OpenedLines
opened_lines c table key regular layered has = opened c table key regular layered has

pub opened_lists : OpenedLists
opened_lists c table key versions regular layered has are = listed c table key regular layered has versions are (cell_of c table key) refl
