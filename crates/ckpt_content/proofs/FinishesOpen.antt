-- As what a device opens that has a checkpoint which ran beside other work.
use Rattle.std.proofs.Common.{◌≡◌, ◌∙◌, ℕ, true, false, List, length, Option, Some, None, refl, sym, ap, subst, inl, inr}
use Rattle.std.proofs.lemmas.Bool.{cases_Bool, both_ways}
use Rattle.item.specs.declared.Change.{Change}
use Rattle.stamp.specs.declared.Version.{Version}
use Rattle.reconcile.specs.Shows.{shown_at}
use Rattle.kv_model.specs.AgreementLaws.{head_of}
use Rattle.kv_model.specs.Captures.{CapturedIn}
use Rattle.kv_model.specs.Content.{Content, OpensAs, descending, sees_name, table_lt}
use Rattle.kv_model.specs.Holds.{Descends, Member}
use Rattle.kv_model.specs.History.{Entry, Placed, Table, committed, first, has_table, line, tables}
use Rattle.kv_model.specs.Machine.{Checkpoint, Machine, finished}
use Rattle.kv_model.specs.OpeningLaws.{Finishes, cell_of, records_of}
use Rattle.kv_model.specs.Ordered.{IsOrderly}
use Rattle.kv_model.specs.Regular.{IsRegular}
use Rattle.kv_model.specs.StoreLaws.{Held}
use Rattle.kv_model.specs.Valid.{Valid, ValidCheckpoint}
use Rattle.kv_model.proofs.ContentKeys.{at-self, of-key-into}
use Rattle.kv_model.proofs.FinishedKeys.{finish-opens}
use Rattle.kv_model.proofs.Finishing.{first-start, line-committed}
use Rattle.kv_model.proofs.Opening.{at-placed, of-key-from}
use Rattle.kv_model.proofs.Sorting.{Lt}
use Rattle.stored.specs.HistoryTree.{HistoryRecord, record_in}
use Rattle.stored.specs.Stored.{Stored, Reads, content_of, tables_of}
use Rattle.stored.specs.Tree.{join}
use Rattle.hist_pages.proofs.Members.{mapped_member}
use Rattle.ckpt_content.specs.Finished.{IsFinishOf, tables_then}
use Rattle.ckpt_content.specs.Laws.{FinishesOpen, ReadFinishesOpen}
use Rattle.ckpt_content.proofs.Cells.{TakenTable, cells_away, first_of_key, head_of_one, one_member, taken_here}
use Rattle.ckpt_content.proofs.Tables.{known_there, table_there, tables_are_one, tables_descend_behind, there_known, there_table}

module _ (m : Machine) (c : Checkpoint) (number : ℕ) (s : Stored) (valid : Valid m) (runs : m.checkpoint ≡ Some c) (regular : IsRegular (content_of s)) (is : IsFinishOf m c number s) where
  abbrev content : Content
  content = content_of s

  abbrev known : List Table
  known = tables_of s.kept.tables

  abbrev records : List HistoryRecord
  records = join s.history.leaves

  -- ---- the tables

  k : ValidCheckpoint m.history m.oldest m.stable c
  k = valid.checkpoint c runs

  -- what stood as it started
  then_is : first c.prefix m.history ≡ k.start
  then_is = ap (λ (n : ℕ). first n m.history) k.prefix ∙ (ap (λ (h : List Entry). first (length k.start) h) k.whole ∙ first-start k.news k.start)

  same_tables : descending table_lt known ≡ tables_then m c
  same_tables = tables_are_one (first c.prefix m.history) known is.names.tables_are
      (subst (λ (h : List Entry). Descends (Lt table_lt) (tables h)) (sym then_is) (tables_descend_behind k.news k.start (subst IsOrderly k.whole valid.orderly))) regular.numbers

  table_known : (table : ℕ) → has_table (tables_then m c) table ≡ true → has_table known table ≡ true
  table_known table has = let t = table_there (tables_then m c) table has in subst (λ (n : ℕ). has_table known n ≡ true) t.2 (there_table known t.0 (there_known (first c.prefix m.history) known is.names.tables_are t.0 t.1))

  -- ---- the cells

  cell_away : (table : ℕ) (key : List ℕ) → has_table known table ≡ false → cell_of content table key ≡ None
  cell_away table key away = first_of_key table key content.cells ∙ ap head_of (cells_away table key s.kept.tables s.trees away)

  -- what the checkpoint holds of a key
  module _ (table : ℕ) (key : List ℕ) (has : has_table known table ≡ true) where
    of_table : TakenTable m c records content.cells table
    of_table = taken_here m c records table s.kept.tables s.trees regular.numbers is.rows has

    cell_here : cell_of content table key ≡ shown_at key of_table.rows
    cell_here = first_of_key table key content.cells ∙ (ap head_of (of_table.cells_are key) ∙ head_of_one (shown_at key of_table.rows))

    captured : CapturedIn m c table key (cell_of content table key) (Held (records_of content table key))
    captured = subst (λ (o : Option (Version Change)). CapturedIn m c table key o (Held (records_of content table key))) (sym cell_here)
        (subst (λ (n : ℕ). CapturedIn m c n key (shown_at key of_table.rows) (Held (records_of content n key))) of_table.number (of_table.are.captured key))

  cell_stands : (p : Placed) → Member p content.cells → Member p.version (line m.history p.table p.key)
  cell_stands p there =
      let at = of-key-into p.table p.key content.cells p there (at-self p) in
      elim (cases_Bool (has_table known p.table)) [
        | inl has ↦ (captured p.table p.key has).cell_there p.version (cell_here p.table p.key has ∙ one_member p.version (shown_at p.key (of_table p.table p.key has).rows)
            (subst (λ (l : List (Version Change)). Member p.version l) ((of_table p.table p.key has).cells_are p.key) at))
        | inr away ↦ absurd (subst (λ (l : List (Version Change)). Member p.version l) (cells_away p.table p.key s.kept.tables s.trees away) at)
      ]

  -- ---- the records

  -- they are of tables that are there
  record_known : (p : Placed) → Member p content.records → has_table known p.table ≡ true
  record_known p there =
      let r = mapped_member {A = HistoryRecord} record_in p records there in
      table_known p.table (subst (λ (n : ℕ). has_table (tables_then m c) n ≡ true) (sym (ap (λ (q : Placed). q.table) r.2)) (is.known r.0 r.1))

  record_stands : (p : Placed) → Member p content.records → Member p.version (line m.history p.table p.key)
  record_stands p there = (captured p.table p.key (record_known p there)).within p.version (of-key-into p.table p.key content.records p there (at-self p))

  -- ---- what is seen

  -- of what stands the snapshot sees what was committed as it started
  stands_seen : (p : Placed) → Member p.version (line m.history p.table p.key) → sees_name content.run content.snapshot p.version.window.name ≡ committed m.history c.prefix p.version.window.name
  stands_seen p there = is.names.sees.sees p.version.window.name (inl (line-committed m.history p.table p.key p.version there))

  finishes : Finishes m c content
  finishes = record {
    oldest = is.names.oldest;
    stable = is.names.stable;
    tables = same_tables;
    sees = λ p of. stands_seen p (elim of [ inl cell ↦ cell_stands p cell | inr at ↦ record_stands p at ]);
    captured = captured;
    no_cell = cell_away;
    within = λ table key away v there.
        let p = of-key-from table key content.records v there in
        absurd (both_ways (has_table known table) away (subst (λ (n : ℕ). has_table known n ≡ true) (at-placed table key p.0 p.2).0 (record_known p.0 p.1)));
  }

  opens : OpensAs content (finished m c).completed
  opens = finish-opens m c content valid runs regular finishes

pub finishes_open : FinishesOpen
finishes_open m c number s valid runs regular is = opens m c number s valid runs regular is

pub read_finishes_open : ((bytes : List ℕ) (c : Content) → Reads bytes c → IsRegular c) → ReadFinishesOpen
read_finishes_open law bytes m c number s valid runs on is = opens m c number s valid runs (law bytes (content_of s) (inr (s, on, refl))) is
