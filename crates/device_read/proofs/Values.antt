-- The value of a key in the machine that an opening makes.
use Rattle.std.proofs.Common.{◌≡◌, ◌⊎◌, ℕ, zero, suc, true, false, ◌&&◌, List, [], ◌∷◌, ◌++◌, length, map, Option, Some, None, refl, sym, ap, subst, ◌∙◌, inl, inr, arith}
use Rattle.std.specs.Prelude.{◌==◌, ◌≢◌, filter, find, nat_lt, not, option_and_then, option_map, slice_get}
use Rattle.std.specs.Option.{option_to_list}
use Rattle.std.specs.List.{AllByRecursion, list_any}
use Rattle.std.proofs.lemmas.Bool.{cases_Bool, and_from, and_parts, both_ways, eq-eqb, eqb-true, false_from_ne_true, lt-ltb, not_from_false, or_left, or_right}
use Rattle.std.proofs.lemmas.List.{append-nil, map-append}
use Rattle.std.proofs.lemmas.List.Elements.{filter-append}
use Rattle.stamp.specs.Order.{is_before}
use Rattle.stamp.specs.declared.name.Name.{Name}
use Rattle.item.specs.declared.change.Change.{Change}
use Rattle.stamp.specs.declared.version.Version.{Version}
use Rattle.device_layout.specs.declared.slot.Slot.{Slot}
use Rattle.kv_model.specs.AgreementLaws.{head_of}
use Rattle.kv_model.specs.Holds.{Descends, Member}
use Rattle.kv_model.specs.History.{Entry, Table, Placed, admits, commit_of, has_table, history_of, is_at, line, name_eq, of_key, put_of, released, releases, value}
use Rattle.kv_model.specs.Content.{Content, base, descending, is_again, is_kept_version, kept, kept_cells, placed_lt, table_lt}
use Rattle.kv_model.specs.Ordered.{Older}
use Rattle.kv_model.specs.Regular.{IsRegular}
use Rattle.kv_model.proofs.Capturing.{member-into, member-out}
use Rattle.kv_model.proofs.ContentKeys.{any-from, at-there, of-key-into}
use Rattle.kv_model.proofs.Finishing.{line-base, member-append, name_eq-refl}
use Rattle.kv_model.proofs.Opening.{at-placed, is_other, of-key-from, start-valid}
use Rattle.kv_model.proofs.Ordering.{line-descends}
use Rattle.kv_model.proofs.Sorting.{descending-member, member-descending}
use Rattle.kv_model.proofs.Releases.{released-older, released-whole}
use Rattle.row_page.specs.Changes.{PageChange, version_in}
use Rattle.row_page.specs.Rows.{Row, Ascends}
use Rattle.leaf_rows.specs.declared.marks.Marks.{Marks}
use Rattle.leaf_rows.specs.Contents.{is_seen_row}
use Rattle.leaf_rows.specs.Rows.{version_at}
use Rattle.reconcile.specs.Shows.{shown_at}
use Rattle.reconcile.proofs.Keyed.{of_key_elsewhere, of_key_rows}
use Rattle.stored.specs.HistoryTree.{HistoryRecord, HistoryTree, record_in}
use Rattle.stored.specs.TableTree.{TableTree}
use Rattle.stored.specs.Tree.{join}
use Rattle.stored.specs.Records.{NumbersOnce, Record, TableRoot}
use Rattle.stored.specs.Stored.{cells_in, content_of, placed_in, tables_of}
use Rattle.recover_open.specs.Bare.{kept_of, marks_of, stored_with, tree_rows}
use Rattle.device_read.specs.Merging.{later_of}
use Rattle.device_read.specs.Newest.{is_kept_record, newest_kept, record_at}
use Rattle.device_read.specs.Rows.{value_in}
use Rattle.device_read.specs.Steps.{value_with}
use Rattle.device_read.proofs.Lists.{all_member, member_at, member_back, member_front}
use Rattle.device_read.proofs.Names.{below_before, not_back, not_itself, not_over}
use Rattle.device_read.proofs.NewestRecords.{IsNewestAt, KeysRise, newest_is, newest_none}

-- ---- a read of all

released_commit : (known : List Table) (placed : List Placed) (p : Placed) → Member p placed → released (history_of known placed) (length (history_of known placed)) p.version.window.name ≡ true
released_commit known [] p there = absurd there
released_commit known (q ∷ placed) p (inl same) =
    let name : Name = p.version.window.name in
    let older : List Entry = history_of known placed in
    or_left (releases (commit_of q) name && nat_lt (length older) (length (commit_of q ∷ older))) (released older (length (commit_of q ∷ older)) name)
    (and_from (releases (commit_of q) name) (nat_lt (length older) (length (commit_of q ∷ older))) (subst (λ (x : Placed). name_eq x.version.window.name name ≡ true) same (name_eq-refl name)) (lt-ltb (length older) (length (commit_of q ∷ older)) (omega arith)))
released_commit known (q ∷ placed) p (inr there) =
    let older : List Entry = history_of known placed in
    released-whole (commit_of q ∷ older) (length older) p.version.window.name (released-older (commit_of q) older (length older) p.version.window.name (released_commit known placed p there))

of_key_member : (number : ℕ) (key : List ℕ) (placed : List Placed) (v : Version Change) → Member v (of_key number key placed) → (p : Placed) × Member p placed × (p.version ≡ v)
of_key_member number key [] v there = absurd there
of_key_member number key (q ∷ placed) v there = elim (cases_Bool (is_at number key q)) [
  | inl at ↦ elim (rw at at there) [
    | inl same ↦ (q, inl refl, sym same)
    | inr later ↦ let rest = of_key_member number key placed v later in (rest.0, inr rest.1, rest.2)
  ]
  | inr away ↦ let rest = of_key_member number key placed v (rw away at there) in (rest.0, inr rest.1, rest.2)
]

-- it gives the newest version of the key
read_head : (known : List Table) (placed : List Placed) (number : ℕ) (key : List ℕ)
    → value (history_of known placed) (length (history_of known placed)) 0 number key ≡ option_and_then (λ v. put_of v.change) (head_of (of_key number key placed))
read_head known placed number key = by (of_key number key placed) refl
  where
    on_line : (l : List (Version Change)) → of_key number key placed ≡ l → line (history_of known placed) number key ≡ l
    on_line l is = line-base known placed number key ∙ is

    by : (l : List (Version Change)) → of_key number key placed ≡ l → value (history_of known placed) (length (history_of known placed)) 0 number key ≡ option_and_then (λ v. put_of v.change) (head_of l)
    by [] is = ap (λ (l : List (Version Change)). option_and_then (λ v. put_of v.change) (find (admits (history_of known placed) (length (history_of known placed)) 0) l)) (on_line [] is)
    by (v ∷ older) is =
        let there = of_key_member number key placed v (subst (λ (l : List (Version Change)). Member v l) (sym is) (inl refl)) in
        let admitted : admits (history_of known placed) (length (history_of known placed)) 0 v ≡ true =
        rw (subst (λ (x : Version Change). released (history_of known placed) (length (history_of known placed)) x.window.name ≡ true) there.2 (released_commit known placed there.0 there.1)) refl in
        ap (λ (l : List (Version Change)). option_and_then (λ v. put_of v.change) (find (admits (history_of known placed) (length (history_of known placed)) 0) l)) (on_line (v ∷ older) is) ∙ rw admitted refl

-- ---- lists that descend

empty_head : (l : List (Version Change)) → ((v : Version Change) → Member v l → ⊥) → head_of l ≡ None
empty_head [] none = refl
empty_head (v ∷ l) none = absurd (none v (inl refl))

newest_first : (l : List (Version Change)) → Descends Older l → (v : Version Change) → Member v l → ((w : Version Change) → Member w l → is_before v.window.name w.window.name ≡ false) → head_of l ≡ Some v
newest_first [] down v there none = absurd there
newest_first (n ∷ older) down v (inl same) none = ap Some (sym same)
newest_first (n ∷ older) down v (inr later) none = absurd (both_ways (is_before v.window.name n.window.name) (none n (inl refl)) (below_before v.window.name n.window.name (down.0 v later)))

named : ℕ → ℕ → Name
named run id = record { run = run; id = id }

same_name : (x y : Name) → name_eq x y ≡ true → x ≡ y
unfolding named
same_name x y is =
    let p = and_parts (x.run == y.run) (x.id == y.id) is in
    ap (λ (n : ℕ). named n x.id) (eqb-true x.run y.run p.0) ∙ ap (named y.run) (eqb-true x.id y.id p.1)

-- the later of two, as the model has versions
pub later_shown : (o f : Option (Version PageChange)) → option_map version_in (later_of o f) ≡ later_of (option_map version_in o) (option_map version_in f)
later_shown None f = refl
later_shown (Some v) None = refl
later_shown (Some v) (Some w) = elim (cases_Bool (is_before v.window.name w.window.name)) [ inl is ↦ rw is refl | inr isnt ↦ rw isnt refl ]

-- ---- the cells that an opening keeps

has : (tables : List TableRoot) (t : TableRoot) → Member t tables → has_table (tables_of tables) t.table.number ≡ true
has [] t there = absurd there
has (u ∷ tables) t (inl same) = rw (eq-eqb u.table.number t.table.number (ap (λ (x : TableRoot). x.table.number) (sym same))) refl
has (u ∷ tables) t (inr there) = or_right (u.table.number == t.table.number) (has_table (tables_of tables) t.table.number) (has tables t there)

-- the content of a device with this record, these trees and this history
abbrev pub content_with : Slot → Record → List TableTree → HistoryTree → Content
content_with slot r trees history = content_of (stored_with slot r trees history)

module _ (slot : Slot) (r : Record) (trees : List TableTree) (history : HistoryTree) where
  abbrev c : Content
  c = content_with slot r trees history

  seen_same : (number : ℕ) (row : Row) → has_table (tables_of r.tables) number ≡ true
      → is_kept_version c (record { table = number; key = row.0; version = version_in row.1 }) ≡ is_seen_row (marks_of r) r.snapshot.ids row
  seen_same number row there = rw there refl

  rows_seen : (number : ℕ) → has_table (tables_of r.tables) number ≡ true → (rows : List Row) → filter (is_kept_version c) (placed_in number rows) ≡ placed_in number (kept_of r rows)
  rows_seen number there [] = refl
  rows_seen number there (row ∷ rows) = elim (cases_Bool (is_seen_row (marks_of r) r.snapshot.ids row)) [
    | inl is ↦ rw (seen_same number row there ∙ is, is) (ap (λ (l : List Placed). record { table = number; key = row.0; version = version_in row.1 } ∷ l) (rows_seen number there rows))
    | inr isnt ↦ rw (seen_same number row there ∙ isnt, isnt) (rows_seen number there rows)
  ]

  of_key_append : (number : ℕ) (key : List ℕ) (xs ys : List Placed) → of_key number key (xs ++ ys) ≡ of_key number key xs ++ of_key number key ys
  of_key_append number key xs ys =
      ap (map {A = Placed} (λ p. p.version)) (filter-append (is_at number key) xs ys)
      ∙ map-append (λ (p : Placed). p.version) (filter (is_at number key) xs) (filter (is_at number key) ys)

  differ : (m n : ℕ) → m ≢ n → (m == n) ≡ false
  differ m n apart = elim (cases_Bool (m == n)) [ inl is ↦ absurd (apart (eqb-true m n is)) | inr isnt ↦ isnt ]

  -- the cells of the first table, and those of the others
  cells_parted : (t : TableRoot) (tables : List TableRoot) (tree : TableTree) (others : List TableTree) (number : ℕ) (key : List ℕ) → has_table (tables_of r.tables) t.table.number ≡ true
      → of_key number key (filter (is_kept_version c) (cells_in (t ∷ tables) (tree ∷ others))) ≡ of_key number key (placed_in t.table.number (kept_of r (tree_rows tree))) ++ of_key number key (filter (is_kept_version c) (cells_in tables others))
  cells_parted t tables tree others number key there =
      ap (of_key number key) (filter-append (is_kept_version c) (placed_in t.table.number (tree_rows tree)) (cells_in tables others) ∙ ap (λ (l : List Placed). l ++ filter (is_kept_version c) (cells_in tables others)) (rows_seen t.table.number there (tree_rows tree)))
      ∙ of_key_append number key (placed_in t.table.number (kept_of r (tree_rows tree))) (filter (is_kept_version c) (cells_in tables others))

  none_elsewhere : (tables : List TableRoot) (others : List TableTree) (number : ℕ) (key : List ℕ) → ((t : TableRoot) → Member t tables → Member t r.tables) → AllByRecursion (λ (u : TableRoot). u.table.number ≢ number) tables
      → of_key number key (filter (is_kept_version c) (cells_in tables others)) ≡ []
  none_elsewhere [] others number key among apart = refl
  none_elsewhere (t ∷ tables) [] number key among apart = refl
  none_elsewhere (t ∷ tables) (tree ∷ others) number key among apart =
      cells_parted t tables tree others number key (has r.tables t (among t (inl refl)))
      ∙ ap (λ (l : List (Version Change)). l ++ of_key number key (filter (is_kept_version c) (cells_in tables others))) (of_key_elsewhere t.table.number number key (kept_of r (tree_rows tree)) (differ t.table.number number apart.0))
      ∙ none_elsewhere tables others number key (λ u there. among u (inr there)) apart.1

  cells_at : (tables : List TableRoot) (others : List TableTree) (place : ℕ) (t : TableRoot) (tree : TableTree) (key : List ℕ) → ((u : TableRoot) → Member u tables → Member u r.tables) → NumbersOnce tables → slice_get tables place ≡ Some t → slice_get others place ≡ Some tree
      → Ascends None (kept_of r (tree_rows tree)) → of_key t.table.number key (filter (is_kept_version c) (cells_in tables others)) ≡ option_to_list (shown_at key (kept_of r (tree_rows tree)))
  cells_at [] others place t tree key among once at also up = absurd cc
  cells_at (u ∷ tables) [] place t tree key among once at also up = absurd cc
  cells_at (u ∷ tables) (other ∷ others) zero t tree key among once at also up =
      let one : u ≡ t = cc in
      let two : other ≡ tree = cc in
      cells_parted u tables other others t.table.number key (has r.tables u (among u (inl refl)))
      ∙ ap (λ (l : List (Version Change)). of_key t.table.number key (placed_in u.table.number (kept_of r (tree_rows other))) ++ l) (subst (λ (x : TableRoot). of_key x.table.number key (filter (is_kept_version c) (cells_in tables others)) ≡ []) one (none_elsewhere tables others u.table.number key (λ x there. among x (inr there)) once.0))
      ∙ append-nil (of_key t.table.number key (placed_in u.table.number (kept_of r (tree_rows other))))
      ∙ ap (λ (x : TableRoot). of_key t.table.number key (placed_in x.table.number (kept_of r (tree_rows other)))) one
      ∙ ap (λ (x : TableTree). of_key t.table.number key (placed_in t.table.number (kept_of r (tree_rows x)))) two
      ∙ of_key_rows t.table.number key None (kept_of r (tree_rows tree)) up
  cells_at (u ∷ tables) (other ∷ others) (suc place) t tree key among once at also up =
      let apart : t.table.number ≢ u.table.number = all_member (λ (x : TableRoot). x.table.number ≢ u.table.number) tables t once.0 (member_at tables place t at) in
      cells_parted u tables other others t.table.number key (has r.tables u (among u (inl refl)))
      ∙ ap (λ (l : List (Version Change)). l ++ of_key t.table.number key (filter (is_kept_version c) (cells_in tables others))) (of_key_elsewhere u.table.number t.table.number key (kept_of r (tree_rows other)) (differ u.table.number t.table.number (λ same. apart (sym same))))
      ∙ cells_at tables others place t tree key (λ x there. among x (inr there)) once.1 at also up

  -- ---- one key of a table

  abbrev m : Marks
  m = marks_of r

  abbrev ids : List ℕ
  ids = r.snapshot.ids

  abbrev records : List HistoryRecord
  records = join history.leaves

  record_seen : (x : HistoryRecord) → has_table (tables_of r.tables) x.table ≡ true → is_kept_version c (record_in x) ≡ is_kept_record m ids x
  record_seen x there = rw there refl

  placed_record : (p : Placed) (l : List HistoryRecord) → Member p (map {A = HistoryRecord} record_in l) → (x : HistoryRecord) × Member x l × (p ≡ record_in x)
  placed_record p [] there = absurd there
  placed_record p (x ∷ l) (inl same) = (x, inl refl, same)
  placed_record p (x ∷ l) (inr later) = let rest = placed_record p l later in (rest.0, inr rest.1, rest.2)

  record_placed : (x : HistoryRecord) (l : List HistoryRecord) → Member x l → Member (record_in x) (map {A = HistoryRecord} record_in l)
  record_placed x [] there = absurd there
  record_placed x (y ∷ l) (inl same) = inl (ap record_in same)
  record_placed x (y ∷ l) (inr later) = inr (record_placed x l later)

  module _ (number : ℕ) (key : List ℕ) (cell : Option (Version Change)) (has_it : has_table (tables_of r.tables) number ≡ true) (regular : IsRegular c) (cells_are : of_key number key (kept_cells c) ≡ option_to_list cell) (rise : KeysRise records) where
    abbrev l : List (Version Change)
    l = of_key number key (descending placed_lt (kept c))

    down : Descends Older l
    down = subst (λ (x : List (Version Change)). Descends Older x) (line-base (descending table_lt c.tables) (descending placed_lt (kept c)) number key) (line-descends (base c) (start-valid c regular).orderly number key)

    one_of : (o : Option (Version Change)) (v : Version Change) → Member v (option_to_list o) → o ≡ Some v
    one_of None v there = absurd there
    one_of (Some w) v (inl same) = ap (λ (x : Version Change). Some x) (sym same)
    one_of (Some w) v (inr none) = absurd none

    some_of : (o : Option (Version Change)) (v : Version Change) → o ≡ Some v → Member v (option_to_list o)
    some_of None v is = absurd cc
    some_of (Some w) v is = let same : w ≡ v = cc in inl (sym same)

    -- a record of the key that is kept, as a version
    record IsKept (v : Version Change) : Type 0 where
      own : HistoryRecord
      there : Member own records
      kept_so : is_kept_record m ids own ≡ true
      tables_are : own.table ≡ number
      keys_are : own.key ≡ key
      is : version_in own.version ≡ v

    from : (v : Version Change) → Member v l → (cell ≡ Some v) ⊎ IsKept v
    from v there =
        let p = of-key-from number key (descending placed_lt (kept c)) v there in
        let at = at-placed number key p.0 p.2 in
        elim (member-append p.0 (kept_cells c) (filter (is_other c) c.records) (member-descending placed_lt (kept c) p.0 p.1)) [
          | inl own ↦ inl (one_of cell v (subst (λ (x : List (Version Change)). Member v x) cells_are (subst (λ (x : Version Change). Member x (of_key number key (kept_cells c))) (sym p.3) (of-key-into number key (kept_cells c) p.0 own p.2))))
          | inr other ↦
              let out = member-out (is_other c) c.records p.0 other in
              let kept_so = (and_parts (is_kept_version c p.0) (not (list_any (is_again p.0) (kept_cells c))) out.1).0 in
              let x = placed_record p.0 records out.0 in
              inr (record {
                own = x.0;
                there = x.1;
                kept_so = sym (record_seen x.0 (subst (λ (q : Placed). has_table (tables_of r.tables) q.table ≡ true) x.2 (subst (λ (n : ℕ). has_table (tables_of r.tables) n ≡ true) (sym at.0) has_it))) ∙ subst (λ (q : Placed). is_kept_version c q ≡ true) x.2 kept_so;
                tables_are = ap (λ (q : Placed). q.table) (sym x.2) ∙ at.0;
                keys_are = ap (λ (q : Placed). q.key) (sym x.2) ∙ at.1;
                is = ap (λ (q : Placed). q.version) (sym x.2) ∙ sym p.3;
              })
        ]

    cell_in : (v : Version Change) → cell ≡ Some v → Member v l
    cell_in v is =
        let p = of-key-from number key (kept_cells c) v (subst (λ (x : List (Version Change)). Member v x) (sym cells_are) (some_of cell v is)) in
        subst (λ (x : Version Change). Member x l) (sym p.3) (of-key-into number key (descending placed_lt (kept c)) p.0 (descending-member placed_lt (kept c) p.0 (member_front (kept_cells c) (filter (is_other c) c.records) p.0 p.1)) p.2)

    -- a record that is no cell again
    record_there : (v : Version Change) (k : IsKept v) → ((w : Version Change) → cell ≡ Some w → w.window.name ≡ v.window.name → ⊥) → Member v l
    record_there v k apart =
        let p : Placed = record_in k.own in
        let at : is_at number key p ≡ true = at-there number key p k.tables_are k.keys_are in
        let fresh : list_any (is_again p) (kept_cells c) ≡ false = false_from_ne_true (list_any (is_again p) (kept_cells c)) (λ again.
        let q = any-from (is_again p) (kept_cells c) again in
        let parts = and_parts (is_at q.0.table q.0.key p) (name_eq p.version.window.name q.0.version.window.name) q.2 in
        let beside = at-placed q.0.table q.0.key p parts.0 in
        let there = of-key-into number key (kept_cells c) q.0 q.1 (at-there number key q.0 (sym beside.0 ∙ k.tables_are) (sym beside.1 ∙ k.keys_are)) in
        apart q.0.version (one_of cell q.0.version (subst (λ (x : List (Version Change)). Member q.0.version x) cells_are there)) (sym (same_name p.version.window.name q.0.version.window.name parts.1) ∙ ap (λ (x : Version Change). x.window.name) k.is)) in
        let kept_so : is_kept_version c p ≡ true = record_seen k.own (subst (λ (n : ℕ). has_table (tables_of r.tables) n ≡ true) (sym k.tables_are) has_it) ∙ k.kept_so in
        let other : is_other c p ≡ true = and_from (is_kept_version c p) (not (list_any (is_again p) (kept_cells c))) kept_so (not_from_false (list_any (is_again p) (kept_cells c)) fresh) in
        subst (λ (x : Version Change). Member x l) k.is
        (of-key-into number key (descending placed_lt (kept c)) p
        (descending-member placed_lt (kept c) p (member_back (kept_cells c) (filter (is_other c) c.records) p (member-into (is_other c) c.records p (record_placed k.own records k.there) other))) at)

    -- one that no other is above is the first
    first_is : (v : Version Change) → Member v l → ((w : Version Change) → Member w l → is_before v.window.name w.window.name ≡ false) → head_of l ≡ Some v
    first_is v there none = newest_first l down v there none

    abbrev found : Option (Version PageChange)
    found = record_at number key (newest_kept m ids records)

    -- ---- by what the cell and the newest record are

    kept_as : (v : Version PageChange) → IsNewestAt m ids records number key v → IsKept (version_in v)
    kept_as v n = record { own = n.newest; there = n.there; kept_so = n.kept; tables_are = n.tables; keys_are = n.keys; is = ap version_in n.is }

    by_none : cell ≡ None → found ≡ None → head_of l ≡ None
    by_none no_cell none = empty_head l (λ v there. elim (from v there) [
      | inl is ↦ let e : None ≡ Some v = sym no_cell ∙ is in absurd cc
      | inr k ↦ newest_none m ids records rise number key none k.own k.there k.kept_so k.tables_are k.keys_are
    ])

    by_cell : (v : Version Change) → cell ≡ Some v → found ≡ None → head_of l ≡ Some v
    by_cell v is none = first_is v (cell_in v is) (λ w there. elim (from w there) [
      | inl own ↦ let same : v ≡ w = (let e : Some v ≡ Some w = sym is ∙ own in cc) in subst (λ (x : Version Change). is_before v.window.name x.window.name ≡ false) same (not_itself v.window.name)
      | inr k ↦ absurd (newest_none m ids records rise number key none k.own k.there k.kept_so k.tables_are k.keys_are)
    ])

    -- of the records that are kept none is later
    none_later : (v : Version PageChange) → IsNewestAt m ids records number key v → (w : Version Change) → IsKept w → is_before v.window.name w.window.name ≡ false
    none_later v n w k = subst (λ (x : Version Change). is_before v.window.name x.window.name ≡ false) k.is (n.late k.own k.there k.kept_so k.tables_are k.keys_are)

    by_record : (v : Version PageChange) → cell ≡ None → found ≡ Some v → head_of l ≡ Some (version_in v)
    by_record v no_cell is =
        let n = newest_is m ids records rise number key v is in
        first_is (version_in v) (record_there (version_in v) (kept_as v n) (λ w own same. let e : None ≡ Some w = sym no_cell ∙ own in cc)) (λ w there. elim (from w there) [
          | inl own ↦ let e : None ≡ Some w = sym no_cell ∙ own in absurd cc
          | inr k ↦ none_later v n w k
        ])

    by_later : (v : Version Change) (w : Version PageChange) → cell ≡ Some v → found ≡ Some w → is_before v.window.name w.window.name ≡ true → head_of l ≡ Some (version_in w)
    by_later v w own is later =
        let n = newest_is m ids records rise number key w is in
        first_is (version_in w)
        (record_there (version_in w) (kept_as w n) (λ x other same.
        let one : v ≡ x = (let e : Some v ≡ Some x = sym own ∙ other in cc) in
        both_ways (is_before v.window.name w.window.name) (subst (λ (y : Name). is_before y w.window.name ≡ false) (sym (ap (λ (y : Version Change). y.window.name) one ∙ same)) (not_itself w.window.name)) later))
        (λ x there. elim (from x there) [
          | inl other ↦ let one : v ≡ x = (let e : Some v ≡ Some x = sym own ∙ other in cc) in subst (λ (y : Version Change). is_before w.window.name y.window.name ≡ false) one (not_back v.window.name w.window.name later)
          | inr k ↦ none_later w n x k
        ])

    by_own : (v : Version Change) (w : Version PageChange) → cell ≡ Some v → found ≡ Some w → is_before v.window.name w.window.name ≡ false → head_of l ≡ Some v
    by_own v w own is not_later =
        let n = newest_is m ids records rise number key w is in
        first_is v (cell_in v own) (λ x there. elim (from x there) [
          | inl other ↦ let one : v ≡ x = (let e : Some v ≡ Some x = sym own ∙ other in cc) in subst (λ (y : Version Change). is_before v.window.name y.window.name ≡ false) one (not_itself v.window.name)
          | inr k ↦ not_over v.window.name w.window.name x.window.name not_later (none_later w n x k)
        ])

    by_both : (v : Version Change) (w : Version PageChange) → cell ≡ Some v → found ≡ Some w → head_of l ≡ later_of (Some v) (Some (version_in w))
    by_both v w own is = elim (cases_Bool (is_before v.window.name w.window.name)) [
      | inl later ↦ by_later v w own is later ∙ rw later refl
      | inr denied ↦ by_own v w own is denied ∙ rw denied refl
    ]

    by_parts : (o : Option (Version Change)) (f : Option (Version PageChange)) → cell ≡ o → found ≡ f → head_of l ≡ later_of o (option_map version_in f)
    by_parts None None own is = by_none own is
    by_parts None (Some w) own is = by_record w own is
    by_parts (Some v) None own is = by_cell v own is
    by_parts (Some v) (Some w) own is = by_both v w own is

    head_is : head_of l ≡ later_of cell (option_map version_in found)
    head_is = by_parts cell found refl refl

  -- the value of a key of a table is that of the later of what the rows show that are kept of its tree and of the newest record
  pub value_read : (place : ℕ) (t : TableRoot) (tree : TableTree) (key : List ℕ) → IsRegular c → KeysRise records → NumbersOnce r.tables → slice_get r.tables place ≡ Some t → slice_get trees place ≡ Some tree → Ascends None (kept_of r (tree_rows tree))
      → value_in c t.table.number key ≡ value_with key (kept_of r (tree_rows tree)) (record_at t.table.number key (newest_kept m ids records))
  value_read place t tree key regular rise once at also up =
      let cell : Option (Version Change) = shown_at key (kept_of r (tree_rows tree)) in
      let newest : Option (Version PageChange) = record_at t.table.number key (newest_kept m ids records) in
      let cells : of_key t.table.number key (kept_cells c) ≡ option_to_list cell = cells_at r.tables trees place t tree key (λ u there. there) once at also up in
      read_head (descending table_lt c.tables) (descending placed_lt (kept c)) t.table.number key
      ∙ ap (λ (o : Option (Version Change)). option_and_then (λ v. put_of v.change) o) (head_is t.table.number key cell (has r.tables t (member_at r.tables place t at)) regular cells rise ∙ sym (later_shown (version_at key (kept_of r (tree_rows tree))) newest))
