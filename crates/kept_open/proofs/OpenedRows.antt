-- The rows of a leaf, as it comes back after an opening, and the line of each of its keys.
use Rattle.std.proofs.Common.{◌≡◌, ◌∙◌, ℕ, Bool, true, false, List, [], ◌∷◌, ◌++◌, map, Option, Some, None, refl, sym, ap, subst, inl, inr, arith}
use Rattle.std.specs.Prelude.{◌==◌, ◌&&◌, IsTrue, bytes_eq, drop, filter, is_some, not, option_map, if◌then◌else◌}
use Rattle.std.specs.List.{AllByRecursion}
use Rattle.std.specs.Option.{option_to_list}
use Rattle.std.proofs.lemmas.Bool.{and_from, both_ways, cases_Bool, eq-eqb, false_from_ne_true}
use Rattle.std.proofs.lemmas.List.{append-nil}
use Rattle.std.proofs.lemmas.Slice.Eq.{bytes_eq-Decides}
use Rattle.item.specs.declared.Change.{Change}
use Rattle.item.specs.declared.Change.TheVariants.{Put as Puts, Remove as Removes}
use Rattle.stamp.specs.declared.Name.{Name}
use Rattle.stamp.specs.declared.Version.{Version}
use Rattle.kv_model.specs.AgreementLaws.{head_of}
use Rattle.kv_model.specs.Content.{Content, base}
use Rattle.kv_model.specs.Holds.{Descends, Member}
use Rattle.kv_model.specs.History.{line, name_eq}
use Rattle.kv_model.specs.Machine.{of_some}
use Rattle.kv_model.specs.Marks.{Mark, keeps_cell, recorded_mark}
use Rattle.kv_model.specs.OpeningLaws.{cell_of}
use Rattle.kv_model.specs.Ordered.{NameBelow, Older}
use Rattle.kv_model.specs.StoreLaws.{or_else}
use Rattle.row_page.specs.Changes.{PageChange, change_in, version_in}
use Rattle.row_page.specs.Rows.{Ascends, Row, is_below as key_below}
use Rattle.row_page.proofs.Ascending.{all_above}
use Rattle.leaf_rows.specs.declared.marks.Marks.{Marks}
use Rattle.leaf_rows.specs.Contents.{is_seen_row, seen_rows}
use Rattle.leaf_rows.specs.Rows.{version_at}
use Rattle.reconcile.specs.Shows.{shown_at}
use Rattle.reconcile.proofs.Keyed.{none_above}
use Rattle.reconcile.specs.Cells.{cell_change, cell_version}
use Rattle.reconcile.specs.declared.image.Moved.{Moved}
use Rattle.reconcile.specs.Moving.{versions_in}
use Rattle.snapshot.specs.Past.{is_below}
use Rattle.evict_step.specs.Backs.{is_again, unlike}
use Rattle.hist_store.specs.Versions.{with_version}
use Rattle.hist_store.proofs.NamesInOrder.{same-name}
use Rattle.ckpt_content.specs.Opened.{IsLineOf, with_cell}
use Rattle.ckpt_content.proofs.OpenedKeys.{opened_lines, opened_lists}
use Rattle.kept_open.specs.Keeping.{HasMarks}
use Rattle.kept_open.specs.Laws.{AreOf, NoOthersOpen, OpenedRowsReturn, OpenedRowsShow, RowsOpen, ShownRowsOpen, WholeRowsOpen}
use Rattle.kept_open.specs.Opening.{first_rows, opened_rows, row_of, shows}
use Rattle.kept_open.proofs.KeptRecords.{marks_say}

-- ---- what the rows show

shown_both : (key : List ℕ) (rows others : List Row) → shown_at key (rows ++ others) ≡ or_else (shown_at key rows) (shown_at key others)
shown_both key [] others = refl
shown_both key (r ∷ rows) others = elim (cases_Bool (bytes_eq r.0 key)) [ inl is ↦ rw is refl | inr isnt ↦ rw isnt (shown_both key rows others) ]

same_change : (change : Change) → change_in (cell_change change) ≡ change
same_change (Puts value) = refl
same_change Removes = refl

same_version : (v : Version Change) → version_in (cell_version v) ≡ v
same_version v = ap (λ (x : Change). record { window = v.window; change = x }) (same_change v.change)

-- the first versions, of a key that the rows do not show
firsts : (key : List ℕ) (rows : List Row) (list : List Moved) → shown_at key rows ≡ None → shown_at key (first_rows rows list) ≡ head_of (versions_in key list)
firsts key rows [] none = refl
firsts key rows (m ∷ list) none = elim (cases_Bool (bytes_eq m.key key)) [
  | inl is ↦
      let own : m.key ≡ key = (bytes_eq-Decides m.key key).0 is in
      let hidden : shows rows m.key ≡ false = ap (λ (o : Option (Version Change)). is_some o) (ap (λ (k : List ℕ). shown_at k rows) own ∙ none) in
      rw hidden (rw is (ap Some (same_version m.version)))
  | inr other ↦ elim (cases_Bool (shows rows m.key)) [
    | inl shown ↦ rw shown (rw other (firsts key rows list none))
    | inr hidden ↦ (let rest : shown_at key (row_of m ∷ rows) ≡ None = rw other none in rw hidden (rw other (firsts key (row_of m ∷ rows) list rest)))
  ]
]

pub opened_show : OpenedRowsShow
opened_show seen list key = shown_both key seen (first_rows seen list) ∙ by (shown_at key seen) refl where
  by : (o : Option (Version Change)) → shown_at key seen ≡ o → or_else (shown_at key seen) (shown_at key (first_rows seen list)) ≡ or_else (shown_at key seen) (head_of (versions_in key list))
  by None none = ap (λ (o : Option (Version Change)). or_else (shown_at key seen) o) (firsts key seen list none)
  by (Some v) some = ap (λ (o : Option (Version Change)). or_else o (shown_at key (first_rows seen list))) some ∙ sym (ap (λ (o : Option (Version Change)). or_else o (head_of (versions_in key list))) some)

all_stay : (test : Row → Bool) (rows : List Row) → AllByRecursion (λ (r : Row). IsTrue (test r)) rows → filter test rows ≡ rows
all_stay test [] all = refl
all_stay test (r ∷ rows) all = let stays : test r ≡ true = all.0 in rw stays (ap (λ (l : List Row). r ∷ l) (all_stay test rows all.1))

no_first : (rows : List Row) (list : List Moved) → AllByRecursion (λ (v : Moved). shows rows v.key ≡ true) list → first_rows rows list ≡ []
no_first rows [] all = refl
no_first rows (m ∷ list) all = let shown : shows rows m.key ≡ true = all.0 in rw shown (no_first rows list all.1)

pub whole : WholeRowsOpen
whole m ids rows list all shown = ap (λ (seen : List Row). opened_rows seen list) (all_stay (is_seen_row m ids) rows all) ∙ (ap (λ (l : List Row). rows ++ l) (no_first rows list shown) ∙ append-nil rows)

-- ---- the rows that an opening keeps

filtered_none : (key : List ℕ) (test : Row → Bool) (rows : List Row) → version_at key rows ≡ None → version_at key (filter test rows) ≡ None
filtered_none key test [] none = refl
filtered_none key test (r ∷ rows) none = elim (cases_Bool (bytes_eq r.0 key)) [
  | inl is ↦ (let some : Some r.1 ≡ None = rw is at none in absurd cc)
  | inr isnt ↦
      let rest : version_at key rows ≡ None = rw isnt at none in
      elim (cases_Bool (test r)) [ inl stays ↦ rw stays (rw isnt (filtered_none key test rows rest)) | inr goes ↦ rw goes (filtered_none key test rows rest) ]
]

filtered_some : (key : List ℕ) (test : Row → Bool) (before : Option (List ℕ)) (rows : List Row) (v : Version PageChange) → Ascends before rows → version_at key rows ≡ Some v → version_at key (filter test rows) ≡ (if test (key, v) then Some v else None)
filtered_some key test before [] v up some = absurd cc
filtered_some key test before (r ∷ rows) v up some = elim (cases_Bool (bytes_eq r.0 key)) [
  | inl is ↦
      let own : r.0 ≡ key = (bytes_eq-Decides r.0 key).0 is in
      let first : Some r.1 ≡ Some v = rw is at some in
      let version : r.1 ≡ v = cc in
      let same : test r ≡ test (key, v) = ap (λ (k : List ℕ). test (k, r.1)) own ∙ ap (λ (w : Version PageChange). test (key, w)) version in
      elim (cases_Bool (test r)) [
        | inl stays ↦ (let asked : test (key, v) ≡ true = sym same ∙ stays in rw (stays, asked) (rw is first))
        | inr goes ↦
            let asked : test (key, v) ≡ false = sym same ∙ goes in
            let above = subst (λ (k : List ℕ). AllByRecursion (λ (q : Row). key_below k q.0 ≡ true) rows) own (all_above r.0 rows up.1) in
            rw (goes, asked) (filtered_none key test rows (none_above key rows above))
      ]
  | inr isnt ↦
      let rest : version_at key rows ≡ Some v = rw isnt at some in
      elim (cases_Bool (test r)) [
        | inl stays ↦ rw stays (rw isnt (filtered_some key test (Some r.0) rows v up.1 rest))
        | inr goes ↦ rw goes (filtered_some key test (Some r.0) rows v up.1 rest)
      ]
]

-- the cell, where it is kept
kept_cell : Mark → Option (Version Change) → Option (Version Change)
kept_cell mark None = None
kept_cell mark (Some v) = if keeps_cell mark v then Some v else None

picked : (b : Bool) (v : Version PageChange) → option_map version_in (if b then Some v else None) ≡ (if b then Some (version_in v) else None)
picked true v = refl
picked false v = refl

seen_cell : (c : Content) (m : Marks) (ids : List ℕ) (key : List ℕ) (rows : List Row) → HasMarks c m ids → Ascends None rows → shown_at key (seen_rows m ids rows) ≡ kept_cell (recorded_mark c) (shown_at key rows)
unfolding kept_cell
seen_cell c m ids key rows has up = by (version_at key rows) refl where
  by : (o : Option (Version PageChange)) → version_at key rows ≡ o → shown_at key (seen_rows m ids rows) ≡ kept_cell (recorded_mark c) (option_map version_in (version_at key rows))
  by None none =
      ap (λ (o : Option (Version PageChange)). option_map version_in o) (filtered_none key (is_seen_row m ids) rows none)
      ∙ sym (ap (λ (o : Option (Version PageChange)). kept_cell (recorded_mark c) (option_map version_in o)) none)
  by (Some v) some =
      let same : keeps_cell (recorded_mark c) (version_in v) ≡ is_seen_row m ids (key, v) = marks_say c m ids has (version_in v) in
      ap (λ (o : Option (Version PageChange)). option_map version_in o) (filtered_some key (is_seen_row m ids) None rows v up some)
      ∙ (picked (is_seen_row m ids (key, v)) v
      ∙ (ap (λ (b : Bool). if b then Some (version_in v) else None) (sym same) ∙ sym (ap (λ (o : Option (Version PageChange)). kept_cell (recorded_mark c) (option_map version_in o)) some)))

-- ---- versions without one of a name

without : Option (Version Change) → List (Version Change) → List (Version Change)
without o versions = filter (λ (w : Version Change). not (of_some false (λ (v : Version Change). name_eq v.window.name w.window.name) o)) versions

unlike_at : (rows : List Row) (list : List Moved) (key : List ℕ) → versions_in key (unlike rows list) ≡ without (shown_at key rows) (versions_in key list)
unfolding without
unlike_at rows [] key = refl
unlike_at rows (m ∷ list) key = elim (cases_Bool (bytes_eq m.key key)) [
  | inl is ↦
      let own : m.key ≡ key = (bytes_eq-Decides m.key key).0 is in
      let same : is_again rows m ≡ of_some false (λ (v : Version Change). name_eq v.window.name m.version.window.name) (shown_at key rows) =
      ap (λ (k : List ℕ). of_some false (λ (v : Version Change). name_eq v.window.name m.version.window.name) (shown_at k rows)) own in
      elim (cases_Bool (is_again rows m)) [
        | inl again ↦ (let goes = sym same ∙ again in rw (again, is) (rw goes (unlike_at rows list key)))
        | inr other ↦ (let stays = sym same ∙ other in rw (other, is) (rw stays (ap (λ (l : List (Version Change)). m.version ∷ l) (unlike_at rows list key))))
      ]
  | inr isnt ↦ elim (cases_Bool (is_again rows m)) [ inl again ↦ rw (again, isnt) (unlike_at rows list key) | inr other ↦ rw (other, isnt) (unlike_at rows list key) ]
]

name_self : (n : Name) → name_eq n n ≡ true
name_self n = and_from (n.run == n.run) (n.id == n.id) (eq-eqb n.run n.run refl) (eq-eqb n.id n.id refl)

-- a version that is put among others is the only one of its name
without_with : (v : Version Change) (l : List (Version Change)) → without (Some v) (with_version v l) ≡ without (Some v) l
unfolding without
without_with v [] = let self = name_self v.window.name in rw self refl
without_with v (w ∷ l) = elim (cases_Bool (is_below w.window.name v.window.name)) [
  | inl below ↦ (let self = name_self v.window.name in rw below (rw self refl))
  | inr not_below ↦ elim (cases_Bool (name_eq w.window.name v.window.name)) [
    | inl is ↦ rw (not_below, is) refl
    | inr isnt ↦ elim (cases_Bool (name_eq v.window.name w.window.name)) [
      | inl own ↦ rw (not_below, isnt) (rw own (without_with v l))
      | inr other ↦ rw (not_below, isnt) (rw other (ap (λ (x : List (Version Change)). w ∷ x) (without_with v l)))
    ]
  ]
]

older_apart : (x y : Name) → NameBelow y x → name_eq x y ≡ false
older_apart x y below = false_from_ne_true (name_eq x y) (λ t. not_itself (same-name x y t) below) where
  not_itself : x ≡ y → NameBelow y x → ⊥
  not_itself is (inl runs) = let e = ap (λ (n : Name). n.run) is in omega (arith, runs, e)
  not_itself is (inr ids) = let e = ap (λ (n : Name). n.id) is in let l = ids.1 in omega (arith, l, e)

none_of_name : (v : Version Change) (l : List (Version Change)) → ((w : Version Change) → Member w l → Older w v) → without (Some v) l ≡ l
unfolding without
none_of_name v [] older = refl
none_of_name v (w ∷ l) older =
    let other = older_apart v.window.name w.window.name (older w (inl refl)) in
    rw other (ap (λ (x : List (Version Change)). w ∷ x) (none_of_name v l (λ x there. older x (inr there))))

without_head : (l : List (Version Change)) → Descends Older l → without (head_of l) l ≡ drop 1 l
unfolding without
without_head [] down = refl
without_head (v ∷ l) down = let self = name_self v.window.name in rw self (none_of_name v l down.0)

-- ---- a leaf that comes back

none_goes : (l : List (Version Change)) → without None l ≡ l
unfolding without
none_goes [] = refl
none_goes (w ∷ l) = ap (λ (x : List (Version Change)). w ∷ x) (none_goes l)

headed : (l : List (Version Change)) → option_to_list (head_of l) ++ drop 1 l ≡ l
headed [] = refl
headed (v ∷ l) = refl

pub returns_alike : OpenedRowsReturn
returns_alike seen list key down =
    ap (λ (l : List (Version Change)). option_to_list (shown_at key seen) ++ l) (unlike_at seen list key)
    ∙ (same (shown_at key seen)
    ∙ (ap (λ (o : Option (Version Change)). option_to_list o ++ without o (versions_in key list)) (sym (opened_show seen list key))
    ∙ ap (λ (l : List (Version Change)). option_to_list (shown_at key (opened_rows seen list)) ++ l) (sym (unlike_at (opened_rows seen list) list key)))) where
      same : (o : Option (Version Change)) → option_to_list o ++ without o (versions_in key list) ≡ option_to_list (or_else o (head_of (versions_in key list))) ++ without (or_else o (head_of (versions_in key list))) (versions_in key list)
      same (Some v) = refl
      same None = none_goes (versions_in key list)
          ∙ sym (ap (λ (l : List (Version Change)). option_to_list (head_of (versions_in key list)) ++ l) (without_head (versions_in key list) down) ∙ headed (versions_in key list))

-- ---- the line of a key

module _ (c : Content) (m : Marks) (ids : List ℕ) (table : ℕ) (key : List ℕ) (rows : List Row) (list : List Moved) (are : AreOf c m ids table key rows list) where
  opened : IsLineOf c table key (line (base c) table key)
  opened = opened_lines c table key are.regular are.layered are.there

  listed : line (base c) table key ≡ with_cell (recorded_mark c) (cell_of c table key) (versions_in key list)
  listed = opened_lists c table key (versions_in key list) are.regular are.layered are.there are.kept

  -- where the line is the versions of the list
  bare : line (base c) table key ≡ versions_in key list → without (head_of (line (base c) table key)) (versions_in key list) ≡ drop 1 (line (base c) table key)
  bare is = ap (λ (l : List (Version Change)). without (head_of (line (base c) table key)) l) (sym is) ∙ without_head (line (base c) table key) opened.descends

  heads : (o : Option (Version Change)) → cell_of c table key ≡ o → head_of (line (base c) table key) ≡ or_else (kept_cell (recorded_mark c) o) (head_of (versions_in key list))
  unfolding kept_cell
  heads None none = ap (λ (l : List (Version Change)). head_of l) (listed ∙ ap (λ (o : Option (Version Change)). with_cell (recorded_mark c) o (versions_in key list)) none)
  heads (Some v) cell = elim (cases_Bool (keeps_cell (recorded_mark c) v)) [
    | inl is ↦ rw is (opened.newest v cell is)
    | inr hidden ↦
        let as_list : with_cell (recorded_mark c) (Some v) (versions_in key list) ≡ versions_in key list = rw hidden refl in
        rw hidden (ap (λ (l : List (Version Change)). head_of l) (listed ∙ (ap (λ (o : Option (Version Change)). with_cell (recorded_mark c) o (versions_in key list)) cell ∙ as_list)))
  ]

  below : (o : Option (Version Change)) → cell_of c table key ≡ o → without (head_of (line (base c) table key)) (versions_in key list) ≡ drop 1 (line (base c) table key)
  below None none = bare (listed ∙ ap (λ (o : Option (Version Change)). with_cell (recorded_mark c) o (versions_in key list)) none)
  below (Some v) cell = elim (cases_Bool (keeps_cell (recorded_mark c) v)) [
    | inl is ↦
        let with_it : with_cell (recorded_mark c) (Some v) (versions_in key list) ≡ with_version v (versions_in key list) = rw is refl in
        let whole_line : line (base c) table key ≡ with_version v (versions_in key list) = listed ∙ (ap (λ (o : Option (Version Change)). with_cell (recorded_mark c) o (versions_in key list)) cell ∙ with_it) in
        let first : head_of (line (base c) table key) ≡ Some v = opened.newest v cell is in
        ap (λ (o : Option (Version Change)). without o (versions_in key list)) first
        ∙ (sym (without_with v (versions_in key list))
        ∙ (ap (λ (l : List (Version Change)). without (Some v) l) (sym whole_line)
        ∙ (ap (λ (o : Option (Version Change)). without o (line (base c) table key)) (sym first) ∙ without_head (line (base c) table key) opened.descends)))
    | inr hidden ↦
        let as_list : with_cell (recorded_mark c) (Some v) (versions_in key list) ≡ versions_in key list = rw hidden refl in
        bare (listed ∙ (ap (λ (o : Option (Version Change)). with_cell (recorded_mark c) o (versions_in key list)) cell ∙ as_list))
  ]

  -- the row is the newest
  newest : or_else (shown_at key (seen_rows m ids rows)) (head_of (versions_in key list)) ≡ head_of (line (base c) table key)
  newest =
      ap (λ (o : Option (Version Change)). or_else o (head_of (versions_in key list))) (seen_cell c m ids key rows are.marks are.fit.ascend ∙ ap (λ (o : Option (Version Change)). kept_cell (recorded_mark c) o) are.cell)
      ∙ sym (heads (cell_of c table key) refl)

pub shown_open : ShownRowsOpen
shown_open c m ids table key rows shelf list are same =
    let row : shown_at key shelf ≡ head_of (line (base c) table key) = same ∙ newest c m ids table key rows list are in
    record {
      newest = row;
      others =
          unlike_at shelf list key
          ∙ (ap (λ (o : Option (Version Change)). without o (versions_in key list)) row ∙ below c m ids table key rows list are (cell_of c table key) refl);
    }

pub rows_open : RowsOpen
rows_open c m ids table key rows list are = shown_open c m ids table key rows (opened_rows (seen_rows m ids rows) list) list are (opened_show (seen_rows m ids rows) list key)

pub no_others : NoOthersOpen
unfolding without
no_others m ids key rows list none bare =
    let found : version_at key rows ≡ None = absent (version_at key rows) none in
    let hidden : shown_at key (seen_rows m ids rows) ≡ None = ap (λ (o : Option (Version PageChange)). option_map version_in o) (filtered_none key (is_seen_row m ids) rows found) in
    record {
      shown = opened_show (seen_rows m ids rows) list key ∙ (ap (λ (o : Option (Version Change)). or_else o (head_of (versions_in key list))) hidden ∙ ap (λ (l : List (Version Change)). head_of l) bare);
      older = unlike_at (opened_rows (seen_rows m ids rows) list) list key ∙ (ap (λ (l : List (Version Change)). without (shown_at key (opened_rows (seen_rows m ids rows) list)) l) bare ∙ nothing (shown_at key (opened_rows (seen_rows m ids rows) list)));
    } where
      absent : (o : Option (Version PageChange)) → option_map version_in o ≡ None → o ≡ None
      absent None is = refl
      absent (Some v) is = absurd cc

      nothing : (o : Option (Version Change)) → without o [] ≡ []
      nothing o = refl
