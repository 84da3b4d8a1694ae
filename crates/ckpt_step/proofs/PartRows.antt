-- The rows of a table's leaves, one behind the other: they ascend, and show what each leaf shows of its keys.
use Rattle.std.specs.Prelude.{◌≡◌, ℕ, true, false, List, [], ◌∷◌, ◌++◌, Option, Some, None, bytes_eq, option_map, refl}
use Rattle.std.specs.List.{AllByRecursion}
use Rattle.std.proofs.Common.{inl, inr, sym, ◌∙◌, ap, subst}
use Rattle.std.proofs.lemmas.Bool.{cases_Bool}
use Rattle.item.specs.declared.Change.{Change}
use Rattle.stamp.specs.declared.version.Version.{Version}
use Rattle.kv_model.specs.History.{Table}
use Rattle.kv_model.specs.Holds.{Member}
use Rattle.row_page.specs.Changes.{PageChange, version_in}
use Rattle.row_page.specs.Rows.{Row, RowFits, Ascends, is_below, key_most}
use Rattle.row_page.proofs.Ascending.{below_trans, keys_part}
use Rattle.leaf_rows.specs.Rows.{AreFit, version_at}
use Rattle.reconcile.specs.Shows.{shown_at}
use Rattle.reconcile.proofs.Keyed.{same_key}
use Rattle.stored.specs.Tree.{join}
use Rattle.tree_dir.specs.declared.leaf.Leaf.{Leaf}
use Rattle.tree_dir.specs.Leaves.{TablesBegin, leaf_under, leaves_of}
use Rattle.ckpt_step.specs.Moments.{Moment, RowsServe, Serves}
use Rattle.ckpt_step.specs.Parts.{ArePartedBy}
use Rattle.ckpt_step.specs.Sizes.{AreServedOf}
use Rattle.ckpt_step.proofs.LowKeys.{row_lies, rows_both}
use Rattle.ckpt_step.proofs.Members.{all_made, all_of, some_same}
use Rattle.ckpt_step.proofs.OrderedByName.{all_join}
use Rattle.ckpt_step.proofs.TableLeaves.{AreOnce, above_key, begins_parts, once_table, table_in, under_head, under_in, under_none, under_of, under_some, under_tail}

-- ---- rows behind others

-- each of these keys is below each of those
abbrev pub AreUnder : List Row → List Row → Type 0
AreUnder rows others = AllByRecursion (λ (r : Row). AllByRecursion (λ (q : Row). is_below r.0 q.0 ≡ true) others) rows

behind_row : (r : Row) (rows others : List Row) → Ascends (Some r.0) rows → Ascends None others → AreUnder (r ∷ rows) others → Ascends (Some r.0) (rows ++ others)
behind_row r [] [] up more under = tt
behind_row r [] (q ∷ others) up more under = (under.0.0, more.1)
behind_row r (q ∷ rows) others up more under = (up.0, behind_row q rows others up.1 more under.1)

pub ascends_both : (rows others : List Row) → Ascends None rows → Ascends None others → AreUnder rows others → Ascends None (rows ++ others)
ascends_both [] others up more under = more
ascends_both (r ∷ rows) others up more under = (up.0, behind_row r rows others up.1 more under)

pub fit_both : (rows others : List Row) → AreFit rows → AreFit others → AreUnder rows others → AreFit (rows ++ others)
fit_both rows others one two under = record { fit = all_join (λ (r : Row). RowFits [] key_most r) rows others one.fit two.fit; ascend = ascends_both rows others one.ascend two.ascend under }

-- ---- what they show of a key

-- no row has the key
abbrev pub Lack : List ℕ → List Row → Type 0
Lack key rows = AllByRecursion (λ (r : Row). bytes_eq r.0 key ≡ false) rows

none_at : (key : List ℕ) (rows : List Row) → Lack key rows → version_at key rows ≡ None
none_at key [] lack = refl
none_at key (r ∷ rows) lack = rw lack.0 (none_at key rows lack.1)

pub shown_behind : (key : List ℕ) (rows others : List Row) → Lack key rows → shown_at key (rows ++ others) ≡ shown_at key others
shown_behind key [] others lack = refl
shown_behind key (r ∷ rows) others lack = rw lack.0 (shown_behind key rows others lack.1)

pub shown_front : (key : List ℕ) (rows others : List Row) → Lack key others → shown_at key (rows ++ others) ≡ shown_at key rows
shown_front key [] others lack = ap (λ (o : Option (Version PageChange)). option_map version_in o) (none_at key others lack)
shown_front key (r ∷ rows) others lack = elim (cases_Bool (bytes_eq r.0 key)) [
  | inl is ↦ rw is refl
  | inr isnt ↦ rw isnt (shown_front key rows others lack)
]

-- ---- rows that are parted by the leaves of a table

-- of two keys the one that lies before is below
under_below : (table : ℕ) (key other : List ℕ) (leaves : List Leaf) (l : Leaf) → leaf_under table key leaves ≡ None → leaf_under table other leaves ≡ Some l → is_below key other ≡ true
under_below table key other leaves l none some =
    let own = under_in table other leaves l some in
    let low = begins_parts table other l own.1 in
    let below = above_key table key l low.0 (under_none table key leaves l none own.0) in
    elim (cases_Bool (bytes_eq other l.entry.key)) [
      | inl same ↦ subst (λ (k : List ℕ). is_below key k ≡ true) (sym (same_key other l.entry.key same)) below
      | inr differs ↦ below_trans key l.entry.key other below (keys_part other l.entry.key low.1 differs)
    ]

-- all: the leaves of the directory; leaves: the last ones of a table
module _ (all : List Leaf) (table : ℕ) where
  -- a key that lies in one of these leaves is looked for among them
  abbrev Tails : List Leaf → Type 0
  Tails leaves = (key : List ℕ) (l : Leaf) → Member l leaves → leaf_under table key all ≡ Some l → leaf_under table key leaves ≡ Some l

  tails_later : (x : Leaf) (leaves : List Leaf) → AreOnce (x ∷ leaves) → Tails (x ∷ leaves) → Tails leaves
  tails_later x leaves once tails key l there is = under_tail table key x leaves l once there (tails key l (inr there) is)

  before_rest : (l : Leaf) (leaves : List Leaf) (images : List (List Row)) (parts : List (List (List Row))) → AreOnce (l ∷ leaves) → Tails (l ∷ leaves) → ArePartedBy all table (l ∷ leaves) (images ∷ parts) → AreUnder (join images) (join (join parts))
  before_rest l leaves images parts once tails parted =
      all_made (λ (r : Row). AllByRecursion (λ (q : Row). is_below r.0 q.0 ≡ true) (join (join parts))) (join images) (λ r own. all_made (λ (q : Row). is_below r.0 q.0 ≡ true) (join (join parts)) (λ q later.
      let here = tails r.0 l (inl refl) (all_of (λ (x : Row). leaf_under table x.0 all ≡ Some l) (join images) r parted.0 own) in
      let lies = row_lies all table leaves parts q parted.1 later in
      under_below table r.0 q.0 leaves lies.0 (under_head table r.0 l leaves once here) (tails_later l leaves once tails q.0 lies.0 lies.1 lies.2)))

  fit_all : (leaves : List Leaf) (parts : List (List (List Row))) → AreOnce leaves → Tails leaves → ArePartedBy all table leaves parts → AllByRecursion (λ (images : List (List Row)). AreFit (join images)) parts → AreFit (join (join parts))
  fit_all [] [] once tails parted fit = record { fit = tt; ascend = tt }
  fit_all [] (images ∷ parts) once tails parted fit = absurd parted
  fit_all (l ∷ leaves) [] once tails parted fit = absurd parted
  fit_all (l ∷ leaves) (images ∷ parts) once tails parted fit =
      subst AreFit (sym (rows_both images (join parts)))
      (fit_both (join images) (join (join parts)) fit.0 (fit_all leaves parts once.1 (tails_later l leaves once tails) parted.1 fit.1) (before_rest l leaves images parts once tails parted))

  -- rows of other leaves than that of a key
  others_lack : (key : List ℕ) (l : Leaf) (rows : List Row) → leaf_under table key all ≡ Some l → ((r : Row) → Member r rows → (m : Leaf) × (leaf_under table r.0 all ≡ Some m) × (m.id ≡ l.id → ⊥)) → Lack key rows
  others_lack key l rows is each = all_made (λ (r : Row). bytes_eq r.0 key ≡ false) rows (λ r there. elim (cases_Bool (bytes_eq r.0 key)) [
    | inr differs ↦ differs
    | inl same ↦
        let other = each r there in
        let at : leaf_under table r.0 all ≡ leaf_under table key all = ap (λ (k : List ℕ). leaf_under table k all) (same_key r.0 key same) in
        absurd (other.2 (ap (λ (x : Leaf). x.id) (some_same (sym other.1 ∙ (at ∙ is)))))
  ])

  serve_all : (n : Moment) (key : List ℕ) (l : Leaf) → leaf_under table key all ≡ Some l → (leaves : List Leaf) (parts : List (List (List Row))) → AreOnce leaves → Member l leaves → ArePartedBy all table leaves parts → AreServedOf n all table leaves parts
      → Serves n table key (shown_at key (join (join parts)))
  serve_all n key l is [] parts once there parted serve = absurd there
  serve_all n key l is (x ∷ leaves) [] once there parted serve = absurd parted
  serve_all n key l is (x ∷ leaves) (images ∷ parts) once (inl same) parted serve =
      subst (λ (o : Option (Version Change)). Serves n table key o)
      (sym (shown_front key (join images) (join (join parts)) (others_lack key l (join (join parts)) is (λ r own. let lies = row_lies all table leaves parts r parted.1 own in (lies.0, lies.2, (λ one. all_of (λ (y : Leaf). y.id ≡ x.id → ⊥) leaves lies.0 once.0 lies.1 (one ∙ ap (λ (y : Leaf). y.id) same))))))
      ∙ ap (shown_at key) (sym (rows_both images (join parts))))
      (serve.0 key (is ∙ ap (λ (y : Leaf). Some y) same))
  serve_all n key l is (x ∷ leaves) (images ∷ parts) once (inr later) parted serve =
      subst (λ (o : Option (Version Change)). Serves n table key o)
      (sym (shown_behind key (join images) (join (join parts)) (others_lack key l (join images) is (λ r own. (x, all_of (λ (q : Row). leaf_under table q.0 all ≡ Some x) (join images) r parted.0 own, (λ one. all_of (λ (y : Leaf). y.id ≡ x.id → ⊥) leaves l once.0 later (sym one))))))
      ∙ ap (shown_at key) (sym (rows_both images (join parts))))
      (serve_all n key l is leaves parts once.1 later parted.1 serve.1)

-- where those of each leaf serve for its keys, they serve as the rows of the table
pub rows_of_parts : (n : Moment) (t : Table) (all : List Leaf) (first : Leaf) (parts : List (List (List Row))) → AreOnce all → TablesBegin all → Member first all → first.table ≡ t.number → ArePartedBy all t.number (leaves_of t.number all) parts
    → AllByRecursion (λ (images : List (List Row)). AreFit (join images)) parts → AreServedOf n all t.number (leaves_of t.number all) parts → RowsServe n t (join (join parts))
rows_of_parts n t all first parts once begins there own parted fit serve = record {
  fit = fit_all all t.number (leaves_of t.number all) parts (once_table t.number all once) (λ key l also is. sym (under_of t.number key all) ∙ is) parted fit;
  serve = λ key.
      let under = under_some t.number key all first begins there own in
      let at = under_in t.number key all under.0 under.1 in
      serve_all all t.number n key under.0 under.1 (leaves_of t.number all) parts (once_table t.number all once) (table_in t.number all under.0 at.0 (begins_parts t.number key under.0 at.1).0) parted serve;
}
