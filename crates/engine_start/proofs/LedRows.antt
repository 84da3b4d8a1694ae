-- The rows to which entries lead, by the leaves of their tables.
use Rattle.std.proofs.Common.{◌≡◌, ℕ, true, List, [], ◌∷◌, length, refl, ap, ◌∙◌, inl, inr, arith, suc, ◌++◌, None, Some, sym, subst}
use Rattle.std.specs.Prelude.{map}
use Rattle.std.specs.List.{AllByRecursion}
use Rattle.std.proofs.lemmas.Bool.{eq-eqb, ne_eqb}
use Rattle.kv_model.specs.Holds.{Member}
use Rattle.row_page.specs.Rows.{Row, is_below}
use Rattle.row_page.proofs.Ascending.{below_differs, below_trans}
use Rattle.reconcile.proofs.Keyed.{key_self}
use Rattle.leaf_rows.specs.Rows.{AreFit}
use Rattle.stored.specs.Tree.{AllBear, AllLead, Lead, bottom, join}
use Rattle.stored.specs.TableTree.{Climbs, Entry, Stay, first_key, root_entry, table_kind}
use Rattle.engine_start.specs.declared.table_entries.TableEntries.{TableEntries}
use Rattle.engine_start.specs.EntryLaws.{BorneArePart, LeavesAreLed, TreesAreBorne}
use Rattle.engine_start.specs.Contents.{TableLeaf}
use Rattle.engine_start.specs.Entries.{entries_of, leaves_led, led_by, led_in, AreBorne, Led, IsParted, whole_table, whole_tables}
use Rattle.engine_start.proofs.TablesAdded.{member_table}

map_same : {A B : Type 0} (f g : A → B) (l : List A) → AllByRecursion (λ (x : A). f x ≡ g x) l → map f l ≡ map g l
map_same f g [] all = refl
map_same {B = B} f g (x ∷ l) all = ap (λ (y : B). y ∷ map f l) all.0 ∙ ap (λ (ys : List B). g x ∷ ys) (map_same f g l all.1)

-- ---- of one table

lower_key : (low high : List ℕ) (es : List Entry) → is_below low high ≡ true → AllByRecursion (λ (e : Entry). is_below high e.key ≡ true) es → AllByRecursion (λ (e : Entry). is_below low e.key ≡ true) es
lower_key low high [] below all = tt
lower_key low high (e ∷ es) below all = (below_trans low high e.key below all.0, lower_key low high es below all.1)

above_first : (x : Entry) (es : List Entry) → Climbs (x ∷ es) → AllByRecursion (λ (e : Entry). is_below x.key e.key ≡ true) es
above_first x [] climbs = tt
above_first x (e ∷ es) climbs = (climbs.0, lower_key x.key e.key es climbs.0 (above_first e es climbs.1))

climbs_later : (x : Entry) (es : List Entry) → Climbs (x ∷ es) → Climbs es
climbs_later x [] climbs = tt
climbs_later x (e ∷ es) climbs = climbs.1

passed_by : (x : Entry) (es others : List Entry) (rows : List Row) (leaves : List (List Row)) → AllByRecursion (λ (e : Entry). is_below x.key e.key ≡ true) others
    → AllByRecursion (λ (e : Entry). led_in (x ∷ es) (rows ∷ leaves) e ≡ led_in es leaves e) others
passed_by x es [] rows leaves all = tt
passed_by x es (e ∷ others) rows leaves all = (rw (below_differs x.key e.key all.0) refl, passed_by x es others rows leaves all.1)

pub in_order : (es : List Entry) (leaves : List (List Row)) → Climbs es → length leaves ≡ length es → map (led_in es leaves) es ≡ leaves
in_order [] [] climbs many = refl
in_order [] (rows ∷ leaves) climbs many = absurd (omega (arith, many))
in_order (x ∷ es) [] climbs many = absurd (omega (arith, many))
in_order (x ∷ es) (rows ∷ leaves) climbs many =
    let first : led_in (x ∷ es) (rows ∷ leaves) x ≡ rows = rw (key_self x.key) refl in
    ap (λ (r : List Row). r ∷ map (led_in (x ∷ es) (rows ∷ leaves)) es) first
    ∙ ap (λ (ls : List (List Row)). rows ∷ ls) (map_same (led_in (x ∷ es) (rows ∷ leaves)) (led_in es leaves) es (passed_by x es es rows leaves (above_first x es climbs)) ∙ in_order es leaves (climbs_later x es climbs) (omega (arith, many)))

-- ---- of all tables

later_tables : (t : TableEntries) (tables others : List TableEntries) (leaves : List (List Row)) (all : List (List (List Row))) → ((x : TableEntries) → Member x others → t.table.number ≡ x.table.number → ⊥)
    → AllByRecursion (λ (x : TableEntries). leaves_led (led_by (t ∷ tables) (leaves ∷ all)) x ≡ leaves_led (led_by tables all) x) others
later_tables t tables [] leaves all apart = tt
later_tables t tables (x ∷ others) leaves all apart = (
  rw (ne_eqb t.table.number x.table.number (apart x (inl refl))) refl,
  later_tables t tables others leaves all (λ y there. apart y (inr there)),
)

pub are_led : LeavesAreLed
are_led [] [] apart have = refl
are_led [] (leaves ∷ all) apart have = absurd have
are_led (t ∷ tables) [] apart have = absurd have
are_led (t ∷ tables) (leaves ∷ all) apart have =
    let first : leaves_led (led_by (t ∷ tables) (leaves ∷ all)) t ≡ leaves = rw (eq-eqb t.table.number t.table.number refl) (in_order (entries_of t) leaves have.0 have.1) in
    ap (λ (ls : List (List Row)). ls ∷ map (leaves_led (led_by (t ∷ tables) (leaves ∷ all))) tables) first
    ∙ ap (λ (rest : List (List (List Row))). leaves ∷ rest)
    (map_same (leaves_led (led_by (t ∷ tables) (leaves ∷ all))) (leaves_led (led_by tables all)) tables (later_tables t tables tables leaves all (λ x there. apart.0 x.table (member_table x tables there))) ∙ are_led tables all apart.1 have.2)

-- ---- leaves that are borne

rows_fit : (es : List Entry) (leaves : List (List Row)) → AllBear table_kind es leaves → AllByRecursion (λ (rows : List Row). AreFit rows) leaves
rows_fit [] [] bear = tt
rows_fit [] (rows ∷ leaves) bear = absurd bear
rows_fit (e ∷ es) [] bear = absurd bear
rows_fit (e ∷ es) (rows ∷ leaves) bear = (record { fit = bear.0.leaf.fit; ascend = bear.0.leaf.ascend }, rows_fit es leaves bear.1)

as_many : (es : List Entry) (leaves : List (List Row)) → AllBear table_kind es leaves → length leaves ≡ length es
as_many [] [] bear = refl
as_many [] (rows ∷ leaves) bear = absurd bear
as_many (e ∷ es) [] bear = absurd bear
as_many (e ∷ es) (rows ∷ leaves) bear = ap suc (as_many es leaves bear.1)

parted_by : (led : Led) (t : TableEntries) (leaves : List (List Row)) → AreBorne (entries_of t) leaves → leaves_led led t ≡ leaves → IsParted led t
parted_by led t leaves borne same = record {
  entries = borne.table;
  fit = subst (λ (ls : List (List Row)). AllByRecursion (λ (rows : List Row). AreFit rows) ls) (sym same) (rows_fit (entries_of t) leaves borne.bear);
  stay = subst (λ (ls : List (List Row)). Stay (entries_of t) ls) (sym same) borne.stay;
}

parted_as : (led other : Led) (tables : List TableEntries) → AllByRecursion (λ (x : TableEntries). leaves_led led x ≡ leaves_led other x) tables → AllByRecursion (IsParted other) tables → AllByRecursion (IsParted led) tables
parted_as led other [] same parted = tt
parted_as led other (t ∷ tables) same parted = (
  record {
    entries = parted.0.entries;
    fit = subst (λ (ls : List (List Row)). AllByRecursion (λ (rows : List Row). AreFit rows) ls) (sym same.0) parted.0.fit;
    stay = subst (λ (ls : List (List Row)). Stay (entries_of t) ls) (sym same.0) parted.0.stay;
  },
  parted_as led other tables same.1 parted.1,
)

whole_as : (led other : Led) (tables : List TableEntries) → AllByRecursion (λ (x : TableEntries). leaves_led led x ≡ leaves_led other x) tables → whole_tables led tables ≡ whole_tables other tables
whole_as led other [] same = refl
whole_as led other (t ∷ tables) same =
    ap (λ (ls : List (List Row)). record { table = t.table; rows = join ls } ∷ whole_tables led tables) same.0
    ∙ ap (λ (rest : List TableLeaf). whole_table other t ∷ rest) (whole_as led other tables same.1)

first_led : (t : TableEntries) (tables : List TableEntries) (leaves : List (List Row)) (all : List (List (List Row))) → AreBorne (entries_of t) leaves → leaves_led (led_by (t ∷ tables) (leaves ∷ all)) t ≡ leaves
first_led t tables leaves all borne = rw (eq-eqb t.table.number t.table.number refl) (in_order (entries_of t) leaves borne.table.climbs (as_many (entries_of t) leaves borne.bear))

pub borne_part : BorneArePart
borne_part [] [] apart borne = (tt, refl)
borne_part [] (leaves ∷ all) apart borne = absurd borne
borne_part (t ∷ tables) [] apart borne = absurd borne
borne_part (t ∷ tables) (leaves ∷ all) apart borne =
    let led = led_by (t ∷ tables) (leaves ∷ all) in
    let first = first_led t tables leaves all borne.0 in
    let rest = later_tables t tables tables leaves all (λ x there. apart.0 x.table (member_table x tables there)) in
    let others = borne_part tables all apart.1 borne.1 in (
      (parted_by led t leaves borne.0 first, parted_as led (led_by tables all) tables rest others.0),
      ap (λ (ls : List (List Row)). record { table = t.table; rows = join ls } ∷ whole_tables led tables) first
          ∙ ap (λ (more : List TableLeaf). record { table = t.table; rows = join leaves } ∷ more) (whole_as led (led_by tables all) tables rest ∙ others.1),
    )

-- ---- trees

first_joined : (key : List ℕ) (level : ℕ) (own : List Entry) (pages : List (List Entry)) → first_key own ≡ Some key → Lead table_kind level own pages → first_key (join pages) ≡ Some key
first_joined key level [] pages first lead = absurd (let clash : None ≡ Some key = first in cc)
first_joined key level (e ∷ own) [] first lead = absurd lead
first_joined key level (e ∷ own) (p ∷ pages) first lead = of_page p (lead.0.begins ∙ first) where
  of_page : (p : List Entry) → first_key p ≡ Some key → first_key (p ++ join pages) ≡ Some key
  of_page [] is = absurd (let clash : None ≡ Some key = is in cc)
  of_page (x ∷ p) is = is

first_bottom : (key : List ℕ) (own : List Entry) (layers : List (List (List Entry))) → first_key own ≡ Some key → AllLead table_kind own layers → first_key (bottom own layers) ≡ Some key
first_bottom key own [] first lead = first
first_bottom key own (pages ∷ layers) first lead = first_bottom key (join pages) layers (first_joined key (suc (length layers)) own pages first lead.0) lead.1

pub tree_borne : TreesAreBorne
tree_borne level link t is = record {
  table = record { begins = first_bottom [] (root_entry link ∷ []) t.layers refl is.lead; climbs = is.parts.0 };
  bear = is.bear;
  stay = is.parts.1;
}
