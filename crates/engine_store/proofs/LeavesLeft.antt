-- The leaves that the steps of a checkpoint have left: one is, as long as a table is; and each step leaves one fewer.
use Rattle.std.proofs.Common.{◌≡◌, ◌∙◌, ◌<◌, ◌≤◌, ℕ, zero, suc, true, false, List, [], ◌∷◌, ◌++◌, length, Option, Some, None, refl, sym, ap, subst, inl, inr, arith}
use Rattle.std.specs.Prelude.{◌+◌, ◌==◌, if◌then◌else◌, nat_lt, option_and_then, slice_get}
use Rattle.std.specs.List.{AllPairs}
use Rattle.std.specs.Option.{option_or}
use Rattle.std.specs.Ordering.{is_lt, nat_cmp}
use Rattle.std.specs.Cmp.Lexicographic.{slice_cmp}
use Rattle.std.proofs.lemmas.Bool.{and_from, and_left, and_parts, and_right, both_ways, cases_Bool, cases_lt, eq-eqb, eqb-true, false_from_ne_true, le-ltb, lt-ltb, ne_eqb}
use Rattle.kv_model.specs.History.{Table}
use Rattle.kv_model.specs.Holds.{Member}
use Rattle.kv_model.specs.Machine.{of_some}
use Rattle.row_page.specs.Rows.{is_below}
use Rattle.row_page.proofs.Ascending.{below_self, below_trans}
use Rattle.tree_dir.specs.declared.leaf.Leaf.{Leaf}
use Rattle.tree_dir.specs.Leaves.{Directory, IsDirectory, TablesBegin, begins_by, is_before, leaf_behind, leaf_under, leaves_of, of_table, place_key}
use Rattle.tree_dir.specs.Ranges.{low_key}
use Rattle.tree_dir.proofs.KeyOrder.{less-from, place-same, tables-less}
use Rattle.engine_world.specs.Leaves.{TablesBegun}
use Rattle.ckpt_step.proofs.Members.{all_of, none_some, some_same}
use Rattle.ckpt_step.proofs.TableLeaves.{AreOnce, above_key as not_begun, begins_parts, contains_of, member_of, once_of, under_in, under_none, under_some}
use Rattle.engine_store.specs.declared.progress.Progress.{Progress}
use Rattle.engine_store.specs.Progress.{above_key, is_above, leaves_in, left_in, low_behind, passed_in, place_of}

-- ---- whether one is left

left_some : (tables : List Table) (place : ℕ) (key : List ℕ) (leaves : List Leaf) → place < length tables → 0 < left_in tables place key leaves
left_some [] place key leaves lt = absurd (omega (arith, lt))
left_some (t ∷ later) zero key leaves lt = omega arith
left_some (t ∷ later) (suc place) key leaves lt = left_some later place key leaves (omega (arith, lt))

pub left_none : (tables : List Table) (place : ℕ) (key : List ℕ) (leaves : List Leaf) → length tables ≤ place → left_in tables place key leaves ≡ 0
left_none [] place key leaves le = refl
left_none (t ∷ later) zero key leaves le = absurd (omega (arith, le))
left_none (t ∷ later) (suc place) key leaves le = left_none later place key leaves (omega (arith, le))

pub no_less : (n m : ℕ) → m ≤ n → nat_lt n m ≡ false
no_less n m le = le-ltb n m le

pub left_told : (tables : List Table) (place : ℕ) (key : List ℕ) (leaves : List Leaf) → nat_lt 0 (left_in tables place key leaves) ≡ nat_lt place (length tables)
left_told tables place key leaves = elim (cases_lt place (length tables)) [
  | inl lt ↦ lt-ltb 0 (left_in tables place key leaves) (left_some tables place key leaves lt) ∙ sym (lt-ltb place (length tables) lt)
  | inr le ↦ no_less 0 (left_in tables place key leaves) (let none = left_none tables place key leaves le in omega (arith, none)) ∙ sym (no_less place (length tables) le)
]

-- ---- leaves in their order

abbrev Climbing : List Leaf → Type 0
Climbing [] = Unit {0}
Climbing (x ∷ more) = ((y : Leaf) → Member y more → is_before x y ≡ true) × Climbing more

climbing : (leaves : List Leaf) → AllPairs (λ (a b : Leaf). is_before a b ≡ true) leaves → Climbing leaves
climbing [] pairs = tt
climbing (x ∷ more) pairs = (
  λ y there. let at = contains_of more y there in subst (λ (z : Leaf). is_before x z ≡ true) at.2 (pairs zero (suc at.0) y (omega arith) (omega (arith, at.1))),
  climbing more (λ i j d lt within. pairs (suc i) (suc j) d (omega (arith, lt)) (omega (arith, within))),
)

low_up : (a b : Leaf) → a.table ≡ b.table → is_before a b ≡ true → is_below a.entry.key b.entry.key ≡ true
low_up a b same before = sym (ap is_lt (place-same a.table b.table a.entry.key b.entry.key same)) ∙ before

table_up : (a b : Leaf) → is_before a b ≡ true → a.table ≤ b.table
table_up a b before = tables-less a.table b.table a.entry.key b.entry.key (less-from (slice_cmp nat_cmp (place_key a) (place_key b)) before)

-- the empty key is above none
never_below : (k : List ℕ) → is_below k [] ≡ false
never_below [] = refl
never_below (x ∷ k) = refl

-- ---- those above a key

above_in : (table : ℕ) (key : List ℕ) (x : Leaf) (more : List Leaf) → is_above table key x ≡ true → above_key table key (x ∷ more) ≡ x ∷ above_key table key more
above_in table key x more is = rw is refl

above_out : (table : ℕ) (key : List ℕ) (x : Leaf) (more : List Leaf) → is_above table key x ≡ false → above_key table key (x ∷ more) ≡ above_key table key more
above_out table key x more isnt = rw isnt refl

above_is : (table : ℕ) (key : List ℕ) (x : Leaf) → is_above table key x ≡ true → (x.table ≡ table) × (is_below key x.entry.key ≡ true)
above_is table key x is = let both = and_parts (x.table == table) (is_below key x.entry.key) is in (eqb-true x.table table both.0, both.1)

above_from : (table : ℕ) (key : List ℕ) (x : Leaf) → x.table ≡ table → is_below key x.entry.key ≡ true → is_above table key x ≡ true
above_from table key x own below = and_from (x.table == table) (is_below key x.entry.key) (eq-eqb x.table table own) below

not_above : (table : ℕ) (key : List ℕ) (x : Leaf) → (x.table ≡ table → is_below key x.entry.key ≡ true → ⊥) → is_above table key x ≡ false
not_above table key x never = false_from_ne_true (is_above table key x) (λ is. let both = above_is table key x is in never both.0 both.1)

-- where none of the table is behind, none is above
above_none : (table : ℕ) (key : List ℕ) (leaves : List Leaf) → ((y : Leaf) → Member y leaves → y.table ≡ table → ⊥) → above_key table key leaves ≡ []
above_none table key [] others = refl
above_none table key (x ∷ more) others = above_out table key x more (not_above table key x (λ own below. others x (inl refl) own)) ∙ above_none table key more (λ y there. others y (inr there))

-- above a key or another one there are the same leaves, if each of the table is above both
above_same : (table : ℕ) (key other : List ℕ) (leaves : List Leaf) → ((y : Leaf) → Member y leaves → y.table ≡ table → (is_below key y.entry.key ≡ true) × (is_below other y.entry.key ≡ true)) → above_key table key leaves ≡ above_key table other leaves
above_same table key other [] all = refl
above_same table key other (x ∷ more) all = elim (cases_Bool (x.table == table)) [
  | inl own ↦
      let both = all x (inl refl) (eqb-true x.table table own) in
      above_in table key x more (above_from table key x (eqb-true x.table table own) both.0)
      ∙ (ap (λ (l : List Leaf). x ∷ l) (above_same table key other more (λ y there. all y (inr there))) ∙ sym (above_in table other x more (above_from table other x (eqb-true x.table table own) both.1)))
  | inr not_own ↦
      above_out table key x more (and_left (x.table == table) (is_below key x.entry.key) not_own)
      ∙ (above_same table key other more (λ y there. all y (inr there)) ∙ sym (above_out table other x more (and_left (x.table == table) (is_below other x.entry.key) not_own)))
]

heads : {A : Type 0} (x y : A) (xs ys : List A) → x ∷ xs ≡ y ∷ ys → (x ≡ y) × (xs ≡ ys)
heads x y xs ys same = (cc, cc)

nothing : {A : Type 0} (x : A) (xs : List A) → [] ≡ x ∷ xs → ⊥
nothing x xs same = absurd cc

-- the first of them is above the key
first_above : (table : ℕ) (key : List ℕ) (leaves : List Leaf) (n : Leaf) (more : List Leaf) → above_key table key leaves ≡ n ∷ more → is_above table key n ≡ true
first_above table key [] n more is = absurd (nothing n more is)
first_above table key (x ∷ rest) n more is = elim (cases_Bool (is_above table key x)) [
  | inl above ↦ let same = heads x n (above_key table key rest) more (sym (above_in table key x rest above) ∙ is) in subst (λ (y : Leaf). is_above table key y ≡ true) same.0 above
  | inr out ↦ first_above table key rest n more (sym (above_out table key x rest out) ∙ is)
]

-- behind it are those above its own low key
pub above_next : (table : ℕ) (key : List ℕ) (leaves : List Leaf) (n : Leaf) (more : List Leaf) → Climbing leaves → above_key table key leaves ≡ n ∷ more → above_key table n.entry.key leaves ≡ more
above_next table key [] n more climbs is = absurd (nothing n more is)
above_next table key (x ∷ rest) n more climbs is = elim (cases_Bool (is_above table key x)) [
  | inl above ↦
      let same = heads x n (above_key table key rest) more (sym (above_in table key x rest above) ∙ is) in
      let own = above_is table key x above in
      subst (λ (y : Leaf). above_key table y.entry.key (x ∷ rest) ≡ more) same.0
      (above_out table x.entry.key x rest (not_above table x.entry.key x (λ t below. below_self x.entry.key below))
      ∙ (above_same table x.entry.key key rest (λ y there in_table. let up = low_up x y (own.0 ∙ sym in_table) (climbs.0 y there) in (up, below_trans key x.entry.key y.entry.key own.1 up)) ∙ same.1))
  | inr out ↦
      let later = sym (above_out table key x rest out) ∙ is in
      let over = (above_is table key n (first_above table key rest n more later)).1 in
      above_out table n.entry.key x rest (not_above table n.entry.key x (λ own below. both_ways (is_above table key x) out (above_from table key x own (below_trans key n.entry.key x.entry.key over below))))
      ∙ above_next table key rest n more climbs.1 later
]

-- ---- the leaf behind the one that has the key is the first of them

abbrev first_leaf : List Leaf → Option Leaf
first_leaf [] = None
first_leaf (x ∷ more) = Some x

abbrev if_begins : ℕ → List ℕ → Leaf → Option Leaf
if_begins table key x = if begins_by table key x then Some x else None

-- one that begins by the key is not above it
begun_out : (table : ℕ) (key : List ℕ) (x : Leaf) → begins_by table key x ≡ true → is_above table key x ≡ false
begun_out table key x begins = and_right (x.table == table) (is_below key x.entry.key) (begins_parts table key x begins).1

or_second : (o p : Option Leaf) (l : Leaf) → o ≡ None → option_or o p ≡ Some l → p ≡ Some l
or_second o p l none is = subst (λ (q : Option Leaf). option_or q p ≡ Some l) none is

or_first : (o p : Option Leaf) (x l : Leaf) → o ≡ Some x → option_or o p ≡ Some l → x ≡ l
or_first o p x l some is = some_same (subst (λ (q : Option Leaf). option_or q p ≡ Some l) some is)

begins_if : (table : ℕ) (key : List ℕ) (x l : Leaf) → if_begins table key x ≡ Some l → (x ≡ l) × (begins_by table key x ≡ true)
begins_if table key x l is = elim (cases_Bool (begins_by table key x)) [
  | inl begins ↦ (some_same (rw begins at is), begins)
  | inr isnt ↦ absurd (none_some (rw isnt at is))
]

behind_is : (table : ℕ) (key : List ℕ) (leaves : List Leaf) (l : Leaf) → Climbing leaves → AreOnce leaves → leaf_under table key leaves ≡ Some l → leaf_behind l.id leaves ≡ first_leaf (above_key table key leaves)
behind_is table key [] l climbs once is = absurd (none_some is)
behind_is table key (x ∷ []) l climbs once is =
    let mine = begins_if table key x l (or_second None (if_begins table key x) l refl is) in
    sym (ap first_leaf (above_out table key x [] (begun_out table key x mine.1)))
behind_is table key (x ∷ y ∷ ys) l climbs once is = by (leaf_under table key (y ∷ ys)) refl (λ later. behind_is table key (y ∷ ys) l climbs.1 once.1 later)
  where
    by : (o : Option Leaf) → leaf_under table key (y ∷ ys) ≡ o → (leaf_under table key (y ∷ ys) ≡ Some l → leaf_behind l.id (y ∷ ys) ≡ first_leaf (above_key table key (y ∷ ys))) → leaf_behind l.id (x ∷ y ∷ ys) ≡ first_leaf (above_key table key (x ∷ y ∷ ys))
    by (Some z) some more =
        let same = or_first (leaf_under table key (y ∷ ys)) (if_begins table key x) z l some is in
        let later : leaf_under table key (y ∷ ys) ≡ Some l = some ∙ ap (λ (k : Leaf). let o : Option Leaf = Some k in o) same in
        let found = under_in table key (y ∷ ys) l later in
        let parts = begins_parts table key l found.1 in
        let apart : (x.id == l.id) ≡ false = ne_eqb x.id l.id (λ e. all_of (λ (m : Leaf). m.id ≡ x.id → ⊥) (y ∷ ys) l once.0 found.0 (sym e)) in
        let out = not_above table key x (λ own below. both_ways (is_below key l.entry.key) parts.1 (below_trans key x.entry.key l.entry.key below (low_up x l (own ∙ sym parts.0) (climbs.0 l found.0)))) in
        rw apart (more later ∙ sym (ap first_leaf (above_out table key x (y ∷ ys) out)))
    by None none more =
        let mine = begins_if table key x l (or_second (leaf_under table key (y ∷ ys)) (if_begins table key x) l none is) in
        let parts = begins_parts table key x mine.1 in
        let here : (x.id == x.id) ≡ true = eq-eqb x.id x.id refl in
        subst (λ (k : Leaf). leaf_behind k.id (x ∷ y ∷ ys) ≡ first_leaf (above_key table key (x ∷ y ∷ ys))) mine.0
        (rw here (next parts.0 none ∙ sym (ap first_leaf (above_out table key x (y ∷ ys) (begun_out table key x mine.1)))))
      where
        next : x.table ≡ table → leaf_under table key (y ∷ ys) ≡ None → of_table x.table y ≡ first_leaf (above_key table key (y ∷ ys))
        next own none = elim (cases_Bool (y.table == x.table)) [
          | inl same ↦
              let in_table : y.table ≡ table = eqb-true y.table x.table same ∙ own in
              let isnt = under_none table key (y ∷ ys) y none (inl refl) in
              let over : is_below key y.entry.key ≡ true = not_begun table key y in_table isnt in
              rw same (sym (ap first_leaf (above_in table key y ys (above_from table key y in_table over))))
          | inr other ↦
              let le = table_up x y (climbs.0 y (inl refl)) in
              rw other (sym (ap first_leaf (above_none table key (y ∷ ys) (λ z there in_table. apart z there in_table le other))))
        ]
          where
            apart : (z : Leaf) → Member z (y ∷ ys) → z.table ≡ table → x.table ≤ y.table → (y.table == x.table) ≡ false → ⊥
            apart z (inl same) in_table le other = both_ways (y.table == x.table) other (eq-eqb y.table x.table (ap (λ (k : Leaf). k.table) (sym same) ∙ (in_table ∙ sym own)))
            apart z (inr there) in_table le other =
                let up = table_up y z (climbs.1.0 z there) in
                both_ways (y.table == x.table) other (eq-eqb y.table x.table (let t = own in let u = in_table in omega (arith, le, up, t, u)))

-- ---- a table from its empty key on

-- each leaf of the table but the first is above the empty key
first_all : (table : ℕ) (leaves : List Leaf) (l : Leaf) → Climbing leaves → Member l leaves → l.table ≡ table → l.entry.key ≡ [] → length (leaves_of table leaves) ≡ suc (length (above_key table [] leaves))
first_all table [] l climbs there own low = absurd there
first_all table (x ∷ rest) l climbs (inl same) own low =
    let mine : x.table ≡ table = ap (λ (k : Leaf). k.table) (sym same) ∙ own in
    let key : x.entry.key ≡ [] = ap (λ (k : Leaf). k.entry.key) (sym same) ∙ low in
    let is : (x.table == table) ≡ true = eq-eqb x.table table mine in
    let whole : leaves_of table (x ∷ rest) ≡ x ∷ leaves_of table rest = rw is refl in
    let out = above_out table [] x rest (and_right (x.table == table) (is_below [] x.entry.key) (ap (is_below []) key)) in
    ap (λ (k : List Leaf). length k) whole ∙ ap (λ (k : List Leaf). suc (length k)) (rest_above rest (λ y there in_table. subst (λ (k : List ℕ). is_below k y.entry.key ≡ true) key (low_up x y (mine ∙ sym in_table) (climbs.0 y there))) ∙ sym out)
  where
    rest_above : (more : List Leaf) → ((y : Leaf) → Member y more → y.table ≡ table → is_below [] y.entry.key ≡ true) → leaves_of table more ≡ above_key table [] more
    rest_above [] all = refl
    rest_above (y ∷ more) all = elim (cases_Bool (y.table == table)) [
      | inl is ↦
          let own : leaves_of table (y ∷ more) ≡ y ∷ leaves_of table more = rw is refl in
          own ∙ (ap (λ (k : List Leaf). y ∷ k) (rest_above more (λ z there. all z (inr there))) ∙ sym (above_in table [] y more (above_from table [] y (eqb-true y.table table is) (all y (inl refl) (eqb-true y.table table is)))))
      | inr isnt ↦
          let other : leaves_of table (y ∷ more) ≡ leaves_of table more = rw isnt refl in
          other ∙ (rest_above more (λ z there. all z (inr there)) ∙ sym (above_out table [] y more (and_left (y.table == table) (is_below [] y.entry.key) isnt)))
    ]
first_all table (x ∷ rest) l climbs (inr there) own low =
    let isnt : (x.table == table) ≡ false = ne_eqb x.table table (λ mine. both_ways (is_below x.entry.key []) (never_below x.entry.key) (subst (λ (k : List ℕ). is_below x.entry.key k ≡ true) low (low_up x l (mine ∙ sym own) (climbs.0 l there)))) in
    let other : leaves_of table (x ∷ rest) ≡ leaves_of table rest = rw isnt refl in
    ap (λ (k : List Leaf). length k) other ∙ (first_all table rest l climbs.1 there own low ∙ ap (λ (k : List Leaf). suc (length k)) (sym (above_out table [] x rest (and_left (x.table == table) (is_below [] x.entry.key) isnt))))

-- ---- a step

-- each of these tables has a leaf from the empty key on
abbrev pub Begun : List Table → List Leaf → Type 0
Begun [] leaves = Unit {0}
Begun (t ∷ later) leaves = ((l : Leaf) × Member l leaves × (l.table ≡ t.number) × (l.entry.key ≡ [])) × Begun later leaves

all_left : (tables : List Table) (leaves : List Leaf) → Climbing leaves → Begun tables leaves → leaves_in tables leaves ≡ left_in tables 0 [] leaves
all_left [] leaves climbs begun = refl
all_left (t ∷ later) leaves climbs begun = let l = begun.0 in ap (λ (n : ℕ). n + leaves_in later leaves) (first_all t.number leaves l.0 climbs l.1 l.2 l.3)

-- how many are left behind the next one
abbrev left_after : List Table → (place : ℕ) → Option (List ℕ) → List Leaf → ℕ
left_after tables place None leaves = left_in tables (suc place) [] leaves
left_after tables place (Some key) leaves = left_in tables place key leaves

after_later : (t : Table) (later : List Table) (place : ℕ) (o : Option (List ℕ)) (leaves : List Leaf) → left_after (t ∷ later) (suc place) o leaves ≡ left_after later place o leaves
after_later t later place None leaves = refl
after_later t later place (Some key) leaves = refl

first_left : (t : Table) (later : List Table) (key : List ℕ) (leaves : List Leaf) → TablesBegin leaves → Climbing leaves → AreOnce leaves → Begun (t ∷ later) leaves
    → left_in (t ∷ later) 0 key leaves ≡ suc (left_after (t ∷ later) 0 (low_behind t.number key leaves) leaves)
first_left t later key leaves begins climbs once begun = by (above_key t.number key leaves) refl
  where
    under : (l : Leaf) × (leaf_under t.number key leaves ≡ Some l)
    under = let l = begun.0 in under_some t.number key leaves l.0 begins l.1 l.2

    behind : low_behind t.number key leaves ≡ low_key (first_leaf (above_key t.number key leaves))
    behind = ap (option_and_then (λ (l : Leaf). low_key (leaf_behind l.id leaves))) under.1 ∙ ap low_key (behind_is t.number key leaves under.0 climbs once under.1)

    whole : left_in (t ∷ later) 0 key leaves ≡ suc (length (above_key t.number key leaves)) + leaves_in later leaves
    whole = refl

    by : (above : List Leaf) → above_key t.number key leaves ≡ above → left_in (t ∷ later) 0 key leaves ≡ suc (left_after (t ∷ later) 0 (low_behind t.number key leaves) leaves)
    by [] none =
        let after : left_after (t ∷ later) 0 (low_behind t.number key leaves) leaves ≡ left_in later 0 [] leaves = ap (λ (o : Option (List ℕ)). left_after (t ∷ later) 0 o leaves) (behind ∙ ap (λ (k : List Leaf). low_key (first_leaf k)) none) in
        let count : length (above_key t.number key leaves) ≡ 0 = ap (λ (k : List Leaf). length k) none in
        let rest = all_left later leaves climbs begun.1 in
        omega (arith, whole, after, count, rest)
    by (n ∷ more) some =
        let after : left_after (t ∷ later) 0 (low_behind t.number key leaves) leaves ≡ suc (length (above_key t.number n.entry.key leaves)) + leaves_in later leaves =
        ap (λ (o : Option (List ℕ)). left_after (t ∷ later) 0 o leaves) (behind ∙ ap (λ (k : List Leaf). low_key (first_leaf k)) some) in
        let count : length (above_key t.number key leaves) ≡ suc (length more) = ap (λ (k : List Leaf). length k) some in
        let next : length (above_key t.number n.entry.key leaves) ≡ length more = ap (λ (k : List Leaf). length k) (above_next t.number key leaves n more climbs some) in
        omega (arith, whole, after, count, next)

one_less : (tables : List Table) (place : ℕ) (t : Table) (key : List ℕ) (leaves : List Leaf) → TablesBegin leaves → Climbing leaves → AreOnce leaves → Begun tables leaves → slice_get tables place ≡ Some t
    → left_in tables place key leaves ≡ suc (left_after tables place (low_behind t.number key leaves) leaves)
one_less [] place t key leaves begins climbs once begun at = absurd (none_some at)
one_less (x ∷ later) zero t key leaves begins climbs once begun at = subst (λ (y : Table). left_in (x ∷ later) 0 key leaves ≡ suc (left_after (x ∷ later) 0 (low_behind y.number key leaves) leaves)) (some_same at) (first_left x later key leaves begins climbs once begun)
one_less (x ∷ later) (suc place) t key leaves begins climbs once begun at =
    one_less later place t key leaves begins climbs once begun.1 at ∙ ap (λ (n : ℕ). suc n) (sym (after_later x later place (low_behind t.number key leaves) leaves))

-- at the place that it leads to
at_place : (tables : List Table) (leaves : List Leaf) (p : Progress) (o : Option (List ℕ)) → left_in tables (place_of p o).table (place_of p o).key leaves ≡ left_after tables p.table o leaves
at_place tables leaves p None = refl
at_place tables leaves p (Some key) = refl

-- where one is left, a step leaves one fewer
pub step_left : (d : Directory) (tables : List Table) (p : Progress) (t : Table) → IsDirectory d → Begun tables d.leaves → slice_get tables p.table ≡ Some t
    → left_in tables p.table p.key d.leaves ≡ suc (left_in tables (passed_in tables d.leaves p).table (passed_in tables d.leaves p).key d.leaves)
step_left d tables p t is begun at =
    one_less tables p.table t p.key d.leaves is.begins (climbing d.leaves is.ascends) (once_of d.leaves is.once) begun at
    ∙ ap (λ (n : ℕ). suc n) (sym (ap (λ (q : Progress). left_in tables q.table q.key d.leaves) (ap (of_some p (λ (x : Table). place_of p (low_behind x.number p.key d.leaves))) at) ∙ at_place tables d.leaves p (low_behind t.number p.key d.leaves)))

-- the tables of an engine have such leaves, and so do the first of them
pub tables_begun : (known : List Table) (leaves : List Leaf) → TablesBegin leaves → TablesBegun known leaves → Begun known leaves
tables_begun [] leaves begins begun = tt
tables_begun (t ∷ later) leaves begins begun =
    let l = begun 0 t refl in
    let first = begins l.0 l.1 in
    ((first.0, member_of leaves first.0 first.1, first.2.0 ∙ l.2, first.2.1), tables_begun later leaves begins (λ place x at. begun (suc place) x at))

pub front_begun : (front back : List Table) (leaves : List Leaf) → Begun (front ++ back) leaves → Begun front leaves
front_begun [] back leaves begun = tt
front_begun (t ∷ front) back leaves begun = (begun.0, front_begun front back leaves begun.1)
