-- Tables that came into a directory: the leaves of each are those of its entries, and there are no others.
use Rattle.std.proofs.Common.{◌≡◌, ◌<◌, ◌≤◌, ◌⊎◌, ℕ, Bool, true, false, List, [], ◌∷◌, ◌++◌, length, Option, Some, None, refl, sym, ap, subst, ◌∙◌, inl, inr, arith}
use Rattle.std.specs.Prelude.{◌==◌, filter, if◌then◌else◌, nat_lt}
use Rattle.std.specs.Option.{option_or}
use Rattle.std.specs.List.{All, AllByRecursion, Contains}
use Rattle.std.proofs.lemmas.Bool.{cases_Bool, cases_eq, cases_lt, eq-eqb, eqb-true, lt-ltb, le-ltb, ne_eqb}
use Rattle.std.proofs.lemmas.List.{append-nil}
use Rattle.std.proofs.lemmas.List.Elements.{All-contains_itself, All-weaker, filter-append}
use Rattle.kv_model.specs.Holds.{Member}
use Rattle.kv_model.specs.Regular.{AllApart, SameNumber}
use Rattle.stored.specs.TableTree.{Climbs, Entry}
use Rattle.tree_dir.specs.declared.leaf.Leaf.{Leaf}
use Rattle.tree_dir.specs.Leaves.{Directory, HasTable, begins_by, leaf_under, leaves_with, no_leaves}
use Rattle.tree_dir.proofs.Members.{head-in, later, split}
use Rattle.engine_start.specs.declared.table_entries.TableEntries.{TableEntries}
use Rattle.engine_start.specs.EntryLaws.{LeavesAreAdded}
use Rattle.engine_start.specs.Entries.{AreAdded, entries_of, tables_of}

-- ---- the leaves of one table

abbrev is_of : ℕ → Leaf → Bool
is_of number l = l.table == number

abbrev pub own : ℕ → List Leaf → List Leaf
own number leaves = filter (is_of number) leaves

or_none : (o : Option Leaf) → option_or o None ≡ o
or_none None = refl
or_none (Some l) = refl

own_first : (number : ℕ) (l : Leaf) (leaves : List Leaf) → (l.table == number) ≡ true → own number (l ∷ leaves) ≡ l ∷ own number leaves
own_first number l leaves is = rw is refl

-- the leaf under a key is one of them
pub under_own : (number : ℕ) (key : List ℕ) (leaves : List Leaf) → leaf_under number key leaves ≡ leaf_under number key (own number leaves)
under_own number key [] = refl
under_own number key (l ∷ leaves) = elim (cases_Bool (l.table == number)) [
  | inl is ↦ ap (λ (o : Option Leaf). option_or o (if begins_by number key l then Some l else None)) (under_own number key leaves) ∙ sym (ap (leaf_under number key) (own_first number l leaves is))
  | inr isnt ↦ rw isnt (or_none (leaf_under number key leaves) ∙ under_own number key leaves)
]

pub contains_own : (number : ℕ) (leaves : List Leaf) (l : Leaf) → Contains leaves l → l.table ≡ number → Contains (own number leaves) l
contains_own number [] l there is = absurd (omega (arith, there.1))
contains_own number (x ∷ leaves) l there is = elim (split x l leaves there) [
  | inl same ↦
      let here : (x.table == number) ≡ true = eq-eqb x.table number (ap (λ (m : Leaf). m.table) same ∙ is) in
      rw here (subst (λ (m : Leaf). Contains (x ∷ own number leaves) m) same (head-in x (own number leaves)))
  | inr more ↦ elim (cases_Bool (x.table == number)) [
    | inl here ↦ rw here (later x l (own number leaves) (contains_own number leaves l more is))
    | inr other ↦ rw other (contains_own number leaves l more is)
  ]
]

pub own_contains : (number : ℕ) (leaves : List Leaf) (l : Leaf) → Contains (own number leaves) l → Contains leaves l
own_contains number [] l = λ there. there
own_contains number (x ∷ leaves) l = elim (cases_Bool (x.table == number)) [
  | inl here ↦ rw here (λ there. elim (split x l (own number leaves) there) [
    | inl same ↦ subst (λ (m : Leaf). Contains (x ∷ leaves) m) same (head-in x leaves)
    | inr more ↦ later x l leaves (own_contains number leaves l more)
  ])
  | inr other ↦ rw other (λ there. later x l leaves (own_contains number leaves l there))
]

-- ---- those of a table that is added

both : (p q : Leaf → Bool) (leaves : List Leaf) → ((l : Leaf) → p l ≡ true → q l ≡ true) → filter p (filter q leaves) ≡ filter p leaves
both p q [] each = refl
both p q (l ∷ leaves) each = elim (cases_Bool (p l)) [
  | inl is ↦ rw (each l is, is) (ap (λ (ls : List Leaf). l ∷ ls) (both p q leaves each))
  | inr isnt ↦ elim (cases_Bool (q l)) [
    | inl other ↦ rw (other, isnt) (both p q leaves each)
    | inr none ↦ rw (none, isnt) (both p q leaves each)
  ]
]

neither : (p q : Leaf → Bool) (leaves : List Leaf) → ((l : Leaf) → p l ≡ true → q l ≡ false) → filter p (filter q leaves) ≡ []
neither p q [] each = refl
neither p q (l ∷ leaves) each = elim (cases_Bool (p l)) [
  | inl is ↦ rw (each l is) (neither p q leaves each)
  | inr isnt ↦ elim (cases_Bool (q l)) [
    | inl other ↦ rw (other, isnt) (neither p q leaves each)
    | inr none ↦ rw none (neither p q leaves each)
  ]
]

with_own : (number : ℕ) (ids : List ℕ) (es : List Entry) → own number (leaves_with number ids es) ≡ leaves_with number ids es
with_own number [] es = refl
with_own number (id ∷ ids) [] = refl
with_own number (id ∷ ids) (e ∷ es) = rw (eq-eqb number number refl) (ap (λ (ls : List Leaf). record { id = id; table = number; entry = e; frame = None } ∷ ls) (with_own number ids es))

with_other : (number table : ℕ) (ids : List ℕ) (es : List Entry) → (table ≡ number → ⊥) → own number (leaves_with table ids es) ≡ []
with_other number table [] es apart = refl
with_other number table (id ∷ ids) [] apart = refl
with_other number table (id ∷ ids) (e ∷ es) apart = rw (ne_eqb table number apart) (with_other number table ids es apart)

abbrev lower : ℕ → List Leaf → List Leaf
lower table leaves = filter (λ (l : Leaf). nat_lt l.table table) leaves

abbrev greater : ℕ → List Leaf → List Leaf
greater table leaves = filter (λ (l : Leaf). nat_lt table l.table) leaves

own_parts : (number table : ℕ) (old new : Directory) (es : List Entry) (ids : List ℕ) → HasTable old new table es ids → own number new.leaves ≡ (own number (lower table old.leaves) ++ own number (leaves_with table ids es)) ++ own number (greater table old.leaves)
own_parts number table old new es ids has =
    ap (own number) has.leaves
    ∙ (filter-append (is_of number) (lower table old.leaves ++ leaves_with table ids es) (greater table old.leaves)
    ∙ ap (λ (ls : List Leaf). ls ++ own number (greater table old.leaves)) (filter-append (is_of number) (lower table old.leaves) (leaves_with table ids es)))

own_here : (number : ℕ) (old new : Directory) (es : List Entry) (ids : List ℕ) → HasTable old new number es ids → own number new.leaves ≡ leaves_with number ids es
own_here number old new es ids has =
    own_parts number number old new es ids has
    ∙ (ap (λ (ls : List Leaf). (ls ++ own number (leaves_with number ids es)) ++ own number (greater number old.leaves)) (neither (is_of number) (λ (l : Leaf). nat_lt l.table number) old.leaves (λ l is. le-ltb l.table number (omega (arith, eqb-true l.table number is))))
    ∙ (ap (λ (ls : List Leaf). own number (leaves_with number ids es) ++ ls) (neither (is_of number) (λ (l : Leaf). nat_lt number l.table) old.leaves (λ l is. le-ltb number l.table (omega (arith, eqb-true l.table number is))))
    ∙ (append-nil (own number (leaves_with number ids es))
    ∙ with_own number ids es)))

own_there : (number table : ℕ) (old new : Directory) (es : List Entry) (ids : List ℕ) → HasTable old new table es ids → (table ≡ number → ⊥) → own number new.leaves ≡ own number old.leaves
own_there number table old new es ids has apart =
    own_parts number table old new es ids has
    ∙ (ap (λ (ls : List Leaf). (own number (lower table old.leaves) ++ ls) ++ own number (greater table old.leaves)) (with_other number table ids es apart)
    ∙ (ap (λ (ls : List Leaf). ls ++ own number (greater table old.leaves)) (append-nil (own number (lower table old.leaves)))
    ∙ sides))
  where
    above : (a b : ℕ) → (a ≡ b → ⊥) → a ≤ b → a < b
    above a b apart least = elim (cases_lt a b) [ inl less ↦ less | inr most ↦ absurd (apart (omega (arith, least, most))) ]

    sides : own number (lower table old.leaves) ++ own number (greater table old.leaves) ≡ own number old.leaves
    sides = elim (cases_lt number table) [
      | inl less ↦
          ap (λ (ls : List Leaf). own number (lower table old.leaves) ++ ls) (neither (is_of number) (λ (l : Leaf). nat_lt table l.table) old.leaves (λ l is. le-ltb table l.table (omega (arith, eqb-true l.table number is, less))))
          ∙ (append-nil (own number (lower table old.leaves))
          ∙ both (is_of number) (λ (l : Leaf). nat_lt l.table table) old.leaves (λ l is. lt-ltb l.table table (omega (arith, eqb-true l.table number is, less))))
      | inr most ↦
          let more : table < number = above table number apart most in
          ap (λ (ls : List Leaf). ls ++ own number (greater table old.leaves)) (neither (is_of number) (λ (l : Leaf). nat_lt l.table table) old.leaves (λ l is. le-ltb l.table table (omega (arith, eqb-true l.table number is, more))))
          ∙ both (is_of number) (λ (l : Leaf). nat_lt table l.table) old.leaves (λ l is. lt-ltb table l.table (omega (arith, eqb-true l.table number is, more)))
    ]

-- ---- tables that are added

-- the leaves of the table are those of its entries
pub record OwnIs (leaves : List Leaf) (t : TableEntries) : Type 0 where
  pub ids : List ℕ
  pub many : length ids ≡ length (entries_of t)
  pub are : own t.table.number leaves ≡ leaves_with t.table.number ids (entries_of t)

kept_own : (old new : Directory) (tables : List TableEntries) (number : ℕ) → AreAdded old tables new → ((t : TableEntries) → Member t tables → t.table.number ≡ number → ⊥) → own number new.leaves ≡ own number old.leaves
kept_own old new [] number added none = ap (λ (d : Directory). own number d.leaves) added
kept_own old new (t ∷ tables) number added none =
    kept_own added.0 new tables number added.2 (λ x there. none x (inr there))
    ∙ own_there number t.table.number old added.0 (entries_of t) added.1.0 added.1.1 (none t (inl refl))

pub member_table : (t : TableEntries) (tables : List TableEntries) → Member t tables → Member t.table (tables_of tables)
member_table t [] there = absurd there
member_table t (x ∷ tables) (inl same) = inl (ap (λ (y : TableEntries). y.table) same)
member_table t (x ∷ tables) (inr there) = inr (member_table t tables there)

pub own_added : (old new : Directory) (tables : List TableEntries) (t : TableEntries) → AreAdded old tables new → AllApart SameNumber (tables_of tables) → Member t tables → OwnIs new.leaves t
own_added old new [] t added apart there = absurd there
own_added old new (x ∷ tables) t added apart (inl same) = subst (λ (y : TableEntries). OwnIs new.leaves y) (sym same) (record {
  ids = added.1.0;
  many = added.1.1.fresh.many;
  are = kept_own added.0 new tables x.table.number added.2 (λ y there is. apart.0 y.table (member_table y tables there) (sym is)) ∙ own_here x.table.number old added.0 (entries_of x) added.1.0 added.1.1;
})
own_added old new (x ∷ tables) t added apart (inr there) = own_added added.0 new tables t added.2 apart.1 there

among : (number : ℕ) (tables : List TableEntries) → ((t : TableEntries) × Member t tables × (number ≡ t.table.number)) ⊎ ((t : TableEntries) → Member t tables → t.table.number ≡ number → ⊥)
among number [] = inr (λ t there is. there)
among number (t ∷ tables) = elim (cases_eq number t.table.number) [
  | inl same ↦ inl (t, inl refl, same)
  | inr other ↦ elim (among number tables) [
    | inl found ↦ inl (found.0, inr found.1, found.2)
    | inr none ↦ inr (λ x there is. elim there [ inl same ↦ other (sym is ∙ ap (λ (y : TableEntries). y.table.number) same) | inr more ↦ none x more is ])
  ]
]

-- each leaf is one of theirs
pub leaf_added : (new : Directory) (tables : List TableEntries) (l : Leaf) → AreAdded no_leaves tables new → Contains new.leaves l → (t : TableEntries) × Member t tables × (l.table ≡ t.table.number)
leaf_added new tables l added there = elim (among l.table tables) [
  | inl found ↦ found
  | inr none ↦
      let nothing : Contains [] l = subst (λ (ls : List Leaf). Contains ls l) (kept_own no_leaves new tables l.table added none) (contains_own l.table new.leaves l there refl) in
      absurd (omega (arith, nothing.1))
]

-- one table more, of another number
pub added_more : (old between new : Directory) (done : List TableEntries) (t : TableEntries) (ids : List ℕ) → AreAdded old done between → HasTable between new t.table.number (entries_of t) ids → AreAdded old (done ++ t ∷ []) new
added_more old between new [] t ids added has = (new, (ids, subst (λ (d : Directory). HasTable d new t.table.number (entries_of t) ids) added has), refl)
added_more old between new (x ∷ done) t ids added has = (added.0, added.1, added_more added.0 between new done t ids added.2 has)

among_all : (done rest : List TableEntries) (t : TableEntries) → Member t.table (tables_of (done ++ t ∷ rest))
among_all [] rest t = inl refl
among_all (x ∷ done) rest t = inr (among_all done rest t)

apart_before : (done rest : List TableEntries) (t u : TableEntries) → AllApart SameNumber (tables_of (done ++ t ∷ rest)) → Member u done → u.table.number ≡ t.table.number → ⊥
apart_before [] rest t u apart there same = there
apart_before (x ∷ done) rest t u apart (inl is) same = apart.0 t.table (among_all done rest t) (ap (λ (y : TableEntries). y.table.number) (sym is) ∙ same)
apart_before (x ∷ done) rest t u apart (inr there) same = apart_before done rest t u apart.1 there same

pub none_of : (done rest : List TableEntries) (t : TableEntries) (d : Directory) → AllApart SameNumber (tables_of (done ++ t ∷ rest)) → AreAdded no_leaves done d → All (λ (l : Leaf). l.table ≡ t.table.number → ⊥) d.leaves
none_of done rest t d apart added = All-weaker (Contains d.leaves) (λ (l : Leaf). l.table ≡ t.table.number → ⊥) (λ l there same. let its = leaf_added d done l added there in apart_before done rest t its.0 apart its.1 (sym its.2 ∙ same)) d.leaves (All-contains_itself d.leaves)

pub climbs_at : (done rest : List TableEntries) (t : TableEntries) → AllByRecursion (λ (x : TableEntries). Climbs (entries_of x)) (done ++ t ∷ rest) → Climbs (entries_of t)
climbs_at [] rest t all = all.0
climbs_at (x ∷ done) rest t all = climbs_at done rest t all.1

-- it is in no frame
pub none_framed : (number : ℕ) (ids : List ℕ) (es : List Entry) (l : Leaf) → Contains (leaves_with number ids es) l → l.frame ≡ None
none_framed number [] es l there = absurd (omega (arith, there.1))
none_framed number (id ∷ ids) [] l there = absurd (omega (arith, there.1))
none_framed number (id ∷ ids) (e ∷ es) l there = elim (split (record { id = id; table = number; entry = e; frame = None }) l (leaves_with number ids es) there) [
  | inl same ↦ sym (ap (λ (m : Leaf). m.frame) same)
  | inr more ↦ none_framed number ids es l more
]

-- and of an entry
of_entry : (number : ℕ) (ids : List ℕ) (es : List Entry) (l : Leaf) → Contains (leaves_with number ids es) l → Member l.entry es
of_entry number [] es l there = absurd (omega (arith, there.1))
of_entry number (id ∷ ids) [] l there = absurd (omega (arith, there.1))
of_entry number (id ∷ ids) (e ∷ es) l there = elim (split (record { id = id; table = number; entry = e; frame = None }) l (leaves_with number ids es) there) [
  | inl same ↦ inl (sym (ap (λ (m : Leaf). m.entry) same))
  | inr more ↦ inr (of_entry number ids es l more)
]

pub entry_added : LeavesAreAdded
entry_added tables d l apart added there =
    let its = leaf_added d tables l added there in
    let its_own = own_added no_leaves d tables its.0 added apart its.1 in
    (its.0, its.1, its.2, of_entry its.0.table.number its_own.ids (entries_of its.0) l (subst (λ (ls : List Leaf). Contains ls l) its_own.are (contains_own its.0.table.number d.leaves l there its.2)))
