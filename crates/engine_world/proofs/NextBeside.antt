-- The next leaf of a leaf, where a leaf of another table gives way to others: it is the one that it was.
use Rattle.std.proofs.Common.{◌≡◌, ◌≢◌, ℕ, refl, ap, sym, ◌∙◌, Bool, true, false, List, [], ◌∷◌, ◌++◌, inl, inr, subst}
use Rattle.std.specs.Prelude.{◌==◌, Option, Some, None, if◌then◌else◌}
use Rattle.std.specs.List.{Contains}
use Rattle.std.proofs.lemmas.Bool.{cases_Bool, eqb-true, ne_eqb}
use Rattle.stored.specs.TableTree.{Entry}
use Rattle.tree_dir.specs.declared.leaf.Leaf.{Leaf}
use Rattle.tree_dir.specs.Leaves.{given_way, leaf_behind, leaves_with, of_table}
use Rattle.tree_dir.proofs.Members.{head-in, later}

-- ---- one leaf in front

-- the first of the leaves, where it is of the table of this one
abbrev next_in : Leaf → List Leaf → Option Leaf
next_in a [] = None
next_in a (b ∷ rest) = of_table a.table b

behind-cons : (id : ℕ) (a : Leaf) (rest : List Leaf) → leaf_behind id (a ∷ rest) ≡ (if a.id == id then next_in a rest else leaf_behind id rest)
behind-cons id a [] = by (a.id == id) where
  by : (b : Bool) → leaf_behind id (a ∷ []) ≡ (if b then next_in a [] else leaf_behind id [])
  by true = refl
  by false = refl
behind-cons id a (b ∷ rest) = refl

behind-past : (id : ℕ) (a : Leaf) (rest : List Leaf) → a.id ≢ id → leaf_behind id (a ∷ rest) ≡ leaf_behind id rest
behind-past id a rest other = behind-cons id a rest ∙ ap (λ (b : Bool). if b then next_in a rest else leaf_behind id rest) (ne_eqb a.id id other)

behind-front : (id : ℕ) (front rest : List Leaf) → ((n : Leaf) → Contains front n → n.id ≢ id) → leaf_behind id (front ++ rest) ≡ leaf_behind id rest
behind-front id [] rest others = refl
behind-front id (n ∷ front) rest others = behind-past id n (front ++ rest) (others n (head-in n front)) ∙ behind-front id front rest (λ m there. others m (later n m front there))

of-other : (table : ℕ) (n : Leaf) → n.table ≢ table → of_table table n ≡ None
of-other table n other = ap (λ (b : Bool). if b then Some n else None) (ne_eqb n.table table other)

-- ---- a leaf gives way

-- id, table: of the leaf that gives way; own, own_table: of the one whose next leaf is asked
pub record AreApart (id table own own_table id0 : ℕ) (ids : List ℕ) (e0 : Entry) (entries : List Entry) (leaves : List Leaf) : Type 0 where
  pub other : id ≢ own
  pub others : table ≢ own_table
  pub gone : (y : Leaf) → Contains leaves y → y.id ≡ id → y.table ≡ table
  pub owner : (y : Leaf) → Contains leaves y → y.id ≡ own → y.table ≡ own_table
  pub news : (n : Leaf) → Contains (leaves_with table (id0 ∷ ids) (e0 ∷ entries)) n → n.id ≢ own

module _ (id table own own_table id0 : ℕ) (ids : List ℕ) (e0 : Entry) (entries : List Entry) where
  abbrev given : List Leaf → List Leaf
  given leaves = given_way id (id0 ∷ ids) (e0 ∷ entries) leaves

  -- the first of them is of another table still
  next-given : (a : Leaf) (rest : List Leaf) → a.table ≢ table → ((y : Leaf) → Contains rest y → y.id ≡ id → y.table ≡ table) → next_in a (given_way id (id0 ∷ ids) (e0 ∷ entries) rest) ≡ next_in a rest
  next-given a [] apart gone = refl
  next-given a (b ∷ rest) apart gone = elim (cases_Bool (b.id == id)) [
    | inl is ↦ let same = gone b (head-in b rest) (eqb-true b.id id is) in let other : b.table ≢ a.table = λ back. apart (sym back ∙ same) in
        rw is (of-other a.table (record { id = id0; table = b.table; entry = e0; frame = None }) other ∙ sym (of-other a.table b other))
    | inr isnt ↦ rw isnt refl
  ]

  pub behind-given : (leaves : List Leaf) → AreApart id table own own_table id0 ids e0 entries leaves → leaf_behind own (given_way id (id0 ∷ ids) (e0 ∷ entries) leaves) ≡ leaf_behind own leaves
  behind-given [] x = refl
  behind-given (a ∷ rest) x = elim (cases_Bool (a.id == id)) [
    | inl is ↦ let here = eqb-true a.id id is in let same = x.gone a (head-in a rest) here in
        rw is (behind-front own (leaves_with a.table (id0 ∷ ids) (e0 ∷ entries)) rest (subst (λ (t : ℕ). (n : Leaf) → Contains (leaves_with t (id0 ∷ ids) (e0 ∷ entries)) n → n.id ≢ own) (sym same) x.news)
        ∙ sym (behind-past own a rest (λ back. x.other (sym here ∙ back))))
    | inr isnt ↦ rw isnt (behind-cons own a (given_way id (id0 ∷ ids) (e0 ∷ entries) rest) ∙ (by-own (behind-given rest others) ∙ sym (behind-cons own a rest)))
  ] where
    others : AreApart id table own own_table id0 ids e0 entries rest
    others = record { other = x.other; others = x.others; gone = λ y there. x.gone y (later a y rest there); owner = λ y there. x.owner y (later a y rest there); news = x.news }

    by-own : leaf_behind own (given_way id (id0 ∷ ids) (e0 ∷ entries) rest) ≡ leaf_behind own rest → (if a.id == own then next_in a (given_way id (id0 ∷ ids) (e0 ∷ entries) rest) else leaf_behind own (given_way id (id0 ∷ ids) (e0 ∷ entries) rest)) ≡ (if a.id == own then next_in a rest else leaf_behind own rest)
    by-own further = elim (cases_Bool (a.id == own)) [
      | inl is ↦ let mine = x.owner a (head-in a rest) (eqb-true a.id own is) in rw is (next-given a rest (λ same. x.others (sym same ∙ mine)) others.gone)
      | inr isnt ↦ rw isnt further
    ]
