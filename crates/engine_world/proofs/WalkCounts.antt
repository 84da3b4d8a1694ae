-- How many leaves of a table are left to a walk.
use Rattle.std.proofs.Common.{◌≡◌, ◌≢◌, ◌≤◌, ℕ, suc, refl, ap, sym, ◌∙◌, Bool, true, false, List, [], ◌∷◌, length, inl, inr, subst, arith}
use Rattle.std.specs.Prelude.{◌==◌, Some, None, if◌then◌else◌}
use Rattle.std.specs.List.{AllPairs, Contains}
use Rattle.std.proofs.lemmas.Bool.{cases_Bool, cases_eq, eq-eqb, eqb-true, ne_eqb}
use Rattle.std.proofs.lemmas.Option.{same_Some}
use Rattle.kv_model.specs.Rows.{Way, Up, Down}
use Rattle.tree_dir.specs.declared.leaf.Leaf.{Leaf}
use Rattle.tree_dir.specs.Leaves.{leaf_ahead, leaf_behind, of_table}
use Rattle.tree_dir.proofs.Members.{head-in, later}
use Rattle.call_steps.specs.Tables.{leaf_on}
use Rattle.engine_world.specs.Walks.{all_ahead, all_behind, in_table, leaves_on}

-- no two leaves have one id
abbrev pub Once : List Leaf → Type 0
Once leaves = AllPairs (λ a b. a.id ≢ b.id) leaves

once-tail : (a : Leaf) (leaves : List Leaf) → Once (a ∷ leaves) → Once leaves
once-tail a leaves once i j d lt within = once (suc i) (suc j) d (omega (arith, lt)) (omega (arith, within))

-- the first leaf has the id of no other
once-head : (a : Leaf) (leaves : List Leaf) (b : Leaf) → Once (a ∷ leaves) → Contains leaves b → a.id ≢ b.id
once-head a leaves b once c e = once 0 (suc c.0) b (omega arith) (omega (arith, c.1)) (e ∙ ap (λ (x : Leaf). x.id) (sym c.2))

table-of : (table : ℕ) (b n : Leaf) → of_table table b ≡ Some n → (b.table ≡ table) × (b ≡ n)
table-of table b n e = elim (cases_Bool (b.table == table)) [
  | inl is ↦ (eqb-true b.table table is, same_Some b n (rw is at e))
  | inr isnt ↦ let none : None ≡ Some n = rw isnt at e in absurd cc
]

-- ---- at most all of them

few-in : (table : ℕ) (leaves : List Leaf) → length (in_table table leaves) ≤ length leaves
few-in table [] = omega arith
few-in table (l ∷ leaves) = elim (cases_Bool (l.table == table)) [
  | inl is ↦ rw is (let less = few-in table leaves in omega (arith, less))
  | inr isnt ↦ rw isnt (let less = few-in table leaves in omega (arith, less))
]

few-behind : (id : ℕ) (leaves : List Leaf) → length (all_behind id leaves) ≤ length leaves
few-behind id [] = omega arith
few-behind id (l ∷ leaves) = elim (cases_Bool (l.id == id)) [
  | inl is ↦ rw is (omega arith)
  | inr isnt ↦ rw isnt (let less = few-behind id leaves in omega (arith, less))
]

few-ahead : (id : ℕ) (leaves : List Leaf) → length (all_ahead id leaves) ≤ length leaves
few-ahead id [] = omega arith
few-ahead id (l ∷ leaves) = elim (cases_Bool (l.id == id)) [
  | inl is ↦ rw is (omega arith)
  | inr isnt ↦ rw isnt (let less = few-ahead id leaves in omega (arith, less))
]

pub leaves-few : (way : Way) (table id : ℕ) (leaves : List Leaf) → leaves_on way table id leaves ≤ length leaves
leaves-few Up table id leaves = let a = few-behind id (in_table table leaves) in let b = few-in table leaves in omega (arith, a, b)
leaves-few Down table id leaves = let a = few-ahead id (in_table table leaves) in let b = few-in table leaves in omega (arith, a, b)

-- ---- one less at the next leaf

pub behind-there : (id : ℕ) (leaves : List Leaf) (n : Leaf) → leaf_behind id leaves ≡ Some n → Contains leaves n
behind-there id [] n e = absurd cc
behind-there id (a ∷ []) n e = absurd cc
behind-there id (a ∷ b ∷ leaves) n e = elim (cases_Bool (a.id == id)) [
  | inl is ↦ let here = table-of a.table b n (rw is at e) in subst (Contains (a ∷ b ∷ leaves)) here.1 (later a b (b ∷ leaves) (head-in b leaves))
  | inr isnt ↦ later a n (b ∷ leaves) (behind-there id (b ∷ leaves) n (rw isnt at e))
]

-- the leaf before one is there, and so is one of the id
pub record IsAhead (id : ℕ) (leaves : List Leaf) (n : Leaf) : Type 0 where
  pub there : Contains leaves n
  pub next : Leaf
  pub of : next.id ≡ id
  pub next_there : Contains leaves next

pub ahead-there : (id : ℕ) (leaves : List Leaf) (n : Leaf) → leaf_ahead id leaves ≡ Some n → IsAhead id leaves n
ahead-there id [] n e = absurd cc
ahead-there id (a ∷ []) n e = absurd cc
ahead-there id (a ∷ b ∷ leaves) n e = elim (cases_Bool (b.id == id)) [
  | inl is ↦ let here = table-of b.table a n (rw is at e) in record {
    there = subst (Contains (a ∷ b ∷ leaves)) here.1 (head-in a (b ∷ leaves));
    next = b;
    of = eqb-true b.id id is;
    next_there = later a b (b ∷ leaves) (head-in b leaves);
  }
  | inr isnt ↦ let more = ahead-there id (b ∷ leaves) n (rw isnt at e) in record {
    there = later a n (b ∷ leaves) more.there;
    next = more.next;
    of = more.of;
    next_there = later a more.next (b ∷ leaves) more.next_there;
  }
]

-- those behind an id that is not the first one's
behind-past : (table id : ℕ) (a : Leaf) (leaves : List Leaf) → a.id ≢ id → all_behind id (in_table table (a ∷ leaves)) ≡ all_behind id (in_table table leaves)
behind-past table id a leaves other = elim (cases_Bool (a.table == table)) [
  | inl is ↦ rw (is, ne_eqb a.id id other) refl
  | inr isnt ↦ rw isnt refl
]

ahead-past : (table id : ℕ) (a : Leaf) (leaves : List Leaf) → a.id ≢ id → all_ahead id (in_table table (a ∷ leaves)) ≡ (if a.table == table then a ∷ all_ahead id (in_table table leaves) else all_ahead id (in_table table leaves))
ahead-past table id a leaves other = elim (cases_Bool (a.table == table)) [
  | inl is ↦ rw (is, ne_eqb a.id id other) refl
  | inr isnt ↦ rw isnt refl
]

count-behind : (table id : ℕ) (leaves : List Leaf) (n : Leaf) → Once leaves → leaf_behind id leaves ≡ Some n → n.table ≡ table
    → length (all_behind id (in_table table leaves)) ≡ suc (length (all_behind n.id (in_table table leaves)))
count-behind table id [] n once e own = absurd cc
count-behind table id (a ∷ []) n once e own = absurd cc
count-behind table id (a ∷ b ∷ leaves) n once e own = elim (cases_eq a.id id) [
  | inl is ↦ let here = table-of a.table b n (rw (eq-eqb a.id id is) at e) in
      let b_own : b.table ≡ table = ap (λ (x : Leaf). x.table) here.1 ∙ own in
      let a_own : a.table ≡ table = sym here.0 ∙ b_own in
      let first : all_behind id (in_table table (a ∷ b ∷ leaves)) ≡ b ∷ in_table table leaves = rw (eq-eqb a.table table a_own, eq-eqb b.table table b_own, eq-eqb a.id id is) refl in
      let second : all_behind b.id (in_table table (a ∷ b ∷ leaves)) ≡ in_table table leaves =
      behind-past table b.id a (b ∷ leaves) (once-head a (b ∷ leaves) b once (head-in b leaves)) ∙ rw (eq-eqb b.table table b_own, eq-eqb b.id b.id refl) refl in
      ap length first ∙ ap suc (sym (ap length (ap (λ (x : Leaf). all_behind x.id (in_table table (a ∷ b ∷ leaves))) (sym here.1) ∙ second)))
  | inr other ↦ let rest : leaf_behind id (b ∷ leaves) ≡ Some n = rw (ne_eqb a.id id other) at e in
      let n_other : a.id ≢ n.id = once-head a (b ∷ leaves) n once (behind-there id (b ∷ leaves) n rest) in
      ap length (behind-past table id a (b ∷ leaves) other)
      ∙ (count-behind table id (b ∷ leaves) n (once-tail a (b ∷ leaves) once) rest own ∙ ap suc (sym (ap length (behind-past table n.id a (b ∷ leaves) n_other))))
]

one-more : (c : Bool) (a : Leaf) (xs ys : List Leaf) → length xs ≡ suc (length ys) → length (if c then a ∷ xs else xs) ≡ suc (length (if c then a ∷ ys else ys))
one-more true a xs ys e = ap suc e
one-more false a xs ys e = e

count-ahead : (table id : ℕ) (leaves : List Leaf) (n : Leaf) → Once leaves → leaf_ahead id leaves ≡ Some n → n.table ≡ table
    → length (all_ahead id (in_table table leaves)) ≡ suc (length (all_ahead n.id (in_table table leaves)))
count-ahead table id [] n once e own = absurd cc
count-ahead table id (a ∷ []) n once e own = absurd cc
count-ahead table id (a ∷ b ∷ leaves) n once e own = elim (cases_eq b.id id) [
  | inl is ↦ let here = table-of b.table a n (rw (eq-eqb b.id id is) at e) in
      let a_own : a.table ≡ table = ap (λ (x : Leaf). x.table) here.1 ∙ own in
      let b_own : b.table ≡ table = sym here.0 ∙ a_own in
      let apart : a.id ≢ id = λ same. once-head a (b ∷ leaves) b once (head-in b leaves) (same ∙ sym is) in
      let first : all_ahead id (in_table table (a ∷ b ∷ leaves)) ≡ a ∷ [] = rw (eq-eqb a.table table a_own, eq-eqb b.table table b_own, ne_eqb a.id id apart, eq-eqb b.id id is) refl in
      let second : all_ahead a.id (in_table table (a ∷ b ∷ leaves)) ≡ [] = rw (eq-eqb a.table table a_own, eq-eqb a.id a.id refl) refl in
      ap length first ∙ ap suc (sym (ap length (ap (λ (x : Leaf). all_ahead x.id (in_table table (a ∷ b ∷ leaves))) (sym here.1) ∙ second)))
  | inr other ↦ let rest : leaf_ahead id (b ∷ leaves) ≡ Some n = rw (ne_eqb b.id id other) at e in
      let more = ahead-there id (b ∷ leaves) n rest in
      let id_other : a.id ≢ id = λ same. once-head a (b ∷ leaves) more.next once more.next_there (same ∙ sym more.of) in
      let n_other : a.id ≢ n.id = once-head a (b ∷ leaves) n once more.there in
      ap length (ahead-past table id a (b ∷ leaves) id_other)
      ∙ (one-more (a.table == table) a (all_ahead id (in_table table (b ∷ leaves))) (all_ahead n.id (in_table table (b ∷ leaves))) (count-ahead table id (b ∷ leaves) n (once-tail a (b ∷ leaves) once) rest own)
      ∙ ap suc (sym (ap length (ahead-past table n.id a (b ∷ leaves) n_other))))
]

pub leaves-less : (way : Way) (table id : ℕ) (leaves : List Leaf) (n : Leaf) → Once leaves → leaf_on way id leaves ≡ Some n → n.table ≡ table → leaves_on way table id leaves ≡ suc (leaves_on way table n.id leaves)
leaves-less Up table id leaves n once e own = count-behind table id leaves n once e own
leaves-less Down table id leaves n once e own = count-ahead table id leaves n once e own
