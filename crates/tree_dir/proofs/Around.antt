-- The leaves before and behind one of a list.
use Rattle.std.proofs.Common.{◌≡◌, ◌≢◌, ℕ, suc, true, List, [], ◌∷◌, ◌++◌, get_or, Option, Some, None, refl, sym, ap, ◌∙◌, inl, inr, arith}
use Rattle.std.specs.Prelude.{nat_eq, if◌then◌else◌}
use Rattle.std.specs.Option.{option_or}
use Rattle.std.specs.List.{AllPairs, Contains}
use Rattle.std.proofs.lemmas.Bool.{eq-eqb, ne_eqb}
use Rattle.std.proofs.lemmas.List.{get_or_default}
use Rattle.std.proofs.lemmas.List.Elements.{Contains-append_cases, filter-append}
use Rattle.stored.specs.TableTree.{Entry}
use Rattle.tree_dir.specs.declared.leaf.Leaf.{Leaf}
use Rattle.tree_dir.specs.Leaves.{begins_by, given_way, leaf_under, leaves_of, leaves_with}
use Rattle.tree_dir.specs.Slots.{no_leaf}
use Rattle.tree_dir.proofs.GivenWay.{given-at}
use Rattle.tree_dir.proofs.Members.{head-in, later, split}
use Rattle.tree_dir.proofs.Parting.{last-is, none-begins}

-- none of the others has its id
pub record IsAmong (leaves : List Leaf) (l : Leaf) : Type 0 where
  pub front : List Leaf
  pub back : List Leaf
  pub whole : leaves ≡ front ++ l ∷ back
  pub ahead : (x : Leaf) → Contains front x → x.id ≢ l.id
  pub behind : (x : Leaf) → Contains back x → x.id ≢ l.id

first-apart : (x y : Leaf) (more : List Leaf) → AllPairs (λ a b. a.id ≢ b.id) (x ∷ more) → Contains more y → x.id ≢ y.id
first-apart x y more once c same = once 0 (suc c.0) y (omega arith) (omega (arith, c.1)) (same ∙ ap (λ (m : Leaf). m.id) (sym c.2))

rest-once : (x : Leaf) (more : List Leaf) → AllPairs (λ a b. a.id ≢ b.id) (x ∷ more) → AllPairs (λ a b. a.id ≢ b.id) more
rest-once x more once i j d lt within = once (suc i) (suc j) d (omega (arith, lt)) (omega (arith, within))

pub among : (leaves : List Leaf) (l : Leaf) → AllPairs (λ a b. a.id ≢ b.id) leaves → Contains leaves l → IsAmong leaves l
among [] l once c = absurd (omega (arith, c.1))
among (x ∷ leaves) l once c = elim (split x l leaves c) [
  | inl same ↦ record {
    front = [];
    back = leaves;
    whole = ap (λ (y : Leaf). y ∷ leaves) same;
    ahead = λ y none. absurd (omega (arith, none.1));
    behind = λ y there e. first-apart x y leaves once there (ap (λ (m : Leaf). m.id) same ∙ sym e);
  }
  | inr there ↦ let more = among leaves l (rest-once x leaves once) there in record {
    front = x ∷ more.front;
    back = more.back;
    whole = ap (λ (ls : List Leaf). x ∷ ls) more.whole;
    ahead = λ y here e. elim (split x y more.front here) [
      | inl same ↦ first-apart x l leaves once there (ap (λ (m : Leaf). m.id) same ∙ e)
      | inr after ↦ more.ahead y after e
    ];
    behind = more.behind;
  }
]

-- the others are not the leaf
pub beside-it : (leaves : List Leaf) (l x : Leaf) → (a : IsAmong leaves l) → Contains (a.front ++ a.back) x → x.id ≢ l.id
beside-it leaves l x a c = elim (Contains-append_cases a.front a.back x c) [
  | inl fore ↦ a.ahead x fore
  | inr rear ↦ a.behind x rear
]

pub given-among : (leaves : List Leaf) (l : Leaf) (ids : List ℕ) (es : List Entry) → (a : IsAmong leaves l) → given_way l.id ids es leaves ≡ a.front ++ (leaves_with l.table ids es ++ a.back)
given-among leaves l ids es a =
    ap (given_way l.id ids es) a.whole
    ∙ given-at l.id ids es a.front a.back l (λ k lt. a.ahead (get_or a.front k no_leaf) (k, lt, get_or_default a.front k (get_or a.front k no_leaf) no_leaf lt)) refl

-- ---- what is found under a key

pub under-in : (table : ℕ) (key : List ℕ) (leaves : List Leaf) (l : Leaf) → leaf_under table key leaves ≡ Some l → Contains leaves l
under-in table key leaves l e = let p = last-is table key leaves l e in (p.r, p.within, get_or_default leaves p.r l no_leaf p.within ∙ p.is)

or-none : (o : Option Leaf) → o ≡ option_or o None
or-none None = refl
or-none (Some l) = refl

or-or : (a b c : Option Leaf) → option_or (option_or a b) c ≡ option_or a (option_or b c)
or-or None b c = refl
or-or (Some l) b c = refl

pub under-append : (table : ℕ) (key : List ℕ) (xs ys : List Leaf) → leaf_under table key (xs ++ ys) ≡ option_or (leaf_under table key ys) (leaf_under table key xs)
under-append table key [] ys = or-none (leaf_under table key ys)
under-append table key (x ∷ xs) ys =
    ap (λ (o : Option Leaf). option_or o (if begins_by table key x then Some x else None)) (under-append table key xs ys)
    ∙ or-or (leaf_under table key ys) (leaf_under table key xs) (if begins_by table key x then Some x else None)

-- one is found where one begins by the key
pub under-some : (table : ℕ) (key : List ℕ) (leaves : List Leaf) (x : Leaf) → Contains leaves x → begins_by table key x ≡ true → (n : Leaf) × Contains leaves n × (leaf_under table key leaves ≡ Some n)
under-some table key leaves x c begins = go (leaf_under table key leaves) refl where
  go : (o : Option Leaf) → leaf_under table key leaves ≡ o → (n : Leaf) × Contains leaves n × (leaf_under table key leaves ≡ Some n)
  go (Some n) e = (n, under-in table key leaves n e, e)
  go None e =
      let is = get_or_default leaves c.0 no_leaf x c.1 ∙ c.2 in
      let clash = sym (none-begins table key leaves e c.0 c.1) ∙ (ap (begins_by table key) is ∙ begins) in absurd cc

-- ---- the leaves of a table

pub of-append : (table : ℕ) (xs ys : List Leaf) → leaves_of table (xs ++ ys) ≡ leaves_of table xs ++ leaves_of table ys
of-append table xs ys = filter-append (λ (l : Leaf). nat_eq l.table table) xs ys

pub of-own : (table : ℕ) (l : Leaf) (leaves : List Leaf) → l.table ≡ table → leaves_of table (l ∷ leaves) ≡ l ∷ leaves_of table leaves
of-own table l leaves same = rw (eq-eqb l.table table same) refl

pub of-other : (table : ℕ) (l : Leaf) (leaves : List Leaf) → l.table ≢ table → leaves_of table (l ∷ leaves) ≡ leaves_of table leaves
of-other table l leaves other = rw (ne_eqb l.table table other) refl

pub of-all : (table : ℕ) (leaves : List Leaf) → ((x : Leaf) → Contains leaves x → x.table ≡ table) → leaves_of table leaves ≡ leaves
of-all table [] own = refl
of-all table (x ∷ leaves) own = of-own table x leaves (own x (head-in x leaves)) ∙ ap (λ (ls : List Leaf). x ∷ ls) (of-all table leaves (λ y c. own y (later x y leaves c)))

pub of-none : (table : ℕ) (leaves : List Leaf) → ((x : Leaf) → Contains leaves x → x.table ≢ table) → leaves_of table leaves ≡ []
of-none table [] others = refl
of-none table (x ∷ leaves) others = of-other table x leaves (others x (head-in x leaves)) ∙ of-none table leaves (λ y c. others y (later x y leaves c))
