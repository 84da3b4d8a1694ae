-- Leaves that come between others, one behind the other.
use Rattle.std.proofs.Common.{◌≡◌, ◌≢◌, ℕ, suc, ◌+◌, ◌<◌, ◌≤◌, true, false, List, [], ◌∷◌, ◌++◌, get_or, refl, sym, ap, ◌∙◌, inl, inr, append_assoc, arith}
use Rattle.std.specs.Prelude.{filter, nat_lt}
use Rattle.std.specs.List.{All, AllPairs}
use Rattle.std.specs.Ordering.{nat_cmp, is_lt}
use Rattle.std.specs.Cmp.Lexicographic.{slice_cmp}
use Rattle.std.proofs.lemmas.Bool.{cases_Bool, cases_lt, ltb-true, lt-ltb, le-ltb}
use Rattle.std.proofs.lemmas.Cmp.{nat_list_cmp_total}
use Rattle.std.proofs.lemmas.List.Elements.{All-head, All-tail}
use Rattle.stored.specs.TableTree.{Climbs, Entry}
use Rattle.tree_dir.specs.declared.leaf.Leaf.{Leaf}
use Rattle.tree_dir.specs.Leaves.{is_before, place_key}
use Rattle.tree_dir.specs.Order.{with_leaf, with_leaves}
use Rattle.tree_dir.specs.Slots.{new_leaf, numbered}
use Rattle.tree_dir.proofs.KeyOrder.{less-from, place-less, place-same, tables-less, turned-back}

-- each is before this leaf
abbrev pub Befores : List Leaf → Leaf → Type 0
Befores [] p = Unit {0}
Befores (x ∷ xs) p = (is_before x p ≡ true) × Befores xs p

-- each is before the first of these
abbrev pub BeforeFirst : List Leaf → List Leaf → Type 0
BeforeFirst xs [] = Unit {0}
BeforeFirst xs (p ∷ ps) = Befores xs p

-- the first of these, if there is one, is behind this leaf
abbrev pub Above : List Leaf → Leaf → Type 0
Above [] p = Unit {0}
Above (y ∷ ys) p = is_before p y ≡ true

-- they ascend, and the last is before the others
abbrev pub Chain : List Leaf → List Leaf → Type 0
Chain [] ys = Unit {0}
Chain (p ∷ []) ys = Above ys p
Chain (p ∷ q ∷ ps) ys = (is_before p q ≡ true) × Chain (q ∷ ps) ys

pub before-on : (a b c : Leaf) → is_before a b ≡ true → is_before b c ≡ true → is_before a c ≡ true
before-on a b c h g =
    ap is_lt (nat_list_cmp_total.trans (place_key a) (place_key b) (place_key c) (less-from (slice_cmp nat_cmp (place_key a) (place_key b)) h) (less-from (slice_cmp nat_cmp (place_key b) (place_key c)) g))

pub not-back : (a b : Leaf) → is_before a b ≡ true → is_before b a ≡ false
not-back a b h = ap is_lt (turned-back (place_key a) (place_key b) (less-from (slice_cmp nat_cmp (place_key a) (place_key b)) h))

chain-above : (p : Leaf) (ps ys : List Leaf) → Chain (p ∷ ps) ys → Above ys p
chain-above p [] ys c = c
chain-above p (q ∷ ps) [] c = tt
chain-above p (q ∷ ps) (y ∷ ys) c = before-on p q y c.0 (chain-above q ps (y ∷ ys) c.1)

with-past : (l : Leaf) (xs ys : List Leaf) → Befores xs l → with_leaf l (xs ++ ys) ≡ xs ++ with_leaf l ys
with-past l [] ys b = refl
with-past l (x ∷ xs) ys b = rw b.0 (ap (λ (ls : List Leaf). x ∷ ls) (with-past l xs ys b.1))

with-here : (l : Leaf) (ys : List Leaf) → Above ys l → with_leaf l ys ≡ l ∷ ys
with-here l [] a = refl
with-here l (y ∷ ys) a = rw (not-back l y a) refl

befores-up : (xs : List Leaf) (p q : Leaf) → Befores xs p → is_before p q ≡ true → Befores xs q
befores-up [] p q b h = tt
befores-up (x ∷ xs) p q b h = (before-on x p q b.0 h, befores-up xs p q b.1 h)

befores-push : (xs : List Leaf) (p q : Leaf) → Befores xs q → is_before p q ≡ true → Befores (xs ++ p ∷ []) q
befores-push [] p q b h = (h, tt)
befores-push (x ∷ xs) p q b h = (b.0, befores-push xs p q b.1 h)

pub splice : (ps xs ys : List Leaf) → BeforeFirst xs ps → Chain ps ys → with_leaves ps (xs ++ ys) ≡ xs ++ (ps ++ ys)
splice [] xs ys f c = refl
splice (p ∷ []) xs ys f c = with-past p xs ys f ∙ ap (λ (ls : List Leaf). xs ++ ls) (with-here p ys c)
splice (p ∷ q ∷ ps) xs ys f c =
    ap (with_leaves (q ∷ ps)) (with-past p xs ys f ∙ (ap (λ (ls : List Leaf). xs ++ ls) (with-here p ys (chain-above p (q ∷ ps) ys c)) ∙ sym (append_assoc xs (p ∷ []) ys)))
    ∙ (splice (q ∷ ps) (xs ++ p ∷ []) ys (befores-push xs p q (befores-up xs p q f c.0) c.0) c.1
    ∙ append_assoc xs (p ∷ []) ((q ∷ ps) ++ ys))

-- ---- the leaves of a table

pub numbered-chain : (table id : ℕ) (es end : List Entry) (ys : List Leaf) → ((i : ℕ) (e : Entry) → Climbs (e ∷ end) → Above ys (new_leaf table i e)) → Climbs (es ++ end) → Chain (numbered table id es) ys
numbered-chain table id [] end ys ends c = tt
numbered-chain table id (e ∷ []) end ys ends c = ends id e c
numbered-chain table id (e ∷ f ∷ es) end ys ends c = (ap is_lt (place-same table table e.key f.key refl) ∙ c.0, numbered-chain table (id + 1) (f ∷ es) end ys ends c.1)

-- ---- leaves of lower and of greater tables

abbrev pub lower : ℕ → List Leaf → List Leaf
lower table leaves = filter (λ l. nat_lt l.table table) leaves

abbrev pub greater : ℕ → List Leaf → List Leaf
greater table leaves = filter (λ l. nat_lt table l.table) leaves

pub lower-before : (table : ℕ) (leaves : List Leaf) (p : Leaf) → p.table ≡ table → Befores (lower table leaves) p
lower-before table [] p e = tt
lower-before table (x ∷ leaves) p e = elim (cases_Bool (nat_lt x.table table)) [
  | inl t ↦ rw t (ap is_lt (place-less x.table p.table x.entry.key p.entry.key (let lt = ltb-true x.table table t in omega (arith, lt, e))), lower-before table leaves p e)
  | inr f ↦ rw f (lower-before table leaves p e)
]

pub greater-above : (table : ℕ) (leaves : List Leaf) (p : Leaf) → p.table ≡ table → Above (greater table leaves) p
greater-above table [] p e = tt
greater-above table (x ∷ leaves) p e = elim (cases_Bool (nat_lt table x.table)) [
  | inl t ↦ rw t (ap is_lt (place-less p.table x.table p.entry.key x.entry.key (let lt = ltb-true table x.table t in omega (arith, lt, e))))
  | inr f ↦ rw f (greater-above table leaves p e)
]

all-greater : (table : ℕ) (leaves : List Leaf) → All (λ l. table < l.table) leaves → (lower table leaves ≡ []) × (greater table leaves ≡ leaves)
all-greater table [] all = (refl, refl)
all-greater table (x ∷ leaves) all =
    let first = All-head (λ (l : Leaf). table < l.table) x leaves all in
    let more = all-greater table leaves (All-tail (λ (l : Leaf). table < l.table) x leaves all) in
    (rw (le-ltb x.table table (omega (arith, first))) more.0, rw (lt-ltb table x.table first) (ap (λ (ls : List Leaf). x ∷ ls) more.1))

before-tables : (a b : Leaf) → is_before a b ≡ true → a.table ≤ b.table
before-tables a b h = tables-less a.table b.table a.entry.key b.entry.key (less-from (slice_cmp nat_cmp (place_key a) (place_key b)) h)

pub parted : (table : ℕ) (leaves : List Leaf) → AllPairs (λ a b. is_before a b ≡ true) leaves → All (λ l. l.table ≢ table) leaves → leaves ≡ lower table leaves ++ greater table leaves
parted table [] pairs none = refl
parted table (x ∷ leaves) pairs none =
    let other = All-head (λ (l : Leaf). l.table ≢ table) x leaves none in
    elim (cases_lt x.table table) [
      | inl lt ↦
          rw (lt-ltb x.table table lt, le-ltb table x.table (omega (arith, lt)))
          (ap (λ (ls : List Leaf). x ∷ ls) (parted table leaves (λ i j d l w. pairs (suc i) (suc j) d (omega (arith, l)) (omega (arith, w))) (All-tail (λ (l : Leaf). l.table ≢ table) x leaves none)))
      | inr ge ↦
          let above : table < x.table = omega (arith, ge, other) in
          let all = all-greater table leaves (λ k d w. let up = before-tables x (get_or leaves k d) (pairs 0 (suc k) d (omega arith) (omega (arith, w))) in omega (arith, up, above)) in
          rw (le-ltb x.table table (omega (arith, above)), lt-ltb table x.table above)
          (sym (ap (λ (ls : List Leaf). ls ++ x ∷ greater table leaves) all.0 ∙ ap (λ (ls : List Leaf). x ∷ ls) all.1))
    ]
