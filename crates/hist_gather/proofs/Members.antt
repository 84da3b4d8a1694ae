-- Members of lists.
use Rattle.std.specs.Prelude.{◌≡◌, ℕ, zero, suc, ◌+◌, ◌<◌, ◌==◌, List, [], ◌∷◌, ◌++◌, length, get_or, reverse, slice_get, slice_index_or, Some}
use Rattle.std.specs.List.{AllByRecursion, Contains}
use Rattle.std.proofs.Common.{inl, inr, sym, ap, subst, arith}
use Rattle.std.proofs.lemmas.Bool.{eq-eqb, eqb-true}
use Rattle.std.proofs.lemmas.List.{reverse-append, reverse-reverse}
use Rattle.std.proofs.lemmas.Option.{same_Some}
use Rattle.kv_model.specs.Holds.{Member}
use Rattle.reconcile.proofs.Sifting.{filter_member, member_filter}
use Rattle.tree_dir.specs.declared.leaf.Leaf.{Leaf}
use Rattle.tree_dir.specs.Leaves.{leaves_of}

-- ---- two lists

pub in_front : {A : Type 0} (xs ys : List A) (x : A) → Member x xs → Member x (xs ++ ys)
in_front [] ys x there = absurd there
in_front (y ∷ xs) ys x (inl same) = inl same
in_front (y ∷ xs) ys x (inr later) = inr (in_front xs ys x later)

pub in_back : {A : Type 0} (xs ys : List A) (x : A) → Member x ys → Member x (xs ++ ys)
in_back [] ys x there = there
in_back (y ∷ xs) ys x there = inr (in_back xs ys x there)

turned_first : {A : Type 0} (x : A) (xs : List A) → reverse (x ∷ xs) ≡ reverse xs ++ x ∷ []
turned_first x xs = reverse-append (x ∷ []) xs

pub member_turned : {A : Type 0} (x : A) (xs : List A) → Member x xs → Member x (reverse xs)
member_turned x [] there = absurd there
member_turned x (y ∷ xs) (inl same) = subst (λ l. Member x l) (sym (turned_first y xs)) (in_back (reverse xs) (y ∷ []) x (inl same))
member_turned x (y ∷ xs) (inr there) = subst (λ l. Member x l) (sym (turned_first y xs)) (in_front (reverse xs) (y ∷ []) x (member_turned x xs there))

pub turned_member : {A : Type 0} (x : A) (xs : List A) → Member x (reverse xs) → Member x xs
turned_member x xs there = subst (λ l. Member x l) (reverse-reverse xs) (member_turned x (reverse xs) there)

-- ---- by place

pub get_member : {A : Type 0} (xs : List A) (i : ℕ) (x : A) → slice_get xs i ≡ Some x → Member x xs
get_member [] i x is = absurd cc
get_member (y ∷ xs) zero x is = inl (sym (same_Some y x is))
get_member (y ∷ xs) (suc i) x is = inr (get_member xs i x is)

pub member_at : {A : Type 0} (x : A) (xs : List A) → Member x xs → (i : ℕ) × (i < length xs) × (slice_get xs i ≡ Some x)
member_at x [] there = absurd there
member_at x (y ∷ xs) (inl same) = (zero, omega arith, ap Some (sym same))
member_at x (y ∷ xs) (inr there) = let later = member_at x xs there in (suc later.0, omega (arith, later.1), later.2)

pub all_at : {A : Type 0} (P : A → Type 0) (xs : List A) (i : ℕ) (x : A) → AllByRecursion P xs → i < length xs → x ≡ get_or xs i x → P x
all_at P [] i x all lt is = absurd (omega (arith, lt))
all_at P (y ∷ xs) zero x all lt is = subst P (sym is) all.0
all_at P (y ∷ xs) (suc i) x all lt is = all_at P xs i x all.1 (omega (arith, lt)) is

-- ---- of leaves

pub contains_of : {A : Type 0} (xs : List A) (x : A) → Member x xs → Contains xs x
contains_of [] x there = absurd there
contains_of (y ∷ xs) x (inl same) = (zero, omega arith, sym same)
contains_of (y ∷ xs) x (inr there) = let later = contains_of xs x there in (suc later.0, omega (arith, later.1), later.2)

pub member_of : {A : Type 0} (xs : List A) (x : A) → Contains xs x → Member x xs
member_of {A} xs x there = by xs there.0 there.1 there.2
  where
    by : (xs : List A) (k : ℕ) → k < length xs → slice_index_or xs k x ≡ x → Member x xs
    by [] k lt is = absurd (omega (arith, lt))
    by (y ∷ xs) zero lt is = inl (sym is)
    by (y ∷ xs) (suc k) lt is = inr (by xs k (omega (arith, lt)) is)

pub in_table : (table : ℕ) (leaves : List Leaf) (l : Leaf) → Member l (leaves_of table leaves) → Contains leaves l × (l.table ≡ table)
in_table table leaves l there =
    let both = filter_member (λ (x : Leaf). x.table == table) leaves l there in
    (contains_of leaves l both.0, eqb-true l.table table both.1)

pub table_in : (table : ℕ) (leaves : List Leaf) (l : Leaf) → Contains leaves l → l.table ≡ table → Member l (leaves_of table leaves)
table_in table leaves l there own = member_filter (λ (x : Leaf). x.table == table) leaves l (member_of leaves l there) (eq-eqb l.table table own)
