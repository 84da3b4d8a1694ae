-- The order of keys, up and down.
use Rattle.std.proofs.Common.{◌≡◌, ◌∙◌, ap, refl, ℕ, true, false, List}
use Rattle.std.specs.declared.cmp.Ordering.{Ordering}
use Rattle.std.specs.declared.cmp.Ordering.TheVariants.{Less, Equal, Greater}
use Rattle.std.specs.Ordering.{nat_cmp, is_lt, ordering_reverse}
use Rattle.std.specs.Cmp.Lexicographic.{slice_cmp}
use Rattle.std.proofs.lemmas.Bool.{both_ways}
use Rattle.std.proofs.lemmas.Cmp.{nat_list_cmp_total, tied_itself}
use Rattle.kv_model.specs.Rows.{Way, Up, Down, key_lt, comes_after}

abbrev order : List ℕ → List ℕ → Ordering
order a b = slice_cmp nat_cmp a b

less : (o : Ordering) → is_lt o ≡ true → o ≡ Less
less Less e = refl
less Equal e = absurd (cc)
less Greater e = absurd (cc)

below-trans : (a b c : List ℕ) → key_lt a b ≡ true → key_lt b c ≡ true → key_lt a c ≡ true
below-trans a b c one two = ap is_lt (nat_list_cmp_total.trans a b c (less (order a b) one) (less (order b c) two))

below-itself : (a : List ℕ) → key_lt a a ≡ false
below-itself a = ap is_lt (tied_itself nat_list_cmp_total a)

pub after-trans : (way : Way) (a b c : List ℕ) → comes_after way a b ≡ true → comes_after way b c ≡ true → comes_after way a c ≡ true
after-trans Up a b c one two = below-trans a b c one two
after-trans Down a b c one two = below-trans c b a two one

pub after-itself : (way : Way) (a : List ℕ) → comes_after way a a ≡ false
after-itself Up a = below-itself a
after-itself Down a = below-itself a

-- no key comes both before another and after it
pub after-once : (way : Way) (a b : List ℕ) → comes_after way a b ≡ true → comes_after way b a ≡ true → ⊥
after-once way a b one two = both_ways (comes_after way a a) (after-itself way a) (after-trans way a b a one two)

-- a key below the cut is below one that is not
pub below-cut : (a b cut : List ℕ) → key_lt a cut ≡ true → key_lt b cut ≡ false → key_lt a b ≡ true
below-cut a b cut low high = go (order b cut) refl where
  first : order a cut ≡ Less
  first = less (order a cut) low

  go : (o : Ordering) → order b cut ≡ o → key_lt a b ≡ true
  go Less e = absurd (both_ways (key_lt b cut) high (ap is_lt e))
  go Equal e =
      let last : order cut a ≡ Greater = nat_list_cmp_total.antisymm cut a ∙ ap ordering_reverse first in
      ap is_lt (nat_list_cmp_total.antisymm a b ∙ ap ordering_reverse (nat_list_cmp_total.congr b cut a e ∙ last))
  go Greater e = ap is_lt (nat_list_cmp_total.trans a cut b first (nat_list_cmp_total.antisymm cut b ∙ ap ordering_reverse e))
