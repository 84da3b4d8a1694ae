-- The order of records is total.
use Rattle.std.proofs.Common.{◌≡◌, true, refl, ap}
use Rattle.std.specs.Ordering.{is_lt}
use Rattle.std.specs.Cmp.{IsTotalOrder}
use Rattle.std.specs.declared.cmp.Ordering.{Ordering}
use Rattle.std.specs.declared.cmp.Ordering.TheVariants.{Less, Equal, Greater}
use Rattle.std.proofs.lemmas.Cmp.{then_total, on_total, nat_cmp_total, nat_list_cmp_total}
use Rattle.stored.specs.HistoryTree.{Mark, mark_cmp, is_before}

pub mark_total : IsTotalOrder mark_cmp
mark_total =
    then_total (on_total (λ (m : Mark). m.table) nat_cmp_total)
    (then_total (on_total (λ (m : Mark). m.key) nat_list_cmp_total)
    (then_total (on_total (λ (m : Mark). m.commit) nat_cmp_total)
    (then_total (on_total (λ (m : Mark). m.name.run) nat_cmp_total) (on_total (λ (m : Mark). m.name.id) nat_cmp_total))))

less_is : (o : Ordering) → is_lt o ≡ true → o ≡ Less
less_is Less e = refl
less_is Equal e = absurd cc
less_is Greater e = absurd cc

pub before_trans : (x y z : Mark) → is_before x y ≡ true → is_before y z ≡ true → is_before x z ≡ true
before_trans x y z p q = ap is_lt (mark_total.trans x y z (less_is (mark_cmp x y) p) (less_is (mark_cmp y z) q))
