-- The numbers of tables.
use Rattle.std.proofs.Common.{◌≡◌, ◌<◌, ◌≤◌, ◌+◌, ℕ, zero, suc, ap, List, [], ◌∷◌, arith}
use Rattle.std.specs.Prelude.{Some, slice_get}
use Rattle.std.proofs.lemmas.Option.{none-some, same_Some}
use Rattle.kv_model.specs.History.{Table}
use Rattle.catalog.specs.Known.{NumbersAscend}

number-next : (low : ℕ) (known : List Table) (next : ℕ) → NumbersAscend low known next → low ≤ next
number-next low [] next ascend = ascend
number-next low (x ∷ known) next ascend = let more = number-next (x.number + 1) known next ascend.1 in let here = ascend.0 in omega (arith, more, here)

-- each is below the next one
pub number-below : (low : ℕ) (known : List Table) (next i : ℕ) (t : Table) → NumbersAscend low known next → slice_get known i ≡ Some t → t.number < next
number-below low [] next i t ascend at = absurd (none-some t at)
number-below low (x ∷ known) next zero t ascend at = let e = ap (λ (v : Table). v.number) (same_Some x t at) in let more = number-next (x.number + 1) known next ascend.1 in omega (arith, more, e)
number-below low (x ∷ known) next (suc i) t ascend at = number-below (x.number + 1) known next i t ascend.1 at
