-- The tables of an engine by place, whose numbers ascend.
use Rattle.std.proofs.Common.{◌≡◌, ℕ, zero, suc, ◌+◌, ◌<◌, ◌≤◌, List, [], ◌∷◌, Some, refl, ap, sym, subst, inl, inr, arith}
use Rattle.std.specs.Prelude.{slice_get}
use Rattle.kv_model.specs.Holds.{Member}
use Rattle.kv_model.specs.History.{Table}
use Rattle.catalog.specs.Known.{NumbersAscend}
use Rattle.ckpt_step.proofs.Members.{get_member, none_some, some_same}

pub number_least : (low : ℕ) (known : List Table) (next : ℕ) (t : Table) → NumbersAscend low known next → Member t known → low ≤ t.number
number_least low [] next t ascend there = absurd there
number_least low (u ∷ later) next t ascend (inl same) = subst (λ (x : Table). low ≤ x.number) (sym same) ascend.0
number_least low (u ∷ later) next t ascend (inr there) = omega (arith, ascend.0, number_least (u.number + 1) later next t ascend.1 there)

pub next_above : (low : ℕ) (known : List Table) (next : ℕ) → NumbersAscend low known next → low ≤ next
next_above low [] next ascend = ascend
next_above low (u ∷ later) next ascend = omega (arith, ascend.0, next_above (u.number + 1) later next ascend.1)

pub number_most : (low : ℕ) (known : List Table) (next : ℕ) (t : Table) → NumbersAscend low known next → Member t known → t.number < next
number_most low [] next t ascend there = absurd there
number_most low (u ∷ later) next t ascend (inl same) = subst (λ (x : Table). x.number < next) (sym same) (omega (arith, next_above (u.number + 1) later next ascend.1))
number_most low (u ∷ later) next t ascend (inr there) = number_most (u.number + 1) later next t ascend.1 there

-- no two places have tables of one number
pub place_one : (low : ℕ) (known : List Table) (next i j : ℕ) (t u : Table) → NumbersAscend low known next → slice_get known i ≡ Some t → slice_get known j ≡ Some u → t.number ≡ u.number → i ≡ j
place_one low [] next i j t u ascend at also same = absurd (none_some at)
place_one low (x ∷ known) next zero zero t u ascend at also same = refl
place_one low (x ∷ known) next zero (suc j) t u ascend at also same =
    let least = number_least (x.number + 1) known next u ascend.1 (get_member known j u also) in
    let own = ap (λ (v : Table). v.number) (some_same at) in
    absurd (omega (arith, least, own, same))
place_one low (x ∷ known) next (suc i) zero t u ascend at also same =
    let least = number_least (x.number + 1) known next t ascend.1 (get_member known i t at) in
    let own = ap (λ (v : Table). v.number) (some_same also) in
    absurd (omega (arith, least, own, same))
place_one low (x ∷ known) next (suc i) (suc j) t u ascend at also same = ap suc (place_one (x.number + 1) known next i j t u ascend.1 at also same)
