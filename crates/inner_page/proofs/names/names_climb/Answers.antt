use Rattle.std.proofs.Common.{◌≡◌, ℕ, suc, ◌+◌, ◌-◌, ◌≤◌, true, List, [], ◌∷◌, length, drop, get_or, refl, sym, ap, subst, ◌∙◌, arith}
use Rattle.std.proofs.lemmas.List.{length-drop}
use Rattle.stored.specs.HistoryTree.{HistoryRecord}
use Rattle.inner_page.specs.Names.{names_climb}
use Rattle.inner_page.proofs.NamesOnce.{climb_step}
use Rattle.inner_page.proofs.names.names_climb.Goals as goal

one_climbs : (records : List HistoryRecord) → length records ≤ 1 → names_climb records ≡ true
one_climbs [] few = refl
one_climbs (r ∷ []) few = refl
one_climbs (r ∷ s ∷ records) few = absurd (omega (arith, few))

pub loop-i-preserved : goal.loop-i-preserved
loop-i-preserved c =
    let records : List HistoryRecord = c.args.records.now in
    let k : ℕ = c.loop-i.i - 1 in
    let here : suc k ≡ c.loop-i.i = omega (arith, c.loop-i.auto.i) in
    let next : c.loop-i.i + 1 - 1 ≡ suc k = omega (arith, c.loop-i.auto.i) in
    let s : HistoryRecord = c.index-records-i-in-loop-i.result in
    ap (λ (n : ℕ). names_climb (drop n records)) next
    ∙ sym (climb_step records k c.index-records-i.result s (omega (arith, here, c.loop-i-test.true)) c.index-records-i.is (subst (λ (n : ℕ). s ≡ get_or records n s) (sym here) c.index-records-i-in-loop-i.is) (sym c.climbs.ensures ∙ c.if-not-climbs.false))
    ∙ c.loop-i.invariant

pub returns : goal.returns
returns c =
    let rest : List HistoryRecord = drop (c.loop-i.i - 1) c.args.records.now in
    sym (one_climbs rest (omega (arith, length-drop (c.loop-i.i - 1) c.args.records.now, c.loop-i-test.false))) ∙ c.loop-i.invariant
