use Rattle.std.proofs.Common.{◌≡◌, Bool, false, sym, inl, inr, refl, ◌∙◌, subst, IsTrue, ℕ, List, ◌<◌, ◌≤◌, arith, ap}
use Rattle.disk_model.proofs.Crash.{looked_then}
use Rattle.turtle.specs.Slots.{IsOpen, IsShut, sequence_at}
use Rattle.turtle.proofs.Slots.{target_both, target_second}
use Rattle.turtle.proofs.installing.free_place.Goals as goal

pub returns-then-two-one-clause-looked : goal.returns-then-two-one-clause-looked
returns-then-two-one-clause-looked g c =
    let chain = looked_then g.D.Disk in
    chain _ _ _ c.head_at.ensures.looked c.head_at-2.ensures.looked

pub returns-else-two-one-clause-looked : goal.returns-else-two-one-clause-looked
returns-else-two-one-clause-looked g c =
    let chain = looked_then g.D.Disk in
    chain _ _ _ c.head_at.ensures.looked c.head_at-2.ensures.looked

pub returns-then-two-one-clause-ok : goal.returns-then-two-one-clause-ok
returns-then-two-one-clause-ok g c honest chosen =
    let seen = g.D.Disk.seen c.args.disk.now in
    let h1 : IsTrue (g.D.Disk.honest c.head_at.new.disk) = c.head_at.ensures.looked.same ∙ honest in
    let e1 : g.D.Disk.seen c.head_at.new.disk ≡ seen = c.head_at.ensures.looked.content in
    let one : IsOpen seen 0 = (c.in_ok-first.ensures.gate honest).0 (grind arith) in
    let two : IsOpen seen 4096 = subst (λ (l : List ℕ). IsOpen l 4096) e1 ((c.in_ok-second.ensures.gate h1).0 (grind arith)) in
    let a : c.in_ok-first.first.sequence ≡ sequence_at seen 0 = c.in_ok-first.ensures.sequence honest in
    let b : c.in_ok-second.second.sequence ≡ sequence_at seen 4096 = c.in_ok-second.ensures.sequence h1 ∙ ap (λ (l : List ℕ). sequence_at l 4096) e1 in
    let less : sequence_at seen 4096 < sequence_at seen 0 = subst (λ n. n < sequence_at seen 0) b (subst (λ n. c.in_ok-second.second.sequence < n) a c.if-two-one.true) in
    ((λ _. two, λ _. refl), target_both seen chosen 4096 one two (inl (refl, less)))

pub returns-else-two-one-clause-ok : goal.returns-else-two-one-clause-ok
returns-else-two-one-clause-ok g c honest chosen =
    let seen = g.D.Disk.seen c.args.disk.now in
    let h1 : IsTrue (g.D.Disk.honest c.head_at.new.disk) = c.head_at.ensures.looked.same ∙ honest in
    let e1 : g.D.Disk.seen c.head_at.new.disk ≡ seen = c.head_at.ensures.looked.content in
    let one : IsOpen seen 0 = (c.in_ok-first.ensures.gate honest).0 (grind arith) in
    let two : IsOpen seen 4096 = subst (λ (l : List ℕ). IsOpen l 4096) e1 ((c.in_ok-second.ensures.gate h1).0 (grind arith)) in
    let a : c.in_ok-first.first.sequence ≡ sequence_at seen 0 = c.in_ok-first.ensures.sequence honest in
    let b : c.in_ok-second.second.sequence ≡ sequence_at seen 4096 = c.in_ok-second.ensures.sequence h1 ∙ ap (λ (l : List ℕ). sequence_at l 4096) e1 in
    let least : sequence_at seen 0 ≤ sequence_at seen 4096 = subst (λ n. n ≤ sequence_at seen 4096) a (subst (λ n. c.in_ok-first.first.sequence ≤ n) b c.if-two-one.false) in
    ((λ _. one, λ _. refl), target_both seen chosen 0 one two (inr (refl, least)))

not_both : (b : Bool) → b ≡ false → IsTrue b → ⊥
not_both b nope is = cc

pub returns-then-not-second-clause-ok : goal.returns-then-not-second-clause-ok
returns-then-not-second-clause-ok g c honest chosen =
    let seen = g.D.Disk.seen c.args.disk.now in
    let h1 : IsTrue (g.D.Disk.honest c.head_at.new.disk) = c.head_at.ensures.looked.same ∙ honest in
    let e1 : g.D.Disk.seen c.head_at.new.disk ≡ seen = c.head_at.ensures.looked.content in
    let one : IsOpen seen 0 = (c.in_ok-first.ensures.gate honest).0 (grind arith) in
    let no : c.in_ok-second.second.is_open ≡ false = grind arith in
    let two : IsShut seen 4096 = λ is. not_both _ no ((c.in_ok-second.ensures.gate h1).1 (subst (λ (l : List ℕ). IsOpen l 4096) (sym e1) is)) in
    ((λ never. absurd (not_both false refl never), λ is. absurd (two is)), target_second seen chosen one two)
