use Rattle.std.proofs.Common.{◌≡◌, ◌≤◌, IsTrue, List, ℕ, length, inl, inr, ◌∙◌, subst, arith}
use Rattle.std.proofs.lemmas.Result.{err_from_is_err_and, IfOk-weaker, IfErr-weaker}
use Rattle.turtle.specs.Slots.{StandsAt, IsOutOfForm, IsNewer}
use Rattle.turtle.proofs.Choice.{newer_chosen, first_corrupt, second_corrupt, one_sequence_corrupt}
use Rattle.turtle.proofs.choosing.choose.Goals as goal

pub returns-in_err-first-clause-corrupt : goal.returns-in_err-first-clause-corrupt
returns-in_err-first-clause-corrupt g c = λ h.
    let D = g.D.Disk in
    let p = err_from_is_err_and c.from_residual-in_err-first.result c.from_residual-in_err-first.ensures.1 in
    let h1 : IsTrue (D.honest c.length_of.new.disk) = c.length_of.ensures.looked.same ∙ h in
    let e1 : D.seen c.length_of.new.disk ≡ D.seen c.args.disk.now = c.length_of.ensures.looked.content in
    let long : 8192 ≤ length (D.seen c.args.disk.now) = omega (arith, c.in_ok-length.ensures.length h) in
    rw (p.1, p.2) (elim c.in_err-first.ensures.err [
      | inl fault ↦ inl fault.0
      | inr bad ↦ inr (0, first_corrupt (D.seen c.args.disk.now) long (subst (λ (l : List ℕ). IsOutOfForm l 0) e1 (bad.1 h1)), bad.0)
    ])

pub returns-in_err-second-clause-corrupt : goal.returns-in_err-second-clause-corrupt
returns-in_err-second-clause-corrupt g c = λ h.
    let D = g.D.Disk in
    let p = err_from_is_err_and c.from_residual-in_err-second.result c.from_residual-in_err-second.ensures.1 in
    let h1 : IsTrue (D.honest c.length_of.new.disk) = c.length_of.ensures.looked.same ∙ h in
    let e1 : D.seen c.length_of.new.disk ≡ D.seen c.args.disk.now = c.length_of.ensures.looked.content in
    let h2 : IsTrue (D.honest c.slot_at.new.disk) = c.slot_at.ensures.looked.same ∙ h1 in
    let e2 : D.seen c.slot_at.new.disk ≡ D.seen c.args.disk.now = c.slot_at.ensures.looked.content ∙ e1 in
    let long : 8192 ≤ length (D.seen c.args.disk.now) = omega (arith, c.in_ok-length.ensures.length h) in
    let first : StandsAt (D.seen c.args.disk.now) 0 c.in_ok-first.first = subst (λ (l : List ℕ). StandsAt l 0 c.in_ok-first.first) e1 (c.in_ok-first.ensures.slot h1) in
    rw (p.1, p.2) (elim c.in_err-second.ensures.err [
      | inl fault ↦ inl fault.0
      | inr bad ↦ inr (4096, second_corrupt (D.seen c.args.disk.now) c.in_ok-first.first long first (subst (λ (l : List ℕ). IsOutOfForm l 4096) e2 (bad.1 h2)), bad.0)
    ])

pub returns-clause-chosen : goal.returns-clause-chosen
returns-clause-chosen g c = λ h.
    let D = g.D.Disk in
    let h1 : IsTrue (D.honest c.length_of.new.disk) = c.length_of.ensures.looked.same ∙ h in
    let e1 : D.seen c.length_of.new.disk ≡ D.seen c.args.disk.now = c.length_of.ensures.looked.content in
    let h2 : IsTrue (D.honest c.slot_at.new.disk) = c.slot_at.ensures.looked.same ∙ h1 in
    let e2 : D.seen c.slot_at.new.disk ≡ D.seen c.args.disk.now = c.slot_at.ensures.looked.content ∙ e1 in
    let long : 8192 ≤ length (D.seen c.args.disk.now) = omega (arith, c.in_ok-length.ensures.length h) in
    let first : StandsAt (D.seen c.args.disk.now) 0 c.in_ok-first.first = subst (λ (l : List ℕ). StandsAt l 0 c.in_ok-first.first) e1 (c.in_ok-first.ensures.slot h1) in
    let second : StandsAt (D.seen c.args.disk.now) 4096 c.in_ok-second.second = subst (λ (l : List ℕ). StandsAt l 4096 c.in_ok-second.second) e2 (c.in_ok-second.ensures.slot h2) in
    IfOk-weaker c.newer.result (IsNewer c.in_ok-first.first c.in_ok-second.second) _ (λ slot newer. (long, newer_chosen (D.seen c.args.disk.now) c.in_ok-first.first c.in_ok-second.second slot first second newer)) c.newer.ensures.slot

pub returns-clause-corrupt : goal.returns-clause-corrupt
returns-clause-corrupt g c = λ h.
    let D = g.D.Disk in
    let h1 : IsTrue (D.honest c.length_of.new.disk) = c.length_of.ensures.looked.same ∙ h in
    let e1 : D.seen c.length_of.new.disk ≡ D.seen c.args.disk.now = c.length_of.ensures.looked.content in
    let h2 : IsTrue (D.honest c.slot_at.new.disk) = c.slot_at.ensures.looked.same ∙ h1 in
    let e2 : D.seen c.slot_at.new.disk ≡ D.seen c.args.disk.now = c.slot_at.ensures.looked.content ∙ e1 in
    let long : 8192 ≤ length (D.seen c.args.disk.now) = omega (arith, c.in_ok-length.ensures.length h) in
    let first : StandsAt (D.seen c.args.disk.now) 0 c.in_ok-first.first = subst (λ (l : List ℕ). StandsAt l 0 c.in_ok-first.first) e1 (c.in_ok-first.ensures.slot h1) in
    let second : StandsAt (D.seen c.args.disk.now) 4096 c.in_ok-second.second = subst (λ (l : List ℕ). StandsAt l 4096 c.in_ok-second.second) e2 (c.in_ok-second.ensures.slot h2) in
    IfErr-weaker c.newer.result _ _ (λ r both. inr (4096, one_sequence_corrupt (D.seen c.args.disk.now) c.in_ok-first.first c.in_ok-second.second long first second both.0, both.1)) c.newer.ensures.one_sequence
