use Rattle.std.proofs.Common.{◌≡◌, [], subst, sym}
use Rattle.std.specs.Prelude.{IfErr, Result}
use Rattle.wt_code.specs.declared.answers.Answer.TheVariants.{Refused}
use Rattle.wt_code.specs.declared.refusals.Refusal.{Refusal}
use Rattle.kv_model.specs.Calls.{Session}
use Rattle.wt_calls.specs.Calls.{session_call_in}
use Rattle.wt_tool.specs.Led.{DoneBy}
use Rattle.wt_tool.specs.Parts.{NoDamage}
use Rattle.wt_tool.proofs.Holding.{call_undamaged, call_done, call_refused}
use Rattle.wt_tool.proofs.Went.{answered_went}
use Rattle.wt_tool.proofs.sessions.call.Goals as goal
use Rattle.wt_tool.proofs.sessions.call.Goals.{in-Refused, in_default}

pub returns-clause-led : goal.returns-clause-led
returns-clause-led g c h start first w holds =
    let D = g.D.Disk in
    let asked = session_call_in c.args.call in
    let x = c.call.ensures.called h start w first [] holds.held in
    let looked = c.call.ensures.keeps.looked in
    let keep = c.checkpoints_are_kept.ensures.kept in
    elim c.match-call.branch [
      | in-Refused y ↦ subst (λ (r : Result (Unit {0}) Refusal). DoneBy D start first w c.call.new.self c.args.disk.now c.call.new.disk (Session 0) asked r) (sym y.result-is)
          (call_refused D start first w c.args.store.now c.call.new.self c.args.disk.now c.call.new.disk looked c.call.ensures.keeps.frames holds keep asked c.requires.word c.call.result x y.in-Refused.refusal y.in-Refused.is)
      | in_default y ↦ subst (λ (r : Result (Unit {0}) Refusal). DoneBy D start first w c.call.new.self c.args.disk.now c.call.new.disk (Session 0) asked r) (sym y.result-is)
          (call_done D start first w c.args.store.now c.call.new.self c.args.disk.now c.call.new.disk looked c.call.ensures.keeps.frames holds keep asked c.requires.word c.call.result x (λ r is. y.in_default.not-Refused r is))
    ]

pub returns-clause-went : goal.returns-clause-went
returns-clause-went g c =
    answered_went g.D.Disk c.args.store.now c.call.new.self c.args.disk.now c.call.new.disk c.call.result _ c.call.ensures.keeps c.call.ensures.told
    (elim c.match-call.branch [
      | in-Refused y ↦ subst (λ (r : Result (Unit {0}) Refusal). IfErr r (λ x. c.call.result ≡ Refused x)) (sym y.result-is) y.in-Refused.is
      | in_default y ↦ subst (λ (r : Result (Unit {0}) Refusal). IfErr r (λ x. c.call.result ≡ Refused x)) (sym y.result-is) tt
    ])

pub returns-clause-undamaged : goal.returns-clause-undamaged
returns-clause-undamaged g c h start first w holds =
    let D = g.D.Disk in
    let asked = session_call_in c.args.call in
    let x = c.call.ensures.called h start w first [] holds.held in
    elim c.match-call.branch [
      | in-Refused y ↦ subst (λ (r : Result (Unit {0}) Refusal). IfErr r NoDamage) (sym y.result-is)
          (call_undamaged D start first w c.args.store.now c.call.new.self c.args.disk.now c.call.new.disk c.call.ensures.keeps.looked c.call.ensures.keeps.frames holds c.checkpoints_are_kept.ensures.kept asked c.requires.word c.call.result x y.in-Refused.refusal y.in-Refused.is)
      | in_default y ↦ subst (λ (r : Result (Unit {0}) Refusal). IfErr r NoDamage) (sym y.result-is) tt
    ]
