use Rattle.std.proofs.Common.{◌≡◌, [], subst, sym}
use Rattle.std.specs.Prelude.{IfErr, Result}
use Rattle.wt_code.specs.declared.answers.Answer.TheVariants.{Refused}
use Rattle.wt_code.specs.declared.refusals.Refusal.{Refusal}
use Rattle.kv_model.specs.Calls.{Create, System}
use Rattle.wt_tool.specs.Led.{DoneBy}
use Rattle.wt_tool.proofs.Holding.{create_done_by, create_refused_by, create_short, made_same}
use Rattle.wt_tool.proofs.Went.{answered_went, short_went}
use Rattle.wt_tool.proofs.create.make.Goals as goal
use Rattle.wt_tool.proofs.create.make.Goals.{in-Refused, in_default-call_system}

pub returns-in_default-clause-led : goal.returns-in_default-clause-led
returns-in_default-clause-led g c disk h start first w holds = create_short g.D.Disk start first w c.args.store.now disk holds c.args.name.now c.args.formats

pub returns-in_default-clause-went : goal.returns-in_default-clause-went
returns-in_default-clause-went g c disk = short_went g.D.Disk c.args.store.now disk

pub returns-clause-led : goal.returns-clause-led
returns-clause-led g c disk h start first w holds =
    let D = g.D.Disk in
    let looked = (c.call_system.ensures.keeps disk).looked in
    let x = made_same D start first w c.args.store.now c.call_system.new.self disk disk c.in-Ok.table c.args.name.now c.args.formats c.call_system.result c.in-Ok.ensures (c.call_system.ensures.called disk h start w first [] holds.held) in
    let keep = c.checkpoints_are_kept.ensures.steps in
    elim c.match-call_system.branch [
      | in-Refused y ↦ subst (λ (r : Result (Unit {0}) Refusal). DoneBy D start first w c.call_system.new.self disk disk (System 0) (Create c.args.name.now c.args.formats) r) (sym y.result-is)
          (create_refused_by D start first w c.args.store.now c.call_system.new.self disk disk looked (c.call_system.ensures.keeps disk).frames holds keep c.args.name.now c.args.formats c.call_system.result x y.in-Refused.refusal y.in-Refused.is)
      | in_default-call_system y ↦ subst (λ (r : Result (Unit {0}) Refusal). DoneBy D start first w c.call_system.new.self disk disk (System 0) (Create c.args.name.now c.args.formats) r) (sym y.result-is)
          (create_done_by D start first w c.args.store.now c.call_system.new.self disk disk looked (c.call_system.ensures.keeps disk).frames holds keep c.args.name.now c.args.formats c.call_system.result x (λ r is. y.in_default-call_system.not-Refused r is))
    ]

pub returns-clause-went : goal.returns-clause-went
returns-clause-went g c disk =
    answered_went g.D.Disk c.args.store.now c.call_system.new.self disk disk c.call_system.result _ (c.call_system.ensures.keeps disk) (c.call_system.ensures.told disk)
    (elim c.match-call_system.branch [
      | in-Refused y ↦ subst (λ (r : Result (Unit {0}) Refusal). IfErr r (λ x. c.call_system.result ≡ Refused x)) (sym y.result-is) y.in-Refused.is
      | in_default-call_system y ↦ subst (λ (r : Result (Unit {0}) Refusal). IfErr r (λ x. c.call_system.result ≡ Refused x)) (sym y.result-is) tt
    ])
