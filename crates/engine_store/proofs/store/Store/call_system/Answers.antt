use Rattle.std.proofs.Common.{arith}
use Rattle.wt_calls.specs.declared.call.Call.TheVariants as calls
use Rattle.ckpt_step.proofs.Ordinary.{engines_are, fits_are}
use Rattle.engine_store.specs.Keeping.{with_kept}
use Rattle.engine_store.proofs.Bases.{basis_here}
use Rattle.engine_store.proofs.Going.{goes_answer, laid_answer}
use Rattle.engine_store.proofs.OtherRecords.{answer_other, other_records}
use Rattle.engine_store.proofs.SystemCalls.{event_held, event_keeps}
use Rattle.engine_store.proofs.Telling.{always_told, keep_told}
use Rattle.engine_store.proofs.store.Store.call_system.Goals as goal

pub returns-clause-called : goal.returns-clause-called
returns-clause-called g c = λ disk h start w first made held.
    let there = with_kept c.args.self.now.ground.kept w in
    let x = c.call_system.ensures.answer there held.stands in
    record {
      later = other_records w.records x.0;
      answered = answer_other w.records there x.0 (calls.System c.args.number c.args.call) c.call_system.result x.1;
      held = event_held g.D.Disk disk c.args.self.now c.call_system.new.self c.call_system.ensures.goes start w x.0 first made x.2 (laid_answer there x.0 (calls.System c.args.number c.args.call) c.call_system.result x.1)
          (goes_answer there x.0 (calls.System c.args.number c.args.call) c.call_system.result (engines_are c.args.self.now.engine there held.stands c.actors.ensures.built) ((fits_are c.args.self.now.engine).1 (calls.System c.args.number c.args.call) (omega (arith, c.requires.there, c.actors.ensures.systems), c.requires.built)) x.1) held;
    }

pub returns-clause-told : goal.returns-clause-told
returns-clause-told g c = λ disk basis start le on told. (
  always_told g.D.Disk basis start disk c.call_system.result c.call_system.ensures.tells,
  keep_told g.D.Disk basis start disk c.args.self.now.engine c.call_system.new.self c.call_system.ensures.own told,
  basis_here g.D.Disk basis c.args.self.now.engine c.call_system.new.self disk c.call_system.ensures.goes on,
)

pub returns-clause-keeps : goal.returns-clause-keeps
returns-clause-keeps g c = λ disk. event_keeps g.D.Disk disk c.args.self.now c.call_system.new.self c.call_system.ensures.goes
