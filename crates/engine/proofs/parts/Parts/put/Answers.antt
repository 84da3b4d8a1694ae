use Rattle.std.proofs.Common.{arith, inl, refl}
use Rattle.wt_calls.specs.declared.session_call.SessionCall.TheVariants.{Put}
use Rattle.wt_calls.specs.Calls.{session_call_in}
use Rattle.engine.specs.Told.{answer_in}
use Rattle.engine.proofs.Owning.{tells-always}
use Rattle.engine.proofs.Soundness.{keeps-then}
use Rattle.engine.proofs.LentCalls.{held-up}
use Rattle.engine.proofs.parts.Parts.put.Goals as goal

pub returns-in-Ok : goal.returns-in-Ok
returns-in-Ok c = record {
  answer = λ w st. let b = c.in-Ok.ensures.begun w st in
      c.go_through.ensures.answer w b.0 (session_call_in (Put c.args.table.now c.args.key.now c.args.value.now c.args.demand)) (let d = st.doings in let o = c.requires.open in omega (arith, d, o)) b.1 b.2;
  waits = c.go_through.ensures.waits;
  tells = c.go_through.ensures.tells (answer_in c.args.self.now c.args.session) (tells-always (answer_in c.args.self.now c.args.session) c.in-Ok.told c.in-Ok.ensures.tells) (c.start_put.ensures.kept.own c.args.session);
  kept = keeps-then c.args.self.now c.start_put.new.self c.go_through.new.self c.start_put.ensures.kept c.go_through.ensures.kept;
}

pub returns-in-Err-clause-answer : goal.returns-in-Err-clause-answer
returns-in-Err-clause-answer c = λ w st. let r = c.in-Err.ensures.rests w st in
    (w, held-up w c.args.session (session_call_in (Put c.args.table.now c.args.key.now c.args.value.now c.args.demand)) (inl (refl, refl)) r.0, r.1)
