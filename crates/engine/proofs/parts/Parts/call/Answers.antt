use Rattle.std.proofs.Common.{arith}
use Rattle.wt_calls.specs.Calls.{session_call_in}
use Rattle.engine.specs.Told.{answer_in}
use Rattle.engine.proofs.Owning.{tells-always}
use Rattle.engine.proofs.Soundness.{keeps-then}
use Rattle.engine.proofs.parts.Parts.call.Goals as goal

pub returns : goal.returns
returns c = record {
  answer = λ w st. let b = c.start-told.ensures.begun w st in
      c.go_through.ensures.answer w b.0 (session_call_in c.args.call) (let d = st.doings in let o = c.requires.open in omega (arith, d, o)) b.1 b.2;
  waits = c.go_through.ensures.waits;
  tells = c.go_through.ensures.tells (answer_in c.args.self.now c.args.session) (tells-always (answer_in c.args.self.now c.args.session) c.start-told.result c.start-told.ensures.tells) (c.start-told.ensures.kept.own c.args.session);
  kept = keeps-then c.args.self.now c.start-told.new.self c.go_through.new.self c.start-told.ensures.kept c.go_through.ensures.kept;
}
