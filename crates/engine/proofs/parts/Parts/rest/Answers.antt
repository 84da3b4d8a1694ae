use Rattle.std.proofs.Common.{◌≡◌, get_or, sym}
use Rattle.std.specs.Prelude.{Some, slice_get}
use Rattle.std.proofs.lemmas.Option.{slice_get-get_or}
use Rattle.call_steps.specs.State.{opened}
use Rattle.wt_code.specs.declared.answers.Answer.TheVariants as answers
use Rattle.wt_code.specs.declared.refusals.Refusal.TheVariants as refusal
use Rattle.wt_code.specs.declared.refusals.Invalid.TheVariants.{NoCall}
use Rattle.engine.proofs.Driving.{rest-step}
use Rattle.engine.proofs.Turns.{answer-fewer}
use Rattle.engine.proofs.parts.Parts.rest.Goals as goal

pub returns : goal.returns
returns c =
    let e = c.args.self.now in
    let session = c.args.session in
    let a = get_or e.sessions session opened in
    let at : slice_get e.sessions session ≡ Some a = slice_get-get_or e.sessions session opened c.requires.open in
    record {
      step = λ w st. rest-step e session a at (sym (c.requires.next a at)) w st;
      fewer = answer-fewer e e session (answers.Refused (refusal.Invalid NoCall));
      tells = λ but own. tt;
    }
