use Rattle.std.proofs.Common.{refl, inl, inr}
use Rattle.dump_text.proofs.Taking.{head_none, stop_is, taken_kept}
use Rattle.dump_text.proofs.whole.Reading.take_head.Goals as goal

pub returns-in-Ok-clause-taken : goal.returns-in-Ok-clause-taken
returns-in-Ok-clause-taken c lines t =
    taken_kept lines c.args.line.now c.args.behind.now c.args.self.now _ c.keep.new.self c.requires refl refl t c.in-Ok.step c.in-Ok.ensures.ok c.keep.ensures

pub returns-in-Err-clause-refused : goal.returns-in-Err-clause-refused
returns-in-Err-clause-refused c lines left less t =
    stop_is lines left c.args.line.now c.args.self.now c.in-Err.refusal less t (elim c.in-Err.ensures.refused [
      | inl short ↦ inl short
      | inr refused ↦ inr (refused.0, head_none lines left c.args.line.now c.args.self.now c.requires t refused.1)
    ])
