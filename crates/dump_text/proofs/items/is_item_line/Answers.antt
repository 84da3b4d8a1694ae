use Rattle.std.proofs.Common.{inl, inr, refl}
use Rattle.dump_text.proofs.EscapeRuns.{some_zero, zero_is}
use Rattle.dump_text.proofs.items.is_item_line.Goals as goal

pub returns-in-S : goal.returns-in-S
returns-in-S c = (
  λ is. some_zero c.args.form c.args.format c.args.line.now c.zero_at_end.result c.in-Some.zero c.zero_at_end.ensures c.in-Some.is (inl is),
  λ writes. zero_is c.args.form c.args.format c.args.line.now c.zero_at_end.result c.in-Some.zero c.zero_at_end.ensures c.in-Some.is c.in-S.is writes,
)

pub returns-in-U : goal.returns-in-U
returns-in-U c = (λ is. some_zero c.args.form c.args.format c.args.line.now c.zero_at_end.result c.in-Some.zero c.zero_at_end.ensures c.in-Some.is (inr c.in-U.is), λ writes. refl)
