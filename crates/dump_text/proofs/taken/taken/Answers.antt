use Rattle.std.proofs.Common.{sym, subst}
use Rattle.std.specs.Prelude.{IfOk, IfNone}
use Rattle.dump_text.specs.Lines.{TakesNone}
use Rattle.dump_text.specs.declared.reader.Next.{Next}
use Rattle.dump_text.proofs.taken.taken.Goals as goal

pub returns-in-Form-clause-none : goal.returns-in-Form-clause-none
returns-in-Form-clause-none c = subst (λ (at : Next). IfNone c.form.result (TakesNone at c.args.line.now)) (sym c.in-Form.is) c.form.ensures.none

pub returns-in-Config-clause-none : goal.returns-in-Config-clause-none
returns-in-Config-clause-none c = subst (λ (at : Next). IfOk c.config.result (λ r. IfNone r (TakesNone at c.args.line.now))) (sym c.in-Config.is) c.config.ensures.none

pub returns-in-Key-clause-none : goal.returns-in-Key-clause-none
returns-in-Key-clause-none c = subst (λ (at : Next). IfOk c.key.result (λ r. IfNone r (TakesNone at c.args.line.now))) (sym c.in-Key.is) c.key.ensures.none

pub returns-in-Value-clause-none : goal.returns-in-Value-clause-none
returns-in-Value-clause-none c = subst (λ (at : Next). IfOk c.value.result (λ r. IfNone r (TakesNone at c.args.line.now))) (sym c.in-Value.is) c.value.ensures.none
