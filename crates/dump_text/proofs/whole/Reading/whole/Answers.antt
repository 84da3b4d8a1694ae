use Rattle.std.proofs.Common.{refl, ℕ, sym, subst}
use Rattle.wt_code.specs.declared.refusals.Refusal.TheVariants.{Invalid}
use Rattle.wt_code.specs.declared.refusals.Invalid.TheVariants.{Text}
use Rattle.dump_text.specs.Wholes.{IsCutOff}
use Rattle.dump_text.proofs.Taking.{all_dumped, all_row_lines, cut_off, is_none, no_table_no_end, no_value_no_end}
use Rattle.dump_text.proofs.whole.Reading.whole.Goals as goal

pub returns-then-at_value-clause-refused : goal.returns-then-at_value-clause-refused
returns-then-at_value-clause-refused c lines less t =
    subst (λ (n : ℕ). IsCutOff lines (Invalid (Text n))) (sym c.number-number.ensures) (cut_off lines c.args.self less t (no_value_no_end lines c.args.self c.if-at_value.true t))

pub returns-in_default-clause-refused : goal.returns-in_default-clause-refused
returns-in_default-clause-refused c lines less t =
    subst (λ (n : ℕ). IsCutOff lines (Invalid (Text n))) (sym c.number-number.ensures) (cut_off lines c.args.self less t (no_table_no_end lines c.args.self (is_none c.args.self.found c.in_default.not-Some) t))

pub new-requires : goal.new-requires
new-requires c = all_row_lines c.requires.0 c.args.self c.in-Some.found c.in-Some.is c.if-at_value.false c.requires.1

pub returns-clause-dump : goal.returns-clause-dump
returns-clause-dump c lines t = all_dumped lines c.args.self c.in-Some.found c.in-Some.is c.if-at_value.false t _ refl c.new.ensures
