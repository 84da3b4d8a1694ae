use Rattle.script_run.proofs.Turning.{line-long, line-none, line-shut, line-stops, line-told, stops_same}
use Rattle.std.proofs.Common.{length, refl}
use Rattle.std.specs.Prelude.{Err}
use Rattle.wt_code.specs.declared.refusals.Refusal.TheVariants.{DiskFault, Invalid, NoMemory}
use Rattle.wt_code.specs.declared.refusals.Invalid.TheVariants.{Text}
use Rattle.script_run.specs.declared.one_line.Stop.TheVariants as stop
use Rattle.script_run.specs.declared.script.End.TheVariants.{Stopped}
use Rattle.script_run.specs.Runs.{PrintsFault}
use Rattle.script_run.proofs.Meeting.{ends_met, print_met}
use Rattle.script_run.proofs.script.run_and_print.Goals as goal

pub returns-then-place-text-gt-INPUT_MAX-clause-made : goal.returns-then-place-text-gt-INPUT_MAX-clause-made
returns-then-place-text-gt-INPUT_MAX-clause-made g c = λ honest first s at same.
    line-long g.D.Disk first g.K.Sink c.args.text.now s c.args.store.now c.args.disk.now c.args.out.now c.args.place.now c.if-place-text-gt-INPUT_MAX.true at

pub returns-in-Err-NoLine-clause-made : goal.returns-in-Err-NoLine-clause-made
returns-in-Err-NoLine-clause-made g c = λ honest first s at same.
    line-none g.D.Disk first g.K.Sink c.args.text.now s c.run_line.new.store c.run_line.new.disk c.args.out.now c.args.place.now c.run_line.new.kept
    (rw c.in-Err-NoLine.field-0-is at (c.in-Err-NoLine.ensures.made honest first s at same))

pub returns-in-Err-NoMemory-clause-made : goal.returns-in-Err-NoMemory-clause-made
returns-in-Err-NoMemory-clause-made g c = λ honest first s at same.
    line-stops g.D.Disk first g.K.Sink c.args.text.now s c.run_line.new.store c.run_line.new.disk c.args.out.now c.args.place.now c.run_line.new.kept c.if-place-text-gt-INPUT_MAX.false
    (rw c.in-Err-NoMemory.field-0-is at (c.in-Err-NoMemory.ensures.made honest first s at same))

pub returns-in-Err-Opening-clause-made : goal.returns-in-Err-Opening-clause-made
returns-in-Err-Opening-clause-made g c = λ honest first s at same.
    line-shut g.D.Disk first g.K.Sink c.args.text.now s c.run_line.new.store c.run_line.new.disk c.args.out.now c.args.place.now c.run_line.new.kept c.in-Err-Opening.refusal c.if-place-text-gt-INPUT_MAX.false
    (rw c.in-Err-Opening.field-0-is at (c.in-Err-Opening.ensures.made honest first s at same))

pub returns-in-Err-Opening-clause-damage : goal.returns-in-Err-Opening-clause-damage
returns-in-Err-Opening-clause-damage g c = λ honest at want found is.
    (rw c.in-Err-Opening.field-0-is at (c.in-Err-Opening.ensures.damage honest at want found)) (stops_same c.in-Err-Opening.refusal _ is)

pub returns-in-Ok-clause-made : goal.returns-in-Ok-clause-made
returns-in-Ok-clause-made g c = λ honest first s at same.
    line-told g.D.Disk first g.K.Sink c.args.text.now s c.run_line.new.store c.run_line.new.disk c.args.out.now c.print.new.out c.args.place.now c.print.new.place c.run_line.new.kept c.in-Ok.printed c.print.result
    c.if-place-text-gt-INPUT_MAX.false (c.in-Ok.ensures.made honest first s at same) c.print.ensures.made

pub returns-in-Err-Opening-clause-told : goal.returns-in-Err-Opening-clause-told
returns-in-Err-Opening-clause-told g c =
    ends_met g.D.Disk c.args.store.now c.run_line.new.store c.args.disk.now c.run_line.new.disk c.args.place.now (record c.args.place.now { kept = c.run_line.new.kept }) (Stopped c.in-Err-Opening.refusal) (PrintsFault (Err (stop.Opening c.in-Err-Opening.refusal))) refl
    (stops_same c.in-Err-Opening.refusal DiskFault) (rw c.in-Err-Opening.field-0-is at c.in-Err-Opening.ensures.told)

pub returns-in-Ok-clause-told : goal.returns-in-Ok-clause-told
returns-in-Ok-clause-told g c =
    print_met g.D.Disk c.args.store.now c.run_line.new.store c.args.disk.now c.run_line.new.disk g.K.Sink c.args.out.now c.print.new.out c.in-Ok.printed (length c.args.text.now) (record c.args.place.now { kept = c.run_line.new.kept }) c.print.new.place c.print.result
    c.print.ensures.made c.in-Ok.ensures.told

pub returns-in-Err-NoLine-clause-told : goal.returns-in-Err-NoLine-clause-told
returns-in-Err-NoLine-clause-told g c =
    ends_met g.D.Disk c.args.store.now c.run_line.new.store c.args.disk.now c.run_line.new.disk c.args.place.now (record c.args.place.now { kept = c.run_line.new.kept }) (Stopped (Invalid (Text c.args.place.now.line))) (PrintsFault (Err stop.NoLine)) refl
    (λ is. absurd cc) (rw c.in-Err-NoLine.field-0-is at c.in-Err-NoLine.ensures.told)

pub returns-in-Err-NoMemory-clause-told : goal.returns-in-Err-NoMemory-clause-told
returns-in-Err-NoMemory-clause-told g c =
    ends_met g.D.Disk c.args.store.now c.run_line.new.store c.args.disk.now c.run_line.new.disk c.args.place.now (record c.args.place.now { kept = c.run_line.new.kept }) (Stopped NoMemory) (PrintsFault (Err stop.NoMemory)) refl
    (λ is. absurd cc) (rw c.in-Err-NoMemory.field-0-is at c.in-Err-NoMemory.ensures.told)
