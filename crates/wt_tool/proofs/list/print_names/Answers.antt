use Rattle.std.proofs.Common.{◌∙◌, sym}
use Rattle.failure.specs.Counts.{Rose}
use Rattle.kv_model.specs.Content.{start}
use Rattle.device_read.specs.Readers.{tables_in}
use Rattle.wt_code.specs.declared.refusals.Refusal.TheVariants.{NoMemory}
use Rattle.wt_io.specs.Streams.{Took, TookPart}
use Rattle.wt_io.specs.StreamLemmas.{part_is_front, took_none}
use Rattle.wt_tool.specs.Top.{errors_of, last_line}
use Rattle.script_run.specs.declared.script.End.TheVariants.{OutputFailed}
use Rattle.wt_tool.proofs.Gets.{ok_or_err, of_ok, of_err, refusal_tells}
use Rattle.wt_tool.proofs.Listing.{are_names, listed_cut, listed_short, listed_through, names_of, tells_fault, tells_nothing}
use Rattle.wt_tool.proofs.list.print_names.Goals as goal

pub returns-in_default-clause-run : goal.returns-in_default-clause-run
returns-in_default-clause-run g c content d has =
    listed_short (Rose (g.K.Sink.fault_count c.args.out.now) (g.K.Sink.fault_count c.args.out.now)) d (start content) (names_of (tables_in c.args.reader.now)) (are_names content (tables_in c.args.reader.now) has) (g.K.Sink.written c.args.out.now) (g.K.Sink.written c.args.out.now) (errors_of g.E.Sink c.args.err.now c.report.new.err) c.report.result (took_none _) c.report.ensures.told

pub returns-in_default-clause-told : goal.returns-in_default-clause-told
returns-in_default-clause-told g c = refusal_tells (errors_of g.E.Sink c.args.err.now c.report.new.err) NoMemory c.report.result tt c.report.ensures.told

pub returns-then-is_err-clause-run : goal.returns-then-is_err-clause-run
returns-then-is_err-clause-run g c content d has =
    let K = g.K.Sink in
    let E = g.E.Sink in
    let failed = sym c.is_err.ensures.value ∙ c.if-is_err.true in
    let front = part_is_front (K.written c.args.out.now) (K.written c.write_all.new.sink) c.deref.result.now (of_err c.write_all.result (TookPart (K.written c.args.out.now) (K.written c.write_all.new.sink) c.deref.result.now) failed c.write_all.ensures.err) in
    let rose = of_err c.write_all.result (Rose (K.fault_count c.args.out.now) (K.fault_count c.write_all.new.sink)) failed c.write_all.ensures.cause.failed in
    listed_cut (Rose (K.fault_count c.args.out.now) (K.fault_count c.write_all.new.sink)) d (start content) (names_of (tables_in c.args.reader.now)) (are_names content (tables_in c.args.reader.now) has) (K.written c.args.out.now) (K.written c.write_all.new.sink) (errors_of E c.args.err.now c.write_all-then-is_err.new.sink) c.deref.result.now
    (c.deref.ensures.value ∙ c.in-Ok.ensures) front rose
    (ok_or_err c.write_all-then-is_err.result (Took (E.written c.args.err.now) (E.written c.write_all-then-is_err.new.sink) (last_line OutputFailed)) (Rose (E.fault_count c.args.err.now) (E.fault_count c.write_all-then-is_err.new.sink)) c.write_all-then-is_err.ensures.ok c.write_all-then-is_err.ensures.cause.failed)

pub returns-then-is_err-clause-told : goal.returns-then-is_err-clause-told
returns-then-is_err-clause-told g c =
    let E = g.E.Sink in
    tells_fault (errors_of E c.args.err.now c.write_all-then-is_err.new.sink)
    (ok_or_err c.write_all-then-is_err.result (Took (E.written c.args.err.now) (E.written c.write_all-then-is_err.new.sink) (last_line OutputFailed)) (Rose (E.fault_count c.args.err.now) (E.fault_count c.write_all-then-is_err.new.sink)) c.write_all-then-is_err.ensures.ok c.write_all-then-is_err.ensures.cause.failed)

pub returns-clause-run : goal.returns-clause-run
returns-clause-run g c content d has =
    let K = g.K.Sink in
    listed_through (Rose (K.fault_count c.args.out.now) (K.fault_count c.write_all.new.sink)) d (start content) (names_of (tables_in c.args.reader.now)) (are_names content (tables_in c.args.reader.now) has) (K.written c.args.out.now) (K.written c.write_all.new.sink) (errors_of g.E.Sink c.args.err.now c.args.err.now) c.deref.result.now
    (c.deref.ensures.value ∙ c.in-Ok.ensures)
    (of_ok c.write_all.result (Took (K.written c.args.out.now) (K.written c.write_all.new.sink) c.deref.result.now) (sym c.is_err.ensures.value ∙ c.if-is_err.false) c.write_all.ensures.ok) (took_none _)

pub returns-clause-told : goal.returns-clause-told
returns-clause-told g c = tells_nothing (errors_of g.E.Sink c.args.err.now c.args.err.now) (took_none _)
