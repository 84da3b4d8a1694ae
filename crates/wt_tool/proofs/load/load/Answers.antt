use Rattle.std.specs.Option.{option_map}
use Rattle.std.specs.Prelude.{not}
use Rattle.std.proofs.Common.{List, ℕ, Bor}
use Rattle.kv_model.specs.Content.{start}
use Rattle.wt_tool.specs.Parts.{load_allowed}
use Rattle.wt_tool.specs.Top.{errors_of}
use Rattle.wt_tool.proofs.LoadEnds.{end_telling, load_means, load_told}
use Rattle.wt_tool.proofs.load.load.Goals as goal

pub returns-clause-run : goal.returns-clause-run
returns-clause-run g c h content each =
    load_told g.D.Disk (load_allowed g.S.Source c.args.input.now c.run_load-end.new.input (not c.args.no_overwrite) (option_map {T = Bor (List ℕ)} {U = List ℕ} (λ x. x.now) c.args.name)) (start content) (g.S.Source.left c.args.input.now) (g.S.Source.left c.run_load-end.new.input) (errors_of g.E.Sink c.args.err.now c.tell.new.err)
    c.args.disk.now c.run_load-end.new.disk c.run_load-end.result c.tell.result (c.run_load-end.ensures.run h content each) c.tell.ensures

pub returns-clause-told : goal.returns-clause-told
returns-clause-told g c = end_telling _ _ _ _ (errors_of g.E.Sink c.args.err.now c.tell.new.err) c.run_load-end.result c.tell.result c.run_load-end.ensures.ends c.tell.ensures

pub returns-clause-statuses : goal.returns-clause-statuses
returns-clause-statuses g c = (load_means _ _ _ _ (errors_of g.E.Sink c.args.err.now c.tell.new.err) c.run_load-end.result c.tell.result c.run_load-end.ensures.ends c.tell.ensures).some

pub returns-clause-disk_fault : goal.returns-clause-disk_fault
returns-clause-disk_fault g c is = (load_means _ _ _ _ (errors_of g.E.Sink c.args.err.now c.tell.new.err) c.run_load-end.result c.tell.result c.run_load-end.ensures.ends c.tell.ensures).of_disk is

pub returns-clause-input_fault : goal.returns-clause-input_fault
returns-clause-input_fault g c is = (load_means _ _ _ _ (errors_of g.E.Sink c.args.err.now c.tell.new.err) c.run_load-end.result c.tell.result c.run_load-end.ensures.ends c.tell.ensures).of_input is
