use Rattle.std.specs.Option.{option_map}
use Rattle.std.proofs.Common.{◌<◌, ◌^◌, length, List, ℕ, Bor, IsTrue, Option, sym, subst}
use Rattle.failure.specs.Counts.{Rose}
use Rattle.wt_io.specs.Streams.{AtEnd, Gave}
use Rattle.kv_model.specs.Content.{start}
use Rattle.script_run.specs.declared.script.End.{End}
use Rattle.wt_tool.specs.Loads.{IsWhole}
use Rattle.wt_tool.specs.Parts.{EndsLoad, LoadEnds, load_allowed}
use Rattle.wt_tool.proofs.LoadEnds.{taken_end, taken_ends, untaken_end, untaken_ends, whole_short, whole_some}
use Rattle.wt_tool.proofs.load.run_load.Goals as goal

abbrev Renamed : Option (Bor (List ℕ)) → Option (List ℕ)
Renamed renamed = option_map {T = Bor (List ℕ)} {U = List ℕ} (λ x. x.now) renamed

pub returns-in-Err-clause-run : goal.returns-in-Err-clause-run
returns-in-Err-clause-run g c h content each =
    untaken_ends g.D.Disk (Rose (g.S.Source.fault_count c.args.input.now) (g.S.Source.fault_count c.take_input.new.input)) (AtEnd (g.S.Source.left c.take_input.new.input)) c.args.overwrite (Renamed c.args.renamed) content (g.S.Source.left c.args.input.now) (g.S.Source.left c.take_input.new.input)
    c.args.disk.now c.in-Err.end c.in-Err.ensures.taken.0 (λ d left. g.met.D.Disk.only_now _ d left) each c.in-Err.ensures.taken.1 c.in-Err.ensures.failed

pub returns-in-Err-clause-ends : goal.returns-in-Err-clause-ends
returns-in-Err-clause-ends g c = untaken_end _ _ _ _ c.in-Err.end c.in-Err.ensures.failed

pub load_text-loaded-requires-clause-short : goal.load_text-loaded-requires-clause-short
load_text-loaded-requires-clause-short g c =
    let t = c.in-Ok.ensures.taken in
    subst (λ (l : List ℕ). length l < 2 ^ 63) (sym t.2.0) (whole_short _ c.in-Ok.taken.ended t.0 t.2.1)

pub load_text-loaded-requires-clause-some : goal.load_text-loaded-requires-clause-some
load_text-loaded-requires-clause-some g c is =
    let t = c.in-Ok.ensures.taken in
    subst (λ (l : List ℕ). 0 < length l) (sym t.2.0) (whole_some _ c.in-Ok.taken.ended t.0 t.2.1 is)

pub returns-clause-run : goal.returns-clause-run
returns-clause-run g c h content each =
    let t = c.in-Ok.ensures.taken in
    let same = t.2.0 in
    let ended = AtEnd (g.S.Source.left c.take_input.new.input) in
    subst (λ (e : End). LoadEnds g.D.Disk (load_allowed g.S.Source c.args.input.now c.take_input.new.input c.args.overwrite (Renamed c.args.renamed)) (start content) (g.S.Source.left c.args.input.now) (g.S.Source.left c.take_input.new.input) c.args.disk.now c.load_text-loaded.new.disk e) (sym c.end_for.ensures)
    (taken_ends g.D.Disk (Rose (g.S.Source.fault_count c.args.input.now) (g.S.Source.fault_count c.take_input.new.input)) ended c.args.overwrite (Renamed c.args.renamed) content (g.S.Source.left c.args.input.now) (g.S.Source.left c.take_input.new.input)
    c.args.disk.now c.load_text-loaded.new.disk c.in-Ok.taken.ended c.in-Ok.taken.text.items c.load_text-loaded.result
    (subst (λ (l : List ℕ). Gave (g.S.Source.left c.args.input.now) (g.S.Source.left c.take_input.new.input) l) (sym same) t.1)
    (subst (λ (l : List ℕ). IsWhole ended c.in-Ok.taken.ended l) (sym same) t.2.1)
    (c.load_text-loaded.ensures.run h content each))

pub returns-clause-ends : goal.returns-clause-ends
returns-clause-ends g c =
    let honest = IsTrue (g.D.Disk.honest c.args.disk.now) in
    let bytes = g.D.Disk.seen c.args.disk.now in
    let disk = Rose (g.D.Disk.faults c.args.disk.now) (g.D.Disk.faults c.load_text-loaded.new.disk) in
    let input = Rose (g.S.Source.fault_count c.args.input.now) (g.S.Source.fault_count c.take_input.new.input) in
    subst (λ (e : End). EndsLoad honest bytes disk input e) (sym c.end_for.ensures) (taken_end honest bytes disk input c.load_text-loaded.result c.load_text-loaded.ensures.sound c.load_text-loaded.ensures.fault)
