use Rattle.std.proofs.Common.{◌≡◌, Some, None, List, ℕ, Bor, map, subst}
use Rattle.failure.specs.Counts.{Rose}
use Rattle.kv_model.specs.Content.{start}
use Rattle.wt_code.specs.declared.refusals.Refusal.TheVariants.{Invalid as Refusal_Invalid}
use Rattle.wt_code.specs.declared.refusals.Invalid.TheVariants.{BadName}
use Rattle.wt_io.specs.StreamLemmas.{took_none}
use Rattle.wt_tool.specs.Damaged.{ReadsKeysOn, device_on, point_on}
use Rattle.wt_tool.specs.Words.{name_in}
use Rattle.wt_tool.specs.Top.{errors_of}
use Rattle.wt_tool.proofs.Dumping.{told_undamaged}
use Rattle.wt_tool.proofs.Naming.{reading_named, reading_unnamed}
use Rattle.wt_tool.proofs.Gets.{refusal_tells}
use Rattle.wt_tool.proofs.read.read.Goals as goal

pub returns-in-Some-clause-run : goal.returns-in-Some-clause-run
returns-in-Some-clause-run g c h whole content reads spoilt =
    let K = g.K.Sink in
    let D = g.D.Disk in
    reading_named c.args.uri.now (λ name. ReadsKeysOn (Rose (K.fault_count c.args.out.now) (K.fault_count c.read_named-status.new.out)) (D.seen c.args.disk.now) name (map (λ (s : Bor (List ℕ)). s.now) c.args.keys.now)) (point_on D whole (start content) c.args.disk.now) (device_on D whole c.read_named-status.new.disk) (K.written c.args.out.now) (K.written c.read_named-status.new.out)
    (errors_of g.E.Sink c.args.err.now c.read_named-status.new.err) c.read_named-status.result c.in-Some.name.now
    (subst (λ (l : List ℕ). name_in l ≡ Some c.in-Some.name.now) c.as_bytes.ensures.value c.in-Some.ensures.name)
    (c.read_named-status.ensures.run h whole content reads spoilt)

pub returns-in-Some-clause-told : goal.returns-in-Some-clause-told
returns-in-Some-clause-told g c = c.read_named-status.ensures.told

pub returns-in-None-clause-run : goal.returns-in-None-clause-run
returns-in-None-clause-run g c h whole content reads spoilt =
    let K = g.K.Sink in
    reading_unnamed c.args.uri.now (λ name. ReadsKeysOn (Rose (K.fault_count c.args.out.now) (K.fault_count c.args.out.now)) (g.D.Disk.seen c.args.disk.now) name (map (λ (s : Bor (List ℕ)). s.now) c.args.keys.now)) (point_on g.D.Disk whole (start content) c.args.disk.now) (K.written c.args.out.now) (K.written c.args.out.now)
    (errors_of g.E.Sink c.args.err.now c.report.new.err) c.report.result
    (subst (λ (l : List ℕ). name_in l ≡ None) c.as_bytes.ensures.value c.in-None.ensures.name)
    (took_none _) c.report.ensures.told

pub returns-in-None-clause-told : goal.returns-in-None-clause-told
returns-in-None-clause-told g c =
    told_undamaged _ _ (errors_of g.E.Sink c.args.err.now c.report.new.err) c.report.result (refusal_tells (errors_of g.E.Sink c.args.err.now c.report.new.err) (Refusal_Invalid BadName) c.report.result tt c.report.ensures.told)
