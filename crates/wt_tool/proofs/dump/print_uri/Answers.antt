use Rattle.std.proofs.Common.{◌≡◌, ℕ, List, Some, None, inl, inr, refl, subst}
use Rattle.failure.specs.Counts.{Rose}
use Rattle.wt_io.specs.StreamLemmas.{took_none}
use Rattle.wt_tool.specs.Damaged.{device_on}
use Rattle.wt_tool.specs.Dumps.{way_of}
use Rattle.wt_tool.specs.Words.{name_in}
use Rattle.wt_tool.proofs.Dumping.{uri_named, uri_unnamed}
use Rattle.wt_tool.proofs.dump.print_uri.Goals as goal

pub returns-in-Some-clause-run : goal.returns-in-Some-clause-run
returns-in-Some-clause-run g c h whole content reads spoilt =
    let K = g.K.Sink in
    let D = g.D.Disk in
    let is = subst (λ (l : List ℕ). name_in l ≡ Some c.in-Some.name.now) c.as_bytes.ensures.value c.in-Some.ensures.name in
    elim (c.print_table.ensures.run h whole content reads spoilt) [
      | inl ended ↦ inl (uri_named (Rose (K.fault_count c.args.out.now) (K.fault_count c.print_table.new.out)) (device_on D whole c.args.disk.now) (device_on D whole c.print_table.new.disk) content c.args.manner.form (way_of c.args.manner.reverse) c.args.uri.now (K.written c.args.out.now) (K.written c.print_table.new.out) c.print_table.result c.in-Some.name.now is ended)
      | inr lacks ↦ inr (c.in-Some.name.now, is, lacks)
    ]

pub returns-in-None-clause-run : goal.returns-in-None-clause-run
returns-in-None-clause-run g c h whole content reads spoilt =
    let K = g.K.Sink in
    let D = g.D.Disk in
    inl (uri_unnamed (Rose (K.fault_count c.args.out.now) (K.fault_count c.args.out.now)) (device_on D whole c.args.disk.now) (device_on D whole c.args.disk.now) content c.args.manner.form (way_of c.args.manner.reverse) c.args.uri.now (K.written c.args.out.now) (K.written c.args.out.now) _
    (subst (λ (l : List ℕ). name_in l ≡ None) c.as_bytes.ensures.value c.in-None.ensures.name) (refl, refl, took_none _))
