use Rattle.std.proofs.Common.{◌⊎◌, IsTrue, subst}
use Rattle.kv_model.specs.Content.{start}
use Rattle.failure.specs.Counts.{Rose}
use Rattle.dump_text.specs.declared.form.Form.{Form}
use Rattle.wt_tool.specs.Damaged.{device_on}
use Rattle.wt_tool.specs.Dumps.{form_of, way_of}
use Rattle.wt_tool.specs.Pages.{UriEndsBy, UriLacksLeaf}
use Rattle.wt_tool.specs.Top.{errors_of}
use Rattle.wt_tool.proofs.Dumping.{dump_says, dump_tells, dumped_on, keeps_on, later_on}
use Rattle.wt_tool.proofs.Running.{opens_on}
use Rattle.wt_tool.proofs.dump.dump.Goals as goal

pub returns-clause-run : goal.returns-clause-run
returns-clause-run g c h whole content reads spoilt =
    let K = g.K.Sink in
    let D = g.D.Disk in
    let looked = c.print_uri-end.ensures.looked in
    let failed : Type 0 = Rose (K.fault_count c.args.out.now) (K.fault_count c.print_uri-end.new.out) in
    let old = device_on D whole c.args.disk.now in
    let new = device_on D whole c.print_uri-end.new.disk in
    let bytes = D.seen c.args.disk.now in
    dumped_on failed content (form_of c.args.hex) (way_of c.args.reverse) old new (later_on D whole c.args.disk.now c.print_uri-end.new.disk looked) (keeps_on D whole c.args.disk.now c.print_uri-end.new.disk looked) (opens_on D whole (start content) c.args.disk.now c.print_uri-end.new.disk looked)
    (K.written c.args.out.now) (K.written c.print_uri-end.new.out) (errors_of g.E.Sink c.args.err.now c.tell.new.err) c.tell.result bytes c.args.uri.now c.print_uri-end.result
    (subst (λ (form : Form). UriEndsBy failed old new content form (way_of c.args.reverse) c.args.uri.now (K.written c.args.out.now) (K.written c.print_uri-end.new.out) c.print_uri-end.result ⊎ UriLacksLeaf bytes content form (way_of c.args.reverse) c.args.uri.now (K.written c.args.out.now) (K.written c.print_uri-end.new.out) c.print_uri-end.result) c.form_for.ensures
    (c.print_uri-end.ensures.run h whole content reads spoilt))
    c.tell.ensures

pub returns-clause-told : goal.returns-clause-told
returns-clause-told g c =
    let K = g.K.Sink in
    let D = g.D.Disk in
    dump_tells (Rose (K.fault_count c.args.out.now) (K.fault_count c.print_uri-end.new.out)) (Rose (D.faults c.args.disk.now) (D.faults c.print_uri-end.new.disk)) (IsTrue (D.honest c.args.disk.now)) (D.seen c.args.disk.now)
    (errors_of g.E.Sink c.args.err.now c.tell.new.err) c.print_uri-end.result c.tell.result c.print_uri-end.ensures.sound c.tell.ensures

pub returns-clause-status : goal.returns-clause-status
returns-clause-status g c =
    let K = g.K.Sink in
    let D = g.D.Disk in
    (dump_says (Rose (K.fault_count c.args.out.now) (K.fault_count c.print_uri-end.new.out)) (Rose (D.faults c.args.disk.now) (D.faults c.print_uri-end.new.disk)) (IsTrue (D.honest c.args.disk.now)) (D.seen c.args.disk.now)
    (errors_of g.E.Sink c.args.err.now c.tell.new.err) c.print_uri-end.result c.tell.result c.print_uri-end.ensures.sound c.tell.ensures).is

pub returns-clause-disk_fault : goal.returns-clause-disk_fault
returns-clause-disk_fault g c =
    let K = g.K.Sink in
    let D = g.D.Disk in
    (dump_says (Rose (K.fault_count c.args.out.now) (K.fault_count c.print_uri-end.new.out)) (Rose (D.faults c.args.disk.now) (D.faults c.print_uri-end.new.disk)) (IsTrue (D.honest c.args.disk.now)) (D.seen c.args.disk.now)
    (errors_of g.E.Sink c.args.err.now c.tell.new.err) c.print_uri-end.result c.tell.result c.print_uri-end.ensures.sound c.tell.ensures).of_disk

pub returns-clause-output_fault : goal.returns-clause-output_fault
returns-clause-output_fault g c =
    let K = g.K.Sink in
    let D = g.D.Disk in
    (dump_says (Rose (K.fault_count c.args.out.now) (K.fault_count c.print_uri-end.new.out)) (Rose (D.faults c.args.disk.now) (D.faults c.print_uri-end.new.disk)) (IsTrue (D.honest c.args.disk.now)) (D.seen c.args.disk.now)
    (errors_of g.E.Sink c.args.err.now c.tell.new.err) c.print_uri-end.result c.tell.result c.print_uri-end.ensures.sound c.tell.ensures).of_output
