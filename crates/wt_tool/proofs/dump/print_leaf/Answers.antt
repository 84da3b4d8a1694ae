use Rattle.std.proofs.Common.{◌≡◌, ◌∙◌, IsTrue, List, inl, sym, subst}
use Rattle.failure.specs.Counts.{Rose}
use Rattle.row_page.specs.Rows.{Row}
use Rattle.device_read.specs.Leaves.{HasNoLeaf}
use Rattle.device_read.specs.Rows.{put_rows}
use Rattle.device_read.proofs.Spoilt.{page_whole}
use Rattle.wt_tool.specs.Dumps.{way_of}
use Rattle.wt_tool.specs.Pages.{PutsBehind, along, rows_text}
use Rattle.std.proofs.lemmas.Option.{same_Some}
use Rattle.wt_tool.proofs.Dumping.{behind_sound, behind_wider, err_wider, leaf_missing_so, leaf_put}
use Rattle.wt_tool.proofs.dump.print_leaf.Goals as goal

pub returns-in-Ok-clause-run : goal.returns-in-Ok-clause-run
returns-in-Ok-clause-run g c h whole spoilt pages has page there =
    let K = g.K.Sink in
    let D = g.D.Disk in
    let bytes = D.seen c.args.disk.now in
    let same : c.in-Ok.leaf ≡ page = same_Some c.in-Ok.leaf page (sym (page_whole whole bytes c.args.reader.now c.args.place pages c.args.i c.in-Ok.leaf spoilt (c.requires.on h) has (c.in-Ok.ensures.there h)) ∙ there) in
    let out = Rose (K.fault_count c.args.out.now) (K.fault_count c.print_page.new.out) in
    inl (behind_wider out out ⊥ (Rose (D.faults c.args.disk.now) (D.faults c.leaf.new.disk)) (K.written c.args.out.now) (K.written c.print_page.new.out) c.args.text.now.items c.print_page.new.text.items (rows_text c.args.manner.form (put_rows (along (way_of c.args.manner.reverse) page))) c.print_page.result (λ x. x) (λ no. absurd no)
    (subst (λ (l : List Row). PutsBehind out ⊥ (K.written c.args.out.now) (K.written c.print_page.new.out) c.args.text.now.items c.print_page.new.text.items (rows_text c.args.manner.form (put_rows (along (way_of c.args.manner.reverse) l))) c.print_page.result) same
    c.print_page.ensures.printed))

pub returns-in-Ok-clause-sound : goal.returns-in-Ok-clause-sound
returns-in-Ok-clause-sound g c =
    let K = g.K.Sink in
    let D = g.D.Disk in
    let out = Rose (K.fault_count c.args.out.now) (K.fault_count c.print_page.new.out) in
    err_wider out ⊥ (Rose (D.faults c.args.disk.now) (D.faults c.leaf.new.disk)) _ _ c.print_page.result (λ no. absurd no) (behind_sound out ⊥ (IsTrue (D.honest c.args.disk.now)) (D.seen c.args.disk.now) (K.written c.args.out.now) (K.written c.print_page.new.out) c.args.text.now.items c.print_page.new.text.items
    (rows_text c.args.manner.form (put_rows (along (way_of c.args.manner.reverse) c.in-Ok.leaf))) c.print_page.result c.print_page.ensures.printed)

pub returns-in-Err-clause-run : goal.returns-in-Err-clause-run
returns-in-Err-clause-run g c h whole spoilt pages has page there =
    let K = g.K.Sink in
    let D = g.D.Disk in
    leaf_put (Rose (K.fault_count c.args.out.now) (K.fault_count c.args.out.now)) (Rose (D.faults c.args.disk.now) (D.faults c.leaf.new.disk)) _ (D.seen c.args.disk.now) c.args.reader.now c.args.place c.args.i (K.written c.args.out.now) c.args.text.now.items c.args.text.now.items
    (rows_text c.args.manner.form (put_rows (along (way_of c.args.manner.reverse) page))) c.in-Err.refusal h c.in-Err.ensures.err

pub returns-in-Err-clause-sound : goal.returns-in-Err-clause-sound
returns-in-Err-clause-sound g c =
    let D = g.D.Disk in
    let bytes = D.seen c.args.disk.now in
    leaf_missing_so (Rose (D.faults c.args.disk.now) (D.faults c.leaf.new.disk)) (IsTrue (D.honest c.args.disk.now)) bytes (HasNoLeaf bytes c.args.reader.now c.args.place c.args.i) c.in-Err.refusal
    (λ h at want found missing. c.missing_leaves_are_at_fault.ensures bytes c.args.reader.now c.args.place c.args.i at want found (c.requires.on h) missing) c.in-Err.ensures.err
