use Rattle.std.proofs.Common.{refl, inl, inr, ◌≡◌, sym, ◌∙◌, subst, Bool, IsTrue, List, ℕ, map, Result, Err, Vec, Global}
use Rattle.std.specs.Prelude.{IfErr}
use Rattle.std.specs.Borrow.{Bor}
use Rattle.failure.specs.Counts.{Rose}
use Rattle.disk_model.proofs.Crash.{looked_only, looked_then}
use Rattle.kv_model.specs.Content.{start}
use Rattle.wt_io.specs.StreamLemmas.{took_none}
use Rattle.device_read.specs.Readers.{IsReaderOf}
use Rattle.device_read.proofs.Spoilt.{itself, numbers_whole, reader_whole, refused_whole}
use Rattle.wt_line.specs.declared.command.Command.{Command}
use Rattle.wt_line.specs.declared.command.Command.TheVariants.{Create, Write, Read, List as Listing, Verify, Script, Dump, Load}
use Rattle.wt_line.specs.Line.{meaning, read}
use Rattle.script_run.specs.Scripts.{Outside, outside}
use Rattle.wt_tool.specs.Points.{Point, point_of}
use Rattle.wt_tool.specs.Damaged.{RunsDumpOn, RunsOn, RunsReadOn, device_on, point_on}
use Rattle.wt_tool.specs.Dumps.{form_of, way_of}
use Rattle.wt_tool.specs.Lists.{RunsList}
use Rattle.wt_tool.specs.Commands.{IsByReader}
use Rattle.wt_tool.specs.Parts.{Reading}
use Rattle.wt_tool.specs.Top.{Streams, errors_of, streams_of}
use Rattle.wt_tool.proofs.Running.{refused_reader, reader_fault, reader_may_open, reader_refused_at, reader_so, readable_for, not_read, not_read_on, opens_of, opens_on, gave_none, telling, told_so, status_some, untold_at, stopped, stopped_on, reading_went, went_of}
use Rattle.wt_tool.proofs.Dumping.{leaves_further, spoilt_now, told_leaves}
use Rattle.wt_tool.proofs.top.run_reader.Goals as goal

if_err : {T E : Type 0} (P : E → Type 0) (r : Result T E) (e : E) → r ≡ Err e → IfErr r P → P e
if_err {T} {E} P r e is why = subst (λ (x : Result T E). IfErr x P) is why

-- ---- a refused opening

pub returns-in-Err-clause-run : goal.returns-in-Err-clause-run
returns-in-Err-clause-run g c h content each =
    let D = g.D.Disk in
    let looked = c.reach_reader.ensures.looked in
    let o : Outside = outside g.S.Source g.K.Sink c.args.input.now c.args.input.now c.args.out.now c.args.out.now in
    let w : Streams = streams_of g.S.Source g.K.Sink g.E.Sink c.args.input.now c.args.input.now c.args.out.now c.args.out.now c.args.err.now c.report.new.err in
    let reads = each.0 _ (g.met.D.Disk.reads_an_image _ h) in
    let first = looked_only D _ _ _ looked (λ d left. each.0 d (g.met.D.Disk.only_now _ d left)) in
    stopped D c.args.disk.now c.reach_reader.new.disk content each.1 o (meaning c.args.command.now) w (gave_none _) c.in-Err.refusal c.report.result
    (not_read o (meaning c.args.command.now) (point_of D (start content) c.args.disk.now) _ c.requires (c.in-Err.refusal, point_of D (start content) c.reach_reader.new.disk, opens_of D (start content) c.args.disk.now c.reach_reader.new.disk looked, refused_reader D c.args.disk.now c.reach_reader.new.disk _ content c.in-Err.refusal h reads c.in-Err.ensures.err, refl))
    (λ d left. each.0 d (looked.images d left)) first.each (took_none _) c.report.ensures.told

pub returns-in-Err-clause-damaged : goal.returns-in-Err-clause-damaged
returns-in-Err-clause-damaged g c h whole content reads spoilt by =
    let D = g.D.Disk in
    let looked = c.reach_reader.ensures.looked in
    let bytes = D.seen c.args.disk.now in
    let o : Outside = outside g.S.Source g.K.Sink c.args.input.now c.args.input.now c.args.out.now c.args.out.now in
    let w : Streams = streams_of g.S.Source g.K.Sink g.E.Sink c.args.input.now c.args.input.now c.args.out.now c.args.out.now c.args.err.now c.report.new.err in
    let fault : Type 0 = Rose (D.faults c.args.disk.now) (D.faults c.reach_reader.new.disk) in
    let r = c.in-Err.refusal in
    stopped_on D c.args.disk.now c.reach_reader.new.disk whole content o (meaning c.args.command.now) w (gave_none _) looked r c.report.result
    (not_read_on o bytes (meaning c.args.command.now) (point_on D whole (start content) c.args.disk.now) _ c.requires (
      r,
      point_on D whole (start content) c.reach_reader.new.disk,
      opens_on D whole (start content) c.args.disk.now c.reach_reader.new.disk looked,
      reader_refused_at (device_on D whole c.args.disk.now) (device_on D whole c.reach_reader.new.disk) (Unit {0}) content r tt reads
          (refused_whole fault whole bytes r spoilt (reader_fault fault (IsTrue (D.honest c.args.disk.now)) bytes r c.in-Err.ensures.err) (c.in-Err.ensures.sole h (spoilt.held, spoilt.opens))),
      refl,
    ))
    (took_none _) c.report.ensures.told

pub returns-in-Err-clause-told : goal.returns-in-Err-clause-told
returns-in-Err-clause-told g c = telling _ _ (Err c.in-Err.refusal) c.report.result c.report.ensures.told (reader_so (meaning c.args.command.now) _ _ _ (g.D.Disk.seen c.reach_reader.new.disk) c.in-Err.refusal c.in-Err.ensures.err)

pub returns-in-Err-clause-opened : goal.returns-in-Err-clause-opened
returns-in-Err-clause-opened g c h none = absurd (status_some c.in-Err.refusal c.report.result c.report.ensures.status none)

pub returns-in-Err-clause-home : goal.returns-in-Err-clause-home
returns-in-Err-clause-home g c = elim c.reach_reader.ensures.untold [
  | inl told ↦ inl told
  | inr (same, why) ↦ inr (same, c.reach_reader.ensures.looked.content, untold_at c.in-Err.refusal c.report.result c.report.ensures.status (if_err _ c.reach_reader.result c.in-Err.refusal c.in-Err.is why))
]

-- ---- the commands

pub returns-in-Read-clause-damaged : goal.returns-in-Read-clause-damaged
returns-in-Read-clause-damaged g c h whole content reads spoilt by =
    let D = g.D.Disk in
    let bytes = D.seen c.args.disk.now in
    let looked = c.reach_reader.ensures.looked in
    let both = looked_then D c.args.disk.now c.reach_reader.new.disk c.read.new.disk looked c.read.ensures.looked in
    let o : Outside = outside g.S.Source g.K.Sink c.args.input.now c.args.input.now c.args.out.now c.read.new.out in
    let w : Streams = streams_of g.S.Source g.K.Sink g.E.Sink c.args.input.now c.args.input.now c.args.out.now c.read.new.out c.args.err.now c.read.new.err in
    let p : Point = point_on D whole (start content) c.args.disk.now in
    let keys = map (λ (s : Bor (List ℕ)). s.now) c.deref.result.now in
    reading_went D c.args.disk.now c.read.new.disk whole content o (meaning c.args.command.now) w (gave_none _) both c.reach_reader.new.disk (RunsReadOn (Rose (g.K.Sink.fault_count c.args.out.now) (g.K.Sink.fault_count c.read.new.out)) bytes c.in-Read.uri.now keys) c.read.result
    (opens_on D whole (start content) c.args.disk.now c.reach_reader.new.disk looked) (reader_may_open (device_on D whole c.args.disk.now) content (numbers_whole whole bytes spoilt (c.in-Ok.ensures.numbers h)) reads)
    (λ ran run. subst (λ (a : Command). RunsOn o bytes (meaning a) p ran) (sym c.in-Read.is)
    (subst (λ (l : List (Bor (List ℕ))). RunsOn o bytes (read c.in-Read.uri.now (map (λ (s : Bor (List ℕ)). s.now) l)) p ran) c.deref.ensures.value run))
    (subst (λ (l : List ℕ). Reading (RunsReadOn (Rose (g.K.Sink.fault_count c.args.out.now) (g.K.Sink.fault_count c.read.new.out)) l c.in-Read.uri.now keys) (point_on D whole (start content) c.reach_reader.new.disk) (device_on D whole c.read.new.disk) w.out_before w.out_now w.errors c.read.result) looked.content
    (c.read.ensures.run (looked.same ∙ h) whole content reads (spoilt_now D whole c.args.disk.now c.reach_reader.new.disk looked spoilt)))

pub returns-in-Read-clause-run : goal.returns-in-Read-clause-run
returns-in-Read-clause-run g c h content each =
    let D = g.D.Disk in
    let bytes = D.seen c.args.disk.now in
    let looked = c.reach_reader.ensures.looked in
    let both = looked_then D c.args.disk.now c.reach_reader.new.disk c.read.new.disk looked c.read.ensures.looked in
    let o : Outside = outside g.S.Source g.K.Sink c.args.input.now c.args.input.now c.args.out.now c.read.new.out in
    let w : Streams = streams_of g.S.Source g.K.Sink g.E.Sink c.args.input.now c.args.input.now c.args.out.now c.read.new.out c.args.err.now c.read.new.err in
    let reads = each.0 _ (g.met.D.Disk.reads_an_image _ h) in
    let first = looked_only D _ _ _ both (λ d left. each.0 d (g.met.D.Disk.only_now _ d left)) in
    went_of D c.args.disk.now c.read.new.disk content each.1 o (meaning c.args.command.now) w c.read.result (λ at want found fault. c.faulty_leaves_do_not_read.ensures bytes at want found content fault reads)
    (λ d left. each.0 d (both.images d left)) first.each
    (returns-in-Read-clause-damaged g c h bytes content reads (itself bytes c.in-Ok.reader (c.in-Ok.ensures.ok h)) c.requires)

pub returns-in-Read-clause-told : goal.returns-in-Read-clause-told
returns-in-Read-clause-told g c =
    let D = g.D.Disk in
    told_leaves (meaning c.args.command.now) (IsTrue (D.honest c.args.disk.now)) (D.seen c.args.disk.now) (D.seen c.read.new.disk) (errors_of g.E.Sink c.args.err.now c.read.new.err) c.read.result c.requires
    (leaves_further D c.args.disk.now c.reach_reader.new.disk (errors_of g.E.Sink c.args.err.now c.read.new.err) c.read.result c.reach_reader.ensures.looked c.read.ensures.told)

pub returns-in-Read-clause-opened : goal.returns-in-Read-clause-opened
returns-in-Read-clause-opened g c h none = readable_for (meaning c.args.command.now) (g.D.Disk.seen c.args.disk.now) c.requires (c.in-Ok.reader, c.in-Ok.ensures.ok h)

pub returns-in-Read-clause-silent : goal.returns-in-Read-clause-silent
returns-in-Read-clause-silent g c h = inr (readable_for (meaning c.args.command.now) (g.D.Disk.seen c.args.disk.now) c.requires (c.in-Ok.reader, c.in-Ok.ensures.ok h))

pub read-requires : goal.read-requires
read-requires g c =
    let looked = c.reach_reader.ensures.looked in
    record { on = λ h. subst (λ (l : List ℕ). IsReaderOf l c.in-Ok.reader) (sym looked.content) (c.in-Ok.ensures.ok (sym looked.same ∙ h)) }

pub returns-in-List-clause-damaged : goal.returns-in-List-clause-damaged
returns-in-List-clause-damaged g c h whole content reads spoilt by =
    let D = g.D.Disk in
    let bytes = D.seen c.args.disk.now in
    let looked = c.reach_reader.ensures.looked in
    let both = looked in
    let o : Outside = outside g.S.Source g.K.Sink c.args.input.now c.args.input.now c.args.out.now c.list.new.out in
    let w : Streams = streams_of g.S.Source g.K.Sink g.E.Sink c.args.input.now c.args.input.now c.args.out.now c.list.new.out c.args.err.now c.list.new.err in
    let p : Point = point_on D whole (start content) c.args.disk.now in
    let whole_reader = reader_whole whole bytes c.in-Ok.reader spoilt (c.in-Ok.ensures.ok h) in
    reading_went D c.args.disk.now c.reach_reader.new.disk whole content o (meaning c.args.command.now) w (gave_none _) both c.reach_reader.new.disk (RunsList (Rose (g.K.Sink.fault_count c.args.out.now) (g.K.Sink.fault_count c.list.new.out))) c.list.result
    (opens_on D whole (start content) c.args.disk.now c.reach_reader.new.disk looked) (reader_may_open (device_on D whole c.args.disk.now) content (numbers_whole whole bytes spoilt (c.in-Ok.ensures.numbers h)) reads)
    (λ ran run. subst (λ (a : Command). RunsOn o bytes (meaning a) p ran) (sym c.in-List.is) run)
    (c.list.ensures.run content (device_on D whole c.reach_reader.new.disk) (c.readers_have_tables.ensures whole content c.in-Ok.reader whole_reader reads))

pub returns-in-List-clause-run : goal.returns-in-List-clause-run
returns-in-List-clause-run g c h content each =
    let D = g.D.Disk in
    let bytes = D.seen c.args.disk.now in
    let looked = c.reach_reader.ensures.looked in
    let both = looked in
    let o : Outside = outside g.S.Source g.K.Sink c.args.input.now c.args.input.now c.args.out.now c.list.new.out in
    let w : Streams = streams_of g.S.Source g.K.Sink g.E.Sink c.args.input.now c.args.input.now c.args.out.now c.list.new.out c.args.err.now c.list.new.err in
    let reads = each.0 _ (g.met.D.Disk.reads_an_image _ h) in
    let first = looked_only D _ _ _ both (λ d left. each.0 d (g.met.D.Disk.only_now _ d left)) in
    went_of D c.args.disk.now c.reach_reader.new.disk content each.1 o (meaning c.args.command.now) w c.list.result (λ at want found fault. c.faulty_leaves_do_not_read.ensures bytes at want found content fault reads)
    (λ d left. each.0 d (both.images d left)) first.each
    (returns-in-List-clause-damaged g c h bytes content reads (itself bytes c.in-Ok.reader (c.in-Ok.ensures.ok h)) c.requires)

pub returns-in-List-clause-told : goal.returns-in-List-clause-told
returns-in-List-clause-told g c =
    told_so (meaning c.args.command.now) _ _ _ _ c.list.result c.list.ensures.told

pub returns-in-List-clause-opened : goal.returns-in-List-clause-opened
returns-in-List-clause-opened g c h none = readable_for (meaning c.args.command.now) (g.D.Disk.seen c.args.disk.now) c.requires (c.in-Ok.reader, c.in-Ok.ensures.ok h)

pub returns-in-List-clause-silent : goal.returns-in-List-clause-silent
returns-in-List-clause-silent g c h = inr (readable_for (meaning c.args.command.now) (g.D.Disk.seen c.args.disk.now) c.requires (c.in-Ok.reader, c.in-Ok.ensures.ok h))

pub returns-in-Dump-clause-damaged : goal.returns-in-Dump-clause-damaged
returns-in-Dump-clause-damaged g c h whole content reads spoilt by =
    let D = g.D.Disk in
    let bytes = D.seen c.args.disk.now in
    let looked = c.reach_reader.ensures.looked in
    let both = looked_then D c.args.disk.now c.reach_reader.new.disk c.dump.new.disk looked c.dump.ensures.looked in
    let o : Outside = outside g.S.Source g.K.Sink c.args.input.now c.args.input.now c.args.out.now c.dump.new.out in
    let w : Streams = streams_of g.S.Source g.K.Sink g.E.Sink c.args.input.now c.args.input.now c.args.out.now c.dump.new.out c.args.err.now c.dump.new.err in
    let p : Point = point_on D whole (start content) c.args.disk.now in
    reading_went D c.args.disk.now c.dump.new.disk whole content o (meaning c.args.command.now) w (gave_none _) both c.reach_reader.new.disk (RunsDumpOn (Rose (g.K.Sink.fault_count c.args.out.now) (g.K.Sink.fault_count c.dump.new.out)) bytes (form_of c.in-Dump.hex) (way_of c.in-Dump.reverse) c.in-Dump.uri.now) c.dump.result
    (opens_on D whole (start content) c.args.disk.now c.reach_reader.new.disk looked) (reader_may_open (device_on D whole c.args.disk.now) content (numbers_whole whole bytes spoilt (c.in-Ok.ensures.numbers h)) reads)
    (λ ran run. subst (λ (a : Command). RunsOn o bytes (meaning a) p ran) (sym c.in-Dump.is) run)
    (subst (λ (l : List ℕ). Reading (RunsDumpOn (Rose (g.K.Sink.fault_count c.args.out.now) (g.K.Sink.fault_count c.dump.new.out)) l (form_of c.in-Dump.hex) (way_of c.in-Dump.reverse) c.in-Dump.uri.now) (point_on D whole (start content) c.reach_reader.new.disk) (device_on D whole c.dump.new.disk) w.out_before w.out_now w.errors c.dump.result) looked.content
    (c.dump.ensures.run (looked.same ∙ h) whole content reads (spoilt_now D whole c.args.disk.now c.reach_reader.new.disk looked spoilt)))

pub returns-in-Dump-clause-run : goal.returns-in-Dump-clause-run
returns-in-Dump-clause-run g c h content each =
    let D = g.D.Disk in
    let bytes = D.seen c.args.disk.now in
    let looked = c.reach_reader.ensures.looked in
    let both = looked_then D c.args.disk.now c.reach_reader.new.disk c.dump.new.disk looked c.dump.ensures.looked in
    let o : Outside = outside g.S.Source g.K.Sink c.args.input.now c.args.input.now c.args.out.now c.dump.new.out in
    let w : Streams = streams_of g.S.Source g.K.Sink g.E.Sink c.args.input.now c.args.input.now c.args.out.now c.dump.new.out c.args.err.now c.dump.new.err in
    let reads = each.0 _ (g.met.D.Disk.reads_an_image _ h) in
    let first = looked_only D _ _ _ both (λ d left. each.0 d (g.met.D.Disk.only_now _ d left)) in
    went_of D c.args.disk.now c.dump.new.disk content each.1 o (meaning c.args.command.now) w c.dump.result (λ at want found fault. c.faulty_leaves_do_not_read.ensures bytes at want found content fault reads)
    (λ d left. each.0 d (both.images d left)) first.each
    (returns-in-Dump-clause-damaged g c h bytes content reads (itself bytes c.in-Ok.reader (c.in-Ok.ensures.ok h)) c.requires)

pub returns-in-Dump-clause-told : goal.returns-in-Dump-clause-told
returns-in-Dump-clause-told g c =
    let D = g.D.Disk in
    told_leaves (meaning c.args.command.now) (IsTrue (D.honest c.args.disk.now)) (D.seen c.args.disk.now) (D.seen c.dump.new.disk) (errors_of g.E.Sink c.args.err.now c.dump.new.err) c.dump.result c.requires
    (leaves_further D c.args.disk.now c.reach_reader.new.disk (errors_of g.E.Sink c.args.err.now c.dump.new.err) c.dump.result c.reach_reader.ensures.looked c.dump.ensures.told)

pub returns-in-Dump-clause-opened : goal.returns-in-Dump-clause-opened
returns-in-Dump-clause-opened g c h none = readable_for (meaning c.args.command.now) (g.D.Disk.seen c.args.disk.now) c.requires (c.in-Ok.reader, c.in-Ok.ensures.ok h)

pub returns-in-Dump-clause-silent : goal.returns-in-Dump-clause-silent
returns-in-Dump-clause-silent g c h = inr (readable_for (meaning c.args.command.now) (g.D.Disk.seen c.args.disk.now) c.requires (c.in-Ok.reader, c.in-Ok.ensures.ok h))

pub dump-requires : goal.dump-requires
dump-requires g c =
    let looked = c.reach_reader.ensures.looked in
    record { on = λ h. subst (λ (l : List ℕ). IsReaderOf l c.in-Ok.reader) (sym looked.content) (c.in-Ok.ensures.ok (sym looked.same ∙ h)) }

-- no other command comes here
nowhere : (command : Command) → IsByReader (meaning command) → ((uri : Bor (List ℕ)) (keys : Vec (Bor (List ℕ)) Global) → command ≡ Read uri keys → ⊥) → (command ≡ Listing → ⊥) → ((hex reverse : Bool) (uri : Bor (List ℕ)) → command ≡ Dump hex reverse uri → ⊥) → ⊥
nowhere (Create config uri) by no_read no_list no_dump = by
nowhere (Write overwrite uri pairs) by no_read no_list no_dump = by
nowhere (Read uri keys) by no_read no_list no_dump = no_read uri keys refl
nowhere Listing by no_read no_list no_dump = no_list refl
nowhere (Verify uri) by no_read no_list no_dump = by
nowhere Script by no_read no_list no_dump = by
nowhere (Dump hex reverse uri) by no_read no_list no_dump = no_dump hex reverse uri refl
nowhere (Load no_overwrite name) by no_read no_list no_dump = by

pub unreachable-requires : goal.unreachable-requires
unreachable-requires g c = nowhere c.args.command.now c.requires c.in_default.not-Read c.in_default.not-List c.in_default.not-Dump
