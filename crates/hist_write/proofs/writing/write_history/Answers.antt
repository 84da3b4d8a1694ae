use Rattle.std.proofs.Common.{◌∙◌, ◌++◌, [], List, ap, sym, arith, append_assoc}
use Rattle.std.proofs.lemmas.Bool.{eqb-true}
use Rattle.std.proofs.lemmas.List.{append-nil}
use Rattle.device_layout.specs.declared.addr.Addr.{Addr}
use Rattle.hist_write.proofs.LeafGoing.{leaves_length}
use Rattle.hist_write.proofs.Wholes.{cut_of, empty_of, marks_climb, some_leaves, vec_some}
use Rattle.hist_write.proofs.Assembling.{leaves_failed, nothing_written, rise_answers}
use Rattle.hist_write.proofs.writing.write_history.Goals as goal

pub returns-then-is_empty-clause-writes : goal.returns-then-is_empty-clause-writes
returns-then-is_empty-clause-writes g c records writable h old first may =
    let none = empty_of c.args.leaves.items (omega (arith, eqb-true c.args.leaves.len 0 (sym c.is_empty.ensures ∙ c.if-is_empty.true), c.args.leaves.ok.0)) records writable.cut in (
      [],
      sym (append-nil c.args.captured.now.items),
      nothing_written g.D.Disk old first c.args.blocks.now c.args.disk.now may (λ d left. g.met.D.Disk.only_now _ d left) records none c.nowhere.result c.nowhere.ensures c.new.result c.new.ensures.items,
    )

pub write_leaves-requires-clause-leaves : goal.write_leaves-requires-clause-leaves
write_leaves-requires-clause-leaves g c =
    let cut = cut_of c.args.leaves.items c.requires.records.0 c.requires.records.1.cut in
    (cut.leaves, cut.spelled)

pub rise-requires-clause-climbs : goal.rise-requires-clause-climbs
rise-requires-clause-climbs g c =
    let records = c.requires.records in
    marks_climb c.args.leaves.items records.0 (cut_of c.args.leaves.items records.0 records.1.cut) records.1.ascend c.in-Ok.entries.items c.in-Ok.ensures.marks

pub returns-in-Ok-clause-writes : goal.returns-in-Ok-clause-writes
returns-in-Ok-clause-writes g c records writable h old first may =
    let D = g.D.Disk in
    let cut = cut_of c.args.leaves.items records writable.cut in
    let wrote = c.in-Ok.ensures.writes cut.leaves cut.spelled h old first may in
    let rose = c.rise.ensures.rises (c.in-Ok.ensures.disk.same ∙ h) old first wrote.2.captures.may in (
      wrote.0 ++ rose.0,
      rose.1 ∙ (ap (λ (l : List Addr). l ++ rose.0) wrote.1 ∙ append_assoc c.args.captured.now.items wrote.0 rose.0),
      rise_answers c.args.leaves.items records cut writable.ascend writable.once (some_leaves c.args.leaves.items records cut (omega (arith, vec_some c.args.leaves.len (sym c.is_empty.ensures ∙ c.if-is_empty.false), c.args.leaves.ok.0))) D old first c.args.blocks.now c.args.disk.now
          c.in-Ok.entries.items c.in-Ok.ensures.marks wrote.0 c.write_leaves.new.blocks c.write_leaves.new.disk wrote.2 c.in-Ok.ensures.disk.room rose.0 c.rise.new.blocks c.rise.new.disk c.rise.result rose.2,
    )

pub returns-in-Err-clause-writes : goal.returns-in-Err-clause-writes
returns-in-Err-clause-writes g c records writable h old first may =
    let D = g.D.Disk in
    let cut = cut_of c.args.leaves.items records writable.cut in
    let wrote = c.in-Err.ensures.writes cut.leaves cut.spelled h old first may in
    let many = leaves_length c.args.leaves.items cut.leaves cut.spelled in (
      wrote.0,
      wrote.1,
      leaves_failed c.args.leaves.items records cut writable.ascend writable.once (some_leaves c.args.leaves.items records cut (omega (arith, vec_some c.args.leaves.len (sym c.is_empty.ensures ∙ c.if-is_empty.false), c.args.leaves.ok.0))) D old first c.args.blocks.now c.args.disk.now
          wrote.0 c.write_leaves.new.blocks c.write_leaves.new.disk c.in-Err.error (omega (arith, many, c.args.leaves.ok, c.args.leaves.small)) wrote.2,
    )
