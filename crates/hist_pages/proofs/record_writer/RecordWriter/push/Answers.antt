use Rattle.std.proofs.Common.{◌≡◌, length, ◌+◌, refl, ap, ◌∙◌, arith}
use Rattle.std.proofs.lemmas.Bool.{false≢true}
use Rattle.std.proofs.lemmas.List.{length-append}
use Rattle.stored.specs.HistoryTree.{record_text}
use Rattle.inner_page.proofs.HistoryLeaves.{length-record}
use Rattle.hist_pages.specs.Views.{record_seen}
use Rattle.hist_pages.proofs.Writings.{size_is, wrote_more}
use Rattle.hist_pages.proofs.record_writer.RecordWriter.push.Goals as goal

pub returns-then-len-lent-gt-IMAGE_MAX-clause-room : goal.returns-then-len-lent-gt-IMAGE_MAX-clause-room
returns-then-len-lent-gt-IMAGE_MAX-clause-room c =
    let v = c.self.inside in
    let s = size_is v.bytes.items v.count c.args.self.now (record_seen c.args.lent.now) c.self.view_is (omega (arith, v.bytes.ok.0, c.self.invariant.0)) in
    (λ f. absurd (false≢true f), λ few. absurd (omega (arith, few, s, v.bytes.ok.0, c.len.ensures, ap length c.value_of-value.ensures, c.if-len-lent-gt-IMAGE_MAX.true)))

pub put_record-requires-clause-room : goal.put_record-requires-clause-room
put_record-requires-clause-room c =
    omega (arith, length-record (record_seen c.args.lent.now), c.self.invariant.2, c.len.ensures, ap length c.value_of-value.ensures, c.if-len-lent-gt-IMAGE_MAX.false)

pub invariant_of-self : goal.invariant_of-self
invariant_of-self c =
    let v = c.self.inside in
    let long : length c.put_record.new.out.items ≡ length v.bytes.items + length (record_text (record_seen c.args.lent.now)) = ap length c.put_record.ensures.written ∙ length-append v.bytes.items (record_text (record_seen c.args.lent.now)) in (
      omega (arith, long, length-record (record_seen c.args.lent.now), v.bytes.ok.0, c.put_record.new.out.ok.0, c.self.invariant.0),
      omega (arith, long, length-record (record_seen c.args.lent.now), v.bytes.ok.0, c.put_record.new.out.ok.0, c.len.ensures, ap length c.value_of-value.ensures, c.if-len-lent-gt-IMAGE_MAX.false),
      omega (arith, c.self.invariant.2, c.put_record.ensures.capacity),
    )

pub returns-clause-room : goal.returns-clause-room
returns-clause-room c =
    let v = c.self.inside in
    let s = size_is v.bytes.items v.count c.args.self.now (record_seen c.args.lent.now) c.self.view_is (omega (arith, v.bytes.ok.0, c.self.invariant.0)) in
    (λ t. omega (arith, s, v.bytes.ok.0, c.len.ensures, ap length c.value_of-value.ensures, c.if-len-lent-gt-IMAGE_MAX.false), λ few. refl)

pub returns-clause-written : goal.returns-clause-written
returns-clause-written c same records h =
    let v = c.self.inside in
    wrote_more v.bytes.items c.put_record.new.out.items v.count c.args.self.now (record_seen c.args.lent.now) c.self.view_is (omega (arith, v.bytes.ok.0, c.self.invariant.0)) c.put_record.ensures.written records h
