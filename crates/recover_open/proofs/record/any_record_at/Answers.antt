use Rattle.std.proofs.Common.{inl, inr}
use Rattle.device_leaf.proofs.Opens.{block_there, ok_map, err_map}
use Rattle.recover_open.proofs.Steps.{recorded, record_refused, record_spoilt}
use Rattle.recover_open.proofs.Sole.{of_record, record_sound}
use Rattle.recover_open.proofs.record.any_record_at.Goals as goal

pub returns-in-Err-clause-err : goal.returns-in-Err-clause-err
returns-in-Err-clause-err g c =
    let D = g.D.Disk in
    elim c.in-Err.ensures.err [
      | inl none ↦ inr (inl none)
      | inr rest ↦ elim rest [
        | inl fault ↦ inl fault
        | inr (found, is) ↦ inr (inr (c.addr.result.offset, c.addr.result.sum, found, is, λ h. record_spoilt (D.seen c.args.disk.now) c.args.slot c.addr.result found c.addr.ensures h.1 (c.in-Err.ensures.corrupt h.0 _ _ found is).2))
      ]
    ]

pub returns-in-Ok-clause-err : goal.returns-in-Ok-clause-err
returns-in-Ok-clause-err g c =
    let D = g.D.Disk in
    err_map c.record_of.result c.record_of.ensures.err (λ e why. record_refused _ _ (D.seen c.args.disk.now) c.deref.result.now c.args.slot e why
    (λ h. block_there (D.seen c.args.disk.now) c.args.slot c.addr.result c.in-Ok.block.items c.deref.result.now c.addr.ensures c.deref.ensures.value h.1 (c.in-Ok.ensures.bytes h.0)))

pub returns-in-Ok-clause-ok : goal.returns-in-Ok-clause-ok
returns-in-Ok-clause-ok g c h chosen =
    let D = g.D.Disk in
    ok_map c.record_of.result c.record_of.ensures.ok (λ r of. recorded (D.seen c.args.disk.now) c.deref.result.now c.args.slot r
    (block_there (D.seen c.args.disk.now) c.args.slot c.addr.result c.in-Ok.block.items c.deref.result.now c.addr.ensures c.deref.ensures.value chosen (c.in-Ok.ensures.bytes h)) of)

pub returns-in-Ok-clause-own : goal.returns-in-Ok-clause-own
returns-in-Ok-clause-own g c = ok_map c.record_of.result c.record_of.ensures.ok (λ r of. of.own)

pub returns-in-Err-clause-sole : goal.returns-in-Err-clause-sole
returns-in-Err-clause-sole g c h has =
    elim c.in-Err.ensures.err [
      | inl none ↦ inr none
      | inr rest ↦ elim rest [
        | inl fault ↦ inl fault.0
        | inr (found, is) ↦ absurd (record_sound (g.D.Disk.seen c.args.disk.now) c.args.slot c.addr.result found c.addr.ensures has (c.in-Err.ensures.corrupt h _ _ found is).2)
      ]
    ]

pub returns-in-Ok-clause-sole : goal.returns-in-Ok-clause-sole
returns-in-Ok-clause-sole g c h has =
    let D = g.D.Disk in
    err_map c.record_of.result c.record_of.ensures.err (λ e why. of_record (D.seen c.args.disk.now) c.deref.result.now c.args.slot e
    (block_there (D.seen c.args.disk.now) c.args.slot c.addr.result c.in-Ok.block.items c.deref.result.now c.addr.ensures c.deref.ensures.value has.1.chosen (c.in-Ok.ensures.bytes h)) has why)
