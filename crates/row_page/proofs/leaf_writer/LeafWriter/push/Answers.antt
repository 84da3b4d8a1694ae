use Rattle.std.proofs.Common.{◌≡◌, length, ◌+◌, refl, ap, ◌∙◌, arith}
use Rattle.std.proofs.lemmas.Bool.{false≢true}
use Rattle.std.proofs.lemmas.List.{length-append}
use Rattle.row_page.specs.Rows.{cell}
use Rattle.row_page.specs.Views.{row_seen}
use Rattle.row_page.proofs.Leaves.{length-cell}
use Rattle.row_page.proofs.Writings.{size_is, wrote_more}
use Rattle.row_page.proofs.leaf_writer.LeafWriter.push.Goals as goal

pub returns-then-len-cell-clause-room : goal.returns-then-len-cell-clause-room
returns-then-len-cell-clause-room c =
    let v = c.self.inside in
    let s = size_is v.bytes.items v.limit v.count c.args.self.now (row_seen c.args.cell.now) c.self.view_is (omega (arith, v.bytes.ok.0, c.self.invariant.0)) in
    (λ f. absurd (false≢true f), λ few. absurd (omega (arith, few, s.0, s.1, v.bytes.ok.0, c.len.ensures, ap length c.value-value.ensures, c.if-len-cell.true)))

pub append_cell-requires-clause-room : goal.append_cell-requires-clause-room
append_cell-requires-clause-room c =
    let v = c.self.inside in
    omega (arith, length-cell (row_seen c.args.cell.now), c.self.invariant.3, c.len.ensures, ap length c.value-value.ensures, c.if-len-cell.false)

pub invariant_of-self : goal.invariant_of-self
invariant_of-self c =
    let v = c.self.inside in
    let long : length c.append_cell.new.out.items ≡ length v.bytes.items + length (cell (row_seen c.args.cell.now)) = ap length c.append_cell.ensures.written ∙ length-append v.bytes.items (cell (row_seen c.args.cell.now)) in (
      omega (arith, long, length-cell (row_seen c.args.cell.now), v.bytes.ok.0, c.append_cell.new.out.ok.0, c.self.invariant.0),
      omega (arith, long, length-cell (row_seen c.args.cell.now), v.bytes.ok.0, c.append_cell.new.out.ok.0, c.len.ensures, ap length c.value-value.ensures, c.if-len-cell.false),
      c.self.invariant.2,
      omega (arith, c.self.invariant.3, c.append_cell.ensures.capacity),
    )

pub returns-clause-room : goal.returns-clause-room
returns-clause-room c =
    let v = c.self.inside in
    let s = size_is v.bytes.items v.limit v.count c.args.self.now (row_seen c.args.cell.now) c.self.view_is (omega (arith, v.bytes.ok.0, c.self.invariant.0)) in
    (λ t. omega (arith, s.0, s.1, v.bytes.ok.0, c.len.ensures, ap length c.value-value.ensures, c.if-len-cell.false), λ few. refl)

pub returns-clause-written : goal.returns-clause-written
returns-clause-written c same rows h =
    let v = c.self.inside in
    wrote_more v.bytes.items c.append_cell.new.out.items v.limit v.count c.args.self.now (row_seen c.args.cell.now) c.self.view_is (omega (arith, v.bytes.ok.0, c.self.invariant.0)) c.append_cell.ensures.written rows h
