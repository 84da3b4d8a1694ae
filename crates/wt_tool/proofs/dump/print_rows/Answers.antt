use Rattle.std.proofs.Common.{◌≡◌, ◌<◌, ℕ, List, Some, length, subst, arith}
use Rattle.std.specs.Prelude.{slice_get}
use Rattle.failure.specs.Counts.{Rose}
use Rattle.kv_model.specs.Rows.{Way}
use Rattle.row_page.specs.Rows.{Row}
use Rattle.row_page.specs.Views.{row_seen}
use Rattle.device_read.specs.Lent.{lent_rows}
use Rattle.device_read.specs.Rows.{put_row}
use Rattle.wt_tool.specs.Dumps.{way_of}
use Rattle.wt_tool.specs.Pages.{along, place_on}
use Rattle.wt_tool.proofs.Dumping.{cut_wider, first_left, last_left, next_cut, next_left}
use Rattle.wt_tool.proofs.Gets.{rose_before}
use Rattle.wt_tool.proofs.Ways.{along_at, along_length}
use Rattle.wt_tool.proofs.dump.print_rows.Goals as goal

-- the next row
next_row : (way : Way) (page : List Row) (count passed at : ℕ) (r : Row) → count ≡ length page → passed < count → at ≡ place_on way count passed → slice_get page at ≡ Some r → slice_get (along way page) passed ≡ Some r
next_row way page count passed at r same within is there =
    along_at way page passed r (omega (arith, within, same)) (subst (λ (n : ℕ). slice_get page (place_on way n passed) ≡ Some r) same (subst (λ (n : ℕ). slice_get page n ≡ Some r) is there))

pub loop-passed-init : goal.loop-passed-init
loop-passed-init g c = record {
  left = first_left put_row c.args.manner.form (along (way_of c.args.manner.reverse) (lent_rows c.args.page.now)) c.args.text.now.items (g.K.Sink.written c.args.out.now);
  later = omega arith;
}

pub loop-passed-preserved : goal.loop-passed-preserved
loop-passed-preserved g c =
    let K = g.K.Sink in
    let way = way_of c.args.manner.reverse in
    record {
      left = next_left put_row c.args.manner.form (along way (lent_rows c.args.page.now)) c.args.text.now.items (K.written c.args.out.now) (K.written c.loop-passed.out) (K.written c.print_cell.new.out) c.loop-passed.text.items c.loop-passed.passed (row_seen c.cell-cell.result)
          (next_row way (lent_rows c.args.page.now) c.len-count.result c.loop-passed.passed c.place_on.result (row_seen c.cell-cell.result) c.len-count.ensures c.loop-passed-test.true c.place_on.ensures.is c.cell-cell.ensures)
          c.loop-passed.invariant.left c.print_cell.new.text.items c.in-Ok.ensures.printed;
      later = omega (arith, c.loop-passed.invariant.later, c.print_cell.ensures.later);
    }

pub returns-in-Err-clause-printed : goal.returns-in-Err-clause-printed
returns-in-Err-clause-printed g c =
    let K = g.K.Sink in
    let way = way_of c.args.manner.reverse in
    next_cut put_row c.args.manner.form (along way (lent_rows c.args.page.now)) c.args.text.now.items (K.written c.args.out.now) (K.written c.loop-passed.out) (K.written c.print_cell.new.out) c.loop-passed.text.items c.loop-passed.passed (row_seen c.cell-cell.result)
    (next_row way (lent_rows c.args.page.now) c.len-count.result c.loop-passed.passed c.place_on.result (row_seen c.cell-cell.result) c.len-count.ensures c.loop-passed-test.true c.place_on.ensures.is c.cell-cell.ensures)
    c.loop-passed.invariant.left (Rose (K.fault_count c.args.out.now) (K.fault_count c.print_cell.new.out)) ⊥ c.in-Err.end
    (cut_wider (Rose (K.fault_count c.loop-passed.out) (K.fault_count c.print_cell.new.out)) (Rose (K.fault_count c.args.out.now) (K.fault_count c.print_cell.new.out)) ⊥ ⊥ _ _ _ c.in-Err.end
    (λ rose. rose_before (K.fault_count c.args.out.now) (K.fault_count c.loop-passed.out) (K.fault_count c.print_cell.new.out) c.loop-passed.invariant.later rose) (λ no. no) c.in-Err.ensures.printed)

pub returns-clause-printed : goal.returns-clause-printed
returns-clause-printed g c =
    let K = g.K.Sink in
    let way = way_of c.args.manner.reverse in
    last_left put_row c.args.manner.form (along way (lent_rows c.args.page.now)) c.args.text.now.items (K.written c.args.out.now) (K.written c.loop-passed.out) c.loop-passed.text.items c.loop-passed.passed
    (omega (arith, c.loop-passed-test.false, along_length way (lent_rows c.args.page.now), c.len-count.ensures)) c.loop-passed.invariant.left
