use Rattle.std.proofs.Common.{◌∙◌, ◌++◌, [], ◌∷◌, List, ap, sym, subst, slice_index_or, take, length, arith}
use Rattle.std.proofs.lemmas.List.{append_assoc, length-append, length-take-le, take_more}
use Rattle.block_mgr.specs.declared.cell.Cell.{Cell}
use Rattle.block_mgr.specs.Blocks.{unit_of}
use Rattle.block_mgr.specs.Cells.{captured}
use Rattle.device_layout.specs.declared.addr.Addr.{Addr}
use Rattle.tree_write.specs.Keeps.{AreLive}
use Rattle.tree_write.proofs.Keeping.{all_live_captured, captured_more, live_at}
use Rattle.tree_write.proofs.keep.capture_all.Goals as goal

abbrev none : Addr
none = record { offset = 0; size = 0; sum = 0 }

pub capture-requires-clause-live : goal.capture-requires-clause-live
capture-requires-clause-live c = live_at c.loop-addr.blocks.cells c.args.addrs.now c.loop-addr.addr-index none c.loop-addr.invariant.live c.loop-addr-test.true

pub capture-requires-clause-room : goal.capture-requires-clause-room
capture-requires-clause-room c =
    let now = c.loop-addr.invariant in
    let addrs = c.args.addrs.now in
    let taken = length-take-le c.loop-addr.addr-index addrs (omega (arith, c.loop-addr-test.true)) in
    omega (arith, ap (λ (l : List Addr). length l) now.listed, length-append c.args.listed.now.items (take c.loop-addr.addr-index addrs), taken, c.loop-addr-test.true, c.requires.room, now.room, c.loop-addr.listed.ok.0, c.args.listed.now.ok.0)

pub loop-addr-preserved : goal.loop-addr-preserved
loop-addr-preserved c =
    let now = c.loop-addr.invariant in
    let addrs = c.args.addrs.now in
    let a : Addr = slice_index_or addrs c.loop-addr.addr-index none in
    record {
      live = subst (λ (l : List Cell). AreLive l addrs) (sym c.capture.ensures.cells) (all_live_captured c.loop-addr.blocks.cells (unit_of a.offset) addrs now.live);
      cells = c.capture.ensures.cells ∙ (ap (λ (l : List Cell). captured l (unit_of a.offset)) now.cells ∙ sym (captured_more c.args.blocks.now.cells addrs c.loop-addr.addr-index none c.loop-addr-test.true));
      space = c.capture.ensures.space ∙ now.space;
      synced = c.capture.ensures.synced ∙ now.synced;
      held = c.capture.ensures.held;
      listed = c.capture.ensures.listed
          ∙ (ap (λ (l : List Addr). l ++ a ∷ []) now.listed
          ∙ (append_assoc c.args.listed.now.items (take c.loop-addr.addr-index addrs) (a ∷ [])
          ∙ ap (λ (l : List Addr). c.args.listed.now.items ++ l) (sym (take_more addrs c.loop-addr.addr-index none c.loop-addr-test.true))));
      room = omega (arith, c.capture.ensures.room, now.room);
    }
