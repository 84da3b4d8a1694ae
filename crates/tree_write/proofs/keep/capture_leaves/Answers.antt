use Rattle.std.proofs.Common.{◌≡◌, ◌∙◌, ◌++◌, ◌<◌, [], ◌∷◌, List, ap, sym, subst, get_or, take, length, arith}
use Rattle.std.proofs.lemmas.List.{append_assoc, length-append, length-take-le, take_more}
use Rattle.block_mgr.specs.declared.cell.Cell.{Cell}
use Rattle.block_mgr.specs.Blocks.{HasLive, unit_of}
use Rattle.block_mgr.specs.Cells.{captured}
use Rattle.device_layout.specs.declared.addr.Addr.{Addr}
use Rattle.stored.specs.TableTree.{Entry}
use Rattle.tree_write.specs.Drafts.{addrs_to}
use Rattle.tree_write.specs.Keeps.{AreLive}
use Rattle.tree_write.proofs.Keeping.{addr_at, addrs_length, all_live_captured, captured_more, live_at}
use Rattle.tree_write.proofs.keep.capture_leaves.Goals as goal

abbrev none : Addr
none = record { offset = 0; size = 0; sum = 0 }

pub capture-requires-clause-live : goal.capture-requires-clause-live
capture-requires-clause-live c =
    let es = c.args.entries.now in
    let within : c.loop-entry.entry-index < length (addrs_to es) = omega (arith, c.loop-entry-test.true, addrs_length es) in
    let is = addr_at es c.loop-entry.entry-index c.entry-item.result none c.loop-entry-test.true c.entry-item.is ∙ ap (λ (e : Entry). e.link.addr) (sym c.entry.view_is) in
    subst (λ (a : Addr). HasLive c.loop-entry.blocks.cells a.offset a.size) is (live_at c.loop-entry.blocks.cells (addrs_to es) c.loop-entry.entry-index none c.loop-entry.invariant.live within)

pub capture-requires-clause-room : goal.capture-requires-clause-room
capture-requires-clause-room c =
    let now = c.loop-entry.invariant in
    let addrs = addrs_to c.args.entries.now in
    let long = addrs_length c.args.entries.now in
    let taken = length-take-le c.loop-entry.entry-index addrs (omega (arith, c.loop-entry-test.true, long)) in
    omega (arith, ap (λ (l : List Addr). length l) now.listed, length-append c.args.listed.now.items (take c.loop-entry.entry-index addrs), taken, c.loop-entry-test.true, c.requires.room, now.room, c.loop-entry.listed.ok.0, c.args.listed.now.ok.0)

pub loop-entry-preserved : goal.loop-entry-preserved
loop-entry-preserved c =
    let now = c.loop-entry.invariant in
    let es = c.args.entries.now in
    let i = c.loop-entry.entry-index in
    let addrs = addrs_to es in
    let within : i < length addrs = omega (arith, c.loop-entry-test.true, addrs_length es) in
    let a : Addr = get_or addrs i none in
    let is : c.entry.inside.link.addr ≡ a = sym (addr_at es i c.entry-item.result none c.loop-entry-test.true c.entry-item.is ∙ ap (λ (e : Entry). e.link.addr) (sym c.entry.view_is)) in
    let cells = c.capture.ensures.cells ∙ ap (λ (x : Addr). captured c.loop-entry.blocks.cells (unit_of x.offset)) is in
    record {
      live = subst (λ (l : List Cell). AreLive l addrs) (sym cells) (all_live_captured c.loop-entry.blocks.cells (unit_of a.offset) addrs now.live);
      cells = cells ∙ (ap (λ (l : List Cell). captured l (unit_of a.offset)) now.cells ∙ sym (captured_more c.args.blocks.now.cells addrs i none within));
      space = c.capture.ensures.space ∙ now.space;
      synced = c.capture.ensures.synced ∙ now.synced;
      held = c.capture.ensures.held;
      listed = c.capture.ensures.listed
          ∙ (ap (λ (x : Addr). c.loop-entry.listed.items ++ x ∷ []) is
          ∙ (ap (λ (l : List Addr). l ++ a ∷ []) now.listed
          ∙ (append_assoc c.args.listed.now.items (take i addrs) (a ∷ [])
          ∙ ap (λ (l : List Addr). c.args.listed.now.items ++ l) (sym (take_more addrs i none within)))));
      room = omega (arith, c.capture.ensures.room, now.room);
    }
