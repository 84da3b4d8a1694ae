use Rattle.std.proofs.Common.{◌≡◌, ◌∙◌, ◌+◌, ◌∷◌, List, ℕ, suc, drop, ap, sym, subst, arith}
use Rattle.block_mgr.specs.Blocks.{HasLive, unit_of}
use Rattle.block_mgr.specs.Cells.{freed}
use Rattle.device_layout.specs.declared.link.Link.{Link}
use Rattle.stored.specs.TableTree.{Entry}
use Rattle.tree_write.specs.Drafts.{addrs_to}
use Rattle.leaf_write.specs.Adds.{AreAdded}
use Rattle.leaf_write.proofs.Adding.{added_less, live_added}
use Rattle.leaf_write.proofs.Lists.{drop_at, drop_none, get_some}
use Rattle.leaf_write.proofs.leaves.give_back.Goals as goal

pub free-requires : goal.free-requires
free-requires c =
    let es = c.args.entries.now in
    let i = c.loop-i.i in
    let e : Entry = c.index-entries-i.result in
    let books = c.loop-i.blocks in
    let given = c.requires.added in
    let is : drop i es ≡ e ∷ drop (suc i) es = drop_at es i e (get_some es i e c.loop-i-test.true c.index-entries-i.is) in
    let first = subst (λ (l : List Entry). AreAdded given.0 (addrs_to l) books) is (c.loop-i.invariant.added given.0 given.1) in
    let link_is : c.entry.inside.link ≡ e.link = ap (λ (x : Entry). x.link) c.entry.view_is in
    subst (λ (l : Link). HasLive books.cells l.addr.offset l.addr.size) (sym link_is) (live_added given.0 books (addrs_to (e ∷ drop (suc i) es)) first).0

pub loop-i-preserved : goal.loop-i-preserved
loop-i-preserved c =
    let now = c.loop-i.invariant in
    let done = c.free.ensures in
    let es = c.args.entries.now in
    let i = c.loop-i.i in
    let e : Entry = c.index-entries-i.result in
    let books = c.loop-i.blocks in
    let is : drop i es ≡ e ∷ drop (suc i) es = drop_at es i e (get_some es i e c.loop-i-test.true c.index-entries-i.is) in
    let link_is : c.entry.inside.link ≡ e.link = ap (λ (x : Entry). x.link) c.entry.view_is in
    let later : suc i ≡ i + 1 = omega arith in
    record {
      added = λ before given. subst (λ (k : ℕ). AreAdded before (addrs_to (drop k es)) c.free.new.self) later
          (added_less before books c.free.new.self e.link.addr (addrs_to (drop (suc i) es)) (subst (λ (l : List Entry). AreAdded before (addrs_to l) books) is (now.added before given))
          (done.cells ∙ ap (λ (l : Link). freed books.cells (unit_of l.addr.offset)) link_is));
      end = done.end ∙ now.end;
      units = λ before. done.units;
      synced = done.synced ∙ now.synced;
      held = done.held ∙ now.held;
    }

pub returns-clause-cells : goal.returns-clause-cells
returns-clause-cells c before given u =
    let es = c.args.entries.now in
    (subst (λ (l : List Entry). AreAdded before (addrs_to l) c.loop-i.blocks) (drop_none es c.loop-i.i (omega (arith, c.loop-i-test.false))) (c.loop-i.invariant.added before given)).cells u
