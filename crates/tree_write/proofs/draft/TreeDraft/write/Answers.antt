use Rattle.std.proofs.Common.{◌≡◌, ◌++◌, List, OnOk, sym, subst}
use Rattle.stored.specs.TableTree.{Entry}
use Rattle.tree_write.specs.Drafts.{AreBelow, aligned}
use Rattle.tree_write.proofs.Drafting.{draft_more, draft_put, draft_stopped, may_more}
use Rattle.tree_write.proofs.LeafKeys.{draft_closed, leaves_of, part_behind}
use Rattle.tree_write.proofs.draft.TreeDraft.write.Goals as goal

pub write_leaves-requires-clause-leaves : goal.write_leaves-requires-clause-leaves
write_leaves-requires-clause-leaves g c = let of = leaves_of c.args.images.now c.requires.rows.0 c.requires.rows.1 in (of.leaves, of.spelled)

pub invariant_of-self : goal.invariant_of-self
invariant_of-self g c = draft_closed c.put_behind.result c.self.inside.entries.items c.in-Ok.part.items c.put_behind.new.entries.items c.put_behind.ensures.put c.put_behind.ensures.same c.self.invariant
    (part_behind c.args.low.now c.args.images.now c.requires.rows.0 c.self.inside.entries.items c.in-Ok.part.items c.requires.short c.in-Ok.ensures.keys (leaves_of c.args.images.now c.requires.rows.0 c.requires.rows.1) c.requires.rows.2 c.requires.rows.3 c.in-Ok.ensures.fits
    (subst (AreBelow c.args.low.now) (sym c.self.view_is) c.requires.below))

pub returns-in-Ok-clause-writes : goal.returns-in-Ok-clause-writes
returns-in-Ok-clause-writes g c rows are h old first books before links leaves listed draft live =
    let of = leaves_of c.args.images.now rows are in
    let D = g.D.Disk in
    let d = c.args.disk.now in
    let es = c.args.self.now in
    let part = c.in-Ok.part.items in
    let may = may_more D old first books c.args.blocks.now before d links leaves listed es draft c.args.was.now live in
    let wrote = c.in-Ok.ensures.writes of.leaves of.spelled h old first may in
    let more = draft_more D old first books c.args.blocks.now before d links leaves listed es draft c.args.was.now of.leaves live wrote.0 c.write_leaves.new.blocks c.write_leaves.new.disk part wrote.2 c.in-Ok.ensures.disk.room in
    let put = subst (λ (l : List Entry). OnOk c.put_behind.result (c.put_behind.new.entries.items ≡ l ++ part)) c.self.view_is c.put_behind.ensures.put in (
      of,
      wrote.0,
      wrote.1,
      draft_put D old first books c.write_leaves.new.blocks before c.write_leaves.new.disk (links ++ aligned c.args.was.now of.leaves) (leaves ++ of.leaves) (listed ++ wrote.0) (es ++ part) c.put_behind.new.entries.items c.put_behind.result put c.put_behind.ensures.err more,
    )

pub returns-in-Err-clause-writes : goal.returns-in-Err-clause-writes
returns-in-Err-clause-writes g c rows are h old first books before links leaves listed draft live =
    let of = leaves_of c.args.images.now rows are in
    let D = g.D.Disk in
    let d = c.args.disk.now in
    let es = c.args.self.now in
    let may = may_more D old first books c.args.blocks.now before d links leaves listed es draft c.args.was.now live in
    let wrote = c.in-Err.ensures.writes of.leaves of.spelled h old first may in
    (of, wrote.0, wrote.1, draft_stopped D old first books c.args.blocks.now before d links leaves listed es draft c.args.was.now of.leaves live wrote.0 c.write_leaves.new.blocks c.write_leaves.new.disk c.in-Err.error wrote.2)
