use Rattle.std.proofs.Common.{◌≡◌, ◌+◌, ◌∙◌, ℕ, ap, length, subst, sym, arith}
use Rattle.std.specs.Prelude.{Vec, slice_get}
use Rattle.std.specs.declared.alloc.Global.{Global}
use Rattle.std.proofs.lemmas.Option.{slice_get_within}
use Rattle.tree_dir.specs.Leaves.{Directory}
use Rattle.catalog.specs.Known.{Known}
use Rattle.engine_store.specs.Marked.{AreMarkedOf}
use Rattle.engine_store.proofs.MarkedIds.{AreMarkedUpTo, up_more, up_none}
use Rattle.engine_store.proofs.marked.marked_of.Goals as goal
use Rattle.engine_store.proofs.marked.marked_of.Goals.{in-Some+in_ok-push_marked, in_default}

pub loop-place-preserved : goal.loop-place-preserved
loop-place-preserved c =
    let known = c.args.engine.now.hub.tables.tables in
    let leaves = c.args.engine.now.hub.dir.leaves in
    let marks = c.args.marks.now in
    let n = c.loop-place.place in
    let ids = c.loop-place.marked.items in
    let at : slice_get c.tables-in-loop-place.result.now.tables n ≡ slice_get known n = ap (λ (k : Known). slice_get k.tables n) c.tables-in-loop-place.ensures.are in
    elim c.match-table.branch [
      | in-Some+in_ok-push_marked w ↦ subst (λ (v : Vec ℕ Global). AreMarkedUpTo known leaves marks (n + 1) v.items) (sym w.marked-is)
          (up_more known leaves marks n w.in-Some.table.now w.number_of.result ids w.push_marked.new.marked.items c.loop-place.invariant (w.in-Some.ensures ∙ at) w.number_of.ensures w.in_ok-push_marked.ensures.kept
          (subst (λ (d : Directory). AreMarkedOf d.leaves w.number_of.result marks w.push_marked.new.marked.items) w.leaves.ensures.are w.in_ok-push_marked.ensures.marked))
      | in_default w ↦ subst (λ (v : Vec ℕ Global). AreMarkedUpTo known leaves marks (n + 1) v.items) (sym w.marked-is) (up_none known leaves marks n ids c.loop-place.invariant (w.in_default.ensures ∙ at))
    ]

pub returns : goal.returns
returns c = λ i t l there among its. c.loop-place.invariant i t l (omega (arith, c.loop-place-test.false, c.len-place-end.ensures.count, ap (λ (k : Known). length k.tables) c.tables.ensures.are, slice_get_within c.args.engine.now.hub.tables.tables i t there)) there among its
