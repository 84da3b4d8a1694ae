use Rattle.std.proofs.Common.{◌≡◌, ◌∙◌, Global, List, Some, Vec, inl, inr, sym, ap, subst}
use Rattle.engine.specs.declared.checkpoint.EngineMarks.{EngineMarks}
use Rattle.reconcile.specs.declared.image.Image.{Image}
use Rattle.ckpt_step.specs.CutOuts.{AreOldAt}
use Rattle.ckpt_step.specs.Steps.{IsLoaded}
use Rattle.engine.proofs.LeavesCome.{named-there}
use Rattle.tree_dir.specs.declared.leaf.Leaf.{Leaf}
use Rattle.tree_dir.specs.Leaves.{Directory, leaf_named}
use Rattle.ckpt_step.proofs.Members.{some_same}
use Rattle.ckpt_step.proofs.OutCuts.{is_none, late_rows, no_rows, not_none}
use Rattle.ckpt_step.proofs.cutting_out.cut_leaf.Goals as goal
use Rattle.ckpt_step.proofs.cutting_out.cut_leaf.Goals.{then-is_empty-via-then-is_empty, then-is_empty-via-else-is_empty+then-not-are_old}

pub returns-in_default-frame_of-clause-none : goal.returns-in_default-frame_of-clause-none
returns-in_default-frame_of-clause-none c none w stands resolves =
    let d = c.args.engine.now.hub.dir in
    let named : leaf_named c.args.leaf d.leaves ≡ Some c.in-Some.found.now = sym (c.in-Some.ensures ∙ ap (λ (x : Directory). leaf_named c.args.leaf x.leaves) c.leaves.ensures.are) in
    inl (λ framed. framed.2 (ap (λ (x : Leaf). x.frame) (some_same (sym framed.1 ∙ named)) ∙ c.in_default-frame_of.ensures.none w stands (named-there c.args.leaf d.leaves c.in-Some.found.now named)))

pub returns-then-is_empty-clause-none : goal.returns-then-is_empty-clause-none
returns-then-is_empty-clause-none c none w stands resolves =
    let e = c.args.engine.now in
    let d = e.hub.dir in
    let l = c.in-Some.found.now in
    let named : leaf_named c.args.leaf d.leaves ≡ Some l = sym (c.in-Some.ensures ∙ ap (λ (x : Directory). leaf_named c.args.leaf x.leaves) c.leaves.ensures.are) in
    let there = named-there c.args.leaf d.leaves l named in
    let sees = c.in_ok-snapshot.ensures.sees w stands resolves in
    let made = c.in_ok-images.ensures in
    inr (elim c.then-is_empty.branch [
      | then-is_empty-via-then-is_empty x ↦ no_rows e w l there c.in-Some-frame_of.frame.now c.in-Some-frame_of.ensures.some c.in_ok-snapshot.snapshot.sight made.0 made.1 c.captures_are_newest.ensures stands resolves sees c.args.leaf named c.in_ok-images.images.items made.2 (is_none c.in_ok-images.images.items c.in_ok-images.images.len (sym c.in_ok-images.images.ok.0) (sym x.if-is_empty.ensures))
      | then-is_empty-via-else-is_empty+then-not-are_old x ↦ late_rows e w l there c.in-Some-frame_of.frame.now c.in-Some-frame_of.ensures.some c.in_ok-snapshot.snapshot.sight made.0 made.1 c.captures_are_newest.ensures stands resolves sees c.args.leaf named c.in_ok-images.images.items made.2 x.marks.result.oldest (ap (λ (m : EngineMarks). m.oldest) (x.marks.ensures.machine w stands)) (λ old. x.are_old.ensures.no x.if-not-are_old.true (subst (λ (l : List Image). AreOldAt x.marks.result.oldest l) (sym x.deref.ensures.value) old))
    ])

pub returns-clause-cut : goal.returns-clause-cut
returns-clause-cut c =
    let d = c.args.engine.now.hub.dir in
    let rows = c.in_ok-images.ensures.0 in
    let place = c.in_ok-cut.ensures.place rows c.in_ok-images.ensures.2 c.in_ok-images.ensures.1.fit in
    let named : leaf_named c.args.leaf d.leaves ≡ Some c.in-Some.found.now = sym (c.in-Some.ensures ∙ ap (λ (x : Directory). leaf_named c.args.leaf x.leaves) c.leaves.ensures.are) in
    record {
      rows = rows;
      place = place;
      held = c.in-Some-frame_of.frame.now;
      loaded = subst (λ (x : Leaf). IsLoaded c.args.engine.now x c.in-Some-frame_of.frame.now) (some_same (sym named ∙ place.there)) c.in-Some-frame_of.ensures.some;
      sight = c.in_ok-snapshot.snapshot.sight;
      sees = λ w stands resolves. c.in_ok-snapshot.ensures.sees w stands resolves;
      captured = c.in_ok-images.ensures.1;
      oldest = c.marks.result.oldest;
      oldest_is = λ w stands. ap (λ (m : EngineMarks). m.oldest) (c.marks.ensures.machine w stands);
      durable = subst (λ (l : List Image). AreOldAt c.marks.result.oldest l) (c.deref.ensures.value ∙ ap (λ (v : Vec Image Global). v.items) (sym c.in_ok-cut.ensures.are)) (c.are_old.ensures.yes c.if-not-are_old.false);
    }

pub in_place-requires : goal.in_place-requires
in_place-requires c = not_none c.in_ok-images.images.items c.in_ok-images.images.len (sym c.in_ok-images.images.ok.0) (sym c.if-is_empty.ensures)
