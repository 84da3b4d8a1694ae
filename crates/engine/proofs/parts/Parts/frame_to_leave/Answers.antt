use Rattle.std.proofs.Common.{◌≡◌, ◌<◌, ◌+◌, ◌^◌, List, ap, refl, sym, ◌∙◌, subst}
use Rattle.std.specs.Prelude.{Some, option_and_then}
use Rattle.tree_dir.specs.declared.leaf.Leaf.{Leaf}
use Rattle.tree_dir.specs.Leaves.{leaf_named}
use Rattle.call_steps.specs.declared.frame.FramePiece.{FramePiece}
use Rattle.engine_world.specs.Leaves.{generation_at}
use Rattle.engine_world.specs.Stands.{Engine}
use Rattle.engine.specs.Frames.{AllClearOf, IsUnpinned}
use Rattle.engine.proofs.GoingOut.{may-go, may-is}
use Rattle.engine.proofs.parts.Parts.frame_to_leave.Goals as goal
use Rattle.engine.proofs.parts.Parts.frame_to_leave.Goals.{else-is_unwritten-via-then-is_unwritten+then-are_clear_of+then-is_unpinned+else-has_next, else-is_unwritten-via-then-is_unwritten+then-are_clear_of+else-is_unpinned, else-is_unwritten-via-then-is_unwritten+else-are_clear_of, else-is_unwritten-via-else-is_unwritten}

pub returns-then-has_next-clause-some : goal.returns-then-has_next-clause-some
returns-then-has_next-clause-some c = may-go now c.args.leaf c.in_ok-frame.field-0.frame c.in_ok-leaf_in.field-0.now c.in_ok-frame.field-0 placed refl c.in_ok-leaf_in.ensures (c.is_unwritten.ensures.yes c.if-is_unwritten.true) clear unpinned next where
  now : Engine
  now = c.args.self.now

  placed : option_and_then (λ (l : Leaf). l.frame) (leaf_named c.args.leaf now.hub.dir.leaves) ≡ Some c.in_ok-frame.field-0
  placed = ap (λ (x : Engine). option_and_then (λ (l : Leaf). l.frame) (leaf_named c.args.leaf x.hub.dir.leaves)) (sym c.self.view_is) ∙ sym c.in_ok-frame.ensures

  clear : AllClearOf c.in_ok-frame.field-0.frame now.sessions
  clear = subst (AllClearOf c.in_ok-frame.field-0.frame) (c.deref.ensures.value ∙ ap (λ (x : Engine). x.sessions) c.self.view_is) (c.are_clear_of.ensures.yes c.if-are_clear_of.true)

  unpinned : IsUnpinned c.in_ok-frame.field-0.frame now.hazards
  unpinned = subst (IsUnpinned c.in_ok-frame.field-0.frame) (c.deref-then-are_clear_of.ensures.value ∙ ap (λ (x : Engine). x.hazards) c.self.view_is) (c.is_unpinned.ensures.yes c.if-is_unpinned.true)

  next : generation_at now.pieces c.in_ok-frame.field-0.frame + 1 < 2 ^ 62
  next = subst (λ (ps : List FramePiece). generation_at ps c.in_ok-frame.field-0.frame + 1 < 2 ^ 62) (c.deref-then-is_unpinned.ensures.value ∙ ap (λ (x : Engine). x.pieces) c.self.view_is) (c.has_next.ensures.yes c.if-has_next.true)

pub returns-else-is_unwritten-clause-none : goal.returns-else-is_unwritten-clause-none
returns-else-is_unwritten-clause-none c = λ is may. let it = may-is now c.args.leaf c.in_ok-frame.field-0 c.in_ok-leaf_in.field-0.now placed c.in_ok-leaf_in.ensures may in elim c.else-is_unwritten.branch [
  | else-is_unwritten-via-then-is_unwritten+then-are_clear_of+then-is_unpinned+else-has_next w ↦
      w.has_next.ensures.no w.if-has_next.false (subst (λ (ps : List FramePiece). generation_at ps c.in_ok-frame.field-0.frame + 1 < 2 ^ 62) (sym (w.deref-then-is_unpinned.ensures.value ∙ ap (λ (x : Engine). x.pieces) c.self.view_is)) it.3)
  | else-is_unwritten-via-then-is_unwritten+then-are_clear_of+else-is_unpinned w ↦
      w.is_unpinned.ensures.no w.if-is_unpinned.false (subst (IsUnpinned c.in_ok-frame.field-0.frame) (sym (w.deref-then-are_clear_of.ensures.value ∙ ap (λ (x : Engine). x.hazards) c.self.view_is)) it.2)
  | else-is_unwritten-via-then-is_unwritten+else-are_clear_of w ↦
      w.are_clear_of.ensures.no w.if-are_clear_of.false (subst (AllClearOf c.in_ok-frame.field-0.frame) (sym (w.deref.ensures.value ∙ ap (λ (x : Engine). x.sessions) c.self.view_is)) it.1)
  | else-is_unwritten-via-else-is_unwritten w ↦ c.is_unwritten.ensures.no w.if-is_unwritten.false it.0
] where
  now : Engine
  now = c.args.self.now

  placed : option_and_then (λ (l : Leaf). l.frame) (leaf_named c.args.leaf now.hub.dir.leaves) ≡ Some c.in_ok-frame.field-0
  placed = ap (λ (x : Engine). option_and_then (λ (l : Leaf). l.frame) (leaf_named c.args.leaf x.hub.dir.leaves)) (sym c.self.view_is) ∙ sym c.in_ok-frame.ensures
