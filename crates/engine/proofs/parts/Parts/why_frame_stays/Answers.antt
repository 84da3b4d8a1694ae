use Rattle.std.proofs.Common.{◌≢◌, ◌<◌, ◌+◌, ◌^◌, List, refl, ap, ◌∙◌, subst}
use Rattle.std.specs.Prelude.{None}
use Rattle.call_steps.specs.declared.frame.FramePiece.{FramePiece}
use Rattle.engine_world.specs.Leaves.{frame_in, generation_at}
use Rattle.engine_world.specs.Stands.{Engine}
use Rattle.engine.specs.Evictions.{AllAside, NoneWrote}
use Rattle.engine.specs.Frames.{IsUnpinned}
use Rattle.engine.proofs.Evictions.{frame-there}
use Rattle.engine.proofs.parts.Parts.why_frame_stays.Goals as goal

pub returns-then-has_next-clause-none : goal.returns-then-has_next-clause-none
returns-then-has_next-clause-none c = λ is. (some, record { aside = aside; unpinned = unpinned; unwritten = unwritten; next = next }) where
  now : Engine
  now = c.args.self.now

  some : frame_in now.pieces c.args.frame ≢ None
  some = frame-there now.pieces c.args.frame c.leaf_in.result c.is_none.result c.leaf_in.ensures c.is_none.ensures c.if-is_none.false

  aside : AllAside c.args.frame now.sessions
  aside = subst (AllAside c.args.frame) (c.deref.ensures.value ∙ ap (λ (x : Engine). x.sessions) c.self.view_is) (c.in_default.ensures.none refl)

  unpinned : IsUnpinned c.args.frame now.hazards
  unpinned = subst (IsUnpinned c.args.frame) (c.deref-2.ensures.value ∙ ap (λ (x : Engine). x.hazards) c.self.view_is) (c.in_default-word_naming.ensures.none refl)

  unwritten : NoneWrote c.args.frame now.sessions
  unwritten = subst (NoneWrote c.args.frame) (c.deref-3.ensures.value ∙ ap (λ (x : Engine). x.sessions) c.self.view_is) (c.in_default-writer_in.ensures.none refl)

  next : generation_at now.pieces c.args.frame + 1 < 2 ^ 62
  next = subst (λ (ps : List FramePiece). generation_at ps c.args.frame + 1 < 2 ^ 62) (c.deref-4.ensures.value ∙ ap (λ (x : Engine). x.pieces) c.self.view_is) (c.has_next.ensures.yes c.if-has_next.true)
