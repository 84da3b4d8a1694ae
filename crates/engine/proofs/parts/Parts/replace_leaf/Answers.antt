use Rattle.std.proofs.Common.{◌≡◌, ◌+◌, ℕ, ap, sym, ◌∙◌, List, subst}
use Rattle.std.specs.Prelude.{slice_set}
use Rattle.std.specs.Vec.{with_items}
use Rattle.std.proofs.lemmas.List.{with_items_is}
use Rattle.tree_dir.specs.Leaves.{Directory, GaveWay}
use Rattle.call_steps.specs.declared.frame.FramePiece.{FramePiece}
use Rattle.engine_world.specs.GivingWay.{without_leaf}
use Rattle.call_steps.specs.Tables.{empty}
use Rattle.engine_world.specs.Leaves.{emptied, generation_at}
use Rattle.engine_world.specs.Stands.{Engine}
use Rattle.engine.specs.Sound.{IsSound}
use Rattle.engine.proofs.GivingWay.{way-sound, without-is}
use Rattle.engine.proofs.parts.Parts.replace_leaf.Goals as goal

pub returns-in_err-reserve-clause-sound : goal.returns-in_err-reserve-clause-sound
returns-in_err-reserve-clause-sound c = subst (λ (e : Engine). IsSound e) (sym c.self.view_is) c.requires.sound

pub returns-in_err-replace-clause-sound : goal.returns-in_err-replace-clause-sound
returns-in_err-replace-clause-sound c = subst (λ (d : Directory). IsSound (record e { hub = record e.hub { dir = d } })) (sym c.in_err-replace.ensures.kept) (subst (λ (x : Engine). IsSound x) (sym c.self.view_is) c.requires.sound) where
  e : Engine
  e = record { hub = c.self.inside.hub; pieces = c.self.inside.pieces.items; states = c.self.inside.states.items; hazards = c.self.inside.hazards.items; sessions = c.self.inside.sessions.items; systems = c.self.inside.systems.items }

pub returns-clause-sound : goal.returns-clause-sound
returns-clause-sound c = subst (λ (x : Engine). IsSound x) made (way-sound e c.replace.new.self frame c.args.leaf c.args.entries.items gave.0 gave.1 (subst (λ (x : Engine). IsSound x) (sym c.self.view_is) c.requires.sound)) where
  e : Engine
  e = record { hub = c.self.inside.hub; pieces = c.self.inside.pieces.items; states = c.self.inside.states.items; hazards = c.self.inside.hazards.items; sessions = c.self.inside.sessions.items; systems = c.self.inside.systems.items }

  frame : ℕ
  frame = c.in-Some.framed.frame

  gave : (ids : List ℕ) × GaveWay e.hub.dir c.replace.new.self c.args.leaf c.args.entries.items ids
  gave = c.in_ok-replace.ensures.replaced

  pieces-are : (with_items c.self.inside.pieces c.leave-generation.new.pieces).items ≡ slice_set e.pieces frame (emptied e.pieces frame)
  pieces-are = with_items_is c.self.inside.pieces c.leave-generation.new.pieces (c.leave-generation.auto.pieces ∙ c.deref_mut.ensures.len) ∙ (c.leave-generation.ensures.piece ∙ ap (λ (ps : List FramePiece). slice_set ps frame (emptied ps frame)) c.deref_mut.ensures.value)

  states-are : (with_items c.self.inside.states c.clear.new.states).items ≡ slice_set e.states frame (empty (generation_at e.pieces frame + 1))
  states-are = with_items_is c.self.inside.states c.clear.new.states (c.clear.auto.states ∙ c.deref_mut-2.ensures.len) ∙ (c.clear.ensures ∙ (ap (λ (ws : List ℕ). slice_set ws frame (empty c.leave-generation.result)) c.deref_mut-2.ensures.value
      ∙ ap (λ (n : ℕ). slice_set e.states frame (empty n)) (c.leave-generation.ensures.next ∙ ap (λ (ps : List FramePiece). generation_at ps frame + 1) c.deref_mut.ensures.value)))

  -- the engine that is left
  made : without_leaf e c.replace.new.self frame ≡ record e { hub = record e.hub { dir = c.replace.new.self }; pieces = (with_items c.self.inside.pieces c.leave-generation.new.pieces).items; states = (with_items c.self.inside.states c.clear.new.states).items }
  made = without-is e c.replace.new.self frame (with_items c.self.inside.pieces c.leave-generation.new.pieces).items (with_items c.self.inside.states c.clear.new.states).items pieces-are states-are
