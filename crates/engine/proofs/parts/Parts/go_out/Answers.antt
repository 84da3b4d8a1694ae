use Rattle.std.proofs.Common.{◌≡◌, ◌+◌, ℕ, ap, sym, ◌∙◌, List, subst}
use Rattle.std.specs.Prelude.{slice_set}
use Rattle.std.specs.Vec.{with_items}
use Rattle.std.proofs.lemmas.List.{with_items_is}
use Rattle.tree_dir.specs.Leaves.{IsDirectory}
use Rattle.call_steps.specs.declared.frame.FramePiece.{FramePiece}
use Rattle.engine_world.specs.GoingOut.{gone_out}
use Rattle.call_steps.specs.Tables.{empty}
use Rattle.engine_world.specs.Leaves.{emptied, generation_at}
use Rattle.engine_world.specs.Stands.{Engine, Stands}
use Rattle.engine.specs.Frames.{MayGoOut}
use Rattle.engine.specs.Sound.{IsSound}
use Rattle.engine.proofs.GoingOut.{gone-is, gone-sound, gone-stands}
use Rattle.engine.proofs.parts.Parts.go_out.Goals as goal

pub returns-clause-out : goal.returns-clause-out
returns-clause-out c = λ is. record { may = may.0; is = sym made } where
  e : Engine
  e = record { hub = c.self.inside.hub; pieces = c.self.inside.pieces.items; states = c.self.inside.states.items; hazards = c.self.inside.hazards.items; sessions = c.self.inside.sessions.items; systems = c.self.inside.systems.items }

  now : Engine
  now = c.args.self.now

  left : Engine
  left = record e { hub = record e.hub { dir = c.set_frame.new.self }; pieces = (with_items c.self.inside.pieces c.leave-generation.new.pieces).items; states = (with_items c.self.inside.states c.clear.new.states).items }

  may : (may : MayGoOut now c.args.leaf) × (may.framed.frame ≡ c.in-Some.frame)
  may = c.in-Some.ensures.some

  pieces-are : (with_items c.self.inside.pieces c.leave-generation.new.pieces).items ≡ slice_set e.pieces c.in-Some.frame (emptied e.pieces c.in-Some.frame)
  pieces-are = with_items_is c.self.inside.pieces c.leave-generation.new.pieces (c.leave-generation.auto.pieces ∙ c.deref_mut.ensures.len) ∙ (c.leave-generation.ensures.piece ∙ ap (λ (ps : List FramePiece). slice_set ps c.in-Some.frame (emptied ps c.in-Some.frame)) c.deref_mut.ensures.value)

  states-are : (with_items c.self.inside.states c.clear.new.states).items ≡ slice_set e.states c.in-Some.frame (empty (generation_at e.pieces c.in-Some.frame + 1))
  states-are = with_items_is c.self.inside.states c.clear.new.states (c.clear.auto.states ∙ c.deref_mut-2.ensures.len) ∙ (c.clear.ensures ∙ (ap (λ (ws : List ℕ). slice_set ws c.in-Some.frame (empty c.leave-generation.result)) c.deref_mut-2.ensures.value
      ∙ ap (λ (n : ℕ). slice_set e.states c.in-Some.frame (empty n)) (c.leave-generation.ensures.next ∙ ap (λ (ps : List FramePiece). generation_at ps c.in-Some.frame + 1) c.deref_mut.ensures.value)))

  -- the engine that is left
  made : gone_out now c.args.leaf may.0.framed.frame ≡ left
  made = ap (gone_out now c.args.leaf) may.1 ∙ (ap (λ (x : Engine). gone_out x c.args.leaf c.in-Some.frame) (sym c.self.view_is)
      ∙ gone-is e c.args.leaf c.in-Some.frame c.set_frame.new.self (with_items c.self.inside.pieces c.leave-generation.new.pieces).items (with_items c.self.inside.states c.clear.new.states).items c.set_frame.ensures pieces-are states-are)

pub returns-clause-stands : goal.returns-clause-stands
returns-clause-stands c = λ w st. subst (λ (x : Engine). Stands x w) made (gone-stands c.leaves_go_out_unseen.ensures now c.args.leaf may.0 (subst IsDirectory (ap (λ (x : Engine). x.hub.dir) (sym made)) c.stands.ensures) w st) where
  e : Engine
  e = record { hub = c.self.inside.hub; pieces = c.self.inside.pieces.items; states = c.self.inside.states.items; hazards = c.self.inside.hazards.items; sessions = c.self.inside.sessions.items; systems = c.self.inside.systems.items }

  now : Engine
  now = c.args.self.now

  left : Engine
  left = record e { hub = record e.hub { dir = c.set_frame.new.self }; pieces = (with_items c.self.inside.pieces c.leave-generation.new.pieces).items; states = (with_items c.self.inside.states c.clear.new.states).items }

  may : (may : MayGoOut now c.args.leaf) × (may.framed.frame ≡ c.in-Some.frame)
  may = c.in-Some.ensures.some

  pieces-are : (with_items c.self.inside.pieces c.leave-generation.new.pieces).items ≡ slice_set e.pieces c.in-Some.frame (emptied e.pieces c.in-Some.frame)
  pieces-are = with_items_is c.self.inside.pieces c.leave-generation.new.pieces (c.leave-generation.auto.pieces ∙ c.deref_mut.ensures.len) ∙ (c.leave-generation.ensures.piece ∙ ap (λ (ps : List FramePiece). slice_set ps c.in-Some.frame (emptied ps c.in-Some.frame)) c.deref_mut.ensures.value)

  states-are : (with_items c.self.inside.states c.clear.new.states).items ≡ slice_set e.states c.in-Some.frame (empty (generation_at e.pieces c.in-Some.frame + 1))
  states-are = with_items_is c.self.inside.states c.clear.new.states (c.clear.auto.states ∙ c.deref_mut-2.ensures.len) ∙ (c.clear.ensures ∙ (ap (λ (ws : List ℕ). slice_set ws c.in-Some.frame (empty c.leave-generation.result)) c.deref_mut-2.ensures.value
      ∙ ap (λ (n : ℕ). slice_set e.states c.in-Some.frame (empty n)) (c.leave-generation.ensures.next ∙ ap (λ (ps : List FramePiece). generation_at ps c.in-Some.frame + 1) c.deref_mut.ensures.value)))

  -- the engine that is left
  made : gone_out now c.args.leaf may.0.framed.frame ≡ left
  made = ap (gone_out now c.args.leaf) may.1 ∙ (ap (λ (x : Engine). gone_out x c.args.leaf c.in-Some.frame) (sym c.self.view_is)
      ∙ gone-is e c.args.leaf c.in-Some.frame c.set_frame.new.self (with_items c.self.inside.pieces c.leave-generation.new.pieces).items (with_items c.self.inside.states c.clear.new.states).items c.set_frame.ensures pieces-are states-are)

pub returns-clause-sound : goal.returns-clause-sound
returns-clause-sound c = subst (λ (x : Engine). IsSound x) made (gone-sound now c.args.leaf may.0.framed.frame c.requires.sound) where
  e : Engine
  e = record { hub = c.self.inside.hub; pieces = c.self.inside.pieces.items; states = c.self.inside.states.items; hazards = c.self.inside.hazards.items; sessions = c.self.inside.sessions.items; systems = c.self.inside.systems.items }

  now : Engine
  now = c.args.self.now

  left : Engine
  left = record e { hub = record e.hub { dir = c.set_frame.new.self }; pieces = (with_items c.self.inside.pieces c.leave-generation.new.pieces).items; states = (with_items c.self.inside.states c.clear.new.states).items }

  may : (may : MayGoOut now c.args.leaf) × (may.framed.frame ≡ c.in-Some.frame)
  may = c.in-Some.ensures.some

  pieces-are : (with_items c.self.inside.pieces c.leave-generation.new.pieces).items ≡ slice_set e.pieces c.in-Some.frame (emptied e.pieces c.in-Some.frame)
  pieces-are = with_items_is c.self.inside.pieces c.leave-generation.new.pieces (c.leave-generation.auto.pieces ∙ c.deref_mut.ensures.len) ∙ (c.leave-generation.ensures.piece ∙ ap (λ (ps : List FramePiece). slice_set ps c.in-Some.frame (emptied ps c.in-Some.frame)) c.deref_mut.ensures.value)

  states-are : (with_items c.self.inside.states c.clear.new.states).items ≡ slice_set e.states c.in-Some.frame (empty (generation_at e.pieces c.in-Some.frame + 1))
  states-are = with_items_is c.self.inside.states c.clear.new.states (c.clear.auto.states ∙ c.deref_mut-2.ensures.len) ∙ (c.clear.ensures ∙ (ap (λ (ws : List ℕ). slice_set ws c.in-Some.frame (empty c.leave-generation.result)) c.deref_mut-2.ensures.value
      ∙ ap (λ (n : ℕ). slice_set e.states c.in-Some.frame (empty n)) (c.leave-generation.ensures.next ∙ ap (λ (ps : List FramePiece). generation_at ps c.in-Some.frame + 1) c.deref_mut.ensures.value)))

  -- the engine that is left
  made : gone_out now c.args.leaf may.0.framed.frame ≡ left
  made = ap (gone_out now c.args.leaf) may.1 ∙ (ap (λ (x : Engine). gone_out x c.args.leaf c.in-Some.frame) (sym c.self.view_is)
      ∙ gone-is e c.args.leaf c.in-Some.frame c.set_frame.new.self (with_items c.self.inside.pieces c.leave-generation.new.pieces).items (with_items c.self.inside.states c.clear.new.states).items c.set_frame.ensures pieces-are states-are)
