use Rattle.std.proofs.Common.{◌≡◌, ◌+◌, ℕ, ap, sym, ◌∙◌, List, subst}
use Rattle.std.specs.Prelude.{slice_set}
use Rattle.std.specs.Vec.{with_items}
use Rattle.std.proofs.lemmas.List.{with_items_is}
use Rattle.tree_dir.specs.Leaves.{IsDirectory}
use Rattle.call_steps.specs.declared.frame.FramePiece.{FramePiece}
use Rattle.call_steps.specs.Tables.{empty}
use Rattle.engine_world.specs.Evicting.{evicted, with_rows}
use Rattle.engine_world.specs.GoingOut.{with_again}
use Rattle.engine_world.specs.Leaves.{emptied, generation_at}
use Rattle.engine_world.specs.Stands.{Engine, Stands}
use Rattle.engine_world.specs.Worlds.{with_records}
use Rattle.engine.specs.Evictions.{MayBeEvicted}
use Rattle.engine.specs.Sound.{IsSound}
use Rattle.engine.proofs.Evictions.{evicted-is, evicted-sound, evicted-stands, same-frame}
use Rattle.engine.proofs.parts.Parts.evict.Goals as goal

pub returns-clause-out : goal.returns-clause-out
returns-clause-out c = λ is. record { may = may.0; is = sym made } where
  e : Engine
  e = record { hub = c.self.inside.hub; pieces = c.self.inside.pieces.items; states = c.self.inside.states.items; hazards = c.self.inside.hazards.items; sessions = c.self.inside.sessions.items; systems = c.self.inside.systems.items }

  now : Engine
  now = c.args.self.now

  left : Engine
  left = record e { hub = record e.hub { dir = c.set_frame.new.self }; pieces = (with_items c.self.inside.pieces c.leave-generation.new.pieces).items; states = (with_items c.self.inside.states c.clear.new.states).items }

  may : (may : MayBeEvicted now c.args.leaf) × (may.framed.frame ≡ c.in-Some.frame)
  may = c.in-Some.ensures.some

  pieces-are : (with_items c.self.inside.pieces c.leave-generation.new.pieces).items ≡ slice_set e.pieces c.in-Some.frame (emptied e.pieces c.in-Some.frame)
  pieces-are = with_items_is c.self.inside.pieces c.leave-generation.new.pieces (c.leave-generation.auto.pieces ∙ c.deref_mut.ensures.len) ∙ (c.leave-generation.ensures.piece ∙ ap (λ (ps : List FramePiece). slice_set ps c.in-Some.frame (emptied ps c.in-Some.frame)) c.deref_mut.ensures.value)

  states-are : (with_items c.self.inside.states c.clear.new.states).items ≡ slice_set e.states c.in-Some.frame (empty (generation_at e.pieces c.in-Some.frame + 1))
  states-are = with_items_is c.self.inside.states c.clear.new.states (c.clear.auto.states ∙ c.deref_mut-2.ensures.len) ∙ (c.clear.ensures ∙ (ap (λ (ws : List ℕ). slice_set ws c.in-Some.frame (empty c.leave-generation.result)) c.deref_mut-2.ensures.value
      ∙ ap (λ (n : ℕ). slice_set e.states c.in-Some.frame (empty n)) (c.leave-generation.ensures.next ∙ ap (λ (ps : List FramePiece). generation_at ps c.in-Some.frame + 1) c.deref_mut.ensures.value)))

  -- the engine that is left
  made : evicted now c.args.leaf c.args.link may.0.framed.frame ≡ left
  made = ap (evicted now c.args.leaf c.args.link) may.1 ∙ (ap (λ (x : Engine). evicted x c.args.leaf c.args.link c.in-Some.frame) (sym c.self.view_is)
      ∙ evicted-is e c.args.leaf c.args.link c.in-Some.frame c.set_link.new.self c.set_frame.new.self (with_items c.self.inside.pieces c.leave-generation.new.pieces).items (with_items c.self.inside.states c.clear.new.states).items c.set_link.ensures c.set_frame.ensures pieces-are states-are)

pub returns-clause-stands : goal.returns-clause-stands
returns-clause-stands c = λ is may w rows moved st to. subst (λ (x : Engine). Stands x (with_records c.args.leaf moved (with_rows c.args.leaf rows (with_again now may.framed.frame w)))) (ap (evicted now c.args.leaf c.args.link) (same-frame now c.args.leaf may found.0) ∙ made)
    (evicted-stands c.leaves_are_evicted.ensures now c.args.leaf c.args.link may (subst IsDirectory (ap (λ (x : Engine). x.hub.dir) (sym (ap (evicted now c.args.leaf c.args.link) (same-frame now c.args.leaf may found.0) ∙ made))) c.stands.ensures) w rows moved st to) where
      e : Engine
      e = record { hub = c.self.inside.hub; pieces = c.self.inside.pieces.items; states = c.self.inside.states.items; hazards = c.self.inside.hazards.items; sessions = c.self.inside.sessions.items; systems = c.self.inside.systems.items }

      now : Engine
      now = c.args.self.now

      left : Engine
      left = record e { hub = record e.hub { dir = c.set_frame.new.self }; pieces = (with_items c.self.inside.pieces c.leave-generation.new.pieces).items; states = (with_items c.self.inside.states c.clear.new.states).items }

      found : (may : MayBeEvicted now c.args.leaf) × (may.framed.frame ≡ c.in-Some.frame)
      found = c.in-Some.ensures.some

      pieces-are : (with_items c.self.inside.pieces c.leave-generation.new.pieces).items ≡ slice_set e.pieces c.in-Some.frame (emptied e.pieces c.in-Some.frame)
      pieces-are = with_items_is c.self.inside.pieces c.leave-generation.new.pieces (c.leave-generation.auto.pieces ∙ c.deref_mut.ensures.len) ∙ (c.leave-generation.ensures.piece ∙ ap (λ (ps : List FramePiece). slice_set ps c.in-Some.frame (emptied ps c.in-Some.frame)) c.deref_mut.ensures.value)

      states-are : (with_items c.self.inside.states c.clear.new.states).items ≡ slice_set e.states c.in-Some.frame (empty (generation_at e.pieces c.in-Some.frame + 1))
      states-are = with_items_is c.self.inside.states c.clear.new.states (c.clear.auto.states ∙ c.deref_mut-2.ensures.len) ∙ (c.clear.ensures ∙ (ap (λ (ws : List ℕ). slice_set ws c.in-Some.frame (empty c.leave-generation.result)) c.deref_mut-2.ensures.value
          ∙ ap (λ (n : ℕ). slice_set e.states c.in-Some.frame (empty n)) (c.leave-generation.ensures.next ∙ ap (λ (ps : List FramePiece). generation_at ps c.in-Some.frame + 1) c.deref_mut.ensures.value)))

      -- the engine that is left
      made : evicted now c.args.leaf c.args.link found.0.framed.frame ≡ left
      made = ap (evicted now c.args.leaf c.args.link) found.1 ∙ (ap (λ (x : Engine). evicted x c.args.leaf c.args.link c.in-Some.frame) (sym c.self.view_is)
          ∙ evicted-is e c.args.leaf c.args.link c.in-Some.frame c.set_link.new.self c.set_frame.new.self (with_items c.self.inside.pieces c.leave-generation.new.pieces).items (with_items c.self.inside.states c.clear.new.states).items c.set_link.ensures c.set_frame.ensures pieces-are states-are)

pub returns-clause-sound : goal.returns-clause-sound
returns-clause-sound c = subst (λ (x : Engine). IsSound x) made (evicted-sound now c.args.leaf c.args.link may.0.framed.frame c.requires.sound) where
  e : Engine
  e = record { hub = c.self.inside.hub; pieces = c.self.inside.pieces.items; states = c.self.inside.states.items; hazards = c.self.inside.hazards.items; sessions = c.self.inside.sessions.items; systems = c.self.inside.systems.items }

  now : Engine
  now = c.args.self.now

  left : Engine
  left = record e { hub = record e.hub { dir = c.set_frame.new.self }; pieces = (with_items c.self.inside.pieces c.leave-generation.new.pieces).items; states = (with_items c.self.inside.states c.clear.new.states).items }

  may : (may : MayBeEvicted now c.args.leaf) × (may.framed.frame ≡ c.in-Some.frame)
  may = c.in-Some.ensures.some

  pieces-are : (with_items c.self.inside.pieces c.leave-generation.new.pieces).items ≡ slice_set e.pieces c.in-Some.frame (emptied e.pieces c.in-Some.frame)
  pieces-are = with_items_is c.self.inside.pieces c.leave-generation.new.pieces (c.leave-generation.auto.pieces ∙ c.deref_mut.ensures.len) ∙ (c.leave-generation.ensures.piece ∙ ap (λ (ps : List FramePiece). slice_set ps c.in-Some.frame (emptied ps c.in-Some.frame)) c.deref_mut.ensures.value)

  states-are : (with_items c.self.inside.states c.clear.new.states).items ≡ slice_set e.states c.in-Some.frame (empty (generation_at e.pieces c.in-Some.frame + 1))
  states-are = with_items_is c.self.inside.states c.clear.new.states (c.clear.auto.states ∙ c.deref_mut-2.ensures.len) ∙ (c.clear.ensures ∙ (ap (λ (ws : List ℕ). slice_set ws c.in-Some.frame (empty c.leave-generation.result)) c.deref_mut-2.ensures.value
      ∙ ap (λ (n : ℕ). slice_set e.states c.in-Some.frame (empty n)) (c.leave-generation.ensures.next ∙ ap (λ (ps : List FramePiece). generation_at ps c.in-Some.frame + 1) c.deref_mut.ensures.value)))

  -- the engine that is left
  made : evicted now c.args.leaf c.args.link may.0.framed.frame ≡ left
  made = ap (evicted now c.args.leaf c.args.link) may.1 ∙ (ap (λ (x : Engine). evicted x c.args.leaf c.args.link c.in-Some.frame) (sym c.self.view_is)
      ∙ evicted-is e c.args.leaf c.args.link c.in-Some.frame c.set_link.new.self c.set_frame.new.self (with_items c.self.inside.pieces c.leave-generation.new.pieces).items (with_items c.self.inside.states c.clear.new.states).items c.set_link.ensures c.set_frame.ensures pieces-are states-are)
