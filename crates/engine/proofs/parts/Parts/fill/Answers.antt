use Rattle.std.proofs.Common.{◌≡◌, ℕ, ap, sym, ◌∙◌, List, subst}
use Rattle.std.specs.Prelude.{Some, None, option_copied}
use Rattle.std.proofs.lemmas.Option.{same_Some}
use Rattle.tree_dir.specs.declared.leaf.Leaf.{Leaf}
use Rattle.tree_dir.specs.Leaves.{IsDirectory, leaf_named}
use Rattle.call_steps.specs.declared.frame.FramePiece.{FramePiece}
use Rattle.call_steps.specs.Tables.{filled as word_filled}
use Rattle.engine_world.specs.Stands.{Engine, Stands}
use Rattle.engine_world.specs.Leaves.{generation_at}
use Rattle.engine_world.specs.Worlds.{without_records}
use Rattle.engine.specs.Frames.{IsFilled, framed_at, piece_of, put_at}
use Rattle.engine.specs.Sound.{IsSound}
use Rattle.engine.specs.Waits.{IsAway}
use Rattle.engine.proofs.LeavesCome.{fill-sound, fill-stands, filled, filled-is}
use Rattle.engine.proofs.parts.Parts.fill.Goals as goal

pub returns-in_err-frame-clause-sound : goal.returns-in_err-frame-clause-sound
returns-in_err-frame-clause-sound c = subst (λ (ps : List FramePiece). IsSound (record e { pieces = ps; states = c.frame_for_one.new.states.items })) (sym c.frame_for_one.ensures.pieces)
    (subst (λ (ws : List ℕ). IsSound (record e { states = ws })) (sym c.frame_for_one.ensures.states) sound) where
      e : Engine
      e = record { hub = c.self.inside.hub; pieces = c.self.inside.pieces.items; states = c.self.inside.states.items; hazards = c.self.inside.hazards.items; sessions = c.self.inside.sessions.items; systems = c.self.inside.systems.items }

      sound : IsSound e
      sound = subst (λ (x : Engine). IsSound x) (sym c.self.view_is) c.requires.sound

pub returns-clause-stands : goal.returns-clause-stands
returns-clause-stands c = λ w st from. subst (λ (x : Engine). Stands x (without_records c.args.leaf w)) made (fill-stands e l id frame c.args.page named none c.in_ok-frame.ensures.bare c.requires.fit sound c.frames_grow.ensures c.leaves_come.ensures
    (subst IsDirectory framed c.stands.ensures) w (subst (λ (x : Engine). Stands x w) (sym c.self.view_is) st) from) where
      e : Engine
      e = record { hub = c.self.inside.hub; pieces = c.self.inside.pieces.items; states = c.self.inside.states.items; hazards = c.self.inside.hazards.items; sessions = c.self.inside.sessions.items; systems = c.self.inside.systems.items }

      sound : IsSound e
      sound = subst (λ (x : Engine). IsSound x) (sym c.self.view_is) c.requires.sound

      id : ℕ
      id = c.args.leaf

      frame : ℕ
      frame = c.in_ok-frame.frame

      l : Leaf
      l = c.in-Some.there.now

      named : leaf_named id e.hub.dir.leaves ≡ Some l
      named = sym c.leaf.ensures ∙ ap option_copied c.in-Some.is

      away : IsAway e.hub.dir.leaves id
      away = subst (λ (x : Engine). IsAway x.hub.dir.leaves id) (sym c.self.view_is) c.requires.away

      none : l.frame ≡ None
      none = ap (λ (x : Leaf). x.frame) (same_Some l away.0 (sym named ∙ away.1)) ∙ away.2

      aged : c.generation_at-generation.result ≡ generation_at e.pieces frame
      aged = c.generation_at-generation.ensures ∙ ap (λ (ps : List FramePiece). generation_at ps frame) (c.deref.ensures.value ∙ c.frame_for_one.ensures.pieces)

      framed : c.set_frame.new.self ≡ framed_at e.hub.dir id frame (generation_at e.pieces frame)
      framed = c.set_frame.ensures ∙ ap (framed_at e.hub.dir id frame) aged

      pieces-are : c.put.new.items.items ≡ put_at e.pieces frame (piece_of (generation_at e.pieces frame) l.table id c.args.page)
      pieces-are = c.put.ensures ∙ (ap (λ (ps : List FramePiece). put_at ps frame c.piece_of.result) c.frame_for_one.ensures.pieces ∙ ap (put_at e.pieces frame) (c.piece_of.ensures ∙ ap (λ (n : ℕ). piece_of n l.table id c.args.page) aged))

      -- the engine that is left
      made : filled e l id frame c.args.page ≡ record e { hub = record e.hub { dir = c.set_frame.new.self }; pieces = c.put.new.items.items; states = c.put-2.new.items.items }
      made = filled-is e l id frame c.args.page c.set_frame.new.self c.put.new.items.items c.put-2.new.items.items framed
          pieces-are (c.put-2.ensures ∙ (ap (λ (ws : List ℕ). put_at ws frame c.filled.result) c.frame_for_one.ensures.states ∙ ap (put_at e.states frame) (c.filled.ensures ∙ ap word_filled aged)))

pub returns-clause-sound : goal.returns-clause-sound
returns-clause-sound c = subst (λ (x : Engine). IsSound x) made (fill-sound e l id frame c.args.page named none c.in_ok-frame.ensures.bare c.requires.fit sound) where
  e : Engine
  e = record { hub = c.self.inside.hub; pieces = c.self.inside.pieces.items; states = c.self.inside.states.items; hazards = c.self.inside.hazards.items; sessions = c.self.inside.sessions.items; systems = c.self.inside.systems.items }

  sound : IsSound e
  sound = subst (λ (x : Engine). IsSound x) (sym c.self.view_is) c.requires.sound

  id : ℕ
  id = c.args.leaf

  frame : ℕ
  frame = c.in_ok-frame.frame

  l : Leaf
  l = c.in-Some.there.now

  named : leaf_named id e.hub.dir.leaves ≡ Some l
  named = sym c.leaf.ensures ∙ ap option_copied c.in-Some.is

  away : IsAway e.hub.dir.leaves id
  away = subst (λ (x : Engine). IsAway x.hub.dir.leaves id) (sym c.self.view_is) c.requires.away

  none : l.frame ≡ None
  none = ap (λ (x : Leaf). x.frame) (same_Some l away.0 (sym named ∙ away.1)) ∙ away.2

  aged : c.generation_at-generation.result ≡ generation_at e.pieces frame
  aged = c.generation_at-generation.ensures ∙ ap (λ (ps : List FramePiece). generation_at ps frame) (c.deref.ensures.value ∙ c.frame_for_one.ensures.pieces)

  framed : c.set_frame.new.self ≡ framed_at e.hub.dir id frame (generation_at e.pieces frame)
  framed = c.set_frame.ensures ∙ ap (framed_at e.hub.dir id frame) aged

  pieces-are : c.put.new.items.items ≡ put_at e.pieces frame (piece_of (generation_at e.pieces frame) l.table id c.args.page)
  pieces-are = c.put.ensures ∙ (ap (λ (ps : List FramePiece). put_at ps frame c.piece_of.result) c.frame_for_one.ensures.pieces ∙ ap (put_at e.pieces frame) (c.piece_of.ensures ∙ ap (λ (n : ℕ). piece_of n l.table id c.args.page) aged))

  -- the engine that is left
  made : filled e l id frame c.args.page ≡ record e { hub = record e.hub { dir = c.set_frame.new.self }; pieces = c.put.new.items.items; states = c.put-2.new.items.items }
  made = filled-is e l id frame c.args.page c.set_frame.new.self c.put.new.items.items c.put-2.new.items.items framed
      pieces-are (c.put-2.ensures ∙ (ap (λ (ws : List ℕ). put_at ws frame c.filled.result) c.frame_for_one.ensures.states ∙ ap (put_at e.states frame) (c.filled.ensures ∙ ap word_filled aged)))

pub returns-clause-filled : goal.returns-clause-filled
returns-clause-filled c = subst (λ (x : Engine). IsFilled x (record e { hub = record e.hub { dir = c.set_frame.new.self }; pieces = c.put.new.items.items; states = c.put-2.new.items.items }) id c.args.page) c.self.view_is
    (record { leaf = l; there = named; frame = frame; bare = c.in_ok-frame.ensures.bare; dir = framed; pieces = pieces-are }) where
      e : Engine
      e = record { hub = c.self.inside.hub; pieces = c.self.inside.pieces.items; states = c.self.inside.states.items; hazards = c.self.inside.hazards.items; sessions = c.self.inside.sessions.items; systems = c.self.inside.systems.items }

      id : ℕ
      id = c.args.leaf

      frame : ℕ
      frame = c.in_ok-frame.frame

      l : Leaf
      l = c.in-Some.there.now

      named : leaf_named id e.hub.dir.leaves ≡ Some l
      named = sym c.leaf.ensures ∙ ap option_copied c.in-Some.is

      aged : c.generation_at-generation.result ≡ generation_at e.pieces frame
      aged = c.generation_at-generation.ensures ∙ ap (λ (ps : List FramePiece). generation_at ps frame) (c.deref.ensures.value ∙ c.frame_for_one.ensures.pieces)

      framed : c.set_frame.new.self ≡ framed_at e.hub.dir id frame (generation_at e.pieces frame)
      framed = c.set_frame.ensures ∙ ap (framed_at e.hub.dir id frame) aged

      pieces-are : c.put.new.items.items ≡ put_at e.pieces frame (piece_of (generation_at e.pieces frame) l.table id c.args.page)
      pieces-are = c.put.ensures ∙ (ap (λ (ps : List FramePiece). put_at ps frame c.piece_of.result) c.frame_for_one.ensures.pieces ∙ ap (put_at e.pieces frame) (c.piece_of.ensures ∙ ap (λ (n : ℕ). piece_of n l.table id c.args.page) aged))
