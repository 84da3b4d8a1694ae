use Rattle.std.proofs.Common.{◌≡◌, ◌<◌, sym, ◌∙◌, length, subst}
use Rattle.std.specs.Prelude.{None, slice_index_or}
use Rattle.engine_world.specs.Stands.{Engine}
use Rattle.engine.proofs.Directories.{goes-same}
use Rattle.engine.proofs.Systems.{free-at, made-whole}
use Rattle.engine.proofs.parts.Parts.call_system.Goals as goal

pub returns-clause-steps : goal.returns-clause-steps
returns-clause-steps c = λ w st. made-whole c.args.self.now c.made.new.self w c.args.number c.args.call c.made.result st free c.made.ensures.makes where
  e : Engine
  e = record { hub = c.self.inside.hub; pieces = c.self.inside.pieces.items; states = c.self.inside.states.items; hazards = c.self.inside.hazards.items; sessions = c.self.inside.sessions.items; systems = c.self.inside.systems.items }

  there : c.args.number < length e.systems
  there = subst (λ (x : Engine). c.args.number < length x.systems) (sym c.self.view_is) c.requires.there

  free : slice_index_or c.args.self.now.systems c.args.number None ≡ None
  free = subst (λ (x : Engine). slice_index_or x.systems c.args.number None ≡ None) c.self.view_is (free-at e.systems c.args.number c.index.result.now there c.index.ensures (sym c.if-is_some.false ∙ c.is_some.ensures))

pub returns-then-is_some-clause-goes : goal.returns-then-is_some-clause-goes
returns-then-is_some-clause-goes c = goes-same c.args.self.now c.requires.sound
