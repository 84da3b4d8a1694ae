use Rattle.std.proofs.Common.{◌≡◌, ◌<◌, ◌+◌, ap, ◌∙◌, sym, length, arith}
use Rattle.std.specs.Prelude.{Some}
use Rattle.engine_world.specs.Stands.{Engine}
use Rattle.engine.specs.Closes.{first_at_work}
use Rattle.engine.proofs.Closes.{counted-there, first-here, first-none, none-more}
use Rattle.engine.proofs.parts.Parts.at_work.Goals as goal

pub returns-then-is_at_work : goal.returns-then-is_at_work
returns-then-is_at_work c = ap Some n ∙ (sym (first-here 0 e.sessions c.loop-session.session c.index.result.now inside c.loop-session.invariant c.index.ensures (sym c.is_at_work.ensures ∙ c.if-is_at_work.true))
    ∙ ap (λ (x : Engine). first_at_work 0 x.sessions) c.self.view_is) where
      e : Engine
      e = record { hub = c.self.inside.hub; pieces = c.self.inside.pieces.items; states = c.self.inside.states.items; hazards = c.self.inside.hazards.items; sessions = c.self.inside.sessions.items; systems = c.self.inside.systems.items }

      n : c.loop-session.session ≡ 0 + c.loop-session.session
      n = omega arith

      inside : c.loop-session.session < length e.sessions
      inside = counted-there e c.args.self.now c.count-session-end.result c.loop-session.session c.self.view_is c.count-session-end.ensures c.loop-session-test.true

pub loop-session-preserved : goal.loop-session-preserved
loop-session-preserved c = none-more e.sessions c.loop-session.session c.index.result.now inside c.loop-session.invariant c.index.ensures (sym c.is_at_work.ensures ∙ c.if-is_at_work.false) where
  e : Engine
  e = record { hub = c.self.inside.hub; pieces = c.self.inside.pieces.items; states = c.self.inside.states.items; hazards = c.self.inside.hazards.items; sessions = c.self.inside.sessions.items; systems = c.self.inside.systems.items }

  inside : c.loop-session.session < length e.sessions
  inside = counted-there e c.args.self.now c.count-session-end.result c.loop-session.session c.self.view_is c.count-session-end.ensures c.loop-session-test.true

pub returns : goal.returns
returns c = sym (first-none 0 c.self.inside.sessions.items (λ k less d. c.loop-session.invariant k
    (let end = c.loop-session-test.false in let count = c.count-session-end.ensures in let same = ap (λ (x : Engine). length x.sessions) c.self.view_is in omega arith) d))
    ∙ ap (λ (x : Engine). first_at_work 0 x.sessions) c.self.view_is
