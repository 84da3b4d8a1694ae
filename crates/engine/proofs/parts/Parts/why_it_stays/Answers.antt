use Rattle.std.proofs.Common.{◌≡◌, ap, sym, ◌∙◌}
use Rattle.std.specs.Prelude.{Some}
use Rattle.engine_world.specs.Stands.{Engine}
use Rattle.engine.specs.Evictions.{framed_in}
use Rattle.engine.proofs.Evictions.{keeps-leaves, keeps-nones, may-evict}
use Rattle.engine.proofs.parts.Parts.why_it_stays.Goals as goal

pub returns-in-Some-clause-none : goal.returns-in-Some-clause-none
returns-in-Some-clause-none c = λ is. let may = c.why_frame_stays.ensures.none is in (may-evict c.args.self.now c.args.leaf c.in-Some.framed placed may.0 may.1).0 where
  placed : framed_in c.args.self.now c.args.leaf ≡ Some c.in-Some.framed
  placed = ap (λ (x : Engine). framed_in x c.args.leaf) (sym c.self.view_is) ∙ (sym c.frame.ensures ∙ c.in-Some.is)

pub returns-in-Some-clause-some : goal.returns-in-Some-clause-some
returns-in-Some-clause-some c = keeps-leaves c.args.self.now c.args.leaf c.in-Some.framed c.why_frame_stays.result placed c.why_frame_stays.ensures.some where
  placed : framed_in c.args.self.now c.args.leaf ≡ Some c.in-Some.framed
  placed = ap (λ (x : Engine). framed_in x c.args.leaf) (sym c.self.view_is) ∙ (sym c.frame.ensures ∙ c.in-Some.is)

pub returns-in-Some-clause-not : goal.returns-in-Some-clause-not
returns-in-Some-clause-not c = keeps-nones c.args.self.now c.args.leaf c.in-Some.framed c.why_frame_stays.result placed c.why_frame_stays.ensures.some where
  placed : framed_in c.args.self.now c.args.leaf ≡ Some c.in-Some.framed
  placed = ap (λ (x : Engine). framed_in x c.args.leaf) (sym c.self.view_is) ∙ (sym c.frame.ensures ∙ c.in-Some.is)
