use Rattle.std.proofs.Common.{◌≡◌, refl, ap, sym, ◌∙◌}
use Rattle.std.specs.Prelude.{Some}
use Rattle.engine_world.specs.Stands.{Engine}
use Rattle.engine.specs.Evictions.{framed_in}
use Rattle.engine.proofs.Evictions.{keeps-not, may-evict}
use Rattle.engine.proofs.parts.Parts.frame_to_empty.Goals as goal

pub returns-in-None-clause-some : goal.returns-in-None-clause-some
returns-in-None-clause-some c = let may = c.in-None.ensures.none refl in may-evict c.args.self.now c.args.leaf c.in_ok-framed.framed placed may.0 may.1 where
  placed : framed_in c.args.self.now c.args.leaf ≡ Some c.in_ok-framed.framed
  placed = ap (λ (x : Engine). framed_in x c.args.leaf) (sym c.self.view_is) ∙ (sym c.frame.ensures ∙ c.in_ok-framed.was)

pub returns-in-Some-clause-none : goal.returns-in-Some-clause-none
returns-in-Some-clause-none c = λ is. keeps-not c.args.self.now c.args.leaf c.in_ok-framed.framed c.in-Some.field-0 placed c.in-Some.ensures.some where
  placed : framed_in c.args.self.now c.args.leaf ≡ Some c.in_ok-framed.framed
  placed = ap (λ (x : Engine). framed_in x c.args.leaf) (sym c.self.view_is) ∙ (sym c.frame.ensures ∙ c.in_ok-framed.was)
