use Rattle.hazard_law.proofs.Steps.{turned_safe}
use Rattle.hazard_law.proofs.law.a_step_keeps_the_words.Goals as goal

pub returns : goal.returns
returns g c frames words seats s id v i n after held at t = turned_safe frames words seats id v at s _ i n after held t
