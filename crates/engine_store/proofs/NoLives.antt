-- Where no leaf was written since the last completed checkpoint.
use Rattle.std.proofs.Common.{◌≡◌, ◌∙◌, ℕ, false, List, [], ap, sym}
use Rattle.std.proofs.lemmas.Bool.{false≢true}
use Rattle.call_steps.specs.declared.hub.Hub.{Hub}
use Rattle.engine_world.specs.Worlds.{World}
use Rattle.tree_dir.specs.declared.leaf.Leaf.{Leaf}
use Rattle.ckpt_step.specs.declared.ground.Ground.{Ground}
use Rattle.ckpt_step.specs.declared.lives.Lone.{Lone}
use Rattle.ckpt_step.specs.Floors.{AreLivesOn}
use Rattle.ckpt_step.specs.Lives.{NoneLive, is_live}

-- none is such a leaf
pub none_is : (lives : List Lone) → lives ≡ [] → (l : Leaf) → is_live lives l ≡ false
none_is lives none l = ap (λ (x : List Lone). is_live x l) none

pub none_live : (lives : List Lone) (leaves : List Leaf) (table : ℕ) → lives ≡ [] → NoneLive lives leaves table
none_live lives leaves table none l there own = none_is lives none l

-- so all of them are on the device
pub none_on : (seen : List ℕ) (hub : Hub) (g : Ground) (w : World) → g.lives ≡ [] → AreLivesOn seen hub g w
none_on seen hub g w none l there live = absurd (false≢true (sym (none_is g.lives none l) ∙ live))
