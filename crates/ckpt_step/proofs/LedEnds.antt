-- What the eviction of a leaf answers, from how it went.
use Rattle.std.specs.Prelude.{◌≡◌, ℕ, List, Option, Some}
use Rattle.failure.specs.declared.Fault.{Fault}
use Rattle.disk_model.specs.declared.disk.Disk.{Ghosts}
use Rattle.wt_code.specs.declared.refusals.Refusal.TheVariants.{Panic}
use Rattle.stored.specs.Stored.{Stored}
use Rattle.engine.proofs.Checkpoints.{start-down}
use Rattle.engine_world.specs.Stands.{Engine, Stands}
use Rattle.engine_world.specs.Worlds.{World}
use Rattle.ckpt_step.specs.declared.ground.Ground.{Ground}
use Rattle.ckpt_step.specs.Floors.{AreLivesOn, Follows}
use Rattle.ckpt_step.specs.Grounds.{StandsOn}
use Rattle.ckpt_step.specs.WritesOut.{NotWritten, RefusesOut}
use Rattle.ckpt_step.proofs.OutEnds.{barred, not_done}

module _ {D : Type 0} (g : Ghosts D) (old : Option Stored) (w : World) (stand : Ground) (e : Engine) (id : ℕ) (disk : D) (only : (c : List ℕ) → g.left_since disk (g.moment disk) c → g.may_leave disk c)
    (on : StandsOn (g.seen disk) (g.may_leave disk) e.hub stand old) (follows : Follows old e.hub stand w) (device : AreLivesOn (g.seen disk) e.hub stand w) where
  -- it stays
  pub stayed_led : NotWritten g old w stand stand e e id disk disk
  stayed_led = not_done g old w stand e id disk only on follows device

  -- the engine is down
  pub down_led : (fault : Fault) → Stands e w → e.hub.fault ≡ Some fault → RefusesOut g old w stand stand e e id disk disk (Panic fault)
  down_led fault stands is = barred g old w stand e id disk (Panic fault) (start-down e w stand.number fault stands is) on stayed_led
