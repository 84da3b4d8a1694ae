-- Where the machine runs no checkpoint, a store runs none.
use Rattle.std.proofs.Common.{◌≡◌, ◌∙◌, Option, None, Some, refl, sym}
use Rattle.kv_model.specs.Machine.{Checkpoint, Machine}
use Rattle.ckpt_step.specs.declared.ground.Ground.{Ground}
use Rattle.engine_store.specs.declared.progress.Underway.{Underway}
use Rattle.engine_store.specs.Running.{RunsOver}

pub not_running : (g : Ground) (o : Option Underway) (m : Machine) → RunsOver g o m → m.checkpoint ≡ None → o ≡ None
not_running g None m runs none = refl
not_running g (Some u) m (c, under) none = let e : None ≡ Some c = sym none ∙ under.runs in absurd (cc)
