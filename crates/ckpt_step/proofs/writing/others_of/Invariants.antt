use Rattle.std.proofs.Common.{Option}
use Rattle.stored.specs.Stored.{Stored}
use Rattle.ckpt_step.specs.Grounds.{AreSince}
use Rattle.ckpt_step.specs.Rooms.{Written}
use Rattle.ckpt_step.proofs.OtherLives.{AreOthersTo}
use Rattle.ckpt_step.proofs.writing.others_of.Given as goal

abbrev pub invariant-loop-place : goal.invariant-loop-place
invariant-loop-place l = (old : Option Stored) (written : Written) → AreSince old l.lives l.engine.hub.dir written → AreOthersTo l.engine.hub.tables.tables l.engine.hub.dir.leaves l.lives l.others l.tables l.place
