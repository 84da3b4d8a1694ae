-- The moment at which a checkpoint is finished.
use Rattle.std.specs.Prelude.{◌≡◌, List}
use Rattle.std.proofs.Common.{inl, sym, ◌∙◌}
use Rattle.snapshot.specs.Sight.{Sight}
use Rattle.stamp.specs.declared.Name.{Name}
use Rattle.stored.specs.HistoryTree.{HistoryRecord}
use Rattle.engine.specs.declared.running_checkpoint.RunningCheckpoint.{RunningCheckpoint}
use Rattle.engine_world.specs.Stands.{Engine}
use Rattle.hist_gather.specs.Sources.{ended_sight}
use Rattle.ckpt_step.specs.Moments.{CellsServe, IsFinishing, IsHistoryThen, IsMoment, Moment}
use Rattle.ckpt_step.proofs.Members.{some_same}

-- what the engine has serves, as the history that is gathered has with it all that a read can want
cells_serve : (n : Moment) (records : List HistoryRecord) → IsHistoryThen n records → CellsServe n
cells_serve n records older t stood key =
    let own = older.taken t stood key in
    record {
      there = own.cell_there;
      top = own.top;
      below = λ v w one two. inl (some_same (sym one ∙ two));
    }

pub moment_now : (e : Engine) (running : RunningCheckpoint) (floor : Name) (n : Moment) → IsFinishing e running floor n → (records : List HistoryRecord) → IsHistoryThen n records → (s : Sight) → s ≡ ended_sight e → IsMoment e s floor n
moment_now e running floor n fin records older s sight = record {
  stands = fin.stands;
  runs = fin.runs;
  sight = sight;
  cells = fin.cells;
  serve = cells_serve n records older;
  before = fin.before;
}
