-- A checkpoint that a machine takes has the newest version of each key.
use Rattle.std.specs.Prelude.{◌≡◌, ℕ, zero, suc, List, [], ◌∷◌, Option, Some, option_map, slice_get}
use Rattle.std.proofs.Common.{◌∙◌, ap, subst, sym}
use Rattle.std.proofs.lemmas.Option.{slice_get-map}
use Rattle.kv_model.specs.History.{Table}
use Rattle.kv_model.specs.Machine.{Checkpoint, CheckpointStart, Machine, after}
use Rattle.reconcile.specs.Shows.{shown_at}
use Rattle.stored.specs.HistoryTree.{HistoryRecord}
use Rattle.stored.specs.Records.{TableRoot}
use Rattle.stored.specs.Stored.{tables_of}
use Rattle.stored.specs.TableTree.{TableTree}
use Rattle.stored.specs.Tree.{join}
use Rattle.recover_open.specs.Bare.{tree_rows}
use Rattle.ckpt_content.specs.Finished.{AreTakenOf, AreTakenRows}
use Rattle.ckpt_step.specs.Giving.{CheckpointsHaveNewest}
use Rattle.ckpt_step.specs.Takes.{begun}
use Rattle.ckpt_step.proofs.Members.{none_some, some_same}
use Rattle.ckpt_step.proofs.WholeCells.{whole_head}

taken_at : (m : Machine) (c : Checkpoint) (records : List HistoryRecord) (known : List Table) (trees : List TableTree) (i : ℕ) (t : Table) (tree : TableTree) → AreTakenOf m c records known trees → slice_get known i ≡ Some t → slice_get trees i ≡ Some tree → AreTakenRows m c records t (join tree.leaves)
taken_at m c records [] trees i t tree are at also = absurd (none_some at)
taken_at m c records (u ∷ known) [] i t tree are at also = absurd are
taken_at m c records (u ∷ known) (x ∷ trees) zero t tree are at also = subst (λ (z : Table). AreTakenRows m c records z (join tree.leaves)) (some_same at) (subst (λ (y : TableTree). AreTakenRows m c records u (join y.leaves)) (some_same also) are.0)
taken_at m c records (u ∷ known) (x ∷ trees) (suc i) t tree are at also = taken_at m c records known trees i t tree are.1 at also

pub checkpoints_have_newest : CheckpointsHaveNewest
checkpoints_have_newest m number s valid is t place tree at =
    let table : slice_get (tables_of s.kept.tables) at.0.0 ≡ Some t =
    slice_get-map {A = TableRoot} (λ r. r.table) s.kept.tables at.0.0 ∙ ap (λ (o : Option TableRoot). option_map (λ r. r.table) o) at.0.1 in
    let taken = taken_at (after m CheckpointStart) (begun m) (join s.history.leaves) (tables_of s.kept.tables) s.trees at.0.0 t tree is.rows table at.0.2 in
    record {
      fit = taken.fit;
      newest = λ key. let captured = taken.captured key in sym (whole_head m t.number key (shown_at key (tree_rows tree)) valid captured.cell_there captured.top);
    }
