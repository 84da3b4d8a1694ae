use Rattle.std.proofs.Common.{subst, sym}
use Rattle.kv_model.specs.Reads.{ReadAnswer}
use Rattle.kv_model.specs.Rows.{RowAnswer}
use Rattle.kv_plain.specs.Walk.{walk_in}
use Rattle.kv_plain.proofs.PlainStanding.{ok_each}
use Rattle.kv_plain.proofs.Walking.{row-answers}
use Rattle.kv_plain.proofs.walk.row_on.Goals as goal

pub returns : goal.returns
returns c =
    let w = walk_in c.args.walk.now in
    ok_each _ _ c.chosen_row.result c.chosen_row.ensures (λ r is. subst (RowAnswer (ReadAnswer w.machine w.session w.transaction w.table) w.way w.from) (sym is) (row-answers w))
