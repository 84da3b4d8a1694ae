use Rattle.std.proofs.Common.{◌≡◌, List, subst, sym}
use Rattle.row_page.specs.Rows.{Row}
use Rattle.tree_dir.specs.Leaves.{Directory}
use Rattle.engine_world.specs.Coming.{ComesFrom}
use Rattle.engine_world.specs.Stands.{Stands}
use Rattle.reconcile.specs.declared.image.Moved.{Moved}
use Rattle.reconcile.specs.Moving.{versions_in}
use Rattle.evict_step.specs.Backs.{AreNewestFirst, unlike}
use Rattle.evict_step.specs.Kept.{but_rows, list_of}
use Rattle.evict_step.proofs.Again.{again_rows}
use Rattle.engine_store.specs.Keeping.{with_kept}
use Rattle.engine_store.specs.Loads.{ShelfIsOn}
use Rattle.engine_store.proofs.OtherRecords.{kept_then, newest_first}
use Rattle.engine_store.proofs.loading.bring.Goals as goal

pub returns-in-Err-clause-lacks : goal.returns-in-Err-clause-lacks
returns-in-Err-clause-lacks g c = λ h shelf on.
    c.in-Err.ensures.lacks h shelf (subst (λ (d : Directory). ShelfIsOn (g.D.Disk.seen c.args.disk.now) d shelf c.args.leaf) (sym c.leaves.ensures.are) on)

pub returns-in-Ok-fill-clause-stands : goal.returns-in-Ok-fill-clause-stands
returns-in-Ok-fill-clause-stands g c = λ h w stands on.
    let lists = c.args.kept.now in
    let leaf = c.args.leaf in
    let moved = list_of lists leaf in
    let lies : c.in-Ok.read.page ≡ w.shelf leaf = c.in-Ok.ensures.ok h w.shelf (subst (λ (d : Directory). ShelfIsOn (g.D.Disk.seen c.args.disk.now) d w.shelf leaf) (sym c.leaves.ensures.are) on) in
    let first : AreNewestFirst (w.shelf leaf) (but_rows (w.shelf leaf) moved) = newest_first c.args.engine.now lists w leaf stands c.requires.away in
    let same : unlike (w.shelf leaf) moved ≡ but_rows (w.shelf leaf) moved = again_rows (w.shelf leaf) moved first in
    let own : AreNewestFirst c.in-Ok.read.page (unlike c.in-Ok.read.page moved) = subst (λ (rows : List Row). AreNewestFirst rows (unlike rows moved)) (sym lies) (subst (λ (l : List Moved). AreNewestFirst (w.shelf leaf) l) (sym same) first) in
    let read : ComesFrom c.in-Ok-with_moved.page (w.shelf leaf) (λ key. versions_in key (unlike (w.shelf leaf) moved)) =
    subst (λ (rows : List Row). ComesFrom c.in-Ok-with_moved.page rows (λ key. versions_in key (unlike rows moved))) lies (c.in-Ok-with_moved.ensures.comes own) in
    let comes : ComesFrom c.in-Ok-with_moved.page (w.shelf leaf) (λ key. versions_in key (but_rows (w.shelf leaf) moved)) = subst (λ (l : List Moved). ComesFrom c.in-Ok-with_moved.page (w.shelf leaf) (λ key. versions_in key l)) same read in
    subst (Stands c.fill.new.self) (kept_then lists c.forget.new.self leaf w c.forget.ensures) (c.in-Ok-fill.ensures.stands (with_kept lists w) stands comes)
