use Rattle.std.proofs.Common.{◌∙◌, inr, refl, subst, sym}
use Rattle.failure.specs.Counts.{Rose}
use Rattle.tree_dir.specs.Leaves.{IsDirectory}
use Rattle.engine_store.specs.Full.{IsFullOf, MayBeFull}
use Rattle.engine_store.specs.Keeping.{with_kept}
use Rattle.engine_store.proofs.Fetching.{caused, none_known, shelf_here, tells_leaf}
use Rattle.engine_store.proofs.KeptFrames.{full_at}
use Rattle.engine_store.proofs.Stepping.{on_ok}
use Rattle.engine_store.proofs.store.Store.fetch.Goals as goal

pub returns-clause-stands : goal.returns-clause-stands
returns-clause-stands g c = λ h w now reached.
    c.bring.ensures.stands h now reached.stands
    (shelf_here g.D.Disk c.args.self.now c.args.disk.now w now c.args.leaf reached (sym c.fault.ensures ∙ c.in_default.is) c.requires.away (none_known _ c.of.result _ c.of.ensures c.in_default-of.is))

pub returns-clause-cause : goal.returns-clause-cause
returns-clause-cause g c = λ h w now reached.
    caused (Rose (g.D.Disk.faults c.args.disk.now) (g.D.Disk.faults c.bring.new.disk)) (MayBeFull c.args.self.now.frames now) w.machine.fault c.bring.result
    (c.bring.ensures.lacks h now.shelf
    (shelf_here g.D.Disk c.args.self.now c.args.disk.now w now c.args.leaf reached (sym c.fault.ensures ∙ c.in_default.is) c.requires.away (none_known _ c.of.result _ c.of.ensures c.in_default-of.is)))

pub returns-clause-told : goal.returns-clause-told
returns-clause-told g c = λ basis start le on.
    tells_leaf g.D.Disk basis start c.args.disk.now c.bring.new.disk le c.bring.ensures.looked c.args.self.now c.args.leaf c.bring.result on (subst IsDirectory c.leaves.ensures.are c.leaves.ensures.stand) c.requires.away c.bring.ensures.err

pub returns-clause-firm : goal.returns-clause-firm
returns-clause-firm g c = on_ok c.bring.result (IsFullOf c.args.self.now.frames c.args.self.now.engine → ⊥) (c.is_full.ensures.no c.if-is_full.false)

-- each frame is kept
pub returns-then-is_full-clause-cause : goal.returns-then-is_full-clause-cause
returns-then-is_full-clause-cause g c = λ h w now reached.
    let s = c.args.self.now in
    inr (inr (inr (refl, full_at s.frames s.engine now (with_kept s.ground.kept now).records reached.stands (c.is_full.ensures.yes c.if-is_full.true))))
