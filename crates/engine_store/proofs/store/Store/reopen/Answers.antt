use Rattle.std.proofs.Common.{IsTrue, None, Ok, Err, refl, subst, sym, List, ℕ}
use Rattle.failure.specs.Counts.{Rose}
use Rattle.disk_model.proofs.Crash.{looked_same}
use Rattle.engine_store.specs.Opened.{IsAtFault}
use Rattle.engine_store.specs.Keeping.{with_kept}
use Rattle.engine_store.proofs.AsHeld.{reopens_as}
use Rattle.engine_store.proofs.KeptAnswers.{told_own}
use Rattle.engine_store.proofs.RefusalsTold.{damage_of, fault_of}
use Rattle.engine_store.proofs.Reopening.{not_reopened, reopened}
use Rattle.engine_store.proofs.Telling.{none_told}
use Rattle.engine_store.proofs.store.Store.reopen.Goals as goal

pub returns-in-Ok-clause-opens : goal.returns-in-Ok-clause-opens
returns-in-Ok-clause-opens g c = λ h first_disk w first made held.
    let image = g.met.D.Disk.reads_an_image c.args.disk.now h in
    let any = held.images (g.D.Disk.seen c.args.disk.now) image in
    reopens_as g.D.Disk first_disk w (with_kept c.args.self.now.ground.kept w).records first made c.args.self.now c.in-Ok.opened c.args.disk.now c.open_on.new.disk (Ok tt)
    (reopened g.D.Disk first_disk c.args.disk.now c.open_on.new.disk c.open_on.ensures.looked image c.args.self.now (with_kept c.args.self.now.ground.kept w) first made held c.in-Ok.opened (c.in-Ok.ensures.ok h any.2.0 any.2.1 any.2.2.layered))

pub returns-in-Ok-clause-told : goal.returns-in-Ok-clause-told
returns-in-Ok-clause-told g c = λ start le told. none_told g.D.Disk None start c.open_on.new.disk c.in-Ok.opened.engine c.in-Ok.ensures.sessions

pub returns-in-Err-clause-opens : goal.returns-in-Err-clause-opens
returns-in-Err-clause-opens g c = λ h first_disk w first made held.
    reopens_as g.D.Disk first_disk w (with_kept c.args.self.now.ground.kept w).records first made c.args.self.now c.args.self.now c.args.disk.now c.open_on.new.disk (Err c.in-Err.refusal)
    (not_reopened g.D.Disk first_disk c.args.disk.now c.open_on.new.disk c.open_on.ensures.looked (g.met.D.Disk.reads_an_image c.args.disk.now h) c.args.self.now (with_kept c.args.self.now.ground.kept w) first made held (IsTrue (g.D.Disk.honest c.args.disk.now)) h c.args.self.now refl c.in-Err.refusal c.in-Err.ensures.err)

pub returns-in-Err-clause-told : goal.returns-in-Err-clause-told
returns-in-Err-clause-told g c = λ start le told.
    told_own g.D.Disk None start c.args.disk.now c.open_on.new.disk (looked_same g.D.Disk c.args.disk.now c.open_on.new.disk c.open_on.ensures.looked c.open_on.ensures.home) c.args.self.now.engine c.args.self.now.engine (λ session but own. own) told

pub returns-in-Err-clause-damage : goal.returns-in-Err-clause-damage
returns-in-Err-clause-damage g c = λ at want found is h.
    let D = g.D.Disk in
    let before = c.args.disk.now in
    subst (λ (l : List ℕ). IsAtFault l at want found) (sym c.open_on.ensures.looked.content)
    (damage_of (Rose (D.faults before) (D.faults c.open_on.new.disk)) (IsTrue (D.honest before)) (D.seen before) c.in-Err.refusal c.in-Err.ensures.err at want found is h)

pub returns-in-Err-clause-fault : goal.returns-in-Err-clause-fault
returns-in-Err-clause-fault g c = λ is.
    let D = g.D.Disk in
    let before = c.args.disk.now in
    fault_of (Rose (D.faults before) (D.faults c.open_on.new.disk)) (IsTrue (D.honest before)) (D.seen before) c.in-Err.refusal c.in-Err.ensures.err is

pub returns-in-Ok-clause-disk : goal.returns-in-Ok-clause-disk
returns-in-Ok-clause-disk g c = looked_same g.D.Disk c.args.disk.now c.open_on.new.disk c.open_on.ensures.looked c.open_on.ensures.home

pub returns-in-Err-clause-disk : goal.returns-in-Err-clause-disk
returns-in-Err-clause-disk g c = looked_same g.D.Disk c.args.disk.now c.open_on.new.disk c.open_on.ensures.looked c.open_on.ensures.home
