use Rattle.std.proofs.Common.{refl, sym, ap, subst, ◌∙◌}
use Rattle.disk_model.specs.Disk.{NoMore}
use Rattle.disk_model.specs.Images.{Medium}
use Rattle.disk_model.proofs.Calls.{time, looked, quiet}
use Rattle.disk_model.specs.Images.{content, May, Time}
use Rattle.disk_model.proofs.mem.MemDiskHome.attach.Goals as goal

pub returns-in-Ok-look-clause-seen : goal.returns-in-Ok-look-clause-seen
returns-in-Ok-look-clause-seen c = ap content c.self.view_is ∙ quiet _ _ _ refl c.look.ensures.went

pub returns-in-Ok-look-clause-crash : goal.returns-in-Ok-look-clause-crash
returns-in-Ok-look-clause-crash c = subst (λ (m : Medium). NoMore (May c.args.self.now) (May m)) (sym c.self.view_is) (looked _ _ _ c.look.ensures.went)

pub returns-in-Ok-look-clause-time : goal.returns-in-Ok-look-clause-time
returns-in-Ok-look-clause-time c = subst (λ (m : Medium). Time c.args.self.now m) (sym c.self.view_is) (time _ _ _ c.look.ensures.went)

pub returns-in-Err-clause-seen : goal.returns-in-Err-clause-seen
returns-in-Err-clause-seen c = quiet _ _ _ refl c.look.ensures.went

pub returns-in-Err-clause-crash : goal.returns-in-Err-clause-crash
returns-in-Err-clause-crash c = looked _ _ _ c.look.ensures.went

pub returns-in-Err-clause-time : goal.returns-in-Err-clause-time
returns-in-Err-clause-time c = time _ _ _ c.look.ensures.went
