use Rattle.std.proofs.Common.{rules, refl, ap, ◌∙◌, length, ◌≡◌}
use Rattle.disk_model.proofs.Calls.{time, looked, quiet}
use Rattle.disk_model.specs.Images.{content}
use Rattle.disk_model.proofs.mem.MemDiskDisk.len.Goals as goal

pub returns-clause-len : goal.returns-clause-len
returns-clause-len c =
    let same : c.self.inside.bytes.items ≡ content c.args.self.now = c.self.invariant ∙ ap content c.self.view_is ∙ quiet _ _ _ refl c.look.ensures.went in
    let size : length c.self.inside.bytes.items ≡ length (content c.args.self.now) = ap length same in
    rw (← size) (search rules)

pub returns-in_err-look-clause-seen : goal.returns-in_err-look-clause-seen
returns-in_err-look-clause-seen c = quiet _ _ _ refl c.look.ensures.went

pub returns-in_err-look-clause-crash : goal.returns-in_err-look-clause-crash
returns-in_err-look-clause-crash c = looked _ _ _ c.look.ensures.went

pub returns-in_err-look-clause-time : goal.returns-in_err-look-clause-time
returns-in_err-look-clause-time c = time _ _ _ c.look.ensures.went

pub returns-clause-seen : goal.returns-clause-seen
returns-clause-seen c = quiet _ _ _ refl c.look.ensures.went

pub returns-clause-crash : goal.returns-clause-crash
returns-clause-crash c = looked _ _ _ c.look.ensures.went

pub returns-clause-time : goal.returns-clause-time
returns-clause-time c = time _ _ _ c.look.ensures.went
