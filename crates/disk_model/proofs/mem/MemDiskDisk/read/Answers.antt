use Rattle.std.proofs.Common.{refl, ap, ◌∙◌, length, ◌≡◌, ◌≤◌, ◌+◌, arith}
use Rattle.std.proofs.lemmas.Grind.{common_steps}
use Rattle.disk_model.proofs.Calls.{time, looked, quiet}
use Rattle.disk_model.specs.Images.{content}
use Rattle.disk_model.proofs.mem.MemDiskDisk.read.Goals as goal

pub overflow_add-at : goal.overflow_add-at
overflow_add-at c =
    let same : c.self.inside.bytes.items ≡ content c.args.self.now = c.self.invariant ∙ ap content c.self.view_is ∙ quiet _ _ _ refl c.look.ensures.went in
    let size : length c.self.inside.bytes.items ≡ length (content c.args.self.now) = ap length same in
    let bound : c.args.at + length c.args.buffer.now ≤ length (content c.args.self.now) = c.requires in
    grind (arith, common_steps)

pub slice_bounds-copy_from_slice-end : goal.slice_bounds-copy_from_slice-end
slice_bounds-copy_from_slice-end c =
    let same : c.self.inside.bytes.items ≡ content c.args.self.now = c.self.invariant ∙ ap content c.self.view_is ∙ quiet _ _ _ refl c.look.ensures.went in
    let size : length c.self.inside.bytes.items ≡ length (content c.args.self.now) = ap length same in
    let bound : c.args.at + length c.args.buffer.now ≤ length (content c.args.self.now) = c.requires in
    grind (arith, common_steps)

pub returns-clause-bytes : goal.returns-clause-bytes
returns-clause-bytes c =
    let same : c.self.inside.bytes.items ≡ content c.args.self.now = c.self.invariant ∙ ap content c.self.view_is ∙ quiet _ _ _ refl c.look.ensures.went in
    rw (← same) (grind (arith, common_steps))

pub returns-in_err-look-clause-seen : goal.returns-in_err-look-clause-seen
returns-in_err-look-clause-seen c = quiet _ _ _ refl c.look.ensures.went

pub returns-in_err-look-clause-crash : goal.returns-in_err-look-clause-crash
returns-in_err-look-clause-crash c = looked _ _ _ c.look.ensures.went

pub returns-in_err-look-clause-time : goal.returns-in_err-look-clause-time
returns-in_err-look-clause-time c = time _ _ _ c.look.ensures.went

pub returns-clause-seen : goal.returns-clause-seen
returns-clause-seen c = quiet _ _ _ refl c.look.ensures.went

pub returns-clause-crash : goal.returns-clause-crash
returns-clause-crash c = looked _ _ _ c.look.ensures.went

pub returns-clause-time : goal.returns-clause-time
returns-clause-time c = time _ _ _ c.look.ensures.went
