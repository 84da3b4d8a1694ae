use Rattle.std.proofs.Common.{◌∙◌, refl}
use Rattle.std.specs.Prelude.{ℕ, ◌≡◌, IsTrue}
use Rattle.engine_store.specs.Opened.{IsAtFault}
use Rattle.wt_code.specs.declared.refusals.Refusal.TheVariants.{Corrupt}
use Rattle.script_run.proofs.Devices.{busy_by, close_busy, close_evicting, close_done, close_refused, refused_as}
use Rattle.script_run.specs.Faults.{RepliesFault}
use Rattle.script_run.proofs.Telling.{refused_faults, same_told, then_faults}
use Rattle.script_run.proofs.control.close.Goals as goal

pub returns-in-Ok-clause-replies : goal.returns-in-Ok-clause-replies
returns-in-Ok-clause-replies g c = λ honest first s at same.
    close_done g.D.Disk first s c.args.store.now c.args.disk.now at (busy_by s c.args.kept.now c.is_busy.result same (c.is_busy.ensures _ at.held.stands) ∙ c.if-is_busy.false) c.close.new.self c.close.new.disk c.close.ensures.frames c.close.ensures.running
    (c.in-Ok.ensures.shuts honest first s.world s.first s.made at.held) c.reopen_as_it_was.new.store c.reopen_as_it_was.new.disk c.reopen_as_it_was.new.kept c.reopen_as_it_was.result
    (λ t there. c.reopen_as_it_was.ensures.replies (c.close.ensures.disk.same ∙ honest) first t there)

pub returns-in-Ok-clause-damage : goal.returns-in-Ok-clause-damage
returns-in-Ok-clause-damage g c =
    refused_as c.reopen_as_it_was.result (λ r. (at want found : ℕ) → r ≡ Corrupt at want found → IsTrue (g.D.Disk.honest c.close.new.disk) → IsAtFault (g.D.Disk.seen c.reopen_as_it_was.new.disk) at want found)
    (λ r. (at want found : ℕ) → r ≡ Corrupt at want found → IsTrue (g.D.Disk.honest c.args.disk.now) → IsAtFault (g.D.Disk.seen c.reopen_as_it_was.new.disk) at want found)
    (λ r known at want found is honest. known at want found is (c.close.ensures.disk.same ∙ honest)) c.reopen_as_it_was.ensures.damage

pub returns-in-Err-clause-replies : goal.returns-in-Err-clause-replies
returns-in-Err-clause-replies g c = λ honest first s at same.
    close_refused g.D.Disk first s c.args.store.now c.args.disk.now at (busy_by s c.args.kept.now c.is_busy.result same (c.is_busy.ensures _ at.held.stands) ∙ c.if-is_busy.false) c.close.new.self c.close.new.disk c.close.ensures.frames c.close.ensures.running c.in-Err.refusal c.args.kept.now c.refused-in-Err.result
    (c.in-Err.ensures.shuts honest first s.world s.first s.made at.held) same c.refused-in-Err.ensures.reply c.refused-in-Err.ensures.formats

pub returns-then-is_busy-clause-replies : goal.returns-then-is_busy-clause-replies
returns-then-is_busy-clause-replies g c = λ honest first s at same.
    close_busy g.D.Disk first s c.args.store.now c.args.disk.now c.refused.result c.args.kept.now at same (busy_by s c.args.kept.now c.is_busy.result same (c.is_busy.ensures _ at.held.stands) ∙ c.if-is_busy.true) c.refused.ensures.reply c.refused.ensures.formats

pub returns-then-is_busy-clause-told : goal.returns-then-is_busy-clause-told
returns-then-is_busy-clause-told g c =
    let store = c.args.store.now in
    let disk = c.args.disk.now in
    refused_faults g.D.Disk store store disk disk _ c.refused.result c.refused.ensures.reply (λ fault. absurd cc) (same_told g.D.Disk store disk)

pub returns-in-Ok-clause-told : goal.returns-in-Ok-clause-told
returns-in-Ok-clause-told g c =
    then_faults g.D.Disk c.args.store.now c.close.new.self c.reopen_as_it_was.new.store c.args.disk.now c.close.new.disk c.reopen_as_it_was.new.disk (RepliesFault c.reopen_as_it_was.result) c.close.ensures.disk.later c.close.ensures.told c.reopen_as_it_was.ensures.told

pub returns-in-Err-clause-told : goal.returns-in-Err-clause-told
returns-in-Err-clause-told g c =
    refused_faults g.D.Disk c.args.store.now c.close.new.self c.args.disk.now c.close.new.disk c.in-Err.refusal c.refused-in-Err.result c.refused-in-Err.ensures.reply c.in-Err.ensures.fault c.close.ensures.told

pub returns-in-Some-clause-replies : goal.returns-in-Some-clause-replies
returns-in-Some-clause-replies g c = λ honest first s at same.
    close_evicting g.D.Disk first s c.args.store.now c.args.disk.now at (busy_by s c.args.kept.now c.is_busy.result same (c.is_busy.ensures _ at.held.stands) ∙ c.if-is_busy.false) c.args.store.now c.args.disk.now refl refl c.in-Some.frame c.args.kept.now
    c.refused-in-Some.result same c.in-Some.ensures.some.0 c.in-Some.ensures.some.1 c.in-Some.ensures.some.2 c.refused-in-Some.ensures.reply c.refused-in-Some.ensures.formats

pub returns-in-Some-clause-told : goal.returns-in-Some-clause-told
returns-in-Some-clause-told g c =
    let store = c.args.store.now in
    let disk = c.args.disk.now in
    refused_faults g.D.Disk store store disk disk _ c.refused-in-Some.result c.refused-in-Some.ensures.reply (λ fault. absurd cc) (same_told g.D.Disk store disk)
