use Rattle.std.proofs.Common.{◌∙◌, ap, refl, subst, sym}
use Rattle.wt_code.specs.declared.refusals.Refusal.TheVariants.{NoMemory}
use Rattle.script_text.specs.Stored.{stored_call}
use Rattle.engine_store.specs.Keeping.{with_kept}
use Rattle.script_run.specs.Runs.{IsTold}
use Rattle.script_run.specs.declared.kept.Kept.{Kept}
use Rattle.script_run.specs.declared.told.Told.{Told}
use Rattle.script_text.specs.declared.line.Line.TheVariants.{Start}
use Rattle.script_run.proofs.EvictingLines.{start_faults, start_short, start_told, the_eviction}
use Rattle.script_run.proofs.Telling.{refused_faults, same_told}
use Rattle.script_run.proofs.evicting.start_evicting.Goals as goal

pub returns-in-Err-clause-replies : goal.returns-in-Err-clause-replies
returns-in-Err-clause-replies g c = λ honest first s at same none.
    subst (λ (k : Kept). IsTold g.D.Disk first (Start c.args.call) s c.args.store.now c.args.disk.now k c.refused.result) same
    (start_short g.D.Disk first s c.args.store.now c.args.disk.now at c.refused.result c.args.call (the_eviction c.args.call c.requires.evicts c.requires.now c.requires.other) none c.refused.ensures.reply)

pub returns-in-Err-clause-told : goal.returns-in-Err-clause-told
returns-in-Err-clause-told g c =
    refused_faults g.D.Disk c.args.store.now c.args.store.now c.args.disk.now c.args.disk.now NoMemory c.refused.result c.refused.ensures.reply (λ fault. absurd cc) (same_told g.D.Disk c.args.store.now c.args.disk.now)

pub returns-in-None-clause-replies : goal.returns-in-None-clause-replies
returns-in-None-clause-replies g c =
    let e = the_eviction c.args.call c.requires.evicts c.requires.now c.requires.other in
    absurd (c.in-None.ensures.none refl e.number e.table _ (c.in-Ok.ensures ∙ ap (stored_call c.formats_in-formats.result) e.is))

pub returns-in-None-clause-told : goal.returns-in-None-clause-told
returns-in-None-clause-told g c =
    refused_faults g.D.Disk c.args.store.now c.args.store.now c.args.disk.now c.args.disk.now NoMemory c.refused-in-None.result c.refused-in-None.ensures.reply (λ fault. absurd cc) (same_told g.D.Disk c.args.store.now c.args.disk.now)

pub returns-in-Some-clause-replies : goal.returns-in-Some-clause-replies
returns-in-Some-clause-replies g c = λ honest first s at same none.
    let formats = c.formats_in-formats.result in
    let told : Told = record { reply = c.begin_evicting.result; formats = formats } in
    let x = c.begin_evicting.ensures.starts (with_kept c.args.store.now.ground.kept s.world) at.held.stands s refl same in
    start_told g.D.Disk first s c.args.store.now c.args.disk.now at told c.args.call c.in-Some.asked.number c.in-Some.asked.table c.in-Some.asked.key x.0 c.begin_evicting.new.kept
    (c.formats_in-formats.ensures (with_kept c.args.store.now.ground.kept s.world) at.held.stands) (sym c.in-Ok.ensures ∙ c.in-Some.ensures.some) none x.1 x.2 x.3

pub returns-in-Some-clause-told : goal.returns-in-Some-clause-told
returns-in-Some-clause-told g c =
    start_faults g.D.Disk c.args.store.now c.args.disk.now (record { reply = c.begin_evicting.result; formats = c.formats_in-formats.result }) c.begin_evicting.ensures.fault
