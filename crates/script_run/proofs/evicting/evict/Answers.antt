use Rattle.std.proofs.Common.{◌∙◌, ap, refl, subst, sym}
use Rattle.wt_code.specs.declared.refusals.Refusal.TheVariants.{NoMemory}
use Rattle.std.specs.Prelude.{None}
use Rattle.script_text.specs.declared.replies.Reply.TheVariants.{Answered}
use Rattle.script_text.specs.Stored.{stored_call}
use Rattle.engine_store.specs.Keeping.{with_kept}
use Rattle.engine_store.specs.EvictSteps.{EvictsBeside}
use Rattle.script_run.specs.declared.kept.Kept.{Kept}
use Rattle.script_run.specs.declared.told.Told.{Told}
use Rattle.script_run.proofs.EvictingLines.{evict_faults, evict_short, evict_told, the_eviction}
use Rattle.script_run.proofs.Telling.{refused_faults, same_told}
use Rattle.script_run.proofs.evicting.evict.Goals as goal

pub returns-in-Err-clause-replies : goal.returns-in-Err-clause-replies
returns-in-Err-clause-replies g c = λ honest first s at same none.
    evict_short g.D.Disk first s c.args.store.now c.args.disk.now at c.refused.result c.args.call (the_eviction c.args.call c.requires.evicts c.requires.now c.requires.other) none c.refused.ensures.reply

pub returns-in-Err-clause-told : goal.returns-in-Err-clause-told
returns-in-Err-clause-told g c =
    refused_faults g.D.Disk c.args.store.now c.args.store.now c.args.disk.now c.args.disk.now NoMemory c.refused.result c.refused.ensures.reply (λ fault. absurd cc) (same_told g.D.Disk c.args.store.now c.args.disk.now)

pub returns-in-None-clause-replies : goal.returns-in-None-clause-replies
returns-in-None-clause-replies g c =
    let e = the_eviction c.args.call c.requires.evicts c.requires.now c.requires.other in
    absurd (c.in-None.ensures.none refl e.number e.table _ (c.in-Ok.ensures ∙ ap (stored_call c.formats_in-formats.result) e.is))

pub returns-in-None-clause-told : goal.returns-in-None-clause-told
returns-in-None-clause-told g c =
    refused_faults g.D.Disk c.args.store.now c.args.store.now c.args.disk.now c.args.disk.now NoMemory c.refused-in-None.result c.refused-in-None.ensures.reply (λ fault. absurd cc) (same_told g.D.Disk c.args.store.now c.args.disk.now)

pub returns-in-Some-clause-replies : goal.returns-in-Some-clause-replies
returns-in-Some-clause-replies g c = λ honest first s at same none.
    let formats = c.formats_in-formats.result in
    let told : Told = record { reply = Answered c.answer_to.result; formats = formats } in
    evict_told g.D.Disk first s c.args.store.now c.answer_to.new.store c.args.disk.now c.answer_to.new.disk at told c.answer_to.ensures.frames c.answer_to.ensures.running c.args.call c.in-Some.asked.number c.in-Some.asked.table c.in-Some.asked.key
    (c.formats_in-formats.ensures (with_kept c.args.store.now.ground.kept s.world) at.held.stands) (sym c.in-Ok.ensures ∙ c.in-Some.ensures.some) c.answer_to.result refl none
    (subst (λ (k : Kept). EvictsBeside g.D.Disk first s.world s.first s.made c.args.store.now c.answer_to.new.store c.args.disk.now c.answer_to.new.disk k.evicting c.in-Some.asked.number c.in-Some.asked.table c.in-Some.asked.key None c.answer_to.result) (sym same)
    (c.answer_to.ensures.evicts honest first s.world s.first s.made at.held))

pub returns-in-Some-clause-told : goal.returns-in-Some-clause-told
returns-in-Some-clause-told g c =
    evict_faults g.D.Disk c.args.store.now c.answer_to.new.store c.args.disk.now c.answer_to.new.disk c.answer_to.result (record { reply = Answered c.answer_to.result; formats = c.formats_in-formats.result }) refl c.answer_to.ensures.fault c.answer_to.ensures.told
