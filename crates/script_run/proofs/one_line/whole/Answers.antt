use Rattle.std.proofs.Common.{subst, inl}
use Rattle.std.specs.Prelude.{◌⊎◌, Err}
use Rattle.wt_code.specs.declared.refusals.Refusal.TheVariants.{NoMemory}
use Rattle.engine.specs.declared.step.Actor.{Actor}
use Rattle.script_text.specs.declared.line.Line.TheVariants.{Whole}
use Rattle.script_run.specs.Runs.{OpensAs, StandsAt}
use Rattle.script_run.specs.Scripts.{ActorReplies, Answers, Opens, Refuses, caller, missing, opened_more}
use Rattle.script_run.proofs.Holding.{keeps_then}
use Rattle.script_run.proofs.Replying.{left-more, turned-away}
use Rattle.script_run.proofs.Telling.{opened_replies, refused_replies}
use Rattle.script_run.proofs.one_line.whole.Goals as goal

pub returns-in-Err : goal.returns-in-Err
returns-in-Err g c =
    let store = c.open.new.store in
    let disk = c.args.disk.now in
    let told = c.refused.result in
    let r = c.in-Err.refusal in
    record {
      replied = λ honest first s at same.
          left-more g.D.Disk first s store disk s.kept (λ later. Opens (caller c.args.call) s.world (λ v. Answers c.args.call s told.formats told.reply later v ⊎ Refuses NoMemory s v told.reply later) (λ but v. Refuses but s v told.reply later))
          (λ later. ActorReplies (Whole c.args.call) s told.formats told.reply later) (λ later is. inl is)
          (turned-away g.D.Disk first s store disk (λ later v. Answers c.args.call s told.formats told.reply later v ⊎ Refuses NoMemory s v told.reply later) (caller c.args.call) r told.reply c.refused.ensures.reply
          (subst (λ (a : Actor). OpensAs a s.world (Err r) (λ v. StandsAt g.D.Disk first store disk s v)) c.caller.ensures (c.in-Err.ensures.opens disk honest first s s.world at)));
      told = refused_replies g.D.Disk c.args.store.now store disk disk r told c.in-Err.ensures.refused c.refused.ensures.reply (c.in-Err.ensures.told disk);
      keeps = c.in-Err.ensures.keeps disk;
    }

pub returns-in-Ok : goal.returns-in-Ok
returns-in-Ok g c =
    let store = c.open.new.store in
    let disk = c.args.disk.now in
    let store' = c.answer.new.store in
    let disk' = c.answer.new.disk in
    let told = c.answer.result in
    record {
      replied = λ honest first s at same.
          let opened = subst (λ (a : Actor). StandsAt g.D.Disk first store disk s (opened_more (missing a s.world) s.world)) c.caller.ensures (c.in-Ok.ensures.opens disk honest first s s.world at) in
          let v = opened_more (missing (caller c.args.call) s.world) s.world in
          left-more g.D.Disk first s store' disk' s.kept (λ later. Answers c.args.call s told.formats told.reply later v ⊎ Refuses NoMemory s v told.reply later) (λ later. ActorReplies (Whole c.args.call) s told.formats told.reply later) (λ later is. inl (inl is)) (c.answer.ensures.replied honest first s v opened same);
      told = opened_replies g.D.Disk c.args.store.now store store' disk disk' told (c.in-Ok.ensures.told disk) c.answer.ensures.told;
      keeps = keeps_then g.D.Disk c.args.store.now store store' disk disk disk' (c.in-Ok.ensures.keeps disk) c.answer.ensures.keeps;
    }
