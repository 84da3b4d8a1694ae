use Rattle.std.proofs.Common.{subst, inl}
use Rattle.std.specs.Prelude.{Err}
use Rattle.engine.specs.declared.step.Actor.{Actor}
use Rattle.script_text.specs.declared.line.Line.TheVariants.{Finish as FinishLine}
use Rattle.script_run.specs.declared.kept.Kept.{Kept}
use Rattle.script_run.specs.Runs.{IsReplied, OpensAs, StandsAt}
use Rattle.script_run.specs.Scripts.{Ends, ActorReplies, Opens, Refuses, actor_in, missing, opened_more}
use Rattle.script_run.proofs.Holding.{keeps_then}
use Rattle.script_run.proofs.Replying.{left-more, turned-away}
use Rattle.script_run.proofs.Telling.{opened_replies, refused_replies}
use Rattle.script_run.proofs.one_line.finish.Goals as goal

pub returns-in-Err : goal.returns-in-Err
returns-in-Err g c =
    let store = c.open.new.store in
    let disk = c.args.disk.now in
    let told = c.refused.result in
    let r = c.in-Err.refusal in
    record {
      replied = λ honest first s at same.
          subst (λ (l : Kept). IsReplied g.D.Disk first s store disk (FinishLine c.args.who) l told) same
          (turned-away g.D.Disk first s store disk (λ later v. Ends (actor_in c.args.who) s told.formats told.reply later v) (actor_in c.args.who) r told.reply c.refused.ensures.reply
          (subst (λ (a : Actor). OpensAs a s.world (Err r) (λ v. StandsAt g.D.Disk first store disk s v)) c.actor_in-actor.ensures (c.in-Err.ensures.opens disk honest first s s.world at)));
      told = refused_replies g.D.Disk c.args.store.now store disk disk r told c.in-Err.ensures.refused c.refused.ensures.reply (c.in-Err.ensures.told disk);
      keeps = c.in-Err.ensures.keeps disk;
    }

pub returns-in-Ok : goal.returns-in-Ok
returns-in-Ok g c =
    let store = c.open.new.store in
    let disk = c.args.disk.now in
    let store' = c.end.new.store in
    let disk' = c.end.new.disk in
    let told = c.end.result in
    record {
      replied = λ honest first s at same.
          let v = opened_more (missing c.actor_in-actor.result s.world) s.world in
          let x = c.end.ensures.replied honest first s v (c.in-Ok.ensures.opens disk honest first s s.world at) same in
          subst (λ (l : Kept). IsReplied g.D.Disk first s store' disk' (FinishLine c.args.who) l told) same
          (left-more g.D.Disk first s store' disk' s.kept (λ later. Ends c.actor_in-actor.result s told.formats told.reply later v) (λ later. ActorReplies (FinishLine c.args.who) s told.formats told.reply later)
          (λ later is. subst (λ (a : Actor). Opens a s.world (λ v. Ends a s told.formats told.reply later v) (λ but v. Refuses but s v told.reply later)) c.actor_in-actor.ensures (inl is)) x);
      told = opened_replies g.D.Disk c.args.store.now store store' disk disk' told (c.in-Ok.ensures.told disk) c.end.ensures.told;
      keeps = keeps_then g.D.Disk c.args.store.now store store' disk disk disk' (c.in-Ok.ensures.keeps disk) c.end.ensures.keeps;
    }
