use Rattle.std.proofs.Common.{◌∙◌, refl, ap, subst, sym, inl}
use Rattle.wt_calls.specs.declared.call.Call.{Call}
use Rattle.engine.specs.declared.step.Actor.{Actor}
use Rattle.engine.specs.declared.step.Step.TheVariants.{Start}
use Rattle.engine.specs.Runs.{MayStep, StepFits}
use Rattle.script_run.specs.declared.kept.Kept.{Kept}
use Rattle.script_run.specs.declared.told.Told.{Told}
use Rattle.engine_store.specs.Progress.{place_in}
use Rattle.engine_store.specs.Devices.{device_of}
use Rattle.script_run.specs.Runs.{IsBegun}
use Rattle.script_run.specs.Scripts.{Begins, CauseOn, caller, kept_after}
use Rattle.script_run.proofs.Holding.{keeps_none}
use Rattle.script_run.proofs.Replying.{call-fits, is-read, short, started, stepped}
use Rattle.script_run.proofs.Telling.{refused_replies, same_told, step_replies}
use Rattle.script_run.proofs.one_line.begin.Goals as goal

pub step_beside-reply-requires : goal.step_beside-reply-requires
step_beside-reply-requires g c =
    subst (λ (m : Call). StepFits c.args.store.now.engine (Start m)) (sym c.in-Ok.ensures) (call-fits c.args.store.now.engine c.formats_in-formats.result c.args.call c.requires.built c.requires.there c.actors.ensures.systems)

pub returns-in-Err : goal.returns-in-Err
returns-in-Err g c =
    let store = c.args.store.now in
    let disk = c.args.disk.now in
    record {
      replied = λ honest first s w at same.
          subst (λ (l : Kept). IsBegun g.D.Disk first s store disk c.args.call w l c.refused.result) same
          (short g.D.Disk first s store disk (λ later. Begins c.args.call s c.refused.result.formats c.refused.result.reply later w) w c.refused.result.reply c.refused.ensures.reply at);
      told = refused_replies g.D.Disk store store disk disk _ c.refused.result (inl refl) c.refused.ensures.reply (same_told g.D.Disk store disk);
      keeps = keeps_none g.D.Disk store disk;
    }

pub returns-in-Ok : goal.returns-in-Ok
returns-in-Ok g c =
    let store = c.args.store.now in
    let disk = c.args.disk.now in
    let store' = c.step_beside-reply.new.self in
    let disk' = c.step_beside-reply.new.disk in
    let t = c.step_beside-reply.result in
    let formats = c.formats_in-formats.result in
    let told : Told = record { reply = c.in_script.result; formats = formats } in
    record {
      replied = λ honest first s w at same.
          let x = c.step_beside-reply.ensures.stepped honest first w s.first s.made at.held in
          let went = stepped g.D.Disk first s w store store' disk disk' at c.args.kept.now.evicting (ap (λ (k : Kept). k.evicting) same) _ t x in
          record {
            later = record s { world = x.later; device = device_of g.D.Disk disk'; kept = kept_after t (caller c.args.call) formats s.kept };
            is = inl (record {
              formats_are = c.formats_in-formats.ensures _ at.held.stands;
              t = t;
              next = x.later;
              device = device_of g.D.Disk disk';
              read = is-read g.D.Disk first s w store store' disk disk' at c.step_beside-reply.ensures.keeps.looked;
              stepped = subst (λ (m : Call). MayStep w (Start m) t x.later) c.in-Ok.ensures (started (CauseOn s (device_of g.D.Disk disk') w) w _ t x.later went);
              told = c.in_script.ensures;
              leaves = refl;
            });
            held = x.held;
            device = refl;
            frames = c.step_beside-reply.ensures.keeps.frames ∙ at.frames;
            progress = ap place_in c.step_beside-reply.ensures.keeps.running ∙ at.progress;
            start = refl;
            kept_is = sym (c.keep_after.ensures ∙ ap (λ (a : Actor). kept_after t a formats c.args.kept.now) c.caller-who.ensures ∙ ap (λ (l : Kept). kept_after t (caller c.args.call) formats l) (sym same));
          };
      told = step_replies g.D.Disk store store' disk disk' t told c.in_script.ensures c.step_beside-reply.ensures.told;
      keeps = c.step_beside-reply.ensures.keeps;
    }
