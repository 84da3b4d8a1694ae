use Rattle.std.proofs.Common.{◌∙◌, refl, subst, sym, inl, ap}
use Rattle.wt_calls.specs.declared.call.Call.{Call}
use Rattle.script_text.specs.declared.replies.Reply.TheVariants.{Answered}
use Rattle.script_run.specs.declared.told.Told.{Told}
use Rattle.engine_store.specs.Progress.{place_in}
use Rattle.engine_store.specs.Calls.{MayAnswerOn}
use Rattle.engine_store.specs.Devices.{device_of}
use Rattle.script_run.specs.Runs.{IsTaken}
use Rattle.script_run.specs.Scripts.{Answers, CauseOn}
use Rattle.script_run.proofs.Holding.{keeps_none}
use Rattle.script_run.proofs.Replying.{call-taken, is-read, short}
use Rattle.script_run.proofs.Telling.{answer_replies, refused_replies, same_told}
use Rattle.script_run.proofs.one_line.answer.Goals as goal

pub answer_to-requires : goal.answer_to-requires
answer_to-requires g c = subst (λ (m : Call). IsTaken m c.args.store.now.engine) (sym c.in-Ok.ensures) (call-taken c.args.store.now.engine c.formats_in-formats.result c.args.call c.requires.built c.requires.there)

pub returns-in-Err : goal.returns-in-Err
returns-in-Err g c =
    let store = c.args.store.now in
    let disk = c.args.disk.now in
    record {
      replied = λ honest first s w at same. short g.D.Disk first s store disk (λ later. Answers c.args.call s c.refused.result.formats c.refused.result.reply later w) w c.refused.result.reply c.refused.ensures.reply at;
      told = refused_replies g.D.Disk store store disk disk _ c.refused.result (inl refl) c.refused.ensures.reply (same_told g.D.Disk store disk);
      keeps = keeps_none g.D.Disk store disk;
    }

pub returns-in-Ok : goal.returns-in-Ok
returns-in-Ok g c =
    let store = c.args.store.now in
    let disk = c.args.disk.now in
    let store' = c.answer_to.new.store in
    let disk' = c.answer_to.new.disk in
    let told : Told = record { reply = Answered c.answer_to.result; formats = c.formats_in-formats.result } in
    record {
      replied = λ honest first s w at same.
          let x = c.answer_to.ensures.replied honest first s w at same in
          record {
            later = record s { world = x.next; device = device_of g.D.Disk disk' };
            is = inl (record {
              formats_are = c.formats_in-formats.ensures _ at.held.stands;
              answer = c.answer_to.result;
              next = x.next;
              device = device_of g.D.Disk disk';
              read = is-read g.D.Disk first s w store store' disk disk' at c.answer_to.ensures.keeps.looked;
              answered = subst (λ (m : Call). MayAnswerOn (CauseOn s (device_of g.D.Disk disk') w) w m c.answer_to.result x.next) c.in-Ok.ensures x.answered;
              told = refl;
              leaves = refl;
            });
            held = x.held;
            device = refl;
            frames = c.answer_to.ensures.keeps.frames ∙ at.frames;
            progress = ap place_in c.answer_to.ensures.keeps.running ∙ at.progress;
            start = refl;
            kept_is = refl;
          };
      told = answer_replies g.D.Disk store store' disk disk' c.answer_to.result told refl c.answer_to.ensures.told;
      keeps = c.answer_to.ensures.keeps;
    }
