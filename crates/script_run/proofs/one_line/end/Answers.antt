use Rattle.std.proofs.Common.{◌∙◌, refl, ap, sym}
use Rattle.script_text.specs.declared.replies.Reply.TheVariants.{Answered}
use Rattle.script_run.specs.declared.kept.Kept.{Kept}
use Rattle.script_run.specs.declared.told.Told.{Told}
use Rattle.engine_store.specs.Progress.{place_in}
use Rattle.engine_store.specs.Devices.{device_of}
use Rattle.script_run.specs.Scripts.{kept_formats}
use Rattle.script_run.proofs.Replying.{actor-fits, finished, is-read}
use Rattle.script_run.proofs.Telling.{answer_replies}
use Rattle.script_run.proofs.one_line.end.Goals as goal

pub finish_beside-requires : goal.finish_beside-requires
finish_beside-requires g c = actor-fits c.args.store.now.engine c.args.who c.requires c.actors.ensures.systems

pub returns : goal.returns
returns g c =
    let store = c.args.store.now in
    let disk = c.args.disk.now in
    let store' = c.finish_beside.new.self in
    let disk' = c.finish_beside.new.disk in
    let told : Told = record { reply = Answered c.finish_beside.result; formats = c.formats_of-formats.result } in
    record {
      replied = λ honest first s w at same.
          let x = c.finish_beside.ensures.finished honest first w s.first s.made at.held in
          record {
            later = record s { world = x.later; device = device_of g.D.Disk disk' };
            is = record {
              formats_are = c.formats_of-formats.ensures ∙ ap (kept_formats c.args.who) (sym same);
              answer = c.finish_beside.result;
              next = x.later;
              device = device_of g.D.Disk disk';
              read = is-read g.D.Disk first s w store store' disk disk' at c.finish_beside.ensures.keeps.looked;
              ended = finished g.D.Disk first s w store store' disk disk' at c.args.kept.now.evicting (ap (λ (k : Kept). k.evicting) same) c.args.who c.finish_beside.result x;
              told = refl;
              leaves = refl;
            };
            held = x.held;
            device = refl;
            frames = c.finish_beside.ensures.keeps.frames ∙ at.frames;
            progress = ap place_in c.finish_beside.ensures.keeps.running ∙ at.progress;
            start = refl;
            kept_is = refl;
          };
      told = answer_replies g.D.Disk store store' disk disk' c.finish_beside.result told refl c.finish_beside.ensures.told;
      keeps = c.finish_beside.ensures.keeps;
    }
