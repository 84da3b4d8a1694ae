use Rattle.std.proofs.Common.{◌∙◌, refl, ap, sym}
use Rattle.engine.specs.declared.step.Step.TheVariants.{Go}
use Rattle.script_run.specs.declared.kept.Kept.{Kept}
use Rattle.script_run.specs.declared.told.Told.{Told}
use Rattle.engine_store.specs.Progress.{place_in}
use Rattle.engine_store.specs.Devices.{device_of}
use Rattle.script_run.specs.Scripts.{kept_formats}
use Rattle.script_run.proofs.Replying.{actor-fits, is-read, stepped}
use Rattle.script_run.proofs.Telling.{step_replies}
use Rattle.script_run.proofs.one_line.go.Goals as goal

pub step_beside-requires : goal.step_beside-requires
step_beside-requires g c = actor-fits c.args.store.now.engine c.args.who c.requires c.actors.ensures.systems

pub returns : goal.returns
returns g c =
    let store = c.args.store.now in
    let disk = c.args.disk.now in
    let store' = c.step_beside.new.self in
    let disk' = c.step_beside.new.disk in
    let told : Told = record { reply = c.in_script.result; formats = c.formats_of-formats.result } in
    record {
      replied = λ honest first s w at same.
          let x = c.step_beside.ensures.stepped honest first w s.first s.made at.held in
          record {
            later = record s { world = x.later; device = device_of g.D.Disk disk' };
            is = record {
              formats_are = c.formats_of-formats.ensures ∙ ap (kept_formats c.args.who) (sym same);
              t = c.step_beside.result;
              next = x.later;
              device = device_of g.D.Disk disk';
              read = is-read g.D.Disk first s w store store' disk disk' at c.step_beside.ensures.keeps.looked;
              stepped = stepped g.D.Disk first s w store store' disk disk' at c.args.kept.now.evicting (ap (λ (k : Kept). k.evicting) same) (Go c.args.who) c.step_beside.result x;
              told = c.in_script.ensures;
              leaves = refl;
            };
            held = x.held;
            device = refl;
            frames = c.step_beside.ensures.keeps.frames ∙ at.frames;
            progress = ap place_in c.step_beside.ensures.keeps.running ∙ at.progress;
            start = refl;
            kept_is = refl;
          };
      told = step_replies g.D.Disk store store' disk disk' c.step_beside.result told c.in_script.ensures c.step_beside.ensures.told;
      keeps = c.step_beside.ensures.keeps;
    }
