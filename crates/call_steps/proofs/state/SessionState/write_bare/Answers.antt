use Rattle.std.proofs.Common.{◌∙◌, refl, sym}
use Rattle.call_steps.specs.declared.looks.Found.TheVariants as found
use Rattle.call_steps.proofs.SlotWrites.{by_found, in_row}
use Rattle.call_steps.proofs.state.SessionState.write_bare.Goals as goal

pub returns-in-Conflict : goal.returns-in-Conflict
returns-in-Conflict c =
    let leaf = c.args.leaf.now in
    let s = c.args.self.now in
    let f = found.Conflict c.in-Conflict.name in
    by_found c.args.view.now c.args.call c.args.target c.args.demand c.args.update.version.change leaf s leaf c.conflict.new.self f
    (in_row c.args.view.now c.args.demand s.key leaf f c.requires.bare (sym c.requires.found ∙ c.in-Conflict.is)) (refl, c.conflict.ensures)

pub returns-in-Unmet : goal.returns-in-Unmet
returns-in-Unmet c =
    let leaf = c.args.leaf.now in
    let s = c.args.self.now in
    let f = found.Unmet c.in-Unmet.refusal in
    by_found c.args.view.now c.args.call c.args.target c.args.demand c.args.update.version.change leaf s leaf c.clear.new.self f
    (in_row c.args.view.now c.args.demand s.key leaf f c.requires.bare (sym c.requires.found ∙ c.in-Unmet.is)) (refl, c.clear.ensures)
