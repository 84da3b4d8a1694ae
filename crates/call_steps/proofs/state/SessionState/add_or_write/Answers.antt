use Rattle.std.proofs.Common.{subst}
use Rattle.leaf_chains.specs.declared.added.Added.{Added}
use Rattle.call_steps.specs.SlotLooks.{IsAddedTo, IsNoted}
use Rattle.call_steps.proofs.SlotWrites.{added_new}
use Rattle.call_steps.proofs.state.SessionState.add_or_write.Goals as goal

pub returns-in-Ok-New : goal.returns-in-Ok-New
returns-in-Ok-New c =
    let s = c.args.self.now in
    let leaf = c.args.leaf.now in
    let added = subst (λ (a : Added). IsAddedTo s.key c.args.update leaf c.add.new.leaf a) c.in-Ok-New.field-0-is c.in-Ok-New.ensures.added in
    let noted = subst (λ (a : Added). IsNoted c.args.target.frame s c.add.new.self a) c.in-Ok-New.field-0-is c.in-Ok-New.ensures.noted in
    added_new c.args.view.now c.args.call c.args.target c.args.demand c.args.update leaf c.add.new.leaf s c.add.new.self c.clear.new.self c.in-Ok-New.field-0-0 c.requires.free.0
    c.requires.free.1 c.requires.own added.0 added.1 added.2 noted c.clear.ensures
