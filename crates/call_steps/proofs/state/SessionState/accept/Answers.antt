use Rattle.call_steps.proofs.SlotWrites.{accepted}
use Rattle.call_steps.proofs.state.SessionState.accept.Goals as goal

pub returns-in-Ok : goal.returns-in-Ok
returns-in-Ok c =
    accepted c.args.name c.args.call c.args.target c.args.update c.args.is_led c.args.leaf.now c.install.new.leaf c.args.self.now c.install.new.self c.clear.new.self c.args.slot
    c.requires.own c.requires.slot c.requires.led c.in-Ok.ensures.leaf c.in-Ok.ensures.state c.clear.ensures
