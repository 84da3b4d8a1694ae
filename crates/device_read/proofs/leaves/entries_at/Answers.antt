use Rattle.std.proofs.Common.{◌∙◌, sym}
use Rattle.device_read.proofs.LeafPlaces.{entries_none, entries_some}
use Rattle.device_read.proofs.leaves.entries_at.Goals as goal

pub returns-in-Some : goal.returns-in-Some
returns-in-Some c = c.deref.ensures.value ∙ sym (entries_some c.args.uppers.now c.args.place c.in-Some.upper.now c.in-Some.ensures.lookup.3.0 c.in-Some.ensures.lookup.1)

pub returns-in-None : goal.returns-in-None
returns-in-None c = sym (entries_none c.args.uppers.now c.args.place c.in-None.ensures.lookup.3)
