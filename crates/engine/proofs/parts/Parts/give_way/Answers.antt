use Rattle.engine.proofs.GivingWay.{way-stands-if}
use Rattle.engine.proofs.parts.Parts.give_way.Goals as goal

pub returns-clause-stands : goal.returns-clause-stands
returns-clause-stands c = way-stands-if c.leaves_give_way.ensures c.args.self.now c.replace_leaf.new.self c.args.leaf c.args.entries.items c.requires.idle c.requires.place c.replace_leaf.result c.replace_leaf.ensures.now
