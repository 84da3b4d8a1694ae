use Rattle.std.proofs.Common.{refl}
use Rattle.engine.proofs.PartedLeaves.{framed-there, parted-stands}
use Rattle.engine.proofs.parts.Parts.part.Goals as goal

pub replace_leaf-requires-clause-framed : goal.replace_leaf-requires-clause-framed
replace_leaf-requires-clause-framed c = let may = c.in_default.ensures.none refl in framed-there c.args.self.now c.args.leaf may.may

pub returns-clause-parted : goal.returns-clause-parted
returns-clause-parted c = λ is. record { may = c.in_default.ensures.none refl; way = c.in_ok-replace_leaf.ensures.given }

pub returns-clause-stands : goal.returns-clause-stands
returns-clause-stands c = λ is. parted-stands c.leaves_part.ensures c.args.self.now c.replace_leaf.new.self c.args.leaf c.args.entries.items c.requires.place c.in_ok-replace_leaf.ensures.now
