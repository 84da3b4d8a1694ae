use Rattle.std.proofs.Common.{arith}
use Rattle.ordered_groups.proofs.Entries.{group_in}
use Rattle.ordered_groups.proofs.OrderedGroups.prev.Goals as goal

pub before_gap-requires : goal.before_gap-requires
before_gap-requires g c =
    let within = group_in c.args.self.now c.args.place.group c.args.place.at c.requires in
    (omega (arith, within), omega (arith, c.requires))
