use Rattle.std.proofs.Common.{◌≡◌, length, ap, arith}
use Rattle.extent_list.specs.Space.{Space}
use Rattle.extent_list.proofs.SpaceLemmas.{free_before_end}
use Rattle.extent_list.proofs.extents.Extents.end.Goals as goal

pub returns-clause-free : goal.returns-clause-free
returns-clause-free c b free =
    let same : length c.self.inside.units.items ≡ length c.args.self.now.units = ap (λ (s : Space). length s.units) c.self.view_is in
    (free.0, omega (arith, free_before_end c.args.self.now b free, same, c.len.ensures))
