use Rattle.std.proofs.Common.{◌≡◌, ◌+◌, ◌-◌, ap, arith}
use Rattle.ordered_groups.specs.Groups.{before}
use Rattle.ordered_groups.proofs.Entries.{before_more}
use Rattle.ordered_groups.proofs.OrderedGroups.before_gap.Goals as goal

pub returns : goal.returns
returns g c =
    let gs = c.args.self.now in
    let p = c.args.gap in
    let e : p.group - 1 + 1 ≡ p.group = omega (arith, c.if-group-eq0.false) in
    let m = before_more gs (p.group - 1) (omega (arith, c.requires.0, e)) in
    let b = ap (λ k. before gs k) e in
    (omega (arith, c.group_len-len.ensures.value, c.group_len-len.ensures.some), omega (arith, m, b, c.group_len-len.ensures.value, c.group_len-len.ensures.some, c.if-at-gt0.false))
