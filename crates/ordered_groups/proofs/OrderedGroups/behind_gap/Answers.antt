use Rattle.std.proofs.Common.{◌+◌, ◌<◌, ap, arith, length, []}
use Rattle.std.proofs.lemmas.List.{get_or_past}
use Rattle.ordered_groups.proofs.Entries.{before_all, before_more}
use Rattle.ordered_groups.proofs.OrderedGroups.behind_gap.Goals as goal

pub returns-then-group-count : goal.returns-then-group-count
returns-then-group-count g c =
    let gs = c.args.self.now in
    let p = c.args.gap in
    let b = before_all gs p.group (omega (arith, c.group_count-count.ensures.value, c.if-group-count.true)) in
    let e = ap length (get_or_past gs p.group [] (omega (arith, c.group_count-count.ensures.value, c.if-group-count.true))) in
    omega (arith, b, e, c.requires.1)

pub returns-then-group-count-2 : goal.returns-then-group-count-2
returns-then-group-count-2 g c =
    let gs = c.args.self.now in
    let p = c.args.gap in
    let within : p.group < length gs = omega (arith, c.group_count-count.ensures.value, c.if-group-count-2.true) in
    let m = before_more gs p.group within in
    let f = c.group_count-count.ensures.sound (p.group + 1) [] (omega (arith, c.group_count-count.ensures.value, c.if-group-count-2.true)) in
    (f.0, omega (arith, m, c.group_len-len.ensures.value, c.if-at-len.false, c.requires.1))

pub returns-else-group-count-2 : goal.returns-else-group-count-2
returns-else-group-count-2 g c =
    let gs = c.args.self.now in
    let p = c.args.gap in
    let within : p.group < length gs = omega (arith, c.group_count-count.ensures.value, c.requires.0, c.if-group-count.false) in
    let m = before_more gs p.group within in
    let b = before_all gs (p.group + 1) (omega (arith, c.group_count-count.ensures.value, c.if-group-count-2.false)) in
    omega (arith, m, b, c.group_len-len.ensures.value, c.if-at-len.false, c.requires.1)
