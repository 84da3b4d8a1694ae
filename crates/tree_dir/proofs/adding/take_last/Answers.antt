use Rattle.std.proofs.Common.{◌-◌, arith}
use Rattle.ordered_groups.specs.Groups.{entries}
use Rattle.ordered_groups.specs.Places.{rank}
use Rattle.tree_dir.specs.Order.{IsWay}
use Rattle.tree_dir.proofs.Index.{place-within}
use Rattle.tree_dir.proofs.Removing.{way-removed}
use Rattle.tree_dir.proofs.adding.take_last.Goals as goal
use Rattle.tree_dir.proofs.adding.take_last.Goals.{in-Some, in-None}

pub returns-clause-way : goal.returns-clause-way
returns-clause-way c =
    let slots = c.args.slots.now.items in
    let gs = c.args.order.now in
    let after = c.truncate.new.self.items in
    elim c.match-place_in.branch as (λ _. IsWay after (entries c.match-place_in.order)) [
      | in-None w ↦ absurd w.in-None.ensures
      | in-Some w ↦
          let r = rank gs w.in-Some.place in
          let way = way-removed slots (entries gs) r (c.len-last.result - 1) c.requires.way (place-within gs w.in-Some.place w.in-Some.ensures.0) w.in-Some.ensures.1 (omega arith) in
          rw (c.truncate.ensures.items, w.order-is, w.remove.ensures.after) way
    ]
