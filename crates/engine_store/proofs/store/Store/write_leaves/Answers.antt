use Rattle.std.specs.Prelude.{Err, Ok}
use Rattle.engine_store.proofs.WritingOut.{joined, none_alike, none_wrote, then_alike, then_wrote}
use Rattle.engine_store.proofs.store.Store.write_leaves.Goals as goal
use Rattle.engine_store.proofs.store.Store.write_leaves.Goals.{in-Some+in-Ok, in_default}

pub returns-then-is_some-clause-writes : goal.returns-then-is_some-clause-writes
returns-then-is_some-clause-writes g c = none_wrote g.D.Disk c.args.self.now c.args.disk.now

pub returns-then-is_some-clause-alike : goal.returns-then-is_some-clause-alike
returns-then-is_some-clause-alike g c = none_alike g.D.Disk c.args.self.now c.args.disk.now

pub returns-then-not-is_idle-clause-writes : goal.returns-then-not-is_idle-clause-writes
returns-then-not-is_idle-clause-writes g c = none_wrote g.D.Disk c.args.self.now c.args.disk.now

pub returns-then-not-is_idle-clause-alike : goal.returns-then-not-is_idle-clause-alike
returns-then-not-is_idle-clause-alike g c = none_alike g.D.Disk c.args.self.now c.args.disk.now

pub loop-frame-init : goal.loop-frame-init
loop-frame-init g c = record { writes = none_wrote g.D.Disk c.args.self.now c.args.disk.now; alike = none_alike g.D.Disk c.args.self.now c.args.disk.now }

pub loop-frame-preserved : goal.loop-frame-preserved
loop-frame-preserved g c =
    let D = g.D.Disk in
    let begun = c.args.self.now in
    let first = c.args.disk.now in
    let before = c.loop-frame.self in
    let mid = c.loop-frame.disk in
    let so_far = c.loop-frame.invariant in
    elim c.match-changed_in.branch [
      | in-Some+in-Ok w ↦
          let now = w.write_leaf.new.self in
          let last = w.write_leaf.new.disk in
          joined D begun first now c.match-changed_in.self last c.match-changed_in.disk w.self-is w.disk-is
          (then_wrote D begun before now first mid last (Ok tt) so_far.alike.disk.same so_far.writes w.in-Ok.ensures.writes) (then_alike D begun before now first mid last (Ok tt) so_far.alike w.in-Ok.ensures.alike)
      | in_default w ↦ joined D begun first before c.match-changed_in.self mid c.match-changed_in.disk w.self-is w.disk-is so_far.writes so_far.alike
    ]

pub returns-in-Err-clause-writes : goal.returns-in-Err-clause-writes
returns-in-Err-clause-writes g c =
    let so_far = c.loop-frame.invariant in
    then_wrote g.D.Disk c.args.self.now c.loop-frame.self c.write_leaf.new.self c.args.disk.now c.loop-frame.disk c.write_leaf.new.disk (Err c.in-Err.refusal) so_far.alike.disk.same so_far.writes c.in-Err.ensures.writes

pub returns-in-Err-clause-alike : goal.returns-in-Err-clause-alike
returns-in-Err-clause-alike g c =
    then_alike g.D.Disk c.args.self.now c.loop-frame.self c.write_leaf.new.self c.args.disk.now c.loop-frame.disk c.write_leaf.new.disk (Err c.in-Err.refusal) c.loop-frame.invariant.alike c.in-Err.ensures.alike
