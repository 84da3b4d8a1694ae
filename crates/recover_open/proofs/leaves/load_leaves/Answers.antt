use Rattle.device_leaf.proofs.Opens.{ok_map, err_map}
use Rattle.recover_open.proofs.OneLeaf.{only_rows, only_refused}
use Rattle.recover_open.proofs.leaves.load_leaves.Goals as goal

pub returns-in-Some-clause-ok : goal.returns-in-Some-clause-ok
returns-in-Some-clause-ok g c h = ok_map c.load.result (c.load.ensures.ok h) (λ rows leaf. only_rows (g.D.Disk.seen c.args.disk.now) c.args.entries.now c.in-Some.link rows c.in-Some.ensures leaf)

pub returns-in-Some-clause-err : goal.returns-in-Some-clause-err
returns-in-Some-clause-err g c = err_map c.load.result c.load.ensures.err (λ r why. only_refused _ _ (g.D.Disk.seen c.args.disk.now) c.args.entries.now c.in-Some.link r c.in-Some.ensures why)
