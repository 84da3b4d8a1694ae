use Rattle.engine_tests.proofs.Bases.{only-of}
use Rattle.engine_tests.proofs.tests.one_leaf.Goals as goal

pub returns : goal.returns
returns c = only-of c.new-dir.result c.add_table.new.self c.args.table c.push_reserved.new.self.items c.new-dir.ensures c.in_ok-add_table.ensures.added
