use Rattle.std.proofs.Common.{refl}
use Rattle.engine_store.proofs.GoingOut.{none_out, out_then}
use Rattle.engine_store.proofs.store.Store.next_out.Goals as goal

pub returns-then-had_leaf : goal.returns-then-had_leaf
returns-then-had_leaf g c = out_then g.D.Disk c.args.self.now _ c.let_out.new.self (none_out g.D.Disk c.args.self.now _ refl refl refl refl) c.let_out.ensures

pub returns-else-had_leaf : goal.returns-else-had_leaf
returns-else-had_leaf g c = out_then g.D.Disk c.args.self.now _ c.let_out.new.self (none_out g.D.Disk c.args.self.now _ refl refl refl refl) c.let_out.ensures
