use Rattle.std.proofs.Common.{refl}
use Rattle.engine_store.proofs.GoingOut.{none_out}
use Rattle.engine_store.proofs.store.Store.make_way.Goals as goal

pub returns-else-self : goal.returns-else-self
returns-else-self g c = none_out g.D.Disk c.args.self.now c.args.self.now refl refl refl refl
