use Rattle.std.proofs.Common.{refl, subst}
use Rattle.tree_dir.specs.Leaves.{IsDirectory}
use Rattle.engine_store.proofs.GoingOut.{gone_or_not, none_out}
use Rattle.engine_store.proofs.store.Store.let_out.Goals as goal

pub returns-in_default : goal.returns-in_default
returns-in_default g c = none_out g.D.Disk c.args.self.now c.args.self.now refl refl refl refl

pub returns-then-is_whole : goal.returns-then-is_whole
returns-then-is_whole g c = gone_or_not g.D.Disk c.grounds_let_go.ensures c.args.self.now c.go_out.new.self c.in-Some.leaf (c.is_whole.ensures c.if-is_whole.true) (subst IsDirectory c.leaves.ensures.are c.leaves.ensures.stand) c.go_out.ensures.stands c.go_out.result c.go_out.ensures.out c.go_out.ensures.not c.go_out.ensures.kept

pub returns-else-is_whole : goal.returns-else-is_whole
returns-else-is_whole g c = none_out g.D.Disk c.args.self.now c.args.self.now refl refl refl refl
