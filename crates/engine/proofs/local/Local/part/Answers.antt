use Rattle.std.proofs.Common.{ℕ, List, subst}
use Rattle.std.specs.Prelude.{IfOk, IsTrue}
use Rattle.row_page.specs.Rows.{Row}
use Rattle.tree_dir.specs.Leaves.{leaves_with}
use Rattle.engine_world.specs.Parting.{IsPartedTo}
use Rattle.engine_world.specs.Stands.{Engine, Stands}
use Rattle.engine_world.specs.Worlds.{Records, World}
use Rattle.engine.specs.Partings.{HasParted}
use Rattle.engine.proofs.local.Local.part.Goals as goal

pub returns-clause-stands : goal.returns-clause-stands
returns-clause-stands c = subst (λ (e : Engine). IfOk c.part.result (λ parted. IsTrue parted → (p : HasParted e c.part.new.self c.args.leaf c.args.entries.items) (w : World) (shelf : ℕ → List Row) (records : Records) → Stands e w
    → IsPartedTo w e.hub.dir c.part.new.self.hub.dir p.way.leaf p.may.may.frame (leaves_with p.way.leaf.table p.way.ids c.args.entries.items) shelf records → Stands c.part.new.self (record w { shelf = shelf; records = records }))) c.self.view_is c.part.ensures.stands
