use Rattle.std.proofs.Common.{◌≡◌, ℕ, List, sym, subst}
use Rattle.std.specs.Prelude.{None, OnOk}
use Rattle.row_page.specs.Rows.{Row}
use Rattle.tree_dir.specs.Leaves.{leaves_with}
use Rattle.engine_world.specs.GivingWay.{IsIdle, IsShelved}
use Rattle.engine_world.specs.Stands.{Engine, Stands}
use Rattle.engine_world.specs.Worlds.{World}
use Rattle.engine.specs.Frames.{HasGivenWay}
use Rattle.engine.proofs.local.Local.give_way.Goals as goal

pub give_way-requires-clause-idle : goal.give_way-requires-clause-idle
give_way-requires-clause-idle c = subst (λ (e : Engine). IsIdle e) (sym c.self.view_is) c.requires.idle

pub returns-clause-stands : goal.returns-clause-stands
returns-clause-stands c = subst (λ (e : Engine). OnOk c.give_way.result ((way : HasGivenWay e c.give_way.new.self c.args.leaf c.args.entries.items) (w : World) (shelf : ℕ → List Row) → Stands e w → w.machine.checkpoint ≡ None
    → IsShelved w.machine e.hub.dir c.give_way.new.self.hub.dir (leaves_with way.leaf.table way.ids c.args.entries.items) w.shelf shelf → Stands c.give_way.new.self (record w { shelf = shelf }))) c.self.view_is c.give_way.ensures.stands
