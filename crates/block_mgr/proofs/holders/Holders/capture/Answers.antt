use Rattle.std.proofs.Common.{◌≤◌, true, List, refl, sym, subst}
use Rattle.block_mgr.specs.declared.cell.Cell.{Cell}
use Rattle.block_mgr.specs.Cells.{Holdings, IsLive, AreUnits, cell_at}
use Rattle.block_mgr.proofs.HolderLemmas.{is_there, used_running}
use Rattle.block_mgr.proofs.UnitLemmas.{same_block, live_some}
use Rattle.block_mgr.proofs.holders.Holders.capture.Goals as goal

pub set_running-requires-clause-within : goal.set_running-requires-clause-within
set_running-requires-clause-within c =
    let cells = c.self.inside.cells.items in
    let live : IsLive cells c.args.unit = subst (λ (b : Holdings). IsLive b.cells c.args.unit) (sym c.self.view_is) c.requires in
    is_there cells c.args.unit (live_some cells c.self.inside.space c.args.unit c.self.invariant.0 live)

pub invariant_of-self : goal.invariant_of-self
invariant_of-self c =
    let cells = c.self.inside.cells.items in
    let live : IsLive cells c.args.unit = subst (λ (b : Holdings). IsLive b.cells c.args.unit) (sym c.self.view_is) c.requires in
    let more : 1 ≤ (cell_at cells c.args.unit).units = live_some cells c.self.inside.space c.args.unit c.self.invariant.0 live in
    let next : Cell = record (cell_at cells c.args.unit) { is_running = true } in
    let units = same_block cells c.self.inside.space c.args.unit c.self.invariant.0 (is_there cells c.args.unit more) next refl more (used_running next refl) in
    (subst (λ (l : List Cell). AreUnits l c.self.inside.space) (sym c.set_running.ensures.cells) units, c.set_running.ensures.listed)
