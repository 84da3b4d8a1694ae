use Rattle.std.proofs.Common.{◌≡◌, ◌⊎◌, ℕ, List, Some, subst, sym}
use Rattle.std.specs.Prelude.{IfOk, slice_get}
use Rattle.std.specs.List.{Contains}
use Rattle.kv_model.specs.History.{Table}
use Rattle.tree_dir.specs.declared.leaf.Leaf.{Leaf}
use Rattle.tree_dir.specs.Leaves.{Directory}
use Rattle.ckpt_step.specs.Rooms.{known_in}
use Rattle.engine_store.specs.Marked.{AreMarked, IsUnmarked, KeepMarked}
use Rattle.engine_store.proofs.MarkedParts.{kept_if}
use Rattle.engine_store.proofs.marked.keep_marked.Goals as goal

pub returns : goal.returns
returns c =
    let hub = c.args.engine.now.hub in
    let known = hub.tables.tables in
    let marks = c.args.marks.now in
    let ids = c.deref.result.now in
    let marked = subst (λ (d : Directory). (i : ℕ) (t : Table) (l : Leaf) → slice_get known i ≡ Some t → Contains d.leaves l → l.table ≡ t.number → Contains ids l.id ⊎ IsUnmarked marks l) (sym c.leaves.ensures.are)
    (subst (λ (xs : List ℕ). AreMarked hub marks xs) (sym c.deref.ensures.value) c.in_ok-marked.ensures) in
    subst (λ (d : Directory). IfOk c.own_parts.result (λ parts. KeepMarked known d.leaves marks (known_in parts))) c.leaves.ensures.are
    (kept_if known c.leaves.result.now.leaves marks ids c.own_parts.result marked c.own_parts.ensures.own c.own_parts.ensures.all)
