use Rattle.std.proofs.Common.{◌≡◌, true, false, set, ℕ, List, vec_capacity, refl, sym, ◌∙◌, ap, subst}
use Rattle.block_mgr.specs.declared.cell.Cell.{Cell}
use Rattle.block_mgr.specs.Cells.{cell_at}
use Rattle.block_mgr.specs.Marks.{Listed, is_marked}
use Rattle.block_mgr.proofs.MarkLemmas.{room_more, listed_push, listed_set}
use Rattle.block_mgr.proofs.marks.set_running.Goals as goal

pub returns-then-has_mark-clause-listed : goal.returns-then-has_mark-clause-listed
returns-then-has_mark-clause-listed c =
    let cells = c.args.cells.now.items in
    let marked : is_marked (cell_at cells c.args.unit) ≡ true = ap (λ (l : List Cell). is_marked (cell_at l c.args.unit)) (sym c.deref.ensures.value) ∙ (sym c.has_mark.ensures ∙ c.if-has_mark.true) in
    let next : Cell = record (cell_at cells c.args.unit) { is_running = true } in
    subst (λ (l : List Cell). Listed l c.args.marked.now.items (vec_capacity c.args.marked.now)) (sym c.run.ensures) (listed_set cells c.args.marked.now.items _ c.requires.listed c.args.unit next c.requires.within (sym marked))

pub add-requires : goal.add-requires
add-requires c =
    let cells = c.args.cells.now.items in
    let unmarked : is_marked (cell_at cells c.args.unit) ≡ false = ap (λ (l : List Cell). is_marked (cell_at l c.args.unit)) (sym c.deref.ensures.value) ∙ (sym c.has_mark.ensures ∙ c.if-has_mark.false) in
    record { room = room_more cells c.args.marked.now.items _ c.requires.listed c.args.unit c.requires.within unmarked }

pub returns-clause-listed : goal.returns-clause-listed
returns-clause-listed c =
    let cells = c.args.cells.now.items in
    let marked = c.args.marked.now.items in
    let unmarked : is_marked (cell_at cells c.args.unit) ≡ false = ap (λ (l : List Cell). is_marked (cell_at l c.args.unit)) (sym c.deref.ensures.value) ∙ (sym c.has_mark.ensures ∙ c.if-has_mark.false) in
    let next : Cell = record (cell_at cells c.args.unit) { is_running = true } in
    let most : ℕ = vec_capacity c.add.new.marked in
    subst (λ (l : List Cell). Listed l c.add.new.marked.items most) (sym c.run-2.ensures) (subst (λ (l : List ℕ). Listed (set cells c.args.unit next) l most) (sym c.add.ensures.items) (listed_push cells marked _ c.requires.listed c.args.unit next most c.requires.within unmarked refl c.add.ensures.capacity))
