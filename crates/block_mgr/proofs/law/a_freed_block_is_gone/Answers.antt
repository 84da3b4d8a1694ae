use Rattle.std.specs.Prelude.{false}
use Rattle.std.proofs.Common.{sym, ◌∙◌}
use Rattle.std.proofs.lemmas.List.{get_or-set_same}
use Rattle.block_mgr.specs.Cells.{cell_at, nothing, kept}
use Rattle.block_mgr.proofs.LiveLemmas.{unit_is}
use Rattle.block_mgr.specs.Blocks.{unit_of}
use Rattle.block_mgr.proofs.HasLemmas.{freed_not_live, unused_nothing}
use Rattle.block_mgr.proofs.law.a_freed_block_is_gone.Goals as goal

pub returns : goal.returns
returns c = record {
  not_live = λ cells at n (u, place, size, live). freed_not_live cells (unit_of at) u (sym (unit_is at u place)) live;
  gone = λ cells u within alone. get_or-set_same cells u (kept (record (cell_at cells u) { is_live = false })) nothing within ∙ unused_nothing (cell_at cells u) alone.idle alone.past alone.unnamed;
}
