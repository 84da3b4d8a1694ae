use Rattle.std.specs.Prelude.{◌≡◌, ◌+◌, ◌-◌, true, false, refl}
use Rattle.std.proofs.lemmas.Bool.{false≢true}
use Rattle.block_mgr.specs.declared.cell.Cell.{Cell}
use Rattle.block_mgr.specs.Cells.{cell_at, kept, dropped_cell}
use Rattle.block_mgr.proofs.HolderLemmas.{used_last}
use Rattle.block_mgr.proofs.HasLemmas.{has_set, has_map, has_added, sized_kept}
use Rattle.block_mgr.proofs.law.a_block_of_the_last_checkpoint_stays.Goals as goal

pub returns : goal.returns
returns c = record {
  in_use = λ cells at n (u, place, size, is). (u, place, size, used_last (cell_at cells u) is);
  over_write = λ old new addr at n added has. has_added (λ (c : Cell). c.is_last ≡ true) (λ is. false≢true is) old new addr at n added has;
  over_capture = λ cells u at n has. has_set (λ (c : Cell). c.is_last ≡ true) cells at n u (record (cell_at cells u) { is_running = true }) (λ is. is) has;
  over_free = λ cells u at n has. has_set (λ (c : Cell). c.is_last ≡ true) cells at n u (kept (record (cell_at cells u) { is_live = false })) (λ is. sized_kept (λ (c : Cell). c.is_last ≡ true) n (record (cell_at cells u) { is_live = false }) (used_last (record (cell_at cells u) { is_live = false }) is.1) is) has;
  over_drop = λ cells at n has. has_map (λ (c : Cell). c.is_last ≡ true) dropped_cell cells at n refl (λ x is. sized_kept (λ (c : Cell). c.is_last ≡ true) n (record x { is_running = false }) (used_last (record x { is_running = false }) is.1) is) has;
  over_name = λ cells u at n has. has_set (λ (c : Cell). c.is_last ≡ true) cells at n u (record (cell_at cells u) { names = (cell_at cells u).names + 1 }) (λ is. is) has;
  over_unname = λ cells u at n has. has_set (λ (c : Cell). c.is_last ≡ true) cells at n u (kept (record (cell_at cells u) { names = (cell_at cells u).names - 1 })) (λ is. sized_kept (λ (c : Cell). c.is_last ≡ true) n (record (cell_at cells u) { names = (cell_at cells u).names - 1 }) (used_last (record (cell_at cells u) { names = (cell_at cells u).names - 1 }) is.1) is) has;
}
