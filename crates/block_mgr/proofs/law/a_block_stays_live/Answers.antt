use Rattle.std.specs.Prelude.{◌≡◌, ◌+◌, ◌-◌, ◌*◌, true, false, refl}
use Rattle.std.proofs.Common.{sym, ◌∙◌, ap, subst}
use Rattle.std.proofs.lemmas.Bool.{false≢true}
use Rattle.std.proofs.lemmas.List.{get_or-set_other}
use Rattle.block_mgr.specs.declared.cell.Cell.{Cell}
use Rattle.block_mgr.specs.Cells.{cell_at, nothing, kept, done_cell, dropped_cell}
use Rattle.block_mgr.proofs.HolderLemmas.{used_live}
use Rattle.block_mgr.proofs.LiveLemmas.{unit_is}
use Rattle.block_mgr.proofs.HasLemmas.{has_set, has_map, has_added, sized_kept}
use Rattle.block_mgr.proofs.law.a_block_stays_live.Goals as goal

pub returns : goal.returns
returns c = record {
  in_use = λ cells at n (u, place, size, is). (u, place, size, used_live (cell_at cells u) is);
  written = λ old new addr added. (added.unit, added.offset, added.size ∙ ap (λ (c : Cell). 4096 * c.units) (sym added.put.here), ap (λ (c : Cell). c.is_live) added.put.here);
  over_write = λ old new addr at n added has. has_added (λ (c : Cell). c.is_live ≡ true) (λ is. false≢true is) old new addr at n added has;
  over_capture = λ cells u at n has. has_set (λ (c : Cell). c.is_live ≡ true) cells at n u (record (cell_at cells u) { is_running = true }) (λ is. is) has;
  over_free = λ cells u at n other (v, place, size, live).
      let apart : v ≡ u → ⊥ = (λ same. other (sym (unit_is at v place) ∙ same)) in
      let there = get_or-set_other cells u v (kept (record (cell_at cells u) { is_live = false })) nothing apart in
      (v, place, subst (λ (c : Cell). n ≡ 4096 * c.units) (sym there) size, subst (λ (c : Cell). c.is_live ≡ true) (sym there) live);
  over_done = λ cells at n has. has_map (λ (c : Cell). c.is_live ≡ true) done_cell cells at n refl (λ x is. sized_kept (λ (c : Cell). c.is_live ≡ true) n (record x { is_running = false; is_last = x.is_running }) (used_live (record x { is_running = false; is_last = x.is_running }) is.1) is) has;
  over_drop = λ cells at n has. has_map (λ (c : Cell). c.is_live ≡ true) dropped_cell cells at n refl (λ x is. sized_kept (λ (c : Cell). c.is_live ≡ true) n (record x { is_running = false }) (used_live (record x { is_running = false }) is.1) is) has;
  over_name = λ cells u at n has. has_set (λ (c : Cell). c.is_live ≡ true) cells at n u (record (cell_at cells u) { names = (cell_at cells u).names + 1 }) (λ is. is) has;
  over_unname = λ cells u at n has. has_set (λ (c : Cell). c.is_live ≡ true) cells at n u (kept (record (cell_at cells u) { names = (cell_at cells u).names - 1 })) (λ is. sized_kept (λ (c : Cell). c.is_live ≡ true) n (record (cell_at cells u) { names = (cell_at cells u).names - 1 }) (used_live (record (cell_at cells u) { names = (cell_at cells u).names - 1 }) is.1) is) has;
}
