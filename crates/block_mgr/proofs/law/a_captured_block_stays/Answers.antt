use Rattle.std.specs.Prelude.{◌≡◌, ℕ, ◌+◌, ◌-◌, ◌*◌, true, false, refl}
use Rattle.std.proofs.Common.{sym, subst}
use Rattle.std.proofs.lemmas.Bool.{false≢true}
use Rattle.std.proofs.lemmas.List.{get_or-set_same}
use Rattle.block_mgr.specs.declared.cell.Cell.{Cell}
use Rattle.block_mgr.specs.Cells.{cell_at, nothing, kept, done_cell}
use Rattle.block_mgr.proofs.HolderLemmas.{at_map, used_running, used_last, kept_last}
use Rattle.block_mgr.proofs.LiveLemmas.{unit_is}
use Rattle.block_mgr.proofs.HasLemmas.{Sized, has_set, has_added, sized_kept}
use Rattle.std.specs.Prelude.{map}
use Rattle.block_mgr.specs.Blocks.{unit_of}
use Rattle.block_mgr.proofs.law.a_captured_block_stays.Goals as goal

pub returns : goal.returns
returns c = record {
  in_use = λ cells at n (u, place, size, is). (u, place, size, used_running (cell_at cells u) is);
  captured = λ cells at n within (u, place, size, live).
      let v = unit_of at in
      let same : u ≡ v = unit_is at u place in
      let here = get_or-set_same cells v (record (cell_at cells v) { is_running = true }) nothing within in
      (v, subst (λ (k : ℕ). at ≡ 8192 + 4096 * k) same place, subst (λ (c : Cell). n ≡ 4096 * c.units) (sym here) (subst (λ (k : ℕ). n ≡ 4096 * (cell_at cells k).units) same size), subst (λ (c : Cell). c.is_running ≡ true) (sym here) refl);
  over_write = λ old new addr at n added has. has_added (λ (c : Cell). c.is_running ≡ true) (λ is. false≢true is) old new addr at n added has;
  over_capture = λ cells u at n has. has_set (λ (c : Cell). c.is_running ≡ true) cells at n u (record (cell_at cells u) { is_running = true }) (λ is. (is.0, refl)) has;
  over_free = λ cells u at n has. has_set (λ (c : Cell). c.is_running ≡ true) cells at n u (kept (record (cell_at cells u) { is_live = false })) (λ is. sized_kept (λ (c : Cell). c.is_running ≡ true) n (record (cell_at cells u) { is_live = false }) (used_running (record (cell_at cells u) { is_live = false }) is.1) is) has;
  over_name = λ cells u at n has. has_set (λ (c : Cell). c.is_running ≡ true) cells at n u (record (cell_at cells u) { names = (cell_at cells u).names + 1 }) (λ is. is) has;
  over_unname = λ cells u at n has. has_set (λ (c : Cell). c.is_running ≡ true) cells at n u (kept (record (cell_at cells u) { names = (cell_at cells u).names - 1 })) (λ is. sized_kept (λ (c : Cell). c.is_running ≡ true) n (record (cell_at cells u) { names = (cell_at cells u).names - 1 }) (used_running (record (cell_at cells u) { names = (cell_at cells u).names - 1 }) is.1) is) has;
  becomes_last = λ cells at n (u, place, size, is).
      let next : Cell = record (cell_at cells u) { is_running = false; is_last = (cell_at cells u).is_running } in
      let both : Sized (λ (c : Cell). c.is_last ≡ true) n (kept next) = sized_kept (λ (c : Cell). c.is_last ≡ true) n next (used_last next is) (size, is) in
      let there : Sized (λ (c : Cell). c.is_last ≡ true) n (cell_at (map done_cell cells) u) = subst (Sized (λ (c : Cell). c.is_last ≡ true) n) (sym (at_map done_cell cells u refl)) both in
      (u, place, there.0, there.1);
  no_other = λ cells at n (u, place, size, is).
      let next : Cell = record (cell_at cells u) { is_running = false; is_last = (cell_at cells u).is_running } in
      let there : Sized (λ (c : Cell). c.is_last ≡ true) n (kept next) = subst (Sized (λ (c : Cell). c.is_last ≡ true) n) (at_map done_cell cells u refl) (size, is) in
      let both : Sized (λ (c : Cell). c.is_last ≡ true) n next = subst (Sized (λ (c : Cell). c.is_last ≡ true) n) (kept_last next there.1) there in
      (u, place, both.0, both.1);
}
