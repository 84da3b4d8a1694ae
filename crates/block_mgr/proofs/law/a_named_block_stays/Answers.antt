use Rattle.std.specs.Prelude.{◌≡◌, ℕ, ◌+◌, ◌-◌, ◌*◌, ◌≤◌, Bool, true, false, cond, refl}
use Rattle.std.proofs.Common.{sym, ◌∙◌, ap, subst, arith}
use Rattle.std.proofs.lemmas.List.{get_or-set_same, get_or-set_other}
use Rattle.block_mgr.specs.declared.cell.Cell.{Cell}
use Rattle.block_mgr.specs.Cells.{cell_at, nothing, kept, done_cell, dropped_cell}
use Rattle.block_mgr.proofs.HolderLemmas.{used_named}
use Rattle.block_mgr.proofs.LiveLemmas.{unit_is}
use Rattle.block_mgr.proofs.HasLemmas.{has_set, has_map, has_added, sized_kept}
use Rattle.block_mgr.specs.Blocks.{unit_of}
use Rattle.block_mgr.proofs.law.a_named_block_stays.Goals as goal

pub returns : goal.returns
returns c = record {
  in_use = λ cells at n (u, place, size, is). (u, place, size, used_named (cell_at cells u) is);
  named = λ cells at n within (u, place, size, is).
      let v = unit_of at in
      let same : u ≡ v = unit_is at u place in
      let here = get_or-set_same cells v (record (cell_at cells v) { names = (cell_at cells v).names + 1 }) nothing within in
      (v, subst (λ (k : ℕ). at ≡ 8192 + 4096 * k) same place, subst (λ (c : Cell). n ≡ 4096 * c.units) (sym here) (subst (λ (k : ℕ). n ≡ 4096 * (cell_at cells k).units) same size), subst (λ (c : Cell). 1 ≤ c.names) (sym here) (omega arith));
  over_write = λ old new addr at n added has. has_added (λ (c : Cell). 1 ≤ c.names) (λ is. omega (arith, is)) old new addr at n added has;
  over_capture = λ cells u at n has. has_set (λ (c : Cell). 1 ≤ c.names) cells at n u (record (cell_at cells u) { is_running = true }) (λ is. is) has;
  over_free = λ cells u at n has. has_set (λ (c : Cell). 1 ≤ c.names) cells at n u (kept (record (cell_at cells u) { is_live = false })) (λ is. sized_kept (λ (c : Cell). 1 ≤ c.names) n (record (cell_at cells u) { is_live = false }) (used_named (record (cell_at cells u) { is_live = false }) is.1) is) has;
  over_done = λ cells at n has. has_map (λ (c : Cell). 1 ≤ c.names) done_cell cells at n refl (λ x is. sized_kept (λ (c : Cell). 1 ≤ c.names) n (record x { is_running = false; is_last = x.is_running }) (used_named (record x { is_running = false; is_last = x.is_running }) is.1) is) has;
  over_drop = λ cells at n has. has_map (λ (c : Cell). 1 ≤ c.names) dropped_cell cells at n refl (λ x is. sized_kept (λ (c : Cell). 1 ≤ c.names) n (record x { is_running = false }) (used_named (record x { is_running = false }) is.1) is) has;
  over_name = λ cells u at n has. has_set (λ (c : Cell). 1 ≤ c.names) cells at n u (record (cell_at cells u) { names = (cell_at cells u).names + 1 }) (λ is. (is.0, omega arith)) has;
  over_others = λ cells u at n other (v, place, size, some).
      let apart : v ≡ u → ⊥ = (λ same. other (sym (unit_is at v place) ∙ same)) in
      let there = get_or-set_other cells u v (kept (record (cell_at cells u) { names = (cell_at cells u).names - 1 })) nothing apart in
      (v, place, subst (λ (c : Cell). n ≡ 4096 * c.units) (sym there) size, subst (λ (c : Cell). 1 ≤ c.names) (sym there) some);
  shared = λ cells u at n two has. has_set (λ (c : Cell). 1 ≤ c.names) cells at n u (kept (record (cell_at cells u) { names = (cell_at cells u).names - 1 })) (λ is. sized_kept (λ (c : Cell). 1 ≤ c.names) n (record (cell_at cells u) { names = (cell_at cells u).names - 1 }) (used_named (record (cell_at cells u) { names = (cell_at cells u).names - 1 }) (omega (arith, two))) (is.0, omega (arith, two))) has;
  gone = λ cells u within alone. get_or-set_same cells u (kept (record (cell_at cells u) { names = (cell_at cells u).names - 1 })) nothing within ∙ (ap (λ (k : ℕ). kept (record (cell_at cells u) { names = k - 1 })) alone.one ∙ ap (λ (b : Bool). cond b (record (cell_at cells u) { names = 0 }) nothing) alone.others);
}
