-- A leaf of the checkpoint before, at two moments.
use Rattle.std.specs.Prelude.{◌≡◌, ◌⊎◌, ℕ, ◌+◌, ◌≤◌, List, length, Option, Some, None}
use Rattle.std.proofs.Common.{inl, inr, sym, ◌∙◌, subst, arith}
use Rattle.std.proofs.lemmas.Bool.{cases_eq}
use Rattle.disk_model.specs.Crash.{Keeps}
use Rattle.disk_model.specs.Ranges.{range}
use Rattle.extent_list.specs.Space.{Space, end_of}
use Rattle.block_mgr.specs.declared.cell.Cell.{Cell}
use Rattle.block_mgr.specs.Blocks.{Has}
use Rattle.block_mgr.specs.Cells.{AreUnits}
use Rattle.block_mgr.proofs.HasLemmas.{used_some}
use Rattle.device_layout.specs.declared.link.Link.{Link}
use Rattle.row_page.specs.Rows.{Row}
use Rattle.stored.specs.Blocks.{Block, Holds, IsAt}
use Rattle.device_leaf.specs.Leaves.{LeafIs}
use Rattle.device_leaf.proofs.Leaves.{block_at, leaf_there, no_block, stored_block}
use Rattle.tree_write.specs.Sizes.{WritesLeaf}

-- a block in use lies before the end
pub has_within : (cells : List Cell) (space : Space) (at n : ℕ) → AreUnits cells space → Has cells at n → at + n ≤ end_of space
has_within cells space at n units (u, offset, size, used) =
    let some = used_some cells space u units used in
    let within = units.within u some in
    omega (arith, offset, size, within)

module _ (cells : List Cell) (space : Space) (bytes later : List ℕ) (link : Link) (units : AreUnits cells space) (within : end_of space ≤ length bytes) (keeps : Keeps (Has cells) bytes later) where
  same_there : Has cells link.addr.offset link.addr.size → range later link.addr.offset link.addr.size ≡ range bytes link.addr.offset link.addr.size
  same_there has = let le = has_within cells space link.addr.offset link.addr.size units has in keeps.part link.addr.offset link.addr.size has (omega (arith, le, within))

  -- it is still there
  pub leaf_later : (rows : List Row) → (link.addr.offset ≡ 0) ⊎ Has cells link.addr.offset link.addr.size → LeafIs bytes link rows → LeafIs later link rows
  leaf_later rows has leaf = elim (cases_eq link.addr.offset 0) [
    | inl zero ↦ record { bears = leaf.bears; addressed = leaf.addressed; holds = subst (λ (l : List Block). Holds later l) (sym (no_block link rows zero)) tt }
    | inr stored ↦
        let there = (leaf_there bytes link rows stored leaf).1 in
        let le = keeps.no_shorter in
        let is : IsAt later (block_at link rows) = record { within = omega (arith, there.within, le); is = same_there (used stored has) ∙ there.is } in
        record { bears = leaf.bears; addressed = leaf.addressed; holds = subst (λ (l : List Block). Holds later l) (sym (stored_block link rows stored)) (is, tt) }
  ]
    where
      used : (link.addr.offset ≡ 0 → ⊥) → (link.addr.offset ≡ 0) ⊎ Has cells link.addr.offset link.addr.size → Has cells link.addr.offset link.addr.size
      used stored (inl zero) = absurd (stored zero)
      used stored (inr has) = has

  -- it was there before
  pub leaf_before : (rows : List Row) → (link.addr.offset ≡ 0) ⊎ Has cells link.addr.offset link.addr.size → LeafIs later link rows → LeafIs bytes link rows
  leaf_before rows has leaf = elim (cases_eq link.addr.offset 0) [
    | inl zero ↦ record { bears = leaf.bears; addressed = leaf.addressed; holds = subst (λ (l : List Block). Holds bytes l) (sym (no_block link rows zero)) tt }
    | inr stored ↦
        let there = (leaf_there later link rows stored leaf).1 in
        let le = has_within cells space link.addr.offset link.addr.size units (used stored has) in
        let is : IsAt bytes (block_at link rows) = record { within = omega (arith, le, within); is = sym (same_there (used stored has)) ∙ there.is } in
        record { bears = leaf.bears; addressed = leaf.addressed; holds = subst (λ (l : List Block). Holds bytes l) (sym (stored_block link rows stored)) (is, tt) }
  ]
    where
      used : (link.addr.offset ≡ 0 → ⊥) → (link.addr.offset ≡ 0) ⊎ Has cells link.addr.offset link.addr.size → Has cells link.addr.offset link.addr.size
      used stored (inl zero) = absurd (stored zero)
      used stored (inr has) = has

  -- what is written of it is what would have been
  pub writes_before : (rows : List Row) (size : Option ℕ) → (link.addr.offset ≡ 0) ⊎ Has cells link.addr.offset link.addr.size → WritesLeaf later link rows size → WritesLeaf bytes link rows size
  writes_before rows None has (inl none) = inl none
  writes_before rows None has (inr leaf) = inr (leaf_before rows has leaf)
  writes_before rows (Some size) has (some, none, is) = (some, (λ leaf. none (leaf_later rows has leaf)), is)
