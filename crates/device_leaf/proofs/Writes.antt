-- The links of leaves that are written, and what a checkpoint has captured.
use Rattle.std.specs.Prelude.{◌≡◌, ℕ, true, List, [], ◌∷◌, map, Option, refl}
use Rattle.std.proofs.Common.{sym, ◌∙◌, subst, arith}
use Rattle.device_layout.specs.declared.addr.Addr.{Addr}
use Rattle.block_mgr.specs.declared.cell.Cell.{Cell}
use Rattle.block_mgr.specs.Cells.{cell_at, is_used, captured as captured_cells}
use Rattle.block_mgr.specs.Blocks.{Books, Has}
use Rattle.block_mgr.specs.Writes.{IsAddress}
use Rattle.block_mgr.proofs.HolderLemmas.{used_running}
use Rattle.block_mgr.proofs.HasLemmas.{has_set}
use Rattle.row_page.specs.Rows.{Row}
use Rattle.stored.specs.Blocks.{Block}
use Rattle.row_page.specs.Greatest.{greatest_in, most_in}
use Rattle.device_layout.specs.declared.link.Link.{Link}
use Rattle.stored.specs.Links.{nowhere}
use Rattle.stored.specs.Stored.{Stored}
use Rattle.checkpoint_core.specs.Stands.{blocks_of, Stands, AreInUse}
use Rattle.device_leaf.specs.Leaves.{LeafIs, blocks_at}
use Rattle.device_leaf.proofs.Leaves.{stored_block}

-- ---- the leaf

-- no rows need no block
pub empty_leaf : (bytes : List ℕ) → LeafIs bytes nowhere []
empty_leaf bytes = record {
  bears = record { leaf = record { fit = tt; ascend = tt; size = omega arith }; empty = λ _. (refl, refl); says = record { greatest = refl; durable = refl } };
  addressed = tt;
  holds = tt;
}

-- the link to a block that was written
abbrev pub link_to : Addr → List Row → Link
link_to a rows = record {
  addr = a;
  greatest = greatest_in (map {A = Row} (λ r. r.1.window.name) rows);
  durable = most_in (map {A = Row} (λ r. r.1.window.durable) rows);
}

not_nowhere : (a : Addr) (rows : List Row) (img : List ℕ) → IsAddress img a → (link_to a rows).addr.offset ≡ 0 → ⊥
not_nowhere a rows img is zero = omega (arith, zero, is.place.behind)

pub written_in_use : (used : List Cell) (img : List ℕ) (a : Addr) (rows : List Row) → IsAddress img a → Has used a.offset a.size → AreInUse used (blocks_at (link_to a rows) rows)
written_in_use used img a rows address has = subst (λ (l : List Block). AreInUse used l) (sym (stored_block (link_to a rows) rows (not_nowhere a rows img address))) (has, tt)

-- a checkpoint that has captured a block stands as before
captured_in_use : (cells : List Cell) (u : ℕ) (blocks : List Block) → AreInUse cells blocks → AreInUse (captured_cells cells u) blocks
captured_in_use cells u [] in_use = tt
captured_in_use cells u (b ∷ blocks) in_use = (has_set (λ (c : Cell). is_used c ≡ true) cells b.place.offset b.place.size u (record (cell_at cells u) { is_running = true }) (λ is. (is.0, used_running (record (cell_at cells u) { is_running = true }) refl)) in_use.0, captured_in_use cells u blocks in_use.1)

pub still_in_use : (old new : List Cell) (u : ℕ) (blocks : List Block) → new ≡ captured_cells old u → AreInUse old blocks → AreInUse new blocks
still_in_use old new u blocks is in_use = subst (λ (l : List Cell). AreInUse l blocks) (sym is) (captured_in_use old u blocks in_use)

pub stands_captured : (seen : List ℕ) (images : List ℕ → Type 0) (books new : Books) (u : ℕ) (old : Option Stored) → new.cells ≡ captured_cells books.cells u → new.is_synced ≡ books.is_synced → Stands seen images books old → Stands seen images new old
stands_captured seen images books new u old cells synced stands = record {
  seen_has = stands.seen_has;
  images_have = λ is. stands.images_have (sym synced ∙ is);
  in_use = still_in_use books.cells new.cells u (blocks_of old) cells stands.in_use;
}

pub stands_begun : (seen : List ℕ) (images : List ℕ → Type 0) (books new : Books) (old : Option Stored) → new.cells ≡ books.cells → new.is_synced ≡ books.is_synced → Stands seen images books old → Stands seen images new old
stands_begun seen images books new old cells synced stands = record {
  seen_has = stands.seen_has;
  images_have = λ is. stands.images_have (sym synced ∙ is);
  in_use = subst (λ (l : List Cell). AreInUse l (blocks_of old)) (sym cells) stands.in_use;
}

pub link_made : (link : Link) (a : Addr) (rows : List Row) → link.addr ≡ a → link.greatest ≡ greatest_in (map {A = Row} (λ r. r.1.window.name) rows) → link.durable ≡ most_in (map {A = Row} (λ r. r.1.window.durable) rows) → link ≡ link_to a rows
link_made link a rows one two three = rw (one, two, three) refl
