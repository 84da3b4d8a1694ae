-- One leaf in a block that the live tree alone has.
use Rattle.std.specs.Prelude.{◌≡◌, ℕ, ◌%◌, ◌≤◌, true, List, length, Option}
use Rattle.std.specs.List.{AllByRecursion}
use Rattle.std.proofs.Common.{inl, inr, sym, ◌∙◌, ap, subst, arith}
use Rattle.std.proofs.lemmas.Bool.{cases_eq, eqb-true, false≢true}
use Rattle.block_sum.specs.Sum.{sum_of}
use Rattle.le_codec.specs.Images.{block_size, padded}
use Rattle.disk_model.specs.Disk.{put, Torn}
use Rattle.disk_model.specs.Laws.{torn_put}
use Rattle.disk_model.specs.Ranges.{range, range_put_same, length_put}
use Rattle.disk_model.specs.Crash.{Each}
use Rattle.disk_model.specs.declared.disk.Disk.{Ghosts}
use Rattle.disk_model.proofs.Crash.{widened}
use Rattle.extent_list.specs.Space.{HasNoRoom, IsSpot, Taken, end_of}
use Rattle.block_mgr.specs.declared.cell.Cell.{Cell}
use Rattle.block_mgr.specs.Cells.{AreUnits, cell_at, is_used}
use Rattle.block_mgr.specs.Blocks.{Books}
use Rattle.block_mgr.specs.Writes.{Added, FromBase, IsAddress, LeavesWrite}
use Rattle.block_mgr.proofs.HasLemmas.{has_added, spot_keeps}
use Rattle.block_mgr.proofs.WriteLemmas.{taken_low}
use Rattle.device_layout.specs.declared.link.Link.{Link}
use Rattle.row_page.specs.Rows.{IsPage, Row, image}
use Rattle.row_page.specs.Greatest.{durables_of, names_of}
use Rattle.row_page.proofs.Leaves.{length-image}
use Rattle.stored.specs.Blocks.{Block, Holds, IsAddressed, IsAt}
use Rattle.stored.specs.Links.{SaysOf}
use Rattle.stored.specs.Stored.{Stored}
use Rattle.wt_code.specs.declared.store_error.StoreError.{StoreError}
use Rattle.wt_code.specs.declared.store_error.StoreError.TheVariants.{NoMemory, NoSpace, Read}
use Rattle.checkpoint_core.specs.Stands.{Stands}
use Rattle.checkpoint_core.proofs.Capturing.{captured as stands_added}
use Rattle.checkpoint_core.proofs.Recording.{image_still, wrote_old}
use Rattle.device_leaf.specs.Leaves.{LeafIs}
use Rattle.device_leaf.proofs.Leaves.{block_at, leaf_bytes, length_block, stored_block}
use Rattle.tree_write.specs.Captures.{IsSafe, MayWrite}
use Rattle.tree_write.specs.Steps.{Fails}
use Rattle.tree_write.proofs.OneBlock.{fails_new}
use Rattle.leaf_write.specs.Writes.{LeafWritten, leaf_size}

pub page_size : (block : List ℕ) (rows : List Row) → IsPage block rows → length block ≡ leaf_size rows
page_size block rows page = ap length page.spelled ∙ (length_block (image rows) ∙ ap block_size (length-image rows))

-- of the block of a leaf
pub page_some : (block : List ℕ) (rows : List Row) → IsPage block rows → 1 ≤ length block
page_some block rows page = let size = page_size block rows page in let bytes = leaf_bytes rows in let long = length-image rows in omega (arith, size, bytes, long)

pub page_most : (block : List ℕ) (rows : List Row) → IsPage block rows → length block ≤ 1048576
page_most block rows page = let size = page_size block rows page in let most = page.admitted.size in omega (arith, size, most)

pub page_whole : (block : List ℕ) (rows : List Row) → IsPage block rows → length block % 4096 ≡ 0
page_whole block rows page = let size = page_size block rows page in omega (arith, size)

module _ {D : Type 0} (g : Ghosts D) (old : Option Stored) (rows : List Row) (block : List ℕ) (books : Books) (before after : D) (may : MayWrite (g.seen before) (g.may_leave before) books old) (page : IsPage block rows) (leaves : LeavesWrite g books (length block) before after) where
  some : 1 ≤ length block
  some = page_some block rows page

  -- it has no place, or its write failed
  pub leaf_fails : (books' : Books) (e : StoreError) → (e ≡ NoMemory → after ≡ before) → (e ≡ NoSpace → (after ≡ before) × HasNoRoom books.space (length block) (g.capacity before)) → (e ≡ Read → ⊥) → books' ≡ books
      → Fails g old books books books' before after (IsSafe e) × (e ≡ NoSpace → HasNoRoom books.space (leaf_size rows) (g.capacity before))
  leaf_fails books' e no_memory no_space no_read same =
      let bytes = leaf_bytes rows in
      let fails = fails_new g old books (image rows) block books before after may page.spelled (omega (arith, bytes)) leaves books' e no_memory no_space no_read same in
      (fails.0, λ is. subst (λ (k : ℕ). HasNoRoom books.space (block_size k) (g.capacity before)) (length-image rows) (fails.1 is))

  module _ (books' : Books) (link : Link) (says : SaysOf link (names_of rows) (durables_of rows)) (written : g.seen after ≡ put (g.seen before) link.addr.offset block)
      (images : Each (g.may_leave after) (FromBase books.is_synced link.addr.offset link.addr.size (g.seen before) (g.may_leave before))) (address : IsAddress block link.addr) (taken : Taken books.space books'.space link.addr.size (g.capacity before) link.addr.offset)
      (added : Added books books' link.addr) (units : AreUnits books'.cells books'.space) (within : end_of books.space ≤ length (g.seen before)) where
    abbrev at : ℕ
    at = link.addr.offset

    abbrev seen : List ℕ
    seen = g.seen before

    size : link.addr.size ≡ leaf_size rows
    size = address.size ∙ page_size block rows page

    low : at ≤ length seen
    low = omega (arith, within, taken_low books.space books'.space link.addr.size (g.capacity before) at taken)

    spot : IsSpot books.space (length block) (g.capacity before) at
    spot = subst (λ (k : ℕ). IsSpot books.space k (g.capacity before) at) address.size taken.0

    from : (d : List ℕ) → g.may_leave after d → FromBase books.is_synced at (length block) seen (g.may_leave before) d
    from d left = subst (λ (k : ℕ). FromBase books.is_synced at k seen (g.may_leave before) d) address.size (images d left)

    stands : Stands (g.seen after) (g.may_leave after) books' old
    stands = stands_added seen (g.seen after) block (g.may_leave before) (g.may_leave after) books books' (g.capacity before) old link.addr may.stands may.units some spot written from added

    unnamed : (u : ℕ) → (cell_at books'.cells u).names ≡ 0
    unnamed u = elim (cases_eq u added.unit) [
      | inl same ↦ ap (λ (k : ℕ). (cell_at books'.cells k).names) same ∙ ap (λ (c : Cell). c.names) added.put.here
      | inr other ↦ ap (λ (c : Cell). c.names) (added.put.others u other) ∙ may.unnamed u
    ]

    still : range (g.seen after) at link.addr.size ≡ block
    still = subst (λ (k : ℕ). range (g.seen after) at k ≡ block) (sym address.size) (ap (λ (l : List ℕ). range l at (length block)) written ∙ range_put_same seen block at low)

    padded_is : block ≡ padded (image rows) link.addr.size
    padded_is = page.spelled ∙ ap (λ k. padded (image rows) k) (sym (address.size ∙ (ap length page.spelled ∙ length_block (image rows))))

    addressed : IsAddressed (block_at link rows)
    addressed = record { low = address.place.behind; unit = address.place.unit; size = address.size ∙ (ap length page.spelled ∙ length_block (image rows)); most = address.place.most; sum = address.sum ∙ ap sum_of padded_is }

    there : IsAt (g.seen after) (block_at link rows)
    there = record { within = omega (arith, ap length written, length_put seen block at low, address.size); is = still ∙ padded_is }

    is_stored : at ≡ 0 → ⊥
    is_stored zero = let behind = address.place.behind in omega (arith, behind, zero)

    leaf_is : LeafIs (g.seen after) link rows
    leaf_is = let is = stored_block link rows is_stored in record {
      bears = record { leaf = page.admitted; empty = λ nowhere. absurd (is_stored (eqb-true at 0 nowhere)); says = says };
      addressed = subst (λ (l : List Block). AllByRecursion (λ (b : Block). IsAddressed b) l) (sym is) (addressed, tt);
      holds = subst (λ (l : List Block). Holds (g.seen after) l) (sym is) (there, tt);
    }

    -- it is on the device
    pub leaf_written : LeafWritten g old books books' before after rows link
    leaf_written = record {
      stored = is_stored;
      leaf = leaf_is;
      added = added;
      may = record { stands = stands; units = units; unnamed = unnamed };
      left = widened g before after _ _ leaves (wrote_old seen (g.may_leave before) books old may.stands may.units (length block) (g.capacity before) some);
      images = λ c left. inr (image_still seen (g.may_leave before) books old may.stands may.units c (length block) (g.capacity before) at some spot (from c left));
      keeps = spot_keeps books.cells books.space (length block) (g.capacity before) at seen (g.seen after) may.units some spot (subst (λ (l : List ℕ). Torn at (length block) seen l) (sym written) (torn_put at block seen));
      used = λ i n has. has_added (λ (c : Cell). is_used c ≡ true) (λ is. false≢true is) books books' link.addr i n added has;
      taken = subst (λ (k : ℕ). Taken books.space books'.space k (g.capacity before) at) size taken;
    }
