-- One inner page that is captured, and the pages of a level before any is.
use Rattle.std.specs.Prelude.{◌≡◌, ℕ, ◌≤◌, List, [], ◌∷◌, length, Option, Ok, Err, refl}
use Rattle.std.specs.List.{AllByRecursion, flat_map}
use Rattle.std.proofs.Common.{inl, inr, subst, arith}
use Rattle.disk_model.specs.declared.disk.Disk.{Ghosts}
use Rattle.disk_model.proofs.Crash.{started}
use Rattle.extent_list.specs.Space.{HasNoRoom}
use Rattle.le_codec.specs.Images.{block_size, first_format}
use Rattle.le_codec.proofs.Heads.{length-framed}
use Rattle.block_mgr.specs.Blocks.{Books}
use Rattle.device_layout.specs.declared.addr.Addr.{Addr}
use Rattle.wt_code.specs.declared.store_error.StoreError.{StoreError}
use Rattle.wt_code.specs.declared.store_error.StoreError.TheVariants.{NoSpace}
use Rattle.stored.specs.Stored.{Stored}
use Rattle.stored.specs.HistoryTree.{AreHistoryEntries, HistoryClimbs, HistoryEntry, HistoryEntryFits, history_entry_text, history_inner_image}
use Rattle.checkpoint_core.specs.Finishes.{IsOld}
use Rattle.hist_pages.specs.declared.page.HistoryPage.{HistoryPage}
use Rattle.hist_pages.specs.Levels.{SpellsPage}
use Rattle.hist_open.specs.Pages.{page_block}
use Rattle.tree_write.specs.Captures.{Captures, MayWrite}
use Rattle.tree_write.specs.Steps.{BlockWrites}
use Rattle.hist_write.specs.Steps.{LevelWrites, PageWrites}
use Rattle.tree_write.proofs.Joining.{captures_none}
use Rattle.hist_write.proofs.Tops.{cut_exists}

-- an inner page's block has one unit
pub page_unit : (level : ℕ) (es : List HistoryEntry) → AreHistoryEntries level es → block_size (length (history_inner_image level es)) ≡ 4096
page_unit level es are = let long = length-framed 4 first_format (length es) level (flat_map history_entry_text es) in let most = are.size in omega (arith, long, most)

pub page_bytes : (level : ℕ) (es : List HistoryEntry) → 16 ≤ length (history_inner_image level es)
page_bytes level es = let long = length-framed 4 first_format (length es) level (flat_map history_entry_text es) in omega (arith, long)

pub page_least : (level : ℕ) (es : List HistoryEntry) → AreHistoryEntries level es → length (history_inner_image level es) ≤ 4096
page_least level es are = let long = length-framed 4 first_format (length es) level (flat_map history_entry_text es) in let most = are.size in omega (arith, long, most)

module _ {D : Type 0} (g : Ghosts D) (old : Option Stored) (first books books' : Books) (before after : D) (level : ℕ) (es : List HistoryEntry) (draft : HistoryPage) (spells : SpellsPage level draft es) where
  abbrev pub entry_to : Addr → HistoryEntry
  entry_to a = record { least = draft.least; link = record { addr = a; greatest = draft.greatest; durable = draft.durable } }

  pub page_new : (a : Addr) → BlockWrites g old first books books' before after (history_inner_image level es) (Ok a) → PageWrites g old first books books' before after level es (a ∷ []) (Ok (entry_to a))
  page_new a wrote = (
    refl,
    record { page = spells.admitted; begins = inr spells.least; says = record { greatest = spells.greatest; durable = spells.durable } },
    wrote.0,
    subst (λ (k : ℕ). Captures g old first (page_block level (entry_to a) es ∷ []) (k ∷ []) books books' before after) (page_unit level es spells.admitted) wrote.1,
  )

  pub page_fails : (e : StoreError) → BlockWrites g old first books books' before after (history_inner_image level es) (Err e) → PageWrites g old first books books' before after level es [] (Err e)
  page_fails e wrote = (refl, wrote.0, λ is. subst (λ (k : ℕ). HasNoRoom books.space k (g.capacity before)) (page_unit level es spells.admitted) (wrote.1 is))

-- nothing of a level is captured
pub level_stopped : {D : Type 0} (g : Ghosts D) (old : Option Stored) (first books : Books) (d : D) (only : (c : List ℕ) → g.left_since d (g.moment d) c → g.may_leave d c) (level : ℕ) (es : List HistoryEntry) (e : StoreError)
    → MayWrite (g.seen d) (g.may_leave d) books old → 1 ≤ length es → 1 ≤ level → level ≤ 60 → AllByRecursion HistoryEntryFits es → HistoryClimbs es → (e ≡ NoSpace → ⊥) → LevelWrites g old first books books d d level es [] (Err e)
level_stopped g old first books d only level es e may some low high fit climbs other =
    let cut = cut_exists level es some low high fit climbs in
    record {
      pages = cut.0;
      cut = cut.1;
      writes = record { blocks = []; count = 0; listed = refl; captures = λ safe. captures_none g old first books d only may; left = started g d (IsOld (g.may_leave d) old) (λ c left. inl (only c left)); lacks = λ is. absurd (other is) };
    }
