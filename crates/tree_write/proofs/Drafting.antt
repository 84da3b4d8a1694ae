-- Leaves that are captured part by part.
use Rattle.std.specs.Prelude.{◌≡◌, ℕ, suc, ◌≤◌, List, [], ◌∷◌, ◌++◌, length, Option, None, Result, Ok, Err, IfErr, OnOk, refl}
use Rattle.std.specs.List.{AllByRecursion}
use Rattle.std.proofs.Common.{inl, inr, sym, ◌∙◌, ap, subst, arith}
use Rattle.std.proofs.lemmas.List.{length-append, map-append}
use Rattle.disk_model.specs.declared.disk.Disk.{Ghosts}
use Rattle.disk_model.proofs.Crash.{joined}
use Rattle.extent_list.specs.Space.{end_of}
use Rattle.block_mgr.specs.Blocks.{Books, Has, HasLive}
use Rattle.block_mgr.specs.Cells.{cell_at}
use Rattle.device_layout.specs.declared.addr.Addr.{Addr}
use Rattle.device_layout.specs.declared.link.Link.{Link}
use Rattle.wt_code.specs.declared.store_error.StoreError.{StoreError}
use Rattle.wt_code.specs.declared.store_error.StoreError.TheVariants.{NoMemory, NoSpace}
use Rattle.row_page.specs.Rows.{Row}
use Rattle.stored.specs.Blocks.{Block, Holds, IsAddressed}
use Rattle.stored.specs.Stored.{Stored as Kept}
use Rattle.stored.specs.Tree.{AllBear, leaf_blocks}
use Rattle.stored.specs.TableTree.{Entry, table_kind}
use Rattle.checkpoint_core.specs.Finishes.{IsOld}
use Rattle.device_leaf.proofs.Leaves.{leaf_there}
use Rattle.tree_write.specs.Captures.{Captures, IsPlaced, StaysLive, places_of}
use Rattle.tree_write.specs.Drafts.{AreLiveLeaves, Drafted, DraftWrites, HasLeaves, addrs_to, aligned}
use Rattle.tree_write.specs.Keeps.{AreLive, KeepsAll}
use Rattle.tree_write.specs.Sizes.{LacksAll, WritesLeaves, links_behind}
use Rattle.tree_write.specs.Steps.{LeavesStopped, LeavesWritten, links_in}
use Rattle.tree_write.specs.Writes.{AreOwn, KeepSame, MayWriteOver}
use Rattle.tree_write.proofs.Aligning.{aligned_length, aligned_live, aligned_same, bear_both, bear_length, blocks_both, live_both, own_aligned, own_both, same_aligned, same_both, same_sooner, writes_aligned, writes_both, writes_sooner}
use Rattle.tree_write.proofs.Joining.{captures_join, captures_none, lacks_after, live_is_used, none_before}
use Rattle.tree_write.proofs.Keeping.{keeps_capture}
use Rattle.tree_write.proofs.LeafSteps.{want_space}
use Rattle.tree_write.proofs.Lists.{all_both}
use Rattle.tree_write.proofs.Trees.{Stored, first_block, places_leaves}

-- ---- a draft without leaves

module _ {D : Type 0} (g : Ghosts D) (old : Option Kept) (first books : Books) (d : D) (only : (c : List ℕ) → g.left_since d (g.moment d) c → g.may_leave d c) where
  pub draft_begun : MayWriteOver (g.seen d) (g.may_leave d) first books old [] → end_of books.space ≤ length (g.seen d) → Drafted g old first books books d d [] [] [] []
  draft_begun may ready = record {
    may = may;
    ready = ready;
    room = refl;
    placed = refl;
    written = record { sizes = []; bear = tt; stored = tt; captures = captures_none g old first books d only may.may; listed = refl; writes = refl; own = tt; same = tt };
  }

-- ---- a part more

module _ {D : Type 0} (g : Ghosts D) (old : Option Kept) (first books0 mid : Books) (start between : D) (was : List Link) (leaves : List (List Row)) (addrs : List Addr) (es : List Entry) (draft : Drafted g old first books0 mid start between was leaves addrs es) where
  live_mid : StaysLive first mid
  live_mid at n has = draft.written.captures.live at n (draft.may.live at n has)

  used0 : (at n : ℕ) → HasLive first.cells at n → Has books0.cells at n
  used0 at n has = live_is_used books0.cells at n (draft.may.live at n has)

  old_mid : (c : List ℕ) → IsOld (g.may_leave between) old c → IsOld (g.may_leave start) old c
  old_mid c (inl left) = draft.written.captures.images c left
  old_mid c (inr has) = inr has

  placed0 : (a : Addr) → IsPlaced mid a → IsPlaced books0 a
  placed0 a placed = record { unit = placed.unit; units = placed.units; offset = placed.offset; size = placed.size; none = none_before placed.unit (cell_at books0.cells placed.unit) (places_of (leaf_blocks table_kind es leaves)) (sym (draft.written.captures.cells placed.unit) ∙ placed.none) }

  own0 : (more links : List Link) → AreOwn mid more links → AreOwn books0 more links
  own0 more [] own = tt
  own0 more (link ∷ links) own = (
    elim own.0 [ inl none ↦ inl none | inr (inl stays) ↦ inr (inl stays) | inr (inr placed) ↦ inr (inr (placed0 link.addr placed)) ],
    own0 (links_behind more) links own.1,
  )

  -- the next part may be written over leaves that the live tree had at first
  pub may_more : (more : List Link) → AreLiveLeaves first more → MayWriteOver (g.seen between) (g.may_leave between) first mid old more
  may_more more live = record { may = draft.written.captures.may; live = live_mid; leaves = live }

  -- an error that is not want of room
  pub draft_failed : (e : StoreError) → (e ≡ NoSpace → ⊥) → LeavesStopped g old first books0 mid start between was leaves addrs e
  draft_failed e other = record { blocks = leaf_blocks table_kind es leaves; sizes = draft.written.sizes; listed = draft.written.listed; captures = λ safe. draft.written.captures; left = draft.written.captures.left; lacks = λ is. absurd (other is) }

  module _ (more : List Link) (others : List (List Row)) (live : AreLiveLeaves first more) (addrs' : List Addr) (books' : Books) (after : D) where
    abbrev was' : List Link
    was' = was ++ aligned more others

    writes_all : (sizes rest : List ℕ) → WritesLeaves (g.seen start) was leaves sizes → WritesLeaves (g.seen between) more others rest → WritesLeaves (g.seen start) was' (leaves ++ others) (sizes ++ rest)
    writes_all sizes rest writes also = writes_both (g.seen start) was (aligned more others) leaves others sizes rest draft.placed writes
        (writes_aligned (g.seen start) more others rest (writes_sooner books0.cells books0.space (g.seen start) (g.seen between) draft.may.may.units draft.ready draft.written.captures.keeps first used0 more others rest live also))

    may_all : MayWriteOver (g.seen start) (g.may_leave start) first books0 old was'
    may_all = record { may = draft.may.may; live = draft.may.live; leaves = live_both first was (aligned more others) draft.may.leaves (aligned_live first more others live) }

    -- its leaves are captured
    pub draft_more : (fs : List Entry) → LeavesWritten g old first mid books' between after more others addrs' fs → g.capacity after ≡ g.capacity between → Drafted g old first books0 books' start after was' (leaves ++ others) (addrs ++ addrs') (es ++ fs)
    draft_more fs wrote room = record {
      may = may_all;
      ready = draft.ready;
      room = room ∙ draft.room;
      placed = long;
      written = record {
        sizes = draft.written.sizes ++ wrote.sizes;
        bear = bear_both es fs leaves others draft.written.bear wrote.bear;
        stored = all_both Stored es fs draft.written.stored wrote.stored;
        captures = subst (λ (l : List Block). Captures g old first l (draft.written.sizes ++ wrote.sizes) books0 books' start after) (sym blocks_are)
            (captures_join g old first (leaf_blocks table_kind es leaves) (leaf_blocks table_kind fs others) draft.written.sizes wrote.sizes books0 mid books' start between after draft.room draft.written.captures wrote.captures);
        listed = ap (λ (l : List Addr). addrs ++ l) wrote.listed ∙ (ap (λ (l : List Addr). l ++ places_of (leaf_blocks table_kind fs others)) draft.written.listed ∙ (sym (map-append {A = Block} {B = Addr} (λ b. b.place) (leaf_blocks table_kind es leaves) (leaf_blocks table_kind fs others)) ∙ ap places_of (sym blocks_are)));
        writes = writes_all draft.written.sizes wrote.sizes draft.written.writes wrote.writes;
        own = subst (λ (l : List Link). AreOwn books0 was' l) (sym links_are) (own_both books0 was (aligned more others) (links_in es) (links_in fs) (draft.placed ∙ sym es_long) draft.written.own (own_aligned books0 more (links_in fs) others fs_long (own0 more (links_in fs) wrote.own)));
        same = subst (λ (l : List Link). KeepSame (g.seen start) was' l (leaves ++ others)) (sym links_are) (same_both (g.seen start) was (aligned more others) (links_in es) (links_in fs) leaves others (draft.placed ∙ sym es_long) es_long draft.written.same
            (same_aligned (g.seen start) more (links_in fs) others (same_sooner books0.cells books0.space (g.seen start) (g.seen between) draft.may.may.units draft.ready draft.written.captures.keeps first used0 more (links_in fs) others live wrote.same)));
      };
    }
      where
        long : length was' ≡ length (leaves ++ others)
        long = omega (arith, length-append was (aligned more others), length-append leaves others, draft.placed, aligned_length more others)

        links_long : (xs : List Entry) → length (links_in xs) ≡ length xs
        links_long [] = refl
        links_long (x ∷ xs) = ap (λ (n : ℕ). suc n) (links_long xs)

        es_long : length (links_in es) ≡ length leaves
        es_long = links_long es ∙ bear_length es leaves draft.written.bear

        fs_long : length (links_in fs) ≡ length others
        fs_long = links_long fs ∙ bear_length fs others wrote.bear

        blocks_are : leaf_blocks table_kind (es ++ fs) (leaves ++ others) ≡ leaf_blocks table_kind es leaves ++ leaf_blocks table_kind fs others
        blocks_are = blocks_both es fs leaves others draft.written.bear

        links_are : links_in (es ++ fs) ≡ links_in es ++ links_in fs
        links_are = map-append {A = Entry} {B = Link} (λ e. e.link) es fs

    -- or some of them
    pub draft_stopped : (e : StoreError) → LeavesStopped g old first mid books' between after more others addrs' e → LeavesStopped g old first books0 books' start after was' (leaves ++ others) (addrs ++ addrs') e
    draft_stopped e stop = record {
      blocks = leaf_blocks table_kind es leaves ++ stop.blocks;
      sizes = draft.written.sizes ++ stop.sizes;
      listed = ap (λ (l : List Addr). addrs ++ l) stop.listed ∙ (ap (λ (l : List Addr). l ++ places_of stop.blocks) draft.written.listed ∙ sym (map-append {A = Block} {B = Addr} (λ b. b.place) (leaf_blocks table_kind es leaves) stop.blocks));
      captures = λ safe. captures_join g old first (leaf_blocks table_kind es leaves) stop.blocks draft.written.sizes stop.sizes books0 mid books' start between after draft.room draft.written.captures (stop.captures safe);
      left = joined g start between after _ _ draft.written.captures.left stop.left old_mid;
      lacks = λ is.
          let why = stop.lacks is in (
            draft.written.sizes ++ why.0,
            writes_all draft.written.sizes why.0 draft.written.writes why.1,
            lacks_after books0.space mid.space (g.capacity start) draft.written.sizes why.0 draft.written.captures.places (subst (λ (k : ℕ). LacksAll mid.space k why.0) draft.room why.2),
          );
    }

  -- a part is kept as it stands
  module _ (only : (c : List ℕ) → g.left_since between (g.moment between) c → g.may_leave between c) where
    pub draft_kept : (part : List Entry) (kept : List (List Row)) (books' : Books) → HasLeaves (g.seen between) part kept → AreLive first.cells (addrs_to part) → KeepsAll mid books' (addrs_to part)
        → Drafted g old first books0 books' start between (was ++ links_in part) (leaves ++ kept) (addrs ++ addrs_to part) (es ++ part)
    draft_kept part kept books' has live keeps = subst (λ (l : List Link). Drafted g old first books0 books' start between (was ++ l) (leaves ++ kept) (addrs ++ addrs_to part) (es ++ part)) (aligned_same (links_in part) kept (long part kept has))
        (draft_more (links_in part) kept (all_leaves part live) (addrs_to part) books' between part (record {
          sizes = [];
          bear = bear part kept has;
          stored = stored part kept has;
          captures = keeps_capture g old first between only (leaf_blocks table_kind part kept) mid books' draft.written.captures.may (subst (λ (l : List Addr). KeepsAll mid books' l) (sym places_are) keeps) (there part kept has).0 (there part kept has).1 (subst (λ (l : List Addr). AreLive first.cells l) (sym places_are) live);
          listed = sym places_are;
          writes = writes part kept has;
          own = own (links_in part);
          same = same (links_in part) kept;
        }) refl)
      where
        long : (part : List Entry) (kept : List (List Row)) → HasLeaves (g.seen between) part kept → length (links_in part) ≡ length kept
        long [] [] has = refl
        long [] (rows ∷ kept) has = absurd has
        long (e ∷ part) [] has = absurd has
        long (e ∷ part) (rows ∷ kept) has = ap (λ (n : ℕ). suc n) (long part kept has.1)

        all_leaves : (part : List Entry) → AreLive first.cells (addrs_to part) → AreLiveLeaves first (links_in part)
        all_leaves [] live = tt
        all_leaves (e ∷ part) live = (inr live.0, all_leaves part live.1)

        bear : (part : List Entry) (kept : List (List Row)) → HasLeaves (g.seen between) part kept → AllBear table_kind part kept
        bear [] [] has = tt
        bear [] (rows ∷ kept) has = absurd has
        bear (e ∷ part) [] has = absurd has
        bear (e ∷ part) (rows ∷ kept) has = let leaf = has.0.1 in (record { leaf = leaf.bears.leaf; empty = leaf.bears.empty; says = leaf.bears.says }, bear part kept has.1)

        stored : (part : List Entry) (kept : List (List Row)) → HasLeaves (g.seen between) part kept → AllByRecursion Stored part
        stored [] [] has = tt
        stored [] (rows ∷ kept) has = absurd has
        stored (e ∷ part) [] has = absurd has
        stored (e ∷ part) (rows ∷ kept) has = (has.0.0, stored part kept has.1)

        places_are : places_of (leaf_blocks table_kind part kept) ≡ addrs_to part
        places_are = places_leaves part kept (bear part kept has) (stored part kept has)

        there : (part : List Entry) (kept : List (List Row)) → HasLeaves (g.seen between) part kept → AllByRecursion (λ (b : Block). IsAddressed b) (leaf_blocks table_kind part kept) × Holds (g.seen between) (leaf_blocks table_kind part kept)
        there [] [] has = (tt, tt)
        there [] (rows ∷ kept) has = absurd has
        there (e ∷ part) [] has = absurd has
        there (e ∷ part) (rows ∷ kept) has =
            let one = leaf_there (g.seen between) e.link rows has.0.0 has.0.1 in
            let rest = there part kept has.1 in
            let is = first_block e rows part kept has.0.0 in (
              subst (λ (l : List Block). AllByRecursion (λ (b : Block). IsAddressed b) l) (sym is) (one.0, rest.0),
              subst (λ (l : List Block). Holds (g.seen between) l) (sym is) (one.1, rest.1),
            )

        writes : (part : List Entry) (kept : List (List Row)) → HasLeaves (g.seen between) part kept → WritesLeaves (g.seen between) (links_in part) kept []
        writes [] [] has = refl
        writes [] (rows ∷ kept) has = absurd has
        writes (e ∷ part) [] has = absurd has
        writes (e ∷ part) (rows ∷ kept) has = (None, [], inr has.0.1, writes part kept has.1, refl)

        own : (links : List Link) → AreOwn mid links links
        own [] = tt
        own (link ∷ links) = (inr (inl refl), own links)

        same : (links : List Link) (kept : List (List Row)) → KeepSame (g.seen between) links links kept
        same [] kept = tt
        same (link ∷ links) [] = tt
        same (link ∷ links) (rows ∷ kept) = ((λ some leaf. refl), same links kept)

-- the entries are put behind the others, or there is no memory for them
pub draft_put : {D : Type 0} (g : Ghosts D) (old : Option Kept) (first books books' : Books) (before after : D) (was : List Link) (leaves : List (List Row)) (addrs : List Addr) (es all : List Entry) (r : Result (Unit {0}) StoreError) → OnOk r (all ≡ es) → IfErr r (λ e. e ≡ NoMemory)
    → Drafted g old first books books' before after was leaves addrs es → DraftWrites g old first books books' before after was leaves addrs all r
draft_put g old first books books' before after was leaves addrs es all (Ok done) put short draft = subst (λ (l : List Entry). Drafted g old first books books' before after was leaves addrs l) (sym put) draft
draft_put g old first books books' before after was leaves addrs es all (Err e) put short draft = draft_failed g old first books books' before after was leaves addrs es draft e (λ is. want_space (sym short ∙ is))
