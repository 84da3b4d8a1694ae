-- The leaves and the pages above them, put together.
use Rattle.std.specs.Prelude.{◌≡◌, ℕ, ◌≤◌, Vec, List, [], ◌∷◌, ◌++◌, length, map, slice_get, ◌<◌, Option, None, Some, Result, Ok, Err, refl}
use Rattle.std.specs.List.{AllByRecursion}
use Rattle.std.specs.declared.alloc.Global.{Global}
use Rattle.std.proofs.Common.{inl, inr, sym, ◌∙◌, ap, subst, arith}
use Rattle.std.proofs.lemmas.List.{length-map, map-append}
use Rattle.disk_model.specs.declared.disk.Disk.{Ghosts}
use Rattle.disk_model.proofs.Crash.{joined}
use Rattle.block_mgr.specs.Blocks.{Books}
use Rattle.block_mgr.specs.Cells.{cell_at}
use Rattle.device_layout.specs.declared.addr.Addr.{Addr}
use Rattle.device_layout.specs.declared.link.Link.{Link}
use Rattle.device_leaf.specs.NoHistory.{no_root}
use Rattle.wt_code.specs.declared.store_error.StoreError.{StoreError}
use Rattle.stored.specs.Blocks.{Block, IsAddressed, IsAt}
use Rattle.stored.specs.Links.{nowhere}
use Rattle.stored.specs.Records.{Root}
use Rattle.stored.specs.Stored.{Stored as Kept}
use Rattle.stored.specs.Tree.{bottom, inner_blocks, join, leaf_blocks, tree_blocks}
use Rattle.stored.specs.HistoryTree.{HistoryClimbs, HistoryEntry, HistoryRecord, HistoryStays, HistoryTree, NamesOnce, RecordsAscend, history_kind, history_root_entry}
use Rattle.checkpoint_core.specs.Finishes.{IsOld}
use Rattle.hist_pages.specs.declared.leaf.HistoryLeaf.{HistoryLeaf}
use Rattle.hist_pages.specs.Leaves.{image_length}
use Rattle.hist_open.specs.Trees.{root_own}
use Rattle.hist_open.proofs.OneLeaf.{stay_none}
use Rattle.tree_write.specs.Captures.{Captures, IsPlaced, MayWrite, places_of}
use Rattle.tree_write.specs.Sizes.{LacksAll, page_sizes}
use Rattle.tree_write.proofs.Joining.{captures_join, captures_none, lacks_after, lacks_more, none_before}
use Rattle.tree_write.proofs.Lists.{all_both, all_map}
use Rattle.hist_write.specs.declared.writing.HistoryPlace.{HistoryPlace}
use Rattle.hist_write.specs.Cuts.{IsCut, captured_blocks, page_count, risen_blocks, sizes_of}
use Rattle.hist_write.specs.Steps.{LeavesStopped, LeavesWritten, RiseStopped, Rises, Rose, leaf_sizes, leasts_of, marks_of}
use Rattle.hist_write.specs.Writes.{HistoryStopped, HistoryWrites, HistoryWritten}
use Rattle.hist_write.proofs.Tops.{reach, top_over}
use Rattle.hist_write.proofs.Trees.{places_leaves, tree_all}
use Rattle.hist_write.proofs.Wholes.{AreFirst, Cut, Rooted, are_first, bear_all, bears_all, first_all, first_climb, first_stay, fit_all, bear_to, is_cut, rooted, sizes_are, stored_all}

module _ (drafts : List HistoryLeaf) (records : List HistoryRecord) (cut : Cut drafts records) (ascend : RecordsAscend None records) (once : NamesOnce records) (some : 1 ≤ length cut.leaves) where
  ascend_all : RecordsAscend None (join cut.leaves)
  ascend_all = subst (λ (l : List HistoryRecord). RecordsAscend None l) (sym cut.whole) ascend

  module _ {D : Type 0} (g : Ghosts D) (old : Option Kept) (first books0 : Books) (start : D) where
    -- the leaves have no room
    pub leaves_failed : (addrs : List Addr) (books' : Books) (end : D) (e : StoreError) → length cut.leaves ≤ reach 41 → LeavesStopped g old first books0 books' start end cut.leaves addrs e → HistoryStopped g old first records addrs books0 books' start end e
    leaves_failed addrs books' end e few stop = record {
      blocks = stop.blocks;
      sizes = stop.sizes;
      listed = stop.listed;
      captures = stop.captures;
      left = stop.left;
      lacks = λ is.
          let es = bear_all cut.leaves in
          let firsts = first_all cut.leaves cut.some in
          let climbs = first_climb es cut.leaves firsts ascend_all in
          let stays = first_stay es cut.leaves firsts ascend_all in
          let bear = bears_all cut.leaves cut.some in
          let long = many cut.leaves in
          let over = top_over 41 0 es es [] (record { lead = tt; bottom = refl; full = tt; needed = tt }) refl (fit_all cut.leaves cut.some) climbs (omega (arith, some, long)) (subst (λ (n : ℕ). n ≤ reach 41) (sym long) few) (omega arith) in
          let root : Root = record { level = over.level; link = over.top.link } in
          let of = rooted root over.top over.above es cut.leaves refl over.is.risen bear climbs stays in
          record {
            root = root;
            tree = record { layers = over.above; leaves = cut.leaves };
            cut = is_cut root over.top over.above es drafts records cut once some over.is of;
            lacks = subst (λ (l : List ℕ). LacksAll books0.space (g.capacity start) l) (sym (sizes_are root over.top over.above es cut.leaves bear (stored_all cut.leaves) over.is.risen of))
                (lacks_more books0.space (g.capacity start) (leaf_sizes cut.leaves) (page_sizes (page_count over.above)) (stop.lacks is));
          };
    }
      where
        many : (leaves : List (List HistoryRecord)) → length (bear_all leaves) ≡ length leaves
        many leaves = length-map leaves bear_to

    module _ (es : List HistoryEntry) (marks : marks_of es ≡ leasts_of drafts) (addrs : List Addr) (mid : Books) (between : D) (wrote : LeavesWritten g old first books0 mid start between cut.leaves es addrs) (room : g.capacity between ≡ g.capacity start) where
      firsts : AreFirst es cut.leaves
      firsts = are_first es drafts cut.leaves marks cut.spelled

      pub es_climb : HistoryClimbs es
      es_climb = first_climb es cut.leaves firsts ascend_all

      es_stay : HistoryStays es cut.leaves
      es_stay = first_stay es cut.leaves firsts ascend_all

      old_between : (c : List ℕ) → IsOld (g.may_leave between) old c → IsOld (g.may_leave start) old c
      old_between c (inl left) = wrote.captures.images c left
      old_between c (inr has) = inr has

      of_leaves : List Block
      of_leaves = leaf_blocks history_kind es cut.leaves

      -- the inner pages have no room
      rise_failed : (addrs' : List Addr) (books' : Books) (end : D) (e : StoreError) → RiseStopped g old first mid books' between end es addrs' e → HistoryStopped g old first records (addrs ++ addrs') books0 books' start end e
      rise_failed addrs' books' end e stop = record {
        blocks = leaf_blocks history_kind es cut.leaves ++ stop.blocks;
        sizes = leaf_sizes cut.leaves ++ stop.sizes;
        listed = ap (λ (l : List Addr). addrs ++ l) stop.listed ∙ (ap (λ (l : List Addr). l ++ places_of stop.blocks) wrote.listed ∙ sym (map-append {A = Block} {B = Addr} (λ b. b.place) (leaf_blocks history_kind es cut.leaves) stop.blocks));
        captures = λ safe. captures_join g old first (leaf_blocks history_kind es cut.leaves) stop.blocks (leaf_sizes cut.leaves) stop.sizes books0 mid books' start between end room wrote.captures (stop.captures safe);
        left = joined g start between end _ _ wrote.captures.left stop.left old_between;
        lacks = λ is.
            let none = stop.lacks is in
            let root : Root = record { level = none.level; link = none.top.link } in
            let of = rooted root none.top none.layers es cut.leaves refl none.is.risen wrote.bear es_climb es_stay in
            record {
              root = root;
              tree = record { layers = none.layers; leaves = cut.leaves };
              cut = is_cut root none.top none.layers es drafts records cut once some none.is of;
              lacks = subst (λ (l : List ℕ). LacksAll books0.space (g.capacity start) l) (sym (sizes_are root none.top none.layers es cut.leaves wrote.bear wrote.stored none.is.risen of))
                  (lacks_after books0.space mid.space (g.capacity start) (leaf_sizes cut.leaves) (page_sizes (page_count none.layers)) wrote.captures.places (subst (λ (k : ℕ). LacksAll mid.space k (page_sizes (page_count none.layers))) room none.lacks));
            };
      }

      module _ (addrs' : List Addr) (books' : Books) (end : D) (place : HistoryPlace) (rose : Rose g old first mid books' between end es addrs' place) where
        abbrev tree : HistoryTree
        tree = record { layers = rose.layers; leaves = cut.leaves }

        abbrev risen : List Block
        risen = risen_blocks (rose.top ∷ []) rose.layers

        of : Rooted place.root rose.top rose.layers es cut.leaves
        of = rooted place.root rose.top rose.layers es cut.leaves rose.link rose.is.risen wrote.bear es_climb es_stay

        is : IsCut place.root records tree
        is = is_cut place.root rose.top rose.layers es drafts records cut once some rose.is of

        blocks_are : leaf_blocks history_kind es cut.leaves ++ risen ≡ captured_blocks place.root tree
        blocks_are = ap (λ (l : List Block). l ++ risen) (sym of.leaf_same) ∙ ap (λ (l : List Block). leaf_blocks history_kind (bottom (root_own place.root) rose.layers) cut.leaves ++ l) (sym of.risen_same)

        sizes_same : leaf_sizes cut.leaves ++ page_sizes (page_count rose.layers) ≡ sizes_of (captured_blocks place.root tree)
        sizes_same = sym (sizes_are place.root rose.top rose.layers es cut.leaves wrote.bear wrote.stored rose.is.risen of)

        captures : Captures g old first (captured_blocks place.root tree) (sizes_of (captured_blocks place.root tree)) books0 books' start end
        captures = subst (λ (l : List ℕ). Captures g old first (captured_blocks place.root tree) l books0 books' start end) sizes_same
            (subst (λ (l : List Block). Captures g old first l (leaf_sizes cut.leaves ++ page_sizes (page_count rose.layers)) books0 books' start end) blocks_are
            (captures_join g old first (leaf_blocks history_kind es cut.leaves) risen (leaf_sizes cut.leaves) (page_sizes (page_count rose.layers)) books0 mid books' start between end room wrote.captures rose.captures))

        listed : addrs ++ addrs' ≡ places_of (captured_blocks place.root tree)
        listed = ap (λ (l : List Addr). addrs ++ l) rose.listed ∙ (ap (λ (l : List Addr). l ++ places_of risen) wrote.listed ∙ (sym (map-append {A = Block} {B = Addr} (λ b. b.place) (leaf_blocks history_kind es cut.leaves) risen) ∙ ap places_of blocks_are))

        leaf_places : places_of (leaf_blocks history_kind es cut.leaves) ≡ map {A = HistoryEntry} (λ e. e.link.addr) es
        leaf_places = places_leaves es cut.leaves wrote.bear wrote.stored

        stand : place.addrs.items ≡ places_of (tree_blocks history_kind (history_root_entry place.root.link) tree)
        stand = rose.stand ∙ (ap (λ (l : List Addr). places_of (inner_blocks history_kind (rose.top ∷ []) rose.layers) ++ l) (sym leaf_places)
            ∙ (sym (map-append {A = Block} {B = Addr} (λ b. b.place) (inner_blocks history_kind (rose.top ∷ []) rose.layers) (leaf_blocks history_kind es cut.leaves))
            ∙ (ap (λ (l : List Block). places_of (l ++ leaf_blocks history_kind es cut.leaves)) (sym of.inner_same)
            ∙ ap (λ (l : List Block). places_of (inner_blocks history_kind (root_own place.root) rose.layers ++ l)) (sym of.leaf_same))))

        placed0 : (a : Addr) → IsPlaced mid a → IsPlaced books0 a
        placed0 a placed = record { unit = placed.unit; units = placed.units; offset = placed.offset; size = placed.size; none = none_before placed.unit (cell_at books0.cells placed.unit) (places_of (leaf_blocks history_kind es cut.leaves)) (sym (wrote.captures.cells placed.unit) ∙ placed.none) }

        placed : AllByRecursion (λ (b : Block). IsPlaced books0 b.place) (captured_blocks place.root tree)
        placed = subst (λ (l : List Block). AllByRecursion (λ (b : Block). IsPlaced books0 b.place) l) blocks_are
            (all_both (λ (b : Block). IsPlaced books0 b.place) (leaf_blocks history_kind es cut.leaves) risen wrote.placed
            (all_map (λ (b : Block). IsPlaced mid b.place) (λ (b : Block). IsPlaced books0 b.place) risen (λ b one. placed0 b.place one) rose.placed))

        history_written : HistoryWritten g old first records (addrs ++ addrs') books0 books' start end place
        history_written = record {
          tree = tree;
          cut = is;
          has = record {
            is = is.tree;
            addressed = tree_all (λ (b : Block). IsAddressed b) place.root tree captures.addressed;
            holds = tree_all (λ (b : Block). IsAt (g.seen end) b) place.root tree captures.holds;
          };
          stand = stand;
          placed = placed;
          captures = captures;
          listed = listed;
        }

      -- so whatever the rise answers
      pub rise_answers : (addrs' : List Addr) (books' : Books) (end : D) (r : Result HistoryPlace StoreError) → Rises g old first mid books' between end es addrs' r → HistoryWrites g old first records (addrs ++ addrs') books0 books' start end r
      rise_answers addrs' books' end (Ok place) rose = history_written addrs' books' end place rose
      rise_answers addrs' books' end (Err e) stop = rise_failed addrs' books' end e stop

-- ---- a history without records

nothing_full : (r : HistoryRecord) → slice_get [] 0 ≡ Some r → 32768 < image_length ([] ++ r ∷ [])
nothing_full r is = cc

nothing_cut : IsCut no_root [] (record { layers = []; leaves = [] ∷ [] })
nothing_cut = record {
  tree = record {
    levels = refl;
    lead = tt;
    bear = (record { leaf = inl (refl, refl); begins = inl refl; says = record { greatest = refl; durable = refl } }, tt);
    parts = record { climbs = tt; stays = (stay_none [], tt); once = tt };
  };
  whole = refl;
  full_leaves = (nothing_full, tt);
  full_layers = tt;
  needed = tt;
  nowhere = λ none. refl;
}

module _ {D : Type 0} (g : Ghosts D) (old : Option Kept) (first books : Books) (d : D) where
  pub nothing_written : MayWrite (g.seen d) (g.may_leave d) books old → ((c : List ℕ) → g.left_since d (g.moment d) c → g.may_leave d c) → (records : List HistoryRecord) → records ≡ [] → (link : Link) → link ≡ nowhere → (addrs : Vec Addr Global) → addrs.items ≡ []
      → HistoryWritten g old first records [] books books d d (record { root = record { level = 0; link = link }; addrs = addrs })
  nothing_written may only records none link is addrs empty =
      subst (λ (r : List HistoryRecord). HistoryWritten g old first r [] books books d d (record { root = record { level = 0; link = link }; addrs = addrs })) (sym none)
      (subst (λ (l : Link). HistoryWritten g old first [] [] books books d d (record { root = record { level = 0; link = l }; addrs = addrs })) (sym is)
      (record {
        tree = record { layers = []; leaves = [] ∷ [] };
        cut = nothing_cut;
        has = record { is = nothing_cut.tree; addressed = tt; holds = tt };
        stand = empty;
        placed = tt;
        captures = captures_none g old first books d only may;
        listed = refl;
      }))
