-- The history, which is captured behind the trees.
use Rattle.std.specs.Prelude.{◌≡◌, ◌++◌, ◌≤◌, ℕ, true, List, length, Option, refl}
use Rattle.std.proofs.Common.{inl, inr, sym, ◌∙◌, ap, subst, arith}
use Rattle.std.proofs.lemmas.Bool.{false≢true}
use Rattle.std.proofs.lemmas.List.Sums.{fold-append}
use Rattle.disk_model.specs.declared.disk.Disk.{Ghosts}
use Rattle.disk_model.specs.Crash.{Keeps, LeavesOnly}
use Rattle.disk_model.proofs.Crash.{joined, keeps_fewer, keeps_refl, keeps_trans, started}
use Rattle.block_mgr.specs.declared.cell.Cell.{Cell}
use Rattle.block_mgr.specs.Blocks.{Books, Has}
use Rattle.block_mgr.specs.Cells.{cell_at, is_used}
use Rattle.device_layout.specs.declared.addr.Addr.{Addr}
use Rattle.kv_model.specs.History.{Table}
use Rattle.kv_model.specs.Holds.{Member}
use Rattle.stored.specs.Blocks.{Block}
use Rattle.stored.specs.HistoryTree.{HistoryRecord}
use Rattle.stored.specs.Stored.{Stored}
use Rattle.wt_code.specs.declared.store_error.StoreError.{StoreError}
use Rattle.wt_code.specs.declared.store_error.StoreError.TheVariants.{NoMemory}
use Rattle.checkpoint_core.specs.Finishes.{IsOld}
use Rattle.tree_open.specs.declared.place.TreePlace.{TreePlace}
use Rattle.tree_dir.specs.declared.leaf.Leaf.{Leaf}
use Rattle.tree_write.specs.Captures.{Captures, IsNewOrLive, IsPlaced, MayWrite, places_of, with_addr, with_addrs}
use Rattle.tree_write.specs.Sizes.{LacksAll, PlacesAll}
use Rattle.tree_write.proofs.Joining.{captures_apart}
use Rattle.hist_write.specs.declared.writing.HistoryPlace.{HistoryPlace}
use Rattle.hist_write.specs.Cuts.{captured_blocks, sizes_of}
use Rattle.hist_write.specs.Writes.{HistoryStopped, HistoryWritten}
use Rattle.ckpt_step.specs.Grounds.{start_cell}
use Rattle.ckpt_step.specs.Halves.{AllTaken, AllWritten, Body, IsNewBlock, Runs, SomeTaken, SomeWritten, older_blocks}
use Rattle.ckpt_step.specs.Moments.{IsHistoryThen, Moment}
use Rattle.ckpt_step.specs.Rooms.{Written}
use Rattle.ckpt_step.specs.Trees.{addrs_of, trees_blocks}
use Rattle.ckpt_step.specs.declared.lives.Lone.{Lone}
use Rattle.ckpt_step.specs.declared.parts.LeafPart.{LeafPart}
use Rattle.ckpt_step.proofs.CapturedOrder.{apart_join}
use Rattle.ckpt_step.proofs.HalfCells.{may_of, none_before}
use Rattle.ckpt_step.proofs.HistoryOrder.{captured_in, history_apart, in_captured, new_distinct, no_books, none_live}
use Rattle.ckpt_step.proofs.Members.{all_made, all_of, in_back, in_either, in_front, map_member, member_map}
use Rattle.ckpt_step.proofs.OthersStay.{new_apart}
use Rattle.ckpt_step.proofs.PlacedTrees.{all_both, has_apart, trees_kept}
use Rattle.ckpt_step.proofs.Within.{ends_within}

module _ {D : Type 0} (g : Ghosts D) (old : Option Stored) (lives : List Lone) (n : Moment) (known : List Table) (leaves : List Leaf) (had : Written) (books : Books) (places : List TreePlace) (more : List LeafPart) (captured : List Addr) (before : D) where
  -- the trees were not all captured
  pub trees_stopped : (books' : Books) (after : D) (e : StoreError) → SomeWritten g old lives n known leaves had books books' places more captured before after e → SomeTaken g old lives n known leaves had books books' places more captured before after e
  trees_stopped books' after e some = record { runs = some.runs; left = some.left; keeps = some.keeps; lacks = λ is. inl (some.lacks is) }

  -- there was no memory for the older versions
  pub none_gathered : Runs (g.seen before) (g.may_leave before) books old lives captured → ((c : List ℕ) → g.left_since before (g.moment before) c → g.may_leave before c) → SomeTaken g old lives n known leaves had books books places more captured before before NoMemory
  none_gathered runs only = record {
    runs = λ safe. runs;
    left = started g before (IsOld (g.may_leave before) old) (λ c left. inl (only c left));
    keeps = λ safe. keeps_refl (Has books.cells) (g.seen before);
    lacks = λ is. absurd (cc);
  }

  module _ (mid : D) (half_books : Books) (all : AllWritten g old lives n known leaves had books half_books places more captured before mid) (counts : (c : List ℕ) → g.may_leave mid c → g.left_since mid (g.moment before) c) where
    -- blocks may be written behind them
    pub may : MayWrite (g.seen mid) (g.may_leave mid) half_books old
    may = may_of (g.seen mid) (g.may_leave mid) half_books old lives captured all.half.runs

    old_since : (c : List ℕ) → IsOld (g.may_leave mid) old c → IsOld (g.may_leave before) old c
    old_since c (inl image) = all.left.each c (counts c image)
    old_since c (inr still) = inr still

    left_on : (after : D) → LeavesOnly g mid after (IsOld (g.may_leave mid) old) → LeavesOnly g before after (IsOld (g.may_leave before) old)
    left_on after left = joined g before mid after _ _ all.left left old_since

    keeps_on : (after : D) → Keeps (Has half_books.cells) (g.seen mid) (g.seen after) → Keeps (Has books.cells) (g.seen before) (g.seen after)
    keeps_on after still = keeps_trans (Has books.cells) (g.seen before) (g.seen mid) (g.seen after) all.keeps (keeps_fewer (Has half_books.cells) (Has books.cells) (g.seen mid) (g.seen after) all.used still)

    -- blocks that are captured more, each of them new
    module _ (books' : Books) (after : D) (blocks : List Block) (sizes : List ℕ) (caught : Captures g old no_books blocks sizes half_books books' mid after) where
      long_end : 8192 ≤ length (g.seen after)
      long_end = omega (arith, all.half.runs.long, caught.keeps.no_shorter)

      is_new : (a : Addr) → IsNewOrLive no_books half_books a → IsNewBlock old lives a
      is_new a (inl placed) = record { unit = placed.unit; units = placed.units; offset = placed.offset; size = placed.size; none = none_before old lives captured placed.unit (sym (all.half.runs.cells placed.unit) ∙ placed.none) }
      is_new a (inr live) = absurd (none_live a live)

      runs_on : Runs (g.seen after) (g.may_leave after) books' old lives (captured ++ places_of blocks)
      runs_on = record {
        stands = caught.may.stands;
        cells = λ u. caught.cells u ∙ (ap (λ (c : Cell). with_addrs u c (places_of blocks)) (all.half.runs.cells u) ∙ sym (fold-append (with_addr u) (start_cell old lives u) captured (places_of blocks)));
        units = caught.may.units;
        long = long_end;
        within = ends_within half_books books' (g.capacity mid) sizes blocks (g.seen after) all.half.runs.units caught.may.units (omega (arith, all.half.runs.within, caught.keeps.no_shorter)) long_end caught.places caught.holds caught.in_use caught.cells;
        own = λ a among. elim (in_either captured (places_of blocks) a among) [
          | inl early ↦ all.half.runs.own a early
          | inr late ↦ let b = member_map {A = Block} (λ x. x.place) a blocks late in inr (subst (λ (x : Addr). IsNewBlock old lives x) (sym b.2) (is_new b.0.place (all_of (λ (x : Block). IsNewOrLive no_books half_books x.place) blocks b.0 caught.each b.1)))
        ];
      }

    module _ (books' : Books) (after : D) (records : List HistoryRecord) (are : IsHistoryThen n records) (addrs : List Addr) where
      module _ (place : HistoryPlace) (wrote : HistoryWritten g old no_books records addrs half_books books' mid after place) (held : books'.is_held ≡ true) where
        abbrev blocks : List Block
        blocks = captured_blocks place.root wrote.tree

        abbrev older : List Block
        older = older_blocks place.root wrote.tree

        abbrev of_trees : List Block
        of_trees = trees_blocks places all.trees

        has_early : (b : Block) → Member b of_trees → Has half_books.cells b.place.offset b.place.size
        has_early b early = all_of (λ (x : Block). Has half_books.cells x.place.offset x.place.size) of_trees b all.half.in_use early

        has_late : (b : Block) → Member b older → Has books'.cells b.place.offset b.place.size
        has_late b late = all_of (λ (x : Block). Has books'.cells x.place.offset x.place.size) blocks b wrote.captures.in_use (in_captured place.root wrote.tree b late)

        -- it begins where none of the trees' does
        differs : (b c : Block) → Member b of_trees → Member c older → b.place.offset ≡ c.place.offset → ⊥
        differs b c early late same =
            let placed = all_of (λ (x : Block). IsPlaced half_books x.place) blocks c wrote.placed (in_captured place.root wrote.tree c late) in
            let used = has_early b early in
            let unit : used.0 ≡ placed.unit = omega (arith, same, used.1, placed.offset) in
            false≢true (sym (ap is_used (ap (cell_at half_books.cells) unit ∙ placed.none)) ∙ used.3)

        stand_in : (a : Addr) → Member a place.addrs.items → Member a (places_of blocks)
        stand_in a among =
            let b = member_map {A = Block} (λ x. x.place) a older (subst (λ (l : List Addr). Member a l) wrote.stand among) in
            subst (λ (x : Addr). Member x (places_of blocks)) (sym b.2) (map_member {A = Block} (λ x. x.place) b.0 blocks (in_captured place.root wrote.tree b.0 b.1))

        in_stand : (a : Addr) → Member a (places_of blocks) → Member a place.addrs.items
        in_stand a among =
            let b = member_map {A = Block} (λ x. x.place) a blocks among in
            subst (λ (l : List Addr). Member a l) (sym wrote.stand) (subst (λ (x : Addr). Member x (places_of older)) (sym b.2) (map_member {A = Block} (λ x. x.place) b.0 older (captured_in place.root wrote.tree b.0 b.1)))

        body : Body (g.seen after) (g.may_leave after) books' old lives (captured ++ places_of blocks) places all.trees place.root wrote.tree place.addrs.items
        body = record {
          runs = runs_on books' after blocks (sizes_of blocks) wrote.captures;
          held = held;
          there = trees_kept half_books.cells (g.seen mid) (g.seen after) places all.trees all.half.there all.half.in_use wrote.captures.keeps;
          has = wrote.has;
          in_use = all_both (λ (b : Block). Has books'.cells b.place.offset b.place.size) of_trees older
              (all_made (λ (b : Block). Has books'.cells b.place.offset b.place.size) of_trees (λ b early. wrote.captures.used b.place.offset b.place.size (has_early b early)))
              (all_made (λ (b : Block). Has books'.cells b.place.offset b.place.size) older has_late);
          apart = apart_join of_trees older all.half.apart
              (history_apart place.root wrote.tree (captures_apart g old no_books blocks (sizes_of blocks) half_books books' mid after wrote.captures (new_distinct blocks wrote.captures.once)))
              (λ b c early late. has_apart books'.cells books'.space b.place c.place wrote.captures.may.units (wrote.captures.used b.place.offset b.place.size (has_early b early)) (has_late c late) (differs b c early late));
          stand_is = wrote.stand;
          listed = λ a. (
            (λ among. elim (in_either captured (places_of blocks) a among) [
              | inl early ↦ in_front (addrs_of places) place.addrs.items a ((all.half.listed a).0 early)
              | inr late ↦ in_back (addrs_of places) place.addrs.items a (in_stand a late)
            ]),
            (λ among. elim (in_either (addrs_of places) place.addrs.items a among) [
              | inl early ↦ in_front captured (places_of blocks) a ((all.half.listed a).1 early)
              | inr late ↦ in_back captured (places_of blocks) a (stand_in a late)
            ]),
          );
        }

        -- all is captured
        pub all_taken : (captured' : List Addr) → captured' ≡ captured ++ addrs → g.capacity mid ≡ g.capacity before → AllTaken g old lives n known leaves had books books' places more captured' before after place.root place.addrs.items
        all_taken captured' captured_are room = record {
          trees = all.trees;
          history = wrote.tree;
          body = subst (λ (l : List Addr). Body (g.seen after) (g.may_leave after) books' old lives l places all.trees place.root wrote.tree place.addrs.items) (sym (captured_are ∙ ap (λ (l : List Addr). captured ++ l) wrote.listed)) body;
          rows = all.rows;
          older = subst (IsHistoryThen n) (sym wrote.cut.whole) are;
          left = left_on after wrote.captures.left;
          keeps = keeps_on after wrote.captures.keeps;
          used = λ at k has. wrote.captures.used at k (all.used at k has);
          placed = (half_books.space, sizes_of blocks, all.placed, record { records = records; are = are; root = place.root; tree = wrote.tree; cut = wrote.cut; sizes_are = refl }, subst (λ (k : ℕ). PlacesAll half_books.space k (sizes_of blocks) books'.space) room wrote.captures.places);
          by_leaves = all.by_leaves;
          of_tables = all.of_tables;
          apart = λ l there live other a mine same. elim (in_either captured (places_of blocks) a (subst (λ (m : List Addr). Member a m) (captured_are ∙ ap (λ (m : List Addr). captured ++ m) wrote.listed) mine)) [
            | inl early ↦ all.apart l there live other a early same
            | inr late ↦ (let b = member_map {A = Block} (λ x. x.place) a blocks late in new_apart old lives l a live (subst (λ (x : Addr). IsNewBlock old lives x) (sym b.2) (is_new books' after blocks (sizes_of blocks) wrote.captures b.0.place (all_of (λ (x : Block). IsNewOrLive no_books half_books x.place) blocks b.0 wrote.captures.each b.1))) same)
          ];
        }

      -- some blocks of the history are
      pub history_stopped : (captured' : List Addr) (e : StoreError) → captured' ≡ captured ++ addrs → g.capacity mid ≡ g.capacity before → HistoryStopped g old no_books records addrs half_books books' mid after e → SomeTaken g old lives n known leaves had books books' places more captured' before after e
      history_stopped captured' e captured_are room stopped = record {
        runs = λ safe. subst (λ (l : List Addr). Runs (g.seen after) (g.may_leave after) books' old lives l) (sym (captured_are ∙ ap (λ (l : List Addr). captured ++ l) stopped.listed)) (runs_on books' after stopped.blocks stopped.sizes (stopped.captures safe));
        left = left_on after stopped.left;
        keeps = λ safe. keeps_on after (stopped.captures safe).keeps;
        lacks = λ is. let none = stopped.lacks is in inr (half_books.space, sizes_of (captured_blocks none.root none.tree), all.placed, record { records = records; are = are; root = none.root; tree = none.tree; cut = none.cut; sizes_are = refl }, subst (λ (k : ℕ). LacksAll half_books.space k (sizes_of (captured_blocks none.root none.tree))) room none.lacks);
      }
