-- Blocks that were found, and the blocks that stand there.
use Rattle.std.specs.Prelude.{◌≡◌, ℕ, zero, suc, ◌+◌, ◌<◌, ◌≤◌, ◌==◌, max, true, List, [], ◌∷◌, ◌++◌, length, map, refl}
use Rattle.std.specs.List.{AllByRecursion, fold}
use Rattle.std.proofs.Common.{inl, inr, sym, ◌∙◌, ap, subst, arith}
use Rattle.std.proofs.lemmas.Bool.{cases_Bool, false≢true}
use Rattle.extent_list.proofs.SpaceLemmas.{free_before_end}
use Rattle.device_layout.specs.declared.addr.Addr.{Addr}
use Rattle.device_layout.specs.declared.slot.Slot.{Slot}
use Rattle.block_mgr.specs.declared.cell.Cell.{Cell}
use Rattle.block_mgr.specs.declared.found.Found.{Found}
use Rattle.block_mgr.specs.Blocks.{Books, Has}
use Rattle.block_mgr.specs.Found.{lasts}
use Rattle.block_mgr.specs.Places.{IsPlace}
use Rattle.block_mgr.specs.Open.{AreStored, Agree, Fits, found_at}
use Rattle.row_page.specs.Rows.{Row}
use Rattle.stored.specs.Blocks.{Block, IsAddressed, Holds, Apart, AreApart}
use Rattle.stored.specs.Tree.{Layer, join, bottom, page_blocks, inner_blocks, leaf_blocks, tree_blocks}
use Rattle.stored.specs.TableTree.{Entry, TableTree, table_kind, root_entry}
use Rattle.stored.specs.HistoryTree.{HistoryEntry, HistoryRecord, HistoryTree, history_kind}
use Rattle.stored.specs.Records.{TableRoot, Record}
use Rattle.stored.specs.Stored.{tables_blocks, history_blocks}
use Rattle.checkpoint_core.specs.Stands.{AreInUse}
use Rattle.checkpoint_core.specs.Room.{InBlocks, end_of}
use Rattle.device_leaf.specs.Openings.{HasBooks}
use Rattle.device_leaf.proofs.Leaves.{place_is, leaf_bytes}
use Rattle.tree_open.specs.Trees.{places}
use Rattle.tree_open.proofs.OnePage.{image_bytes}
use Rattle.device_leaf.proofs.Shapes.{all_join}
use Rattle.device_leaf.proofs.Books.{ends, Inside, Told, found_used, not_free, free_or_found}
use Rattle.device_leaf.specs.Damage.{record_found}
use Rattle.hist_open.proofs.OnePage.{image_bytes as history_page_bytes}
use Rattle.hist_open.proofs.OneLeaf.{image_bytes as history_leaf_bytes}
use Rattle.recover_open.specs.Damage.{found_there}

-- each was found where a block stands, one by one
abbrev pub Matches : List Found → List Block → Type 0
Matches [] [] = Unit {0}
Matches [] (b ∷ blocks) = ⊥
Matches (f ∷ found) [] = ⊥
Matches (f ∷ found) (b ∷ blocks) = (f.addr ≡ b.place) × Matches found blocks

-- the blocks of trees are found where they stand
abbrev pub found_of : List Block → List Found
found_of blocks = map {A = Block} (λ b. found_there b.place) blocks

pub blocks_match : (blocks : List Block) → Matches (found_of blocks) blocks
blocks_match [] = tt
blocks_match (b ∷ blocks) = (refl, blocks_match blocks)

-- ---- the same by their places

pub found_places : (blocks : List Block) → found_of blocks ≡ map found_there (places blocks)
found_places [] = refl
found_places (b ∷ blocks) = ap (λ (l : List Found). found_there b.place ∷ l) (found_places blocks)

-- ---- images of at least a header

abbrev pub IsLong : Block → Type 0
IsLong b = 16 ≤ length b.image

abbrev AllLong : List Block → Type 0
AllLong blocks = AllByRecursion (λ (b : Block). IsLong b) blocks

pages_long : (level : ℕ) (own : List Entry) (pages : Layer Entry) → AllLong (page_blocks table_kind level own pages)
pages_long level [] pages = tt
pages_long level (e ∷ own) [] = tt
pages_long level (e ∷ own) (p ∷ pages) = (image_bytes level p, pages_long level own pages)

layers_long : (own : List Entry) (layers : List (Layer Entry)) → AllLong (inner_blocks table_kind own layers)
layers_long own [] = tt
layers_long own (pages ∷ layers) =
    all_join (λ (b : Block). IsLong b) (page_blocks table_kind (suc (length layers)) own pages) (inner_blocks table_kind (join pages) layers) (pages_long (suc (length layers)) own pages) (layers_long (join pages) layers)

leaves_long : (es : List Entry) (leaves : List (List Row)) → AllLong (leaf_blocks table_kind es leaves)
leaves_long [] leaves = tt
leaves_long (e ∷ es) [] = tt
leaves_long (e ∷ es) (rows ∷ leaves) = elim (cases_Bool (e.link.addr.offset == 0)) [ inl is ↦ rw is (leaves_long es leaves) | inr isnt ↦ rw isnt (leaf_bytes rows, leaves_long es leaves) ]

pub tables_long : (tables : List TableRoot) (trees : List TableTree) → AllLong (tables_blocks tables trees)
tables_long [] trees = tt
tables_long (t ∷ tables) [] = tt
tables_long (t ∷ tables) (tree ∷ trees) =
    let own : List Entry = root_entry t.root.link ∷ [] in
    all_join (λ (b : Block). IsLong b) (tree_blocks table_kind (root_entry t.root.link) tree) (tables_blocks tables trees)
    (all_join (λ (b : Block). IsLong b) (inner_blocks table_kind own tree.layers) (leaf_blocks table_kind (bottom own tree.layers) tree.leaves) (layers_long own tree.layers) (leaves_long (bottom own tree.layers) tree.leaves)) (tables_long tables trees)

history_pages_long : (level : ℕ) (own : List HistoryEntry) (pages : Layer HistoryEntry) → AllLong (page_blocks history_kind level own pages)
history_pages_long level [] pages = tt
history_pages_long level (e ∷ own) [] = tt
history_pages_long level (e ∷ own) (p ∷ pages) = (history_page_bytes level p, history_pages_long level own pages)

history_layers_long : (own : List HistoryEntry) (layers : List (Layer HistoryEntry)) → AllLong (inner_blocks history_kind own layers)
history_layers_long own [] = tt
history_layers_long own (pages ∷ layers) =
    all_join (λ (b : Block). IsLong b) (page_blocks history_kind (suc (length layers)) own pages) (inner_blocks history_kind (join pages) layers) (history_pages_long (suc (length layers)) own pages) (history_layers_long (join pages) layers)

history_leaves_long : (es : List HistoryEntry) (leaves : List (List HistoryRecord)) → AllLong (leaf_blocks history_kind es leaves)
history_leaves_long [] leaves = tt
history_leaves_long (e ∷ es) [] = tt
history_leaves_long (e ∷ es) (records ∷ leaves) =
    elim (cases_Bool (e.link.addr.offset == 0)) [ inl is ↦ rw is (history_leaves_long es leaves) | inr isnt ↦ rw isnt (history_leaf_bytes records, history_leaves_long es leaves) ]

pub history_long : (root : HistoryEntry) (t : HistoryTree) → AllLong (tree_blocks history_kind root t)
history_long root t =
    all_join (λ (b : Block). IsLong b) (inner_blocks history_kind (root ∷ []) t.layers) (leaf_blocks history_kind (bottom (root ∷ []) t.layers) t.leaves) (history_layers_long (root ∷ []) t.layers) (history_leaves_long (bottom (root ∷ []) t.layers) t.leaves)

-- ---- who has them

abbrev pub AllLast : List Found → Type 0
AllLast found = AllByRecursion (λ (f : Found). lasts f.holder ≡ true) found

pub blocks_last : (blocks : List Block) → AllLast (found_of blocks)
blocks_last [] = tt
blocks_last (b ∷ blocks) = (refl, blocks_last blocks)

-- the block of the record, those of the trees, and those of the history
abbrev pub all_found : Slot → Record → List TableTree → HistoryTree → List Found
all_found slot r trees history = record_found slot ∷ found_of (tables_blocks r.tables trees ++ history_blocks r history)

-- ---- blocks that stand apart can all be in use

none_stored : (len : ℕ) → AreStored [] len
none_stored len = record { fit = λ i lt. absurd (omega (arith, lt)); agree = λ i j lt less. absurd (omega (arith, less)) }

cons_stored : (f : Found) (found : List Found) (len : ℕ) → Fits f len → ((j : ℕ) → j < length found → Agree f (found_at found j)) → AreStored found len → AreStored (f ∷ found) len
cons_stored f found len fits agrees rest = record { fit = fit; agree = λ i j lt less. agree i j lt less }
  where
    fit : (i : ℕ) → i < length (f ∷ found) → Fits (found_at (f ∷ found) i) len
    fit zero lt = fits
    fit (suc i) lt = rest.fit i (omega (arith, lt))

    agree : (i j : ℕ) → i < j → j < length (f ∷ found) → Agree (found_at (f ∷ found) i) (found_at (f ∷ found) j)
    agree zero zero lt less = absurd (omega (arith, lt))
    agree zero (suc j) lt less = agrees j (omega (arith, less))
    agree (suc i) zero lt less = absurd (omega (arith, lt))
    agree (suc i) (suc j) lt less = rest.agree i j (omega (arith, lt)) (omega (arith, less))

tail_stored : (f : Found) (found : List Found) (len : ℕ) → AreStored (f ∷ found) len → AreStored found len
tail_stored f found len are = record { fit = λ i lt. are.fit (suc i) (omega (arith, lt)); agree = λ i j lt less. are.agree (suc i) (suc j) (omega (arith, lt)) (omega (arith, less)) }

agrees_with : (f : Found) (b : Block) (found : List Found) (blocks : List Block) → f.addr ≡ b.place → Matches found blocks → AllByRecursion (λ (c : Block). AreApart b.place c.place) blocks → (j : ℕ) → j < length found → Agree f (found_at found j)
agrees_with f b [] blocks is m apart j lt = absurd (omega (arith, lt))
agrees_with f b (g ∷ found) [] is m apart j lt = absurd m
agrees_with f b (g ∷ found) (c ∷ blocks) is m apart zero lt = inl (subst (λ (x : Addr). AreApart x g.addr) (sym is) (subst (λ (y : Addr). AreApart b.place y) (sym m.0) apart.0))
agrees_with f b (g ∷ found) (c ∷ blocks) is m apart (suc j) lt = agrees_with f b found blocks is m.1 apart.1 j (omega (arith, lt))

pub stored_of : (found : List Found) (blocks : List Block) (bytes : List ℕ) → Matches found blocks → AllByRecursion (λ (b : Block). IsAddressed b) blocks → Holds bytes blocks → AllByRecursion (λ (b : Block). IsLong b) blocks → Apart blocks → AreStored found (length bytes)
stored_of [] blocks bytes m addressed holds long apart = none_stored (length bytes)
stored_of (f ∷ found) [] bytes m addressed holds long apart = absurd m
stored_of (f ∷ found) (b ∷ blocks) bytes m addressed holds long apart =
    cons_stored f found (length bytes) (subst (λ (x : Addr). IsPlace x × (x.offset + x.size ≤ length bytes)) (sym m.0) (place_is b long.0 addressed.0, holds.0.within)) (agrees_with f b found blocks m.0 m.1 apart.0)
    (stored_of found blocks bytes m.1 addressed.1 holds.1 long.1 apart.1)

-- ---- and blocks that can all be in use stand apart

apart_if : (f g : Found) (b c : Block) → f.addr ≡ b.place → g.addr ≡ c.place → lasts f.holder ≡ true → lasts g.holder ≡ true → Agree f g → AreApart b.place c.place
apart_if f g b c is also last too (inl apart) = subst (λ (x : Addr). AreApart x c.place) is (subst (λ (y : Addr). AreApart f.addr y) also apart)
apart_if f g b c is also last too (inr shared) = absurd (elim shared.shared [ inl none ↦ false≢true (sym none ∙ last) | inr none ↦ false≢true (sym none ∙ too) ])

apart_from : (f : Found) (b : Block) (found : List Found) (blocks : List Block) → f.addr ≡ b.place → lasts f.holder ≡ true → Matches found blocks → AllLast found → ((j : ℕ) → j < length found → Agree f (found_at found j)) → AllByRecursion (λ (c : Block). AreApart b.place c.place) blocks
apart_from f b [] [] is last m all agree = tt
apart_from f b [] (c ∷ blocks) is last m all agree = absurd m
apart_from f b (g ∷ found) [] is last m all agree = absurd m
apart_from f b (g ∷ found) (c ∷ blocks) is last m all agree = (apart_if f g b c is m.0 last all.0 (agree zero (omega arith)), apart_from f b found blocks is last m.1 all.1 (λ j lt. agree (suc j) (omega (arith, lt))))

pub apart_of : (found : List Found) (blocks : List Block) (len : ℕ) → Matches found blocks → AllLast found → AreStored found len → Apart blocks
apart_of [] [] len m all are = tt
apart_of [] (b ∷ blocks) len m all are = absurd m
apart_of (f ∷ found) [] len m all are = absurd m
apart_of (f ∷ found) (b ∷ blocks) len m all are =
    (apart_from f b found blocks m.0 all.0 m.1 all.1 (λ j lt. are.agree zero (suc j) (omega arith) (omega (arith, lt))), apart_of found blocks len m.1 all.1 (tail_stored f found len are))

-- ---- what the books say of the blocks

in_use_of : (used : List Cell) (found : List Found) (blocks : List Block) → Matches found blocks → ((j : ℕ) → j < length found → Has used (found_at found j).addr.offset (found_at found j).addr.size) → AreInUse used blocks
in_use_of used [] [] m has = tt
in_use_of used [] (b ∷ blocks) m has = absurd m
in_use_of used (f ∷ found) [] m has = absurd m
in_use_of used (f ∷ found) (b ∷ blocks) m has = (subst (λ (a : Addr). Has used a.offset a.size) m.0 (has zero (omega arith)), in_use_of used found blocks m.1 (λ j lt. has (suc j) (omega (arith, lt))))

abbrev end_from : ℕ → List Found → ℕ
end_from end found = fold {A = Found} {B = ℕ} (λ e f. max e (f.addr.offset + f.addr.size)) end found

end_same : (found : List Found) (blocks : List Block) (end : ℕ) → Matches found blocks → 8192 ≤ end → end_from end found ≡ max end (end_of blocks)
end_same [] [] end m low = omega (arith, low)
end_same [] (b ∷ blocks) end m low = absurd m
end_same (f ∷ found) [] end m low = absurd m
end_same (f ∷ found) (b ∷ blocks) end m low =
    omega (arith, end_same found blocks (max end (f.addr.offset + f.addr.size)) m.1 (omega (arith, low)), ap (λ (a : Addr). a.offset) m.0, ap (λ (a : Addr). a.size) m.0)

end_low : (blocks : List Block) → 8192 ≤ end_of blocks
end_low [] = omega arith
end_low (b ∷ blocks) = omega (arith, end_low blocks)

end_before : (found : List Found) (end len : ℕ) → end ≤ len → ((j : ℕ) → j < length found → ends (found_at found j).addr ≤ len) → end_from end found ≤ len
end_before [] end len le all = le
end_before (f ∷ found) end len le all = end_before found (max end (f.addr.offset + f.addr.size)) len (omega (arith, le, all zero (omega arith))) (λ j lt. all (suc j) (omega (arith, lt)))

inside_of : (found : List Found) (blocks : List Block) (b : ℕ) → Matches found blocks → InBlocks blocks b → (j : ℕ) × (j < length found) × Inside found j b
inside_of found [] b m inside = absurd inside
inside_of [] (x ∷ blocks) b m inside = absurd m
inside_of (f ∷ found) (x ∷ blocks) b m (inl here) = (zero, omega arith, (omega (arith, here.0, ap (λ (a : Addr). a.offset) m.0), omega (arith, here.1, ap (λ (a : Addr). a.offset) m.0, ap (λ (a : Addr). a.size) m.0)))
inside_of (f ∷ found) (x ∷ blocks) b m (inr rest) = let there = inside_of found blocks b m.1 rest in (suc there.0, omega (arith, there.1), there.2)

in_blocks : (found : List Found) (blocks : List Block) (b j : ℕ) → Matches found blocks → j < length found → Inside found j b → InBlocks blocks b
in_blocks [] blocks b j m lt inside = absurd (omega (arith, lt))
in_blocks (f ∷ found) [] b j m lt inside = absurd m
in_blocks (f ∷ found) (x ∷ blocks) b zero m lt inside = inl (omega (arith, inside.0, ap (λ (a : Addr). a.offset) m.0), omega (arith, inside.1, ap (λ (a : Addr). a.offset) m.0, ap (λ (a : Addr). a.size) m.0))
in_blocks (f ∷ found) (x ∷ blocks) b (suc j) m lt inside = inr (in_blocks found blocks b j m.1 (omega (arith, lt)) inside)

pub told_of : (found : List Found) (blocks : List Block) (books : Books) (len : ℕ) → Matches found blocks → 8192 ≤ len → HasBooks found books → AreStored found len → Told books.cells blocks books.space len
told_of found blocks books len m long has are = record {
  in_use = in_use_of books.cells found blocks m (λ j lt. found_used found books len has are j lt);
  space_is = record {
    end_is = has.end ∙ omega (arith, end_same found blocks 8192 m (omega arith), end_low blocks);
    free = λ b free. (free.0, free_before_end books.space b free, λ inside. let there = inside_of found blocks b m inside in not_free found books len has are there.0 b there.1 there.2 free);
    rest = λ b low high none. elim (free_or_found found books len has are b low high) [
      | inl free ↦ free
      | inr there ↦ absurd (none (in_blocks found blocks b there.0 m there.1 there.2))
    ];
  };
  within = omega (arith, has.end, end_before found 8192 len long (λ j lt. (are.fit j lt).1));
}
