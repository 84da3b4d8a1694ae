-- Leaves that are captured, one after the other.
use Rattle.std.specs.Prelude.{◌≡◌, ℕ, zero, suc, ◌+◌, ◌<◌, ◌≤◌, ◌-◌, List, [], ◌∷◌, ◌++◌, length, replicate, Option, Ok, Err, refl}
use Rattle.std.specs.List.{AllByRecursion, flat_map}
use Rattle.std.proofs.Common.{inl, inr, sym, ◌∙◌, ap, subst, arith, append_assoc, get_or}
use Rattle.std.proofs.lemmas.List.{append-nil, map-append}
use Rattle.disk_model.specs.declared.disk.Disk.{Ghosts}
use Rattle.disk_model.proofs.Crash.{joined}
use Rattle.extent_list.specs.Space.{HasNoRoom}
use Rattle.le_codec.specs.Images.{block_of, block_size, first_format}
use Rattle.le_codec.proofs.Heads.{length-framed}
use Rattle.block_mgr.specs.Blocks.{Books}
use Rattle.block_mgr.specs.Cells.{cell_at}
use Rattle.device_layout.specs.declared.addr.Addr.{Addr}
use Rattle.wt_code.specs.declared.store_error.StoreError.{StoreError}
use Rattle.wt_code.specs.declared.store_error.StoreError.TheVariants.{NoSpace}
use Rattle.stored.specs.Blocks.{Block}
use Rattle.stored.specs.Stored.{Stored as Kept}
use Rattle.stored.specs.Tree.{AllBear, leaf_blocks}
use Rattle.stored.specs.HistoryTree.{AreRecords, HistoryEntry, HistoryRecord, history_image, history_kind, record_text}
use Rattle.checkpoint_core.specs.Finishes.{IsOld}
use Rattle.device_leaf.proofs.Leaves.{length_block}
use Rattle.hist_pages.specs.declared.leaf.HistoryLeaf.{HistoryLeaf}
use Rattle.hist_pages.specs.Leaves.{SpellsRecords}
use Rattle.tree_write.specs.Captures.{Captures, IsPlaced, IsSafe, MayWrite, places_of}
use Rattle.tree_write.specs.Sizes.{LacksAll}
use Rattle.tree_write.specs.Steps.{BlockWrites}
use Rattle.tree_write.proofs.Joining.{captures_join, captures_none, lacks_behind, none_before}
use Rattle.tree_write.proofs.Lists.{all_both}
use Rattle.tree_write.proofs.OneBlock.{captures_failed}
use Rattle.hist_write.specs.Steps.{AreSpelled, LeafWrites, LeavesStopped, LeavesWritten, leaf_block, leaf_size, leaf_sizes}
use Rattle.hist_write.proofs.Trees.{Stored, bear_more, blocks_more}

-- ---- a block

image_length : (records : List HistoryRecord) → length (history_image records) ≡ 16 + length (flat_map record_text records)
image_length records = length-framed 3 first_format (length records) 0 (flat_map record_text records)

pub leaf_bytes : (records : List HistoryRecord) → 16 ≤ length (history_image records)
leaf_bytes records = let long = image_length records in omega (arith, long)

pub leaf_most : (records : List HistoryRecord) → AreRecords records → length (history_image records) ≤ 32768
leaf_most records are = let long = image_length records in let most = are.size in omega (arith, long, most)

-- a block is filled up already
block_twice : (x : List ℕ) → block_of (block_of x) ≡ block_of x
block_twice x =
    let zero_byte : ℕ = 0 in
    let long = length_block x in
    let none : block_size (length (block_of x)) - length (block_of x) ≡ 0 = omega (arith, long, whole_size (length x)) in
    ap (λ (k : ℕ). block_of x ++ replicate k zero_byte) none ∙ append-nil (block_of x)
  where
    whole_size : (n : ℕ) → block_size (block_size n) ≡ block_size n
    whole_size n = omega arith

pub same_block : (leaf : HistoryLeaf) (records : List HistoryRecord) → SpellsRecords leaf records → block_of leaf.block.items ≡ block_of (history_image records)
same_block leaf records spells = ap block_of spells.block.spelled ∙ block_twice (history_image records)

-- ---- by place

pub leaves_length : (drafts : List HistoryLeaf) (leaves : List (List HistoryRecord)) → AreSpelled drafts leaves → length drafts ≡ length leaves
leaves_length [] [] spelled = refl
leaves_length [] (records ∷ leaves) spelled = absurd spelled
leaves_length (d ∷ drafts) [] spelled = absurd spelled
leaves_length (d ∷ drafts) (records ∷ leaves) spelled = ap (λ (n : ℕ). suc n) (leaves_length drafts leaves spelled.1)

pub leaf_at : (drafts : List HistoryLeaf) (leaves : List (List HistoryRecord)) (n : ℕ) (draft : HistoryLeaf) → AreSpelled drafts leaves → n < length drafts → draft ≡ get_or drafts n draft → (records : List HistoryRecord) × SpellsRecords draft records
leaf_at [] leaves n draft spelled lt is = absurd (omega (arith, lt))
leaf_at (d ∷ drafts) [] n draft spelled lt is = absurd spelled
leaf_at (d ∷ drafts) (records ∷ leaves) zero draft spelled lt is = (records, subst (λ (x : HistoryLeaf). SpellsRecords x records) (sym is) spelled.0)
leaf_at (d ∷ drafts) (records ∷ leaves) (suc n) draft spelled lt is = leaf_at drafts leaves n draft spelled.1 (omega (arith, lt)) is

-- ---- one leaf

module _ {D : Type 0} (g : Ghosts D) (old : Option Kept) (first books books' : Books) (before after : D) (records : List HistoryRecord) (draft : HistoryLeaf) (spells : SpellsRecords draft records) where
  abbrev pub entry_to : Addr → HistoryEntry
  entry_to a = record { least = draft.least; link = record { addr = a; greatest = draft.greatest; durable = draft.durable } }

  pub leaf_new : (a : Addr) → (a.offset ≡ 0 → ⊥) → BlockWrites g old first books books' before after (history_image records) (Ok a) → LeafWrites g old first books books' before after records (a ∷ []) (Ok (entry_to a))
  leaf_new a some wrote = (
    refl,
    record { leaf = inr (some, spells.block.admitted); begins = inr spells.least; says = record { greatest = spells.greatest; durable = spells.durable } },
    some,
    wrote.0,
    wrote.1,
  )

  pub leaf_fails : (e : StoreError) → BlockWrites g old first books books' before after (history_image records) (Err e) → LeafWrites g old first books books' before after records [] (Err e)
  leaf_fails e wrote = (refl, wrote.0, wrote.1)

-- a new block stands behind the slots
pub placed_some : (books : Books) (a : Addr) → IsPlaced books a → a.offset ≡ 0 → ⊥
placed_some books a placed none = omega (arith, placed.offset, none)

-- ---- one after the other

module _ {D : Type 0} (g : Ghosts D) (old : Option Kept) (first books0 : Books) (start : D) (leaves : List (List HistoryRecord)) where
  pub record LeavesGoing (rest : List HistoryLeaf) (own : List HistoryEntry) (addrs : List Addr) (books : Books) (now : D) : Type 0 where
    pub done : List (List HistoryRecord)
    pub left : List (List HistoryRecord)
    pub split : leaves ≡ done ++ left
    pub spelled : AreSpelled rest left
    pub bear : AllBear history_kind own done
    pub stored : AllByRecursion Stored own
    pub placed : AllByRecursion (λ (b : Block). IsPlaced books0 b.place) (leaf_blocks history_kind own done)
    pub captures : Captures g old first (leaf_blocks history_kind own done) (leaf_sizes done) books0 books start now
    pub listed : addrs ≡ places_of (leaf_blocks history_kind own done)

  pub leaves_begun : (drafts : List HistoryLeaf) → AreSpelled drafts leaves → MayWrite (g.seen start) (g.may_leave start) books0 old → ((c : List ℕ) → g.left_since start (g.moment start) c → g.may_leave start c) → LeavesGoing drafts [] [] books0 start
  leaves_begun drafts spelled may only = record { done = []; left = leaves; split = refl; spelled = spelled; bear = tt; stored = tt; placed = tt; captures = captures_none g old first books0 start only may; listed = refl }

  pub leaves_ended : (own : List HistoryEntry) (addrs : List Addr) (books : Books) (now : D) → LeavesGoing [] own addrs books now → LeavesWritten g old first books0 books start now leaves own addrs
  leaves_ended own addrs books now going = subst (λ (l : List (List HistoryRecord)). LeavesWritten g old first books0 books start now l own addrs) (sym (going.split ∙ (ap (λ (l : List (List HistoryRecord)). going.done ++ l) (no_left going.left going.spelled) ∙ append-nil going.done))) (record {
    bear = going.bear;
    stored = going.stored;
    placed = going.placed;
    captures = going.captures;
    listed = going.listed;
  })
    where
      no_left : (l : List (List HistoryRecord)) → AreSpelled [] l → l ≡ []
      no_left [] spelled = refl
      no_left (records ∷ l) spelled = absurd spelled

  -- an error that is not want of room
  pub leaves_stopped : (rest : List HistoryLeaf) (own : List HistoryEntry) (addrs : List Addr) (books : Books) (now : D) (e : StoreError) → LeavesGoing rest own addrs books now → (e ≡ NoSpace → ⊥) → LeavesStopped g old first books0 books start now leaves addrs e
  leaves_stopped rest own addrs books now e going other = record { blocks = leaf_blocks history_kind own going.done; sizes = leaf_sizes going.done; listed = going.listed; captures = λ safe. going.captures; left = going.captures.left; lacks = λ is. absurd (other is) }

  module _ (draft : HistoryLeaf) (rest : List HistoryLeaf) (own : List HistoryEntry) (addrs : List Addr) (books : Books) (mid : D) (going : LeavesGoing (draft ∷ rest) own addrs books mid) (room : g.capacity mid ≡ g.capacity start) where
    pub record NextLeaf : Type 0 where
      pub records : List HistoryRecord
      pub later : List (List HistoryRecord)
      pub is : going.left ≡ records ∷ later
      pub spells : SpellsRecords draft records
      pub others : AreSpelled rest later

    pub next_leaf : NextLeaf
    next_leaf = of going.left refl going.spelled
      where
        of : (l : List (List HistoryRecord)) → going.left ≡ l → AreSpelled (draft ∷ rest) l → NextLeaf
        of [] is spelled = absurd spelled
        of (records ∷ later) is spelled = record { records = records; later = later; is = is; spells = spelled.0; others = spelled.1 }

    abbrev now_records : List HistoryRecord
    now_records = next_leaf.records

    old_mid : (c : List ℕ) → IsOld (g.may_leave mid) old c → IsOld (g.may_leave start) old c
    old_mid c (inl left) = going.captures.images c left
    old_mid c (inr has) = inr has

    split_here : leaves ≡ going.done ++ (now_records ∷ next_leaf.later)
    split_here = going.split ∙ ap (λ (l : List (List HistoryRecord)). going.done ++ l) next_leaf.is

    all_sizes : leaf_sizes leaves ≡ leaf_sizes going.done ++ leaf_size now_records ∷ leaf_sizes next_leaf.later
    all_sizes = ap leaf_sizes split_here ∙ map-append leaf_size going.done (now_records ∷ next_leaf.later)

    pub leaf_failed : (addrs' : List Addr) (books' : Books) (end : D) (e : StoreError) → LeafWrites g old first books books' mid end now_records addrs' (Err e) → LeavesStopped g old first books0 books' start end leaves (addrs ++ addrs') e
    leaf_failed addrs' books' end e (none, fails, why) = record {
      blocks = leaf_blocks history_kind own going.done;
      sizes = leaf_sizes going.done;
      listed = ap (λ (l : List Addr). addrs ++ l) none ∙ (append-nil addrs ∙ going.listed);
      captures = λ safe. subst (λ (l : List Block). Captures g old first l (leaf_sizes going.done) books0 books' start end) (append-nil (leaf_blocks history_kind own going.done)) (subst (λ (l : List ℕ). Captures g old first (leaf_blocks history_kind own going.done ++ []) l books0 books' start end) (append-nil (leaf_sizes going.done))
          (captures_join g old first (leaf_blocks history_kind own going.done) [] (leaf_sizes going.done) [] books0 books books' start mid end room going.captures (captures_failed g old first books books' mid end (IsSafe e) safe going.captures.may fails)));
      left = joined g start mid end _ _ going.captures.left fails.left old_mid;
      lacks = λ is. subst (λ (l : List ℕ). LacksAll books0.space (g.capacity start) l) (sym all_sizes)
          (lacks_behind books0.space books.space (g.capacity start) (leaf_size now_records) (leaf_sizes going.done) (leaf_sizes next_leaf.later) going.captures.places (subst (λ (k : ℕ). HasNoRoom books.space (leaf_size now_records) k) room (why is)));
    }

    pub leaf_more : (e : HistoryEntry) (addrs' : List Addr) (books' : Books) (end : D) → LeafWrites g old first books books' mid end now_records addrs' (Ok e) → LeavesGoing rest (own ++ e ∷ []) (addrs ++ addrs') books' end
    leaf_more e addrs' books' end (listed, bears, some, placed, captures) = record {
      done = going.done ++ now_records ∷ [];
      left = next_leaf.later;
      split = split_here ∙ sym (append_assoc going.done (now_records ∷ []) next_leaf.later);
      spelled = next_leaf.others;
      bear = bear_more own going.done e now_records going.bear bears;
      stored = all_both Stored own (e ∷ []) going.stored (some, tt);
      placed = subst (λ (l : List Block). AllByRecursion (λ (b : Block). IsPlaced books0 b.place) l) (sym blocks_are) (all_both (λ (b : Block). IsPlaced books0 b.place) (leaf_blocks history_kind own going.done) (leaf_block e.link.addr now_records ∷ []) going.placed (placed0, tt));
      captures = subst (λ (l : List Block). Captures g old first l (leaf_sizes (going.done ++ now_records ∷ [])) books0 books' start end) (sym blocks_are) (subst (λ (l : List ℕ). Captures g old first (leaf_blocks history_kind own going.done ++ leaf_block e.link.addr now_records ∷ []) l books0 books' start end) sizes_are
          (captures_join g old first (leaf_blocks history_kind own going.done) (leaf_block e.link.addr now_records ∷ []) (leaf_sizes going.done) (leaf_size now_records ∷ []) books0 books books' start mid end room going.captures captures));
      listed = ap (λ (l : List Addr). addrs ++ l) listed ∙ (ap (λ (l : List Addr). l ++ e.link.addr ∷ []) going.listed ∙ (sym (map-append {A = Block} {B = Addr} (λ b. b.place) (leaf_blocks history_kind own going.done) (leaf_block e.link.addr now_records ∷ [])) ∙ ap places_of (sym blocks_are)));
    }
      where
        blocks_are : leaf_blocks history_kind (own ++ e ∷ []) (going.done ++ now_records ∷ []) ≡ leaf_blocks history_kind own going.done ++ leaf_block e.link.addr now_records ∷ []
        blocks_are = blocks_more own going.done e now_records going.bear some

        sizes_are : leaf_sizes going.done ++ leaf_size now_records ∷ [] ≡ leaf_sizes (going.done ++ now_records ∷ [])
        sizes_are = sym (map-append leaf_size going.done (now_records ∷ []))

        placed0 : IsPlaced books0 e.link.addr
        placed0 = record { unit = placed.unit; units = placed.units; offset = placed.offset; size = placed.size; none = none_before placed.unit (cell_at books0.cells placed.unit) (places_of (leaf_blocks history_kind own going.done)) (sym (going.captures.cells placed.unit) ∙ placed.none) }
