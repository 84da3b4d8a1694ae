-- Leaves that are captured one after the other.
use Rattle.std.specs.Prelude.{◌≡◌, ◌⊎◌, ℕ, zero, suc, ◌+◌, ◌<◌, ◌≤◌, List, [], ◌∷◌, ◌++◌, length, take, drop, Option, Some, None, Err, refl, slice_get, slice_index_or}
use Rattle.std.specs.Option.{option_to_list}
use Rattle.std.specs.List.{AllByRecursion}
use Rattle.std.proofs.Common.{inl, inr, sym, ◌∙◌, ap, subst, arith, append_assoc, get_or}
use Rattle.std.proofs.lemmas.Bool.{eqb-true}
use Rattle.std.proofs.lemmas.List.{append-nil, map-append}
use Rattle.disk_model.specs.declared.disk.Disk.{Ghosts}
use Rattle.disk_model.proofs.Crash.{joined}
use Rattle.extent_list.specs.Space.{HasNoRoom, end_of}
use Rattle.le_codec.specs.Images.{block_size}
use Rattle.block_mgr.specs.Blocks.{Books, Has}
use Rattle.block_mgr.specs.Cells.{cell_at}
use Rattle.device_layout.specs.declared.addr.Addr.{Addr}
use Rattle.device_layout.specs.declared.link.Link.{Link}
use Rattle.wt_code.specs.declared.store_error.StoreError.{StoreError}
use Rattle.wt_code.specs.declared.store_error.StoreError.TheVariants.{NoSpace}
use Rattle.row_page.specs.Rows.{Row}
use Rattle.leaf_rows.specs.Rows.{image_length}
use Rattle.reconcile.specs.declared.image.Image.{Image}
use Rattle.reconcile.specs.Images.{SpellsRows}
use Rattle.stored.specs.Blocks.{Block}
use Rattle.stored.specs.Links.{nowhere}
use Rattle.stored.specs.Stored.{Stored as Kept}
use Rattle.stored.specs.Tree.{AllBear, leaf_blocks}
use Rattle.stored.specs.TableTree.{Bears, Entry, table_kind}
use Rattle.checkpoint_core.specs.Finishes.{IsOld}
use Rattle.device_leaf.specs.Leaves.{LeafIs}
use Rattle.tree_write.specs.Captures.{Captures, IsPlaced, IsSafe, MayWrite, StaysLive, places_of}
use Rattle.tree_write.specs.Sizes.{WritesLeaf, WritesLeaves, first_link, links_behind}
use Rattle.tree_write.specs.Steps.{AreSpelled, LeafWritten, LeafWrites, LeavesStopped, LeavesWritten, image_keys, key_at, leaf_block, links_in, part_keys}
use Rattle.tree_write.specs.Writes.{AreOwn, IsLiveLeaf, KeepSame, MayWriteOver}
use Rattle.tree_write.proofs.Deciding.{some_rows, writes_of}
use Rattle.tree_write.proofs.Joining.{captures_join, captures_none, lacks_behind, live_is_used, none_before}
use Rattle.tree_write.proofs.LeafKeys.{low_some}
use Rattle.tree_write.proofs.Lists.{all_both}
use Rattle.tree_write.proofs.OneBlock.{captures_failed}
use Rattle.tree_write.proofs.Still.{leaf_later, writes_before}
use Rattle.tree_write.proofs.Trees.{Stored, bear_more, blocks_more}

-- ---- lists

some_same : {A : Type 0} {x y : A} → Some x ≡ Some y → x ≡ y
some_same same = cc

none_some : {A : Type 0} {x : A} → None ≡ Some x → ⊥
none_some same = cc

pub drop_at : {A : Type 0} (l : List A) (i : ℕ) (x : A) → slice_get l i ≡ Some x → drop i l ≡ x ∷ drop (suc i) l
drop_at [] i x at = absurd (none_some at)
drop_at (y ∷ l) zero x at = ap (λ z. z ∷ l) (some_same at)
drop_at (y ∷ l) (suc i) x at = drop_at l i x at

pub drop_none : {A : Type 0} (l : List A) (i : ℕ) → length l ≤ i → drop i l ≡ []
drop_none [] zero few = refl
drop_none [] (suc i) few = refl
drop_none (x ∷ l) zero few = absurd (omega (arith, few))
drop_none (x ∷ l) (suc i) few = drop_none l i (omega (arith, few))

pub first_at : (was : List Link) (i : ℕ) → slice_index_or was i nowhere ≡ first_link (drop i was)
first_at [] zero = refl
first_at [] (suc i) = refl
first_at (link ∷ was) zero = refl
first_at (link ∷ was) (suc i) = first_at was i

behind_at : (was : List Link) (i : ℕ) → links_behind (drop i was) ≡ drop (suc i) was
behind_at [] zero = refl
behind_at [] (suc i) = refl
behind_at (link ∷ was) zero = refl
behind_at (link ∷ was) (suc i) = behind_at was i

pub live_at : (first : Books) (was : List Link) (i : ℕ) → AllByRecursion (λ (link : Link). IsLiveLeaf first link) was → IsLiveLeaf first (slice_index_or was i nowhere)
live_at first [] zero all = inl refl
live_at first [] (suc i) all = inl refl
live_at first (link ∷ was) zero all = all.0
live_at first (link ∷ was) (suc i) all = live_at first was i all.1

pub spelled_at : (images : List Image) (leaves : List (List Row)) (i : ℕ) (image : Image) → AreSpelled images leaves → slice_get images i ≡ Some image → (rows : List Row) × SpellsRows image rows
spelled_at [] leaves i image spelled at = absurd (none_some at)
spelled_at (x ∷ images) [] i image spelled at = absurd spelled
spelled_at (x ∷ images) (rows ∷ leaves) zero image spelled at = (rows, subst (λ (y : Image). SpellsRows y rows) (some_same at) spelled.0)
spelled_at (x ∷ images) (rows ∷ leaves) (suc i) image spelled at = spelled_at images leaves i image spelled.1 at

pub get_some : {A : Type 0} (l : List A) (i : ℕ) (x : A) → i < length l → x ≡ get_or l i x → slice_get l i ≡ Some x
get_some [] i x lt is = absurd (omega (arith, lt))
get_some {A} (y ∷ l) zero x lt is = ap (λ (z : A). Some z) (sym is)
get_some (y ∷ l) (suc i) x lt is = get_some l i x (omega (arith, lt)) is

-- the keys, with one more
pub keys_more : (low : List ℕ) (images : List Image) (i : ℕ) (image : Image) → slice_get images i ≡ Some image → take (i + 1) (part_keys low images) ≡ take i (part_keys low images) ++ key_at low i image ∷ []
keys_more low [] i image at = absurd (none_some at)
keys_more low (x ∷ images) zero image at = refl
keys_more low (x ∷ images) (suc i) image at = subst (λ (k : ℕ). take k (part_keys low (x ∷ images)) ≡ take (suc i) (part_keys low (x ∷ images)) ++ image.low ∷ []) two (ap (λ (l : List (List ℕ)). low ∷ l) (rest images i at))
  where
    two : suc (i + 1) ≡ suc i + 1
    two = omega arith

    again : (k : ℕ) → suc (k + 1) ≡ suc k + 1
    again k = omega arith

    rest : (images : List Image) (i : ℕ) → slice_get images i ≡ Some image → take (i + 1) (image_keys images) ≡ take i (image_keys images) ++ image.low ∷ []
    rest [] i at = absurd (none_some at)
    rest (y ∷ images) zero at = ap (λ (z : Image). z.low ∷ []) (some_same at)
    rest (y ∷ images) (suc i) at = subst (λ (k : ℕ). take k (image_keys (y ∷ images)) ≡ take (suc i) (image_keys (y ∷ images)) ++ image.low ∷ []) (again i) (ap (λ (l : List (List ℕ)). y.low ∷ l) (rest images i at))

-- ---- one after the other

module _ {D : Type 0} (g : Ghosts D) (old : Option Kept) (first books0 : Books) (start : D) (was : List Link) (images : List Image) (leaves : List (List Row)) where
  -- the first leaves are captured
  pub record Going (i : ℕ) (es : List Entry) (addrs : List Addr) (books : Books) (now : D) : Type 0 where
    pub done : List (List Row)
    pub left : List (List Row)
    pub split : leaves ≡ done ++ left
    pub spelled : AreSpelled (drop i images) left
    pub bear : AllBear table_kind es done
    pub stored : AllByRecursion Stored es
    pub sizes : List ℕ
    pub captures : Captures g old first (leaf_blocks table_kind es done) sizes books0 books start now
    pub listed : addrs ≡ places_of (leaf_blocks table_kind es done)
    pub writes : (more : List (List Row)) (others : List ℕ) → WritesLeaves (g.seen start) (drop i was) more others → WritesLeaves (g.seen start) was (done ++ more) (sizes ++ others)
    pub own : (links : List Link) → AreOwn books0 (drop i was) links → AreOwn books0 was (links_in es ++ links)
    pub same : (links : List Link) (more : List (List Row)) → KeepSame (g.seen start) (drop i was) links more → KeepSame (g.seen start) was (links_in es ++ links) (done ++ more)

  module _ (may : MayWriteOver (g.seen start) (g.may_leave start) first books0 old was) (within : end_of books0.space ≤ length (g.seen start)) (only : (c : List ℕ) → g.left_since start (g.moment start) c → g.may_leave start c) where
    pub begun : AreSpelled images leaves → Going 0 [] [] books0 start
    begun spelled = record {
      done = [];
      left = leaves;
      split = refl;
      spelled = spelled;
      bear = tt;
      stored = tt;
      sizes = [];
      captures = captures_none g old first books0 start only may.may;
      listed = refl;
      writes = λ more others w. w;
      own = λ links own. own;
      same = λ links more same. same;
    }

    -- no leaf is left
    pub ended : (i : ℕ) (es : List Entry) (addrs : List Addr) (books : Books) (now : D) → Going i es addrs books now → length images ≤ i → LeavesWritten g old first books0 books start now was leaves addrs es
    ended i es addrs books now going few = subst (λ (l : List (List Row)). LeavesWritten g old first books0 books start now was l addrs es) (sym (going.split ∙ (ap (λ (l : List (List Row)). going.done ++ l) none ∙ append-nil going.done))) (record {
      sizes = going.sizes;
      bear = going.bear;
      stored = going.stored;
      captures = going.captures;
      listed = going.listed;
      writes = subst (λ (l : List (List Row)). WritesLeaves (g.seen start) was l going.sizes) (append-nil going.done) (subst (λ (l : List ℕ). WritesLeaves (g.seen start) was (going.done ++ []) l) (append-nil going.sizes) (going.writes [] [] refl));
      own = subst (λ (l : List Link). AreOwn books0 was l) (append-nil (links_in es)) (going.own [] tt);
      same = subst (λ (l : List (List Row)). KeepSame (g.seen start) was (links_in es) l) (append-nil going.done) (subst (λ (l : List Link). KeepSame (g.seen start) was l (going.done ++ [])) (append-nil (links_in es)) (going.same [] [] tt));
    })
      where
        no_left : (l : List (List Row)) → AreSpelled [] l → l ≡ []
        no_left [] spelled = refl
        no_left (rows ∷ l) spelled = absurd spelled

        none : going.left ≡ []
        none = no_left going.left (subst (λ (l : List Image). AreSpelled l going.left) (drop_none images i few) going.spelled)

    -- an error that is not want of room
    pub stopped : (i : ℕ) (es : List Entry) (addrs : List Addr) (books : Books) (now : D) (e : StoreError) → Going i es addrs books now → (e ≡ NoSpace → ⊥) → LeavesStopped g old first books0 books start now was leaves addrs e
    stopped i es addrs books now e going other = record { blocks = leaf_blocks table_kind es going.done; sizes = going.sizes; listed = going.listed; captures = λ safe. going.captures; left = going.captures.left; lacks = λ is. absurd (other is) }

    module _ (i : ℕ) (es : List Entry) (addrs : List Addr) (books : Books) (mid : D) (image : Image) (going : Going i es addrs books mid) (at : slice_get images i ≡ Some image) (room : g.capacity mid ≡ g.capacity start) where
      pub record Next : Type 0 where
        pub rows : List Row
        pub later : List (List Row)
        pub is : going.left ≡ rows ∷ later
        pub spells : SpellsRows image rows
        pub others : AreSpelled (drop (suc i) images) later

      pub next : Next
      next = of going.left refl (subst (λ (l : List Image). AreSpelled l going.left) (drop_at images i image at) going.spelled)
        where
          of : (l : List (List Row)) → going.left ≡ l → AreSpelled (image ∷ drop (suc i) images) l → Next
          of [] is spelled = absurd spelled
          of (rows ∷ later) is spelled = record { rows = rows; later = later; is = is; spells = spelled.0; others = spelled.1 }

      abbrev rows : List Row
      rows = next.rows

      abbrev before : Link
      before = slice_index_or was i nowhere

      pub may_mid : MayWrite (g.seen mid) (g.may_leave mid) books old
      may_mid = going.captures.may

      pub live_mid : StaysLive first books
      live_mid at n has = going.captures.live at n (may.live at n has)

      pub leaf_mid : IsLiveLeaf first before
      leaf_mid = live_at first was i may.leaves

      used0 : (before.addr.offset ≡ 0) ⊎ Has books0.cells before.addr.offset before.addr.size
      used0 = elim leaf_mid [ inl at_zero ↦ inl at_zero | inr has ↦ inr (live_is_used books0.cells before.addr.offset before.addr.size (may.live before.addr.offset before.addr.size has)) ]

      old_mid : (c : List ℕ) → IsOld (g.may_leave mid) old c → IsOld (g.may_leave start) old c
      old_mid c (inl left) = going.captures.images c left
      old_mid c (inr has) = inr has

      placed0 : (a : Addr) → IsPlaced books a → IsPlaced books0 a
      placed0 a placed = record { unit = placed.unit; units = placed.units; offset = placed.offset; size = placed.size; none = none_before placed.unit (cell_at books0.cells placed.unit) (places_of (leaf_blocks table_kind es going.done)) (sym (going.captures.cells placed.unit) ∙ placed.none) }

      split_more : leaves ≡ (going.done ++ rows ∷ []) ++ next.later
      split_more = going.split ∙ (ap (λ (l : List (List Row)). going.done ++ l) next.is ∙ sym (append_assoc going.done (rows ∷ []) next.later))

      writes0 : (size : Option ℕ) → WritesLeaf (g.seen mid) before rows size → WritesLeaf (g.seen start) before rows size
      writes0 size w = writes_before books0.cells books0.space (g.seen start) (g.seen mid) before may.may.units within going.captures.keeps rows size used0 w

      writes_next : (size : Option ℕ) → WritesLeaf (g.seen start) before rows size → (more : List (List Row)) (others : List ℕ) → WritesLeaves (g.seen start) (drop (suc i) was) more others → WritesLeaves (g.seen start) was (going.done ++ (rows ∷ more)) (going.sizes ++ (option_to_list size ++ others))
      writes_next size w more others ws = going.writes (rows ∷ more) (option_to_list size ++ others) (size, others, subst (λ (l : Link). WritesLeaf (g.seen start) l rows size) (first_at was i) w, subst (λ (l : List Link). WritesLeaves (g.seen start) l more others) (sym (behind_at was i)) ws, refl)

      -- the next leaf is not written
      pub failed : (addrs' : List Addr) (books' : Books) (end : D) (e : StoreError) → LeafWrites g old first books books' mid end before rows addrs' (Err e) → LeavesStopped g old first books0 books' start end was leaves (addrs ++ addrs') e
      failed addrs' books' end e (none, fails, why) = record {
        blocks = leaf_blocks table_kind es going.done;
        sizes = going.sizes;
        listed = ap (λ (l : List Addr). addrs ++ l) none ∙ (append-nil addrs ∙ going.listed);
        captures = λ safe. subst (λ (l : List Block). Captures g old first l going.sizes books0 books' start end) (append-nil (leaf_blocks table_kind es going.done)) (subst (λ (l : List ℕ). Captures g old first (leaf_blocks table_kind es going.done ++ []) l books0 books' start end) (append-nil going.sizes)
            (captures_join g old first (leaf_blocks table_kind es going.done) [] going.sizes [] books0 books books' start mid end room going.captures (captures_failed g old first books books' mid end (IsSafe e) safe may_mid fails)));
        left = joined g start mid end _ _ going.captures.left fails.left old_mid;
        lacks = λ is.
            let lack = why is in
            let size = block_size (image_length rows) in
            let rest = writes_of (g.seen start) (drop (suc i) was) (drop (suc i) images) next.later next.others in
            let some = some_rows rows (low_some image.low rows next.spells.low) in
            let is_new : WritesLeaf (g.seen start) before rows (Some size) = (some, (λ leaf. lack.0 (leaf_later books0.cells books0.space (g.seen start) (g.seen mid) before may.may.units within going.captures.keeps rows used0 leaf)), refl) in (
              going.sizes ++ (size ∷ rest.0),
              subst (λ (l : List (List Row)). WritesLeaves (g.seen start) was l (going.sizes ++ (size ∷ rest.0))) (ap (λ (l : List (List Row)). going.done ++ l) (sym next.is) ∙ sym going.split) (writes_next (Some size) is_new next.later rest.0 rest.1),
              lacks_behind books0.space books.space (g.capacity start) size going.sizes rest.0 going.captures.places (subst (λ (k : ℕ). HasNoRoom books.space size k) room lack.1),
            );
      }

      module _ (key : List ℕ) (link : Link) (addrs' : List Addr) (books' : Books) (end : D) (one : LeafWritten g old first books books' mid end before rows addrs' link) where
        abbrev entry : Entry
        entry = record { key = key; link = link }

        stored_one : Stored entry
        stored_one at_zero = let low = one.captures.addressed.0.low in omega (arith, low, at_zero)

        bears : Bears entry rows
        bears = record { leaf = next.spells.page.admitted; empty = λ is. absurd (stored_one (eqb-true link.addr.offset 0 is)); says = one.says }

        blocks_are : leaf_blocks table_kind es going.done ++ leaf_block link rows ∷ [] ≡ leaf_blocks table_kind (es ++ entry ∷ []) (going.done ++ rows ∷ [])
        blocks_are = sym (blocks_more es going.done entry rows going.bear stored_one)

        links_are : (links : List Link) → links_in es ++ (link ∷ links) ≡ links_in (es ++ entry ∷ []) ++ links
        links_are links = sym (append_assoc (links_in es) (link ∷ []) links) ∙ ap (λ (l : List Link). l ++ links) (sym (map-append {A = Entry} {B = Link} (λ e. e.link) es (entry ∷ [])))

        own_one : (links : List Link) → AreOwn books0 (drop (suc i) was) links → AreOwn books0 (drop i was) (link ∷ links)
        own_one links own = (inr (elim one.own [ inl is ↦ inl (is ∙ first_at was i) | inr new ↦ inr (placed0 link.addr new) ]), subst (λ (l : List Link). AreOwn books0 l links) (sym (behind_at was i)) own)

        same_one : (links : List Link) (more : List (List Row)) → KeepSame (g.seen start) (drop (suc i) was) links more → KeepSame (g.seen start) (drop i was) (link ∷ links) (rows ∷ more)
        same_one links more same = (
          (λ some leaf. one.same (leaf_later books0.cells books0.space (g.seen start) (g.seen mid) before may.may.units within going.captures.keeps rows used0 (subst (λ (l : Link). LeafIs (g.seen start) l rows) (sym (first_at was i)) leaf)) ∙ first_at was i),
          subst (λ (l : List Link). KeepSame (g.seen start) l links more) (sym (behind_at was i)) same,
        )

        -- the next leaf is captured
        pub more : Going (suc i) (es ++ entry ∷ []) (addrs ++ addrs') books' end
        more = record {
          done = going.done ++ rows ∷ [];
          left = next.later;
          split = split_more;
          spelled = next.others;
          bear = bear_more es going.done entry rows going.bear bears;
          stored = all_both Stored es (entry ∷ []) going.stored (stored_one, tt);
          sizes = going.sizes ++ option_to_list one.size;
          captures = subst (λ (l : List Block). Captures g old first l (going.sizes ++ option_to_list one.size) books0 books' start end) blocks_are (captures_join g old first (leaf_blocks table_kind es going.done) (leaf_block link rows ∷ []) going.sizes (option_to_list one.size) books0 books books' start mid end room going.captures one.captures);
          listed = ap (λ (l : List Addr). addrs ++ l) one.listed ∙ (ap (λ (l : List Addr). l ++ link.addr ∷ []) going.listed ∙ (sym (map-append {A = Block} {B = Addr} (λ b. b.place) (leaf_blocks table_kind es going.done) (leaf_block link rows ∷ [])) ∙ ap places_of blocks_are));
          writes = λ later others ws. subst (λ (l : List (List Row)). WritesLeaves (g.seen start) was l ((going.sizes ++ option_to_list one.size) ++ others)) (sym (append_assoc going.done (rows ∷ []) later))
              (subst (λ (l : List ℕ). WritesLeaves (g.seen start) was (going.done ++ (rows ∷ later)) l) (sym (append_assoc going.sizes (option_to_list one.size) others)) (writes_next one.size (writes0 one.size one.writes) later others ws));
          own = λ links own. subst (λ (l : List Link). AreOwn books0 was l) (links_are links) (going.own (link ∷ links) (own_one links own));
          same = λ links later same. subst (λ (l : List Link). KeepSame (g.seen start) was l ((going.done ++ rows ∷ []) ++ later)) (links_are links)
              (subst (λ (l : List (List Row)). KeepSame (g.seen start) was (links_in es ++ (link ∷ links)) l) (sym (append_assoc going.done (rows ∷ []) later)) (going.same (link ∷ links) (rows ∷ later) (same_one links later same)));
        }
