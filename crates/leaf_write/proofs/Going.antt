-- Leaves that are written one after the other.
use Rattle.std.specs.Prelude.{◌≡◌, ℕ, suc, ◌≤◌, List, [], ◌∷◌, ◌++◌, length, drop, Option, Some, true, refl, slice_get}
use Rattle.std.specs.List.{AllByRecursion}
use Rattle.std.proofs.Common.{inl, inr, sym, ◌∙◌, ap, subst, append_assoc}
use Rattle.std.proofs.lemmas.List.{append-nil, map-append}
use Rattle.disk_model.specs.Crash.{Keeps}
use Rattle.disk_model.specs.declared.disk.Disk.{Ghosts}
use Rattle.disk_model.proofs.Crash.{joined, keeps_fewer, keeps_refl, keeps_trans, started}
use Rattle.extent_list.specs.Space.{HasNoRoom, end_of}
use Rattle.block_mgr.specs.declared.cell.Cell.{Cell}
use Rattle.block_mgr.specs.Blocks.{Books, Has, HasLive}
use Rattle.block_mgr.specs.Cells.{AreUnits, cell_at, is_used}
use Rattle.device_layout.specs.declared.addr.Addr.{Addr}
use Rattle.wt_code.specs.declared.store_error.StoreError.{StoreError}
use Rattle.wt_code.specs.declared.store_error.StoreError.TheVariants.{NoMemory, NoSpace}
use Rattle.row_page.specs.Rows.{Row}
use Rattle.reconcile.specs.declared.image.Image.{Image}
use Rattle.reconcile.specs.Images.{SpellsRows}
use Rattle.stored.specs.Blocks.{Block}
use Rattle.stored.specs.Stored.{Stored}
use Rattle.stored.specs.TableTree.{Entry}
use Rattle.checkpoint_core.specs.Stands.{HasStill, blocks_of}
use Rattle.checkpoint_core.specs.Finishes.{IsOld}
use Rattle.tree_write.specs.Captures.{IsSafe, MayWrite}
use Rattle.tree_write.specs.Drafts.{HasLeaves, addrs_to}
use Rattle.tree_write.specs.Sizes.{LacksAll, PlacesAll}
use Rattle.tree_write.specs.Steps.{AreSpelled, Fails}
use Rattle.tree_write.proofs.Joining.{lacks_behind, live_is_used, places_both}
use Rattle.tree_write.proofs.Still.{leaf_later}
use Rattle.tree_write.proofs.Trees.{bear_more}
use Rattle.leaf_write.specs.Adds.{AreAdded}
use Rattle.leaf_write.specs.Writes.{LeafWritten, LeavesGivenBack, LeavesWritten, leaf_size, leaf_sizes}
use Rattle.leaf_write.proofs.Adding.{added_more, added_none, has_same, live_added}
use Rattle.leaf_write.proofs.Lists.{all_map, drop_at, drop_none}

pub want_space : {P : Type 0} → NoMemory ≡ NoSpace → P
want_space is = absurd (clash is)
  where
    clash : NoMemory ≡ NoSpace → ⊥
    clash same = cc

-- ---- lists

pub addrs_more : (es : List Entry) (e : Entry) → addrs_to es ++ e.link.addr ∷ [] ≡ addrs_to (es ++ e ∷ [])
addrs_more es e = sym (map-append {A = Entry} {B = Addr} (λ x. x.link.addr) es (e ∷ []))

sizes_both : (done more : List (List Row)) → leaf_sizes done ++ leaf_sizes more ≡ leaf_sizes (done ++ more)
sizes_both done more = sym (map-append {A = List Row} {B = ℕ} leaf_size done more)

has_more : (bytes : List ℕ) (es : List Entry) (done : List (List Row)) (e : Entry) (rows : List Row) → HasLeaves bytes es done → HasLeaves bytes (e ∷ []) (rows ∷ []) → HasLeaves bytes (es ++ e ∷ []) (done ++ rows ∷ [])
has_more bytes [] [] e rows has one = one
has_more bytes [] (other ∷ done) e rows has one = absurd has
has_more bytes (x ∷ es) [] e rows has one = absurd has
has_more bytes (x ∷ es) (other ∷ done) e rows has one = (has.0, has_more bytes es done e rows has.1 one)

-- the leaves are still there
has_later : (books : Books) (bytes later : List ℕ) → AreUnits books.cells books.space → end_of books.space ≤ length bytes → Keeps (Has books.cells) bytes later → (es : List Entry) (done : List (List Row)) → AllByRecursion (λ (a : Addr). HasLive books.cells a.offset a.size) (addrs_to es)
    → HasLeaves bytes es done → HasLeaves later es done
has_later books bytes later units within keeps [] [] live has = tt
has_later books bytes later units within keeps [] (rows ∷ done) live has = absurd has
has_later books bytes later units within keeps (e ∷ es) [] live has = absurd has
has_later books bytes later units within keeps (e ∷ es) (rows ∷ done) live has = (
  (has.0.0, leaf_later books.cells books.space bytes later e.link units within keeps rows (inr (live_is_used books.cells e.link.addr.offset e.link.addr.size live.0)) has.0.1),
  has_later books bytes later units within keeps es done live.1 has.1,
)

-- ---- one after the other

module _ {D : Type 0} (g : Ghosts D) (old : Option Stored) (books0 : Books) (start : D) where
  written_none : MayWrite (g.seen start) (g.may_leave start) books0 old → ((c : List ℕ) → g.left_since start (g.moment start) c → g.may_leave start c) → LeavesWritten g old books0 books0 start start [] []
  written_none may only = record {
    bear = tt;
    has = tt;
    added = added_none books0;
    may = may;
    left = started g start (IsOld (g.may_leave start) old) (λ c left. inl (only c left));
    images = λ c left. inl left;
    keeps = keeps_refl (Has books0.cells) (g.seen start);
    used = λ at n has. has;
    places = refl;
  }

  -- nothing was written, and there is no memory
  pub none_given_back : (leaves : List (List Row)) → MayWrite (g.seen start) (g.may_leave start) books0 old → ((c : List ℕ) → g.left_since start (g.moment start) c → g.may_leave start c) → LeavesGivenBack g old books0 books0 start start leaves NoMemory
  none_given_back leaves may only = record {
    cells = λ u. refl;
    left = started g start (IsOld (g.may_leave start) old) (λ c left. inl (only c left));
    may = λ safe. may;
    images = λ safe c left. inl left;
    keeps = λ safe. keeps_refl (Has books0.cells) (g.seen start);
    lacks = λ is. want_space is;
  }

  module _ (images : List Image) (leaves : List (List Row)) where
    -- the first leaves are written
    pub record Going (i : ℕ) (es : List Entry) (books : Books) (now : D) : Type 0 where
      pub done : List (List Row)
      pub others : List (List Row)
      pub split : leaves ≡ done ++ others
      pub spelled : AreSpelled (drop i images) others
      pub written : LeavesWritten g old books0 books start now done es

    pub begun : MayWrite (g.seen start) (g.may_leave start) books0 old → ((c : List ℕ) → g.left_since start (g.moment start) c → g.may_leave start c) → AreSpelled images leaves → Going 0 [] books0 start
    begun may only spelled = record { done = []; others = leaves; split = refl; spelled = spelled; written = written_none may only }

    -- no leaf is left
    pub ended : (i : ℕ) (es : List Entry) (books : Books) (now : D) → Going i es books now → length images ≤ i → LeavesWritten g old books0 books start now leaves es
    ended i es books now going few = subst (λ (l : List (List Row)). LeavesWritten g old books0 books start now l es) (sym (going.split ∙ (ap (λ (l : List (List Row)). going.done ++ l) none ∙ append-nil going.done))) going.written
      where
        no_other : (l : List (List Row)) → AreSpelled [] l → l ≡ []
        no_other [] spelled = refl
        no_other (rows ∷ l) spelled = absurd spelled

        none : going.others ≡ []
        none = no_other going.others (subst (λ (l : List Image). AreSpelled l going.others) (drop_none images i few) going.spelled)

    module _ (i : ℕ) (es : List Entry) (books : Books) (mid : D) (image : Image) (going : Going i es books mid) (at : slice_get images i ≡ Some image) (room : g.capacity mid ≡ g.capacity start) where
      pub record Next : Type 0 where
        pub rows : List Row
        pub later : List (List Row)
        pub is : going.others ≡ rows ∷ later
        pub spells : SpellsRows image rows
        pub spelled : AreSpelled (drop (suc i) images) later

      pub next : Next
      next = of going.others refl (subst (λ (l : List Image). AreSpelled l going.others) (drop_at images i image at) going.spelled)
        where
          of : (l : List (List Row)) → going.others ≡ l → AreSpelled (image ∷ drop (suc i) images) l → Next
          of [] is spelled = absurd spelled
          of (rows ∷ later) is spelled = record { rows = rows; later = later; is = is; spells = spelled.0; spelled = spelled.1 }

      abbrev rows : List Row
      rows = next.rows

      abbrev written : LeavesWritten g old books0 books start mid going.done es
      written = going.written

      old_mid : (c : List ℕ) → IsOld (g.may_leave mid) old c → IsOld (g.may_leave start) old c
      old_mid c (inl left) = written.images c left
      old_mid c (inr has) = inr has

      -- the next leaf is written
      pub more : end_of books.space ≤ length (g.seen mid) → (e : Entry) (books' : Books) (end : D) → LeafWritten g old books books' mid end rows e.link → Going (suc i) (es ++ e ∷ []) books' end
      more within e books' end one = record {
        done = going.done ++ rows ∷ [];
        others = next.later;
        split = going.split ∙ (ap (λ (l : List (List Row)). going.done ++ l) next.is ∙ sym (append_assoc going.done (rows ∷ []) next.later));
        spelled = next.spelled;
        written = record {
          bear = bear_more es going.done e rows written.bear (record { leaf = one.leaf.bears.leaf; empty = one.leaf.bears.empty; says = one.leaf.bears.says });
          has = has_more (g.seen end) es going.done e rows
              (has_later books (g.seen mid) (g.seen end) written.may.units within one.keeps es going.done (live_added books0 books (addrs_to es) written.added) written.has) ((one.stored, one.leaf), tt);
          added = subst (λ (l : List Addr). AreAdded books0 l books') (addrs_more es e) (added_more books0 books books' (addrs_to es) e.link.addr written.added one.added);
          may = one.may;
          left = joined g start mid end _ _ written.left one.left old_mid;
          images = λ c left. old_mid c (one.images c left);
          keeps = keeps_trans (Has books0.cells) (g.seen start) (g.seen mid) (g.seen end) written.keeps (keeps_fewer (Has books.cells) (Has books0.cells) (g.seen mid) (g.seen end) written.used one.keeps);
          used = λ at n has. one.used at n (written.used at n has);
          places = subst (λ (l : List ℕ). PlacesAll books0.space (g.capacity start) l books'.space) (sizes_both going.done (rows ∷ []))
              (places_both books0.space books.space books'.space (g.capacity start) (leaf_sizes going.done) (leaf_size rows ∷ []) written.places
              (subst (λ (k : ℕ). PlacesAll books.space k (leaf_size rows ∷ []) books'.space) room (books'.space, e.link.addr.offset, one.taken, refl)));
        };
      }

      -- it is not, and those before it are given back
      pub given_back : MayWrite (g.seen start) (g.may_leave start) books0 old → (last books' : Books) (end : D) (e : StoreError) → Fails g old books books last mid end (IsSafe e) × (e ≡ NoSpace → HasNoRoom books.space (leaf_size rows) (g.capacity mid))
          → ((before : Books) → AreAdded before (addrs_to es) last → (u : ℕ) → cell_at books'.cells u ≡ cell_at before.cells u) → (AreUnits last.cells last.space → AreUnits books'.cells books'.space) → books'.is_synced ≡ last.is_synced
          → LeavesGivenBack g old books0 books' start end leaves e
      given_back may last books' end e (fails, why) cells units synced = record {
        cells = back;
        left = joined g start mid end _ _ written.left fails.left old_mid;
        may = λ safe. record {
          stands = record {
            seen_has = subst (λ (l : List ℕ). HasStill old l) (sym (fails.seen safe)) written.may.stands.seen_has;
            images_have = λ is c left. written.may.stands.images_have (sym (synced ∙ ap (λ (b : Books). b.is_synced) fails.same) ∙ is) c (fails.images safe c left);
            in_use = all_map (λ (b : Block). Has books0.cells b.place.offset b.place.size) (λ (b : Block). Has books'.cells b.place.offset b.place.size) (blocks_of old)
                (λ b has. has_same (λ (c : Cell). is_used c ≡ true) books0.cells books'.cells b.place.offset b.place.size back has) may.stands.in_use;
          };
          units = units (subst (λ (b : Books). AreUnits b.cells b.space) (sym fails.same) written.may.units);
          unnamed = λ u. ap (λ (c : Cell). c.names) (back u) ∙ may.unnamed u;
        };
        images = λ safe c left. written.images c (fails.images safe c left);
        keeps = λ safe. subst (λ (l : List ℕ). Keeps (Has books0.cells) (g.seen start) l) (sym (fails.seen safe)) written.keeps;
        lacks = λ is. subst (λ (l : List (List Row)). LacksAll books0.space (g.capacity start) (leaf_sizes l)) (ap (λ (l : List (List Row)). going.done ++ l) (sym next.is) ∙ sym going.split)
            (subst (λ (l : List ℕ). LacksAll books0.space (g.capacity start) l) (sizes_both going.done (rows ∷ next.later))
            (lacks_behind books0.space books.space (g.capacity start) (leaf_size rows) (leaf_sizes going.done) (leaf_sizes next.later) written.places (subst (λ (k : ℕ). HasNoRoom books.space (leaf_size rows) k) room (why is))));
      }
        where
          back : (u : ℕ) → cell_at books'.cells u ≡ cell_at books0.cells u
          back = cells books0 (subst (λ (b : Books). AreAdded books0 (addrs_to es) b) (sym fails.same) written.added)
