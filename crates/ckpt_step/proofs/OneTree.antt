-- The tree of one table, kept as it stands.
use Rattle.std.specs.Prelude.{◌≡◌, ℕ, Bool, List, [], ◌∷◌, ◌++◌, Option, Some, Result, Ok, Err, IfErr, OnErr, OnOk, slice_get, refl}
use Rattle.std.specs.List.{AllByRecursion}
use Rattle.std.proofs.Common.{inl, inr, sym, ◌∙◌, ap, subst, arith}
use Rattle.disk_model.specs.Crash.{Looked}
use Rattle.disk_model.specs.declared.disk.Disk.{Ghosts}
use Rattle.extent_list.specs.Space.{Space}
use Rattle.block_mgr.specs.declared.cell.Cell.{Cell}
use Rattle.block_mgr.specs.Blocks.{Books, HasLive, unit_of}
use Rattle.block_mgr.specs.Cells.{captured}
use Rattle.device_layout.specs.declared.addr.Addr.{Addr}
use Rattle.kv_model.specs.Holds.{Member}
use Rattle.kv_model.specs.History.{Table}
use Rattle.stored.specs.Blocks.{Block, Holds, IsAddressed}
use Rattle.stored.specs.Stored.{Stored}
use Rattle.stored.specs.TableTree.{root_entry, table_kind}
use Rattle.stored.specs.Tree.{tree_blocks}
use Rattle.tree_open.specs.declared.place.TreePlace.{TreePlace}
use Rattle.tree_open.specs.Trees.{HasTree, IsPlaceOf}
use Rattle.wt_code.specs.declared.store_error.StoreError.{StoreError}
use Rattle.wt_code.specs.declared.store_error.StoreError.TheVariants.{NoMemory, NoSpace}
use Rattle.tree_write.specs.Captures.{Captures, MayWrite, places_of}
use Rattle.tree_write.specs.Keeps.{AreLive, KeepsAll, captured_all}
use Rattle.tree_write.proofs.Joining.{captures_join, captures_none}
use Rattle.tree_write.proofs.OneBlock.{captures_kept, live_captured}
use Rattle.ckpt_step.specs.Floors.{FollowsFrom}
use Rattle.ckpt_step.specs.Goings.{Goes, MayGo, NotOneMore, OneMore}
use Rattle.ckpt_step.proofs.Members.{all_made}
use Rattle.std.proofs.lemmas.List.{append-nil}
use Rattle.stamp.specs.declared.Name.{Name}
use Rattle.tree_dir.specs.declared.leaf.Leaf.{Leaf}
use Rattle.tree_dir.specs.Leaves.{leaves_of}
use Rattle.tree_write.specs.Steps.{links_in}
use Rattle.ckpt_step.specs.Lives.{live_addrs}
use Rattle.ckpt_step.specs.Parts.{part_leaves, part_of}
use Rattle.ckpt_step.specs.Moments.{Moment}
use Rattle.ckpt_step.specs.Rooms.{Written}
use Rattle.ckpt_step.specs.Stills.{IsStill}
use Rattle.ckpt_step.specs.declared.lives.Lone.{Lone}
use Rattle.ckpt_step.specs.declared.parts.LeafPart.{LeafPart}
use Rattle.ckpt_step.proofs.TakenLeaves.{same_self}
use Rattle.ckpt_step.proofs.StillTrees.{apart_still, is_place, on_still}

books_are : (b : Books) (cells : List Cell) (space : Space) (synced held : Bool) → b.cells ≡ cells → b.space ≡ space → b.is_synced ≡ synced → b.is_held ≡ held → b ≡ record { cells = cells; space = space; is_synced = synced; is_held = held }
books_are b cells space synced held one two three four = rw (sym one, sym two, sym three, sym four) refl

looked_still : {D : Type 0} (g : Ghosts D) (d : D) → Looked g d d
looked_still g d = record {
  same = refl;
  content = refl;
  images = λ c left. left;
  capacity = refl;
  count = omega arith;
  later = omega arith;
  since = λ t c le left. left;
}

live_still : (cells : List Cell) (u : ℕ) (addrs : List Addr) → AreLive cells addrs → AreLive (captured cells u) addrs
live_still cells u [] live = tt
live_still cells u (a ∷ addrs) live = (live_captured cells u a.offset a.size live.0, live_still cells u addrs live.1)

module _ {D : Type 0} (g : Ghosts D) (old : Option Stored) (first : Books) (d : D) (only : (c : List ℕ) → g.left_since d (g.moment d) c → g.may_leave d c) where
  abbrev kept_books : Books → List Block → Books
  kept_books books blocks = record books { cells = captured_all books.cells (places_of blocks) }

  pub kept_captures : (blocks : List Block) (books : Books) → MayWrite (g.seen d) (g.may_leave d) books old → AllByRecursion (λ (b : Block). IsAddressed b) blocks → Holds (g.seen d) blocks → AreLive books.cells (places_of blocks) → AreLive first.cells (places_of blocks)
      → Captures g old first blocks [] books (kept_books books blocks) d d
  kept_captures [] books may addressed holds live at_first = captures_none g old first books d only may
  kept_captures (b ∷ blocks) books may addressed holds live at_first =
      let mid : Books = record books { cells = captured books.cells (unit_of b.place.offset) } in
      let one : Captures g old first (b ∷ []) [] books mid d d = captures_kept g old first books mid b d d (looked_still g d) only may addressed.0 holds.0 live.0 at_first.0 refl refl refl in
      captures_join g old first (b ∷ []) blocks [] [] books mid (kept_books books (b ∷ blocks)) d d d refl one (kept_captures blocks mid one.may addressed.1 holds.1 (live_still books.cells (unit_of b.place.offset) (places_of blocks) live.1) at_first.1)

  module _ (was : List TreePlace) (known : List Table) (lives : List Lone) (leaves : List Leaf) (had : Written) (floor : Name) (n : Moment) (t : Table) (i : ℕ) (books books' : Books) (places places' : List TreePlace) (more more' : List LeafPart) (taken taken' : List Addr) (may : MayGo (g.seen d) (g.may_leave d) first books old was (live_addrs lives (leaves_of t.number leaves)) i) where
    -- the tree of before is kept
    pub keeps_one : (p : TreePlace) → slice_get known i ≡ Some t → FollowsFrom old known lives leaves had was floor n.world → more' ≡ more → slice_get was i ≡ Some p → IsStill old lives leaves had n t p → KeepsAll books books' p.addrs.items → books.is_held ≡ books'.is_held → places' ≡ places ++ p ∷ [] → taken' ≡ taken ++ p.addrs.items
        → OneMore g old first was lives leaves had n t i books books' places places' more more' taken taken' d d
    keeps_one p known_at follows more_are at still keeps held places_are taken_are = record {
      place = p;
      tree = still.tree;
      blocks = blocks;
      sizes = [];
      places_are = places_are;
      captured_are = taken_are ∙ ap (λ (l : List Addr). taken ++ l) is.addrs;
      own_more = [];
      more_are = more_are ∙ sym (append-nil more);
      of_table = tt;
      rows = still.is;
      parted = still.parted;
      each = λ l there own. record {
        same = same_self (g.seen d) (links_in (part_of had l)) (part_leaves p still.tree (part_of had l));
        shelved = (follows.leaf i t p still.tree l known_at at still.has there own (still.none l there own)).same;
      };
      has = has;
      is = is;
      captures = subst (λ (b : Books). Captures g old first blocks [] books b d d) (sym now) (kept_captures blocks books may.over.may has.addressed has.holds (subst (λ (l : List Addr). AreLive books.cells l) is.addrs keeps.live) at_first);
      listed = λ a. (
        (λ there. subst (λ (l : List Addr). Member a l) (sym is.addrs) there),
        (λ there. subst (λ (l : List Addr). Member a l) is.addrs there),
      );
      own = λ a there. inr (a, inl (p, at, subst (λ (l : List Addr). Member a l) (sym is.addrs) there), refl);
      apart = apart_still old (g.seen d) t p still.tree may.over.may.stands.seen_has still.has;
      how = inl (record { none = refl; kept = p; at = at; has = still.has; root = refl });
    }
      where
        is : IsPlaceOf p still.tree
        is = is_place old t p still.tree still.has

        has : HasTree (g.seen d) p.root still.tree
        has = on_still old (g.seen d) t p still.tree may.over.may.stands.seen_has still.has

        blocks : List Block
        blocks = tree_blocks table_kind (root_entry p.root.link) still.tree

        at_first : AreLive first.cells (places_of blocks)
        at_first = all_made (λ (a : Addr). HasLive first.cells a.offset a.size) (places_of blocks) (λ a there. may.blocks p a at (subst (λ (l : List Addr). Member a l) (sym is.addrs) there))

        now : books' ≡ kept_books books blocks
        now = books_are books' (captured_all books.cells (places_of blocks)) books.space books.is_synced books.is_held (keeps.cells ∙ ap (captured_all books.cells) is.addrs) keeps.space keeps.synced (sym held)

    -- nothing is captured of it
    pub keeps_none : (e : StoreError) → (e ≡ NoSpace → ⊥) → books' ≡ books → taken' ≡ taken → NotOneMore g old first was lives leaves had n t i books books' places places' more more' taken taken' d d e
    keeps_none e never same taken_are =
        let none : Captures g old first [] [] books books d d = captures_none g old first books d only may.over.may in
        record {
          rows = [];
          blocks = [];
          sizes = [];
          captured_are = taken_are ∙ append_none taken;
          captures = λ safe. subst (λ (b : Books). Captures g old first [] [] books b d d) (sym same) none;
          left = none.left;
          lacks = λ is. absurd (never is);
        }
      where
        append_none : (l : List Addr) → l ≡ l ++ []
        append_none [] = refl
        append_none (x ∷ l) = ap (λ (k : List Addr). x ∷ k) (append_none l)

    pub keeps_goes : (r : Result (Unit {0}) StoreError) (p : TreePlace) → slice_get known i ≡ Some t → FollowsFrom old known lives leaves had was floor n.world → more' ≡ more → slice_get was i ≡ Some p → IsStill old lives leaves had n t p → OnOk r (KeepsAll books books' p.addrs.items) → books.is_held ≡ books'.is_held → OnOk r (places' ≡ places ++ p ∷ []) → OnOk r (taken' ≡ taken ++ p.addrs.items)
        → OnErr r ((books' ≡ books) × (taken' ≡ taken)) → IfErr r (λ e. e ≡ NoMemory) → Goes g old first was lives leaves had n t i books books' places places' more more' taken taken' d d r
    keeps_goes (Ok done) p known_at follows more_are at still keeps held places_are taken_are unchanged short = keeps_one p known_at follows more_are at still keeps held places_are taken_are
    keeps_goes (Err e) p known_at follows more_are at still keeps held place taken_are unchanged short = keeps_none e (λ is. not_space (sym short ∙ is)) unchanged.0 unchanged.1
      where
        not_space : NoMemory ≡ NoSpace → ⊥
        not_space same = cc
