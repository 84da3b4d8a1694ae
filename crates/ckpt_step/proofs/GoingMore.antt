-- The tree of one table more is captured.
use Rattle.std.specs.Prelude.{ℕ, List, None, Option, Some, [], refl, suc, true, ◌++◌, ◌∷◌, ◌≡◌}
use Rattle.std.proofs.Common.{append_assoc, arith, inl, inr, subst, sym}
use Rattle.std.proofs.lemmas.List.{length-append}
use Rattle.disk_model.specs.declared.disk.Disk.{Ghosts}
use Rattle.disk_model.proofs.Crash.{joined, keeps_fewer, keeps_trans}
use Rattle.block_mgr.specs.Blocks.{Books, Has}
use Rattle.device_layout.specs.declared.addr.Addr.{Addr}
use Rattle.kv_model.specs.History.{Table}
use Rattle.stored.specs.Stored.{Stored}
use Rattle.stored.specs.TableTree.{TableTree}
use Rattle.tree_dir.specs.Leaves.{Directory, leaves_of}
use Rattle.recover_open.specs.Bare.{tree_rows}
use Rattle.tree_open.specs.declared.place.TreePlace.{TreePlace}
use Rattle.tree_write.specs.Captures.{places_of}
use Rattle.tree_write.specs.Sizes.{PlacesAll}
use Rattle.ckpt_step.specs.Goings.{Going, OneMore}
use Rattle.ckpt_step.specs.Sizes.{HasRowsOf, LacksTables, PlacesTables, TableWrites}
use Rattle.ckpt_step.specs.Moments.{Moment, TreesServe}
use Rattle.ckpt_step.specs.Parts.{links_over}
use Rattle.ckpt_step.specs.Rooms.{Written}
use Rattle.ckpt_step.specs.Trees.{HasTreeAt, table_root}
use Rattle.ckpt_step.specs.declared.parts.LeafPart.{LeafPart}
use Rattle.ckpt_step.specs.declared.lives.Lone.{Lone}
use Rattle.ckpt_step.proofs.Moving.{writes_moved}
use Rattle.ckpt_step.proofs.TableParts.{of_more}
use Rattle.ckpt_step.proofs.Goings.{IsAtTable, old_mid, own_leaf}
use Rattle.ckpt_step.proofs.PlacedTrees.{drop_at}
use Rattle.ckpt_step.proofs.GoingHalves.{from_more, half_more}
use Rattle.ckpt_step.proofs.GoingByLeaves.{leaves_more}
use Rattle.ckpt_step.proofs.GoingLinks.{over_back}

module _ {D : Type 0} {g : Ghosts D} {old : Option Stored} {was : List TreePlace} {lives : List Lone} {d : Directory} {had : Written} {n : Moment} {every known : List Table} {next : ℕ} {first : Books} {start : D} {i : ℕ} {t : Table} {books : Books} {places : List TreePlace} {more : List LeafPart} {taken : List Addr} {mid : D} (on : IsAtTable g old was lives d had n every known next first start i t books places more taken mid)
    {books' : Books} {places' : List TreePlace} {more' : List LeafPart} {taken' : List Addr} {end : D} (one : OneMore g old first was lives d.leaves had n t i books books' places places' more more' taken taken' mid end) (held : books'.is_held ≡ true) where
  abbrev place : TreePlace
  place = one.place

  abbrev tree : TableTree
  tree = one.tree

  rows_in : (o : Option Stored) (p : TreePlace) → HasTreeAt o t p tree → HasRowsOf o t (tree_rows tree)
  rows_in None p has = absurd has
  rows_in (Some s) p has = (table_root t p.root, tree, has.0, refl, refl)

  writes : TableWrites (g.seen start) (g.capacity start) old d.leaves had n t one.sizes
  writes = record {
    rows = tree_rows tree;
    are = one.rows;
    writes = elim one.how [
      | inl keeps ↦ inl (keeps.none, rows_in old keeps.kept keeps.has)
      | inr cuts ↦ inr (record {
        root = place.root;
        tree = tree;
        parts = cuts.parts;
        parted = cuts.parted;
        cut = cuts.cut;
        writes = writes_moved (g.seen mid) (g.seen start) (links_over had (leaves_of t.number d.leaves) cuts.parts) tree one.sizes (over_back on (leaves_of t.number d.leaves) (own_leaf on) cuts.parts) cuts.writes;
      })
    ];
  }

  placed_all : PlacesAll books.space (g.capacity start) one.sizes books'.space
  placed_all = subst (λ (k : ℕ). PlacesAll books.space k one.sizes books'.space) on.room one.captures.places

  abbrev all_parts : List LeafPart
  all_parts = more ++ one.own_more

  going_more : Going g old was lives d.leaves had n known first books' (places ++ place ∷ []) all_parts (taken ++ places_of one.blocks) (suc i) start end
  going_more = record {
    trees = on.going.trees ++ tree ∷ [];
    many = omega (arith, length-append places (place ∷ []), on.going.many);
    half = half_more on one held;
    from = from_more on one held;
    left = joined g start mid end _ _ on.going.left one.captures.left (old_mid on);
    images = λ c left. old_mid on c (one.captures.images c left);
    rows = λ rest are. subst (λ (l : List TableTree). TreesServe n known l) (sym (append_assoc on.going.trees (tree ∷ []) rest)) (on.going.rows (tree ∷ rest) (subst (λ (l : List Table). TreesServe n l (tree ∷ rest)) (sym (drop_at known i t on.at)) (one.rows, are)));
    placed = λ last later. on.going.placed last (subst (λ (l : List Table). PlacesTables (g.seen start) (g.capacity start) old d.leaves had n books.space l last) (sym (drop_at known i t on.at)) (one.sizes, books'.space, writes, placed_all, later));
    lacks = λ later. on.going.lacks (subst (λ (l : List Table). LacksTables (g.seen start) (g.capacity start) old d.leaves had n books.space l) (sym (drop_at known i t on.at)) (inr (one.sizes, writes, inr (books'.space, placed_all, later))));
    by_leaves = leaves_more on one;
    of_first = of_more d on.begun.dir every next on.begun.ascend known on.front had i t on.at more one.own_more on.going.of_first one.of_table;
    keeps = keeps_trans (Has first.cells) (g.seen start) (g.seen mid) (g.seen end) on.going.keeps (keeps_fewer (Has books.cells) (Has first.cells) (g.seen mid) (g.seen end) on.going.used one.captures.keeps);
    used = λ a k has. one.captures.used a k (on.going.used a k has);
    live = λ a k has. one.captures.live a k (on.going.live a k has);
  }

  pub one_more : (count : ℕ) → count ≡ suc i → Going g old was lives d.leaves had n known first books' places' more' taken' count start end
  one_more count is =
      subst (λ (k : ℕ). Going g old was lives d.leaves had n known first books' places' more' taken' k start end) (sym is)
      (subst (λ (l : List TreePlace). Going g old was lives d.leaves had n known first books' l more' taken' (suc i) start end) (sym one.places_are)
      (subst (λ (l : List LeafPart). Going g old was lives d.leaves had n known first books' (places ++ place ∷ []) l taken' (suc i) start end) (sym one.more_are)
      (subst (λ (l : List Addr). Going g old was lives d.leaves had n known first books' (places ++ place ∷ []) all_parts l (suc i) start end) (sym one.captured_are) going_more)))
