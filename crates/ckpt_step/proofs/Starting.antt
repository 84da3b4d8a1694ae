-- From a ground to a checkpoint that runs, and back.
use Rattle.std.specs.Prelude.{◌≡◌, ℕ, true, false, List, [], ◌++◌, reverse, Option}
use Rattle.std.proofs.Common.{sym, ◌∙◌, ap, subst, arith}
use Rattle.std.proofs.Math.Path.{fun_ext}
use Rattle.std.proofs.lemmas.List.{reverse-reverse}
use Rattle.extent_list.specs.Space.{Space, end_of}
use Rattle.block_mgr.specs.declared.cell.Cell.{Cell}
use Rattle.block_mgr.specs.Blocks.{Books}
use Rattle.block_mgr.specs.Cells.{AreUnits, cell_at}
use Rattle.device_layout.specs.declared.addr.Addr.{Addr}
use Rattle.tree_open.specs.declared.place.TreePlace.{TreePlace}
use Rattle.kv_model.specs.History.{Table}
use Rattle.catalog.specs.Known.{NumbersAscend}
use Rattle.stored.specs.Stored.{Stored}
use Rattle.checkpoint_core.specs.Stands.{blocks_of}
use Rattle.checkpoint_core.proofs.Holding.{in_use_same, still_long}
use Rattle.device_leaf.proofs.Writes.{stands_begun}
use Rattle.ckpt_step.specs.declared.ground.Ground.{Ground}
use Rattle.call_steps.specs.declared.hub.Hub.{Hub}
use Rattle.ckpt_step.specs.Grounds.{AreLedTo, AreRoots, AreSince, AreWritten, StandsOn, start_cell}
use Rattle.ckpt_step.specs.Lives.{addrs_in}
use Rattle.ckpt_step.specs.declared.lives.Lone.{Lone}
use Rattle.ckpt_step.specs.Rooms.{Written, known_in}
use Rattle.ckpt_step.specs.Halves.{AreOldBlocks, Half, Runs}
use Rattle.ckpt_step.specs.Trees.{addrs_of}
use Rattle.ckpt_step.proofs.OldTrees.{are_old_blocks}

module _ (seen : List ℕ) (images : List ℕ → Type 0) (hub : Hub) (ascend : NumbersAscend 1 hub.tables.tables hub.tables.next) (g : Ground) (old : Option Stored) (on : StandsOn seen images hub g old) where
  pub past_blocks : AreOldBlocks old g.lives (addrs_of g.trees.items ++ (g.history.items ++ addrs_in g.lives))
  past_blocks = subst (λ (l : List Addr). AreOldBlocks old g.lives (addrs_of g.trees.items ++ (l ++ addrs_in g.lives))) (sym on.history) (are_old_blocks seen images g.place.blocks hub.tables.tables hub.tables.next ascend g.lives hub.dir.leaves (known_in g.parts) g.trees.items old on.stands on.roots on.since.lone on.cells on.units)

  -- a checkpoint runs that has captured nothing yet
  pub half_start : (books : Books) → books.cells ≡ g.place.blocks.cells → books.space ≡ g.place.blocks.space → books.is_synced ≡ g.place.blocks.is_synced → books.is_held ≡ true → Half seen images books old g.lives [] [] []
  half_start books cells space synced held = record {
    runs = record {
      stands = stands_begun seen images g.place.blocks books old cells synced on.stands;
      cells = λ u. ap (λ (l : List Cell). cell_at l u) cells ∙ on.cells u;
      units = subst (λ (s : Space). AreUnits books.cells s) (sym space) (subst (λ (l : List Cell). AreUnits l g.place.blocks.space) (sym cells) on.units);
      long = on.long;
      within = omega (arith, ap end_of space, on.within);
      own = λ a there. absurd there;
    };
    held = held;
    there = tt;
    in_use = tt;
    apart = tt;
    listed = λ a. ((λ there. there), (λ there. there));
  }

  -- it was given up
  pub old_ground : (later : List ℕ) (left : List ℕ → Type 0) (captured : List Addr) (books : Books) (after : Ground) → Runs later left books old g.lives captured → ((u : ℕ) → cell_at after.place.blocks.cells u ≡ start_cell old g.lives u) → AreUnits after.place.blocks.cells after.place.blocks.space → end_of after.place.blocks.space ≡ end_of books.space
      → after.place.blocks.is_synced ≡ books.is_synced → after.place.blocks.is_held ≡ false → after.place.slot ≡ g.place.slot → after.number ≡ g.number → after.trees.items ≡ g.trees.items → after.history.items ≡ g.history.items → ((leaf : ℕ) → known_in after.parts leaf ≡ known_in g.parts leaf) → after.lives ≡ g.lives → StandsOn later left hub after old
  old_ground later left captured books after runs cells units end synced idle slot number trees history parts lives = record {
    stands = record {
      seen_has = runs.stands.seen_has;
      images_have = λ is. runs.stands.images_have (sym synced ∙ is);
      in_use = in_use_same g.place.blocks.cells after.place.blocks.cells (blocks_of old) (λ u. cells u ∙ sym (on.cells u)) on.stands.in_use;
    };
    number = number ∙ on.number;
    slot = slot ∙ on.slot;
    cells = λ u. cells u ∙ ap (λ (x : List Lone). start_cell old x u) (sym lives);
    units = units;
    idle = idle;
    long = still_long old later runs.stands.seen_has;
    within = omega (arith, end, runs.within);
    history = history ∙ on.history;
    roots = from (λ x l y. AreRoots hub.tables.tables y hub.dir.leaves x l old) on.roots;
    written = from (λ x l y. AreWritten hub.tables.tables y hub.dir x l) on.written;
    since = from (λ x l y. AreSince old y hub.dir x) on.since;
    led = from (λ x l y. AreLedTo hub.tables.tables y hub.dir.leaves) on.led;
  } where
    same : known_in after.parts ≡ known_in g.parts
    same = fun_ext parts

    from : (P : Written → List TreePlace → List Lone → Type 0) → P (known_in g.parts) g.trees.items g.lives → P (known_in after.parts) after.trees.items after.lives
    from P was =
        subst (λ (x : Written). P x after.trees.items after.lives) (sym same)
        (subst (λ (l : List TreePlace). P (known_in g.parts) l after.lives) (sym trees) (subst (λ (y : List Lone). P (known_in g.parts) g.trees.items y) (sym lives) was))

pub known_is : (known made : List Table) → reverse known ≡ made → reverse made ≡ known
known_is known made is = sym (ap (λ (l : List Table). reverse l) is) ∙ reverse-reverse known
