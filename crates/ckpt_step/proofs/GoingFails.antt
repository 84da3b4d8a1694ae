-- A table of which the tree is not captured.
use Rattle.std.specs.Prelude.{ℕ, List, Option}
use Rattle.std.proofs.Common.{inl, inr, subst, sym}
use Rattle.disk_model.specs.declared.disk.Disk.{Ghosts}
use Rattle.disk_model.proofs.Crash.{joined, keeps_fewer, keeps_trans}
use Rattle.block_mgr.specs.Blocks.{Books, Has}
use Rattle.device_layout.specs.declared.addr.Addr.{Addr}
use Rattle.wt_code.specs.declared.store_error.StoreError.{StoreError}
use Rattle.kv_model.specs.Holds.{Member}
use Rattle.kv_model.specs.History.{Table}
use Rattle.stored.specs.Stored.{Stored}
use Rattle.stored.specs.Tree.{join}
use Rattle.tree_dir.specs.declared.leaf.Leaf.{Leaf}
use Rattle.tree_dir.specs.Leaves.{Directory, leaves_of}
use Rattle.tree_open.specs.declared.place.TreePlace.{TreePlace}
use Rattle.tree_write.specs.Sizes.{LacksAll}
use Rattle.ckpt_step.specs.Goings.{NotOneMore}
use Rattle.ckpt_step.specs.Halves.{Runs, SomeWritten}
use Rattle.ckpt_step.specs.Sizes.{LacksTables}
use Rattle.ckpt_step.specs.Moments.{Moment}
use Rattle.ckpt_step.specs.Parts.{links_over}
use Rattle.ckpt_step.specs.Rooms.{Written}
use Rattle.ckpt_step.specs.declared.parts.LeafPart.{LeafPart}
use Rattle.ckpt_step.specs.declared.lives.Lone.{Lone}
use Rattle.ckpt_step.proofs.Members.{in_front}
use Rattle.ckpt_step.proofs.Moving.{leaves_moved, writes_moved}
use Rattle.ckpt_step.proofs.Goings.{IsAtTable, old_mid, own_leaf}
use Rattle.ckpt_step.proofs.PlacedTrees.{drop_at}
use Rattle.ckpt_step.proofs.GoingLinks.{over_back}
use Rattle.ckpt_step.proofs.GoingRuns.{runs_more}

module _ {D : Type 0} {g : Ghosts D} {old : Option Stored} {was : List TreePlace} {lives : List Lone} {d : Directory} {had : Written} {n : Moment} {every known : List Table} {next : ℕ} {first : Books} {start : D} {i : ℕ} {t : Table} {books : Books} {places : List TreePlace} {more : List LeafPart} {taken : List Addr} {mid : D} (on : IsAtTable g old was lives d had n every known next first start i t books places more taken mid) (books' : Books) (places' : List TreePlace) (more' : List LeafPart) (taken' : List Addr) (end : D) where
  -- it fails
  pub failed : (e : StoreError) → NotOneMore g old first was lives d.leaves had n t i books books' places places' more more' taken taken' mid end e → SomeWritten g old lives n known d.leaves had first books' places' more' taken' start end e
  failed e fail = record {
    runs = λ safe. subst (λ (l : List Addr). Runs (g.seen end) (g.may_leave end) books' old lives l) (sym fail.captured_are) (runs_more on fail.blocks fail.sizes books' end (fail.captures safe));
    left = joined g start mid end _ _ on.going.left fail.left (old_mid on);
    keeps = λ safe. keeps_trans (Has first.cells) (g.seen start) (g.seen mid) (g.seen end) on.going.keeps (keeps_fewer (Has books.cells) (Has first.cells) (g.seen mid) (g.seen end) on.going.used (fail.captures safe).keeps);
    lacks = λ is. on.going.lacks (subst (λ (l : List Table). LacksTables (g.seen start) (g.capacity start) old d.leaves had n books.space l) (sym (drop_at known i t on.at)) (elim (fail.lacks is) [
      | inl front ↦ inl (
        front.0,
        record {
          rest = front.1.rest;
          first = front.1.first;
          parts = front.1.parts;
          parted = front.1.parted;
          serve = front.1.serve;
          full = front.1.full;
          some = front.1.some;
          sizes = front.1.sizes;
          writes = leaves_moved (g.seen mid) (g.seen start) (links_over had front.0 front.1.parts) (join front.1.parts) front.1.sizes (over_back on front.0 (λ l among. own_leaf on l (subst (λ (m : List Leaf). Member l m) (sym front.1.first) (in_front front.0 front.1.rest l among))) front.1.parts) front.1.writes;
          lacks = subst (λ (k : ℕ). LacksAll books.space k front.1.sizes) on.room front.1.lacks;
        },
      )
      | inr whole ↦
          let tree = whole.1 in
          inr (
            tree.sizes,
            record { rows = fail.rows; are = whole.0; writes = inr (record { root = tree.root; tree = tree.tree; parts = tree.parts; parted = tree.parted; cut = tree.cut; writes = writes_moved (g.seen mid) (g.seen start) (links_over had (leaves_of t.number d.leaves) tree.parts) tree.tree tree.sizes (over_back on (leaves_of t.number d.leaves) (own_leaf on) tree.parts) tree.writes }) },
            inl (subst (λ (k : ℕ). LacksAll books.space k tree.sizes) on.room tree.lacks),
          )
    ]));
  }
