-- All trees are captured.
use Rattle.std.specs.Prelude.{◌≡◌, ◌≤◌, ℕ, true, List, [], length, Option, Some, refl, slice_get, take}
use Rattle.std.specs.List.{Contains}
use Rattle.std.proofs.Common.{ap, arith, inl, inr, subst, sym, ◌∙◌}
use Rattle.std.proofs.lemmas.Bool.{false≢true}
use Rattle.std.proofs.lemmas.List.{append-nil}
use Rattle.disk_model.specs.declared.disk.Disk.{Ghosts}
use Rattle.block_mgr.specs.declared.cell.Cell.{Cell}
use Rattle.block_mgr.specs.Blocks.{Books}
use Rattle.device_layout.specs.declared.addr.Addr.{Addr}
use Rattle.kv_model.specs.History.{Table}
use Rattle.stored.specs.Stored.{Stored}
use Rattle.stored.specs.TableTree.{TableTree}
use Rattle.tree_dir.specs.declared.leaf.Leaf.{Leaf}
use Rattle.tree_dir.specs.Leaves.{Directory, leaves_of}
use Rattle.tree_open.specs.declared.place.TreePlace.{TreePlace}
use Rattle.ckpt_step.specs.Goings.{Going, IsFrom, IsOfTable}
use Rattle.ckpt_step.specs.Grounds.{start_cell}
use Rattle.ckpt_step.specs.Halves.{AllWritten, IsNewBlock}
use Rattle.ckpt_step.specs.Lives.{IsOfOther, is_live, live_addrs}
use Rattle.ckpt_step.specs.Moments.{Moment, TreesServe}
use Rattle.ckpt_step.specs.Rooms.{Written}
use Rattle.ckpt_step.specs.Sizes.{PlacesTables}
use Rattle.ckpt_step.specs.declared.lives.Lone.{Lone}
use Rattle.ckpt_step.specs.declared.parts.LeafPart.{LeafPart}
use Rattle.ckpt_step.proofs.DraftingMore.{all_into}
use Rattle.ckpt_step.proofs.GoingOnce.{far}
use Rattle.ckpt_step.proofs.Goings.{IsBegun}
use Rattle.ckpt_step.proofs.Lones.{live_once, lone_old, of_live}
use Rattle.ckpt_step.proofs.Members.{get_member}
use Rattle.ckpt_step.proofs.PlacedTrees.{drop_none}
use Rattle.ckpt_step.proofs.TableLeaves.{contains_of, in_table, member_of, table_in}
use Rattle.ckpt_step.proofs.TableParts.{same_leaf, take_at}

module _ {D : Type 0} {g : Ghosts D} {old : Option Stored} {was : List TreePlace} {lives : List Lone} {d : Directory} {had : Written} {every : List Table} {next : ℕ} {first : Books} {start : D} (on : IsBegun g old was lives d had every next first start) (known : List Table) where
  -- ---- no block of a leaf of another table is captured

  module _ (l : Leaf) (there : Contains d.leaves l) (live : is_live lives l ≡ true) (other : IsOfOther known l) where
    -- a new block is where none was written since
    not_new : (a : Addr) → IsNewBlock old lives a → a.offset ≡ l.entry.link.addr.offset → ⊥
    not_new a new same =
        let own = on.since.leaf l there live in
        let block = lone_old old lives on.since.lone (record { leaf = l.id; addr = l.entry.link.addr }) own.there in
        let unit : block.unit ≡ new.unit = omega (arith, same, new.offset, block.offset) in
        false≢true (ap (λ (c : Cell). c.is_live) (sym new.none ∙ (ap (λ (u : ℕ). start_cell old lives u) (sym unit) ∙ block.cell)))

    -- one of a table is none of a leaf of another
    not_of : (j : ℕ) (t : Table) (x : Addr) → slice_get known j ≡ Some t → IsOfTable was (live_addrs lives (leaves_of t.number d.leaves)) j x → x.offset ≡ l.entry.link.addr.offset → ⊥
    not_of j t x at (inl (p, is, among)) same =
        far on j p x l.table l.entry.link.addr is among (record { leaf = l; there = table_in l.table d.leaves l (member_of d.leaves l there) refl; live = live; is = refl }) same
    not_of j t x at (inr among) same =
        let m = of_live lives (leaves_of t.number d.leaves) x among in
        let mine = in_table t.number d.leaves m.leaf m.there in
        let id : m.leaf.id ≡ l.id = live_once lives m.leaf l m.live live (ap (λ (a : Addr). a.offset) (sym m.is) ∙ same) in
        other t (get_member known j t at) (ap (λ (y : Leaf). y.table) (sym (same_leaf d on.dir m.leaf l (contains_of d.leaves m.leaf mine.0) there id)) ∙ mine.1)

    not_from : (count : ℕ) (a : Addr) → IsFrom old was lives d.leaves known count a → a.offset ≡ l.entry.link.addr.offset → ⊥
    not_from count a (inl new) same = not_new a new same
    not_from count a (inr (j, t, lt, at, begins)) same = not_of j t begins.0 at begins.1 (begins.2 ∙ same)

  -- ---- all are captured

  pub ended : (n : Moment) (count : ℕ) (books : Books) (places : List TreePlace) (more : List LeafPart) (taken : List Addr) (end : D) → Going g old was lives d.leaves had n known first books places more taken count start end → length known ≤ count → AllWritten g old lives n known d.leaves had first books places more taken start end
  ended n count books places more taken end going all = record {
    trees = going.trees;
    half = going.half;
    rows = subst (λ (l : List TableTree). TreesServe n known l) (append-nil going.trees) (going.rows [] (subst (λ (l : List Table). TreesServe n l []) (sym (drop_none known count all)) tt));
    left = going.left;
    keeps = going.keeps;
    used = going.used;
    placed = going.placed books.space (subst (λ (l : List Table). PlacesTables (g.seen start) (g.capacity start) old d.leaves had n books.space l books.space) (sym (drop_none known count all)) refl);
    by_leaves = going.by_leaves;
    of_tables = all_into (λ (p : LeafPart). (j : ℕ) × (t : Table) × (slice_get (take count known) j ≡ Some t) × ((l : Leaf) × Contains (leaves_of t.number d.leaves) l × (l.id ≡ p.leaf))) (λ (p : LeafPart). (j : ℕ) × (t : Table) × (slice_get known j ≡ Some t) × ((l : Leaf) × Contains (leaves_of t.number d.leaves) l × (l.id ≡ p.leaf))) more
        (λ p one. (one.0, one.1, (take_at known count one.0 one.1 one.2).0, one.3)) going.of_first;
    apart = λ l there live other a among same. not_from l there live other count a (going.from a among) same;
  }
