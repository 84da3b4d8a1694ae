-- Blocks of two tables begin elsewhere.
use Rattle.std.specs.Prelude.{ℕ, List, Option, Some, slice_get, ◌≡◌}
use Rattle.std.proofs.Common.{ap, inl, inr, sym, ◌∙◌}
use Rattle.std.proofs.lemmas.Bool.{false≢true}
use Rattle.disk_model.specs.declared.disk.Disk.{Ghosts}
use Rattle.block_mgr.specs.declared.cell.Cell.{Cell}
use Rattle.block_mgr.specs.Blocks.{Books}
use Rattle.device_layout.specs.declared.addr.Addr.{Addr}
use Rattle.kv_model.specs.Holds.{Member}
use Rattle.kv_model.specs.History.{Table}
use Rattle.stored.specs.Stored.{Stored}
use Rattle.tree_dir.specs.Leaves.{Directory, leaves_of}
use Rattle.tree_open.specs.declared.place.TreePlace.{TreePlace}
use Rattle.ckpt_step.specs.Goings.{IsOfTable}
use Rattle.ckpt_step.specs.Lives.{live_addrs}
use Rattle.ckpt_step.specs.Moments.{Moment}
use Rattle.ckpt_step.specs.Rooms.{Written}
use Rattle.ckpt_step.specs.declared.lives.Lone.{Lone}
use Rattle.ckpt_step.specs.declared.parts.LeafPart.{LeafPart}
use Rattle.ckpt_step.proofs.Goings.{IsAtTable, IsBegun}
use Rattle.ckpt_step.proofs.Lones.{IsLiveAt, live_as, live_once, none_found_at, of_live}
use Rattle.ckpt_step.proofs.OldTrees.{begins_body, one_begins}
use Rattle.ckpt_step.proofs.TableLeaves.{contains_of, in_table}
use Rattle.ckpt_step.proofs.TableParts.{one_table as table_of_leaf}

module _ {D : Type 0} {g : Ghosts D} {old : Option Stored} {was : List TreePlace} {lives : List Lone} {d : Directory} {had : Written} {every : List Table} {next : ℕ} {first : Books} {start : D} (on : IsBegun g old was lives d had every next first start) where
  -- a block of a tree begins where none was written since
  pub far : (j : ℕ) (p : TreePlace) (x : Addr) (number : ℕ) (y : Addr) → slice_get was j ≡ Some p → Member x p.addrs.items → IsLiveAt lives (leaves_of number d.leaves) y → x.offset ≡ y.offset → ⊥
  far j p x number y is there live same =
      let body = begins_body (g.seen start) (g.may_leave start) first every next on.ascend lives d.leaves had was old on.half.runs.stands on.roots on.since.lone on.half.runs.cells on.half.runs.units j p x is there in
      let one = live_as lives live.leaf live.live in
      let at = one.at ∙ (ap (λ (a : Addr). a.offset) (sym live.is) ∙ (sym same ∙ body.offset)) in
      false≢true (ap (λ (c : Cell). c.is_live) (sym (none_found_at old lives on.since.lone body.unit one.lone one.there at) ∙ body.cell))

module _ {D : Type 0} {g : Ghosts D} {old : Option Stored} {was : List TreePlace} {lives : List Lone} {d : Directory} {had : Written} {n : Moment} {every known : List Table} {next : ℕ} {first : Books} {start : D} {i : ℕ} {t : Table} {books : Books} {places : List TreePlace} {more : List LeafPart} {taken : List Addr} {mid : D} (on : IsAtTable g old was lives d had n every known next first start i t books places more taken mid) where
  pub one_table : (j : ℕ) (u : Table) → slice_get known j ≡ Some u → (x y : Addr) → IsOfTable was (live_addrs lives (leaves_of u.number d.leaves)) j x → IsOfTable was (live_addrs lives (leaves_of t.number d.leaves)) i y → x.offset ≡ y.offset → j ≡ i
  one_table j u at x y (inl (p, is, there)) (inl (q, also, its)) same = one_begins (g.seen start) (g.may_leave start) first every next on.begun.ascend lives d.leaves had was old on.begun.half.runs.stands on.begun.roots on.begun.since.lone on.begun.half.runs.cells on.begun.half.runs.units j i p q x y is there also its same
  one_table j u at x y (inl (p, is, there)) (inr live) same = absurd (far on.begun j p x t.number y is there (of_live lives (leaves_of t.number d.leaves) y live) same)
  one_table j u at x y (inr live) (inl (q, also, its)) same = absurd (far on.begun i q y u.number x also its (of_live lives (leaves_of u.number d.leaves) x live) (sym same))
  one_table j u at x y (inr live) (inr more) same =
      let l = of_live lives (leaves_of u.number d.leaves) x live in
      let m = of_live lives (leaves_of t.number d.leaves) y more in
      let one = in_table u.number d.leaves l.leaf l.there in
      let two = in_table t.number d.leaves m.leaf m.there in
      let id = live_once lives l.leaf m.leaf l.live m.live (ap (λ (a : Addr). a.offset) (sym l.is) ∙ (same ∙ ap (λ (a : Addr). a.offset) m.is)) in
      table_of_leaf d on.begun.dir every next on.begun.ascend l.leaf m.leaf j i u t (contains_of d.leaves l.leaf one.0) (contains_of d.leaves m.leaf two.0) id one.1 two.1 (on.front j u at) (on.front i t on.at)
