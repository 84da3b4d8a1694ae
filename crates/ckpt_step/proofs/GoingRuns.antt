-- The books of a checkpoint, as it captures more blocks.
use Rattle.std.specs.Prelude.{ℕ, List, Option, length, ◌*◌, ◌++◌, ◌≤◌}
use Rattle.std.proofs.Common.{ap, arith, inl, inr, subst, sym, ◌∙◌}
use Rattle.std.proofs.lemmas.List.Sums.{fold-append}
use Rattle.disk_model.specs.declared.disk.Disk.{Ghosts}
use Rattle.block_mgr.specs.declared.cell.Cell.{Cell}
use Rattle.block_mgr.specs.Blocks.{Books, HasLive}
use Rattle.device_layout.specs.declared.addr.Addr.{Addr}
use Rattle.kv_model.specs.History.{Table}
use Rattle.stored.specs.Blocks.{Block}
use Rattle.stored.specs.Stored.{Stored}
use Rattle.tree_dir.specs.Leaves.{Directory}
use Rattle.tree_open.specs.declared.place.TreePlace.{TreePlace}
use Rattle.tree_write.specs.Captures.{Captures, IsNewOrLive, IsPlaced, places_of, with_addr, with_addrs}
use Rattle.ckpt_step.specs.Grounds.{start_cell}
use Rattle.ckpt_step.specs.Halves.{AreOwn, IsNewBlock, IsOldBlock, Runs}
use Rattle.ckpt_step.specs.Moments.{Moment}
use Rattle.ckpt_step.specs.Rooms.{Written}
use Rattle.ckpt_step.specs.declared.parts.LeafPart.{LeafPart}
use Rattle.ckpt_step.specs.declared.lives.Lone.{Lone}
use Rattle.ckpt_step.proofs.Lones.{start_kind}
use Rattle.ckpt_step.proofs.Members.{all_of, in_either, member_map}
use Rattle.ckpt_step.proofs.Within.{ends_within}
use Rattle.ckpt_step.proofs.Goings.{IsAtTable}
use Rattle.ckpt_step.proofs.HalfCells.{live_cell, none_before}

-- blocks that are captured more
module _ {D : Type 0} {g : Ghosts D} {old : Option Stored} {was : List TreePlace} {lives : List Lone} {d : Directory} {had : Written} {n : Moment} {every known : List Table} {next : ℕ} {first : Books} {start : D} {i : ℕ} {t : Table} {books : Books} {places : List TreePlace} {more : List LeafPart} {taken : List Addr} {mid : D} (on : IsAtTable g old was lives d had n every known next first start i t books places more taken mid)
    (blocks : List Block) (sizes : List ℕ) (books' : Books) (end : D) (caught : Captures g old first blocks sizes books books' mid end) where
  long_end : 8192 ≤ length (g.seen end)
  long_end = omega (arith, on.going.half.runs.long, caught.keeps.no_shorter)

  pub own_new : (a : Addr) → IsPlaced books a → IsNewBlock old lives a
  own_new a placed = record { unit = placed.unit; units = placed.units; offset = placed.offset; size = placed.size; none = none_before old lives taken placed.unit (sym (on.going.half.runs.cells placed.unit) ∙ placed.none) }

  own_live : (a : Addr) → HasLive first.cells a.offset a.size → IsOldBlock old lives a
  own_live a (u, offset, size, live) =
      let held = live_cell (start_cell old lives u) (start_kind u old lives) (ap (λ (c : Cell). c.is_live) (sym (on.begun.half.runs.cells u)) ∙ live) in
      record { unit = u; units = held.0; is_last = held.1; offset = offset; size = size ∙ ap (λ (c : Cell). 4096 * c.units) (on.begun.half.runs.cells u ∙ held.2); cell = held.2 }

  own_more : AreOwn old lives (taken ++ places_of blocks)
  own_more a among = elim (in_either taken (places_of blocks) a among) [
    | inl before ↦ on.going.half.runs.own a before
    | inr more ↦
        let b = member_map {A = Block} (λ x. x.place) a blocks more in
        elim (subst (λ (x : Addr). IsNewOrLive first books x) (sym b.2) (all_of (λ (x : Block). IsNewOrLive first books x.place) blocks b.0 caught.each b.1)) [ inl placed ↦ inr (own_new a placed) | inr live ↦ inl (own_live a live) ]
  ]

  pub runs_more : Runs (g.seen end) (g.may_leave end) books' old lives (taken ++ places_of blocks)
  runs_more = record {
    stands = caught.may.stands;
    cells = λ u. caught.cells u ∙ (ap (λ (c : Cell). with_addrs u c (places_of blocks)) (on.going.half.runs.cells u) ∙ sym (fold-append (with_addr u) (start_cell old lives u) taken (places_of blocks)));
    units = caught.may.units;
    long = long_end;
    within = ends_within books books' (g.capacity mid) sizes blocks (g.seen end) on.going.half.runs.units caught.may.units (omega (arith, on.going.half.runs.within, caught.keeps.no_shorter)) long_end caught.places caught.holds caught.in_use caught.cells;
    own = own_more;
  }
