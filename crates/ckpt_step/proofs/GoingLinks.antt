-- The links of before are there as they were, while trees are captured.
use Rattle.std.specs.Prelude.{ℕ, List, Option, ◌≡◌}
use Rattle.std.specs.List.{Contains}
use Rattle.std.proofs.Common.{inl, inr}
use Rattle.disk_model.specs.declared.disk.Disk.{Ghosts}
use Rattle.block_mgr.specs.Blocks.{Books, HasLive}
use Rattle.device_layout.specs.declared.addr.Addr.{Addr}
use Rattle.device_layout.specs.declared.link.Link.{Link}
use Rattle.kv_model.specs.Holds.{Member}
use Rattle.kv_model.specs.History.{Table}
use Rattle.row_page.specs.Rows.{Row}
use Rattle.stored.specs.Stored.{Stored}
use Rattle.tree_dir.specs.declared.leaf.Leaf.{Leaf}
use Rattle.tree_dir.specs.Leaves.{Directory}
use Rattle.tree_write.specs.Steps.{links_in}
use Rattle.tree_write.specs.Writes.{IsLiveLeaf}
use Rattle.tree_open.specs.declared.place.TreePlace.{TreePlace}
use Rattle.ckpt_step.specs.Floors.{AreOnDevice}
use Rattle.ckpt_step.specs.Moments.{Moment}
use Rattle.ckpt_step.specs.Parts.{links_over, part_of}
use Rattle.ckpt_step.specs.Rooms.{Written}
use Rattle.ckpt_step.specs.declared.parts.LeafPart.{LeafPart}
use Rattle.ckpt_step.specs.declared.lives.Lone.{Lone}
use Rattle.ckpt_step.proofs.Goings.{IsAtTable, has, may_go}
use Rattle.ckpt_step.proofs.LeavesNow.{device_kept, live_same}
use Rattle.ckpt_step.proofs.Members.{all_of}
use Rattle.ckpt_step.proofs.Moving.{AllThere, SameThere, back_all}
use Rattle.ckpt_step.proofs.OldParts.{part_live}
use Rattle.ckpt_step.proofs.TableParts.{over_in}

module _ {D : Type 0} {g : Ghosts D} {old : Option Stored} {was : List TreePlace} {lives : List Lone} {d : Directory} {had : Written} {n : Moment} {every known : List Table} {next : ℕ} {first : Books} {start : D} {i : ℕ} {t : Table} {books : Books} {places : List TreePlace} {more : List LeafPart} {taken : List Addr} {mid : D} (on : IsAtTable g old was lives d had n every known next first start i t books places more taken mid) where
  -- what the live tree had at first is as it was
  live_there : (link : Link) → HasLive first.cells link.addr.offset link.addr.size → SameThere (g.seen start) (g.seen mid) link
  live_there link live = live_same (g.seen start) (g.seen mid) first on.begun.half.runs.units on.begun.half.runs.within on.going.keeps link live

  -- so is the part of a leaf of the table
  pub part_there : (l : Leaf) → Contains d.leaves l → l.table ≡ t.number → AllThere (g.seen start) (g.seen mid) (links_in (part_of had l))
  part_there l in_it own link among some =
      elim (all_of (λ (x : Link). IsLiveLeaf first x) (links_in (part_of had l)) link (part_live (g.seen mid) (g.may_leave mid) first books old lives d.leaves had was t i l (may_go on) (has on) in_it own) among) [
        | inl none ↦ absurd (some none)
        | inr live ↦ live_there link live
      ]

  -- and those over which leaves of it are written
  over_there : (front : List Leaf) → ((l : Leaf) → Member l front → Contains d.leaves l × (l.table ≡ t.number)) → (parts : List (List (List Row))) → AllThere (g.seen start) (g.seen mid) (links_over had front parts)
  over_there front within parts link among some =
      let one = over_in had front parts link among some in
      let l = within one.0 one.1 in
      part_there one.0 l.0 l.1 link one.2 some

  pub over_back : (front : List Leaf) → ((l : Leaf) → Member l front → Contains d.leaves l × (l.table ≡ t.number)) → (parts : List (List (List Row))) → AllThere (g.seen mid) (g.seen start) (links_over had front parts)
  over_back front within parts = back_all (g.seen start) (g.seen mid) (links_over had front parts) (over_there front within parts)

  -- the leaves that were written since have their rows still
  pub device_now : (shelf : ℕ → List Row) → AreOnDevice (g.seen start) lives d.leaves shelf → AreOnDevice (g.seen mid) lives d.leaves shelf
  device_now shelf device = device_kept (g.seen start) (g.seen mid) first old lives d had on.begun.since on.begun.half.runs.cells on.begun.half.runs.units on.begun.half.runs.within on.going.keeps shelf device
