-- Leaves of other tables that were written since have their rows still, once a checkpoint is completed.
use Rattle.std.specs.Prelude.{◌≡◌, ℕ, ◌+◌, ◌<◌, ◌≤◌, List, [], length, take, Option, Some, slice_get, refl}
use Rattle.std.proofs.Common.{sym, ◌∙◌, subst, arith}
use Rattle.std.proofs.lemmas.Option.{slice_get_within}
use Rattle.block_mgr.specs.Blocks.{Books, Has, HasLive}
use Rattle.block_mgr.specs.Cells.{AreUnits, cell_at}
use Rattle.block_mgr.proofs.HolderLemmas.{used_live}
use Rattle.checkpoint_core.specs.Finishes.{KeepsParts}
use Rattle.device_layout.specs.declared.link.Link.{Link}
use Rattle.engine_world.specs.Worlds.{World}
use Rattle.extent_list.specs.Space.{end_of}
use Rattle.kv_model.specs.History.{Table}
use Rattle.kv_model.specs.Machine.{Checkpoint}
use Rattle.row_page.specs.Rows.{Row}
use Rattle.stamp.specs.declared.Name.{Name}
use Rattle.stored.specs.Stored.{Stored}
use Rattle.tree_dir.specs.Leaves.{Directory, IsDirectory}
use Rattle.tree_open.specs.declared.place.TreePlace.{TreePlace}
use Rattle.ckpt_step.specs.Floors.{AreNewestBefore, AreOnDevice, FollowsFrom}
use Rattle.ckpt_step.specs.Grounds.{AreSince, start_cell}
use Rattle.ckpt_step.specs.Holding.{lone_as}
use Rattle.ckpt_step.specs.Lives.{AreOfOthers}
use Rattle.ckpt_step.specs.Parts.{AreBelowFloor, AreOfTables, with_parts}
use Rattle.ckpt_step.specs.Rooms.{Written}
use Rattle.ckpt_step.specs.declared.lives.Lone.{Lone}
use Rattle.ckpt_step.specs.declared.parts.LeafPart.{LeafPart}
use Rattle.ckpt_step.proofs.FirstTables.{taken_get}
use Rattle.ckpt_step.proofs.Lones.{lone_old}
use Rattle.ckpt_step.proofs.Moving.{SameThere, same_leaf}
use Rattle.ckpt_step.proofs.OldTrees.{live_of_old}
use Rattle.ckpt_step.proofs.OthersStay.{staying, unwritten}
use Rattle.ckpt_step.proofs.Past.{ends_before}
use Rattle.ckpt_step.proofs.SeenBefore.{IsNextFloor}
use Rattle.ckpt_step.proofs.WithParts.{in_alike}

-- where the blocks in use are read as they were, one of the live tree is the same
parts_same : (bytes later : List ℕ) (books : Books) → AreUnits books.cells books.space → end_of books.space ≤ length bytes → KeepsParts (Has books.cells) bytes later → (link : Link) → HasLive books.cells link.addr.offset link.addr.size → SameThere bytes later link
parts_same bytes later books units within keeps link live =
    let used : Has books.cells link.addr.offset link.addr.size = (live.0, live.1, live.2, used_live (cell_at books.cells live.0) live.3) in
    let end = ends_before books.cells books.space link.addr.offset link.addr.size units used in
    let inside : link.addr.offset + link.addr.size ≤ length bytes = omega (arith, end, within) in
    record { within = inside; also = omega (arith, inside, keeps.no_shorter); same = keeps.part link.addr.offset link.addr.size used inside }

module _ (d : Directory) (is : IsDirectory d) (first : List Table) (lives others : List Lone) (had : Written) (are : AreOfOthers first d.leaves lives others) (old : Option Stored) (since : AreSince old lives d had) where
  -- those that stay have their rows on the device
  pub device_others : (bytes later : List ℕ) (books : Books) → ((u : ℕ) → cell_at books.cells u ≡ start_cell old lives u) → AreUnits books.cells books.space → end_of books.space ≤ length bytes → KeepsParts (Has books.cells) bytes later → (shelf : ℕ → List Row) → AreOnDevice bytes lives d.leaves shelf → AreOnDevice later others d.leaves shelf
  device_others bytes later books cells units within keeps shelf device l there live =
      let own = staying d is first lives others since.lone.distinct are l there live in
      let was = device l there own.live in
      let block = live_of_old old lives books l.entry.link.addr cells (lone_old old lives since.lone (lone_as l) own.mine) in
      record { is = was.is; on = ((was.on.0.0, same_leaf bytes later l.entry.link (shelf l.id) (λ some. parts_same bytes later books units within keeps l.entry.link block) was.on.0.1), tt) }

  -- and what is below the floor of them is the newest before it
  pub follows_others : (new : Option Stored) (known : List Table) (count : ℕ) (more : List LeafPart) (was places : List TreePlace) (floor next : Name) (w : World) (c : Checkpoint) → AreOfTables first d.leaves more → first ≡ take count known → length places ≡ count → IsNextFloor w.machine c floor next others
      → FollowsFrom old known lives d.leaves had was floor w → FollowsFrom new first [] d.leaves (with_parts had more) places next w → FollowsFrom new known others d.leaves (with_parts had more) places next w
  follows_others new known count more was places floor next w c of firsts many here before follows = record {
    respects = here.respects;
    leaf = λ i t place tree l at stands has there its dead.
        let low : i < count = omega (arith, many, slice_get_within places i place stands) in
        follows.leaf i t place tree l (subst (λ (ts : List Table). slice_get ts i ≡ Some t) (sym firsts) (taken_get count known i t at low)) stands has there its refl;
    since = λ l there live.
        let own = staying d is first lives others since.lone.distinct are l there live in
        let own_before = before.since l there own.live in
        let floor_is = here.same (lone_as l) own.there in
        let same = unwritten d is first lives others since.lone.distinct are had more of l there own.other in
        record {
          before = λ part found below.
              subst (λ (x : Name). AreNewestBefore w.machine x d.leaves l.table l (w.shelf l.id)) (sym floor_is)
              (own_before.before part (in_alike had (with_parts had more) l (sym same) ∙ found) (subst (λ (x : Name). AreBelowFloor x part) floor_is below));
          same = λ lies. refl;
        };
  }
