-- Leaves that the live tree has are there as they were, while blocks are captured.
use Rattle.std.specs.Prelude.{◌≡◌, ℕ, List, [], ◌∷◌, length, Option, ◌+◌, ◌≤◌}
use Rattle.std.proofs.Common.{arith, inl, inr}
use Rattle.disk_model.specs.Crash.{Keeps}
use Rattle.extent_list.specs.Space.{end_of}
use Rattle.block_mgr.specs.Blocks.{Books, Has, HasLive}
use Rattle.block_mgr.specs.Cells.{AreUnits, cell_at}
use Rattle.block_mgr.proofs.HolderLemmas.{used_live}
use Rattle.device_layout.specs.declared.link.Link.{Link}
use Rattle.row_page.specs.Rows.{Row}
use Rattle.stored.specs.Stored.{Stored}
use Rattle.stored.specs.TableTree.{Entry}
use Rattle.tree_dir.specs.Leaves.{Directory}
use Rattle.tree_write.specs.Captures.{StaysLive}
use Rattle.tree_write.specs.Drafts.{AreLiveLeaves, HasLeaves}
use Rattle.tree_write.specs.Steps.{links_in}
use Rattle.tree_write.specs.Writes.{IsLiveLeaf}
use Rattle.ckpt_step.specs.Floors.{AreOnDevice}
use Rattle.ckpt_step.specs.Grounds.{AreSince, start_cell}
use Rattle.ckpt_step.specs.Rooms.{Written}
use Rattle.ckpt_step.specs.declared.lives.Lone.{Lone}
use Rattle.ckpt_step.proofs.Lones.{lone_old}
use Rattle.ckpt_step.proofs.Moving.{SameThere, same_leaf}
use Rattle.ckpt_step.proofs.OldTrees.{live_of_old}
use Rattle.ckpt_step.proofs.Past.{ends_before}

-- where the books keep what they have, a block of the live tree is the same
pub live_same : (bytes later : List ℕ) (books : Books) → AreUnits books.cells books.space → end_of books.space ≤ length bytes → Keeps (Has books.cells) bytes later → (link : Link) → HasLive books.cells link.addr.offset link.addr.size → SameThere bytes later link
live_same bytes later books units within keeps link live =
    let used : Has books.cells link.addr.offset link.addr.size = (live.0, live.1, live.2, used_live (cell_at books.cells live.0) live.3) in
    let end = ends_before books.cells books.space link.addr.offset link.addr.size units used in
    let inside : link.addr.offset + link.addr.size ≤ length bytes = omega (arith, end, within) in
    record { within = inside; also = omega (arith, inside, keeps.no_shorter); same = keeps.part link.addr.offset link.addr.size used inside }

module _ (bytes later : List ℕ) (first books : Books) (stays : StaysLive first books) (units : AreUnits books.cells books.space) (within : end_of books.space ≤ length bytes) (keeps : Keeps (Has books.cells) bytes later) where
  there : (link : Link) → IsLiveLeaf first link → (link.addr.offset ≡ 0 → ⊥) → SameThere bytes later link
  there link (inl none) some = absurd (some none)
  there link (inr live) some = live_same bytes later books units within keeps link (stays link.addr.offset link.addr.size live)

  pub leaves_now : (es : List Entry) (leaves : List (List Row)) → HasLeaves bytes es leaves → AreLiveLeaves first (links_in es) → HasLeaves later es leaves
  leaves_now [] [] has live = tt
  leaves_now [] (rows ∷ leaves) has live = absurd has
  leaves_now (e ∷ es) [] has live = absurd has
  leaves_now (e ∷ es) (rows ∷ leaves) has live = ((has.0.0, same_leaf bytes later e.link rows (there e.link live.0) has.0.1), leaves_now es leaves has.1 live.1)

-- leaves that were written since have their rows still, while the books keep what they began with
pub device_kept : (bytes later : List ℕ) (books : Books) (old : Option Stored) (lives : List Lone) (dir : Directory) (written : Written) → AreSince old lives dir written → ((u : ℕ) → cell_at books.cells u ≡ start_cell old lives u) → AreUnits books.cells books.space → end_of books.space ≤ length bytes → Keeps (Has books.cells) bytes later
    → (shelf : ℕ → List Row) → AreOnDevice bytes lives dir.leaves shelf → AreOnDevice later lives dir.leaves shelf
device_kept bytes later books old lives dir written since cells units within keeps shelf device l there_in live =
    let was = device l there_in live in
    let own = since.leaf l there_in live in
    let block = live_of_old old lives books l.entry.link.addr cells (lone_old old lives since.lone (record { leaf = l.id; addr = l.entry.link.addr }) own.there) in
    record { is = was.is; on = ((was.on.0.0, same_leaf bytes later l.entry.link (shelf l.id) (λ some. live_same bytes later books units within keeps l.entry.link block) was.on.0.1), tt) }
