-- What the books have once the live tree lets go of blocks.
use Rattle.std.specs.Prelude.{ℕ, ◌+◌, ◌*◌, ◌==◌, ◌&&◌, not, false, List, if◌then◌else◌}
use Rattle.std.specs.List.{fold}
use Rattle.block_mgr.specs.declared.cell.Cell.{Cell}
use Rattle.block_mgr.specs.Cells.{kept}
use Rattle.device_layout.specs.declared.addr.Addr.{Addr}
use Rattle.ckpt_step.specs.declared.lives.Lone.{Lone}
use Rattle.ckpt_step.specs.Lives.{has_at}

-- the cell at a unit, once the live tree has let go of the block of this place and size, where it has that and the last checkpoint has not
abbrev pub without : ℕ → Cell → Addr → Cell
without u c a = if a.offset == 8192 + 4096 * u then if (c.is_live && (a.size == 4096 * c.units)) && not c.is_last then kept (record c { is_live = false }) else c else c

-- and so for each of these
abbrev pub without_all : ℕ → Cell → List Addr → Cell
without_all u c addrs = fold (without u) c addrs

-- the same, but for blocks of leaves that were written since
abbrev pub without_new : List Lone → ℕ → Cell → Addr → Cell
without_new lives u c a = if has_at lives a.offset then c else without u c a

abbrev pub without_news : List Lone → ℕ → Cell → List Addr → Cell
without_news lives u c addrs = fold (without_new lives u) c addrs
