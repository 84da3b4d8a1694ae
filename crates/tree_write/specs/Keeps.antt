-- A tree that is captured as it stands.
use Rattle.std.specs.Prelude.{◌≡◌, List}
use Rattle.std.specs.List.{fold, AllByRecursion}
use Rattle.block_mgr.specs.declared.cell.Cell.{Cell}
use Rattle.block_mgr.specs.Blocks.{Books, HasLive, unit_of}
use Rattle.block_mgr.specs.Cells.{captured}
use Rattle.device_layout.specs.declared.addr.Addr.{Addr}

-- the live tree has each of the blocks
abbrev pub AreLive : List Cell → List Addr → Type 0
AreLive cells addrs = AllByRecursion (λ (a : Addr). HasLive cells a.offset a.size) addrs

-- the running checkpoint captures the blocks, one after the other
abbrev pub captured_all : List Cell → List Addr → List Cell
captured_all cells addrs = fold {A = Addr} {B = List Cell} (λ l a. captured l (unit_of a.offset)) cells addrs

-- the blocks of the tree are captured, and nothing else changed
pub record KeepsAll (books books' : Books) (addrs : List Addr) : Type 0 where
  pub live : AreLive books.cells addrs
  pub cells : books'.cells ≡ captured_all books.cells addrs
  pub space : books'.space ≡ books.space
  pub synced : books'.is_synced ≡ books.is_synced
