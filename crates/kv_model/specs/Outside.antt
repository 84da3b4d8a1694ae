-- Facts of the outside on which answers rest: how the device took a checkpoint, and which calls are unfinished.
use Rattle.std.specs.Prelude.{ℕ, Bool, List, Option}
use Rattle.failure.specs.declared.Fault.{Fault}

-- how the device took what a step or the finish of a checkpoint wrote
pub data Storing : Type 0 where
  Stored : Storing
  -- a block found no place
  NoPlace : Storing
  -- a read failed
  ReadFailed : Storing
  -- what was read is damaged
  Damaged : (offset want found : ℕ) → Storing
  -- this write or sync failed
  WriteFailed : (fault : Fault) → Storing

-- the calls that have begun and have not answered
pub record Unfinished : Type 0 where
  -- where an eviction works that has found what it evicts
  pub eviction : Option ℕ
  -- by session; false: it has none
  pub calls : List Bool
