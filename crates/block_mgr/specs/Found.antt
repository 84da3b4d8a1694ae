-- Who has a block that an opening finds.
use Rattle.std.specs.Prelude.{ℕ, Bool, true, false}
use Rattle.block_mgr.specs.declared.found.Holder.{Holder}
use Rattle.block_mgr.specs.declared.found.Holder.TheVariants.{Tree, Last, Named}

-- the last completed checkpoint has it
abbrev pub lasts : Holder → Bool
lasts Tree = true
lasts Last = true
lasts Named = false

-- the live tree has it
abbrev pub lives : Holder → Bool
lives Tree = true
lives Last = false
lives Named = false

-- how many named checkpoints it stands for
abbrev pub name_count : Holder → ℕ
name_count Tree = 0
name_count Last = 0
name_count Named = 1
