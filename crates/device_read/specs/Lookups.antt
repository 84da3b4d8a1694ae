-- The leaf that a look-up keeps.
use Rattle.std.specs.Prelude.{ℕ, List, Option, IfSome}
use Rattle.leaf_rows.specs.declared.marks.Marks.{Marks}
use Rattle.stored.specs.TableTree.{Entry}
use Rattle.device_read.specs.declared.lookup.LastLeaf.{LastLeaf}
use Rattle.device_read.specs.Readers.{Held, entries_at}
use Rattle.device_read.specs.Steps.{IsLeafAt}

-- the place of its table, and the leaf that it read last
pub record KeptLeaf : Type 0 where
  pub place : ℕ
  pub last : Option LastLeaf

-- the device has the leaf at its index
abbrev pub IsLast : List ℕ → List Entry → Marks → List ℕ → LastLeaf → Type 0
IsLast bytes es marks ids l = IsLeafAt bytes es l.index marks ids l.leaf

abbrev pub KeepsLast : List ℕ → List Entry → Marks → List ℕ → Option LastLeaf → Type 0
KeepsLast bytes es marks ids last = IfSome last (IsLast bytes es marks ids)

-- what is kept is a leaf of the reader's table on these bytes, or nothing
abbrev pub KeepsLeafOf : List ℕ → Held → KeptLeaf → Type 0
KeepsLeafOf bytes h k = KeepsLast bytes (entries_at h k.place) h.marks h.ids k.last
