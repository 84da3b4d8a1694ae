-- The tables of a checkpoint, each with the entries of its leaves.
use Rattle.std.specs.Prelude.{◌≡◌, List, [], ◌∷◌}
use Rattle.stored.specs.Records.{TableRoot}
use Rattle.tree_open.specs.declared.place.Upper.{Upper}
use Rattle.engine_start.specs.declared.table_entries.TableEntries.{TableEntries}

pub record IsWithEntries (t : TableEntries) (root : TableRoot) (u : Upper) : Type 0 where
  pub table : t.table ≡ root.table
  pub entries : t.entries ≡ u.entries

-- these are the tables with their entries, in one order
abbrev pub AreWithEntries : List TableEntries → List TableRoot → List Upper → Type 0
AreWithEntries [] [] [] = Unit {0}
AreWithEntries (t ∷ both) (r ∷ tables) (u ∷ uppers) = IsWithEntries t r u × AreWithEntries both tables uppers
AreWithEntries _ _ _ = ⊥
