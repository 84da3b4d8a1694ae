-- What is told of leaves whose rows are not kept.
use Rattle.std.specs.Prelude.{◌≡◌, ◌⊎◌, ℕ, ◌+◌, List, length, Option, None}
use Rattle.device_layout.specs.declared.addr.Addr.{Addr}
use Rattle.wt_code.specs.declared.refusals.Refusal.{Refusal}
use Rattle.wt_code.specs.declared.refusals.Refusal.TheVariants.{Corrupt, NoMemory}
use Rattle.row_page.specs.Rows.{Row, IsPage}
use Rattle.row_page.specs.Greatest.{names_of, durables_of}
use Rattle.stored.specs.Tree.{join}
use Rattle.stored.specs.TableTree.{Entry}
use Rattle.stored.specs.Links.{SaysOf}
use Rattle.tree_open.specs.Trees.{leaf_addr, leaf_addrs}
use Rattle.recover_open.specs.declared.check.Tally.{Tally}
use Rattle.recover_open.specs.Leaves.{AreUnder, IsUnder, AreLeaves}

-- The device has a leaf for each of these entries: so many of them are stored, and they have so many rows.
pub record IsTallied (bytes : List ℕ) (es : List Entry) (t : Tally) : Type 0 where
  pub leaves : List (List Row)
  pub are : AreLeaves bytes es None leaves
  pub stored : t.leaves ≡ length (leaf_addrs es)
  pub versions : t.versions ≡ length (join leaves)

-- the device has a leaf of so many rows where an entry leads, and its keys are from that entry's up to the next one's
abbrev pub HasLeaf : List ℕ → Entry → Option (List ℕ) → ℕ → Type 0
HasLeaf bytes e next n = (rows : List Row) × IsUnder bytes e next rows × (n ≡ length rows)

-- these rows are those of the entry's leaf: the link says the greatest of them, and their keys are from the entry's up to the next one's
pub record IsLeafOf (e : Entry) (next : Option (List ℕ)) (rows : List Row) : Type 0 where
  pub says : SaysOf e.link (names_of rows) (durables_of rows)
  pub keys : AreUnder e next rows

-- the block is that of such a leaf, of so many rows
abbrev pub SpellsLeaf : List ℕ → Entry → Option (List ℕ) → ℕ → Type 0
SpellsLeaf block e next n = (rows : List Row) × IsPage block rows × IsLeafOf e next rows × (n ≡ length rows)

-- why a block is not that of such a leaf
abbrev pub RefusesLeaf : List ℕ → Entry → Option (List ℕ) → Refusal → Type 0
RefusesLeaf block e next r = (r ≡ NoMemory) ⊎ ((r ≡ Corrupt e.link.addr.offset e.link.addr.sum e.link.addr.sum) × ((rows : List Row) → IsPage block rows → IsLeafOf e next rows → ⊥))

-- one leaf more, which has this address and so many rows
abbrev pub IsNextTally : Tally → Addr → ℕ → Tally → Type 0
IsNextTally old a n new = (new.leaves ≡ old.leaves + length (leaf_addr a)) × (new.versions ≡ old.versions + n)
