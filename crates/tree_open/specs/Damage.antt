-- Why no tree is read.
use Rattle.std.specs.Prelude.{◌≡◌, ◌⊎◌, ℕ, ◌-◌, ◌<◌, List, ◌∷◌, ◌++◌, length, Option, Some}
use Rattle.wt_code.specs.declared.refusals.Refusal.{Refusal}
use Rattle.wt_code.specs.declared.refusals.Refusal.TheVariants.{Corrupt, DiskFault, NoMemory}
use Rattle.block_mgr.specs.Places.{Spoils}
use Rattle.stored.specs.Tree.{Layer, bottom}
use Rattle.stored.specs.TableTree.{Entry, first_key}
use Rattle.stored.specs.Records.{Root}
use Rattle.tree_open.specs.Pages.{NoPage, IsPageOf, ArePages}
use Rattle.tree_open.specs.Trees.{NoInner, AreLayers, root_own}

-- a fault of the disk, want of memory, or damage that is told by its offset, the sum that is wanted there, and the one that is found
abbrev pub Refused : (fault known : Type 0) → (ℕ → ℕ → ℕ → Type 0) → Refusal → Type 0
Refused fault known Damage r =
    ((r ≡ DiskFault) × fault)
    ⊎ ((r ≡ NoMemory)
    ⊎ ((at want found : ℕ) × (r ≡ Corrupt at want found) × (known → Damage at want found)))

-- no such page is where the entry leads: its block has another sum than the entry says, or the same
pub record PageSpoils (bytes : List ℕ) (level : ℕ) (e : Entry) (next : Option (List ℕ)) (at want found : ℕ) : Type 0 where
  pub none : NoPage bytes level e next
  pub place : at ≡ e.link.addr.offset
  pub sum : want ≡ e.link.addr.sum
  pub why : Spoils bytes e.link.addr found ⊎ (found ≡ e.link.addr.sum)

-- the pages of the entries in front are there, and that of the one behind them is the first at fault
pub record LayerSpoils (bytes : List ℕ) (level : ℕ) (own : List Entry) (at want found : ℕ) : Type 0 where
  pub front : List Entry
  pub entry : Entry
  pub others : List Entry
  pub is : own ≡ front ++ entry ∷ others
  pub pages : Layer Entry
  pub before : ArePages bytes level front (Some entry.key) pages
  pub page : PageSpoils bytes level entry (first_key others) at want found

-- there is no such tree: the layers above are there, and a page of the next one is at fault
pub record InnerSpoils (bytes : List ℕ) (root : Root) (at want found : ℕ) : Type 0 where
  pub none : NoInner bytes root
  pub layers : List (Layer Entry)
  pub few : length layers < root.level
  pub above : AreLayers bytes root.level (root_own root) layers
  pub layer : LayerSpoils bytes (root.level - length layers) (bottom (root_own root) layers) at want found

-- why a block is not that of a page
abbrev pub RefusesPage : List ℕ → ℕ → Entry → Option (List ℕ) → Refusal → Type 0
RefusesPage block level e next r = (r ≡ NoMemory) ⊎ ((r ≡ Corrupt e.link.addr.offset e.link.addr.sum e.link.addr.sum) × ((p : List Entry) → IsPageOf block level e next p → ⊥))
