-- Leaves that give way to what the last completed checkpoint has of them.
use Rattle.std.specs.Prelude.{◌≡◌, ◌≢◌, ◌≤◌, ◌++◌, ℕ, List, Option, Some}
use Rattle.std.specs.List.{AllByRecursion}
use Rattle.std.specs.Option.{option_to_list}
use Rattle.kv_model.specs.History.{Table}
use Rattle.kv_model.specs.Machine.{Machine}
use Rattle.kv_model.specs.Valid.{Valid}
use Rattle.recover_open.specs.Bare.{tree_rows}
use Rattle.row_page.specs.Rows.{Row}
use Rattle.stored.specs.Stored.{Stored}
use Rattle.stored.specs.TableTree.{Climbs, Entry, TableTree, first_key}
use Rattle.tree_dir.specs.declared.leaf.Leaf.{Leaf}
use Rattle.tree_dir.specs.Leaves.{Directory, IsDirectory, TakePlace, leaves_with}
use Rattle.tree_open.specs.declared.place.TreePlace.{TreePlace}
use Rattle.call_steps.specs.declared.hub.Hub.{Hub}
use Rattle.engine_world.specs.GivingWay.{IsShelved}
use Rattle.engine_world.specs.Stands.{Engine, Stands}
use Rattle.engine_world.specs.Worlds.{World}
use Rattle.engine.specs.Frames.{HasGivenWay}
use Rattle.ckpt_content.specs.Checkpoints.{IsRowsOf}
use Rattle.ckpt_step.specs.Floors.{AreLivesOn, Follows}
use Rattle.ckpt_step.specs.Grounds.{StandsOn}
use Rattle.ckpt_step.specs.Lives.{NoneLive}
use Rattle.ckpt_step.specs.Parts.{part_in}
use Rattle.ckpt_step.specs.Rooms.{Written, known_in}
use Rattle.ckpt_step.specs.Takes.{IsWholeOf}
use Rattle.ckpt_step.specs.Trees.{HasTreeAt}
use Rattle.ckpt_step.specs.declared.ground.Ground.{Ground}

-- each version that these entries lead to is durable at this stamp, as their links say
abbrev pub AreDurableAt : ℕ → List Entry → Type 0
AreDurableAt oldest part = AllByRecursion (λ (e : Entry). e.link.durable ≤ oldest) part

-- entries that may stand where a leaf stood: some, ascending from its low key on and below the entry behind it, all durable at the stamp
pub record MayStand (entries : List Entry) (low : List ℕ) (next : Option Entry) (oldest : ℕ) : Type 0 where
  pub begins : first_key entries ≡ Some low
  pub climbs : Climbs (entries ++ option_to_list next)
  pub durable : AreDurableAt oldest entries

-- The entries are those that the checkpoint has of the leaf of this id, each version there is durable at the stamp, and they may take the leaf's place.
pub record MayTakeOver (dir : Directory) (written : Written) (id oldest : ℕ) (entries : List Entry) : Type 0 where
  pub place : TakePlace id entries dir.leaves
  pub part : part_in written place.leaf ≡ Some entries
  pub durable : AreDurableAt oldest entries

-- each tree of the checkpoint has the newest version of each key of its table
abbrev pub HasNewest : Option Stored → Machine → Type 0
HasNewest old m = (t : Table) (place : TreePlace) (tree : TableTree) → HasTreeAt old t place tree → IsRowsOf m t (tree_rows tree)

-- as one has that is taken of the machine
abbrev pub CheckpointsHaveNewest : Type 0
CheckpointsHaveNewest = (m : Machine) (number : ℕ) (s : Stored) → Valid m → IsWholeOf m number s → HasNewest (Some s) m

-- nothing is kept of the leaf of this id any more
pub record Forgets (g g' : Ground) (id : ℕ) : Type 0 where
  pub same : g' ≡ record g { parts = g'.parts }
  pub others : (other : ℕ) → other ≢ id → known_in g'.parts other ≡ known_in g.parts other

-- The shelf has what these new leaves have, whose blocks are those of the checkpoint, on which the next one stands as before.
pub record StandsStill (seen : List ℕ) (images : List ℕ → Type 0) (old : Option Stored) (hub next : Hub) (g : Ground) (w : World) (made : List Leaf) : Type 0 where
  pub shelf : ℕ → List Row
  pub shelved : IsShelved w.machine hub.dir next.dir made w.shelf shelf
  pub on : StandsOn seen images next g old
  pub follows : Follows old next g (record w { shelf = shelf })
  pub since : AreLivesOn seen next g (record w { shelf = shelf })

-- A leaf of a table of which no leaf was written since gives way to what the checkpoint has of it, which has the newest version of each key: the ground is still that of the checkpoint.
abbrev pub GroundsGiveWay : List ℕ → (List ℕ → Type 0) → Type 0
GroundsGiveWay seen images = (e next : Engine) (w : World) (g g' : Ground) (old : Option Stored) (id : ℕ) (entries : List Entry) (way : HasGivenWay e next id entries) → Stands e w → IsDirectory next.hub.dir → StandsOn seen images e.hub g old → Follows old e.hub g w → AreLivesOn seen e.hub g w → NoneLive g.lives e.hub.dir.leaves way.leaf.table
    → HasNewest old w.machine → MayTakeOver e.hub.dir (known_in g.parts) id w.machine.oldest entries → Forgets g g' id → StandsStill seen images old e.hub next.hub g' w (leaves_with way.leaf.table way.ids entries)
