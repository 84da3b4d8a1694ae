-- What stays of a ground over what an engine does between checkpoints.
use Rattle.std.specs.Prelude.{◌≡◌, ℕ, true, List, None, Option, Some}
use Rattle.call_steps.specs.declared.hub.Hub.{Hub}
use Rattle.catalog.specs.Known.{AreTables}
use Rattle.engine.specs.Directories.{HubGoesOn}
use Rattle.engine_world.specs.Worlds.{World}
use Rattle.stored.specs.Stored.{Stored}
use Rattle.tree_dir.specs.declared.leaf.Leaf.{Leaf}
use Rattle.tree_dir.specs.Leaves.{IsDirectory, changed, in_frame, leaf_named}
use Rattle.ckpt_step.specs.Floors.{AreLivesOn, Follows, GoesOn}
use Rattle.ckpt_step.specs.Grounds.{StandsOn}
use Rattle.ckpt_step.specs.Parts.{has_rows}
use Rattle.ckpt_step.specs.Rooms.{known_in}
use Rattle.ckpt_step.specs.declared.ground.Ground.{Ground}

-- The hub goes on, as over calls, steps and leaves that come into frames: the ground is still that of the last completed checkpoint, and where the machine goes on too and the shelf stays, it follows as it did.
abbrev pub GroundsStay : List ℕ → (List ℕ → Type 0) → Type 0
GroundsStay seen images = (hub next : Hub) (g : Ground) (old : Option Stored) → HubGoesOn hub next → IsDirectory hub.dir → IsDirectory next.dir → AreTables next.tables → StandsOn seen images hub g old
    → StandsOn seen images next g old
    × ((w v : World) → GoesOn w.machine v.machine → v.shelf ≡ w.shelf → Follows old hub g w → Follows old next g v)
    × ((w v : World) → v.shelf ≡ w.shelf → AreLivesOn seen hub g w → AreLivesOn seen next g v)

-- the leaf of this id is in no frame
abbrev pub let_go : Hub → ℕ → Hub
let_go hub id = record hub { dir = record hub.dir { leaves = changed id (in_frame None) hub.dir.leaves } }

-- A leaf goes out of its frame that no checkpoint of this engine wrote, and whose link leads to rows: the ground is still that of the last completed checkpoint, and follows as it did.
abbrev pub GroundsLetGo : List ℕ → (List ℕ → Type 0) → Type 0
GroundsLetGo seen images = (hub : Hub) (g : Ground) (old : Option Stored) (l : Leaf) → IsDirectory hub.dir → leaf_named l.id hub.dir.leaves ≡ Some l → known_in g.parts l.id ≡ None → has_rows l.entry.link ≡ true → StandsOn seen images hub g old
    → StandsOn seen images (let_go hub l.id) g old
    × ((w : World) → Follows old hub g w → Follows old (let_go hub l.id) g w)
    × ((w : World) → AreLivesOn seen hub g w → AreLivesOn seen (let_go hub l.id) g w)
