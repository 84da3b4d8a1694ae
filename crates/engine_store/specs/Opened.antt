-- An engine on a device, as an opening makes it.
use Rattle.std.specs.Prelude.{◌≡◌, ◌⊎◌, ℕ, ◌+◌, ◌^◌, ◌<◌, ◌≤◌, List, [], length, Option, Some, None}
use Rattle.limits.specs.declared.TheConstants.{TABLES_MAX}
use Rattle.failure.specs.Counts.{Rose}
use Rattle.disk_model.specs.declared.disk.Disk.{Ghosts}
use Rattle.wt_code.specs.declared.refusals.Refusal.{Refusal}
use Rattle.wt_code.specs.declared.refusals.Refusal.TheVariants.{Limit as Refusal_Limit}
use Rattle.wt_code.specs.declared.refusals.Limit.TheVariants.{Checkpoints, Tables}
use Rattle.kv_model.specs.Content.{Content}
use Rattle.row_page.specs.Greatest.{no_name}
use Rattle.engine_world.specs.Stands.{Stands}
use Rattle.row_page.specs.Rows.{Row}
use Rattle.stored.specs.Records.{Record}
use Rattle.stored.specs.Stored.{Stored, IsOn, IsBlank, Reads}
use Rattle.tree_open.specs.Damage.{Refused}
use Rattle.recover_open.specs.declared.wholes.Whole.{Whole}
use Rattle.recover_open.specs.Wholes.{CanSurveyWhole, IsWholeDamage, SurveysWhole}
use Rattle.device_leaf.specs.declared.place.Place.{Place}
use Rattle.device_leaf.specs.Openings.{last_number}
use Rattle.device_leaf.specs.Closings.{content_was}
use Rattle.tree_dir.specs.Leaves.{IsDirectory}
use Rattle.call_steps.specs.declared.hub.Hub.{Hub}
use Rattle.engine.specs.Directories.{HubGoesOn}
use Rattle.ckpt_step.specs.Floors.{Follows}
use Rattle.ckpt_step.specs.Grounds.{StandsOn}
use Rattle.ckpt_step.specs.Trees.{AreLow}
use Rattle.ckpt_step.specs.Rooms.{known_in}
use Rattle.engine_store.specs.declared.store.Store.{Store}
use Rattle.engine_store.specs.Loads.{LeafOfSpoils, LeafSpoils}
use Rattle.engine_store.specs.GoneOut.{all_out}
use Rattle.engine_store.specs.Keeping.{begun_with}
use Rattle.engine_store.specs.Marked.{AreAway}

-- whatever the disk: another checkpoint by the engine's run may follow, and each tree is that of a table, with as many levels as a record can tell
pub record IsReady (s : Store) : Type 0 where
  pub run : s.engine.hub.txns.run ≤ s.ground.number + 1
  pub trees : length s.ground.trees.items ≤ length s.engine.hub.tables.tables
  pub low : AreLow s.ground.trees.items

-- another run may follow the checkpoint, and its next number leaves one for each of as many tables as an engine may have
abbrev pub HasNumbers : Option Stored → Type 0
HasNumbers None = Unit {0}
HasNumbers (Some s) = (s.kept.run < last_number) × (s.kept.next_table + TABLES_MAX < 2 ^ 32 + length s.kept.tables)

-- The engine stands for the world with which what the device holds begins, without a session or a checkpoint that runs, in which the history has what is kept. The leaves that are not loaded are as the checkpoint has them, and none was written since; of one that was never made no block has rows.
pub record IsOpened (seen : List ℕ) (images : List ℕ → Type 0) (s : Store) : Type 0 where
  pub old : Option Stored
  pub numbers : HasNumbers old
  pub on : StandsOn seen images s.engine.hub s.ground old
  pub floor : s.ground.floor ≡ no_name
  pub none : s.ground.lives ≡ []
  pub running : s.running ≡ None
  pub shelf : ℕ → List Row
  pub world : Stands s.engine (begun_with (content_was old) shelf s)
  pub bare : (id : ℕ) → s.engine.hub.dir.next ≤ id → shelf id ≡ []
  pub follows : Follows old s.engine.hub s.ground (begun_with (content_was old) shelf s)
  pub away : AreAway s.engine.hub.dir.leaves (known_in s.ground.parts)

-- whatever the disk, a hub from which calls go on
abbrev pub IsOutset : Hub → Type 0
IsOutset h = IsDirectory h.dir × HubGoesOn (all_out h) h

-- the next number leaves none for as many tables as an engine may have
abbrev pub LacksNumbers : Record → Type 0
LacksNumbers r = 2 ^ 32 + length r.tables ≤ r.next_table + TABLES_MAX

-- it has a checkpoint but for its leaves, or none was completed
abbrev pub IsSurveyable : List ℕ → Type 0
IsSurveyable bytes = IsBlank bytes ⊎ CanSurveyWhole bytes

-- a leaf to which the device's checkpoint leads is at fault
pub record HasSpoiltLeaf (bytes : List ℕ) (at want found : ℕ) : Type 0 where
  pub place : Place
  pub whole : Whole
  pub surveyed : SurveysWhole bytes place whole
  pub leaf : LeafOfSpoils bytes whole.uppers.items at want found

-- the device is damaged there, or a leaf to which its checkpoint leads is at fault
abbrev pub IsAtFault : List ℕ → (at want found : ℕ) → Type 0
IsAtFault bytes at want found = IsWholeDamage bytes at want found ⊎ HasSpoiltLeaf bytes at want found

-- each leaf of the engine that is at fault is such a one
abbrev pub SpoilsAreThere : List ℕ → Store → Type 0
SpoilsAreThere bytes s = (id at want found : ℕ) → LeafSpoils bytes s.engine.hub.dir id at want found → HasSpoiltLeaf bytes at want found

-- Why an opening is refused: a fault of the disk, want of memory, or damage, also of a leaf of which it may take something out; since no run may follow the record's, or since its next number leaves none for as many tables as an engine may have.
abbrev pub OpenRefused : (fault known : Type 0) → List ℕ → Refusal → Type 0
OpenRefused fault known bytes r =
    Refused fault known (IsAtFault bytes) r
    ⊎ (((r ≡ Refusal_Limit Checkpoints) × (known → (content : Content) → Reads bytes content → content.run ≡ last_number))
    ⊎ ((r ≡ Refusal_Limit Tables) × (known → (s : Stored) → IsOn bytes s → LacksNumbers s.kept) × (known → IsBlank bytes → ⊥)))

-- the same of a disk, before and after
abbrev pub RefusesOpen : {D : Type 0} → Ghosts D → (known : Type 0) → D → D → Refusal → Type 0
RefusesOpen g known old new r = OpenRefused (Rose (g.faults old) (g.faults new)) known (g.seen old) r
