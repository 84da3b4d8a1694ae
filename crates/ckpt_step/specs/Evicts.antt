-- What the eviction of a leaf answers, and what it leaves.
use Rattle.std.specs.Prelude.{◌≡◌, ◌⊎◌, ℕ, ◌≤◌, true, false, List, [], length, Option, None, Some, Result, Ok, Err}
use Rattle.std.specs.List.{Contains}
use Rattle.failure.specs.declared.Fault.{Fault}
use Rattle.device_layout.specs.declared.link.Link.{Link}
use Rattle.disk_model.specs.Crash.{LeavesOnly}
use Rattle.disk_model.specs.declared.disk.Disk.{Ghosts}
use Rattle.wt_code.specs.declared.refusals.Refusal.{Refusal}
use Rattle.reconcile.specs.declared.image.Image.{Image}
use Rattle.reconcile.specs.declared.image.Moved.{Moved}
use Rattle.reconcile.specs.Moving.{versions_in}
use Rattle.kv_model.specs.Machine.{Machine}
use Rattle.row_page.specs.Rows.{Row}
use Rattle.stored.specs.Stored.{Stored}
use Rattle.stored.specs.TableTree.{Entry}
use Rattle.tree_dir.specs.declared.leaf.Leaf.{Leaf}
use Rattle.tree_dir.specs.Leaves.{leaf_under, leaves_with}
use Rattle.checkpoint_core.specs.Finishes.{IsOld}
use Rattle.engine_world.specs.Evicting.{led_out, with_rows}
use Rattle.engine_world.specs.GoingOut.{with_again}
use Rattle.engine_world.specs.Parting.{IsPartedTo}
use Rattle.engine_world.specs.Stands.{Engine, Stands}
use Rattle.engine_world.specs.Systems.{with_fault}
use Rattle.engine_world.specs.Worlds.{World, with_records}
use Rattle.engine.specs.declared.evicting.Stays.{Stays as Why}
use Rattle.engine.specs.declared.running_checkpoint.RunningCheckpoint.{RunningCheckpoint}
use Rattle.engine.specs.Evictions.{HasBeenEvicted, KeepsLeaf}
use Rattle.engine.specs.Partings.{HasParted, KeepsWhole}
use Rattle.engine.specs.Running.{RunsAs}
use Rattle.evict_step.specs.Cuts.{AreCut, IsLeastUnended}
use Rattle.evict_step.specs.Kept.{KeepsAt, KeepsMore, KeepsThese, Lists, lying_in, with_moved}
use Rattle.ckpt_step.specs.declared.evicting.Evicted.{Evicted}
use Rattle.ckpt_step.specs.declared.evicting.Evicted.TheVariants.{Done, Parted, Emptied, Stays, Unresolved, Empty}
use Rattle.ckpt_step.specs.declared.ground.Ground.{Ground}
use Rattle.ckpt_step.specs.Floors.{AreLivesOn, Follows}
use Rattle.ckpt_step.specs.Grounds.{StandsOn}
use Rattle.ckpt_step.specs.Lives.{has_at, is_live}
use Rattle.ckpt_step.specs.Parts.{has_rows}
use Rattle.ckpt_step.specs.Rooms.{known_in}
use Rattle.ckpt_step.specs.WritesOut.{NotWritten, RefusesOut}

-- ---- a leaf that stays

-- where it may be evicted, its rows need more than one block, and these versions of its keys move to the history
pub record IsGrown (e : Engine) (m : Machine) (id : ℕ) (moved : List Moved) : Type 0 where
  pub running : Option RunningCheckpoint
  pub runs : RunsAs m running
  pub images : List Image
  pub cut : AreCut e running id images moved
  pub more : 2 ≤ length images

-- why it stays at this moment: it may not be evicted, or its rows need more than one block, and it may not part
abbrev pub WhyNotNow : Engine → Machine → ℕ → Why → Type 0
WhyNotNow e m id why = KeepsLeaf e id why ⊎ ((moved : List Moved) × IsGrown e m id moved × KeepsWhole e id why)

-- where it may be evicted, none of its keys has a version
pub record HoldsNone (e : Engine) (m : Machine) (id : ℕ) : Type 0 where
  pub running : Option RunningCheckpoint
  pub runs : RunsAs m running
  pub moved : List Moved
  pub cut : AreCut e running id [] moved

-- ---- the engine then, whatever the disk

abbrev pub EvictsEngine : Engine → Engine → ℕ → Result Evicted Refusal → Type 0
EvictsEngine e e' id (Ok Done) = (link : Link) × HasBeenEvicted e e' id link
EvictsEngine e e' id (Ok Parted) = (entries : List Entry) × HasParted e e' id entries
EvictsEngine e e' id (Ok Emptied) = (link : Link) × HasBeenEvicted e e' id link
EvictsEngine e e' id (Ok stayed) = e' ≡ e
EvictsEngine e e' id (Err r) = (e' ≡ e) ⊎ ((fault : Fault) × (e' ≡ with_fault e fault))

-- ---- what is kept then, whatever the disk

-- what was, but where the leaf left its frame
abbrev pub KeepsStill : World → Lists → Result Evicted Refusal → Type 0
KeepsStill w lists (Ok Done) = Unit {0}
KeepsStill w lists (Ok Parted) = Unit {0}
KeepsStill w lists result = KeepsThese w lists

-- ---- what is left

module _ {D : Type 0} (g : Ghosts D) (old : Option Stored) (w : World) (stand stand' : Ground) (e e' : Engine) (id : ℕ) (before after : D) where
  -- The leaf left its frame and leads to a block that the live tree alone has, with these rows, in the world in which the calls that had found it may be told so, and in which the history has of it what moved. forgets: nothing is kept of what checkpoints wrote of it; freed: nor its former block, where it was written since the one before.
  pub record LeftFrame (moved : List Moved) : Type 0 where
    pub link : Link
    pub rows : List Row
    pub out : HasBeenEvicted e e' id link
    pub left : LeavesOnly g before after (IsOld (g.may_leave before) old)
    pub stands : Stands e' (with_records id (λ key. versions_in key moved) (with_rows id rows (with_again e out.may.framed.frame w)))
    pub on : StandsOn (g.seen after) (g.may_leave after) e'.hub stand' old
    pub follows : Follows old e'.hub stand' (with_records id (λ key. versions_in key moved) (with_rows id rows (with_again e out.may.framed.frame w)))
    pub since : AreLivesOn (g.seen after) e'.hub stand' (with_records id (λ key. versions_in key moved) (with_rows id rows (with_again e out.may.framed.frame w)))
    pub live : is_live stand'.lives (led_out link out.may.leaf) ≡ true
    pub freed : is_live stand.lives out.may.leaf ≡ true → has_at stand'.lives out.may.leaf.entry.link.addr.offset ≡ false
    pub forgets : known_in stand'.parts id ≡ None

  -- The leaf, whose rows need more than one block, parted into others, each in a block that the live tree alone has, in the world in which their blocks have its rows, and the history has of each what moved of the keys that lie in it. forgets: nothing is kept of what checkpoints wrote of it; freed: nor its former block, where it was written since the one before.
  pub record LeftInParts (moved : List Moved) : Type 0 where
    pub grown : IsGrown e w.machine id moved
    pub entries : List Entry
    pub parted : HasParted e e' id entries
    pub ids : e.hub.dir.next ≤ e'.hub.dir.next
    pub left : LeavesOnly g before after (IsOld (g.may_leave before) old)
    pub shelf : ℕ → List Row
    pub to : IsPartedTo w e.hub.dir e'.hub.dir parted.way.leaf parted.may.may.frame (leaves_with parted.way.leaf.table parted.way.ids entries) shelf (with_moved e'.hub.dir.leaves parted.way.leaf.table moved w.records)
    pub own : (n : Leaf) → Contains (leaves_with parted.way.leaf.table parted.way.ids entries) n → (key : List ℕ) → leaf_under n.table key e'.hub.dir.leaves ≡ Some n → with_moved e'.hub.dir.leaves parted.way.leaf.table moved w.records n.id key ≡ versions_in key moved
    pub stands : Stands e' (record w { shelf = shelf; records = with_moved e'.hub.dir.leaves parted.way.leaf.table moved w.records })
    pub on : StandsOn (g.seen after) (g.may_leave after) e'.hub stand' old
    pub follows : Follows old e'.hub stand' (record w { shelf = shelf; records = with_moved e'.hub.dir.leaves parted.way.leaf.table moved w.records })
    pub since : AreLivesOn (g.seen after) e'.hub stand' (record w { shelf = shelf; records = with_moved e'.hub.dir.leaves parted.way.leaf.table moved w.records })
    pub live : (n : Leaf) → Contains (leaves_with parted.way.leaf.table parted.way.ids entries) n → is_live stand'.lives n ≡ true
    pub freed : is_live stand.lives parted.way.leaf ≡ true → has_at stand'.lives parted.way.leaf.entry.link.addr.offset ≡ false
    pub forgets : known_in stand'.parts id ≡ None

  -- The leaf, of which no key has a version, left its frame and leads where it led, to no rows, in the world in which the calls that had found it may be told so, and in which its block has no rows and the history nothing of it. Nothing was written. forgets: nothing is kept of what checkpoints wrote of it.
  pub record LeftEmpty : Type 0 where
    pub none : HoldsNone e w.machine id
    pub link : Link
    pub out : HasBeenEvicted e e' id link
    pub led : link ≡ out.may.leaf.entry.link
    pub rowless : has_rows link ≡ false
    pub left : LeavesOnly g before after (IsOld (g.may_leave before) old)
    pub stands : Stands e' (with_records id (λ key. []) (with_rows id [] (with_again e out.may.framed.frame w)))
    pub on : StandsOn (g.seen after) (g.may_leave after) e'.hub stand' old
    pub follows : Follows old e'.hub stand' (with_records id (λ key. []) (with_rows id [] (with_again e out.may.framed.frame w)))
    pub since : AreLivesOn (g.seen after) e'.hub stand' (with_records id (λ key. []) (with_rows id [] (with_again e out.may.framed.frame w)))
    pub kept : KeepsAt stand.kept stand'.kept id []
    pub forgets : known_in stand'.parts id ≡ None

  -- it did, and what moved is kept of it
  pub record HasLeftFrame : Type 0 where
    pub moved : List Moved
    pub left : LeftFrame moved
    pub kept : KeepsAt stand.kept stand'.kept id moved

  -- it parted, and of what moved each new leaf keeps what is of its keys
  pub record HasLeftInParts : Type 0 where
    pub moved : List Moved
    pub left : LeftInParts moved
    pub kept : KeepsMore stand.kept stand'.kept (lying_in e'.hub.dir.leaves left.parted.way.leaf.table moved)

  abbrev pub Evicts : Result Evicted Refusal → Type 0
  Evicts (Ok Done) = HasLeftFrame
  Evicts (Ok Parted) = HasLeftInParts
  Evicts (Ok Emptied) = LeftEmpty
  Evicts (Ok (Stays why)) = NotWritten g old w stand stand' e e' id before after × WhyNotNow e w.machine id why
  Evicts (Ok (Unresolved by)) = NotWritten g old w stand stand' e e' id before after × IsLeastUnended e w.machine id by
  Evicts (Ok Empty) = NotWritten g old w stand stand' e e' id before after × HoldsNone e w.machine id
  Evicts (Err r) = RefusesOut g old w stand stand' e e' id before after r
