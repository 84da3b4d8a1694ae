-- What the eviction of the leaf of a key answers between two calls, why a leaf is kept in its frame, and what is left.
use Rattle.std.specs.Prelude.{◌≡◌, ◌⊎◌, ◌/◌, ℕ, false, List, [], Option, None, Some, Result, IfErr, IsTrue, slice_index_or}
use Rattle.failure.specs.Counts.{Rose}
use Rattle.disk_model.specs.declared.disk.Disk.{Ghosts}
use Rattle.wt_code.specs.declared.answers.Answer.{Answer}
use Rattle.wt_code.specs.declared.answers.Answer.TheVariants.{Done, Refused}
use Rattle.wt_code.specs.declared.refusals.Refusal.{Refusal}
use Rattle.wt_code.specs.declared.refusals.Refusal.TheVariants.{NoMemory, DiskFault, Busy as Refusal_Busy, Invalid as Refusal_Invalid, Limit as Refusal_Limit}
use Rattle.wt_code.specs.declared.refusals.Busy.TheVariants.{Pinned as Busy_Pinned, Resolving as Busy_Resolving, Unresolved as Busy_Unresolved}
use Rattle.wt_code.specs.declared.refusals.Invalid.TheVariants.{InCall}
use Rattle.wt_code.specs.declared.refusals.Limit.TheVariants.{Generations}
use Rattle.kv_model.specs.History.{Table, named, tables}
use Rattle.kv_model.specs.Machine.{Completed, Machine, Nothing}
use Rattle.kv_model.specs.Decisions.{Done as Decided_Done, Refused as Decided_Refused}
use Rattle.kv_model.specs.Calls.{Around, Call, Evict, SystemAnswers, evict_decision}
use Rattle.kv_model.specs.CallLaws.{any_around}
use Rattle.tree_dir.specs.declared.leaf.Leaf.{Leaf}
use Rattle.tree_dir.specs.Leaves.{leaf_under}
use Rattle.engine_world.specs.Stands.{Engine, Stands}
use Rattle.engine_world.specs.Worlds.{World}
use Rattle.engine.specs.declared.evicting.Stays.{Stays}
use Rattle.engine.specs.declared.evicting.Stays.TheVariants.{Call as At, Pinned, Written, LastGeneration, Coming, Walked}
use Rattle.engine.specs.Evictions.{MayBeEvicted, framed_in}
use Rattle.evict_step.specs.Cuts.{HoldsUnended, IsLeastUnended}
use Rattle.ckpt_step.specs.declared.lives.Lone.{Lone}
use Rattle.ckpt_step.specs.Evicts.{WhyNotNow}
use Rattle.ckpt_step.specs.WritesOut.{WhyNotOut}
use Rattle.engine_store.specs.declared.store.Store.{Store}
use Rattle.engine_store.specs.Answers.{answer_of}
use Rattle.engine_store.specs.Devices.{Device, Installed, IsNumberOf, KeepsCheckpoint, device_of}
use Rattle.engine_store.specs.Held.{IsHeld}
use Rattle.engine_store.specs.Room.{RoomMade}

-- ---- the leaf of a key

-- the leaf of this id is the one in which the key of the table of this name lies
pub record IsLeafOf (e : Engine) (m : Machine) (name key : List ℕ) (id : ℕ) : Type 0 where
  pub table : Table
  pub known : named name (tables m.history) ≡ Some table
  pub leaf : Leaf
  pub under : leaf_under table.number key e.hub.dir.leaves ≡ Some leaf
  pub is : leaf.id ≡ id

-- the leaf in which the key lies is in no frame
abbrev pub IsOut : Engine → Machine → List ℕ → List ℕ → Type 0
IsOut e m name key = (id : ℕ) → IsLeafOf e m name key id → framed_in e id ≡ None

-- it is in no frame, or may leave it
abbrev pub WasFree : Engine → ℕ → Type 0
WasFree e id = (framed_in e id ≡ None) ⊎ MayBeEvicted e id

-- ---- why it is kept in its frame

-- so the session holds a leaf: its call is at it, or one of its five hazard words names its frame; or, where the leaf has to part, its call is on its way to it or goes over its table leaf by leaf
abbrev pub IsOfSession : ℕ → Stays → Type 0
IsOfSession session (At other) = other ≡ session
IsOfSession session (Pinned word) = word / 5 ≡ session
IsOfSession session (Coming other) = other ≡ session
IsOfSession session (Walked other) = other ≡ session
IsOfSession session _ = ⊥

-- A session holds it; a transaction that has not ended has a version in it, of those with an update the least; one that wrote in it has not ended, and none has a version in it any more; or its frame is at its last generation.
abbrev pub KeepsInFrame : Engine → Machine → ℕ → Refusal → Type 0
KeepsInFrame e m id (Refusal_Busy (Busy_Pinned session)) = (why : Stays) × IsOfSession session why × WhyNotNow e m id why
KeepsInFrame e m id (Refusal_Busy (Busy_Unresolved by)) = IsLeastUnended e m id by
KeepsInFrame e m id (Refusal_Busy (Busy_Resolving session)) = WhyNotNow e m id (Written session) × ((by : ℕ) → HoldsUnended e m id by → ⊥)
KeepsInFrame e m id (Refusal_Limit Generations) = WhyNotNow e m id LastGeneration
KeepsInFrame e m id _ = ⊥

-- It is kept so, or it could not be written: memory or room was short, or a call of the disk failed. lives: the leaves that were written since the last checkpoint
abbrev pub KeepsFromEvicting : Engine → List Lone → Device → Device → Machine → ℕ → Refusal → Type 0
KeepsFromEvicting e lives old new m id r =
    KeepsInFrame e m id r
    ⊎ ((number : ℕ) × IsNumberOf old.seen number × WhyNotOut (Rose old.faults new.faults) old.seen old.capacity lives m e.hub.dir.leaves number id r)

-- what the call rests on: the engine and its device as they were, and the device as it is then
abbrev pub evict_around : Engine → List Lone → Device → Device → Machine → List ℕ → List ℕ → Around
evict_around e lives old new m name key = record (any_around false (record { eviction = None; calls = [] }) 0) { MayKeepOut = λ r. (id : ℕ) × IsLeafOf e m name key id × KeepsFromEvicting e lives old new m id r }

-- ---- the call

-- refused where its actor has a call that is not finished
abbrev pub EvictAnswers : Option Call → Around → Machine → List ℕ → List ℕ → Answer (List ℕ) → Machine → Type 0
EvictAnswers None a m name key answer next = SystemAnswers a m (Evict name key) answer next
EvictAnswers (Some other) a m name key answer next = (answer ≡ Refused (Refusal_Invalid InCall)) × (next ≡ m)

-- refused before the leaf is looked at
abbrev pub IsRefusedAtOnce : Option Call → Machine → List ℕ → List ℕ → Refusal → Type 0
IsRefusedAtOnce None m name key r = evict_decision m name key ≡ (Decided_Refused r, Nothing)
IsRefusedAtOnce (Some other) m name key r = r ≡ Refusal_Invalid InCall

-- or it is looked at
pub record MayLook (started : Option Call) (m : Machine) (name key : List ℕ) : Type 0 where
  pub none : started ≡ None
  pub up : m.fault ≡ None
  pub decided : evict_decision m name key ≡ (Decided_Done, Nothing)

module _ {D : Type 0} (g : Ghosts D) (start_disk : D) (w : World) (first : Completed) (made : List Installed) (s s' : Store) (before after : D) (number : ℕ) (name key : List ℕ) where
  -- The answer is one that the machine gives, which is this one then. While the engine is up the device has the checkpoint that it had. Done: the leaf of the key is in no frame then, and it was in none, or nothing kept it there.
  pub record EvictsTo (answer : Answer (List ℕ)) : Type 0 where
    pub next : Machine
    pub room : RoomMade g start_disk w first made s s' before after next
    pub answers : EvictAnswers (slice_index_or w.systems number None) (evict_around s.engine s.ground.lives (device_of g before) (device_of g after) w.machine name key) w.machine name key answer next
    pub keeps : next.fault ≡ None → KeepsCheckpoint (device_of g before) (device_of g after)
    pub out : answer ≡ Done → IsOut s'.engine w.machine name key
    pub free : answer ≡ Done → (id : ℕ) → IsLeafOf s.engine w.machine name key id → WasFree s.engine id

-- on an honest disk, of each world
abbrev pub EvictsFrom : {D : Type 0} → Ghosts D → (s s' : Store) → (before after : D) → (number : ℕ) → (name key : List ℕ) → Result (Unit {0}) Refusal → Type 0
EvictsFrom {D} g s s' before after number name key result =
    IsTrue (g.honest before) → (start : D) (w : World) (first : Completed) (made : List Installed) → IsHeld g start s before w first made → EvictsTo g start w first made s s' before after number name key (answer_of result)

-- ---- one leaf

-- why the leaf of this id was not evicted, with the engine as it was: memory was short, or it is kept
abbrev pub IsKeptBy : Engine → Machine → ℕ → Refusal → Type 0
IsKeptBy e m id r = (r ≡ NoMemory) ⊎ KeepsInFrame e m id r

-- what is told of a hazard word that names its frame
abbrev pub IsPinnedBy : ℕ → Refusal → Type 0
IsPinnedBy word r = (r ≡ NoMemory) ⊎ ((session : ℕ) × (r ≡ Refusal_Busy (Busy_Pinned session)) × IsOfSession session (Pinned word))

-- on an honest disk, of each world in which the leaf of this id is that of the key, and is looked at
abbrev pub EvictsLeafFrom : {D : Type 0} → Ghosts D → (s s' : Store) → (before after : D) → (id : ℕ) → (name key : List ℕ) → Result (Unit {0}) Refusal → Type 0
EvictsLeafFrom {D} g s s' before after id name key result =
    IsTrue (g.honest before) → (start : D) (w : World) (first : Completed) (made : List Installed) → IsHeld g start s before w first made
    → (number : ℕ) → MayLook (slice_index_or w.systems number None) w.machine name key → IsLeafOf s.engine w.machine name key id → EvictsTo g start w first made s s' before after number name key (answer_of result)
