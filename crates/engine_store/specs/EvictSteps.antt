-- Evictions that go by steps: what each step sees, and what the last one answers.
use Rattle.std.specs.Prelude.{◌≡◌, ◌≢◌, ◌⊎◌, ◌+◌, ◌≤◌, ◌-◌, ◌/◌, ℕ, zero, suc, nat_lt, if◌then◌else◌, List, Option, None, Some, Result, Ok, Err, IsTrue, slice_get, slice_index_or}
use Rattle.disk_model.specs.declared.disk.Disk.{Ghosts}
use Rattle.wt_code.specs.declared.answers.Answer.{Answer}
use Rattle.wt_code.specs.declared.answers.Answer.TheVariants.{Done, Refused}
use Rattle.wt_code.specs.declared.refusals.Refusal.{Refusal}
use Rattle.wt_code.specs.declared.refusals.Refusal.TheVariants.{NoMemory, Busy as Refusal_Busy, Invalid as Refusal_Invalid}
use Rattle.wt_code.specs.declared.refusals.Busy.TheVariants.{Evicting as Busy_Evicting, Pinned as Busy_Pinned}
use Rattle.wt_code.specs.declared.refusals.Invalid.TheVariants.{NoCall}
use Rattle.kv_model.specs.Calls.{Around}
use Rattle.kv_model.specs.Machine.{Completed, Machine}
use Rattle.call_steps.specs.declared.stage.Target.{Target}
use Rattle.engine_world.specs.Stands.{Engine, Stands}
use Rattle.engine_world.specs.Worlds.{World}
use Rattle.engine.specs.declared.turning.Evicting.{Evicting}
use Rattle.engine.specs.declared.turning.EvictStage.{EvictStage}
use Rattle.engine.specs.declared.turning.EvictStage.TheVariants.{Find, Lock, Scan, Ask, Cut, Write}
use Rattle.engine.specs.Evictions.{MayBeEvicted}
use Rattle.engine.specs.Turning.{LocksFrame, evicting_by, staged, target_of, words_of}
use Rattle.ckpt_step.specs.declared.lives.Lone.{Lone}
use Rattle.engine_store.specs.declared.evict_steps.EvictTurn.{EvictTurn}
use Rattle.engine_store.specs.declared.evict_steps.EvictTurn.TheVariants.{On, Ended}
use Rattle.engine_store.specs.declared.store.Store.{Store}
use Rattle.engine_store.specs.Answers.{answer_of}
use Rattle.engine_store.specs.Devices.{Device, Installed, KeepsCheckpoint, device_of}
use Rattle.engine_store.specs.EvictCalls.{EvictAnswers, IsLeafOf, IsOut, IsRefusedAtOnce, KeepsInFrame, MayLook, WasFree, evict_around}
use Rattle.engine_store.specs.Held.{IsHeld}
use Rattle.engine_store.specs.Room.{RoomMade}

-- ---- the steps before the last, which change nothing

-- this is where the leaf of the key is
abbrev pub IsTargetOf : Engine → Machine → (name key : List ℕ) → Target → Type 0
IsTargetOf e m name key target = (id : ℕ) × IsLeafOf e m name key id × (target_of e id ≡ Some target)

-- the scan at this word, or the step behind the last word
abbrev pub scan_from : Engine → Target → ℕ → EvictStage
scan_from e target word = if nat_lt word (words_of e) then Scan target word else Ask target

-- What a step sees, and the next one: the leaf of the key is in a frame; that frame has it still, and no eviction has it locked; the hazard word does not name it; the engine is up; the leaf may be evicted.
abbrev pub GoesTo : Engine → Machine → List (Option Evicting) → ℕ → (name key : List ℕ) → EvictStage → EvictStage → Type 0
GoesTo e m evicting number name key Find next = (target : Target) × (next ≡ Lock target) × IsTargetOf e m name key target
GoesTo e m evicting number name key (Lock target) next = (target_of e target.leaf ≡ Some target) × ((other : ℕ) → LocksFrame evicting other target.frame target.word → ⊥) × (next ≡ scan_from e target 0)
GoesTo e m evicting number name key (Scan target word) next = (slice_get e.hazards word ≢ Some (target.frame + 1)) × (next ≡ scan_from e target (word + 1))
GoesTo e m evicting number name key (Ask target) next = (m.fault ≡ None) × (next ≡ Cut target)
GoesTo e m evicting number name key (Cut target) next = MayBeEvicted e target.leaf × (next ≡ Write target)
GoesTo e m evicting number name key (Write target) next = ⊥

-- ---- why it is given up

-- The frame in which the leaf was found has it no more, or an eviction has it locked; the hazard word of a session names it; the leaf is kept in it.
abbrev pub GivesUp : Engine → Machine → List (Option Evicting) → ℕ → (name key : List ℕ) → EvictStage → Refusal → Type 0
GivesUp e m evicting number name key Find r = ⊥
GivesUp e m evicting number name key (Lock target) r = (r ≡ Refusal_Busy (Busy_Evicting target.frame)) × ((target_of e target.leaf ≢ Some target) ⊎ ((other : ℕ) × LocksFrame evicting other target.frame target.word))
GivesUp e m evicting number name key (Scan target word) r = (session : ℕ) × (r ≡ Refusal_Busy (Busy_Pinned session)) × (word / 5 ≡ session) × (slice_get e.hazards word ≡ Some (target.frame + 1))
GivesUp e m evicting number name key (Ask target) r = ⊥
GivesUp e m evicting number name key (Cut target) r = KeepsInFrame e m target.leaf r
GivesUp e m evicting number name key (Write target) r = ⊥

-- The steps that take memory: the leaf is judged, or written.
abbrev pub TakesMemory : EvictStage → Type 0
TakesMemory Find = ⊥
TakesMemory (Lock target) = ⊥
TakesMemory (Scan target word) = ⊥
TakesMemory (Ask target) = ⊥
TakesMemory (Cut target) = Unit {0}
TakesMemory (Write target) = Unit {0}

-- another actor's eviction has locked the frame
abbrev pub IsLockedBut : List (Option Evicting) → ℕ → Target → Type 0
IsLockedBut evicting number target = (other : ℕ) × (other ≢ number) × LocksFrame evicting other target.frame target.word

-- that of the leaf of the key
pub record IsLockedByOther (e : Engine) (m : Machine) (evicting : List (Option Evicting)) (number : ℕ) (name key : List ℕ) (r : Refusal) : Type 0 where
  pub id : ℕ
  pub leaf : IsLeafOf e m name key id
  pub target : Target
  pub there : target_of e id ≡ Some target
  pub locked : IsLockedBut evicting number target
  pub is : r ≡ Refusal_Busy (Busy_Evicting target.frame)

-- ---- the answer

-- what an eviction at this stage rests on; stage: none of a whole call
abbrev pub GivesUpAt : Engine → Machine → List (Option Evicting) → ℕ → (name key : List ℕ) → Option EvictStage → Refusal → Type 0
GivesUpAt e m evicting number name key None r = ⊥
GivesUpAt e m evicting number name key (Some stage) r = GivesUp e m evicting number name key stage r

-- whether memory may be short at it
abbrev pub MayRunShort : Option EvictStage → Type 0
MayRunShort None = Unit {0}
MayRunShort (Some stage) = TakesMemory stage

abbrev pub around_beside : List (Option Evicting) → ℕ → Option EvictStage → Engine → List Lone → Device → Device → Machine → List ℕ → List ℕ → Around
around_beside evicting number stage e lives old new m name key = record (evict_around e lives old new m name key) {
  MayKeepOut = λ r. (evict_around e lives old new m name key).MayKeepOut r ⊎ (IsLockedByOther e m evicting number name key r ⊎ GivesUpAt e m evicting number name key stage r);
}

module _ {D : Type 0} (g : Ghosts D) (start_disk : D) (w : World) (first : Completed) (made : List Installed) (s s' : Store) (before after : D) (evicting : List (Option Evicting)) (number : ℕ) (name key : List ℕ) where
  -- The answer is one that the machine gives, which is this one then. While the engine is up the device has the checkpoint that it had. Done: the leaf of the key is in no frame then, and it was in none, or nothing kept it there. Memory is short only where the leaf is judged or written.
  pub record EvictsBeside (stage : Option EvictStage) (answer : Answer (List ℕ)) : Type 0 where
    pub next : Machine
    pub room : RoomMade g start_disk w first made s s' before after next
    pub answers : EvictAnswers (slice_index_or w.systems number None) (around_beside evicting number stage s.engine s.ground.lives (device_of g before) (device_of g after) w.machine name key) w.machine name key answer next
    pub keeps : next.fault ≡ None → KeepsCheckpoint (device_of g before) (device_of g after)
    pub out : answer ≡ Done → IsOut s'.engine w.machine name key
    pub free : answer ≡ Done → (id : ℕ) → IsLeafOf s.engine w.machine name key id → WasFree s.engine id
    pub short : answer ≡ Refused NoMemory → MayRunShort stage

-- on an honest disk, of each world
abbrev pub EvictsBesideFrom : {D : Type 0} → Ghosts D → (s s' : Store) → (before after : D) → List (Option Evicting) → (number : ℕ) → (name key : List ℕ) → Option EvictStage → Answer (List ℕ) → Type 0
EvictsBesideFrom {D} g s s' before after evicting number name key stage answer =
    IsTrue (g.honest before) → (start : D) (w : World) (first : Completed) (made : List Installed) → IsHeld g start s before w first made → EvictsBeside g start w first made s s' before after evicting number name key stage answer

-- ---- one step

-- nothing is changed
abbrev pub IsUnchanged : {D : Type 0} → (s s' : Store) → (before after : D) → Type 0
IsUnchanged s s' before after = (s' ≡ s) × (after ≡ before)

-- it goes on, or ends with this answer
abbrev pub TurnsTo : {D : Type 0} → Ghosts D → (s s' : Store) → (before after : D) → List (Option Evicting) → (number : ℕ) → Evicting → EvictTurn → Type 0
TurnsTo g s s' before after evicting number x (On next) = IsUnchanged s s' before after × ((w : World) → Stands s.engine w → GoesTo s.engine w.machine evicting number x.table x.key x.stage next)
TurnsTo g s s' before after evicting number x (Ended result) = EvictsBesideFrom g s s' before after evicting number x.table x.key (Some x.stage) (answer_of result)

-- the eviction of an actor, where it has one
abbrev pub MayTurn : {D : Type 0} → Ghosts D → (s s' : Store) → (before after : D) → List (Option Evicting) → (number : ℕ) → Option Evicting → EvictTurn → Type 0
MayTurn g s s' before after evicting number None turn = IsUnchanged s s' before after × (turn ≡ Ended (Err (Refusal_Invalid NoCall)))
MayTurn g s s' before after evicting number (Some x) turn = TurnsTo g s s' before after evicting number x turn

-- it tells this refusal
abbrev pub EndsWith : EvictTurn → Refusal → Type 0
EndsWith (On next) r = ⊥
EndsWith (Ended result) r = result ≡ Err r

-- what is seen before the leaf is written, with the engine as it is: at this stage
abbrev pub SeesTo : Engine → List (Option Evicting) → ℕ → (name key : List ℕ) → EvictStage → EvictTurn → Type 0
SeesTo e evicting number name key stage (On next) = (w : World) → Stands e w → GoesTo e w.machine evicting number name key stage next
SeesTo e evicting number name key stage (Ended (Ok done)) = (w : World) → Stands e w → MayLook (slice_index_or w.systems number None) w.machine name key × IsOut e w.machine name key
SeesTo e evicting number name key stage (Ended (Err r)) =
    (w : World) → Stands e w → IsRefusedAtOnce (slice_index_or w.systems number None) w.machine name key r ⊎ (((r ≡ NoMemory) × TakesMemory stage) ⊎ GivesUp e w.machine evicting number name key stage r)

-- ---- all the steps that are left

-- so many of them, with nobody between, after which the evictions are these
abbrev pub LeadsTo : ℕ → Engine → Machine → ℕ → List (Option Evicting) → List (Option Evicting) → Type 0
LeadsTo zero e m number evicting last = last ≡ evicting
LeadsTo (suc n) e m number evicting last =
    (x : Evicting) × (next : EvictStage) × (evicting_by evicting number ≡ Some x) × GoesTo e m evicting number x.table x.key x.stage next × LeadsTo n e m number (staged evicting number next) last

-- they lead to these evictions, and the last one ends it
abbrev pub EndsAs : {D : Type 0} → Ghosts D → (s s' : Store) → (before after : D) → (evicting last : List (Option Evicting)) → (number : ℕ) → Result (Unit {0}) Refusal → Type 0
EndsAs g s s' before after evicting last number result =
    ((w : World) → Stands s.engine w → (n : ℕ) × LeadsTo n s.engine w.machine number evicting last) × MayTurn g s s' before after last number (evicting_by last number) (Ended result)

-- how many steps are left at most
abbrev pub stage_left : Engine → EvictStage → ℕ
stage_left e Find = 5 + words_of e
stage_left e (Lock target) = 4 + words_of e
stage_left e (Scan target word) = 3 + (words_of e - word)
stage_left e (Ask target) = 2
stage_left e (Cut target) = 1
stage_left e (Write target) = 0

abbrev pub steps_left : Engine → Option Evicting → ℕ
steps_left e None = 0
steps_left e (Some x) = stage_left e x.stage

-- a step behind which it goes on leaves fewer
abbrev pub LeavesFewer : Engine → ℕ → EvictTurn → Type 0
LeavesFewer e left (On next) = stage_left e next + 1 ≤ left
LeavesFewer e left (Ended result) = Unit {0}
