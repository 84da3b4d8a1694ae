-- To what the calls of a command lead the store that it holds, and its disk.
use Rattle.std.specs.Prelude.{◌≡◌, ◌≤◌, ℕ, List, [], Option, None, Result, Ok, Err, IfErr, IsTrue, slice_index_or}
use Rattle.failure.specs.Counts.{Rose}
use Rattle.disk_model.specs.Crash.{LeavesOnly, Looked, SameDisk}
use Rattle.disk_model.specs.declared.disk.Disk.{Ghosts}
use Rattle.wt_code.specs.declared.answers.Answer.TheVariants.{Done, Refused}
use Rattle.wt_code.specs.declared.refusals.Refusal.{Refusal}
use Rattle.wt_code.specs.declared.refusals.Refusal.TheVariants.{DiskFault}
use Rattle.kv_model.specs.Calls.{Actor, Session, Call, Begin, PutKey, Commit, OpensSession}
use Rattle.kv_model.specs.Decisions.{Demand}
use Rattle.kv_model.specs.Machine.{Completed, Machine}
use Rattle.engine_world.specs.Worlds.{World, Resting, doing_of}
use Rattle.engine_store.specs.declared.eviction.TheConstants.{FRAMES}
use Rattle.engine_store.specs.declared.frames.Frames.TheVariants.{Soft}
use Rattle.engine_store.specs.declared.store.Store.{Store}
use Rattle.engine_store.specs.Calls.{AreToldSo, Basis, IsBasis, MayTell}
use Rattle.engine_store.specs.Devices.{IsLater, KeepsCheckpoint, device_of}
use Rattle.engine_store.specs.Held.{IsHeld}
use Rattle.engine_store.specs.Images.{OpensToLast, OpensToOne, Stays}
use Rattle.engine_store.specs.Opened.{IsOutset, IsReady, SpoilsAreThere}
use Rattle.wt_tool.specs.Loads.{MayGoDown}
use Rattle.wt_tool.specs.Parts.{TellsSpoilt}
use Rattle.wt_tool.specs.Points.{Point, Ran, Did, Calls, point_of, stops}
use Rattle.wt_tool.specs.Writes.{PutsPairs, the_put}

-- each session rests, and no actor has started a call
pub record IsQuiet (w : World) : Type 0 where
  pub sessions : (session : ℕ) → doing_of w session ≡ Resting
  pub systems : (number : ℕ) → slice_index_or w.systems number None ≡ None

-- start: the disk as the command opened it; first: the checkpoint that it had then
module _ {D : Type 0} (g : Ghosts D) (start_disk : D) (first : Completed) where
  -- The command holds its store between two calls: it installed no checkpoint, the engine is up, and frames are added where a call needs them.
  pub record Holds (s : Store) (disk : D) (w : World) : Type 0 where
    pub held : IsHeld g start_disk s disk w first []
    pub quiet : IsQuiet w
    pub completed : w.machine.completed ≡ first
    pub up : w.machine.fault ≡ None
    pub soft : s.frames ≡ Soft FRAMES

  -- A run that ends there installed no checkpoint: to what the device may open then, at each moment and in each image.
  pub record Ended (disk : D) (m : Machine) : Type 0 where
    pub opens : OpensToLast (g.may_leave disk) first m.completed []
    pub ever : LeavesOnly g start_disk disk (OpensToOne first [])
    pub stays : Stays (g.left_since disk) []

  -- of a store that the command has after calls
  module _ (w : World) (s' : Store) (before after : D) where
    -- what is run from a later world on is put behind them; or a refusal ends the run there
    abbrev pub LedBy : (Run Rest : Point → Ran → Type 0) → Result (Unit {0}) Refusal → Type 0
    LedBy Run Rest (Ok done) = (later : World) × Holds s' after later × ((ran : Ran) → Rest (point_of g later.machine after) ran → Run (point_of g w.machine before) ran)
    LedBy Run Rest (Err r) = (m : Machine) × Ended after m × Run (point_of g w.machine before) (stops r (point_of g m after))

    -- a call that gives nothing is done, or refused
    abbrev pub DoneBy : Actor → Call → Result (Unit {0}) Refusal → Type 0
    DoneBy actor call (Ok done) = (later : World) × Holds s' after later × Did (point_of g w.machine before) actor call Done (point_of g later.machine after)
    DoneBy actor call (Err r) = (later : World) × Holds s' after later × Did (point_of g w.machine before) actor call (Refused r) (point_of g later.machine after)

    -- a session is opened, or refused
    abbrev pub OpenedBy : Result (Unit {0}) Refusal → Type 0
    OpenedBy (Ok done) = (later : World) × Holds s' after later × OpensSession w.machine Done later.machine
    OpenedBy (Err r) = (later : World) × Holds s' after later × OpensSession w.machine (Refused r) later.machine

    -- leaves went out of memory, and the device has the checkpoint that it had; or a call of the disk failed
    abbrev pub WentOut : Result (Unit {0}) Refusal → Type 0
    WentOut (Ok done) = (later : World) × Holds s' after later × (later.machine ≡ w.machine) × IsLater (device_of g before) (device_of g after) × KeepsCheckpoint (device_of g before) (device_of g after)
    WentOut (Err r) = (m : Machine) × Ended after m × IsLater (device_of g before) (device_of g after) × Rose (g.faults before) (g.faults after) × MayGoDown w.machine m

-- on an honest disk, of each world for which the store that is held stands
abbrev pub Leading : {D : Type 0} → Ghosts D → Store → D → (D → Completed → World → Type 0) → Type 0
Leading {D} g s before Goes = IsTrue (g.honest before) → (start : D) (first : Completed) (w : World) → Holds g start first s before w → Goes start first w

-- Whatever the disk: what a refusal tells may be told since any earlier moment, on any basis, which stays, and so may what calls keep. The store stays fit, the disk was looked at alone, and no leaf was written.
pub record CallWent {D : Type 0} (g : Ghosts D) (s s' : Store) (before after : D) (result : Result (Unit {0}) Refusal) : Type 0 where
  pub told : (basis : Option Basis) (start : D) → g.faults start ≤ g.faults before → IsBasis g basis s.engine before → AreToldSo g basis start s.engine before → IfErr result (MayTell g basis start after) × AreToldSo g basis start s'.engine after × IsBasis g basis s'.engine after
  pub ready : IsReady s → IsReady s'
  pub looked : Looked g before after
  pub home : g.home after ≡ g.home before
  pub lives : s'.ground.lives ≡ s.ground.lives

-- The same of a disk that may be written, without a basis: of damage nothing is said.
pub record OutWent {D : Type 0} (g : Ghosts D) (s s' : Store) (before after : D) (result : Result (Unit {0}) Refusal) : Type 0 where
  pub told : (start : D) → g.faults start ≤ g.faults before → AreToldSo g None start s.engine before → IfErr result (MayTell g None start after) × AreToldSo g None start s'.engine after
  pub ready : IsReady s → IsReady s'
  pub disk : SameDisk g before after

-- What a load tells of a disk, whatever that is: damage of a leaf that was at fault as the store was opened, where that was an honest disk's; and a fault where its count rose.
pub record LoadWent {D : Type 0} (g : Ghosts D) (s s' : Store) (before after : D) (result : Result (Unit {0}) Refusal) : Type 0 where
  pub sound : (IsTrue (g.honest before) → IsOutset s.engine.hub) → (IsTrue (g.honest before) → SpoilsAreThere (g.seen before) s) → IfErr result (TellsSpoilt (IsTrue (g.honest before)) (g.seen before))
  pub fault : IfErr result (λ r. r ≡ DiskFault → Rose (g.faults before) (g.faults after))
  pub ready : IsReady s → IsReady s'
  pub disk : SameDisk g before after

-- the calls of a transaction that give nothing
abbrev pub IsWord : Call → Type 0
IsWord (Begin None) = Unit {0}
IsWord (PutKey table key value demand) = Unit {0}
IsWord (Commit None None) = Unit {0}
IsWord _ = ⊥

-- what is run of a pair once its transaction has begun
abbrev pub PutsBegun : List ℕ → Demand → List ℕ × List ℕ → List (List ℕ × List ℕ) → Point → Ran → Type 0
PutsBegun name demand pair pairs p ran = Calls (Session 0) (the_put p.machine name demand pair) (λ put. Calls (Session 0) (Commit None None) (λ done. PutsPairs name demand pairs done) put) p ran
