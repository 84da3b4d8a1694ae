-- What holds of every engine.
use Rattle.std.specs.Prelude.{◌≡◌, ◌+◌, ◌^◌, ◌<◌, ℕ, List, length, Option, Some, slice_get}
use Rattle.limits.specs.declared.TheConstants.{TABLES_MAX}
use Rattle.kv_model.specs.Allowed.{StampsFit}
use Rattle.wt_calls.specs.declared.system_call.SystemCall.{SystemCall}
use Rattle.call_turns.specs.Seats.{AllRun, AreSeated}
use Rattle.engine_world.specs.Leaves.{LeavesOwned}
use Rattle.engine_world.specs.Stands.{Engine}
use Rattle.engine.specs.Runs.{IsBuilt}
use Rattle.engine.specs.Sizes.{SizesFit}
use Rattle.engine.specs.Told.{KeepOwn}

-- what the actors of the system have started is what the engine has
abbrev pub AreBuilt : List (Option SystemCall) → Type 0
AreBuilt systems = (i : ℕ) (asked : SystemCall) → slice_get systems i ≡ Some (Some asked) → IsBuilt asked

pub record IsSound (e : Engine) : Type 0 where
  -- each session has a place in the table of transactions, which knows its phase
  pub count : length e.hub.txns.sessions ≡ length e.sessions
  pub seated : AreSeated e.hub e.sessions
  -- a transaction runs where its call is at a leaf
  pub run : AllRun e.sessions
  pub built : AreBuilt e.systems
  pub actors : length e.systems ≡ 4
  -- a state word for each frame, and a number for each table that there may be
  pub states : length e.states ≡ length e.pieces
  pub numbers : e.hub.tables.next + TABLES_MAX < 2 ^ 32 + length e.hub.tables.tables
  -- no leaf is of a table that is to come
  pub owned : LeavesOwned e.hub.tables.tables e.hub.dir.leaves
  pub stamps : StampsFit e.hub.stamps.oldest e.hub.stamps.stable
  -- what is kept of keys, values and names fits the rows of a leaf
  pub sizes : SizesFit e

-- what no step of a session changes
pub record Keeps (old new : Engine) : Type 0 where
  pub systems : new.systems ≡ old.systems
  pub pieces : length new.pieces ≡ length old.pieces
  pub states : new.states ≡ old.states
  pub tables : new.hub.tables ≡ old.hub.tables
  pub dir : new.hub.dir ≡ old.hub.dir
  pub run : new.hub.txns.run ≡ old.hub.txns.run
  pub fault : new.hub.fault ≡ old.hub.fault
  pub sessions : length new.sessions ≡ length old.sessions
  pub own : KeepOwn old new
  pub sound : IsSound old → IsSound new
