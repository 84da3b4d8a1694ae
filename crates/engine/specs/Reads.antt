-- Gets whose table is named by its number, into the caller's buffer.
use Rattle.std.specs.Prelude.{◌≡◌, ◌⊎◌, ℕ, true, false, nat_lt, List, length, Option, Some, None, if◌then◌else◌}
use Rattle.failure.specs.declared.Fault.{Fault}
use Rattle.limits.specs.declared.TheConstants.{KEY_MAX}
use Rattle.stamp.specs.declared.View.{View}
use Rattle.wt_code.specs.declared.answers.Answer.TheVariants as answers
use Rattle.wt_code.specs.declared.refusals.Refusal.{Refusal}
use Rattle.wt_code.specs.declared.refusals.Refusal.TheVariants as refusal
use Rattle.wt_code.specs.declared.refusals.Invalid.TheVariants as invalid
use Rattle.kv_model.specs.Calls.{GetKey}
use Rattle.kv_model.specs.Decisions.{Done, FindKey, decision, is_name}
use Rattle.kv_model.specs.History.{Table, has_table, named}
use Rattle.kv_model.specs.Machine.{Nothing, of_some}
use Rattle.tree_dir.specs.declared.leaf.Leaf.{Leaf}
use Rattle.tree_dir.specs.Leaves.{leaf_under}
use Rattle.txn_table.specs.declared.phase.Phase.{Phase}
use Rattle.txn_table.specs.declared.phase.Phase.TheVariants as phase
use Rattle.txn_table.specs.Tabled.{phase_of}
use Rattle.update_chain.specs.Updates.{Reply, Gives, IsRemoved, Conflicts, IsOlder}
use Rattle.leaf_frame.specs.Looks.{read_at}
use Rattle.call_steps.specs.declared.frame.Frame.{Frame}
use Rattle.call_steps.specs.declared.hub.Hub.{Hub}
use Rattle.call_steps.specs.State.{State}
use Rattle.call_steps.specs.Words.{unless_running}
use Rattle.engine_world.specs.Laws.{IsViewOf}
use Rattle.engine_world.specs.Leaves.{frame_in}
use Rattle.engine_world.specs.Stands.{Engine}
use Rattle.engine_world.specs.Worlds.{World, Resting, doing_of}
use Rattle.engine.specs.declared.got.Got.{Got}
use Rattle.engine.specs.declared.got.Got.TheVariants as got
use Rattle.engine.specs.Closes.{is_at_work}
use Rattle.engine.specs.Whole.{MayCall}

-- the name of the table of this number; where there is none, a name that no table has
abbrev pub IsNameOf : List Table → ℕ → List ℕ → Type 0
IsNameOf known number name =
    ((t : Table) × (named name known ≡ Some t) × (t.number ≡ number))
    ⊎ ((has_table known number ≡ false) × (named name known ≡ None) × (is_name name ≡ true))

-- What a whole get of this key answers; bytes: what the buffer has behind it. Where the leaf is in no frame, the get would go on to it.
abbrev pub GotAs : Got → World → ℕ → List ℕ → List ℕ → List ℕ → Type 0
GotAs got.Found w session name key bytes = MayCall w session (GetKey name key) (answers.Value bytes) w
GotAs (got.Refused r) w session name key bytes = MayCall w session (GetKey name key) (answers.Refused r) w
GotAs got.Away w session name key bytes = (doing_of w session ≡ Resting) × (decision w.machine session (FindKey name key) ≡ (Done, Nothing))

-- the leaf of the key is there, in no frame
abbrev pub IsKeyAway : List Leaf → ℕ → List ℕ → Type 0
IsKeyAway leaves table key = (l : Leaf) × (leaf_under table key leaves ≡ Some l) × (l.frame ≡ None)

-- ---- why a get is refused before its leaf is sought

abbrev pub long_key : List ℕ → Option Refusal
long_key key = if nat_lt KEY_MAX (length key) then Some (refusal.Invalid (invalid.KeyLong (length key))) else None

abbrev pub refused_up : Phase → List ℕ → Option Refusal
refused_up p key = of_some (long_key key) (λ reason. Some (refusal.Invalid reason)) (unless_running p)

abbrev pub refused_idle : Option Fault → Phase → List ℕ → Option Refusal
refused_idle fault p key = of_some (refused_up p key) (λ f. Some (refusal.Panic f)) fault

abbrev pub refused_first : Hub → State → List ℕ → Option Refusal
refused_first h a key = if is_at_work a.stage then Some (refusal.Invalid invalid.InCall) else refused_idle h.fault a.phase key

-- ---- the look at the leaf

-- what is told of what the leaf gives; bytes: what the buffer has behind it
abbrev pub GivenAs : Reply → Got → List ℕ → Type 0
GivenAs (Gives value) got.Found bytes = bytes ≡ value
GivenAs (Gives value) (got.Refused r) bytes = r ≡ refusal.NoMemory
GivenAs IsRemoved (got.Refused r) bytes = r ≡ refusal.NotFound
GivenAs (Conflicts id) (got.Refused r) bytes = r ≡ refusal.PrepareConflict id
GivenAs IsOlder (got.Refused r) bytes = r ≡ refusal.NotFound
GivenAs _ _ bytes = ⊥

-- the session's transaction has read the key in the leaf of this frame
pub record ReadsAt (e : Engine) (session : ℕ) (f : Frame) (key : List ℕ) (told : Got) (bytes : List ℕ) : Type 0 where
  pub view : View
  pub lent : IsViewOf e.hub session view
  pub gives : GivenAs (read_at view key f.leaf) told bytes

-- so it has, where there is a leaf in the frame and the session has a transaction
abbrev pub ReadsIn : Engine → ℕ → ℕ → List ℕ → Got → List ℕ → Type 0
ReadsIn e session frame key told bytes = (f : Frame) → frame_in e.pieces frame ≡ Some f → (phase_of e.hub.txns session ≡ phase.Idle → ⊥) → ReadsAt e session f key told bytes
