-- Whole calls of a session: its steps, with nobody between.
use Rattle.std.specs.Prelude.{◌≡◌, ℕ, List, [], ◌∷◌, ◌++◌, Option, None, Some, slice_index_or, slice_set}
use Rattle.wt_code.specs.declared.answers.Answer.{Answer}
use Rattle.wt_code.specs.declared.refusals.Refusal.{Refusal}
use Rattle.kv_model.specs.Machine.{Machine, OpenSession, after}
use Rattle.kv_model.specs.Calls.{Call, SessionAnswers, SystemAnswers}
use Rattle.wt_calls.specs.declared.call.Call.{Call as AnyCall}
use Rattle.wt_calls.specs.declared.call.Call.TheVariants as call
use Rattle.wt_calls.specs.Calls.{session_call_in, system_call_in}
use Rattle.wt_code.specs.declared.answers.Answer.TheVariants as answers
use Rattle.wt_code.specs.declared.refusals.Refusal.TheVariants as refusal
use Rattle.wt_code.specs.declared.refusals.Invalid.TheVariants.{InCall}
use Rattle.engine_world.specs.Stands.{Engine, Stands}
use Rattle.engine_world.specs.Whole.{Reached, around_kept, nothing_around}
use Rattle.engine.specs.declared.called.Called.{Called}
use Rattle.engine.specs.declared.called.Called.TheVariants as called
use Rattle.engine.specs.declared.step.Actor.TheVariants as actor
use Rattle.engine.specs.Runs.{StepsMore, StepsOut}
use Rattle.engine_world.specs.Worlds.{World, Doing, Resting, doing_of, unset}

-- the world with one session as it is now, whose call found no leaf that has gone out, and the machine
abbrev pub moved : World → ℕ → Machine → Doing → World
moved w session m doing = record w { machine = m; sessions = slice_set w.sessions session doing; again = unset session w.again }

-- the steps of a session's call, up to its answer or to a leaf that is in no frame
abbrev pub Ends : Called → Engine → World → ℕ → Type 0
Ends (called.Ended answer) new w session = (n : ℕ) × (last : World) × StepsOut n w (actor.Session session) answer last × Stands new last
Ends (called.Waits leaf) new w session = (n : ℕ) × (last : World) × StepsMore n w (actor.Session session) last × Stands new last

-- a whole call: refused where the session has one that is not finished
abbrev pub CallsIn : Doing → World → ℕ → Call → Answer (List ℕ) → World → Type 0
CallsIn Resting w session asked answer later = SessionAnswers nothing_around w.machine session asked answer later.machine × (later ≡ record w { machine = later.machine })
CallsIn _ w session asked answer later = (answer ≡ answers.Refused (refusal.Invalid InCall)) × (later ≡ w)

abbrev pub MayCall : World → ℕ → Call → Answer (List ℕ) → World → Type 0
MayCall w session asked answer later = CallsIn (doing_of w session) w session asked answer later

-- the refusal that kept a leaf from a call, if there was one
abbrev pub KeptBy : Type 0
KeptBy = Option Refusal

-- a call that began with nobody between and is under way
pub record IsUnderWay (kept : KeptBy) (w : World) (session : ℕ) (asked : Call) (now : World) : Type 0 where
  pub rests : doing_of w session ≡ Resting
  pub moved_to : now ≡ moved w session now.machine (doing_of now session)
  pub reached : Reached kept w.machine session asked (doing_of now session) now.machine

-- a call is answered, or waits for a leaf
abbrev pub CallsTo : Called → Engine → World → ℕ → Call → Type 0
CallsTo (called.Ended answer) new w session asked = (later : World) × MayCall w session asked answer later × Stands new later
CallsTo (called.Waits leaf) new w session asked = (now : World) × IsUnderWay None w session asked now × Stands new now

-- so is one that was under way
abbrev pub ResumesTo : Called → Engine → KeptBy → World → ℕ → Call → Type 0
ResumesTo (called.Ended answer) new kept w session asked =
    (later : World) × SessionAnswers (around_kept kept) w.machine session asked answer later.machine × (later ≡ record w { machine = later.machine }) × Stands new later
ResumesTo (called.Waits leaf) new kept w session asked = (now : World) × IsUnderWay kept w session asked now × Stands new now

-- A whole call of a session, whose leaf may have been kept from it by this refusal. Nobody takes the engine down meanwhile.
abbrev pub CallsKept : KeptBy → Doing → World → ℕ → Call → Answer (List ℕ) → World → Type 0
CallsKept kept Resting w session asked answer later = SessionAnswers (around_kept kept) w.machine session asked answer later.machine × (later.machine.fault ≡ w.machine.fault) × (later ≡ record w { machine = later.machine })
CallsKept kept _ w session asked answer later = (answer ≡ answers.Refused (refusal.Invalid InCall)) × (later ≡ w)

abbrev pub MayCallKept : KeptBy → World → ℕ → Call → Answer (List ℕ) → World → Type 0
MayCallKept kept w session asked answer later = CallsKept kept (doing_of w session) w session asked answer later

-- ---- of any actor

-- a whole call of the system: one event, refused where its actor has started one
abbrev pub MakesAt : Option Call → World → Call → Answer (List ℕ) → World → Type 0
MakesAt None w asked answer later = SystemAnswers nothing_around w.machine asked answer later.machine × (later ≡ record w { machine = later.machine })
MakesAt (Some other) w asked answer later = (answer ≡ answers.Refused (refusal.Invalid InCall)) × (later ≡ w)

-- the answer to a whole call
abbrev pub MayAnswer : World → AnyCall → Answer (List ℕ) → World → Type 0
MayAnswer w (call.Session session made) answer later = MayCall w session (session_call_in made) answer later
MayAnswer w (call.System number made) answer later = MakesAt (slice_index_or w.systems number None) w (system_call_in made) answer later

-- a session more, which rests
abbrev pub with_session_more : World → World
with_session_more w = record w { machine = after w.machine OpenSession; sessions = w.sessions ++ Resting ∷ [] }
