-- Who keeps a close from its work, over the data of an engine.
use Rattle.std.proofs.Common.{◌≡◌, ◌<◌, ◌+◌, ℕ, zero, suc, refl, ap, sym, ◌∙◌, Bool, true, false, List, [], ◌∷◌, length, map, inl, inr, subst, get_or, below_more, arith}
use Rattle.std.specs.Prelude.{Option, Some, None, Ok, ◌||◌, if◌then◌else◌, option_map, slice_get, slice_index_or}
use Rattle.std.proofs.Math.ListN.{get_or-map}
use Rattle.std.proofs.lemmas.Bool.{cases_Bool, or_parts}
use Rattle.std.proofs.lemmas.List.{get_or_read}
use Rattle.failure.specs.declared.Fault.{Fault}
use Rattle.wt_code.specs.declared.refusals.Busy.{Busy}
use Rattle.wt_code.specs.declared.refusals.Busy.TheVariants as who
use Rattle.kv_model.specs.Closing.{first_held, is_ending, is_held}
use Rattle.kv_model.specs.Decisions.{is_there}
use Rattle.kv_model.specs.Machine.{Machine, Transaction, Phase as ModelPhase, Running, Failed, Prepared, Resolving, Leaving, Checkpoint, of_some, transaction_of}
use Rattle.tree_dir.specs.declared.leaf.Leaf.{Leaf}
use Rattle.txn_table.specs.declared.phase.Phase.{Phase}
use Rattle.txn_table.specs.declared.phase.Phase.TheVariants as phase
use Rattle.call_steps.specs.declared.stage.CommitStamps.{CommitStamps}
use Rattle.call_steps.specs.declared.stage.Stage.{Stage}
use Rattle.call_steps.specs.declared.stage.Stage.TheVariants as stage
use Rattle.call_steps.specs.State.{State}
use Rattle.engine_world.specs.Doings.{doing_at, doing_in, stamping, undoing}
use Rattle.engine_world.specs.Stages.{EndsOnlyDown}
use Rattle.engine_world.specs.Stands.{Engine, Stands}
use Rattle.engine_world.specs.Worlds.{World, Doing, Resting, Asked, Placed, Decided, Ending, doing_of}
use Rattle.engine_world.proofs.HubMoves.{stage-stands}
use Rattle.engine_world.proofs.Rollbacks.{up-living}
use Rattle.engine.specs.Closes.{MayClose, busy_in, close_told, first_at_work, is_at_work, is_under_way}

-- ---- the lowest session at work

-- none of the first i is at work
abbrev pub NoneAtWork : List State → ℕ → Type 0
NoneAtWork states i = (k : ℕ) → k < i → (d : State) → is_at_work (get_or states k d).stage ≡ false

pub none-more : (states : List State) (i : ℕ) (x : State) → i < length states → NoneAtWork states i → x ≡ get_or states i x → is_at_work x.stage ≡ false → NoneAtWork states (i + 1)
none-more states i x inside none is isnt = below_more _ _ none (λ d. ap (λ (z : State). is_at_work z.stage) (sym (get_or_read states i x inside is d)) ∙ isnt)

later-none : (x : State) (states : List State) (i : ℕ) → NoneAtWork (x ∷ states) (suc i) → NoneAtWork states i
later-none x states i none k below d = none (suc k) (omega arith) d

pub first-here : (at : ℕ) (states : List State) (i : ℕ) (x : State) → i < length states → NoneAtWork states i → x ≡ get_or states i x → is_at_work x.stage ≡ true → first_at_work at states ≡ Some (at + i)
first-here at [] i x inside none same is = absurd (omega arith)
first-here at (y ∷ states) zero x inside none same is = let n : at ≡ at + 0 = omega arith in rw (ap (λ (z : State). is_at_work z.stage) (sym same) ∙ is) (ap Some n)
first-here at (y ∷ states) (suc i) x inside none same is = let n : (at + 1) + i ≡ at + suc i = omega arith in
    rw (none 0 (omega arith) x) (first-here (at + 1) states i x (omega arith) (later-none y states i none) same is ∙ ap Some n)

pub first-none : (at : ℕ) (states : List State) → NoneAtWork states (length states) → first_at_work at states ≡ None
first-none at [] none = refl
first-none at (y ∷ states) none = rw (none 0 (omega arith) y) (first-none (at + 1) states (later-none y states (length states) none))

-- a session that is counted is there
pub counted-there : (e old : Engine) (count session : ℕ) → e ≡ old → count ≡ length old.sessions → session < count → session < length e.sessions
counted-there e old count session same is below = subst (λ (n : ℕ). session < n) (is ∙ sym (ap (λ (x : Engine). length x.sessions) same)) below

-- ---- at work and under way

pub doing-works : (leaves : List Leaf) (session : ℕ) (a : State) → is_under_way (doing_in leaves session a) ≡ is_at_work a.stage
doing-works leaves session a = by-stage a.stage where
  stamps : (p : Phase) (given : CommitStamps) (left : ℕ) → is_under_way (stamping p given left a) ≡ true
  stamps phase.Idle given left = refl
  stamps phase.Running given left = refl
  stamps phase.Failed given left = refl
  stamps (phase.Prepared at) given left = refl
  stamps phase.Resolving given left = refl
  stamps phase.Leaving given left = refl

  undoes : (p : Phase) (left : ℕ) → is_under_way (undoing p left a) ≡ true
  undoes phase.Idle left = refl
  undoes phase.Running left = refl
  undoes phase.Failed left = refl
  undoes (phase.Prepared at) left = refl
  undoes phase.Resolving left = refl
  undoes phase.Leaving left = refl

  by-stage : (g : Stage) → is_under_way (doing_at g leaves session a) ≡ is_at_work g
  by-stage stage.Rest = refl
  by-stage (stage.Begin read) = refl
  by-stage (stage.Find call) = refl
  by-stage (stage.Fill call wanted) = refl
  by-stage (stage.Publish call target) = refl
  by-stage (stage.Validate call target) = refl
  by-stage (stage.Look call target) = refl
  by-stage (stage.Pass call target) = refl
  by-stage (stage.History call target) = refl
  by-stage (stage.ClearCursor call target) = refl
  by-stage (stage.Clear call target) = refl
  by-stage (stage.Reset cursor) = refl
  by-stage (stage.Mark stamp left) = refl
  by-stage (stage.Release stamp) = refl
  by-stage (stage.Order given left) = refl
  by-stage (stage.Stamp given left) = stamps a.phase given left
  by-stage (stage.Decide given) = refl
  by-stage stage.Resolve = refl
  by-stage (stage.Undo left) = undoes a.phase left
  by-stage stage.Done = refl
  by-stage (stage.Unpin cursor) = refl

pub at-rest : (g : Stage) → is_at_work g ≡ false → g ≡ stage.Rest
at-rest stage.Rest isnt = refl
at-rest _ isnt = absurd (cc)

pub rest-is : (d : Doing) → is_under_way d ≡ false → d ≡ Resting
rest-is Resting isnt = refl
rest-is (Asked call left) isnt = absurd (cc)
rest-is (Placed call table left) isnt = absurd (cc)
rest-is (Decided answer event left) isnt = absurd (cc)
rest-is (Ending answer left) isnt = absurd (cc)

-- a session that rests keeps its transaction from its end only while the machine is down
pub rest-ends : (e : Engine) (w : World) (session : ℕ) (a : State) → Stands e w → slice_get e.sessions session ≡ Some a → is_at_work a.stage ≡ false → EndsOnlyDown w.machine session
rest-ends e w session a st at isnt = stage-stands e w session a stage.Rest st at (at-rest a.stage isnt)

-- so does one that does nothing
pub resting-ends : (e : Engine) (w : World) (session : ℕ) (a : State) → Stands e w → slice_get e.sessions session ≡ Some a → doing_of w session ≡ Resting → EndsOnlyDown w.machine session
resting-ends e w session a st at rests = rest-ends e w session a st at (sym (doing-works e.hub.dir.leaves session a) ∙ ap is_under_way (sym (st.doing session a at) ∙ rests))

-- ---- who is held

none-ending : (m : Machine) (session : ℕ) → m.fault ≡ None → EndsOnlyDown m session → of_some false (λ (t : Transaction). is_ending t.phase) (transaction_of m session) ≡ false
none-ending m session up ends = by-there (transaction_of m session) refl where
  by-there : (o : Option Transaction) → transaction_of m session ≡ o → of_some false (λ (t : Transaction). is_ending t.phase) o ≡ false
  by-there None none = refl
  by-there (Some t) there = by-phase t.phase refl where
    by-phase : (q : ModelPhase) → t.phase ≡ q → is_ending q ≡ false
    by-phase Running is = refl
    by-phase Failed is = refl
    by-phase (Prepared stamp) is = refl
    by-phase Resolving is = absurd (up-living m session t Resolving up ends there is tt)
    by-phase Leaving is = absurd (up-living m session t Leaving up ends there is tt)

-- which sessions have a call that is not finished
abbrev calls_in : World → List Bool
calls_in w = map is_under_way w.sessions

call-at : (w : World) (session : ℕ) → slice_index_or (calls_in w) session false ≡ is_under_way (doing_of w session)
call-at w session = get_or-map is_under_way w.sessions session Resting

held-is : (e : Engine) (w : World) (session : ℕ) (a : State) → Stands e w → w.machine.fault ≡ None → slice_get e.sessions session ≡ Some a
    → is_held (calls_in w) session (transaction_of w.machine session) ≡ is_at_work a.stage
held-is e w session a st up at = elim (cases_Bool (is_at_work a.stage)) [
  | inl is ↦ ap (λ (b : Bool). b || ending) (works ∙ is) ∙ sym is
  | inr isnt ↦ ap (λ (b : Bool). b || ending) (works ∙ isnt) ∙ (none-ending w.machine session up (rest-ends e w session a st at isnt) ∙ sym isnt)
] where
  ending : Bool
  ending = of_some false (λ (t : Transaction). is_ending t.phase) (transaction_of w.machine session)

  works : slice_index_or (calls_in w) session false ≡ is_at_work a.stage
  works = call-at w session ∙ (ap is_under_way (st.doing session a at) ∙ doing-works e.hub.dir.leaves session a)

if-same : (b c : Bool) (at : ℕ) (x y : Option ℕ) → b ≡ c → x ≡ y → (if b then Some at else x) ≡ (if c then Some at else y)
if-same b c at x y e f = λ i. if e i then Some at else f i

first-same : (calls : List Bool) (at : ℕ) (ts : List (Option Transaction)) (states : List State) → length ts ≡ length states
    → ((i : ℕ) (a : State) → slice_get states i ≡ Some a → is_held calls (at + i) (slice_index_or ts i None) ≡ is_at_work a.stage) → first_held calls at ts ≡ first_at_work at states
first-same calls at [] [] long each = refl
first-same calls at [] (a ∷ states) long each = absurd (omega arith)
first-same calls at (t ∷ ts) [] long each = absurd (omega arith)
first-same calls at (t ∷ ts) (a ∷ states) long each =
    if-same (is_held calls at t) (is_at_work a.stage) at (first_held calls (at + 1) ts) (first_at_work (at + 1) states)
    (let n : at + 0 ≡ at = omega arith in subst (λ (k : ℕ). is_held calls k t ≡ is_at_work a.stage) n (each 0 a refl))
    (first-same calls (at + 1) ts states (omega arith) (λ i b there. let n : at + suc i ≡ (at + 1) + i = omega arith in
    subst (λ (k : ℕ). is_held calls k (slice_index_or ts i None) ≡ is_at_work b.stage) n (each (suc i) b there)))

pub busy-is : (e : Engine) (w : World) → Stands e w → w.machine.fault ≡ None → w.machine.checkpoint ≡ None → busy_in w ≡ option_map who.Resolving (first_at_work 0 e.sessions)
busy-is e w st up free = ap (λ (c : Option Checkpoint). if is_there c then Some who.Checkpoint else option_map who.Resolving (first_held (calls_in w) 0 w.machine.sessions)) free
    ∙ ap (option_map who.Resolving) (first-same (calls_in w) 0 w.machine.sessions e.sessions (sym st.count) (λ i a there. let n : i ≡ 0 + i = omega arith in
    subst (λ (k : ℕ). is_held (calls_in w) k (transaction_of w.machine i) ≡ is_at_work a.stage) n (held-is e w i a st up there)))

pub told-is : (e : Engine) (w : World) (found : Option ℕ) → Stands e w → e.hub.fault ≡ None → w.machine.checkpoint ≡ None → found ≡ first_at_work 0 e.sessions
    → close_told w.machine.fault (busy_in w) ≡ close_told None (option_map who.Resolving found)
told-is e w found st up free is = ap (λ (f : Option Fault). close_told f (busy_in w)) (sym st.fault ∙ up)
    ∙ ap (close_told None) (busy-is e w st (sym st.fault ∙ up) free ∙ ap (option_map who.Resolving) (sym is))

-- ---- where a close may come

up-and-free : (f : Option Fault) (b : Option Busy) → close_told f b ≡ Ok tt → (f ≡ None) × (b ≡ None)
up-and-free None None is = (refl, refl)
up-and-free None (Some busy) is = absurd (cc)
up-and-free (Some fault) b is = absurd (cc)

pub close-up : (w : World) → MayClose w → w.machine.fault ≡ None
close-up w may = (up-and-free w.machine.fault (busy_in w) may).0

none-held : (calls : List Bool) (at : ℕ) (ts : List (Option Transaction)) → first_held calls at ts ≡ None → (i : ℕ) → i < length ts → is_held calls (at + i) (slice_index_or ts i None) ≡ false
none-held calls at [] none i inside = absurd (omega arith)
none-held calls at (t ∷ ts) none i inside = by-head (λ isnt j less. none-held calls (at + 1) ts isnt j less) (is_held calls at t) refl none i inside where
  by-head : (first_held calls (at + 1) ts ≡ None → (j : ℕ) → j < length ts → is_held calls ((at + 1) + j) (slice_index_or ts j None) ≡ false) → (b : Bool) → is_held calls at t ≡ b
      → (if b then Some at else first_held calls (at + 1) ts) ≡ None → (i : ℕ) → i < length (t ∷ ts) → is_held calls (at + i) (slice_index_or (t ∷ ts) i None) ≡ false
  by-head later true is none i inside = absurd (cc)
  by-head later false is none zero inside = let n : at ≡ at + 0 = omega arith in subst (λ (k : ℕ). is_held calls k t ≡ false) n is
  by-head later false is none (suc i) inside = let n : (at + 1) + i ≡ at + suc i = omega arith in
      subst (λ (k : ℕ). is_held calls k (slice_index_or ts i None) ≡ false) n (later none i (omega arith))

pub close-rests : (w : World) (session : ℕ) → MayClose w → session < length w.machine.sessions → doing_of w session ≡ Resting
close-rests w session may inside = rest-is (doing_of w session) (sym (call-at w session) ∙ (or_parts (slice_index_or (calls_in w) session false) ending held).0) where
  ending : Bool
  ending = of_some false (λ (t : Transaction). is_ending t.phase) (transaction_of w.machine session)

  by-check : (b : Bool) → (if b then Some who.Checkpoint else option_map who.Resolving (first_held (calls_in w) 0 w.machine.sessions)) ≡ None → option_map who.Resolving (first_held (calls_in w) 0 w.machine.sessions) ≡ None
  by-check true is = absurd (cc)
  by-check false is = is

  by-first : (o : Option ℕ) → option_map who.Resolving o ≡ None → o ≡ None
  by-first None is = refl
  by-first (Some s) is = absurd (cc)

  none : first_held (calls_in w) 0 w.machine.sessions ≡ None
  none = by-first (first_held (calls_in w) 0 w.machine.sessions) (by-check (is_there w.machine.checkpoint) (up-and-free w.machine.fault (busy_in w) may).1)

  held : is_held (calls_in w) session (transaction_of w.machine session) ≡ false
  held = let n : 0 + session ≡ session = omega arith in
      subst (λ (k : ℕ). is_held (calls_in w) k (transaction_of w.machine session) ≡ false) n (none-held (calls_in w) 0 w.machine.sessions none session inside)
