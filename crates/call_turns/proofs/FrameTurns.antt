-- An event on the piece of a frame leaves fewer steps.
use Rattle.std.proofs.Common.{◌≡◌, ◌<◌, ◌≤◌, ◌+◌, ℕ, zero, suc, refl, sym, List, length, inl, inr, subst, arith}
use Rattle.std.specs.Prelude.{◌==◌, if◌then◌else◌}
use Rattle.std.proofs.lemmas.Bool.{cases_Bool, eq-eqb}
use Rattle.tree_dir.specs.declared.leaf.Leaf.{Leaf}
use Rattle.txn_table.specs.declared.phase.Phase.{Phase}
use Rattle.txn_table.specs.declared.phase.Phase.TheVariants as phase
use Rattle.call_steps.specs.declared.next.Next.TheVariants as next
use Rattle.call_steps.specs.declared.stage.CommitStamps.{CommitStamps}
use Rattle.call_steps.specs.declared.stage.KeyCall.{KeyCall}
use Rattle.call_steps.specs.declared.stage.Stage.{Stage}
use Rattle.call_steps.specs.declared.stage.Stage.TheVariants as stage
use Rattle.call_steps.specs.declared.stage.Target.{Target}
use Rattle.call_steps.specs.declared.written.WrittenKey.{WrittenKey}
use Rattle.call_steps.specs.FrameEvents.{FrameMadeAt, ordered, prev_in, starts_at, with_prev}
use Rattle.call_steps.specs.Stages.{after_orders, after_stamps, marks, stamps_then, undoes}
use Rattle.call_steps.specs.State.{State, at_stage, leaving_in}
use Rattle.call_steps.specs.Words.{next_at}
use Rattle.call_steps.specs.Written.{frame_at, leaf_start}
use Rattle.call_turns.specs.Turns.{FrameLowers, decide_turns, done_turns, further, stamp_turns, turns, turns_at}
use Rattle.call_turns.proofs.HubTurns.{answered-less}
use Rattle.call_turns.proofs.Looked.{Looked, look-made}
use Rattle.wt_code.specs.declared.refusals.Refusal.TheVariants as refusal

-- ---- looks

looks-less : (leaves : List Leaf) (call : KeyCall) (target : Target) (a a' : State) → Looked refusal.NoMemory call target a a' → turns leaves a' < 4 + further call target.leaf leaves
looks-less leaves call target a a' x = elim x [
  | inl tells ↦ rw tells.is (let low = answered-less leaves call target tells.answer tells.before in omega (arith, low))
  | inr (inl older) ↦ rw older (omega arith)
  | inr (inr (inl none)) ↦ rw none (omega arith)
  | inr (inr (inr wrote)) ↦ rw wrote.stage (omega arith)
]

-- ---- keys that were written

start-within : (keys : List WrittenKey) (frame n : ℕ) → leaf_start keys frame n ≤ n
start-within keys frame zero = omega arith
start-within keys frame (suc n) = elim (cases_Bool (frame_at keys (suc n) == frame)) [
  | inl is ↦ subst (λ b. (if b then leaf_start keys frame n else suc n) ≤ suc n) (sym is) (let low = start-within keys frame n in omega arith)
  | inr isnt ↦ subst (λ b. (if b then leaf_start keys frame n else suc n) ≤ suc n) (sym isnt) (omega arith)
]

-- fewer are left, where some are
start-below : (keys : List WrittenKey) (left : ℕ) → 1 ≤ left → leaf_start keys (frame_at keys left) left < left
start-below keys zero some = absurd (omega arith)
start-below keys (suc n) some = subst (λ b. (if b then leaf_start keys (frame_at keys (suc n)) n else suc n) < suc n) (sym (eq-eqb (frame_at keys (suc n)) (frame_at keys (suc n)) refl))
    (let low = start-within keys (frame_at keys (suc n)) n in omega arith)

-- where some of them are left there are fewer
starts-below : (a : State) (left m : ℕ) → starts_at a left ≡ suc m → suc m < left
starts-below a zero m is = absurd cc
starts-below a (suc n) m is = subst (λ k. k < suc n) is (start-below a.written (suc n) (omega arith))

marks-less : (leaves : List Leaf) (stamp left k : ℕ) (a : State) → starts_at a left ≡ k → turns leaves (at_stage (marks stamp k) a) < left + 2
marks-less leaves stamp left zero a is = omega arith
marks-less leaves stamp left (suc m) a is = let below = starts-below a left m is in omega (arith, below)

-- stamps are fewer than all keys with the decision behind them
stamps-first : (leaves : List Leaf) (stamps : CommitStamps) (keys : ℕ) (b : State) → turns_at (stamps_then stamps keys (stage.Decide stamps)) leaves b ≤ keys + (decide_turns b + 1)
stamps-first leaves stamps zero b = omega arith
stamps-first leaves stamps (suc n) b = by b.phase where
  by : (p : Phase) → stamp_turns p (suc n) b ≤ suc n + (decide_turns b + 1)
  by phase.Running = omega arith
  by _ = omega arith

after-orders : (leaves : List Leaf) (p : Phase) (stamps : CommitStamps) (keys : ℕ) (b : State) → turns_at (after_orders p stamps keys) leaves b ≤ keys + (decide_turns b + 1)
after-orders leaves (phase.Prepared at) stamps keys b = omega arith
after-orders leaves _ stamps keys b = stamps-first leaves stamps keys b

orders-less : (leaves : List Leaf) (stamps : CommitStamps) (left k : ℕ) (a : State) → starts_at a left ≡ k → turns leaves (ordered stamps k a) < left + (length a.written + (decide_turns a + 2))
orders-less leaves stamps left zero a is = let low = after-orders leaves a.phase stamps (length a.written) (ordered stamps 0 a) in omega (arith, low)
orders-less leaves stamps left (suc m) a is = let below = starts-below a left m is in omega (arith, below)

stamps-left : (p : Phase) (left m : ℕ) (g : Stage) (a : State) → suc m < left → stamp_turns p (suc m) (at_stage g a) < stamp_turns p left a
stamps-left phase.Running left m g a below = omega (arith, below)
stamps-left _ left m g a below = omega (arith, below)

stamps-done : (leaves : List Leaf) (p : Phase) (stamps : CommitStamps) (left : ℕ) (a : State) → turns leaves (at_stage (after_stamps p stamps) a) < stamp_turns p left a
stamps-done leaves phase.Running stamps left a = omega arith
stamps-done leaves _ stamps left a = omega arith

stamps-less : (leaves : List Leaf) (stamps : CommitStamps) (left k : ℕ) (a : State) → starts_at a left ≡ k → turns leaves (at_stage (stamps_then stamps k (after_stamps a.phase stamps)) a) < stamp_turns a.phase left a
stamps-less leaves stamps left zero a is = stamps-done leaves a.phase stamps left a
stamps-less leaves stamps left (suc m) a is = stamps-left a.phase left m (stage.Stamp stamps (suc m)) a (starts-below a left m is)

undoes-less : (leaves : List Leaf) (left k : ℕ) (a b : State) → starts_at a left ≡ k → done_turns b ≡ done_turns a → turns leaves (at_stage (undoes k) b) < left + (done_turns a + 1)
undoes-less leaves left zero a b is same = omega (arith, same)
undoes-less leaves left (suc m) a b is same = let below = starts-below a left m is in omega (arith, below, same)

leaving-same : (p : Phase) (a : State) → done_turns (leaving_in p a) ≡ done_turns a
leaving-same phase.Running a = refl
leaving-same phase.Failed a = refl
leaving-same _ a = refl

-- ---- any of them

pub frame-lowers : FrameLowers
frame-lowers view leaves p p' a a' frame on made = by a.stage on made where
  by : (g : Stage) → next_at g a ≡ next.Frame frame → FrameMadeAt g view p a p' a' → turns leaves a' < turns_at g leaves a
  by (stage.Look call target) on x = looks-less leaves call target a a' (look-made refusal.NoMemory p.frame call view target p p' a a' x)
  by (stage.Mark stamp left) on x = rw x.1 (marks-less leaves stamp left (starts_at a left) a refl)
  by (stage.Order stamps left) on x = rw x.1 (orders-less leaves (with_prev stamps (prev_in p.frame a left stamps.prev)) left (starts_at a left) a refl)
  by (stage.Stamp stamps left) on x = rw x.1 (stamps-less leaves stamps left (starts_at a left) a refl)
  by (stage.Undo left) on x = rw x.1 (undoes-less leaves left (starts_at a left) a (leaving_in a.phase a) refl (leaving-same a.phase a))
  by _ on x = absurd cc
