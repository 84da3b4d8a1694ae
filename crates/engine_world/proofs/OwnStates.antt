-- A session's own state after one of its steps.
use Rattle.std.proofs.Common.{◌≡◌, refl, ap, sym, ◌∙◌, ℕ, List, subst, map}
use Rattle.std.specs.Prelude.{Option, Some, None, option_map}
use Rattle.kv_model.specs.Allowed.{HasTransaction}
use Rattle.kv_model.specs.Machine.{Machine, Transaction, Phase as ModelPhase, transaction_of}
use Rattle.kv_model.specs.Reads.{IsEnding}
use Rattle.txn_table.specs.SessionData.{phase_in}
use Rattle.call_steps.specs.declared.frame.FramePiece.{FramePiece}
use Rattle.call_steps.specs.declared.hub.Hub.{Hub}
use Rattle.call_steps.specs.declared.stage.KeyCall.{KeyCall}
use Rattle.call_steps.specs.declared.stage.KeyCall.TheVariants as key_call
use Rattle.call_steps.specs.declared.stage.Stage.{Stage}
use Rattle.call_steps.specs.HubEvents.{known_phase}
use Rattle.call_steps.specs.State.{State, at_stage}
use Rattle.engine_world.specs.Doings.{call_in}
use Rattle.engine_world.specs.Leaves.{AreNoted}
use Rattle.engine_world.specs.Stages.{EndsOnlyDown}
use Rattle.engine_world.specs.Stands.{SessionStands, position_in, writes_in}
use Rattle.engine_world.proofs.InPlace.{SessionInPlace, StageInPlace}

-- with the same phase, writes and positions
pub restates : (m : Machine) (hub : Hub) (pieces : List FramePiece) (session : ℕ) (a b : State) → b.phase ≡ a.phase → b.written ≡ a.written → map position_in b.cursors ≡ map position_in a.cursors
    → StageInPlace b.stage m hub.dir.leaves pieces session b → SessionStands m hub pieces session a → SessionInPlace m hub pieces session b
restates m hub pieces session a b phase written cursors stands st = record {
  phase = ap phase_in phase ∙ st.phase;
  seated = record { opened = st.seated.opened; phase = st.seated.phase ∙ ap known_phase (sym phase) };
  cursors = cursors ∙ st.cursors;
  noted = subst (λ keys. AreNoted hub.dir.leaves pieces (writes_in m session) keys) (sym written) st.noted;
  stage = stands;
}

-- another stage of the same call
pub call-at : (call : KeyCall) (s : Stage) (a : State) → call_in call (at_stage s a) ≡ call_in call a
call-at key_call.Get s a = refl
call-at (key_call.Put demand) s a = refl
call-at key_call.Remove s a = refl
call-at (key_call.Seek cursor) s a = refl
call-at (key_call.Step cursor way) s a = refl

-- ---- the session's transaction

-- in this phase
pub has-phase : (m : Machine) (session : ℕ) (p : ModelPhase) → Some p ≡ option_map (λ (t : Transaction). t.phase) (transaction_of m session) → HasTransaction m session (λ t. t.phase ≡ p)
has-phase m session p is = by-one (transaction_of m session) is where
  by-one : (o : Option Transaction) → Some p ≡ option_map (λ (t : Transaction). t.phase) o → (t : Transaction) × (o ≡ Some t) × (t.phase ≡ p)
  by-one None is = let none : Some p ≡ None = is in absurd (cc)
  by-one (Some t) is = (t, refl, (let same : Some p ≡ Some t.phase = is in cc))

pub alive-ends : (m : Machine) (session : ℕ) (t : Transaction) → transaction_of m session ≡ Some t → (IsEnding t.phase → ⊥) → EndsOnlyDown m session
alive-ends m session t there alive u at ending = let same : t ≡ u = (let e : Some t ≡ Some u = sym there ∙ at in cc) in
    absurd (alive (subst (λ (x : Transaction). IsEnding x.phase) (sym same) ending))

pub none-ends : (m : Machine) (session : ℕ) → transaction_of m session ≡ None → EndsOnlyDown m session
none-ends m session none u at ending = let e : None ≡ Some u = sym none ∙ at in absurd (cc)
