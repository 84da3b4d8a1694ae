-- What a look at a leaf leaves of a session: an answer, a stage that comes next, or a write.
use Rattle.std.proofs.Common.{◌≡◌, ◌⊎◌, ℕ, refl, ap, ◌∙◌, Bool, true, false, List, [], ◌∷◌, inl, inr}
use Rattle.std.specs.Prelude.{Option, Some, None}
use Rattle.item.specs.declared.Change.{Change}
use Rattle.item.specs.declared.Change.TheVariants.{Put, Remove}
use Rattle.stamp.specs.declared.Name.{Name}
use Rattle.stamp.specs.declared.Version.{Version}
use Rattle.stamp.specs.declared.View.{View}
use Rattle.wt_code.specs.declared.answers.Answer.{Answer}
use Rattle.wt_code.specs.declared.answers.Answer.TheVariants as answers
use Rattle.wt_code.specs.declared.refusals.Refusal.{Refusal}
use Rattle.wt_code.specs.declared.refusals.Refusal.TheVariants as refusal
use Rattle.reconcile.specs.Shows.{shown_at}
use Rattle.txn_table.specs.declared.phase.Phase.TheVariants as phase
use Rattle.update_chain.specs.declared.look.Judgement.{Judgement}
use Rattle.update_chain.specs.declared.look.Judgement.TheVariants as judgement
use Rattle.update_chain.specs.declared.update.Update.{Update}
use Rattle.update_chain.specs.Updates.{Reply, Gives, IsRemoved, Conflicts, IsOlder, is_led_by, is_named, unmarked_update}
use Rattle.update_chain.specs.Writing.{judgement_by}
use Rattle.leaf_chains.specs.Slots.{chain_at}
use Rattle.leaf_frame.specs.Leaf.{HeldLeaf}
use Rattle.leaf_frame.specs.Looks.{read_at}
use Rattle.wt_calls.specs.declared.demand.Demand.{Demand}
use Rattle.wt_calls.specs.declared.demand.Demand.TheVariants as demand
use Rattle.wt_calls.specs.declared.way.Way.{Way as CalledWay}
use Rattle.wt_calls.specs.Calls.{way_in}
use Rattle.call_steps.specs.declared.frame.Frame.{Frame}
use Rattle.call_steps.specs.declared.frame.FramePiece.{FramePiece}
use Rattle.call_steps.specs.declared.stage.KeyCall.{KeyCall}
use Rattle.call_steps.specs.declared.stage.KeyCall.TheVariants as key_call
use Rattle.call_steps.specs.declared.stage.Stage.TheVariants as stage
use Rattle.call_steps.specs.declared.stage.Target.{Target}
use Rattle.call_steps.specs.declared.written.WrittenKey.{WrittenKey}
use Rattle.call_steps.specs.FrameEvents.{LookMade}
use Rattle.call_steps.specs.Looks.{AcceptedBy, FoundBy, LookedBy, ReadBy, SteppedBy, found_by, found_under, free_or_unmet, from_of, is_put, no_memory, noted, own_name, refused, without_value, write_found}
use Rattle.call_steps.specs.State.{State, answered, at_stage, clears}
use Rattle.call_turns.specs.Answers.{HoldsOwn, IsOwnAnswer}

-- any refusal may be kept from before
module _ (but : Refusal) where
  -- it answers, by itself, maybe with the key of a row kept
  pub record Answers (call : KeyCall) (target : Target) (a a' : State) : Type 0 where
    pub before : State
    pub answer : Answer (List ℕ)
    pub phase : before.phase ≡ a.phase
    pub own : IsOwnAnswer but answer
    pub is : a' ≡ answered call target answer before

  -- the call's word is to be cleared after a write, and a conflict fails the transaction
  pub record Writes (call : KeyCall) (target : Target) (a a' : State) : Type 0 where
    pub stage : a'.stage ≡ stage.Clear call target
    pub phase : (a'.phase ≡ phase.Failed) ⊎ (a'.phase ≡ a.phase)
    pub own : HoldsOwn but a'

  -- the history or the next leaf comes next, where it does not answer
  abbrev pub Looked : KeyCall → Target → State → State → Type 0
  Looked call target a a' = Answers call target a a' ⊎ ((a' ≡ at_stage (stage.History call target) a) ⊎ ((a' ≡ at_stage (stage.Pass call target) a) ⊎ Writes call target a a'))

  answers-so : (call : KeyCall) (target : Target) (answer : Answer (List ℕ)) (a a' : State) → IsOwnAnswer but answer → a' ≡ answered call target answer a → Looked call target a a'
  answers-so call target answer a a' own is = inl (record { before = a; answer = answer; phase = refl; own = own; is = is })

  -- ---- reads

  reads : (r : Reply) (call : KeyCall) (target : Target) (a a' : State) → ReadBy r call target a a' → Looked call target a a'
  reads (Gives v) call target a a' (inl is) = answers-so call target (answers.Value v) a a' tt is
  reads (Gives v) call target a a' (inr is) = answers-so call target no_memory a a' tt is
  reads IsRemoved call target a a' is = answers-so call target (refused refusal.NotFound) a a' tt is
  reads (Conflicts id) call target a a' is = answers-so call target (refused (refusal.PrepareConflict id)) a a' tt is
  reads IsOlder call target a a' is = inr (inl is)

  -- ---- rows

  rows : (view : View) (cursor : ℕ) (way : CalledWay) (target : Target) (leaf : HeldLeaf) (a a' : State) → SteppedBy view (way_in way) (from_of a cursor target.table) (key_call.Step cursor way) target leaf a a'
      → Looked (key_call.Step cursor way) target a a'
  rows view cursor way target leaf a a' x = elim x [
    | inl row ↦ inl (record { before = record a { key = row.0 }; answer = answers.Row row.0 row.1; phase = refl; own = tt; is = row.3 })
    | inr (inl conflict) ↦ answers-so (key_call.Step cursor way) target (refused (refusal.PrepareConflict conflict.1)) a a' tt conflict.3
    | inr (inr (inl none)) ↦ inr (inr (inl none.1))
    | inr (inr (inr short)) ↦ answers-so (key_call.Step cursor way) target no_memory a a' tt short
  ]

  -- ---- writes

  noted-phase : (led : Bool) (k : WrittenKey) (a : State) → (noted led k a).phase ≡ a.phase
  noted-phase true k a = refl
  noted-phase false k a = refl

  module _ (name : Name) (call : KeyCall) (target : Target) (change : Change) (leaf leaf' : HeldLeaf) (a a' : State) where
    clears-so : (answer : Answer (List ℕ)) (b : State) → IsOwnAnswer but answer → a' ≡ clears call target answer b → b.phase ≡ a.phase → Writes call target a a'
    clears-so answer b own is same = record { stage = rw is refl; phase = inr (rw is same); own = rw is own }

    conflicting : (answer : Answer (List ℕ)) → IsOwnAnswer but answer → a' ≡ clears call target answer (record a { phase = phase.Failed }) → Writes call target a a'
    conflicting answer own is = record { stage = rw is refl; phase = inl (rw is refl); own = rw is own }

    accepted : AcceptedBy name call target change leaf a leaf' a' → Writes call target a a'
    accepted (inl (middle, installed, is)) = clears-so answers.Done middle tt is
        (ap (λ (b : State). b.phase) installed.state ∙ noted-phase (is_led_by name (chain_at a.key leaf.chains)) (record { frame = target.frame; slot = installed.slot }) a)
    accepted (inr x) = clears-so no_memory a tt x.1 refl

    by-demand : (d : Demand) (there led : Bool) → FoundBy (free_or_unmet d there led) name call target change leaf a leaf' a' → Writes call target a a'
    by-demand demand.Vacant true led x = clears-so (refused refusal.DuplicateKey) a tt x.1 refl
    by-demand demand.Occupied false led x = clears-so (refused refusal.NotFound) a tt x.1 refl
    by-demand _ there led x = accepted x

    over : (view : View) (j : Judgement) (d : Demand) (u : Update) → FoundBy (found_by j view d u) name call target change leaf a leaf' a' → Writes call target a a'
    over view judgement.Allowed d u x = by-demand d (is_put u.version.change) (is_named (own_name view) u) x
    over view (judgement.Refused other) d u x = conflicting (refused (refusal.Rollback other.run other.id)) tt x.1

    under : (j : Judgement) (d : Demand) (v : Version Change) → FoundBy (found_under j d v) name call target change leaf a leaf' a' → Writes call target a a'
    under judgement.Allowed d v x = by-demand d (is_put v.change) false x
    under (judgement.Refused other) d v x = conflicting (refused (refusal.Rollback other.run other.id)) tt x.1

    writes : (view : View) (d : Demand) (chain : List Update) (row : Option (Version Change)) → FoundBy (write_found view d chain row) name call target change leaf a leaf' a' → Writes call target a a'
    writes view d (u ∷ older) row x = over view (judgement_by view u) d u x
    writes view d [] None x = by-demand d false false x
    writes view d [] (Some v) x = under (judgement_by view (unmarked_update v)) d v x

  -- ---- any of them

  looked : (call : KeyCall) (view : View) (target : Target) (leaf leaf' : HeldLeaf) (a a' : State) → LookedBy call view target leaf a leaf' a' → Looked call target a a'
  looked key_call.Get view target leaf leaf' a a' x = reads (read_at view a.key leaf) key_call.Get target a a' x.1
  looked (key_call.Seek cursor) view target leaf leaf' a a' x = reads (read_at view a.key leaf) (key_call.Seek cursor) target a a' x.1
  looked (key_call.Put demand) view target leaf leaf' a a' x =
      let w = writes (own_name view) (key_call.Put demand) target (Put a.value) leaf leaf' (without_value a) a' view demand (chain_at a.key leaf.chains) (shown_at a.key leaf.page) x in
      inr (inr (inr (record { stage = w.stage; phase = w.phase; own = w.own })))
  looked key_call.Remove view target leaf leaf' a a' x =
      inr (inr (inr (writes (own_name view) key_call.Remove target Remove leaf leaf' a a' view demand.Occupied (chain_at a.key leaf.chains) (shown_at a.key leaf.page) x)))
  looked (key_call.Step cursor way) view target leaf leaf' a a' x = rows view cursor way target leaf a a' x.1

  -- a frame without a leaf is an answer too
  pub look-made : (o : Option Frame) (call : KeyCall) (view : View) (target : Target) (p p' : FramePiece) (a a' : State) → LookMade o call view target p a p' a' → Looked call target a a'
  look-made None call view target p p' a a' x = answers-so call target (refused (refusal.Again 0)) a a' tt x.1
  look-made (Some f) call view target p p' a a' x = looked call view target f.leaf x.0 a a' x.2
