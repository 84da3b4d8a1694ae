-- What a write finds at its key, by the chain and the row that stand for it.
use Rattle.std.proofs.Common.{◌≡◌, ◌⊎◌, ℕ, refl, ap, Bool, true, false, List, [], ◌∷◌, inl, inr, subst}
use Rattle.std.specs.Prelude.{Option, Some, None, if◌then◌else◌}
use Rattle.std.proofs.lemmas.Bool.{cases_Bool}
use Rattle.item.specs.declared.Change.{Change}
use Rattle.item.specs.declared.Change.TheVariants.{Put, Remove}
use Rattle.stamp.specs.declared.Name.{Name}
use Rattle.stamp.specs.declared.Version.{Version}
use Rattle.stamp.specs.declared.View.{View}
use Rattle.wt_code.specs.declared.refusals.Refusal.{Refusal}
use Rattle.wt_code.specs.declared.refusals.Refusal.TheVariants as refusal
use Rattle.kv_model.specs.History.{put_of}
use Rattle.kv_model.specs.Machine.{Machine, Transaction, Running, transaction_of, Nothing}
use Rattle.kv_model.specs.Decisions.{Refused as Not, Vacant, Occupied, Anything, WriteAnswer, unmet, is_there}
use Rattle.kv_model.specs.Reads.{MayWrite, MustNotWrite, present}
use Rattle.kv_model.specs.Valid.{Valid}
use Rattle.update_chain.specs.declared.look.Judgement.{Judgement}
use Rattle.update_chain.specs.declared.look.Judgement.TheVariants.{Allowed, Refused}
use Rattle.update_chain.specs.declared.update.Update.{Update}
use Rattle.update_chain.specs.Answers.{ViewStands}
use Rattle.update_chain.specs.EventLaws.{StandsFor, may_follow_front}
use Rattle.update_chain.specs.Writing.{WritesStand, JudgementStands, judgement_by, may_follow_by}
use Rattle.update_chain.specs.Updates.{is_named, unmarked_update}
use Rattle.update_chain.proofs.Finding.{writes-find}
use Rattle.wt_calls.specs.declared.demand.Demand.{Demand}
use Rattle.wt_calls.specs.declared.demand.Demand.TheVariants as demand
use Rattle.wt_calls.specs.Calls.{demand_in}
use Rattle.leaf_frame.specs.Leaf.{HeldLeaf}
use Rattle.call_steps.specs.declared.stage.KeyCall.{KeyCall}
use Rattle.call_steps.specs.declared.stage.Target.{Target}
use Rattle.call_steps.specs.Looks.{own_name, is_put, free_or_unmet, found_by, found_under, write_found, refused, conflicts, AcceptedBy, FoundBy}
use Rattle.call_steps.specs.State.{State, clears}

-- a write of a leaf: what it asks and makes, from which leaf and state, to which
pub record Written : Type 0 where
  pub view : View
  pub call : KeyCall
  pub target : Target
  pub asked : Demand
  pub change : Change
  pub leaf : HeldLeaf
  pub before : State
  pub leaf_after : HeldLeaf
  pub later : State

-- it is accepted, where memory suffices
pub record Accepted (m : Machine) (session : ℕ) (t : Transaction) (key : List ℕ) (chain : List Update) (w : Written) : Type 0 where
  pub may : MayWrite m session t w.target.table key
  pub met : unmet (demand_in w.asked) (present m t w.target.table key) ≡ None
  pub follows : may_follow_front w.view chain ≡ true
  pub made : AcceptedBy (own_name w.view) w.call w.target w.change w.leaf w.before w.leaf_after w.later

-- the key is not as it asks
pub record Unmet (m : Machine) (session : ℕ) (t : Transaction) (key : List ℕ) (w : Written) : Type 0 where
  pub refusal : Refusal
  pub answers : WriteAnswer m session t w.target.table key w.change (demand_in w.asked) (Not refusal) Nothing
  pub same : w.leaf_after ≡ w.leaf
  pub now : w.later ≡ clears w.call w.target (refused refusal) w.before

-- it is refused for an update of this name
pub record Conflicting (m : Machine) (session : ℕ) (t : Transaction) (key : List ℕ) (w : Written) : Type 0 where
  pub other : Name
  pub must_not : MustNotWrite m session t w.target.table key other
  pub same : w.leaf_after ≡ w.leaf
  pub now : w.later ≡ conflicts w.call w.target other w.before

abbrev pub WriteCases : Machine → ℕ → Transaction → List ℕ → List Update → Written → Type 0
WriteCases m session t key chain w = Accepted m session t key chain w ⊎ (Unmet m session t key w ⊎ Conflicting m session t key w)

module _ (m : Machine) (session : ℕ) (t : Transaction) (key : List ℕ) (w : Written) where
  -- by the demand, and by what is there
  free-cases : (asked : Demand) (there : Option (List ℕ)) (led : Bool) (chain : List Update) → MayWrite m session t w.target.table key → present m t w.target.table key ≡ there → may_follow_front w.view chain ≡ true
      → FoundBy (free_or_unmet asked (is_there there) led) (own_name w.view) w.call w.target w.change w.leaf w.before w.leaf_after w.later → WriteCases m session t key chain (record w { asked = asked })
  free-cases demand.Anything (Some v) led chain may is follows made = inl (record { may = may; met = ap (unmet Anything) is; follows = follows; made = made })
  free-cases demand.Anything None led chain may is follows made = inl (record { may = may; met = ap (unmet Anything) is; follows = follows; made = made })
  free-cases demand.Vacant (Some v) led chain may is follows made = inr (inl (record { refusal = refusal.DuplicateKey; answers = (may, ap (unmet Vacant) is, refl); same = made.0; now = made.1 }))
  free-cases demand.Vacant None led chain may is follows made = inl (record { may = may; met = ap (unmet Vacant) is; follows = follows; made = made })
  free-cases demand.Occupied (Some v) led chain may is follows made = inl (record { may = may; met = ap (unmet Occupied) is; follows = follows; made = made })
  free-cases demand.Occupied None led chain may is follows made = inr (inl (record { refusal = refusal.NotFound; answers = (may, ap (unmet Occupied) is, refl); same = made.0; now = made.1 }))

  change-cases : (c : Change) (led : Bool) (chain : List Update) → MayWrite m session t w.target.table key → present m t w.target.table key ≡ put_of c → may_follow_front w.view chain ≡ true
      → FoundBy (free_or_unmet w.asked (is_put c) led) (own_name w.view) w.call w.target w.change w.leaf w.before w.leaf_after w.later → WriteCases m session t key chain w
  change-cases (Put v) led chain may is follows made = free-cases w.asked (Some v) led chain may is follows made
  change-cases Remove led chain may is follows made = free-cases w.asked None led chain may is follows made

  -- by the newest that the leaf has, where the write makes this by its judgement
  newest-cases : (Makes : Judgement → Type 0) (chain : List Update) (u : Update) (led : Bool)
      → (Makes Allowed → FoundBy (free_or_unmet w.asked (is_put u.version.change) led) (own_name w.view) w.call w.target w.change w.leaf w.before w.leaf_after w.later)
      → ((name : Name) → Makes (Refused name) → (w.leaf_after ≡ w.leaf) × (w.later ≡ conflicts w.call w.target name w.before))
      → (may_follow_by w.view u ≡ true → may_follow_front w.view chain ≡ true) → JudgementStands m session t w.target.table key (judgement_by w.view u)
      → (judgement_by w.view u ≡ Allowed → present m t w.target.table key ≡ put_of u.version.change) → Makes (judgement_by w.view u) → WriteCases m session t key chain w
  newest-cases Makes chain u led free conflict follows judged finds made = elim (cases_Bool (may_follow_by w.view u)) [
    | inl is ↦ allows is
    | inr isnt ↦ refuses isnt
  ] where
    allows : may_follow_by w.view u ≡ true → WriteCases m session t key chain w
    allows is = let allowed : judgement_by w.view u ≡ Allowed = ap (λ b. if b then Allowed else Refused u.version.window.name) is in
        change-cases u.version.change led chain (subst (JudgementStands m session t w.target.table key) allowed judged) (finds allowed) (follows is) (free (subst Makes allowed made))

    refuses : may_follow_by w.view u ≡ false → WriteCases m session t key chain w
    refuses isnt = let refuse : judgement_by w.view u ≡ Refused u.version.window.name = ap (λ b. if b then Allowed else Refused u.version.window.name) isnt in
        let out = conflict u.version.window.name (subst Makes refuse made) in
        inr (inr (record { other = u.version.window.name; must_not = subst (JudgementStands m session t w.target.table key) refuse judged; same = out.0; now = out.1 }))

  pub write-cases : WritesStand → (chain : List Update) (row : Option (Version Change)) → Valid m → transaction_of m session ≡ Some t → t.phase ≡ Running → ViewStands m t w.view → StandsFor m w.target.table key chain row []
      → FoundBy (write_found w.view w.asked chain row) (own_name w.view) w.call w.target w.change w.leaf w.before w.leaf_after w.later → WriteCases m session t key chain w
  write-cases writes-stand [] None valid there running sees k made = free-cases w.asked None false []
      (writes-stand m session t w.view w.target.table key [] None [] valid there running sees k) (writes-find m session t w.view w.target.table key [] None [] valid there running sees k refl) refl made
  write-cases writes-stand [] (Some v) valid there running sees k made =
      newest-cases (λ j. FoundBy (found_under j w.asked v) (own_name w.view) w.call w.target w.change w.leaf w.before w.leaf_after w.later) [] (unmarked_update v) false (λ free. free) (λ name met. met) (λ is. refl)
      (writes-stand m session t w.view w.target.table key [] (Some v) [] valid there running sees k) (λ allowed. writes-find m session t w.view w.target.table key [] (Some v) [] valid there running sees k allowed) made
  write-cases writes-stand (u ∷ older) row valid there running sees k made =
      newest-cases (λ j. FoundBy (found_by j w.view w.asked u) (own_name w.view) w.call w.target w.change w.leaf w.before w.leaf_after w.later) (u ∷ older) u (is_named (own_name w.view) u) (λ free. free) (λ name met. met) (λ is. is)
      (writes-stand m session t w.view w.target.table key (u ∷ older) row [] valid there running sees k) (λ allowed. writes-find m session t w.view w.target.table key (u ∷ older) row [] valid there running sees k allowed) made
