-- The events on words that leave the machine as it is.
use Rattle.std.proofs.Common.{◌≡◌, ◌≢◌, ◌<◌, ◌+◌, ℕ, Bool, true, refl, ap, sym, ◌∙◌, List, inl, inr, subst, arith, map}
use Rattle.std.specs.Prelude.{Option, Some, None, ◌==◌, if◌then◌else◌, slice_get, slice_set}
use Rattle.std.proofs.lemmas.Bool.{eq-eqb, ne_eqb}
use Rattle.wt_code.specs.declared.answers.Answer.{Answer}
use Rattle.wt_code.specs.declared.answers.Answer.TheVariants as answer
use Rattle.wt_code.specs.declared.refusals.Refusal.TheVariants as refusal
use Rattle.kv_model.specs.Machine.{Machine, Event, Nothing, of_some, transaction_of}
use Rattle.tree_dir.specs.declared.leaf.Leaf.{Leaf}
use Rattle.call_steps.specs.declared.next.Next.TheVariants as next
use Rattle.call_steps.specs.declared.reply.Reply.TheVariants as reply
use Rattle.call_steps.specs.declared.stage.KeyCall.{KeyCall}
use Rattle.call_steps.specs.declared.stage.KeyCall.TheVariants as key_call
use Rattle.call_steps.specs.declared.stage.Stage.{Stage}
use Rattle.call_steps.specs.declared.stage.Stage.TheVariants as stage
use Rattle.call_steps.specs.declared.stage.Target.{Target}
use Rattle.call_steps.specs.Stages.{cursor_in}
use Rattle.call_steps.specs.State.{State, at_stage, changed_at, clears, first_pinned, is_pinned_at, unpinned, without_answer}
use Rattle.call_steps.specs.Tables.{target_in, filled}
use Rattle.call_steps.specs.Words.{ends, loaded_at, missed, next_at, stored_at, unpinned_in, validated}
use Rattle.tree_dir.specs.declared.leaf.Framed.{Framed}
use Rattle.std.proofs.lemmas.Option.{same_Some}
use Rattle.engine_world.specs.Doings.{call_in, doing_at, event_with, further_left, unpins_left}
use Rattle.engine_world.specs.Laws.{IsPublish, IsUnpin, Leads, LoadGoes, PublishesGo, UnpinsGo, with_hazard, with_session}
use Rattle.engine_world.specs.Leaves.{LeafInFrame, word_at}
use Rattle.engine_world.specs.Stages.{HasFound, IsLeafOf, IsOnLeaf, IsPast, IsSought}
use Rattle.engine_world.specs.Stands.{Engine, SessionStands, Stands, position_in}
use Rattle.engine_world.specs.Steps.{GoesOn, Made}
use Rattle.engine_world.specs.Worlds.{World, Decided, Placed}
use Rattle.engine_world.proofs.CursorChanges.{fewer-pinned, first-is-pinned, positions-stay}
use Rattle.engine_world.proofs.Homes.{IsTarget, in-its-frame, target-frame, target-is}
use Rattle.engine_world.proofs.Events.{all-same, beside-same}
use Rattle.engine_world.proofs.KeepingOut.{no-event}
use Rattle.engine_world.proofs.Moves.{alone-leads, leads-on}
use Rattle.engine_world.proofs.OwnStates.{call-at, none-ends, restates}

-- a call that has found its table goes to its next stage
placed-goes : (e : Engine) (w : World) (session : ℕ) (a : State) (at to : Stage) (call : KeyCall) (target : Target) (left fewer : ℕ)
    → doing_at at e.hub.dir.leaves session (at_stage at a) ≡ Placed (call_in call a) target.table left → doing_at to e.hub.dir.leaves session (at_stage to a) ≡ Placed (call_in call a) target.table fewer → fewer < left
    → GoesOn (w.again session) (doing_at at e.hub.dir.leaves session (at_stage at a)) w.machine session (record { told = reply.More; machine = w.machine; doing = doing_at to e.hub.dir.leaves session (at_stage to a) })
placed-goes e w session a at to call target left fewer old new lt =
    subst (λ d. GoesOn (w.again session) d w.machine session (record { told = reply.More; machine = w.machine; doing = doing_at to e.hub.dir.leaves session (at_stage to a) })) (sym old)
    (inl (fewer, lt, ap (λ d. record { told = reply.More; machine = w.machine; doing = d }) new))

-- the leaf that is sought stays that
pub sought-kept : (m : Machine) (leaves : List Leaf) (session : ℕ) (g h : Stage) (a : State) (call : KeyCall) (l : Leaf) → IsSought m leaves session (at_stage g a) call l → IsSought m leaves session (at_stage h a) call l
sought-kept m leaves session g h a (key_call.Step cursor way) l x = x
sought-kept m leaves session g h a call l x = x

-- ---- a load

word-there : (e : Engine) (w : World) (target : Target) → Stands e w → IsLeafOf e.hub.dir.leaves target → word_at e.states target.frame ≡ target.word
word-there e w target st leaf = ap (word_at e.states) (sym (target-frame e.pieces e.states leaf.0 target stands.laid leaf.2)) ∙ (stands.laid.word ∙ (ap (λ (f : Framed). filled f.generation) (same_Some stands.laid.framed is.framed (sym stands.laid.placed ∙ is.placed)) ∙ ap (λ (x : Target). x.word) is.is)) where
  is : IsTarget leaf.0 target
  is = target-is leaf.0 target leaf.2

  stands : LeafInFrame w.machine w.shelf w.records e.hub.dir.leaves e.pieces e.states leaf.0
  stands = in-its-frame w.machine w.shelf w.records e.hub.dir.leaves e.pieces e.states leaf.0 is.framed is.placed (st.leaves leaf.0 leaf.1)

module _ (e : Engine) (w : World) (session : ℕ) (call : KeyCall) (target : Target) (a : State) (st : Stands e w) (there : slice_get e.sessions session ≡ Some (at_stage (stage.Validate call target) a)) where
  abbrev old : State
  old = at_stage (stage.Validate call target) a

  abbrev seen : ℕ
  seen = word_at e.states target.frame

  abbrev told : Answer (List ℕ)
  told = answer.Refused (refusal.Again seen)

  abbrev Validates : Bool → Type 0
  Validates same = Leads (with_session e session (if same then at_stage (stage.Look call target) a else clears call target told a)) w session reply.More

  found : HasFound w.machine e.hub.dir.leaves e.pieces session call target old
  found = (st.sessions session old there).stage

  -- the leaf is there
  here : target_in found.0.1.0.0 ≡ Some target → Validates (seen == target.word)
  here is = subst Validates (sym (eq-eqb seen target.word (word-there e w target st leaf)))
      (alone-leads e w session old (at_stage (stage.Look call target) a) e.hazards reply.More st there
      (placed-goes e w session a (stage.Validate call target) (stage.Look call target) call target (5 + further_left call target e.hub.dir.leaves) (4 + further_left call target e.hub.dir.leaves)
      (ap (λ c. Placed c target.table (5 + further_left call target e.hub.dir.leaves)) (call-at call (stage.Validate call target) a)) (ap (λ c. Placed c target.table (4 + further_left call target e.hub.dir.leaves)) (call-at call (stage.Look call target) a)) (omega arith))
      (restates w.machine e.hub e.pieces session old (at_stage (stage.Look call target) a) refl refl refl
      ((found.0.0, leaf), sought-kept w.machine e.hub.dir.leaves session (stage.Validate call target) (stage.Look call target) a call found.0.1.0.0 found.0.1.1) (st.sessions session old there))) where
        leaf : IsLeafOf e.hub.dir.leaves target
        leaf = (found.0.1.0.0, found.0.1.0.1, is)

  -- it has gone out: the word is a later one
  gone : IsPast e.pieces target → Validates (seen == target.word)
  gone past = subst Validates (sym (ne_eqb seen target.word differs))
      (alone-leads e w session old (clears call target told a) e.hazards reply.More st there (inr (inr (inr (st.noticed session old there past, (seen, (1, omega arith, does))))))
      (restates w.machine e.hub e.pieces session old (clears call target told a) refl refl refl (found.0.0.0, found.0.0.1, inl found.0.0.2.0) (st.sessions session old there))) where
        differs : seen ≢ target.word
        differs same = let reaches = (st.frames target.frame).word in absurd (omega (arith, past, reaches, same))

        to : Event → Made
        to event = record { told = reply.More; machine = w.machine; doing = Decided told event 1 }

        does : to (event_with session call target a.key told) ≡ to Nothing
        does = ap to (no-event session call target a.key (refusal.Again seen) (λ is. absurd cc))

  validates : Leads (with_session e session (validated call target seen old)) w session reply.More
  validates = elim found.1 [
    | inl is ↦ here is
    | inr past ↦ gone past
  ]

load-at : (at : Stage) (e : Engine) (w : World) (session frame : ℕ) (a : State) → Stands e w → slice_get e.sessions session ≡ Some (at_stage at a) → next_at at (at_stage at a) ≡ next.Load frame
    → Leads (with_session e session (loaded_at at (word_at e.states frame) (at_stage at a))) w session reply.More
load-at (stage.Validate call target) e w session frame a st there is = let same : target.frame ≡ frame = (let loads : next.Load target.frame ≡ next.Load frame = is in cc) in
    subst (λ f. Leads (with_session e session (validated call target (word_at e.states f) (at_stage (stage.Validate call target) a))) w session reply.More) same (validates e w session call target a st there)
load-at _ e w session frame a st there is = absurd (cc)

pub loads-go : LoadGoes
loads-go e w session frame a st there is = load-at a.stage e w session frame a st there is

-- ---- a store that names a frame

publish-at : (at : Stage) (e : Engine) (w : World) (session value word : ℕ) (a : State) → Stands e w → slice_get e.sessions session ≡ Some (at_stage at a) → IsPublish at
    → let made = stored_at at (at_stage at a) in Leads (with_session (with_hazard e word value) session made.1) w session made.0
publish-at (stage.Publish call target) e w session value word a st there is =
    leads-on e w session (at_stage (stage.Publish call target) a) (at_stage (stage.Validate call target) a) e.hub e.pieces (slice_set e.hazards word value) w.machine reply.More st there
    (placed-goes e w session a (stage.Publish call target) (stage.Validate call target) call target (6 + further_left call target e.hub.dir.leaves) (5 + further_left call target e.hub.dir.leaves)
    (ap (λ c. Placed c target.table (6 + further_left call target e.hub.dir.leaves)) (call-at call (stage.Publish call target) a)) (ap (λ c. Placed c target.table (5 + further_left call target e.hub.dir.leaves)) (call-at call (stage.Validate call target) a)) (omega arith))
    (record {
      valid = st.valid;
      beside = all-same session w.machine w.machine e.hub e.pieces (beside-same session w.machine);
      fault = refl;
      stamps = refl;
      txns = st.txns;
      made = refl;
      leaves = st.leaves;
      mine = record { phase = mine.phase; seated = record { opened = mine.seated.opened; phase = mine.seated.phase }; cursors = mine.cursors; noted = mine.noted; stage = found };
      noticed = st.noticed session (at_stage (stage.Publish call target) a) there;
    }) where
      mine : SessionStands w.machine e.hub e.pieces session (at_stage (stage.Publish call target) a)
      mine = st.sessions session (at_stage (stage.Publish call target) a) there

      found : HasFound w.machine e.hub.dir.leaves e.pieces session call target (at_stage (stage.Validate call target) a)
      found = let x = mine.stage in
          ((x.0.0, (x.0.1.0, sought-kept w.machine e.hub.dir.leaves session (stage.Publish call target) (stage.Validate call target) a call x.0.1.0.0 x.0.1.1)), x.1)
publish-at _ e w session value word a st there is = absurd is

pub publishes-go : PublishesGo
publishes-go e w session word value at a st there is next = publish-at a.stage e w session value at a st there is

-- ---- stores that clear the word of a cursor

-- before the call's own word
pub clear-cursor : (e : Engine) (w : World) (session value word : ℕ) (call : KeyCall) (target : Target) (a : State) → Stands e w → slice_get e.sessions session ≡ Some (at_stage (stage.ClearCursor call target) a)
    → Leads (with_session (with_hazard e word value) session (missed call target a)) w session reply.More
clear-cursor e w session value word call target a st there =
    alone-leads e w session (at_stage (stage.ClearCursor call target) a) (missed call target a) (slice_set e.hazards word value) reply.More st there (inl (1, (omega arith), refl))
    (restates w.machine e.hub e.pieces session (at_stage (stage.ClearCursor call target) a) (missed call target a) refl refl (by-cursor (cursor_in call))
    (on-leaf.0.0, on-leaf.0.1, inl on-leaf.0.2.0) (st.sessions session (at_stage (stage.ClearCursor call target) a) there)) where
      on-leaf : IsOnLeaf w.machine e.hub.dir.leaves session call target
      on-leaf = (st.sessions session (at_stage (stage.ClearCursor call target) a) there).stage

      by-cursor : (o : Option ℕ) → map position_in (of_some a.cursors (λ cursor. changed_at a.cursors cursor unpinned) o) ≡ map position_in a.cursors
      by-cursor None = refl
      by-cursor (Some cursor) = positions-stay a.cursors cursor unpinned (λ k. refl)

-- after the end of the transaction
unpin : (e : Engine) (w : World) (session value word cursor : ℕ) (a : State) → Stands e w → slice_get e.sessions session ≡ Some (at_stage (stage.Unpin cursor) a)
    → let made = stored_at (stage.Unpin cursor) a in Leads (with_session (with_hazard e word value) session made.1) w session made.0
unpin e w session value word cursor a st there = by-next (first_pinned now.cursors) refl where
  old : State
  old = at_stage (stage.Unpin cursor) a

  now : State
  now = unpinned_in cursor a

  ended : (transaction_of w.machine session ≡ None) × (is_pinned_at a.cursors cursor ≡ true)
  ended = (st.sessions session old there).stage

  stay : map position_in now.cursors ≡ map position_in a.cursors
  stay = positions-stay a.cursors cursor unpinned (λ k. refl)

  by-next : (o : Option ℕ) → first_pinned now.cursors ≡ o
      → let made = of_some (ends now) (λ n. (reply.More, at_stage (stage.Unpin n) now)) o in Leads (with_session (with_hazard e word value) session made.1) w session made.0
  by-next None is = alone-leads e w session old (at_stage stage.Rest (without_answer now)) (slice_set e.hazards word value) (reply.Answer a.answer) st there (inr (inl refl))
      (restates w.machine e.hub e.pieces session old (at_stage stage.Rest (without_answer now)) refl refl stay (none-ends w.machine session ended.0) (st.sessions session old there))
  by-next (Some n) is = alone-leads e w session old (at_stage (stage.Unpin n) now) (slice_set e.hazards word value) reply.More st there
      (inl (unpins_left now, fewer-pinned a.cursors cursor ended.1, refl))
      (restates w.machine e.hub e.pieces session old (at_stage (stage.Unpin n) now) refl refl stay (ended.0, first-is-pinned now.cursors n is) (st.sessions session old there))

unpin-at : (at : Stage) (e : Engine) (w : World) (session value word : ℕ) (a : State) → Stands e w → slice_get e.sessions session ≡ Some (at_stage at a) → IsUnpin at
    → let made = stored_at at (at_stage at a) in Leads (with_session (with_hazard e word value) session made.1) w session made.0
unpin-at (stage.Unpin cursor) e w session value word a st there is = unpin e w session value word cursor (at_stage (stage.Unpin cursor) a) st there
unpin-at _ e w session value word a st there is = absurd is

pub unpins-go : UnpinsGo
unpins-go e w session word value at a st there is next = unpin-at a.stage e w session value at a st there is
