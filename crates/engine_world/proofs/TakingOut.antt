-- The undos of a rollback in one leaf.
use Rattle.std.proofs.Common.{◌≡◌, ◌<◌, ◌≤◌, ◌+◌, ℕ, zero, suc, refl, ap, sym, ◌∙◌, true, List, [], ◌∷◌, length, inl, inr, subst, arith}
use Rattle.std.specs.Prelude.{Some, None, false, slice_get, option_map, if◌then◌else◌}
use Rattle.std.proofs.lemmas.List.{get_or-set_same}
use Rattle.std.proofs.lemmas.Option.{slice_get_within}
use Rattle.stamp.specs.declared.View.{View}
use Rattle.wt_code.specs.declared.answers.Answer.TheVariants as answers
use Rattle.wt_code.specs.declared.refusals.Invalid.TheVariants.{NoTxn}
use Rattle.kv_model.specs.Calls.{Rollback}
use Rattle.kv_model.specs.Decisions.{Outcome, Done, RollbackCall, decision, judged, while_up, invalid, is_on_page, undoes_first, rollback_decision}
use Rattle.kv_model.specs.Holds.{Member}
use Rattle.kv_model.specs.History.{Write}
use Rattle.kv_model.specs.Machine.{Machine, Transaction, Phase as ModelPhase, Running as ModelRunning, Failed as ModelFailed, Leaving as ModelLeaving, Prepared as ModelPrepared, Resolving as ModelResolving, transaction_of, name_of, with_transaction, in_phase, left as left_in, Event, StartLeaving, after, of_some}
use Rattle.kv_model.specs.Valid.{Valid}
use Rattle.kv_model.proofs.EveryEvent.{valid-after}
use Rattle.kv_model.proofs.Seats.{seat-inside}
use Rattle.tree_dir.specs.declared.leaf.Leaf.{Leaf}
use Rattle.txn_table.specs.SessionData.{phase_in}
use Rattle.txn_table.specs.Stands.{TableStands}
use Rattle.txn_table.specs.Tabled.{phase_of}
use Rattle.txn_table.specs.declared.phase.Phase.{Phase}
use Rattle.txn_table.specs.declared.phase.Phase.TheVariants as phase
use Rattle.txn_table.proofs.Standing.{calls-stand}
use Rattle.update_chain.specs.EventLaws.{IsUndone, ChainsGoOn, UndosStand as UndosLaw}
use Rattle.call_steps.specs.declared.edit.Edit.TheVariants as edit
use Rattle.call_steps.specs.declared.frame.FramePiece.{FramePiece}
use Rattle.call_steps.specs.declared.next.Next.TheVariants as next
use Rattle.call_steps.specs.declared.reply.Reply.TheVariants as reply
use Rattle.call_steps.specs.declared.stage.Stage.{Stage}
use Rattle.call_steps.specs.declared.stage.Stage.TheVariants as stage
use Rattle.call_steps.specs.FrameEvents.{FrameMadeAt, edits, starts_at}
use Rattle.call_steps.specs.HubEvents.{known_phase}
use Rattle.call_steps.specs.Stages.{undoes}
use Rattle.call_steps.specs.State.{State, at_stage, leaving_in}
use Rattle.call_steps.specs.Words.{next_at}
use Rattle.call_steps.specs.Written.{frame_at, leaf_start}
use Rattle.engine_world.specs.Worlds.{World, Doing, Asked, Ending}
use Rattle.engine_world.specs.Doings.{doing_in, doing_at, undoing, done_left}
use Rattle.engine_world.specs.Laws.{Leads, IsViewOf, IsUndo, UndosGo, with_session, with_piece}
use Rattle.engine_world.specs.Leaves.{AreNoted, EditedDownTo}
use Rattle.engine_world.specs.Stages.{StageStands, UndoesStand, DoneStands, NoneStands, IsEdited, IsLeft}
use Rattle.engine_world.specs.Stands.{Engine, Stands, SessionStands}
use Rattle.engine_world.specs.Steps.{GoesOn, Made, SettledBy, EndsIn}
use Rattle.engine_world.proofs.Beside.{MachineBeside}
use Rattle.engine_world.proofs.Events.{event-beside}
use Rattle.engine_world.proofs.Homes.{LeavesStand}
use Rattle.engine_world.proofs.HubMoves.{leaves-go-on}
use Rattle.engine_world.proofs.Moves.{leads}
use Rattle.engine_world.proofs.OnePiece.{brings-others}
use Rattle.engine_world.proofs.EditedChains.{undos-edit}
use Rattle.engine_world.proofs.EditedLeaves.{LeafEdited, leaf-edited, piece_edited, start-within, start-below}
use Rattle.engine_world.proofs.EditMoves.{known-phase, own-named, noted-of, noted-on, has-written, session-on, ending-on, at-frame, pieces_edited, edit-leaf, edit-moves}
use Rattle.engine_world.proofs.InPlace.{StageInPlace}

-- ---- what the session does then

-- a state of which the transaction is ending
abbrev pub IsOver : Phase → Type 0
IsOver phase.Leaving = Unit {0}
IsOver phase.Resolving = Unit {0}
IsOver _ = ⊥

undoing-over : (ph : Phase) (left : ℕ) (a : State) → IsOver ph → undoing ph left a ≡ Ending a.answer (left + done_left a)
undoing-over phase.Leaving left a over = refl
undoing-over phase.Resolving left a over = refl
undoing-over phase.Idle left a over = absurd over
undoing-over phase.Running left a over = absurd over
undoing-over phase.Failed left a over = absurd over
undoing-over (phase.Prepared stamp) left a over = absurd over

undoes-doing : (leaves : List Leaf) (n session : ℕ) (a : State) → IsOver a.phase → doing_in leaves session (at_stage (undoes n) a) ≡ Ending a.answer (n + done_left a)
undoes-doing leaves zero session a over = let none : done_left a ≡ zero + done_left a = omega arith in ap (Ending a.answer) none
undoes-doing leaves (suc n) session a over = undoing-over a.phase (suc n) (at_stage (stage.Undo (suc n)) a) over

-- ---- what stands then

-- of an ending transaction whose updates were taken out down to so many
abbrev pub Undone : ModelPhase → Machine → Transaction → Type 0
Undone ModelLeaving m t = Unit {0}
Undone ModelResolving m t = NoneStands m t
Undone _ m t = ⊥

undo-in : (ph : ModelPhase) (m : Machine) (pieces : List FramePiece) (t : Transaction) (a : State) (left : ℕ) → Undone ph m t → IsEdited edit.Undo m pieces t a left → UndoesStand ph m pieces t a left
undo-in ModelLeaving m pieces t a left undone done = done
undo-in ModelResolving m pieces t a left undone done = (undone, done)
undo-in ModelRunning m pieces t a left undone done = absurd undone
undo-in ModelFailed m pieces t a left undone done = absurd undone
undo-in (ModelPrepared stamp) m pieces t a left undone done = absurd undone

done-in : (ph : ModelPhase) (m : Machine) (pieces : List FramePiece) (t : Transaction) (a : State) → Undone ph m t → IsEdited edit.Undo m pieces t a 0 → DoneStands ph m pieces t a
done-in ModelLeaving m pieces t a undone done = done
done-in ModelResolving m pieces t a undone done = inl done
done-in ModelRunning m pieces t a undone done = absurd undone
done-in ModelFailed m pieces t a undone done = absurd undone
done-in (ModelPrepared stamp) m pieces t a undone done = absurd undone

undoes-stage : (n : ℕ) (m : Machine) (leaves : List Leaf) (pieces : List FramePiece) (session : ℕ) (a : State) (t : Transaction) → n ≤ length a.written → transaction_of m session ≡ Some t → Undone t.phase m t
    → IsEdited edit.Undo m pieces t a n → StageInPlace (undoes n) m leaves pieces session (at_stage (undoes n) a)
undoes-stage zero m leaves pieces session a t within there undone done = (t, there, done-in t.phase m pieces t (at_stage stage.Done a) undone done)
undoes-stage (suc n) m leaves pieces session a t within there undone done = ((omega arith, within), (t, there, undo-in t.phase m pieces t (at_stage (stage.Undo (suc n)) a) (suc n) undone done))

is-undone : (ph : ModelPhase) (m : Machine) (t : Transaction) (w : Write) → t.phase ≡ ph → Undone ph m t → Member w t.writes → IsUndone m t w.table w.key
is-undone ModelLeaving m t w is undone at = inl is
is-undone ModelResolving m t w is undone at = inr (is, undone w at)
is-undone ModelRunning m t w is undone at = absurd undone
is-undone ModelFailed m t w is undone at = absurd undone
is-undone (ModelPrepared stamp) m t w is undone at = absurd undone

-- ---- an undo of a transaction that is ending

-- the session at a leaf from which its updates are to be taken
record UndoesAt (e : Engine) (w : World) (session : ℕ) (a : State) (p : FramePiece) (left : ℕ) (t : Transaction) : Type 0 where
  pub st : Stands e w
  pub at : slice_get e.sessions session ≡ Some a
  pub same : a.stage ≡ stage.Undo left
  pub piece : slice_get e.pieces (frame_at a.written left) ≡ Some p
  pub some : IsLeft left a
  pub there : transaction_of w.machine session ≡ Some t

abbrev pub frame_undone : Machine → State → FramePiece → ℕ → Transaction → FramePiece
frame_undone m a p left t = piece_edited edit.Undo (name_of m t) a.written left p

abbrev pub state_undone : State → ℕ → Phase → State
state_undone a left ph = at_stage (undoes (starts_at a left)) (leaving_in ph a)

over-undone : UndosLaw → (e : Engine) (w : World) (session : ℕ) (a : State) (p : FramePiece) (left : ℕ) (t : Transaction) → UndoesAt e w session a p left t → IsOver a.phase → Undone t.phase w.machine t
    → IsEdited edit.Undo w.machine e.pieces t a left
    → Leads (with_session (with_piece e (frame_at a.written left) (frame_undone w.machine a p left t)) session (at_stage (undoes (starts_at a left)) a)) w session reply.More
over-undone law e w session a p left t o over undone done = leads e w session a (at_stage (undoes n) a) e.hub later e.hazards w.machine reply.More o.st o.at
    (subst (λ d. GoesOn (w.again session) d w.machine session (record { told = reply.More; machine = w.machine; doing = doing_in e.hub.dir.leaves session (at_stage (undoes n) a) }))
    (sym (ap (λ x. doing_at x e.hub.dir.leaves session a) o.same ∙ undoing-over a.phase left a over))
    (ending-on a.answer (left + done_left a) (n + done_left a) w.machine session (doing_in e.hub.dir.leaves session (at_stage (undoes n) a)) (let low = start-below a.written left o.some.0 in omega (arith, low)) (undoes-doing e.hub.dir.leaves n session a over)))
    (edit-moves e w session (at_stage (undoes n) a) t edit.Undo later a.written n o.st o.there l
    (session-on w.machine e.hub e.pieces later session a (undoes n) l.slots (o.st.sessions session a o.at)
    (undoes-stage n w.machine e.hub.dir.leaves later session a t (let low = start-within a.written (frame_at a.written left) left in let most = o.some.1 in omega (arith, low, most)) o.there undone l.done))) where
      n : ℕ
      n = leaf_start a.written (frame_at a.written left) left

      later : List FramePiece
      later = pieces_edited edit.Undo (name_of w.machine t) e.pieces a.written left p

      l : LeafEdited edit.Undo w.machine t w.shelf w.records e.hub.dir e.pieces (pieces_edited edit.Undo (name_of w.machine t) e.pieces a.written left p) e.states a.written (leaf_start a.written (frame_at a.written left) left)
      l = edit-leaf e w session a t edit.Undo left p o.st o.at o.there o.some (undos-edit law w.machine session t o.st.valid o.there (λ x member. is-undone t.phase w.machine t x refl undone member)) done o.piece

-- ---- the first undo of one that is not

-- neither prepared nor ending
abbrev pub IsEarly : ModelPhase → Type 0
IsEarly ModelRunning = Unit {0}
IsEarly ModelFailed = Unit {0}
IsEarly _ = ⊥

abbrev pub gone : Machine → ℕ → Transaction → Machine
gone m session t = with_transaction m session (Some (in_phase ModelLeaving t))

left-early : (ph : ModelPhase) (m : Machine) (session : ℕ) (t : Transaction) → IsEarly ph → left_in ph m session t ≡ gone m session t
left-early ModelRunning m session t early = refl
left-early ModelFailed m session t early = refl
left-early ModelLeaving m session t early = absurd early
left-early ModelResolving m session t early = absurd early
left-early (ModelPrepared stamp) m session t early = absurd early

gone-is : (m : Machine) (session : ℕ) (t : Transaction) → transaction_of m session ≡ Some t → IsEarly t.phase → after m (StartLeaving session) ≡ gone m session t
gone-is m session t there early = ap (of_some m (λ (x : Transaction). left_in x.phase m session x)) there ∙ left-early t.phase m session t early

undoes-early : (ph : ModelPhase) (x : Write) (more : List Write) → IsEarly ph → undoes_first ph (x ∷ more) ≡ true
undoes-early ModelRunning x more early = refl
undoes-early ModelFailed x more early = refl
undoes-early ModelLeaving x more early = absurd early
undoes-early ModelResolving x more early = absurd early
undoes-early (ModelPrepared stamp) x more early = absurd early

rollback-early : (ph : ModelPhase) (session : ℕ) → IsEarly ph → rollback_decision ph session ≡ (Done, StartLeaving session)
rollback-early ModelRunning session early = refl
rollback-early ModelFailed session early = refl
rollback-early ModelLeaving session early = absurd early
rollback-early ModelResolving session early = absurd early
rollback-early (ModelPrepared stamp) session early = absurd early

-- it is decided on the page, also where the machine is down
decided-early : (m : Machine) (session : ℕ) (t : Transaction) (x : Write) (more : List Write) → transaction_of m session ≡ Some t → IsEarly t.phase → t.writes ≡ x ∷ more → decision m session RollbackCall ≡ (Done, StartLeaving session)
decided-early m session t x more there early some =
    ap (λ b. if b then judged m session RollbackCall else while_up m (judged m session RollbackCall)) page
    ∙ (ap (of_some (invalid NoTxn) (λ (z : Transaction). rollback_decision z.phase session)) there ∙ rollback-early t.phase session early) where
      page : is_on_page m session RollbackCall ≡ true
      page = ap (of_some false (λ (z : Transaction). undoes_first z.phase z.writes)) there ∙ (ap (undoes_first t.phase) some ∙ undoes-early t.phase x more early)

settles-early : (m : Machine) (session left fewer : ℕ) (t : Transaction) (x : Write) (more : List Write) (d : Doing) → transaction_of m session ≡ Some t → transaction_of (gone m session t) session ≡ Some (in_phase ModelLeaving t) → IsEarly t.phase
    → t.writes ≡ x ∷ more → fewer < left → d ≡ Ending answers.Done fewer → GoesOn false (Asked Rollback left) m session (record { told = reply.More; machine = gone m session t; doing = d })
settles-early m session left fewer t x more d there later early some less is = inr (subst (λ (y : Outcome × Event). SettledBy y.0 y.1 m session left made) (sym (decided-early m session t x more there early some)) (
  answers.Done,
  refl,
  subst (λ (z : Machine). EndsIn (transaction_of z session) answers.Done z session left made) (sym (gone-is m session t there early))
      (subst (λ o. EndsIn o answers.Done (gone m session t) session left made) (sym later) (inl (fewer, less, ap (λ (y : Doing). record { told = reply.More; machine = gone m session t; doing = y }) is))),
)) where
  made : Made
  made = record { told = reply.More; machine = gone m session t; doing = d }

-- the state is ending later
abbrev pub leaving_state : State → State
leaving_state a = record a { phase = phase.Leaving; answer = answers.Done }

-- what the rollback's first event leaves of the machine
record Leaves (e : Engine) (w : World) (session : ℕ) (t : Transaction) : Type 0 where
  pub there : transaction_of (gone w.machine session t) session ≡ Some (in_phase ModelLeaving t)
  pub valid : Valid (gone w.machine session t)
  pub beside : MachineBeside session w.machine (gone w.machine session t)
  pub txns : TableStands e.hub.txns (gone w.machine session t)
  pub leaves : LeavesStand (gone w.machine session t) w.shelf w.records e.hub.dir.leaves e.pieces e.states

leaves-early : ChainsGoOn → (e : Engine) (w : World) (session : ℕ) (t : Transaction) → Stands e w → transaction_of w.machine session ≡ Some t → IsEarly t.phase → phase_of e.hub.txns session ≡ phase.Running → Leaves e w session t
leaves-early chains-go-on e w session t st there early knows = record {
  there = get_or-set_same w.machine.sessions session (Some (in_phase ModelLeaving t)) None (seat-inside w.machine.sessions session t there);
  valid = subst Valid is (valid-after w.machine (StartLeaving session) st.valid tt);
  beside = subst (MachineBeside session w.machine) is (event-beside session w.machine (StartLeaving session) st.valid tt refl);
  txns = subst (TableStands e.hub.txns) is ((calls-stand e.hub.txns w.machine st.valid st.txns).lags session (inl knows));
  leaves = subst (λ (z : Machine). LeavesStand z w.shelf w.records e.hub.dir.leaves e.pieces e.states) is (leaves-go-on chains-go-on w.machine (StartLeaving session) w.shelf w.records e.hub.dir.leaves e.pieces e.states st.valid tt (λ table key. tt) st.leaves);
} where
  is : after w.machine (StartLeaving session) ≡ gone w.machine session t
  is = gone-is w.machine session t there early

first-undone : UndosLaw → ChainsGoOn → (e : Engine) (w : World) (session : ℕ) (a : State) (p : FramePiece) (left : ℕ) (t : Transaction) → UndoesAt e w session a p left t → IsEarly t.phase → known_phase a.phase ≡ phase.Running
    → left ≡ length a.written → doing_in e.hub.dir.leaves session a ≡ Asked Rollback (left + done_left a)
    → Leads (with_session (with_piece e (frame_at a.written left) (frame_undone w.machine a p left t)) session (at_stage (undoes (starts_at a left)) (leaving_state a))) w session reply.More
first-undone law chains-go-on e w session a p left t o early knows all doing = leads e w session a (at_stage (undoes n) (leaving_state a)) e.hub later e.hazards m reply.More o.st o.at
    (subst (λ d. GoesOn (w.again session) d w.machine session (record { told = reply.More; machine = m; doing = doing_in e.hub.dir.leaves session (at_stage (undoes n) (leaving_state a)) })) (sym doing)
    (settles-early w.machine session (left + done_left a) (n + done_left a) t some.0 some.1 (doing_in e.hub.dir.leaves session (at_stage (undoes n) (leaving_state a))) o.there v.there early some.2 (let low = start-below a.written left o.some.0 in omega (arith, low))
    (undoes-doing e.hub.dir.leaves n session (leaving_state a) tt)))
    (record {
      valid = v.valid;
      beside = record {
        machine = v.beside;
        tables = refl;
        dir = refl;
        seats = refl;
        phases = λ r other. refl;
        slots = l.slots;
        updates = brings-others w.machine session t e.pieces later o.st.valid o.there l.brings;
      };
      fault = refl;
      stamps = refl;
      txns = v.txns;
      made = refl;
      leaves = l.leaves;
      mine = record {
        phase = sym (ap (option_map (λ (x : Transaction). x.phase)) v.there);
        seated = record { opened = s.seated.opened; phase = s.seated.phase ∙ knows };
        cursors = s.cursors;
        noted = subst (λ q. AreNoted e.hub.dir.leaves later (of_some [] (λ (x : Transaction). x.writes) q) a.written) (sym v.there) (noted-on e.hub.dir.leaves e.pieces later t.writes a.written l.slots noted);
        stage = undoes-stage n m e.hub.dir.leaves later session (leaving_state a) (in_phase ModelLeaving t) (let low = start-within a.written (frame_at a.written left) left in let most = o.some.1 in omega (arith, low, most)) v.there tt l.done;
      };
    }) where
      s : SessionStands w.machine e.hub e.pieces session a
      s = o.st.sessions session a o.at

      m : Machine
      m = gone w.machine session t

      n : ℕ
      n = leaf_start a.written (frame_at a.written left) left

      noted : AreNoted e.hub.dir.leaves e.pieces t.writes a.written
      noted = noted-of w.machine e.hub e.pieces session a t (o.st.sessions session a o.at) o.there

      some : (x : Write) × (more : List Write) × (t.writes ≡ x ∷ more)
      some = has-written e.hub.dir.leaves e.pieces t.writes a.written left (noted-of w.machine e.hub e.pieces session a t (o.st.sessions session a o.at) o.there) o.some.0 o.some.1

      v : Leaves e w session t
      v = leaves-early chains-go-on e w session t o.st o.there early (s.seated.phase ∙ knows)

      later : List FramePiece
      later = pieces_edited edit.Undo (name_of w.machine t) e.pieces a.written left p

      none : EditedDownTo edit.Undo (name_of w.machine t) e.pieces a.written left
      none i k low at = let inside = slice_get_within a.written i k at in absurd (omega (arith, low, inside, all))

      l : LeafEdited edit.Undo (gone w.machine session t) (in_phase ModelLeaving t) w.shelf w.records e.hub.dir e.pieces (pieces_edited edit.Undo (name_of w.machine t) e.pieces a.written left p) e.states a.written (leaf_start a.written (frame_at a.written left) left)
      l = leaf-edited edit.Undo (gone w.machine session t) (in_phase ModelLeaving t) w.shelf w.records e.hub.dir e.pieces e.states a.written left p (record {
        edits = undos-edit law (gone w.machine session t) session (in_phase ModelLeaving t) v.valid v.there (λ x member. inl refl);
        dir = o.st.dir;
        leaves = v.leaves;
        noted = noted;
        some = o.some.0;
        within = o.some.1;
        old = none;
      }) o.piece

-- ---- by the phase

undone-in : UndosLaw → ChainsGoOn → (e : Engine) (w : World) (session : ℕ) (a : State) (p : FramePiece) (left : ℕ) (t : Transaction) → UndoesAt e w session a p left t → UndoesStand t.phase w.machine e.pieces t a left
    → (ph : Phase) → a.phase ≡ ph → phase_in ph ≡ Some t.phase
    → Leads (with_session (with_piece e (frame_at a.written left) (frame_undone w.machine a p left t)) session (state_undone a left ph)) w session reply.More
undone-in law goes e w session a p left t o now phase.Running is known = let running : ModelRunning ≡ t.phase = cc in
    first-undone law goes e w session a p left t o (subst IsEarly running tt) (ap known_phase is) (subst (λ q. UndoesStand q w.machine e.pieces t a left) (sym running) now)
    (ap (λ x. doing_at x e.hub.dir.leaves session a) o.same ∙ ap (λ x. undoing x left a) is)
undone-in law goes e w session a p left t o now phase.Failed is known = let failed : ModelFailed ≡ t.phase = cc in
    first-undone law goes e w session a p left t o (subst IsEarly failed tt) (ap known_phase is) (subst (λ q. UndoesStand q w.machine e.pieces t a left) (sym failed) now)
    (ap (λ x. doing_at x e.hub.dir.leaves session a) o.same ∙ ap (λ x. undoing x left a) is)
undone-in law goes e w session a p left t o now phase.Leaving is known = let leaving : ModelLeaving ≡ t.phase = cc in
    over-undone law e w session a p left t o (subst IsOver (sym is) tt) (subst (λ q. Undone q w.machine t) leaving tt) (subst (λ q. UndoesStand q w.machine e.pieces t a left) (sym leaving) now)
undone-in law goes e w session a p left t o now phase.Resolving is known = let resolving : ModelResolving ≡ t.phase = cc in
    let both = subst (λ q. UndoesStand q w.machine e.pieces t a left) (sym resolving) now in
    over-undone law e w session a p left t o (subst IsOver (sym is) tt) (subst (λ q. Undone q w.machine t) resolving both.0) both.1
undone-in law goes e w session a p left t o now phase.Idle is known = absurd (cc)
undone-in law goes e w session a p left t o now (phase.Prepared stamp) is known = let prepared : t.phase ≡ ModelPrepared stamp = cc in
    absurd (subst (λ q. UndoesStand q w.machine e.pieces t a left) prepared now)

taken-out : UndosLaw → ChainsGoOn → (e : Engine) (w : World) (session frame : ℕ) (a a' : State) (p p' : FramePiece) (view : View) (left : ℕ) → Stands e w → slice_get e.sessions session ≡ Some a → a.stage ≡ stage.Undo left
    → next.Frame (frame_at a.written left) ≡ next.Frame frame → slice_get e.pieces frame ≡ Some p → IsViewOf e.hub session view → (p' ≡ edits view edit.Undo a left p) × (a' ≡ at_stage (undoes (starts_at a left)) (leaving_in a.phase a))
    → Leads (with_session (with_piece e frame p') session a') w session reply.More
taken-out law goes e w session frame a a' p p' view left st at same here piece seen made = by-stage (subst (λ s. StageStands s w.machine e.hub.dir.leaves e.pieces session a) same (st.sessions session a at).stage) where
  frames : frame_at a.written left ≡ frame
  frames = cc

  by-stage : StageStands (stage.Undo left) w.machine e.hub.dir.leaves e.pieces session a → Leads (with_session (with_piece e frame p') session a') w session reply.More
  by-stage now = at-frame e w session frame (frame_at a.written left) p' (frame_undone w.machine a p left now.1.0) a' (state_undone a left a.phase) frames
      (made.0 ∙ ap (λ x. piece_edited edit.Undo x a.written left p) (own-named e.hub session view w.machine now.1.0 seen st.txns now.1.1)) made.1
      (undone-in law goes e w session a p left now.1.0 (record {
        st = st;
        at = at;
        same = same;
        piece = subst (λ f. slice_get e.pieces f ≡ Some p) (sym frames) piece;
        some = now.0;
        there = now.1.1;
      }) now.1.2 a.phase refl (known-phase w.machine e.hub e.pieces session a now.1.0 (st.sessions session a at) now.1.1))

pub undos-go : UndosLaw → ChainsGoOn → UndosGo
undos-go law goes e w session frame a a' p p' view st at is here piece seen made = by-stage a.stage refl is here made where
  by-stage : (s : Stage) → a.stage ≡ s → IsUndo s → next_at s a ≡ next.Frame frame → FrameMadeAt s view p a p' a' → Leads (with_session (with_piece e frame p') session a') w session reply.More
  by-stage (stage.Undo left) same is here made = taken-out law goes e w session frame a a' p p' view left st at same here piece seen made
  by-stage _ same is here made = absurd is
