-- The stamps of a commit in one leaf.
use Rattle.std.proofs.Common.{◌≡◌, ◌≤◌, ◌+◌, ℕ, zero, suc, refl, ap, sym, ◌∙◌, List, length, inr, subst, arith}
use Rattle.std.specs.Prelude.{Some, slice_get}
use Rattle.stamp.specs.declared.View.{View}
use Rattle.kv_model.specs.Machine.{Machine, Transaction, Running as ModelRunning, Failed as ModelFailed, Leaving as ModelLeaving, Prepared as ModelPrepared, Resolving as ModelResolving, transaction_of, name_of}
use Rattle.kv_model.specs.Refusals.{stamp_of, or_stamp}
use Rattle.tree_dir.specs.declared.leaf.Leaf.{Leaf}
use Rattle.txn_table.specs.SessionData.{phase_in}
use Rattle.txn_table.specs.declared.phase.Phase.{Phase}
use Rattle.txn_table.specs.declared.phase.Phase.TheVariants as phase
use Rattle.update_chain.specs.EventLaws.{MarksStand as MarksLaw, StampsStand as StampsLaw}
use Rattle.update_chain.proofs.Reading.{running-alive}
use Rattle.call_steps.specs.declared.edit.Edit.TheVariants as edit
use Rattle.call_steps.specs.declared.frame.FramePiece.{FramePiece}
use Rattle.call_steps.specs.declared.next.Next.TheVariants as next
use Rattle.call_steps.specs.declared.reply.Reply.TheVariants as reply
use Rattle.call_steps.specs.declared.stage.CommitStamps.{CommitStamps}
use Rattle.call_steps.specs.declared.stage.Stage.{Stage}
use Rattle.call_steps.specs.declared.stage.Stage.TheVariants as stage
use Rattle.call_steps.specs.FrameEvents.{FrameMadeAt, edits, starts_at}
use Rattle.call_steps.specs.Leaves.{durable_of}
use Rattle.call_steps.specs.Stages.{stamps_then, after_stamps}
use Rattle.call_steps.specs.State.{State, at_stage}
use Rattle.call_steps.specs.Words.{next_at}
use Rattle.call_steps.specs.Written.{frame_at, leaf_start}
use Rattle.engine_world.specs.Worlds.{World, Asked, Ending}
use Rattle.engine_world.specs.Doings.{doing_in, doing_at, commit_in, stamping, decide_left, done_left}
use Rattle.engine_world.specs.Laws.{Leads, IsViewOf, IsStamp, StampsGo, with_session, with_piece}
use Rattle.engine_world.specs.Stages.{StageStands, StampsStand, DecidesStand, DoneStands, AreCommitted, IsEdited, IsOrdered, IsLeft, stamps_in}
use Rattle.engine_world.specs.Stands.{Engine, Stands, SessionStands}
use Rattle.engine_world.specs.Steps.{GoesOn}
use Rattle.engine_world.proofs.Moves.{leads}
use Rattle.engine_world.proofs.EditedChains.{stamps-edit, resolved-edit}
use Rattle.engine_world.proofs.EditedLeaves.{LeafEdited, piece_edited, start-within, start-below}
use Rattle.engine_world.proofs.EditMoves.{the-one, known-phase, alive-only, own-named, noted-of, ordered-on, session-on, asked-on, ending-on, at-frame, pieces_edited, edit-leaf, edit-moves}
use Rattle.engine_world.proofs.InPlace.{StageInPlace}

-- ---- what the session does then

pub decide-doing : (leaves : List Leaf) (stamps : CommitStamps) (n session : ℕ) (a : State) → a.phase ≡ phase.Running → doing_in leaves session (at_stage (stamps_then stamps n (stage.Decide stamps)) a) ≡ Asked (commit_in stamps) (n + decide_left a)
decide-doing leaves stamps zero session a running = let none : decide_left a ≡ zero + decide_left a = omega arith in ap (Asked (commit_in stamps)) none
decide-doing leaves stamps (suc n) session a running = ap (λ p. stamping p stamps (suc n) (at_stage (stage.Stamp stamps (suc n)) a)) running

done-doing : (leaves : List Leaf) (stamps : CommitStamps) (n session : ℕ) (a : State) → a.phase ≡ phase.Resolving → doing_in leaves session (at_stage (stamps_then stamps n stage.Done) a) ≡ Ending a.answer (n + done_left a)
done-doing leaves stamps zero session a resolving = let none : done_left a ≡ zero + done_left a = omega arith in ap (Ending a.answer) none
done-doing leaves stamps (suc n) session a resolving = ap (λ p. stamping p stamps (suc n) (at_stage (stage.Stamp stamps (suc n)) a)) resolving

-- ---- what stands then

pub decide-stage : (stamps : CommitStamps) (n : ℕ) (m : Machine) (leaves : List Leaf) (pieces : List FramePiece) (session : ℕ) (a : State) (t : Transaction) → n ≤ length a.written → transaction_of m session ≡ Some t → t.phase ≡ ModelRunning
    → IsOrdered stamps m pieces t a 0 → IsEdited (stamps_in ModelRunning stamps) m pieces t a n → StageInPlace (stamps_then stamps n (stage.Decide stamps)) m leaves pieces session (at_stage (stamps_then stamps n (stage.Decide stamps)) a)
decide-stage stamps zero m leaves pieces session a t within there running ordered done = (
  alive-only m session t there (running-alive t running),
  λ x at. subst (λ (z : Transaction). DecidesStand z.phase stamps m pieces z (at_stage (stage.Decide stamps) a)) (the-one m session t x there at)
      (subst (λ p. DecidesStand p stamps m pieces t (at_stage (stage.Decide stamps) a)) (sym running) (ordered, done)),
)
decide-stage stamps (suc n) m leaves pieces session a t within there running ordered done =
    ((omega arith, within), (t, there, subst (λ p. StampsStand p stamps m pieces t (at_stage (stage.Stamp stamps (suc n)) a) (suc n)) (sym running) (ordered, done)))

done-stage : (stamps : CommitStamps) (n : ℕ) (m : Machine) (leaves : List Leaf) (pieces : List FramePiece) (session : ℕ) (a : State) (t : Transaction) → n ≤ length a.written → transaction_of m session ≡ Some t → t.phase ≡ ModelResolving
    → AreCommitted stamps m t → IsEdited (stamps_in ModelResolving stamps) m pieces t a n → StageInPlace (stamps_then stamps n stage.Done) m leaves pieces session (at_stage (stamps_then stamps n stage.Done) a)
done-stage stamps zero m leaves pieces session a t within there resolving committed done =
    (t, there, subst (λ p. DoneStands p m pieces t (at_stage stage.Done a)) (sym resolving) (inr (stamp_of stamps.commit, or_stamp (stamp_of stamps.durable) (stamp_of stamps.commit), done)))
done-stage stamps (suc n) m leaves pieces session a t within there resolving committed done =
    ((omega arith, within), (t, there, subst (λ p. StampsStand p stamps m pieces t (at_stage (stage.Stamp stamps (suc n)) a) (suc n)) (sym resolving) (committed, done)))

-- ---- the event

-- the session at a leaf that is to be stamped
record StampsAt (e : Engine) (w : World) (session : ℕ) (a : State) (p : FramePiece) (view : View) (stamps : CommitStamps) (left : ℕ) (t : Transaction) : Type 0 where
  pub st : Stands e w
  pub at : slice_get e.sessions session ≡ Some a
  pub same : a.stage ≡ stage.Stamp stamps left
  pub piece : slice_get e.pieces (frame_at a.written left) ≡ Some p
  pub seen : IsViewOf e.hub session view
  pub some : IsLeft left a
  pub there : transaction_of w.machine session ≡ Some t

-- the frame and the session after it
abbrev pub frame_stamped : Machine → State → FramePiece → CommitStamps → ℕ → Transaction → Phase → FramePiece
frame_stamped m a p stamps left t ph = piece_edited (edit.Stamp (stamp_of stamps.commit) (durable_of ph stamps)) (name_of m t) a.written left p

abbrev pub state_stamped : State → CommitStamps → ℕ → Phase → State
state_stamped a stamps left ph = at_stage (stamps_then stamps (starts_at a left) (after_stamps ph stamps)) a

run-stamped : MarksLaw → (e : Engine) (w : World) (session : ℕ) (a : State) (p : FramePiece) (view : View) (stamps : CommitStamps) (left : ℕ) (t : Transaction) → StampsAt e w session a p view stamps left t → a.phase ≡ phase.Running → t.phase ≡ ModelRunning
    → StampsStand ModelRunning stamps w.machine e.pieces t a left
    → Leads (with_session (with_piece e (frame_at a.written left) (frame_stamped w.machine a p stamps left t phase.Running)) session (state_stamped a stamps left phase.Running)) w session reply.More
run-stamped law e w session a p view stamps left t o in-phase running now = leads e w session a (at_stage (stamps_then stamps n (stage.Decide stamps)) a) e.hub later e.hazards w.machine reply.More o.st o.at
    (subst (λ d. GoesOn (w.again session) d w.machine session (record { told = reply.More; machine = w.machine; doing = doing_in e.hub.dir.leaves session (at_stage (stamps_then stamps n (stage.Decide stamps)) a) }))
    (sym (ap (λ x. doing_at x e.hub.dir.leaves session a) o.same ∙ ap (λ x. stamping x stamps left a) in-phase))
    (asked-on (commit_in stamps) (left + decide_left a) (n + decide_left a) w.machine session (doing_in e.hub.dir.leaves session (at_stage (stamps_then stamps n (stage.Decide stamps)) a))
    (let low = start-below a.written left o.some.0 in omega (arith, low)) (decide-doing e.hub.dir.leaves stamps n session a in-phase)))
    (edit-moves e w session (at_stage (stamps_then stamps n (stage.Decide stamps)) a) t (stamps_in ModelRunning stamps) later a.written n o.st o.there l
    (session-on w.machine e.hub e.pieces later session a (stamps_then stamps n (stage.Decide stamps)) l.slots s
    (decide-stage stamps n w.machine e.hub.dir.leaves later session a t (let low = start-within a.written (frame_at a.written left) left in let most = o.some.1 in omega (arith, low, most)) o.there running
    (ordered-on w.machine e.hub.dir.leaves e.pieces later t.writes a.written stamps.prev 0 l.slots (noted-of w.machine e.hub e.pieces session a t s o.there) now.0) l.done))) where
      s : SessionStands w.machine e.hub e.pieces session a
      s = o.st.sessions session a o.at

      n : ℕ
      n = leaf_start a.written (frame_at a.written left) left

      later : List FramePiece
      later = pieces_edited (stamps_in ModelRunning stamps) (name_of w.machine t) e.pieces a.written left p

      l : LeafEdited (stamps_in ModelRunning stamps) w.machine t w.shelf w.records e.hub.dir e.pieces (pieces_edited (stamps_in ModelRunning stamps) (name_of w.machine t) e.pieces a.written left p) e.states a.written (leaf_start a.written (frame_at a.written left) left)
      l = edit-leaf e w session a t (stamps_in ModelRunning stamps) left p o.st o.at o.there o.some (stamps-edit law w.machine session t (stamp_of stamps.commit) (stamp_of stamps.commit) o.st.valid o.there running) now.1 o.piece

resolve-stamped : StampsLaw → (e : Engine) (w : World) (session : ℕ) (a : State) (p : FramePiece) (view : View) (stamps : CommitStamps) (left : ℕ) (t : Transaction) → StampsAt e w session a p view stamps left t → a.phase ≡ phase.Resolving
    → t.phase ≡ ModelResolving → StampsStand ModelResolving stamps w.machine e.pieces t a left
    → Leads (with_session (with_piece e (frame_at a.written left) (frame_stamped w.machine a p stamps left t phase.Resolving)) session (state_stamped a stamps left phase.Resolving)) w session reply.More
resolve-stamped law e w session a p view stamps left t o in-phase resolving now = leads e w session a (at_stage (stamps_then stamps n stage.Done) a) e.hub later e.hazards w.machine reply.More o.st o.at
    (subst (λ d. GoesOn (w.again session) d w.machine session (record { told = reply.More; machine = w.machine; doing = doing_in e.hub.dir.leaves session (at_stage (stamps_then stamps n stage.Done) a) }))
    (sym (ap (λ x. doing_at x e.hub.dir.leaves session a) o.same ∙ ap (λ x. stamping x stamps left a) in-phase))
    (ending-on a.answer (left + done_left a) (n + done_left a) w.machine session (doing_in e.hub.dir.leaves session (at_stage (stamps_then stamps n stage.Done) a))
    (let low = start-below a.written left o.some.0 in omega (arith, low)) (done-doing e.hub.dir.leaves stamps n session a in-phase)))
    (edit-moves e w session (at_stage (stamps_then stamps n stage.Done) a) t (stamps_in ModelResolving stamps) later a.written n o.st o.there l
    (session-on w.machine e.hub e.pieces later session a (stamps_then stamps n stage.Done) l.slots s
    (done-stage stamps n w.machine e.hub.dir.leaves later session a t (let low = start-within a.written (frame_at a.written left) left in let most = o.some.1 in omega (arith, low, most)) o.there resolving now.0 l.done))) where
      s : SessionStands w.machine e.hub e.pieces session a
      s = o.st.sessions session a o.at

      n : ℕ
      n = leaf_start a.written (frame_at a.written left) left

      later : List FramePiece
      later = pieces_edited (stamps_in ModelResolving stamps) (name_of w.machine t) e.pieces a.written left p

      l : LeafEdited (stamps_in ModelResolving stamps) w.machine t w.shelf w.records e.hub.dir e.pieces (pieces_edited (stamps_in ModelResolving stamps) (name_of w.machine t) e.pieces a.written left p) e.states a.written (leaf_start a.written (frame_at a.written left) left)
      l = edit-leaf e w session a t (stamps_in ModelResolving stamps) left p o.st o.at o.there o.some
          (resolved-edit law w.machine session t (stamp_of stamps.commit) (or_stamp (stamp_of stamps.durable) (stamp_of stamps.commit)) o.st.valid o.there resolving now.0) now.1 o.piece

-- by the phase
stamped-in : MarksLaw → StampsLaw → (e : Engine) (w : World) (session : ℕ) (a : State) (p : FramePiece) (view : View) (stamps : CommitStamps) (left : ℕ) (t : Transaction) → StampsAt e w session a p view stamps left t
    → StampsStand t.phase stamps w.machine e.pieces t a left → (ph : Phase) → a.phase ≡ ph → phase_in ph ≡ Some t.phase
    → Leads (with_session (with_piece e (frame_at a.written left) (frame_stamped w.machine a p stamps left t ph)) session (state_stamped a stamps left ph)) w session reply.More
stamped-in marks law e w session a p view stamps left t o now phase.Running is known = let running : t.phase ≡ ModelRunning = cc in
    run-stamped marks e w session a p view stamps left t o is running (subst (λ q. StampsStand q stamps w.machine e.pieces t a left) running now)
stamped-in marks law e w session a p view stamps left t o now phase.Resolving is known = let resolving : t.phase ≡ ModelResolving = cc in
    resolve-stamped law e w session a p view stamps left t o is resolving (subst (λ q. StampsStand q stamps w.machine e.pieces t a left) resolving now)
stamped-in marks law e w session a p view stamps left t o now phase.Idle is known = absurd (cc)
stamped-in marks law e w session a p view stamps left t o now phase.Failed is known = let failed : t.phase ≡ ModelFailed = cc in absurd (subst (λ q. StampsStand q stamps w.machine e.pieces t a left) failed now)
stamped-in marks law e w session a p view stamps left t o now phase.Leaving is known = let leaving : t.phase ≡ ModelLeaving = cc in absurd (subst (λ q. StampsStand q stamps w.machine e.pieces t a left) leaving now)
stamped-in marks law e w session a p view stamps left t o now (phase.Prepared stamp) is known = let prepared : t.phase ≡ ModelPrepared stamp = cc in
    absurd (subst (λ q. StampsStand q stamps w.machine e.pieces t a left) prepared now)

stamped : MarksLaw → StampsLaw → (e : Engine) (w : World) (session frame : ℕ) (a a' : State) (p p' : FramePiece) (view : View) (stamps : CommitStamps) (left : ℕ) → Stands e w → slice_get e.sessions session ≡ Some a → a.stage ≡ stage.Stamp stamps left
    → next.Frame (frame_at a.written left) ≡ next.Frame frame → slice_get e.pieces frame ≡ Some p → IsViewOf e.hub session view
    → (p' ≡ edits view (edit.Stamp (stamp_of stamps.commit) (durable_of a.phase stamps)) a left p) × (a' ≡ at_stage (stamps_then stamps (starts_at a left) (after_stamps a.phase stamps)) a)
    → Leads (with_session (with_piece e frame p') session a') w session reply.More
stamped marks law e w session frame a a' p p' view stamps left st at same here piece seen made = by-stage (subst (λ s. StageStands s w.machine e.hub.dir.leaves e.pieces session a) same (st.sessions session a at).stage) where
  frames : frame_at a.written left ≡ frame
  frames = cc

  by-stage : StageStands (stage.Stamp stamps left) w.machine e.hub.dir.leaves e.pieces session a → Leads (with_session (with_piece e frame p') session a') w session reply.More
  by-stage now = at-frame e w session frame (frame_at a.written left) p' (frame_stamped w.machine a p stamps left now.1.0 a.phase) a' (state_stamped a stamps left a.phase) frames
      (made.0 ∙ ap (λ x. piece_edited (edit.Stamp (stamp_of stamps.commit) (durable_of a.phase stamps)) x a.written left p) (own-named e.hub session view w.machine now.1.0 seen st.txns now.1.1)) made.1
      (stamped-in marks law e w session a p view stamps left now.1.0 (record {
        st = st;
        at = at;
        same = same;
        piece = subst (λ f. slice_get e.pieces f ≡ Some p) (sym frames) piece;
        seen = seen;
        some = now.0;
        there = now.1.1;
      }) now.1.2 a.phase refl (known-phase w.machine e.hub e.pieces session a now.1.0 (st.sessions session a at) now.1.1))

pub stamps-go : MarksLaw → StampsLaw → StampsGo
stamps-go marks law e w session frame a a' p p' view st at is here piece seen made = by-stage a.stage refl is here made where
  by-stage : (s : Stage) → a.stage ≡ s → IsStamp s → next_at s a ≡ next.Frame frame → FrameMadeAt s view p a p' a' → Leads (with_session (with_piece e frame p') session a') w session reply.More
  by-stage (stage.Stamp stamps left) same is here made = stamped marks law e w session frame a a' p p' view stamps left st at same here piece seen made
  by-stage _ same is here made = absurd is
