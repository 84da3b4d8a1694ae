-- The marks of a prepare in one leaf.
use Rattle.std.proofs.Common.{◌≡◌, ◌≤◌, ◌+◌, ℕ, zero, suc, refl, ap, sym, ◌∙◌, List, length, subst, arith}
use Rattle.std.specs.Prelude.{Some, slice_get}
use Rattle.stamp.specs.declared.View.{View}
use Rattle.kv_model.specs.Calls.{Prepare}
use Rattle.kv_model.specs.Machine.{Machine, Transaction, Running, transaction_of, name_of}
use Rattle.tree_dir.specs.declared.leaf.Leaf.{Leaf}
use Rattle.update_chain.specs.EventLaws.{MarksStand as MarksLaw}
use Rattle.update_chain.proofs.Reading.{running-alive}
use Rattle.call_steps.specs.declared.edit.Edit.TheVariants as edit
use Rattle.call_steps.specs.declared.frame.FramePiece.{FramePiece}
use Rattle.call_steps.specs.declared.next.Next.TheVariants as next
use Rattle.call_steps.specs.declared.reply.Reply.TheVariants as reply
use Rattle.call_steps.specs.declared.stage.Stage.{Stage}
use Rattle.call_steps.specs.declared.stage.Stage.TheVariants as stage
use Rattle.call_steps.specs.FrameEvents.{FrameMadeAt, edits, starts_at}
use Rattle.call_steps.specs.Stages.{marks}
use Rattle.call_steps.specs.State.{State, at_stage}
use Rattle.call_steps.specs.Words.{next_at}
use Rattle.call_steps.specs.Written.{frame_at, leaf_start}
use Rattle.engine_world.specs.Worlds.{World, Asked}
use Rattle.engine_world.specs.Doings.{doing_in, doing_at}
use Rattle.engine_world.specs.Laws.{Leads, IsViewOf, IsMark, MarksGo, with_session, with_piece}
use Rattle.engine_world.specs.Stages.{StageStands, MarksStand, IsEdited}
use Rattle.engine_world.specs.Stands.{Engine, Stands, SessionStands}
use Rattle.engine_world.specs.Steps.{GoesOn}
use Rattle.engine_world.proofs.Moves.{leads}
use Rattle.engine_world.proofs.EditedChains.{marks-edit}
use Rattle.engine_world.proofs.EditedLeaves.{LeafEdited, piece_edited, start-within, start-below}
use Rattle.engine_world.proofs.EditMoves.{the-one, alive-only, own-named, session-on, asked-on, at-frame, pieces_edited, edit-leaf, edit-moves}
use Rattle.engine_world.proofs.InPlace.{StageInPlace}

marks-doing : (leaves : List Leaf) (stamp n session : ℕ) (a : State) → doing_in leaves session (at_stage (marks stamp n) a) ≡ Asked (Prepare stamp) (n + 1)
marks-doing leaves stamp zero session a = refl
marks-doing leaves stamp (suc n) session a = refl

marks-stage : (stamp n : ℕ) (m : Machine) (leaves : List Leaf) (pieces : List FramePiece) (session : ℕ) (a : State) (t : Transaction) → n ≤ length a.written → transaction_of m session ≡ Some t → t.phase ≡ Running
    → IsEdited (edit.Mark stamp) m pieces t a n → StageInPlace (marks stamp n) m leaves pieces session (at_stage (marks stamp n) a)
marks-stage stamp zero m leaves pieces session a t within there running done = (
  alive-only m session t there (running-alive t running),
  λ x at. subst (λ (z : Transaction). MarksStand z.phase stamp m pieces z (at_stage (stage.Release stamp) a)) (the-one m session t x there at)
      (subst (λ p. MarksStand p stamp m pieces t (at_stage (stage.Release stamp) a)) (sym running) done),
)
marks-stage stamp (suc n) m leaves pieces session a t within there running done = ((omega arith, within), (t, there, (running, done)))

marked : MarksLaw → (e : Engine) (w : World) (session frame : ℕ) (a a' : State) (p p' : FramePiece) (view : View) (stamp left : ℕ) → Stands e w → slice_get e.sessions session ≡ Some a → a.stage ≡ stage.Mark stamp left
    → next.Frame (frame_at a.written left) ≡ next.Frame frame → slice_get e.pieces frame ≡ Some p → IsViewOf e.hub session view → (p' ≡ edits view (edit.Mark stamp) a left p) × (a' ≡ at_stage (marks stamp (starts_at a left)) a)
    → Leads (with_session (with_piece e frame p') session a') w session reply.More
marked law e w session frame a a' p p' view stamp left st at same here piece seen made = by-stage (subst (λ s. StageStands s w.machine e.hub.dir.leaves e.pieces session a) same s.stage) where
  s : SessionStands w.machine e.hub e.pieces session a
  s = st.sessions session a at

  frames : frame_at a.written left ≡ frame
  frames = cc

  by-stage : StageStands (stage.Mark stamp left) w.machine e.hub.dir.leaves e.pieces session a → Leads (with_session (with_piece e frame p') session a') w session reply.More
  by-stage now = at-frame e w session frame (frame_at a.written left) p' (piece_edited (edit.Mark stamp) (name_of w.machine t) a.written left p) a' (at_stage (marks stamp n) a) frames
      (made.0 ∙ ap (λ x. piece_edited (edit.Mark stamp) x a.written left p) (own-named e.hub session view w.machine t seen st.txns there)) made.1
      (leads e w session a (at_stage (marks stamp n) a) e.hub later e.hazards w.machine reply.More st at
      (subst (λ d. GoesOn (w.again session) d w.machine session (record { told = reply.More; machine = w.machine; doing = doing_in e.hub.dir.leaves session (at_stage (marks stamp n) a) })) (sym (ap (λ x. doing_at x e.hub.dir.leaves session a) same))
      (asked-on (Prepare stamp) (left + 1) (n + 1) w.machine session (doing_in e.hub.dir.leaves session (at_stage (marks stamp n) a)) (let low = start-below a.written left now.0.0 in omega arith) (marks-doing e.hub.dir.leaves stamp n session a)))
      (edit-moves e w session (at_stage (marks stamp n) a) t (edit.Mark stamp) later a.written n st there l
      (session-on w.machine e.hub e.pieces later session a (marks stamp n) l.slots s
      (marks-stage stamp n w.machine e.hub.dir.leaves later session a t (let low = start-within a.written (frame_at a.written left) left in let most = now.0.1 in omega arith) there now.1.2.0 l.done)))) where
        t : Transaction
        t = now.1.0

        there : transaction_of w.machine session ≡ Some now.1.0
        there = now.1.1

        n : ℕ
        n = leaf_start a.written (frame_at a.written left) left

        later : List FramePiece
        later = pieces_edited (edit.Mark stamp) (name_of w.machine now.1.0) e.pieces a.written left p

        l : LeafEdited (edit.Mark stamp) w.machine now.1.0 w.shelf w.records e.hub.dir e.pieces (pieces_edited (edit.Mark stamp) (name_of w.machine now.1.0) e.pieces a.written left p) e.states a.written (leaf_start a.written (frame_at a.written left) left)
        l = edit-leaf e w session a now.1.0 (edit.Mark stamp) left p st at now.1.1 now.0 (marks-edit law w.machine session now.1.0 stamp st.valid now.1.1 now.1.2.0) now.1.2.1 (subst (λ f. slice_get e.pieces f ≡ Some p) (sym frames) piece)

pub marks-go : MarksLaw → MarksGo
marks-go law e w session frame a a' p p' view st at is here piece seen made = by-stage a.stage refl is here made where
  by-stage : (s : Stage) → a.stage ≡ s → IsMark s → next_at s a ≡ next.Frame frame → FrameMadeAt s view p a p' a' → Leads (with_session (with_piece e frame p') session a') w session reply.More
  by-stage (stage.Mark stamp left) same is here made = marked law e w session frame a a' p p' view stamp left st at same here piece seen made
  by-stage _ same is here made = absurd is
