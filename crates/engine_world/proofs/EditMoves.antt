-- The edit of one leaf, as an event of the session's call.
use Rattle.std.proofs.Common.{◌≡◌, ◌<◌, ◌≤◌, ℕ, refl, ap, sym, ◌∙◌, List, [], ◌∷◌, length, inl, subst, arith, false}
use Rattle.std.specs.Prelude.{Some, slice_get, slice_set, option_map}
use Rattle.wt_code.specs.declared.answers.Answer.{Answer}
use Rattle.stamp.specs.declared.Name.{Name}
use Rattle.stamp.specs.declared.View.{View}
use Rattle.kv_model.specs.Calls.{Call}
use Rattle.kv_model.specs.Holds.{Member}
use Rattle.kv_model.specs.History.{Write, line}
use Rattle.kv_model.specs.Machine.{Machine, Transaction, transaction_of, name_of, of_some}
use Rattle.kv_model.specs.Reads.{IsEnding}
use Rattle.kv_model.specs.Refusals.{newest_durable}
use Rattle.snapshot.specs.Sight.{Sight}
use Rattle.tree_dir.specs.declared.leaf.Leaf.{Leaf}
use Rattle.txn_table.specs.SessionData.{phase_in}
use Rattle.txn_table.specs.Stands.{TableStands}
use Rattle.txn_table.proofs.Standing.{state-at}
use Rattle.leaf_chains.specs.Slots.{key_at}
use Rattle.call_steps.specs.declared.edit.Edit.{Edit}
use Rattle.call_steps.specs.declared.frame.FramePiece.{FramePiece}
use Rattle.call_steps.specs.declared.hub.Hub.{Hub}
use Rattle.call_steps.specs.declared.reply.Reply.TheVariants as reply
use Rattle.call_steps.specs.declared.stage.Stage.{Stage}
use Rattle.call_steps.specs.declared.written.WrittenKey.{WrittenKey}
use Rattle.call_steps.specs.Looks.{own_name}
use Rattle.call_steps.specs.State.{State, at_stage}
use Rattle.call_steps.specs.Written.{frame_at, leaf_start}
use Rattle.engine_world.specs.Worlds.{World, Doing, Asked, Ending}
use Rattle.engine_world.specs.Laws.{Leads, IsViewOf, with_session, with_piece}
use Rattle.engine_world.specs.Leaves.{AreNoted, OrderedDownTo, slots_in, table_at}
use Rattle.engine_world.specs.Stages.{EndsOnlyDown, IsLeft, IsEdited}
use Rattle.engine_world.specs.Stands.{Engine, Stands, SessionStands, writes_in}
use Rattle.engine_world.specs.Steps.{GoesOn}
use Rattle.engine_world.proofs.Beside.{SlotsStay}
use Rattle.engine_world.proofs.Events.{beside-same}
use Rattle.engine_world.proofs.Moves.{Moves}
use Rattle.engine_world.proofs.OnePiece.{slot-stays, brings-others}
use Rattle.engine_world.proofs.EditedChains.{Edits}
use Rattle.engine_world.proofs.EditedLeaves.{LeafEdited, leaf-edited, piece_edited, got-member, some-at, key-held}
use Rattle.engine_world.proofs.InPlace.{SessionInPlace, StageInPlace}

-- ---- the transaction

pub the-one : (m : Machine) (s : ℕ) (t x : Transaction) → transaction_of m s ≡ Some t → transaction_of m s ≡ Some x → t ≡ x
the-one m s t x there at = let both : Some t ≡ Some x = sym there ∙ at in cc

pub known-phase : (m : Machine) (hub : Hub) (pieces : List FramePiece) (session : ℕ) (a : State) (t : Transaction) → SessionStands m hub pieces session a → transaction_of m session ≡ Some t → phase_in a.phase ≡ Some t.phase
known-phase m hub pieces session a t s there = s.phase ∙ ap (option_map (λ (x : Transaction). x.phase)) there

-- who is not ending need not wait for a fault
pub alive-only : (m : Machine) (session : ℕ) (t : Transaction) → transaction_of m session ≡ Some t → (IsEnding t.phase → ⊥) → EndsOnlyDown m session
alive-only m session t there alive x at ending = absurd (alive (subst (λ (z : Transaction). IsEnding z.phase) (sym (the-one m session t x there at)) ending))

pub own-named : (hub : Hub) (session : ℕ) (view : View) (m : Machine) (t : Transaction) → IsViewOf hub session view → TableStands hub.txns m → transaction_of m session ≡ Some t → own_name view ≡ name_of m t
own-named hub session view m t seen stands there = let state = state-at hub.txns m session t stands there in
    λ i. record { run = (ap (λ (x : Sight). x.run) seen.sight ∙ state.sees.run) i; id = (seen.own ∙ state.id) i }

-- ---- what was noted

pub noted-of : (m : Machine) (hub : Hub) (pieces : List FramePiece) (session : ℕ) (a : State) (t : Transaction) → SessionStands m hub pieces session a → transaction_of m session ≡ Some t → AreNoted hub.dir.leaves pieces t.writes a.written
noted-of m hub pieces session a t s there = subst (λ o. AreNoted hub.dir.leaves pieces (of_some [] (λ (x : Transaction). x.writes) o) a.written) there s.noted

pub noted-on : (leaves : List Leaf) (pieces later : List FramePiece) (writes : List Write) (keys : List WrittenKey) → SlotsStay pieces later → AreNoted leaves pieces writes keys → AreNoted leaves later writes keys
noted-on leaves pieces later writes keys stays noted = record {
  noted = λ w at. let k = noted.noted w at in (k.0, k.1, slot-stays leaves pieces later stays k.0 w.table w.key k.2);
  wrote = λ k at. let w = noted.wrote k at in (w.0, w.1, slot-stays leaves pieces later stays k w.0.table w.0.key w.2);
}

pub ordered-on : (m : Machine) (leaves : List Leaf) (pieces later : List FramePiece) (writes : List Write) (keys : List WrittenKey) (prev left : ℕ) → SlotsStay pieces later → AreNoted leaves pieces writes keys
    → OrderedDownTo m pieces writes keys prev left → OrderedDownTo m later writes keys prev left
ordered-on m leaves pieces later writes keys prev left stays noted o = record {
  covers = λ i k low at. let w = noted.wrote k (got-member keys i k at) in
      subst (λ (n : ℕ). newest_durable (line m.history n (key_at (slots_in later k.frame) k.slot)) ≤ prev) (sym (stays.tables k.frame))
      (subst (λ (q : List ℕ). newest_durable (line m.history (table_at pieces k.frame) q) ≤ prev)
      (key-held (slots_in pieces k.frame) w.0.key k.slot w.2.slot ∙ sym (key-held (slots_in later k.frame) w.0.key k.slot (stays.slots k.frame w.0.key k.slot w.2.slot)))
      (o.covers i k low at));
  least = o.least;
}

some-of : (writes : List Write) (w : Write) → Member w writes → (x : Write) × (more : List Write) × (writes ≡ x ∷ more)
some-of [] w at = absurd at
some-of (x ∷ more) w at = (x, more, refl)

-- where keys are noted there are writes
pub has-written : (leaves : List Leaf) (pieces : List FramePiece) (writes : List Write) (keys : List WrittenKey) (left : ℕ) → AreNoted leaves pieces writes keys → 1 ≤ left → left ≤ length keys → (x : Write) × (more : List Write) × (writes ≡ x ∷ more)
has-written leaves pieces writes keys left noted some within = let k = some-at keys 0 (omega (arith, some, within)) in let w = noted.wrote k.0 (got-member keys 0 k.0 k.1) in some-of writes w.0 w.1

-- ---- the session

-- it goes on to another stage over frames in which each key keeps its slot
pub session-on : (m : Machine) (hub : Hub) (pieces later : List FramePiece) (session : ℕ) (a : State) (next : Stage) → SlotsStay pieces later → SessionStands m hub pieces session a
    → StageInPlace next m hub.dir.leaves later session (at_stage next a) → SessionInPlace m hub later session (at_stage next a)
session-on m hub pieces later session a next stays s now = record {
  phase = s.phase;
  seated = record { opened = s.seated.opened; phase = s.seated.phase };
  cursors = s.cursors;
  noted = noted-on hub.dir.leaves pieces later (writes_in m session) a.written stays s.noted;
  stage = now;
}

-- ---- the world's step

pub asked-on : (call : Call) (left fewer : ℕ) (m : Machine) (session : ℕ) (d : Doing) → fewer < left → d ≡ Asked call fewer → GoesOn false (Asked call left) m session (record { told = reply.More; machine = m; doing = d })
asked-on call left fewer m session d less is = inl (fewer, less, ap (λ (x : Doing). record { told = reply.More; machine = m; doing = x }) is)

pub ending-on : (answer : Answer (List ℕ)) (left fewer : ℕ) (m : Machine) (session : ℕ) (d : Doing) → fewer < left → d ≡ Ending answer fewer → GoesOn false (Ending answer left) m session (record { told = reply.More; machine = m; doing = d })
ending-on answer left fewer m session d less is = inl (fewer, less, ap (λ (x : Doing). record { told = reply.More; machine = m; doing = x }) is)

-- what an event makes, as it is known
pub at-frame : (e : Engine) (w : World) (session frame frame' : ℕ) (p p' : FramePiece) (a a' : State) → frame' ≡ frame → p ≡ p' → a ≡ a' → Leads (with_session (with_piece e frame' p') session a') w session reply.More
    → Leads (with_session (with_piece e frame p) session a) w session reply.More
at-frame e w session frame frame' p p' a a' frames pieces states goes =
    subst (λ f. Leads (with_session (with_piece e f p) session a) w session reply.More) frames
    (subst (λ q. Leads (with_session (with_piece e frame' q) session a) w session reply.More) (sym pieces)
    (subst (λ s. Leads (with_session (with_piece e frame' p') session s) w session reply.More) (sym states) goes))

-- the frames after the edit
abbrev pub pieces_edited : Edit → Name → List FramePiece → List WrittenKey → ℕ → FramePiece → List FramePiece
pieces_edited e name pieces keys left p = slice_set pieces (frame_at keys left) (piece_edited e name keys left p)

-- the machine stays
pub edit-leaf : (e : Engine) (w : World) (session : ℕ) (a : State) (t : Transaction) (edit : Edit) (left : ℕ) (p : FramePiece) → Stands e w → slice_get e.sessions session ≡ Some a → transaction_of w.machine session ≡ Some t → IsLeft left a
    → Edits edit w.machine t → IsEdited edit w.machine e.pieces t a left → slice_get e.pieces (frame_at a.written left) ≡ Some p
    → LeafEdited edit w.machine t w.shelf w.records e.hub.dir e.pieces (pieces_edited edit (name_of w.machine t) e.pieces a.written left p) e.states a.written (leaf_start a.written (frame_at a.written left) left)
edit-leaf e w session a t edit left p st at there some edits old piece = leaf-edited edit w.machine t w.shelf w.records e.hub.dir e.pieces e.states a.written left p (record {
  edits = edits;
  dir = st.dir;
  leaves = st.leaves;
  noted = noted-of w.machine e.hub e.pieces session a t (st.sessions session a at) there;
  some = some.0;
  within = some.1;
  old = old;
}) piece

pub edit-moves : (e : Engine) (w : World) (session : ℕ) (a : State) (t : Transaction) (edit : Edit) (later : List FramePiece) (keys : List WrittenKey) (left : ℕ) → Stands e w → transaction_of w.machine session ≡ Some t
    → LeafEdited edit w.machine t w.shelf w.records e.hub.dir e.pieces later e.states keys left → SessionInPlace w.machine e.hub later session a → Moves e w session e.hub later a w.machine
edit-moves e w session a t edit later keys left st there l mine = record {
  valid = st.valid;
  beside = record {
    machine = beside-same session w.machine;
    tables = refl;
    dir = refl;
    seats = refl;
    phases = λ r other. refl;
    slots = l.slots;
    updates = brings-others w.machine session t e.pieces later st.valid there l.brings;
  };
  fault = refl;
  stamps = refl;
  txns = st.txns;
  made = refl;
  leaves = l.leaves;
  mine = mine;
}
