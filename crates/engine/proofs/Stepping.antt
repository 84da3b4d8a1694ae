-- What the next event of a session leaves, by the law of its stage.
use Rattle.std.proofs.Common.{◌≡◌, ◌<◌, ◌≤◌, ◌⊎◌, ℕ, zero, suc, refl, ap, sym, ◌∙◌, List, [], ◌∷◌, length, inl, inr, subst, arith}
use Rattle.std.specs.Prelude.{Option, Some, None, option_and_then, slice_get}
use Rattle.std.proofs.lemmas.Option.{none-some, slice_get_within}
use Rattle.stamp.specs.declared.View.{View}
use Rattle.kv_model.specs.Holds.{Member}
use Rattle.kv_model.specs.Machine.{Transaction, of_some}
use Rattle.kv_model.specs.Allowed.{HasTransaction}
use Rattle.txn_table.specs.declared.phase.Phase.TheVariants as phase
use Rattle.txn_table.specs.SessionData.{MayBe}
use Rattle.txn_table.specs.Stands.{SessionStands as TableSessionStands}
use Rattle.txn_table.specs.Tabled.{phase_of, session_of}
use Rattle.call_steps.specs.declared.frame.Frame.{Frame}
use Rattle.call_steps.specs.declared.frame.FramePiece.{FramePiece}
use Rattle.call_steps.specs.declared.next.Next.TheVariants as next
use Rattle.call_steps.specs.declared.reply.Reply.TheVariants as reply
use Rattle.call_steps.specs.declared.stage.KeyCall.{KeyCall}
use Rattle.call_steps.specs.declared.stage.KeyCall.TheVariants as key_call
use Rattle.call_steps.specs.declared.stage.Stage.{Stage}
use Rattle.call_steps.specs.declared.stage.Stage.TheVariants as stage
use Rattle.call_steps.specs.declared.stage.Target.{Target}
use Rattle.call_steps.specs.declared.stage.Wanted.{Wanted}
use Rattle.call_steps.specs.declared.written.WrittenKey.{WrittenKey}
use Rattle.call_steps.specs.FrameEvents.{FrameMade}
use Rattle.call_steps.specs.HubEvents.{hub_made}
use Rattle.call_steps.specs.State.{State}
use Rattle.call_steps.specs.Words.{next_at, next_of, stored}
use Rattle.call_steps.specs.Written.{frame_at}
use Rattle.engine_world.specs.Worlds.{World}
use Rattle.engine_world.specs.Laws.{Leads, IsViewOf, with_hub, with_piece, with_hazard, with_session, BeginsGo, FindsGo, FillsGo, PassesGo, HistoriesGo, ReleasesGo, DecidesGo, ResolvesGo, EndsGo, ReadsGo, WritesGo, RowsGo, MarksGo, OrdersGo, StampsGo, UndosGo, PublishesGo, ClearsGo, ResetsGo, UnpinsGo, IsBegin, IsFind, IsFilled, IsPass, IsHistory, IsRelease, IsDecide, IsResolve, IsDone, ReadsKey, WritesKey, StepsOn, IsLook, IsMark, IsOrder, IsStamp, IsUndo, IsPublish, IsClearing, IsReset, IsUnpin}
use Rattle.engine_world.specs.Leaves.{frame_in}
use Rattle.engine_world.specs.Stages.{IsLeft, IsLeafOf, StageStands}
use Rattle.engine_world.specs.Stands.{Engine, Stands}
use Rattle.tree_dir.specs.Leaves.{leaf_named}
use Rattle.tree_dir.proofs.Parting.{ids-name}
use Rattle.engine_world.proofs.Homes.{home-at, in-its-frame, target-frame, target-is}
use Rattle.call_turns.specs.Turns.{IsHubNext, IsReady}

-- ---- the hub

pub record HubLaws : Type 0 where
  pub begins : BeginsGo
  pub finds : FindsGo
  pub fills : FillsGo
  pub passes : PassesGo
  pub histories : HistoriesGo
  pub releases : ReleasesGo
  pub decides : DecidesGo
  pub resolves : ResolvesGo
  pub ends : EndsGo

pub hub-goes : HubLaws → (e : Engine) (w : World) (session : ℕ) (a : State) → Stands e w → slice_get e.sessions session ≡ Some a → IsHubNext e.hub a
    → let made = hub_made e.hub session a in Leads (with_session (with_hub e made.1.0) session made.1.1) w session made.0
hub-goes laws e w session a st at on = by-stage a.stage refl on where
  -- a world has the leaf that is waited for
  filled : (call : KeyCall) (wanted : Wanted) → StageStands (stage.Fill call wanted) w.machine e.hub.dir.leaves e.pieces session a → IsReady e.hub.dir.leaves (stage.Fill call wanted) → IsFilled e.hub (stage.Fill call wanted)
  filled call wanted x (inl gone) = let l = x.1.0.0 in absurd (none-some l (sym gone ∙ (ap (λ id. leaf_named id e.hub.dir.leaves) (sym x.1.0.2) ∙ ids-name e.hub.dir st.dir l x.1.0.1)))
  filled call wanted x (inr there) = there

  away : (s : Stage) → (next_at s a ≡ next.Hub → ⊥) → (IsReady e.hub.dir.leaves s → ⊥) → (next_at s a ≡ next.Hub) ⊎ IsReady e.hub.dir.leaves s → ⊥
  away s off none (inl is) = off is
  away s off none (inr is) = none is

  by-stage : (s : Stage) → a.stage ≡ s → (next_at s a ≡ next.Hub) ⊎ IsReady e.hub.dir.leaves s → let made = hub_made e.hub session a in Leads (with_session (with_hub e made.1.0) session made.1.1) w session made.0
  by-stage (stage.Begin read) is on = laws.begins e w session a st at (subst IsBegin (sym is) tt)
  by-stage (stage.Find call) is on = laws.finds e w session a st at (subst IsFind (sym is) tt)
  by-stage (stage.Fill call wanted) is (inl other) = absurd (cc)
  by-stage (stage.Fill call wanted) is (inr ready) = laws.fills e w session a st at (subst (IsFilled e.hub) (sym is) (filled call wanted (subst (λ x. StageStands x w.machine e.hub.dir.leaves e.pieces session a) is (st.sessions session a at).stage) ready))
  by-stage (stage.Pass call target) is on = laws.passes e w session a st at (subst IsPass (sym is) tt)
  by-stage (stage.History call target) is on = laws.histories e w session a st at (subst IsHistory (sym is) tt)
  by-stage (stage.Release stamp) is on = laws.releases e w session a st at (subst IsRelease (sym is) tt)
  by-stage (stage.Decide stamps) is on = laws.decides e w session a st at (subst IsDecide (sym is) tt)
  by-stage stage.Resolve is on = laws.resolves e w session a st at (subst IsResolve (sym is) tt)
  by-stage stage.Done is on = laws.ends e w session a st at (subst IsDone (sym is) tt)
  by-stage stage.Rest is on = absurd (away stage.Rest (λ x. absurd (cc)) (λ x. x) on)
  by-stage (stage.Publish call target) is on = absurd (away (stage.Publish call target) (λ x. absurd (cc)) (λ x. x) on)
  by-stage (stage.Validate call target) is on = absurd (away (stage.Validate call target) (λ x. absurd (cc)) (λ x. x) on)
  by-stage (stage.Look call target) is on = absurd (away (stage.Look call target) (λ x. absurd (cc)) (λ x. x) on)
  by-stage (stage.ClearCursor call target) is on = absurd (away (stage.ClearCursor call target) (λ x. absurd (cc)) (λ x. x) on)
  by-stage (stage.Clear call target) is on = absurd (away (stage.Clear call target) (λ x. absurd (cc)) (λ x. x) on)
  by-stage (stage.Reset cursor) is on = absurd (away (stage.Reset cursor) (λ x. absurd (cc)) (λ x. x) on)
  by-stage (stage.Mark stamp left) is on = absurd (away (stage.Mark stamp left) (λ x. absurd (cc)) (λ x. x) on)
  by-stage (stage.Order stamps left) is on = absurd (away (stage.Order stamps left) (λ x. absurd (cc)) (λ x. x) on)
  by-stage (stage.Stamp stamps left) is on = absurd (away (stage.Stamp stamps left) (λ x. absurd (cc)) (λ x. x) on)
  by-stage (stage.Undo left) is on = absurd (away (stage.Undo left) (λ x. absurd (cc)) (λ x. x) on)
  by-stage (stage.Unpin cursor) is on = absurd (away (stage.Unpin cursor) (λ x. absurd (cc)) (λ x. x) on)

-- ---- frames

pub record FrameLaws : Type 0 where
  pub reads : ReadsGo
  pub writes : WritesGo
  pub rows : RowsGo
  pub marks : MarksGo
  pub orders : OrdersGo
  pub stamps : StampsGo
  pub undos : UndosGo

pub frame-goes : FrameLaws → (e : Engine) (w : World) (session frame : ℕ) (a a' : State) (p p' : FramePiece) (view : View) → Stands e w → slice_get e.sessions session ≡ Some a → next_of a ≡ next.Frame frame
    → slice_get e.pieces frame ≡ Some p → IsViewOf e.hub session view → FrameMade view p a p' a' → Leads (with_session (with_piece e frame p') session a') w session reply.More
frame-goes laws e w session frame a a' p p' view st at on piece is-view made = by-stage a.stage refl on where
  by-call : (call : KeyCall) (target : Target) → a.stage ≡ stage.Look call target → Leads (with_session (with_piece e frame p') session a') w session reply.More
  by-call key_call.Get target is = laws.reads e w session frame a a' p p' view st at (subst (IsLook ReadsKey) (sym is) tt) on piece is-view made
  by-call (key_call.Seek cursor) target is = laws.reads e w session frame a a' p p' view st at (subst (IsLook ReadsKey) (sym is) tt) on piece is-view made
  by-call (key_call.Put demand) target is = laws.writes e w session frame a a' p p' view st at (subst (IsLook WritesKey) (sym is) tt) on piece is-view made
  by-call key_call.Remove target is = laws.writes e w session frame a a' p p' view st at (subst (IsLook WritesKey) (sym is) tt) on piece is-view made
  by-call (key_call.Step cursor way) target is = laws.rows e w session frame a a' p p' view st at (subst (IsLook StepsOn) (sym is) tt) on piece is-view made

  by-stage : (s : Stage) → a.stage ≡ s → next_at s a ≡ next.Frame frame → Leads (with_session (with_piece e frame p') session a') w session reply.More
  by-stage (stage.Look call target) is to = by-call call target is
  by-stage (stage.Mark stamp left) is to = laws.marks e w session frame a a' p p' view st at (subst IsMark (sym is) tt) on piece is-view made
  by-stage (stage.Order stamps left) is to = laws.orders e w session frame a a' p p' view st at (subst IsOrder (sym is) tt) on piece is-view made
  by-stage (stage.Stamp stamps left) is to = laws.stamps e w session frame a a' p p' view st at (subst IsStamp (sym is) tt) on piece is-view made
  by-stage (stage.Undo left) is to = laws.undos e w session frame a a' p p' view st at (subst IsUndo (sym is) tt) on piece is-view made
  by-stage stage.Rest is to = absurd (cc)
  by-stage (stage.Begin read) is to = absurd (cc)
  by-stage (stage.Find call) is to = absurd (cc)
  by-stage (stage.Fill call wanted) is to = absurd (cc)
  by-stage (stage.Publish call target) is to = absurd (cc)
  by-stage (stage.Validate call target) is to = absurd (cc)
  by-stage (stage.Pass call target) is to = absurd (cc)
  by-stage (stage.History call target) is to = absurd (cc)
  by-stage (stage.ClearCursor call target) is to = absurd (cc)
  by-stage (stage.Clear call target) is to = absurd (cc)
  by-stage (stage.Reset cursor) is to = absurd (cc)
  by-stage (stage.Release stamp) is to = absurd (cc)
  by-stage (stage.Decide stamps) is to = absurd (cc)
  by-stage stage.Resolve is to = absurd (cc)
  by-stage stage.Done is to = absurd (cc)
  by-stage (stage.Unpin cursor) is to = absurd (cc)

-- what an event on a frame rests on: the frame is there, and the session has a transaction
pub record HasFrame (e : Engine) (session frame : ℕ) : Type 0 where
  pub there : frame < length e.pieces
  pub busy : phase_of e.hub.txns session ≡ phase.Idle → ⊥

piece-there : (pieces : List FramePiece) (place : ℕ) (f : Frame) → frame_in pieces place ≡ Some f → place < length pieces
piece-there pieces place f is = by-piece (slice_get pieces place) refl is where
  by-piece : (o : Option FramePiece) → slice_get pieces place ≡ o → option_and_then (λ (p : FramePiece). p.frame) o ≡ Some f → place < length pieces
  by-piece None at is = absurd (cc)
  by-piece (Some p) at is = slice_get_within pieces place p at

written-there : (e : Engine) (w : World) (session left : ℕ) (a : State) → Stands e w → slice_get e.sessions session ≡ Some a → IsLeft left a → frame_at a.written left < length e.pieces
written-there e w session zero a st at some = absurd (let l = some.0 in omega arith)
written-there e w session (suc n) a st at some = by-key (slice_get a.written n) refl where
  member : (ks : List WrittenKey) (i : ℕ) (k : WrittenKey) → slice_get ks i ≡ Some k → Member k ks
  member [] i k is = absurd (cc)
  member (x ∷ ks) zero k is = inl (let y : x ≡ k = cc in sym y)
  member (x ∷ ks) (suc i) k is = inr (member ks i k is)

  of-key : (k : WrittenKey) → Member k a.written → k.frame < length e.pieces
  of-key k in-written = let wrote = (st.sessions session a at).noted.wrote k in-written in
      let home = home-at w.machine w.shelf w.records e.hub.dir e.pieces e.states wrote.0.table wrote.0.key k.frame st.dir st.leaves wrote.2.home in
      piece-there e.pieces k.frame home.stands.laid.frame (ap (frame_in e.pieces) (sym home.at) ∙ home.stands.laid.there)

  by-key : (o : Option WrittenKey) → slice_get a.written n ≡ o → of_some 0 (λ (k : WrittenKey). k.frame) o < length e.pieces
  by-key None is = absurd (let past : length a.written ≤ n = past-none a.written n is in let l = some.1 in omega arith) where
    past-none : (ks : List WrittenKey) (i : ℕ) → slice_get ks i ≡ None → length ks ≤ i
    past-none [] i is = omega arith
    past-none (x ∷ ks) zero is = absurd (cc)
    past-none (x ∷ ks) (suc i) is = let less = past-none ks i is in omega arith
  by-key (Some k) is = of-key k (member a.written n k is)

pub has-frame : (e : Engine) (w : World) (session frame : ℕ) (a : State) → Stands e w → slice_get e.sessions session ≡ Some a → next_of a ≡ next.Frame frame → HasFrame e session frame
has-frame e w session frame a st at on = by-stage a.stage refl on (st.sessions session a at).stage where
  busy-of : (P : Transaction → Type 0) → HasTransaction w.machine session P → phase_of e.hub.txns session ≡ phase.Idle → ⊥
  busy-of P has idle = let stands : TableSessionStands w.machine (session_of e.hub.txns session) (Some has.0) = subst (TableSessionStands w.machine (session_of e.hub.txns session)) has.1 (st.txns.sessions session) in
      subst (λ p. MayBe p has.0.phase) idle stands.phase

  ready : (place : ℕ) → place < length e.pieces → next.Frame place ≡ next.Frame frame → (phase_of e.hub.txns session ≡ phase.Idle → ⊥) → HasFrame e session frame
  ready place there is busy = record { there = subst (λ f. f < length e.pieces) (let x : place ≡ frame = cc in x) there; busy = busy }

  leaf-there : (target : Target) → IsLeafOf e.hub.dir.leaves target → target.frame < length e.pieces
  leaf-there target of = let t = target-is of.0 target of.2 in let laid = (in-its-frame w.machine w.shelf w.records e.hub.dir.leaves e.pieces e.states of.0 t.framed t.placed (st.leaves of.0 of.1)).laid in
      piece-there e.pieces target.frame laid.frame (ap (frame_in e.pieces) (sym (target-frame e.pieces e.states of.0 target laid of.2)) ∙ laid.there)

  by-stage : (s : Stage) → a.stage ≡ s → next_at s a ≡ next.Frame frame → StageStands a.stage w.machine e.hub.dir.leaves e.pieces session a → HasFrame e session frame
  by-stage s is to stands = by-facts s to (subst (λ x. StageStands x w.machine e.hub.dir.leaves e.pieces session a) is stands) where
    by-facts : (s : Stage) → next_at s a ≡ next.Frame frame → StageStands s w.machine e.hub.dir.leaves e.pieces session a → HasFrame e session frame
    by-facts (stage.Look call target) to on-leaf = ready target.frame (leaf-there target on-leaf.0.1) to (λ idle. busy-of _ on-leaf.0.0 idle)
    by-facts (stage.Mark stamp left) to facts = ready (frame_at a.written left) (written-there e w session left a st at facts.0) to (λ idle. busy-of _ facts.1 idle)
    by-facts (stage.Order stamps left) to facts = ready (frame_at a.written left) (written-there e w session left a st at facts.0) to (λ idle. busy-of _ facts.1 idle)
    by-facts (stage.Stamp stamps left) to facts = ready (frame_at a.written left) (written-there e w session left a st at facts.0) to (λ idle. busy-of _ facts.1 idle)
    by-facts (stage.Undo left) to facts = ready (frame_at a.written left) (written-there e w session left a st at facts.0) to (λ idle. busy-of _ facts.1 idle)
    by-facts stage.Rest to facts = absurd (cc)
    by-facts (stage.Begin read) to facts = absurd (cc)
    by-facts (stage.Find call) to facts = absurd (cc)
    by-facts (stage.Fill call wanted) to facts = absurd (cc)
    by-facts (stage.Publish call target) to facts = absurd (cc)
    by-facts (stage.Validate call target) to facts = absurd (cc)
    by-facts (stage.Pass call target) to facts = absurd (cc)
    by-facts (stage.History call target) to facts = absurd (cc)
    by-facts (stage.ClearCursor call target) to facts = absurd (cc)
    by-facts (stage.Clear call target) to facts = absurd (cc)
    by-facts (stage.Reset cursor) to facts = absurd (cc)
    by-facts (stage.Release stamp) to facts = absurd (cc)
    by-facts (stage.Decide stamps) to facts = absurd (cc)
    by-facts stage.Resolve to facts = absurd (cc)
    by-facts stage.Done to facts = absurd (cc)
    by-facts (stage.Unpin cursor) to facts = absurd (cc)

-- ---- words

pub record StoreLaws : Type 0 where
  pub publishes : PublishesGo
  pub clears : ClearsGo
  pub resets : ResetsGo
  pub unpins : UnpinsGo

pub store-goes : StoreLaws → (e : Engine) (w : World) (session word value at : ℕ) (a : State) → Stands e w → slice_get e.sessions session ≡ Some a → next_of a ≡ next.Store word value
    → let made = stored a in Leads (with_session (with_hazard e at value) session made.1) w session made.0
store-goes laws e w session word value at a st there on = by-stage a.stage refl on where
  by-stage : (s : Stage) → a.stage ≡ s → next_at s a ≡ next.Store word value → let made = stored a in Leads (with_session (with_hazard e at value) session made.1) w session made.0
  by-stage (stage.Publish call target) is to = laws.publishes e w session word value at a st there (subst IsPublish (sym is) tt) on
  by-stage (stage.ClearCursor call target) is to = laws.clears e w session word value at a st there (subst IsClearing (sym is) tt) on
  by-stage (stage.Clear call target) is to = laws.clears e w session word value at a st there (subst IsClearing (sym is) tt) on
  by-stage (stage.Reset cursor) is to = laws.resets e w session word value at a st there (subst IsReset (sym is) tt) on
  by-stage (stage.Unpin cursor) is to = laws.unpins e w session word value at a st there (subst IsUnpin (sym is) tt) on
  by-stage stage.Rest is to = absurd (cc)
  by-stage (stage.Begin read) is to = absurd (cc)
  by-stage (stage.Find call) is to = absurd (cc)
  by-stage (stage.Fill call wanted) is to = absurd (cc)
  by-stage (stage.Validate call target) is to = absurd (cc)
  by-stage (stage.Look call target) is to = absurd (cc)
  by-stage (stage.Pass call target) is to = absurd (cc)
  by-stage (stage.History call target) is to = absurd (cc)
  by-stage (stage.Mark stamp left) is to = absurd (cc)
  by-stage (stage.Release stamp) is to = absurd (cc)
  by-stage (stage.Order stamps left) is to = absurd (cc)
  by-stage (stage.Stamp stamps left) is to = absurd (cc)
  by-stage (stage.Decide stamps) is to = absurd (cc)
  by-stage stage.Resolve is to = absurd (cc)
  by-stage (stage.Undo left) is to = absurd (cc)
  by-stage stage.Done is to = absurd (cc)
