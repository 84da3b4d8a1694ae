-- What stands where a call looks at its leaf, and what its answer leaves of its session.
use Rattle.std.proofs.Common.{◌≡◌, ◌<◌, ◌≤◌, ◌+◌, ℕ, zero, suc, refl, ap, sym, ◌∙◌, true, List, [], ◌∷◌, length, inl, inr, subst, arith, map}
use Rattle.std.specs.Prelude.{Option, Some, None, option_map, slice_get, slice_set}
use Rattle.std.specs.List.{Contains}
use Rattle.stamp.specs.declared.View.{View}
use Rattle.wt_code.specs.declared.answers.Answer.{Answer}
use Rattle.wt_code.specs.declared.answers.Answer.TheVariants as answers
use Rattle.wt_code.specs.declared.refusals.Refusal.TheVariants as refusal
use Rattle.kv_model.specs.Machine.{Machine, Transaction, Running, of_some, transaction_of, cursors_of, Event, Nothing}
use Rattle.kv_model.specs.Decisions.{Outcome}
use Rattle.kv_model.specs.Told.{Tells}
use Rattle.reconcile.specs.Shows.{shown_at}
use Rattle.snapshot.specs.Sight.{Sight}
use Rattle.snapshot.specs.Matters.{SeesFirst}
use Rattle.tree_dir.specs.declared.leaf.Leaf.{Leaf}
use Rattle.txn_table.specs.SessionData.{phase_in}
use Rattle.txn_table.specs.Stands.{TableStands}
use Rattle.txn_table.proofs.Standing.{state-at}
use Rattle.update_chain.specs.Answers.{ViewStands}
use Rattle.update_chain.specs.EventLaws.{StandsFor}
use Rattle.leaf_chains.specs.Slots.{chain_at}
use Rattle.leaf_frame.specs.Leaf.{HeldLeaf}
use Rattle.call_steps.specs.declared.cursor.Cursor.{Cursor}
use Rattle.call_steps.specs.declared.frame.Frame.{Frame}
use Rattle.call_steps.specs.declared.frame.FramePiece.{FramePiece}
use Rattle.call_steps.specs.declared.hub.Hub.{Hub}
use Rattle.call_steps.specs.declared.next.Next.TheVariants as next
use Rattle.call_steps.specs.declared.reply.Reply.TheVariants as reply
use Rattle.call_steps.specs.declared.stage.KeyCall.{KeyCall}
use Rattle.call_steps.specs.declared.stage.Stage.TheVariants as stage
use Rattle.call_steps.specs.declared.stage.Target.{Target}
use Rattle.call_steps.specs.FrameEvents.{LookMade, FrameMade, FrameMadeAt, with_leaf}
use Rattle.call_steps.specs.HubEvents.{IsSeated}
use Rattle.call_steps.specs.Looks.{LookedBy}
use Rattle.call_steps.specs.Stages.{is_write, cursor_in}
use Rattle.call_steps.specs.State.{State, changed_at, takes_word, at_stage, clears, lands, misses, moves, answered}
use Rattle.call_steps.specs.Tables.{target_in}
use Rattle.call_steps.specs.Words.{next_of, next_at}
use Rattle.engine_world.specs.Worlds.{World, Placed, Decided}
use Rattle.engine_world.specs.Doings.{call_in, event_with, doing_at, doing_in, further_left}
use Rattle.engine_world.specs.Steps.{Made, GoesTo, GoesOn, LookAnswer, LooksOn}
use Rattle.engine_world.specs.Laws.{Leads, IsViewOf, with_session, with_piece}
use Rattle.engine_world.specs.Leaves.{AreNoted, IsLaid, LeafInFrame, frame_in}
use Rattle.engine_world.specs.Stages.{StageStands, IsOnLeaf, IsSought, HasLooked, Seeks}
use Rattle.engine_world.specs.Stands.{Engine, Stands, SessionStands, position_in, writes_in}
use Rattle.engine_world.proofs.Homes.{LiesIn, in-its-frame, target-frame, target-is}
use Rattle.engine_world.proofs.Moves.{alone-leads}
use Rattle.engine_world.proofs.OnePiece.{set-same, frame-there}
use Rattle.engine_world.proofs.InPlace.{SessionInPlace, StageInPlace}

-- ---- what a session keeps over its call's stages

pub record Keeps (m : Machine) (hub : Hub) (pieces : List FramePiece) (session : ℕ) (a : State) : Type 0 where
  pub phase : phase_in a.phase ≡ option_map (λ (t : Transaction). t.phase) (transaction_of m session)
  pub seated : IsSeated hub session a
  pub cursors : map position_in a.cursors ≡ cursors_of m session
  pub noted : AreNoted hub.dir.leaves pieces (writes_in m session) a.written

-- a word that is taken over moves no cursor
placed-same : (word : ℕ) (target : Target) (ks : List Cursor) (n : ℕ) → map position_in (changed_at ks n (takes_word word target)) ≡ map position_in ks
placed-same word target [] n = refl
placed-same word target (k ∷ ks) zero = refl
placed-same word target (k ∷ ks) (suc n) = ap (λ l. position_in k ∷ l) (placed-same word target ks n)

pub looked : (m : Machine) (leaves : List Leaf) (session : ℕ) (call : KeyCall) (target : Target) → IsOnLeaf m leaves session call target → HasLooked m session call
looked m leaves session call target on = (on.0.0, on.0.1, inl on.0.2.0)

module _ (m : Machine) (hub : Hub) (pieces : List FramePiece) (session : ℕ) where
  pub keeps : (a : State) → SessionStands m hub pieces session a → Keeps m hub pieces session a
  keeps a s = record { phase = s.phase; seated = s.seated; cursors = s.cursors; noted = s.noted }

  pub stands-at : (a : State) → Keeps m hub pieces session a → StageInPlace a.stage m hub.dir.leaves pieces session a → SessionInPlace m hub pieces session a
  stands-at a k s = record { phase = k.phase; seated = k.seated; cursors = k.cursors; noted = k.noted; stage = s }

  pub clears-keep : (call : KeyCall) (target : Target) (answer : Answer (List ℕ)) (a : State) → Keeps m hub pieces session a → Keeps m hub pieces session (clears call target answer a)
  clears-keep call target answer a k = record { phase = k.phase; seated = record { opened = k.seated.opened; phase = k.seated.phase }; cursors = k.cursors; noted = k.noted }

module _ (m : Machine) (hub : Hub) (pieces : List FramePiece) (session : ℕ) (call : KeyCall) (target : Target) (a : State) (k : Keeps m hub pieces session a) (on : IsOnLeaf m hub.dir.leaves session call target) where
  pub clears-stand : (answer : Answer (List ℕ)) → SessionInPlace m hub pieces session (clears call target answer a)
  clears-stand answer = stands-at m hub pieces session (clears call target answer a) (clears-keep m hub pieces session call target answer a k) (looked m hub.dir.leaves session call target on)

  pub older-stands : SessionInPlace m hub pieces session (at_stage (stage.History call target) a)
  older-stands = stands-at m hub pieces session (at_stage (stage.History call target) a)
      (record { phase = k.phase; seated = record { opened = k.seated.opened; phase = k.seated.phase }; cursors = k.cursors; noted = k.noted }) on

  misses-stand : (answer : Answer (List ℕ)) → SessionInPlace m hub pieces session (misses call target answer a)
  misses-stand answer = stands-at m hub pieces session (misses call target answer a)
      (record { phase = k.phase; seated = record { opened = k.seated.opened; phase = k.seated.phase }; cursors = k.cursors; noted = k.noted }) on

  lands-stand : (cursor : ℕ) (answer : Answer (List ℕ)) → SessionInPlace m hub pieces session (lands cursor call target answer a)
  lands-stand cursor answer = stands-at m hub pieces session (lands cursor call target answer a)
      (record { phase = k.phase; seated = record { opened = k.seated.opened; phase = k.seated.phase }; cursors = placed-same a.word target a.cursors cursor ∙ k.cursors; noted = k.noted })
      (looked m hub.dir.leaves session call target on)

  moves-stand : (cursor : ℕ) (answer : Answer (List ℕ)) → SessionInPlace m hub pieces session (moves cursor call target answer a)
  moves-stand cursor (answers.Value v) = lands-stand cursor (answers.Value v)
  moves-stand cursor (answers.Row key v) = lands-stand cursor (answers.Row key v)
  moves-stand cursor (answers.Refused refusal.NotFound) = misses-stand (answers.Refused refusal.NotFound)
  moves-stand cursor answer = clears-stand answer

  pub answered-stands : (answer : Answer (List ℕ)) → SessionInPlace m hub pieces session (answered call target answer a)
  answered-stands answer = by (cursor_in call) where
    by : (o : Option ℕ) → SessionInPlace m hub pieces session (of_some (clears call target answer a) (λ cursor. moves cursor call target answer a) o)
    by None = clears-stand answer
    by (Some cursor) = moves-stand cursor answer

-- ---- what the session does after a look

abbrev pub made_in : List Leaf → Machine → ℕ → State → Made
made_in leaves next session b = record { told = reply.More; machine = next; doing = doing_in leaves session b }

-- with three steps left at least
module _ (leaves : List Leaf) (left : ℕ) (enough : 3 ≤ left) (next : Machine) (session : ℕ) (call : KeyCall) (target : Target) (a : State) where
  pub clears-does : (answer : Answer (List ℕ)) → GoesTo (Decided answer (event_with session call target a.key answer)) left next (made_in leaves next session (clears call target answer a))
  clears-does answer = (1, omega (arith, enough), refl)

  pub older-does : 4 ≤ left → GoesTo (Decided (answers.Refused refusal.NotFound) (event_with session call target a.key (answers.Refused refusal.NotFound))) left next (made_in leaves next session (at_stage (stage.History call target) a))
  older-does more = (3, omega (arith, more), refl)

  moves-does : (cursor : ℕ) (answer : Answer (List ℕ)) → GoesTo (Decided answer (event_with session call target a.key answer)) left next (made_in leaves next session (moves cursor call target answer a))
  moves-does cursor (answers.Value v) = (1, omega (arith, enough), refl)
  moves-does cursor (answers.Row key v) = (1, omega (arith, enough), refl)
  moves-does cursor (answers.Refused refusal.NotFound) = (2, omega (arith, enough), refl)
  moves-does cursor answer = (1, omega (arith, enough), refl)

  pub answered-does : (answer : Answer (List ℕ)) → GoesTo (Decided answer (event_with session call target a.key answer)) left next (made_in leaves next session (answered call target answer a))
  answered-does answer = by (cursor_in call) where
    by : (o : Option ℕ) → GoesTo (Decided answer (event_with session call target a.key answer)) left next (made_in leaves next session (of_some (clears call target answer a) (λ cursor. moves cursor call target answer a) o))
    by None = clears-does answer
    by (Some cursor) = moves-does cursor answer

  -- memory was too short
  pub short-does : GoesTo (Decided (answers.Refused refusal.NoMemory) Nothing) left next (made_in leaves next session (answered call target (answers.Refused refusal.NoMemory) a))
  short-does = subst (λ event. GoesTo (Decided (answers.Refused refusal.NoMemory) event) left next (made_in leaves next session (answered call target (answers.Refused refusal.NoMemory) a))) (by (cursor_in call)) (answered-does (answers.Refused refusal.NoMemory)) where
    by : (o : Option ℕ) → of_some Nothing (λ cursor. Nothing) o ≡ Nothing
    by None = refl
    by (Some cursor) = refl

-- ---- where a call looks

pub record AtLeaf (e : Engine) (w : World) (session frame : ℕ) (a : State) (p : FramePiece) (view : View) (call : KeyCall) (target : Target) : Type 0 where
  pub transaction : Transaction
  pub there : transaction_of w.machine session ≡ Some transaction
  pub running : transaction.phase ≡ Running
  pub drawn : is_write call ≡ true → 0 < transaction.id
  -- its leaf, and where it is
  pub home : Leaf
  pub home_there : Contains e.hub.dir.leaves home
  pub targeted : target_in home ≡ Some target
  pub number : home.table ≡ target.table
  pub laid : IsLaid e.pieces e.states home
  pub laid_at : laid.framed.frame ≡ frame
  pub place : target.frame ≡ frame
  -- as the frame was
  pub was : Frame
  pub held : p.frame ≡ Some was
  pub table : was.table ≡ home.table
  pub id : was.id ≡ home.id
  pub keys : (key : List ℕ) → LiesIn e.hub.dir.leaves home key → StandsFor w.machine target.table key (chain_at key was.leaf.chains) (shown_at key was.leaf.page) []
  pub bare : (key : List ℕ) → (LiesIn e.hub.dir.leaves home key → ⊥) → (chain_at key was.leaf.chains ≡ []) × (shown_at key was.leaf.page ≡ None)
  pub lies : 1 ≤ length was.leaf.page → was.leaf.page ≡ w.shelf home.id
  pub sees : ViewStands w.machine transaction view
  pub on : IsOnLeaf w.machine e.hub.dir.leaves session call target
  pub sought : IsSought w.machine e.hub.dir.leaves session a call home
  pub keeps : Keeps w.machine e.hub e.pieces session a

pub view-stands : (hub : Hub) (m : Machine) (session : ℕ) (t : Transaction) (view : View) → TableStands hub.txns m → IsViewOf hub session view → transaction_of m session ≡ Some t → ViewStands m t view
view-stands hub m session t view txns v there = let state = state-at hub.txns m session t txns there in record {
  own = v.own ∙ state.id;
  read = v.read ∙ state.read;
  sees = subst (λ (x : Sight). SeesFirst m t.start x) (sym v.sight) state.sees;
}

module _ (e : Engine) (w : World) (session frame : ℕ) (a : State) (p : FramePiece) (view : View) (call : KeyCall) (target : Target) where
  pub at-leaf : Stands e w → slice_get e.sessions session ≡ Some a → a.stage ≡ stage.Look call target → next_of a ≡ next.Frame frame → slice_get e.pieces frame ≡ Some p → IsViewOf e.hub session view
      → AtLeaf e w session frame a p view call target
  at-leaf st at is goes there v = record {
    transaction = seeks.0.0.0;
    there = seeks.0.0.1;
    running = seeks.0.0.2.0;
    drawn = seeks.0.0.2.1;
    home = seeks.0.1.0;
    home_there = seeks.0.1.1;
    targeted = seeks.0.1.2;
    number = number;
    laid = stands.laid;
    laid_at = laid_at;
    place = place;
    was = stands.laid.frame;
    held = sym (frame-there e.pieces frame p there) ∙ (ap (frame_in e.pieces) (sym laid_at) ∙ stands.laid.there);
    table = stands.laid.table;
    id = stands.laid.id;
    keys = λ key lies. subst (λ n. StandsFor w.machine n key (chain_at key stands.laid.frame.leaf.chains) (shown_at key stands.laid.frame.leaf.page) []) number
        (stands.keys key lies);
    bare = stands.bare;
    lies = stands.lies;
    sees = view-stands e.hub w.machine session seeks.0.0.0 view st.txns v seeks.0.0.1;
    on = seeks.0;
    sought = seeks.1;
    keeps = keeps w.machine e.hub e.pieces session a (st.sessions session a at);
  } where
    seeks : Seeks w.machine e.hub.dir.leaves session call target a
    seeks = subst (λ g. StageStands g w.machine e.hub.dir.leaves e.pieces session a) is (st.sessions session a at).stage

    stands : LeafInFrame w.machine w.shelf w.records e.hub.dir.leaves e.pieces e.states seeks.0.1.0
    stands = let is = target-is seeks.0.1.0 target seeks.0.1.2 in in-its-frame w.machine w.shelf w.records e.hub.dir.leaves e.pieces e.states seeks.0.1.0 is.framed is.placed (st.leaves seeks.0.1.0 seeks.0.1.1)

    number : seeks.0.1.0.table ≡ target.table
    number = ap (λ (x : Target). x.table) (target-is seeks.0.1.0 target seeks.0.1.2).is

    place : target.frame ≡ frame
    place = let same : next.Frame target.frame ≡ next.Frame frame = subst (λ g. next_at g a ≡ next.Frame frame) is goes in cc

    laid_at : stands.laid.framed.frame ≡ frame
    laid_at = target-frame e.pieces e.states seeks.0.1.0 target stands.laid seeks.0.1.2 ∙ place

  -- what the look makes of the leaf
  pub look-made : (a' : State) (p' : FramePiece) (x : AtLeaf e w session frame a p view call target) → a.stage ≡ stage.Look call target → FrameMade view p a p' a'
      → (leaf : HeldLeaf) × (p' ≡ record p { frame = Some (with_leaf leaf x.was) }) × LookedBy call view target x.was.leaf a leaf a'
  look-made a' p' x is made = subst (λ o. LookMade o call view target p a p' a') x.held (subst (λ g. FrameMadeAt g view p a p' a') is made)

  -- the step of a call at its look
  pub goes-placed : (made : Made) → a.stage ≡ stage.Look call target → GoesOn (w.again session) (Placed (call_in call a) target.table (4 + further_left call target e.hub.dir.leaves)) w.machine session made → GoesOn (w.again session) (doing_in e.hub.dir.leaves session a) w.machine session made
  goes-placed made is goes = subst (λ g. GoesOn (w.again session) (doing_at g e.hub.dir.leaves session a) w.machine session made) (sym is) goes

  pub pieces-same : (p' : FramePiece) (leaf : HeldLeaf) (x : AtLeaf e w session frame a p view call target) → slice_get e.pieces frame ≡ Some p → p' ≡ record p { frame = Some (with_leaf leaf x.was) } → leaf ≡ x.was.leaf
      → slice_set e.pieces frame p' ≡ e.pieces
  pieces-same p' leaf x there is same = ap (slice_set e.pieces frame) piece ∙ set-same e.pieces frame p there where
    piece : p' ≡ p
    piece = is ∙ (ap (λ l. record p { frame = Some (with_leaf l x.was) }) same ∙ ap (λ o. record p { frame = o }) (sym x.held))

  -- a look that changes no leaf
  pub quiet-leads : (a' : State) (p' : FramePiece) (leaf : HeldLeaf) (x : AtLeaf e w session frame a p view call target) → Stands e w → slice_get e.sessions session ≡ Some a → slice_get e.pieces frame ≡ Some p
      → p' ≡ record p { frame = Some (with_leaf leaf x.was) } → leaf ≡ x.was.leaf
      → GoesOn (w.again session) (doing_in e.hub.dir.leaves session a) w.machine session (made_in e.hub.dir.leaves w.machine session a') → SessionInPlace w.machine e.hub e.pieces session a'
      → Leads (with_session (with_piece e frame p') session a') w session reply.More
  quiet-leads a' p' leaf x st at there is same goes mine = subst (λ l. Leads (with_session (record e { pieces = l }) session a') w session reply.More) (sym (pieces-same p' leaf x there is same))
      (alone-leads e w session a a' e.hazards reply.More st at goes mine)

-- ---- looks that change no leaf

module _ (e : Engine) (w : World) (session frame : ℕ) (a a' : State) (p p' : FramePiece) (view : View) (call : KeyCall) (target : Target) (leaf : HeldLeaf) (x : AtLeaf e w session frame a p view call target)
    (st : Stands e w) (at : slice_get e.sessions session ≡ Some a) (there : slice_get e.pieces frame ≡ Some p) (look : a.stage ≡ stage.Look call target)
    (is : p' ≡ record p { frame = Some (with_leaf leaf x.was) }) (same : leaf ≡ x.was.leaf) where
  -- it finds this outcome
  pub looks-lead : (outcome : Outcome) (event : Event) (answer : Answer (List ℕ)) → LookAnswer (call_in call a) w.machine session x.transaction target.table outcome event → Tells outcome answer
      → LooksOn (call_in call a) w.machine answer event (4 + further_left call target e.hub.dir.leaves) (made_in e.hub.dir.leaves w.machine session a') → SessionInPlace w.machine e.hub e.pieces session a' → Leads (with_session (with_piece e frame p') session a') w session reply.More
  looks-lead outcome event answer finds tells goes mine = quiet-leads e w session frame a p view call target a' p' leaf x st at there is same
      (goes-placed e w session frame a p view call target (made_in e.hub.dir.leaves w.machine session a') look (inr (inl (record {
        transaction = x.transaction;
        outcome = outcome;
        event = event;
        answer = answer;
        there = x.there;
        finds = finds;
        tells = tells;
        goes = goes;
      })))) mine

  -- or memory was too short
  pub shorts-lead : GoesTo (Decided (answers.Refused refusal.NoMemory) Nothing) (4 + further_left call target e.hub.dir.leaves) w.machine (made_in e.hub.dir.leaves w.machine session a') → SessionInPlace w.machine e.hub e.pieces session a' → Leads (with_session (with_piece e frame p') session a') w session reply.More
  shorts-lead goes mine = quiet-leads e w session frame a p view call target a' p' leaf x st at there is same
      (goes-placed e w session frame a p view call target (made_in e.hub.dir.leaves w.machine session a') look (inr (inr (inl goes)))) mine
