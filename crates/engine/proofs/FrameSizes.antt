-- What an event on a frame leaves fits.
use Rattle.std.proofs.Common.{◌≡◌, ◌<◌, ◌≤◌, ◌^◌, ℕ, refl, ap, sym, ◌∙◌, Bool, true, false, List, [], ◌∷◌, length, inl, inr, subst, arith}
use Rattle.std.specs.Prelude.{Option, Some, None, ◌==◌, if◌then◌else◌}
use Rattle.item.specs.declared.Change.{Change}
use Rattle.item.specs.declared.Change.TheVariants.{Put, Remove}
use Rattle.stamp.specs.declared.Name.{Name}
use Rattle.stamp.specs.declared.Version.{Version}
use Rattle.stamp.specs.declared.View.{View}
use Rattle.wt_code.specs.declared.refusals.Refusal.{Refusal}
use Rattle.kv_model.specs.Refusals.{or_stamp, stamp_of}
use Rattle.kv_model.specs.Rows.{Way}
use Rattle.snapshot.specs.Sight.{Sight}
use Rattle.row_page.specs.Rows.{IsName, RowFits, key_most}
use Rattle.txn_table.specs.declared.phase.Phase.{Phase}
use Rattle.txn_table.specs.declared.phase.Phase.TheVariants as phase
use Rattle.update_chain.specs.declared.look.Judgement.TheVariants.{Allowed, Refused}
use Rattle.update_chain.specs.declared.update.Update.{Update}
use Rattle.update_chain.specs.Updates.{Reply, Gives, IsRemoved, Conflicts, IsOlder, is_named, unmarked_update}
use Rattle.update_chain.specs.Writing.{may_follow_by}
use Rattle.reconcile.specs.Shows.{shown_at}
use Rattle.leaf_frame.specs.Leaf.{HeldLeaf}
use Rattle.leaf_frame.specs.Looks.{read_at}
use Rattle.leaf_chains.specs.Slots.{chain_at}
use Rattle.reconcile.specs.Cells.{cell_version}
use Rattle.reconcile.proofs.Fitting.{install_fits}
use Rattle.wt_calls.specs.declared.demand.Demand.{Demand}
use Rattle.wt_calls.specs.declared.demand.Demand.TheVariants as demand
use Rattle.wt_calls.specs.Calls.{way_in}
use Rattle.call_steps.specs.declared.edit.Edit.{Edit}
use Rattle.call_steps.specs.declared.edit.Edit.TheVariants as edit
use Rattle.call_steps.specs.declared.frame.Frame.{Frame}
use Rattle.call_steps.specs.declared.frame.FramePiece.{FramePiece}
use Rattle.call_steps.specs.declared.hub.Hub.{Hub}
use Rattle.call_steps.specs.declared.stage.CommitStamps.{CommitStamps}
use Rattle.call_steps.specs.declared.stage.KeyCall.{KeyCall}
use Rattle.call_steps.specs.declared.stage.KeyCall.TheVariants as key_call
use Rattle.call_steps.specs.declared.stage.Stage.{Stage}
use Rattle.call_steps.specs.declared.stage.Stage.TheVariants as stage
use Rattle.call_steps.specs.declared.stage.Target.{Target}
use Rattle.call_steps.specs.FrameEvents.{FrameMade, FrameMadeAt, LookMade, edits, ordered, prev_in, starts_at, with_prev}
use Rattle.call_steps.specs.Leaves.{durable_of, edited}
use Rattle.call_steps.specs.Looks.{AcceptedBy, FoundBy, LookedBy, ReadBy, SteppedBy, found_by, found_under, free_or_unmet, from_of, is_put, own_name, refused, update_by, without_value, write_found}
use Rattle.call_steps.specs.Stages.{after_orders, after_stamps, marks, stamps_then, undoes}
use Rattle.call_steps.specs.State.{State, at_stage, clears, leaving_in}
use Rattle.call_steps.specs.Written.{frame_at}
use Rattle.engine_world.specs.Laws.{IsViewOf}
use Rattle.engine_world.specs.Stands.{Engine}
use Rattle.engine.specs.Events.{IsFrameEvent}
use Rattle.engine.specs.Sizes.{CallFitsAt, KeyCallFits, LeafFits, LeavesFit, MayOrder, MayStamp, NamesFit, SessionsFit, SizesFit, StampsFitAt, id_of}
use Rattle.engine.proofs.CallSizes.{CallFitsIn, after-orders-fit, after-stamps-fit, answered-fits, marks-fit, orders-fit, sessions-set, stamps-fit, undoes-fit}
use Rattle.engine.proofs.LeafSizes.{EditFits, PieceFits, changed-fits, edit-keeps, leaves-set, new-fits, piece-fits}

-- ---- looks

read-fits : (own : ℕ) (given : Reply) (call : KeyCall) (target : Target) (s s' : State) → ReadBy given call target s s' → CallFitsIn own s'
read-fits own (Gives v) call target s s' made = elim made [
  | inl copied ↦ subst (CallFitsIn own) (sym copied) (answered-fits own call target _ s)
  | inr short ↦ subst (CallFitsIn own) (sym short) (answered-fits own call target _ s)
]
read-fits own IsRemoved call target s s' made = subst (CallFitsIn own) (sym made) (answered-fits own call target _ s)
read-fits own (Conflicts id) call target s s' made = subst (CallFitsIn own) (sym made) (answered-fits own call target _ s)
read-fits own IsOlder call target s s' made = subst (CallFitsIn own) (sym made) tt

step-fits : (own : ℕ) (view : View) (cursor : ℕ) (call : KeyCall) (target : Target) (leaf : HeldLeaf) (s s' : State) (way : Way) → KeyCallFits call own s → SteppedBy view way (from_of s cursor target.table) call target leaf s s' → CallFitsIn own s'
step-fits own view cursor call target leaf s s' way small made = elim made [
  | inl row ↦ subst (CallFitsIn own) (sym row.3) (answered-fits own call target _ (record s { key = row.0 }))
  | inr other ↦ elim other [
    | inl conflict ↦ subst (CallFitsIn own) (sym conflict.3) (answered-fits own call target _ s)
    | inr rest ↦ elim rest [
      | inl none ↦ subst (CallFitsIn own) (sym none.1) small
      | inr short ↦ subst (CallFitsIn own) (sym short) (answered-fits own call target _ s)
    ]
  ]
]

module _ (own : ℕ) (view : View) (name : Name) (call : KeyCall) (target : Target) (change : Change) (leaf : HeldLeaf) (s : State) (leaf' : HeldLeaf) (s' : State) where
  abbrev After : Type 0
  After = LeafFits leaf' × CallFitsIn own s'

  module _ (new : RowFits [] key_most (s.key, cell_version (update_by name change).version)) (fit : LeafFits leaf) where
    refused-fits : (r : Refusal) → (leaf' ≡ leaf) × (s' ≡ clears call target (refused r) s) → After
    refused-fits r made = (subst LeafFits (sym made.0) fit, subst (CallFitsIn own) (sym made.1) tt)

    accepted-fits : AcceptedBy name call target change leaf s leaf' s' → After
    accepted-fits made = elim made [
      | inl taken ↦ (subst LeafFits (sym taken.1.leaf_is) (install_fits s.key (update_by name change) leaf.chains new fit), subst (CallFitsIn own) (sym taken.2) tt)
      | inr short ↦ (subst LeafFits (sym short.0) fit, subst (CallFitsIn own) (sym short.1) tt)
    ]

    free-fits : (wanted : Demand) (there led : Bool) → FoundBy (free_or_unmet wanted there led) name call target change leaf s leaf' s' → After
    free-fits demand.Anything true led made = accepted-fits made
    free-fits demand.Anything false led made = accepted-fits made
    free-fits demand.Vacant true led made = refused-fits _ made
    free-fits demand.Vacant false led made = accepted-fits made
    free-fits demand.Occupied true led made = accepted-fits made
    free-fits demand.Occupied false led made = refused-fits _ made

    write-fits : (wanted : Demand) (chain : List Update) (row : Option (Version Change)) → FoundBy (write_found view wanted chain row) name call target change leaf s leaf' s' → After
    write-fits wanted [] None made = free-fits wanted false false made
    write-fits wanted [] (Some v) made = by (may_follow_by view (unmarked_update v)) made where
      by : (b : Bool) → FoundBy (found_under (if b then Allowed else Refused v.window.name) wanted v) name call target change leaf s leaf' s' → After
      by true made = free-fits wanted (is_put v.change) false made
      by false made = (subst LeafFits (sym made.0) fit, subst (CallFitsIn own) (sym made.1) tt)
    write-fits wanted (u ∷ older) row made = by (may_follow_by view u) made where
      by : (b : Bool) → FoundBy (found_by (if b then Allowed else Refused u.version.window.name) view wanted u) name call target change leaf s leaf' s' → After
      by true made = free-fits wanted (is_put u.version.change) (is_named (own_name view) u) made
      by false made = (subst LeafFits (sym made.0) fit, subst (CallFitsIn own) (sym made.1) tt)

looked-fits : (own : ℕ) (call : KeyCall) (view : View) (target : Target) (leaf : HeldLeaf) (s : State) (leaf' : HeldLeaf) (s' : State) → LookedBy call view target leaf s leaf' s'
    → (1 ≤ own → IsName (own_name view)) → KeyCallFits call own s → LeafFits leaf → LeafFits leaf' × CallFitsIn own s'
looked-fits own key_call.Get view target leaf s leaf' s' made named small fit = (subst LeafFits (sym made.0) fit, read-fits own (read_at view s.key leaf) key_call.Get target s s' made.1)
looked-fits own (key_call.Seek cursor) view target leaf s leaf' s' made named small fit =
    (subst LeafFits (sym made.0) fit, read-fits own (read_at view s.key leaf) (key_call.Seek cursor) target s s' made.1)
looked-fits own (key_call.Step cursor way) view target leaf s leaf' s' made named small fit =
    (subst LeafFits (sym made.0) fit, step-fits own view cursor (key_call.Step cursor way) target leaf s s' (way_in way) small made.1)
looked-fits own (key_call.Put wanted) view target leaf s leaf' s' made named small fit =
    write-fits own view (own_name view) (key_call.Put wanted) target (Put s.value) leaf (without_value s) leaf' s' (new-fits (own_name view) s.key (Put s.value) (named (small.1 refl)) small.0.0 small.0.1) fit wanted (chain_at s.key leaf.chains) (shown_at s.key leaf.page) made
looked-fits own key_call.Remove view target leaf s leaf' s' made named small fit =
    write-fits own view (own_name view) key_call.Remove target Remove leaf s leaf' s' (new-fits (own_name view) s.key Remove (named (small.1 refl)) small.0.0 (omega arith)) fit demand.Occupied (chain_at s.key leaf.chains) (shown_at s.key leaf.page) made

-- ---- stages

ordered-fits : (own : ℕ) (stamps : CommitStamps) (left : ℕ) (s : State) → MayOrder s.phase → CallFitsIn own (ordered stamps left s)
ordered-fits own stamps left s may = orders-fit stamps left (after_orders s.phase stamps (length s.written)) own (ordered stamps left s) may (after-orders-fit s.phase stamps (length s.written) own (ordered stamps left s) refl may)

stamped-fits : (own : ℕ) (stamps : CommitStamps) (left : ℕ) (s : State) → MayStamp s.phase stamps → CallFitsIn own (at_stage (stamps_then stamps left (after_stamps s.phase stamps)) s)
stamped-fits own stamps left s may = stamps-fit stamps left (after_stamps s.phase stamps) own later may (after-stamps-fit s.phase stamps own later) where
  later : State
  later = at_stage (stamps_then stamps left (after_stamps s.phase stamps)) s

-- ---- stamps

no-longer : (d c : ℕ) → d < 2 ^ 64 → c < 2 ^ 64 → or_stamp d c < 2 ^ 64
no-longer d c fit other = by (d == 0) where
  by : (b : Bool) → (if b then c else d) < 2 ^ 64
  by true = other
  by false = fit

-- the stamps with which the updates of a leaf are stamped
stamp-fits : (p : Phase) (stamps : CommitStamps) (left : ℕ) → StampsFitAt (stage.Stamp stamps left) → MayStamp p stamps → EditFits (edit.Stamp (stamp_of stamps.commit) (durable_of p stamps))
stamp-fits phase.Running stamps left small may = (omega arith, small.0)
stamp-fits phase.Resolving stamps left small may = (may, no-longer (stamp_of stamps.durable) (stamp_of stamps.commit) small.1 small.0)
stamp-fits phase.Idle stamps left small may = absurd may
stamp-fits phase.Failed stamps left small may = absurd may
stamp-fits (phase.Prepared at) stamps left small may = absurd may
stamp-fits phase.Leaving stamps left small may = absurd may

-- the name of a transaction that has drawn its id
own-fits : (h : Hub) (session : ℕ) (view : View) → IsViewOf h session view → NamesFit h.txns → 1 ≤ id_of h.txns session → IsName (own_name view)
own-fits h session view is-view names drawn = record {
  run = (run-begun, run-most);
  id = (id-some, id-most);
} where
  run-is : view.run ≡ h.txns.run
  run-is = ap (λ (s : Sight). s.run) is-view.sight ∙ names.sights session

  run-begun : 1 ≤ view.run
  run-begun = let begun = names.begun in omega (arith, run-is, begun)

  run-most : view.run < 2 ^ 62
  run-most = let most = names.run in omega (arith, run-is, most)

  id-is : view.own ≡ id_of h.txns session
  id-is = is-view.own

  id-some : 1 ≤ view.own
  id-some = omega (arith, id-is, drawn)

  id-most : view.own < 2 ^ 62
  id-most = let below = names.drawn session in let most = names.next in omega (arith, id-is, below, most)

module _ (a : State) (own : ℕ) (view : View) (named : 1 ≤ own → IsName (own_name view)) where
  -- what an event leaves of its piece and of the session
  event-fits : (a' : State) (p p' : FramePiece) → FrameMade view p a p' a' → StampsFitAt a.stage → PieceFits p → CallFitsIn own a → PieceFits p' × CallFitsIn own a'
  event-fits a' p p' made small was here = by a.stage made small here where
    edits-fit : (x : Edit) (left : ℕ) → EditFits x → PieceFits (edits view x a left p)
    edits-fit x left fits = changed-fits (edited (own_name view) x) (edit-keeps (own_name view) x fits) a.written (frame_at a.written left) left p was

    look : (call : KeyCall) (target : Target) (o : Option Frame) → p.frame ≡ o → LookMade o call view target p a p' a' → KeyCallFits call own a → PieceFits p' × CallFitsIn own a'
    look call target None is looked items = (subst PieceFits (sym looked.0) was, subst (CallFitsIn own) (sym looked.1) (answered-fits own call target _ a))
    look call target (Some f) is looked items = (subst PieceFits (sym looked.1) (λ g same. subst LeafFits (let e : record f { leaf = looked.0 } ≡ g = cc in ap (λ (x : Frame). x.leaf) e) after.0), after.1) where
      after : LeafFits looked.0 × CallFitsIn own a'
      after = looked-fits own call view target f.leaf a looked.0 a' looked.2 named items (was f is)

    by : (g : Stage) → FrameMadeAt g view p a p' a' → StampsFitAt g → CallFitsAt g own a → PieceFits p' × CallFitsIn own a'
    by (stage.Look call target) made small items = look call target p.frame refl made items
    by (stage.Mark stamp left) made small items = (subst PieceFits (sym made.0) (edits-fit (edit.Mark stamp) left tt), subst (CallFitsIn own) (sym made.1) (marks-fit stamp (starts_at a left) own (at_stage (marks stamp (starts_at a left)) a)))
    by (stage.Order stamps left) made small items =
        (subst PieceFits (sym made.0) was, subst (CallFitsIn own) (sym made.1) (ordered-fits own (with_prev stamps (prev_in p.frame a left stamps.prev)) (starts_at a left) a items))
    by (stage.Stamp stamps left) made small items =
        (subst PieceFits (sym made.0) (edits-fit (edit.Stamp (stamp_of stamps.commit) (durable_of a.phase stamps)) left (stamp-fits a.phase stamps left small items)), subst (CallFitsIn own) (sym made.1) (stamped-fits own stamps (starts_at a left) a items))
    by (stage.Undo left) made small items = (subst PieceFits (sym made.0) (edits-fit edit.Undo left tt), subst (CallFitsIn own) (sym made.1) (undoes-fit (starts_at a left) own (at_stage (undoes (starts_at a left)) (leaving_in a.phase a))))
    by _ made small items = (subst PieceFits (sym made.0) was, subst (CallFitsIn own) (sym made.1) here)

pub frame-sizes : (e : Engine) (view : View) (session frame : ℕ) (pieces : List FramePiece) (sessions : List State) → IsFrameEvent view session frame e.pieces e.sessions pieces sessions → IsViewOf e.hub session view
    → SizesFit e → SizesFit (record e { pieces = pieces; sessions = sessions })
frame-sizes e view session frame pieces sessions v is-view fit = record {
  leaves = subst LeavesFit (sym v.pieces_are) (leaves-set e.pieces frame v.p' fit.leaves left.0);
  sessions = subst (SessionsFit e.hub.txns) (sym v.sessions_are) (sessions-set e.hub.txns e.hub.txns e.sessions session v.a v.a' fit.sessions v.session_is (λ r other. refl) left.1);
  names = fit.names;
} where
  left : PieceFits v.p' × CallFitsIn (id_of e.hub.txns session) v.a'
  left = event-fits v.a (id_of e.hub.txns session) view (own-fits e.hub session view is-view fit.names) v.a' v.p v.p' v.made v.stamps (piece-fits e.pieces frame v.p v.piece fit.leaves) (fit.sessions session v.a v.session_is)
