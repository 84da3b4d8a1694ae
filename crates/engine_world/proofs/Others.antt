-- What stands of a session goes on to stand over an event of another, and over those of the system.
use Rattle.std.proofs.Common.{◌≡◌, ◌≢◌, ◌⊎◌, ◌<◌, ◌≤◌, ◌+◌, ◌*◌, ℕ, Bool, true, refl, ap, sym, ◌∙◌, List, [], inl, inr, subst, arith}
use Rattle.std.specs.Prelude.{Option, Some, None, option_map, slice_index_or}
use Rattle.std.specs.List.{Contains}
use Rattle.std.proofs.lemmas.Bool.{cases_eq}
use Rattle.std.proofs.lemmas.Option.{same_Some}
use Rattle.failure.specs.declared.Fault.{Fault}
use Rattle.kv_model.specs.Allowed.{HasTransaction}
use Rattle.kv_model.specs.Decisions.{is_there}
use Rattle.kv_model.specs.Holds.{Member}
use Rattle.kv_model.specs.History.{Write, line, version_of}
use Rattle.kv_model.specs.Machine.{Machine, Transaction, Phase, Running, Failed, Prepared, Resolving, Leaving, of_some, name_in, transaction_of}
use Rattle.kv_model.specs.Pending.{NoneOf}
use Rattle.kv_model.specs.Reads.{IsEnding}
use Rattle.kv_model.specs.Refusals.{newest_durable, stamp_of, or_stamp}
use Rattle.kv_model.specs.Rows.{Way, is_past, starts_at}
use Rattle.kv_model.specs.Valid.{Valid}
use Rattle.tree_dir.specs.declared.leaf.Leaf.{Leaf}
use Rattle.tree_dir.specs.declared.leaf.Framed.{Framed}
use Rattle.tree_dir.specs.Leaves.{Directory, leaf_under}
use Rattle.call_steps.specs.Tables.{filled, target_in}
use Rattle.update_chain.specs.declared.update.Update.{Update}
use Rattle.update_chain.specs.EventLaws.{outcome}
use Rattle.wt_calls.specs.Calls.{way_in}
use Rattle.call_steps.specs.declared.edit.Edit.{Edit}
use Rattle.call_steps.specs.declared.edit.Edit.TheVariants as edit
use Rattle.call_steps.specs.declared.frame.FramePiece.{FramePiece}
use Rattle.call_steps.specs.declared.hub.Hub.{Hub}
use Rattle.call_steps.specs.declared.stage.CommitStamps.{CommitStamps}
use Rattle.call_steps.specs.declared.stage.KeyCall.{KeyCall}
use Rattle.call_steps.specs.declared.stage.KeyCall.TheVariants as key_call
use Rattle.call_steps.specs.declared.stage.Stage.{Stage}
use Rattle.call_steps.specs.declared.stage.Stage.TheVariants as stage
use Rattle.call_steps.specs.declared.stage.Target.{Target}
use Rattle.call_steps.specs.declared.stage.Wanted.{Wanted}
use Rattle.call_steps.specs.declared.written.WrittenKey.{WrittenKey}
use Rattle.call_steps.specs.Leaves.{chain_in}
use Rattle.call_steps.specs.Stages.{is_write, cursor_in}
use Rattle.call_steps.specs.State.{State}
use Rattle.engine_world.specs.Doings.{call_in, doing_at, doing_in, further_from, further_left}
use Rattle.engine_world.specs.Evicting.{NoneWroteIn}
use Rattle.engine_world.specs.GoingOut.{IsAside, frame_in_hand}
use Rattle.engine_world.specs.Leaves.{AreNoted, EditedDownTo, IsSlotOf, durable_under, slots_in}
use Rattle.engine_world.specs.Stages.{AreCommitted, Awaits, HasFound, IsLeafAt, DecidesStand, DoneStands, EndsOnlyDown, ForTransaction, HasLooked, IsEdited, IsLeafOf, IsOnLeaf, IsOrdered, IsPassed, IsPast, IsSought, MarksStand, NoneAmong, NoneStands, OrdersStand, ResolvesStand, Seeks, StageStands, StampsStand, UndoesStand, stamps_in, wanted_in, way_of}
use Rattle.engine_world.specs.Stands.{SessionStands, writes_in}
use Rattle.engine_world.specs.Walks.{leaves_on, passed, passed_with}
use Rattle.engine_world.specs.Worlds.{Placed}
use Rattle.engine_world.proofs.Beside.{Apart, Beside, IsAlike, LeavesKept, LeavesStay, MachineApart, OthersAtHome, StayWritten}
use Rattle.engine_world.proofs.Events.{at-home}
use Rattle.engine_world.proofs.Homes.{IsTarget, target-from, target-is}
use Rattle.engine_world.proofs.NotedSlots.{at-index, drawn-with, noted-stay, own-found, slot-chain, slot-durable, slot-stays, stay-same}
use Rattle.engine_world.proofs.WalkKeys.{passed-kept, passed-with-kept}

-- a session beside the one of which the event is, with the slots that were noted for it
record IsOther (freed : Option ℕ) (session : ℕ) (m next : Machine) (leaves made : List Leaf) (pieces later : List FramePiece) (r : ℕ) (b : State) : Type 0 where
  machine : MachineApart session m next
  stay : LeavesStay freed leaves made pieces later
  updates : OthersAtHome freed m session leaves pieces later
  other : r ≢ session
  valid : Valid m
  noted : AreNoted leaves pieces (writes_in m r) b.written
  written : StayWritten freed b.written

freed-or : (freed : Option ℕ) (frame : ℕ) → (freed ≡ Some frame) ⊎ (freed ≢ Some frame)
freed-or None frame = inr (λ is. absurd cc)
freed-or (Some other) frame = elim (cases_eq other frame) [
  | inl same ↦ inl (ap (λ (n : ℕ). Some n) same)
  | inr apart ↦ inr (λ is. apart (same_Some other frame is))
]

-- a stage is not at the leaf that left
abbrev StaysAside : Option ℕ → Stage → Type 0
StaysAside freed at = (frame : ℕ) → freed ≡ Some frame → frame_in_hand at ≢ Some frame

module _ (freed : Option ℕ) (session : ℕ) (m next : Machine) (leaves made : List Leaf) (pieces later : List FramePiece) (r : ℕ) (b : State) (o : IsOther freed session m next leaves made pieces later r b) where
  -- ---- its transaction

  same : transaction_of next r ≡ transaction_of m r
  same = o.machine.others r o.other

  still : (P Q : Transaction → Type 0) → ((t : Transaction) → transaction_of m r ≡ Some t → P t → Q t) → HasTransaction m r P → HasTransaction next r Q
  still P Q over has = (has.0, same ∙ has.1, over has.0 has.1 has.2)

  each : (P Q : Transaction → Type 0) → ((t : Transaction) → transaction_of m r ≡ Some t → P t → Q t) → ForTransaction m r P → ForTransaction next r Q
  each P Q over all t there = over t (sym same ∙ there) (all t (sym same ∙ there))

  ends-down : EndsOnlyDown m r → EndsOnlyDown next r
  ends-down down t there ending = subst (λ (f : Option Fault). is_there f ≡ true) (sym o.machine.fault) (down t (sym same ∙ there) ending)

  -- a leaf as it is now
  abbrev now : Leaf → Leaf
  now l = o.stay.kept.to l

  alike : (l : Leaf) → IsAlike freed l (now l)
  alike l = o.stay.kept.alike l

  target-now : (l : Leaf) (target : Target) → freed ≢ Some target.frame → IsTarget l target → target_in (now l) ≡ Some target
  target-now l target stays t = target-from (now l) t.framed ((alike l).frame t.framed t.placed (λ is. stays (is ∙ ap (λ (x : Target). Some x.frame) t.is))) ∙ ap (λ (x : Target). Some x)
      (ap (λ n. target_of n (now l).id t.framed) (alike l).table ∙ (ap (λ n. target_of l.table n t.framed) (alike l).id ∙ t.is)) where
        target_of : ℕ → ℕ → Framed → Target
        target_of table id f = record { table = table; leaf = id; frame = f.frame; word = filled f.generation }

  abbrev leaf-stays : (target : Target) → freed ≢ Some target.frame → IsLeafOf leaves target → IsLeafOf made target
  leaf-stays target stays x = let t = target-is x.0 target x.2 in (now x.0, o.stay.kept.there x.0 x.1, target-now x.0 target stays t)

  abbrev on-leaf : (call : KeyCall) (target : Target) → freed ≢ Some target.frame → IsOnLeaf m leaves r call target → IsOnLeaf next made r call target
  on-leaf call target stays x =
      (still (λ t. (t.phase ≡ Running) × (is_write call ≡ true → 0 < t.id)) (λ t. (t.phase ≡ Running) × (is_write call ≡ true → 0 < t.id)) (λ t there p. p) x.0, leaf-stays target stays x.1)

  looked : (call : KeyCall) (target : Target) → HasLooked m r call → HasLooked next r call
  looked call target x = still Of Of (λ t there p. p) x where
    Of : Transaction → Type 0
    Of t = (t.phase ≡ Running) ⊎ ((t.phase ≡ Failed) × (cursor_in call ≡ None))

  -- ---- its walk

  -- what had no row has none
  none-stays : (table : ℕ) (way : Way) (range later_range : List ℕ → Bool) → ((k : List ℕ) → later_range k ≡ range k) → NoneAmong m r table way range → NoneAmong next r table way later_range
  none-stays table way range later_range equal none t there k is = o.machine.absent r t table k o.other (sym same ∙ there) (none t (sym same ∙ there) k (sym (equal k) ∙ is))

  -- its cursors start where they did
  way-same : (table cursor : ℕ) (way : Way) → way_of next r table cursor way ≡ way_of m r table cursor way
  way-same table cursor way = ap (λ cursors. is_past way (starts_at table (slice_index_or cursors cursor None))) (o.machine.cursors r o.other)

  sought-stays : (call : KeyCall) (l : Leaf) → Contains leaves l → IsSought m leaves r b call l → IsSought next made r b call (now l)
  sought-stays (key_call.Step cursor way) l there x = subst (λ n. NoneAmong next r n (way_in way) (passed (way_in way) made (now l) (way_of next r n cursor (way_in way)))) (sym (alike l).table)
      (none-stays l.table (way_in way) (passed (way_in way) leaves l (way_of m r l.table cursor (way_in way))) (passed (way_in way) made (now l) (way_of next r l.table cursor (way_in way)))
      (λ k. passed-kept freed (way_in way) leaves made l (now l) (way_of next r l.table cursor (way_in way)) k (alike l) (o.stay.kept.behind l there)
      ∙ ap (λ within. passed (way_in way) leaves l within k) (way-same l.table cursor (way_in way))) x)
  sought-stays call l there x = ap (λ n. leaf_under n b.key made) (alike l).table ∙ o.stay.kept.under l.table b.key l x

  seeks-stay : (call : KeyCall) (target : Target) → freed ≢ Some target.frame → Seeks m leaves r call target b → Seeks next made r call target b
  seeks-stay call target stays x = (on-leaf call target stays x.0, sought-stays call x.0.1.0 x.0.1.1 x.1)

  passed-stays : (call : KeyCall) (l : Leaf) → Contains leaves l → IsPassed m leaves r call l → IsPassed next made r call (now l)
  passed-stays (key_call.Step cursor way) l there x = subst (λ n. NoneAmong next r n (way_in way) (passed_with (way_in way) made (now l) (way_of next r n cursor (way_in way)))) (sym (alike l).table)
      (none-stays l.table (way_in way) (passed_with (way_in way) leaves l (way_of m r l.table cursor (way_in way))) (passed_with (way_in way) made (now l) (way_of next r l.table cursor (way_in way)))
      (λ k. passed-with-kept freed (way_in way) leaves made l (now l) (way_of next r l.table cursor (way_in way)) k (alike l) (o.stay.kept.behind l there)
      ∙ ap (λ within. passed_with (way_in way) leaves l within k) (way-same l.table cursor (way_in way))) x)
  passed-stays call l there x = x

  waits : (call : KeyCall) (wanted : Wanted) → Awaits m leaves r call wanted b → Awaits next made r call wanted b
  waits call wanted x = (
    still (λ t. (t.phase ≡ Running) × (is_write call ≡ true → 0 < t.id)) (λ t. (t.phase ≡ Running) × (is_write call ≡ true → 0 < t.id)) (λ t there p. p) x.0,
    ((now x.1.0.0, o.stay.kept.there x.1.0.0 x.1.0.1, (alike x.1.0.0).id ∙ x.1.0.2, (alike x.1.0.0).table ∙ x.1.0.3), sought-stays call x.1.0.0 x.1.0.1 x.1.1),
  )

  -- its leaf is where it was found, or the frame is past it
  found-stays : (call : KeyCall) (target : Target) → HasFound m leaves pieces r call target b → HasFound next made later r call target b
  unfolding waits
  found-stays call target x = (waits call (wanted_in target) x.0, by x.1) where
    by : (target_in x.0.1.0.0 ≡ Some target) ⊎ IsPast pieces target → (target_in (now x.0.1.0.0) ≡ Some target) ⊎ IsPast later target
    by (inl is) = elim (freed-or freed target.frame) [
      | inl left ↦ inr (o.stay.past x.0.1.0.0 target x.0.1.0.1 is left)
      | inr stays ↦ inl (target-now x.0.1.0.0 target stays (target-is x.0.1.0.0 target is))
    ]
    by (inr past) = let older = o.stay.older target.frame in inr (omega (arith, past, older))

  -- ---- its writes

  of-writes : (t : Transaction) → transaction_of m r ≡ Some t → AreNoted leaves pieces t.writes b.written
  of-writes t there = subst (λ ws. AreNoted leaves pieces ws b.written) (ap (of_some [] (λ (x : Transaction). x.writes)) there) o.noted

  -- the line of a key that it holds
  line-held : (t : Transaction) → transaction_of m r ≡ Some t → (IsEnding t.phase → ⊥) → (w : Write) → Member w t.writes → line next.history w.table w.key ≡ line m.history w.table w.key
  line-held t there alive w member = o.machine.held r t w.table w.key o.other there alive (own-found w t.writes member)

  -- a chain in a slot that was noted has no more updates of its name than before
  update-was : (t : Transaction) → transaction_of m r ≡ Some t → (k : WrittenKey) (w : Write) → Member k b.written → Member w t.writes → IsSlotOf leaves pieces k w.table w.key
      → (u : Update) → Member u (chain_in (slots_in later k.frame) k.slot) → u.version.window.name ≡ name_in m.run t → Member u (chain_in (slots_in pieces k.frame) k.slot)
  update-was t there k w noted member s u now named = subst (λ l. Member u l) (sym (slot-chain w.key (slots_in pieces k.frame) k.slot s.slot))
      (o.updates r t o.other there (drawn-with m r t w o.valid there member) w.table w.key k.frame s.home (o.written k noted) u
      (subst (λ l. Member u l) (slot-chain w.key (slots_in later k.frame) k.slot (o.stay.slots w.table w.key k.frame w.key k.slot s.home (o.written k noted) s.slot)) now) named)

  edited : (t : Transaction) → transaction_of m r ≡ Some t → (e : Edit) (left : ℕ) → IsEdited e m pieces t b left → IsEdited e next later t b left
  edited t there e left done = subst (λ run. EditedDownTo e (name_in run t) later b.written left) (sym o.machine.run)
      (λ i k le at u now named. let noted = at-index b.written i k at in let w = (of-writes t there).wrote k noted in done i k le at u (update-was t there k w.0 noted w.1 w.2 u now named) named)

  ordered : (t : Transaction) → transaction_of m r ≡ Some t → (IsEnding t.phase → ⊥) → (stamps : CommitStamps) (left : ℕ)
      → IsOrdered stamps m pieces t b left → IsOrdered stamps next later t b left
  ordered t there alive stamps left x = record {
    covers = λ i k le at. subst (λ d. d ≤ stamps.prev) (sym (under k (at-index b.written i k at))) (x.covers i k le at);
    least = elim x.least [
      | inl none ↦ inl none
      | inr one ↦ inr (one.0, one.1, one.2 ∙ ap newest_durable (sym (line-held t there alive one.0 one.1)))
    ];
  } where
    under : (k : WrittenKey) → Member k b.written → durable_under next later k ≡ durable_under m pieces k
    under k member = let w = (of-writes t there).wrote k member in
        slot-durable next made later k w.0.table w.0.key (slot-stays freed leaves made pieces later k w.0.table w.0.key o.stay (o.written k member) w.2)
        ∙ (ap newest_durable (line-held t there alive w.0 w.1) ∙ sym (slot-durable m leaves pieces k w.0.table w.0.key w.2))

  committed : (t : Transaction) (stamps : CommitStamps) → AreCommitted stamps m t → AreCommitted stamps next t
  committed t stamps x w member =
      let commit = stamp_of stamps.commit in let durable = or_stamp (stamp_of stamps.durable) (stamp_of stamps.commit) in
      subst (λ run. Member (version_of (name_in run t) (record { table = w.table; key = w.key; change = w.change; commit = commit; durable = durable })) (line next.history w.table w.key))
      (sym o.machine.run) (o.machine.grown w.table w.key (outcome m t w commit durable) (x w member))

  none-stands : (t : Transaction) → transaction_of m r ≡ Some t → NoneStands m t → NoneStands next t
  none-stands t there x w member = subst (λ run. NoneOf (name_in run t) (line next.history w.table w.key)) (sym o.machine.run)
      (o.machine.none r t w.table w.key o.other there (drawn-with m r t w o.valid there member) (x w member))

  -- ---- by the phase

  marks : (t : Transaction) → transaction_of m r ≡ Some t → (p : Phase) (stamp : ℕ) → MarksStand p stamp m pieces t b → MarksStand p stamp next later t b
  marks t there Running stamp x = edited t there (edit.Mark stamp) 0 x
  marks t there _ stamp x = x

  orders : (t : Transaction) → transaction_of m r ≡ Some t → (p : Phase) → t.phase ≡ p → (stamps : CommitStamps) (left : ℕ)
      → OrdersStand p stamps m pieces t b left → OrdersStand p stamps next later t b left
  orders t there Running is stamps left x = ordered t there (λ e. subst IsEnding is e) stamps left x
  orders t there (Prepared at) is stamps left x = ordered t there (λ e. subst IsEnding is e) stamps left x
  orders t there _ is stamps left x = x

  stamped : (t : Transaction) → transaction_of m r ≡ Some t → (p : Phase) → t.phase ≡ p → (stamps : CommitStamps) (left : ℕ)
      → StampsStand p stamps m pieces t b left → StampsStand p stamps next later t b left
  stamped t there Running is stamps left x = (ordered t there (λ e. subst IsEnding is e) stamps 0 x.0, edited t there (stamps_in Running stamps) left x.1)
  stamped t there Resolving is stamps left x = (committed t stamps x.0, edited t there (stamps_in Resolving stamps) left x.1)
  stamped t there _ is stamps left x = x

  decides : (t : Transaction) → transaction_of m r ≡ Some t → (p : Phase) → t.phase ≡ p → (stamps : CommitStamps)
      → DecidesStand p stamps m pieces t b → DecidesStand p stamps next later t b
  decides t there Running is stamps x = (ordered t there (λ e. subst IsEnding is e) stamps 0 x.0, edited t there (stamps_in Running stamps) 0 x.1)
  decides t there (Prepared at) is stamps x = ordered t there (λ e. subst IsEnding is e) stamps 0 x
  decides t there _ is stamps x = x

  undone : (t : Transaction) → transaction_of m r ≡ Some t → (p : Phase) (left : ℕ) → UndoesStand p m pieces t b left → UndoesStand p next later t b left
  undone t there Leaving left x = edited t there edit.Undo left x
  undone t there Resolving left x = (none-stands t there x.0, edited t there edit.Undo left x.1)
  undone t there _ left x = x

  done : (t : Transaction) → transaction_of m r ≡ Some t → (p : Phase) → DoneStands p m pieces t b → DoneStands p next later t b
  done t there Leaving x = edited t there edit.Undo 0 x
  done t there Resolving x = elim x [
    | inl out ↦ inl (edited t there edit.Undo 0 out)
    | inr by ↦ inr (by.0, by.1, edited t there (edit.Stamp by.0 by.1) 0 by.2)
  ]
  done t there _ x = x

  -- ---- by the stage

  stays : (at : Stage) → StaysAside freed at → StageStands at m leaves pieces r b → StageStands at next made later r b
  stays stage.Rest aside x = ends-down x
  stays (stage.Begin read) aside x = ends-down x
  stays (stage.Find call) aside x = (ends-down x.0, x.1)
  stays (stage.Fill call wanted) aside x = waits call wanted x
  stays (stage.Publish call target) aside x = found-stays call target x
  stays (stage.Validate call target) aside x = found-stays call target x
  stays (stage.Look call target) aside x = seeks-stay call target (λ is. aside target.frame is refl) x
  stays (stage.Pass call target) aside x = (on-leaf call target (λ is. aside target.frame is refl) x.0, passed-stays call x.0.1.0 x.0.1.1 x.1)
  stays (stage.History call target) aside x = on-leaf call target (λ is. aside target.frame is refl) x
  stays (stage.ClearCursor call target) aside x = on-leaf call target (λ is. aside target.frame is refl) x
  stays (stage.Clear call target) aside x = looked call target x
  stays (stage.Reset cursor) aside x = ends-down x
  stays (stage.Mark stamp left) aside x = (
    x.0,
    still (λ t. (t.phase ≡ Running) × IsEdited (edit.Mark stamp) m pieces t b left) (λ t. (t.phase ≡ Running) × IsEdited (edit.Mark stamp) next later t b left)
        (λ t there p. (p.0, edited t there (edit.Mark stamp) left p.1)) x.1,
  )
  stays (stage.Release stamp) aside x =
      (ends-down x.0, each (λ t. MarksStand t.phase stamp m pieces t b) (λ t. MarksStand t.phase stamp next later t b) (λ t there p. marks t there t.phase stamp p) x.1)
  stays (stage.Order stamps left) aside x = (
    x.0,
    still (λ t. OrdersStand t.phase stamps m pieces t b left) (λ t. OrdersStand t.phase stamps next later t b left)
        (λ t there p. orders t there t.phase refl stamps left p) x.1,
  )
  stays (stage.Stamp stamps left) aside x = (
    x.0,
    still (λ t. StampsStand t.phase stamps m pieces t b left) (λ t. StampsStand t.phase stamps next later t b left)
        (λ t there p. stamped t there t.phase refl stamps left p) x.1,
  )
  stays (stage.Decide stamps) aside x = (
    ends-down x.0,
    each (λ t. DecidesStand t.phase stamps m pieces t b) (λ t. DecidesStand t.phase stamps next later t b)
        (λ t there p. decides t there t.phase refl stamps p) x.1,
  )
  stays stage.Resolve aside x = (ends-down x.0, each (λ t. ResolvesStand t.phase t) (λ t. ResolvesStand t.phase t) (λ t there p. p) x.1)
  stays (stage.Undo left) aside x = (
    x.0,
    still (λ t. UndoesStand t.phase m pieces t b left) (λ t. UndoesStand t.phase next later t b left)
        (λ t there p. undone t there t.phase left p) x.1,
  )
  stays stage.Done aside x = still (λ t. DoneStands t.phase m pieces t b) (λ t. DoneStands t.phase next later t b) (λ t there p. done t there t.phase p) x
  stays (stage.Unpin cursor) aside x = (same ∙ x.0, x.1)

pub others-aside : (freed : Option ℕ) (session : ℕ) (m next : Machine) (hub later : Hub) (pieces pieces' : List FramePiece) (r : ℕ) (b : State) → Apart freed session m next hub later pieces pieces' → r ≢ session → Valid m
    → ((frame : ℕ) → freed ≡ Some frame → IsAside frame b × NoneWroteIn frame b) → SessionStands m hub pieces r b → SessionStands next later pieces' r b
others-aside freed session m next hub later pieces pieces' r b v other valid aside st = record {
  phase = st.phase ∙ sym (ap (option_map (λ (t : Transaction). t.phase)) same-one);
  seated = record { opened = (let before = st.seated.opened in let more = v.seats in omega arith); phase = v.phases r other ∙ st.seated.phase };
  cursors = st.cursors ∙ sym (v.machine.cursors r other);
  noted = subst (λ (x : Option Transaction). AreNoted later.dir.leaves pieces' (of_some [] (λ (t : Transaction). t.writes) x) b.written) (sym same-one)
      (noted-stay freed hub.dir.leaves later.dir.leaves pieces pieces' (writes_in m r) b.written v.leaves written st.noted);
  stage = stays freed session m next hub.dir.leaves later.dir.leaves pieces pieces' r b (record {
    machine = v.machine;
    stay = v.leaves;
    updates = v.updates;
    other = other;
    valid = valid;
    noted = st.noted;
    written = written;
  }) b.stage (λ frame is. (aside frame is).0) st.stage;
} where
  written : StayWritten freed b.written
  written k member is = absurd ((aside k.frame is).1 k member refl)

  same-one : transaction_of next r ≡ transaction_of m r
  same-one = v.machine.others r other

-- where no leaf left its frame
pub others-stay : (session : ℕ) (m next : Machine) (hub later : Hub) (pieces pieces' : List FramePiece) (r : ℕ) (b : State) → Apart None session m next hub later pieces pieces' → r ≢ session → Valid m
    → SessionStands m hub pieces r b → SessionStands next later pieces' r b
others-stay session m next hub later pieces pieces' r b v other valid st = others-aside None session m next hub later pieces pieces' r b v other valid (λ frame none. absurd cc) st

-- an event of a session
beside-apart : (session : ℕ) (m next : Machine) (hub later : Hub) (pieces pieces' : List FramePiece) → Beside session m next hub later pieces pieces' → Apart None session m next hub later pieces pieces'
beside-apart session m next hub later pieces pieces' v = record {
  machine = v.machine.apart;
  leaves = subst (λ (d : Directory). LeavesStay None hub.dir.leaves d.leaves pieces pieces') (sym v.dir) (stay-same hub.dir.leaves pieces pieces' v.slots);
  seats = (let same = v.seats in omega arith);
  phases = v.phases;
  updates = at-home None m session hub.dir.leaves pieces pieces' v.updates;
}

pub others-go-on : (session : ℕ) (m next : Machine) (hub later : Hub) (pieces pieces' : List FramePiece) (r : ℕ) (b : State) → Beside session m next hub later pieces pieces' → r ≢ session → Valid m
    → SessionStands m hub pieces r b → SessionStands next later pieces' r b
others-go-on session m next hub later pieces pieces' r b v = others-stay session m next hub later pieces pieces' r b (beside-apart session m next hub later pieces pieces' v)

-- ---- what a session does, where leaves came to the directory

further-kept : (freed : Option ℕ) (leaves made : List Leaf) (call : KeyCall) (target : Target) → LeavesKept freed leaves made → IsLeafOf leaves target → further_left call target made ≡ further_left call target leaves
further-kept freed leaves made (key_call.Step cursor way) target kept x = let t = target-is x.0 target x.2 in
    ap (λ n. 5 * n) (subst (λ (to : Target). leaves_on (way_in way) to.table to.leaf made ≡ leaves_on (way_in way) to.table to.leaf leaves) t.is (kept.on (way_in way) x.0 x.1))
further-kept freed leaves made call target kept x = refl

waited-kept : (freed : Option ℕ) (leaves made : List Leaf) (call : KeyCall) (wanted : Wanted) → LeavesKept freed leaves made → IsLeafAt leaves wanted → further_from call wanted.table wanted.leaf made ≡ further_from call wanted.table wanted.leaf leaves
waited-kept freed leaves made (key_call.Step cursor way) wanted kept x = ap (λ n. 5 * n)
    (subst (λ n. leaves_on (way_in way) n wanted.leaf made ≡ leaves_on (way_in way) n wanted.leaf leaves) x.3 (subst (λ n. leaves_on (way_in way) x.0.table n made ≡ leaves_on (way_in way) x.0.table n leaves) x.2 (kept.on (way_in way) x.0 x.1)))
waited-kept freed leaves made call wanted kept x = refl

doing-at-kept : (freed : Option ℕ) (m : Machine) (leaves made : List Leaf) (pieces : List FramePiece) (session : ℕ) (a : State) (g : Stage) → LeavesKept freed leaves made → StageStands g m leaves pieces session a → doing_at g made session a ≡ doing_at g leaves session a
doing-at-kept freed m leaves made pieces session a (stage.Fill call wanted) kept x = ap (λ n. Placed (call_in call a) wanted.table (7 + n)) (waited-kept freed leaves made call wanted kept x.1.0)
doing-at-kept freed m leaves made pieces session a (stage.Publish call target) kept x = ap (λ n. Placed (call_in call a) target.table (6 + n)) (waited-kept freed leaves made call (wanted_in target) kept x.0.1.0)
doing-at-kept freed m leaves made pieces session a (stage.Validate call target) kept x = ap (λ n. Placed (call_in call a) target.table (5 + n)) (waited-kept freed leaves made call (wanted_in target) kept x.0.1.0)
doing-at-kept freed m leaves made pieces session a (stage.Look call target) kept x = ap (λ n. Placed (call_in call a) target.table (4 + n)) (further-kept freed leaves made call target kept x.0.1)
doing-at-kept freed m leaves made pieces session a (stage.Pass call target) kept x = ap (λ n. Placed (call_in call a) target.table (3 + n)) (further-kept freed leaves made call target kept x.0.1)
doing-at-kept freed m leaves made pieces session a g kept x = refl

pub doing-kept : (freed : Option ℕ) (m : Machine) (leaves made : List Leaf) (pieces : List FramePiece) (session : ℕ) (a : State) → LeavesKept freed leaves made → StageStands a.stage m leaves pieces session a → doing_in made session a ≡ doing_in leaves session a
doing-kept freed m leaves made pieces session a kept x = doing-at-kept freed m leaves made pieces session a a.stage kept x
