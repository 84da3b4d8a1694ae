-- A session that is at another leaf, where one parts: what stands of it goes on to stand.
use Rattle.std.proofs.Common.{◌≡◌, ◌≢◌, ◌⊎◌, ◌<◌, ◌≤◌, ◌+◌, ◌*◌, ℕ, Bool, true, refl, ap, sym, ◌∙◌, List, [], length, inl, inr, subst, arith}
use Rattle.std.specs.Prelude.{Option, Some, None, slice_get, slice_set}
use Rattle.std.specs.List.{Contains}
use Rattle.std.proofs.lemmas.Bool.{cases_eq}
use Rattle.std.proofs.lemmas.Option.{same_Some}
use Rattle.kv_model.specs.Allowed.{HasTransaction}
use Rattle.kv_model.specs.Holds.{Member}
use Rattle.kv_model.specs.History.{Write, line}
use Rattle.kv_model.specs.Machine.{Machine, Transaction, Phase, Running, Prepared, Resolving, Leaving, of_some}
use Rattle.kv_model.specs.Refusals.{newest_durable}
use Rattle.kv_model.specs.Rows.{Way, Up, Down}
use Rattle.tree_dir.specs.declared.leaf.Framed.{Framed}
use Rattle.tree_dir.specs.declared.leaf.Leaf.{Leaf}
use Rattle.tree_dir.specs.Leaves.{Directory, leaf_under}
use Rattle.tree_dir.proofs.Parting.{under-has}
use Rattle.leaf_chains.specs.declared.slot.KeyChain.{KeyChain}
use Rattle.leaf_chains.specs.Slots.{key_at, slot_of}
use Rattle.wt_calls.specs.Calls.{way_in}
use Rattle.call_steps.specs.declared.edit.Edit.{Edit}
use Rattle.call_steps.specs.declared.edit.Edit.TheVariants as edit
use Rattle.call_steps.specs.declared.frame.Frame.{Frame}
use Rattle.call_steps.specs.declared.frame.FramePiece.{FramePiece}
use Rattle.call_steps.specs.declared.stage.CommitStamps.{CommitStamps}
use Rattle.call_steps.specs.declared.stage.KeyCall.{KeyCall}
use Rattle.call_steps.specs.declared.stage.KeyCall.TheVariants as key_call
use Rattle.call_steps.specs.declared.stage.Stage.{Stage}
use Rattle.call_steps.specs.declared.stage.Stage.TheVariants as stage
use Rattle.call_steps.specs.declared.stage.Target.{Target}
use Rattle.call_steps.specs.declared.stage.Wanted.{Wanted}
use Rattle.call_steps.specs.declared.written.WrittenKey.{WrittenKey}
use Rattle.call_steps.specs.Leaves.{chain_in}
use Rattle.call_steps.specs.State.{State}
use Rattle.call_steps.specs.Tables.{target_in}
use Rattle.row_page.specs.Rows.{Row}
use Rattle.engine_world.specs.Doings.{call_in, doing_at, doing_in, further_from}
use Rattle.engine_world.specs.Evicting.{NoneWroteIn}
use Rattle.engine_world.specs.GoingOut.{frame_in_hand}
use Rattle.engine_world.specs.GivingWay.{without_leaf}
use Rattle.engine_world.specs.Leaves.{AllHave, AreNoted, EditedDownTo, IsSlotOf, durable_under, emptied, frame_of, generation_at, slots_in, table_at}
use Rattle.engine_world.specs.Parting.{IsBesideLeaf, leaf_ahead_of, table_walked, walked_by}
use Rattle.engine_world.specs.Stages.{Awaits, DecidesStand, DoneStands, HasFound, IsEdited, IsLeafOf, IsNoticed, IsOnLeaf, IsOrdered, IsPassed, IsPast, IsSought, MarksStand, NoneAmong, OrdersStand, StageStands, StampsStand, UndoesStand, stamps_in, wanted_in, way_of}
use Rattle.engine_world.specs.Stands.{Engine, SessionStands, Stands, writes_in}
use Rattle.engine_world.specs.Walks.{all_ahead, all_behind, in_table, leaves_on, passed, passed_with}
use Rattle.engine_world.specs.Worlds.{Doing, Placed, Records, World}
use Rattle.engine_world.proofs.Beside.{IsAlike}
use Rattle.engine_world.proofs.FrameWords.{emptied-older, generation-beside}
use Rattle.engine_world.proofs.Homes.{IsHome, IsTarget, frame-from, home-is, in-its-frame, target-is}
use Rattle.engine_world.proofs.LeavesBeside.{IsReplaced, frames-apart, mine, same-leaf}
use Rattle.engine_world.proofs.LeavesChanged.{frame-beside}
use Rattle.engine_world.proofs.NotedSlots.{at-index}
use Rattle.engine_world.proofs.WalkKeys.{KeepsNext, passed-kept, passed-with-kept}

-- a leaf of another table keeps its next leaf
abbrev pub KeepNext : List Leaf → List Leaf → Leaf → Type 0
KeepNext leaves made l = (x : Leaf) → Contains leaves x → x.table ≢ l.table → KeepsNext leaves made x

same-alike : (x : Leaf) → IsAlike None x x
same-alike x = record { id = refl; table = refl; key = refl; frame = λ f placed other. placed }

module _ (e : Engine) (w : World) (l : Leaf) (framed : Framed) (dir : Directory) (made : List Leaf) (shelf : ℕ → List Row) (records : Records) (g : IsReplaced e w l framed dir made shelf records) (next : KeepNext e.hub.dir.leaves dir.leaves l) where
  -- ---- frames and leaves beside it

  slots-same : (frame : ℕ) → frame ≢ framed.frame → slots_in (slice_set e.pieces framed.frame (emptied e.pieces framed.frame)) frame ≡ slots_in e.pieces frame
  slots-same frame other = ap (λ (o : Option Frame). of_some [] (λ (x : Frame). x.leaf.chains) o) (frame-beside e.pieces framed.frame (emptied e.pieces framed.frame) frame other)

  table-same : (frame : ℕ) → frame ≢ framed.frame → table_at (slice_set e.pieces framed.frame (emptied e.pieces framed.frame)) frame ≡ table_at e.pieces frame
  table-same frame other = ap (λ (o : Option Frame). of_some 0 (λ (x : Frame). x.table) o) (frame-beside e.pieces framed.frame (emptied e.pieces framed.frame) frame other)

  -- a leaf that is in another frame is another leaf
  other-leaf : (x : Leaf) (f : Framed) → Contains e.hub.dir.leaves x → x.frame ≡ Some f → f.frame ≢ framed.frame → x.id ≢ l.id
  other-leaf x f there placed apart same = let is = same-leaf e w l framed dir made shelf records g x there same in
      apart (ap (λ (h : Framed). h.frame) (same_Some f framed (sym placed ∙ (ap (λ (y : Leaf). y.frame) is ∙ g.placed))))

  target-other : (x : Leaf) (target : Target) → Contains e.hub.dir.leaves x → target_in x ≡ Some target → target.frame ≢ framed.frame → x.id ≢ l.id
  target-other x target there is apart = let t = target-is x target is in other-leaf x t.framed there t.placed (λ same. apart (ap (λ (y : Target). y.frame) (sym t.is) ∙ same))

  home-stays : (table : ℕ) (key : List ℕ) (frame : ℕ) → frame_of e.hub.dir.leaves table key ≡ Some frame → frame ≢ framed.frame → frame_of dir.leaves table key ≡ Some frame
  home-stays table key frame home apart = let other = other-leaf h.leaf h.framed has h.placed (λ same. apart (sym h.at ∙ same)) in
      frame-from dir.leaves table key h.leaf h.framed (g.gave.under_other table key h.leaf other h.under) h.placed ∙ ap (λ (n : ℕ). Some n) h.at where
        h : IsHome e.hub.dir.leaves table key frame
        h = home-is e.hub.dir.leaves table key frame home

        has : Contains e.hub.dir.leaves h.leaf
        has = (under-has e.hub.dir g.stands.dir table key h.leaf h.under).there

  -- ---- one session

  module _ (session : ℕ) (b : State) (beside : IsBesideLeaf l framed.frame b) (st : SessionStands w.machine e.hub e.pieces session b) where
    -- ---- its writes

    slot-stays : (k : WrittenKey) (table : ℕ) (key : List ℕ) → Member k b.written → IsSlotOf e.hub.dir.leaves e.pieces k table key → IsSlotOf dir.leaves (slice_set e.pieces framed.frame (emptied e.pieces framed.frame)) k table key
    slot-stays k table key wrote s = let apart = beside.unwritten k wrote in record {
      home = home-stays table key k.frame s.home apart;
      number = table-same k.frame apart ∙ s.number;
      slot = ap (slot_of key) (slots-same k.frame apart) ∙ s.slot;
    }

    noted-stay : AreNoted dir.leaves (slice_set e.pieces framed.frame (emptied e.pieces framed.frame)) (writes_in w.machine session) b.written
    noted-stay = record {
      noted = λ x member. let k = st.noted.noted x member in (k.0, k.1, slot-stays k.0 x.table x.key k.1 k.2);
      wrote = λ k member. let x = st.noted.wrote k member in (x.0, x.1, slot-stays k x.0.table x.0.key member x.2);
    }

    edited : (t : Transaction) (change : Edit) (many : ℕ) → IsEdited change w.machine e.pieces t b many → IsEdited change w.machine (slice_set e.pieces framed.frame (emptied e.pieces framed.frame)) t b many
    edited t change many done i k low at u there named = done i k low at u
        (subst (λ (slots : List KeyChain). Member u (chain_in slots k.slot)) (slots-same k.frame (beside.unwritten k (at-index b.written i k at))) there) named

    durable-same : (k : WrittenKey) → Member k b.written → durable_under w.machine (slice_set e.pieces framed.frame (emptied e.pieces framed.frame)) k ≡ durable_under w.machine e.pieces k
    durable-same k wrote = let apart = beside.unwritten k wrote in λ i. newest_durable (line w.machine.history (table-same k.frame apart i) (key_at (slots-same k.frame apart i) k.slot))

    ordered : (t : Transaction) (stamps : CommitStamps) (many : ℕ) → IsOrdered stamps w.machine e.pieces t b many → IsOrdered stamps w.machine (slice_set e.pieces framed.frame (emptied e.pieces framed.frame)) t b many
    ordered t stamps many x = record {
      covers = λ i k low at. subst (λ d. d ≤ stamps.prev) (sym (durable-same k (at-index b.written i k at))) (x.covers i k low at);
      least = x.least;
    }

    -- ---- by the phase

    marks : (t : Transaction) (p : Phase) (stamp : ℕ) → MarksStand p stamp w.machine e.pieces t b → MarksStand p stamp w.machine (slice_set e.pieces framed.frame (emptied e.pieces framed.frame)) t b
    marks t Running stamp x = edited t (edit.Mark stamp) 0 x
    marks t _ stamp x = x

    orders : (t : Transaction) (p : Phase) (stamps : CommitStamps) (many : ℕ) → OrdersStand p stamps w.machine e.pieces t b many → OrdersStand p stamps w.machine (slice_set e.pieces framed.frame (emptied e.pieces framed.frame)) t b many
    orders t Running stamps many x = ordered t stamps many x
    orders t (Prepared at) stamps many x = ordered t stamps many x
    orders t _ stamps many x = x

    stamped : (t : Transaction) (p : Phase) (stamps : CommitStamps) (many : ℕ) → StampsStand p stamps w.machine e.pieces t b many → StampsStand p stamps w.machine (slice_set e.pieces framed.frame (emptied e.pieces framed.frame)) t b many
    stamped t Running stamps many x = (ordered t stamps 0 x.0, edited t (stamps_in Running stamps) many x.1)
    stamped t Resolving stamps many x = (x.0, edited t (stamps_in Resolving stamps) many x.1)
    stamped t _ stamps many x = x

    decides : (t : Transaction) (p : Phase) (stamps : CommitStamps) → DecidesStand p stamps w.machine e.pieces t b → DecidesStand p stamps w.machine (slice_set e.pieces framed.frame (emptied e.pieces framed.frame)) t b
    decides t Running stamps x = (ordered t stamps 0 x.0, edited t (stamps_in Running stamps) 0 x.1)
    decides t (Prepared at) stamps x = ordered t stamps 0 x
    decides t _ stamps x = x

    undone : (t : Transaction) (p : Phase) (many : ℕ) → UndoesStand p w.machine e.pieces t b many → UndoesStand p w.machine (slice_set e.pieces framed.frame (emptied e.pieces framed.frame)) t b many
    undone t Leaving many x = edited t edit.Undo many x
    undone t Resolving many x = (x.0, edited t edit.Undo many x.1)
    undone t _ many x = x

    done : (t : Transaction) (p : Phase) → DoneStands p w.machine e.pieces t b → DoneStands p w.machine (slice_set e.pieces framed.frame (emptied e.pieces framed.frame)) t b
    done t Leaving x = edited t edit.Undo 0 x
    done t Resolving x = elim x [
      | inl out ↦ inl (edited t edit.Undo 0 out)
      | inr by ↦ inr (by.0, by.1, edited t (edit.Stamp by.0 by.1) 0 by.2)
    ]
    done t _ x = x

    -- ---- its leaf

    abbrev on-leaf : (call : KeyCall) (target : Target) → target.frame ≢ framed.frame → IsOnLeaf w.machine e.hub.dir.leaves session call target → IsOnLeaf w.machine dir.leaves session call target
    on-leaf call target apart x = (x.0, (x.1.0, g.gave.others x.1.0 x.1.1 (target-other x.1.0 target x.1.1 x.1.2 apart), x.1.2))

    sought-stays : (call : KeyCall) (x : Leaf) → Contains e.hub.dir.leaves x → x.id ≢ l.id → walked_by call x.table ≢ Some l.table → IsSought w.machine e.hub.dir.leaves session b call x → IsSought w.machine dir.leaves session b call x
    sought-stays (key_call.Step cursor way) x there other walks s = λ t at k is. s t at k
        (sym (passed-kept None (way_in way) e.hub.dir.leaves dir.leaves x x (way_of w.machine session x.table cursor (way_in way)) k (same-alike x) (next x there (λ same. walks (ap (λ (n : ℕ). Some n) same)))) ∙ is)
    sought-stays call x there other walks s = g.gave.under_other x.table b.key x other s

    passed-stays : (call : KeyCall) (x : Leaf) → Contains e.hub.dir.leaves x → walked_by call x.table ≢ Some l.table → IsPassed w.machine e.hub.dir.leaves session call x → IsPassed w.machine dir.leaves session call x
    passed-stays (key_call.Step cursor way) x there walks s = λ t at k is. s t at k
        (sym (passed-with-kept None (way_in way) e.hub.dir.leaves dir.leaves x x (way_of w.machine session x.table cursor (way_in way)) k (same-alike x) (next x there (λ same. walks (ap (λ (n : ℕ). Some n) same)))) ∙ is)
    passed-stays call x there walks s = s

    waits : (call : KeyCall) (wanted : Wanted) → Some wanted.leaf ≢ Some l.id → walked_by call wanted.table ≢ Some l.table → Awaits w.machine e.hub.dir.leaves session call wanted b → Awaits w.machine dir.leaves session call wanted b
    waits call wanted elsewhere walks x = (
      x.0,
      ((x.1.0.0, g.gave.others x.1.0.0 x.1.0.1 other, x.1.0.2, x.1.0.3), sought-stays call x.1.0.0 x.1.0.1 other (λ is. walks (ap (walked_by call) (sym x.1.0.3) ∙ is)) x.1.1),
    ) where
      other : x.1.0.0.id ≢ l.id
      other same = elsewhere (ap (λ (n : ℕ). Some n) (sym x.1.0.2 ∙ same))

    older : (target : Target) → IsPast e.pieces target → IsPast (slice_set e.pieces framed.frame (emptied e.pieces framed.frame)) target
    older target past = let leaf = mine e w l framed dir made shelf records g in
        let more = emptied-older e.pieces e.states l leaf.laid framed.frame (ap (λ (h : Framed). h.frame) (same_Some leaf.laid.framed framed (sym leaf.laid.placed ∙ g.placed))) target.frame in omega (arith, past, more)

    found-stays : (call : KeyCall) (target : Target) → Some target.leaf ≢ Some l.id → walked_by call target.table ≢ Some l.table → HasFound w.machine e.hub.dir.leaves e.pieces session call target b
        → HasFound w.machine dir.leaves (slice_set e.pieces framed.frame (emptied e.pieces framed.frame)) session call target b
    unfolding waits
    found-stays call target elsewhere walks x = (waits call (wanted_in target) elsewhere walks x.0, by x.1) where
      by : (target_in x.0.1.0.0 ≡ Some target) ⊎ IsPast e.pieces target → (target_in x.0.1.0.0 ≡ Some target) ⊎ IsPast (slice_set e.pieces framed.frame (emptied e.pieces framed.frame)) target
      by (inl is) = inl is
      by (inr past) = inr (older target past)

    table-of : (call : KeyCall) (target : Target) → (x : IsOnLeaf w.machine e.hub.dir.leaves session call target) → walked_by call target.table ≢ Some l.table → walked_by call x.1.0.table ≢ Some l.table
    table-of call target x walks is = walks (ap (λ (y : Target). walked_by call y.table) (sym (target-is x.1.0 target x.1.2).is) ∙ is)

    -- ---- by the stage

    stays : (at : Stage) → frame_in_hand at ≢ Some framed.frame → leaf_ahead_of at ≢ Some l.id → table_walked at ≢ Some l.table → StageStands at w.machine e.hub.dir.leaves e.pieces session b
        → StageStands at w.machine dir.leaves (slice_set e.pieces framed.frame (emptied e.pieces framed.frame)) session b
    stays stage.Rest aside elsewhere walks x = x
    stays (stage.Begin read) aside elsewhere walks x = x
    stays (stage.Find call) aside elsewhere walks x = x
    stays (stage.Fill call wanted) aside elsewhere walks x = waits call wanted elsewhere walks x
    stays (stage.Publish call target) aside elsewhere walks x = found-stays call target elsewhere walks x
    stays (stage.Validate call target) aside elsewhere walks x = found-stays call target elsewhere walks x
    stays (stage.Look call target) aside elsewhere walks x = let apart : target.frame ≢ framed.frame = λ same. aside (ap (λ (n : ℕ). Some n) same) in
        (on-leaf call target apart x.0, sought-stays call x.0.1.0 x.0.1.1 (target-other x.0.1.0 target x.0.1.1 x.0.1.2 apart) (table-of call target x.0 walks) x.1)
    stays (stage.Pass call target) aside elsewhere walks x = let apart : target.frame ≢ framed.frame = λ same. aside (ap (λ (n : ℕ). Some n) same) in
        (on-leaf call target apart x.0, passed-stays call x.0.1.0 x.0.1.1 (table-of call target x.0 walks) x.1)
    stays (stage.History call target) aside elsewhere walks x = on-leaf call target (λ same. aside (ap (λ (n : ℕ). Some n) same)) x
    stays (stage.ClearCursor call target) aside elsewhere walks x = on-leaf call target (λ same. aside (ap (λ (n : ℕ). Some n) same)) x
    stays (stage.Clear call target) aside elsewhere walks x = x
    stays (stage.Reset cursor) aside elsewhere walks x = x
    stays (stage.Mark stamp many) aside elsewhere walks x = (x.0, (x.1.0, x.1.1, (x.1.2.0, edited x.1.0 (edit.Mark stamp) many x.1.2.1)))
    stays (stage.Release stamp) aside elsewhere walks x = (x.0, λ t there. marks t t.phase stamp (x.1 t there))
    stays (stage.Order stamps many) aside elsewhere walks x = (x.0, (x.1.0, x.1.1, orders x.1.0 x.1.0.phase stamps many x.1.2))
    stays (stage.Stamp stamps many) aside elsewhere walks x = (x.0, (x.1.0, x.1.1, stamped x.1.0 x.1.0.phase stamps many x.1.2))
    stays (stage.Decide stamps) aside elsewhere walks x = (x.0, λ t there. decides t t.phase stamps (x.1 t there))
    stays stage.Resolve aside elsewhere walks x = x
    stays (stage.Undo many) aside elsewhere walks x = (x.0, (x.1.0, x.1.1, undone x.1.0 x.1.0.phase many x.1.2))
    stays stage.Done aside elsewhere walks x = (x.0, x.1, done x.0 x.0.phase x.2)
    stays (stage.Unpin cursor) aside elsewhere walks x = x

    pub session-stays : SessionStands w.machine (record e.hub { dir = dir }) (slice_set e.pieces framed.frame (emptied e.pieces framed.frame)) session b
    session-stays = record {
      phase = st.phase;
      seated = record { opened = st.seated.opened; phase = st.seated.phase };
      cursors = st.cursors;
      noted = noted-stay;
      stage = stays b.stage beside.aside beside.elsewhere beside.walks st.stage;
    }

    -- ---- how far it is

    on-same : (way : Way) (table id : ℕ) → table ≢ l.table → leaves_on way table id dir.leaves ≡ leaves_on way table id e.hub.dir.leaves
    on-same Up table id other = ap (λ (ls : List Leaf). length (all_behind id ls)) (g.gave.rest table other)
    on-same Down table id other = ap (λ (ls : List Leaf). length (all_ahead id ls)) (g.gave.rest table other)

    further-same : (call : KeyCall) (table id : ℕ) → walked_by call table ≢ Some l.table → further_from call table id dir.leaves ≡ further_from call table id e.hub.dir.leaves
    further-same (key_call.Step cursor way) table id walks = ap (λ n. 5 * n) (on-same (way_in way) table id (λ same. walks (ap (λ (n : ℕ). Some n) same)))
    further-same call table id walks = refl

    doing-at-same : (at : Stage) → table_walked at ≢ Some l.table → doing_at at dir.leaves session b ≡ doing_at at e.hub.dir.leaves session b
    doing-at-same (stage.Fill call wanted) walks = ap (λ n. Placed (call_in call b) wanted.table (7 + n)) (further-same call wanted.table wanted.leaf walks)
    doing-at-same (stage.Publish call target) walks = ap (λ n. Placed (call_in call b) target.table (6 + n)) (further-same call target.table target.leaf walks)
    doing-at-same (stage.Validate call target) walks = ap (λ n. Placed (call_in call b) target.table (5 + n)) (further-same call target.table target.leaf walks)
    doing-at-same (stage.Look call target) walks = ap (λ n. Placed (call_in call b) target.table (4 + n)) (further-same call target.table target.leaf walks)
    doing-at-same (stage.Pass call target) walks = ap (λ n. Placed (call_in call b) target.table (3 + n)) (further-same call target.table target.leaf walks)
    doing-at-same at walks = refl

    pub doing-same : doing_in dir.leaves session b ≡ doing_in e.hub.dir.leaves session b
    doing-same = doing-at-same b.stage beside.walks

    -- ---- what it was told

    -- a leaf that is where it was found is in another frame
    told : (again : Bool) (call : KeyCall) (target : Target) → Some target.leaf ≢ Some l.id → HasFound w.machine e.hub.dir.leaves e.pieces session call target b → (IsPast e.pieces target → again ≡ true)
        → IsPast (slice_set e.pieces framed.frame (emptied e.pieces framed.frame)) target → again ≡ true
    told again call target elsewhere x knows past = elim (cases_eq target.frame framed.frame) [
      | inl same ↦ knows (elim x.1 [ inl is ↦ absurd (not-there is same) | inr was ↦ was ])
      | inr apart ↦ knows (subst (λ n. target.word + 2 < 4 * n) (generation-beside e.pieces framed.frame (emptied e.pieces framed.frame) target.frame apart) past)
    ] where
      other : x.0.1.0.0.id ≢ l.id
      other same = elsewhere (ap (λ (n : ℕ). Some n) (sym x.0.1.0.2 ∙ same))

      not-there : target_in x.0.1.0.0 ≡ Some target → target.frame ≢ framed.frame
      not-there is same = let t = target-is x.0.1.0.0 target is in
          let leaf = in-its-frame w.machine w.shelf w.records e.hub.dir.leaves e.pieces e.states x.0.1.0.0 t.framed t.placed (g.stands.leaves x.0.1.0.0 x.0.1.0.1) in
          frames-apart e w l framed dir made shelf records g x.0.1.0.0 x.0.1.0.1 other leaf.laid
          (ap (λ (h : Framed). h.frame) (same_Some leaf.laid.framed t.framed (sym leaf.laid.placed ∙ t.placed)) ∙ (ap (λ (y : Target). y.frame) t.is ∙ same))

    noticed-at : (at : Stage) (again : Bool) → leaf_ahead_of at ≢ Some l.id → StageStands at w.machine e.hub.dir.leaves e.pieces session b → IsNoticed at e.pieces again
        → IsNoticed at (slice_set e.pieces framed.frame (emptied e.pieces framed.frame)) again
    noticed-at (stage.Publish call target) again elsewhere x knows = told again call target elsewhere x knows
    noticed-at (stage.Validate call target) again elsewhere x knows = told again call target elsewhere x knows
    noticed-at at again elsewhere x knows = tt

    pub noticed-same : (again : Bool) → IsNoticed b.stage e.pieces again → IsNoticed b.stage (slice_set e.pieces framed.frame (emptied e.pieces framed.frame)) again
    noticed-same again knows = noticed-at b.stage again beside.elsewhere st.stage knows
