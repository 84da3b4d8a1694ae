-- A write or sync of the device failed: the machine is down from then on.
use Rattle.std.proofs.Common.{ℕ, Bool, refl, List}
use Rattle.std.specs.Prelude.{None}
use Rattle.failure.specs.declared.Fault.{Fault}
use Rattle.kv_model.specs.Allowed.{HasTransaction}
use Rattle.kv_model.specs.Machine.{Machine, Transaction, Phase, Running, Failed, Prepared, Resolving, Leaving, GoDown, after}
use Rattle.kv_model.specs.Rows.{Way}
use Rattle.kv_model.specs.Valid.{Valid}
use Rattle.kv_model.proofs.EveryEvent.{valid-after}
use Rattle.kv_model.proofs.RowRanges.{value-goes-on}
use Rattle.tree_dir.specs.declared.leaf.Leaf.{Leaf}
use Rattle.txn_table.proofs.Standing.{calls-stand}
use Rattle.update_chain.specs.EventLaws.{ChainsGoOn}
use Rattle.call_steps.specs.declared.frame.FramePiece.{FramePiece}
use Rattle.wt_calls.specs.Calls.{way_in}
use Rattle.call_steps.specs.declared.stage.CommitStamps.{CommitStamps}
use Rattle.call_steps.specs.declared.stage.KeyCall.{KeyCall}
use Rattle.call_steps.specs.declared.stage.KeyCall.TheVariants as key_call
use Rattle.call_steps.specs.declared.stage.Stage.{Stage}
use Rattle.call_steps.specs.declared.stage.Stage.TheVariants as stage
use Rattle.call_steps.specs.State.{State}
use Rattle.engine_world.specs.Stages.{DecidesStand, DoneStands, EndsOnlyDown, IsOrdered, IsPassed, IsSought, MarksStand, NoneAmong, OrdersStand, StageStands, StampsStand, UndoesStand, way_of}
use Rattle.engine_world.specs.Stands.{Engine, SessionStands}
use Rattle.engine_world.specs.Systems.{DownsGo, with_fault}
use Rattle.engine_world.specs.Walks.{passed, passed_with}
use Rattle.engine_world.proofs.Ends.{down-ends}
use Rattle.engine_world.proofs.HubMoves.{leaves-go-on}

abbrev gone : Machine → Fault → Machine
gone m fault = after m (GoDown fault)

-- what stood at a stage stands while the machine is down
module _ (m : Machine) (fault : Fault) (valid : Valid m) (leaves : List Leaf) (pieces : List FramePiece) (session : ℕ) (a : State) where
  ends-down : EndsOnlyDown (gone m fault) session
  ends-down = down-ends (gone m fault) session fault refl

  has : (P Q : Transaction → Type 0) → ((t : Transaction) → P t → Q t) → HasTransaction m session P → HasTransaction (gone m fault) session Q
  has P Q over x = (x.0, x.1, over x.0 x.2)

  ordered : (t : Transaction) (stamps : CommitStamps) (left : ℕ) → IsOrdered stamps m pieces t a left → IsOrdered stamps (gone m fault) pieces t a left
  ordered t stamps left x = record { covers = x.covers; least = x.least }

  marks : (t : Transaction) (stamp : ℕ) (p : Phase) → MarksStand p stamp m pieces t a → MarksStand p stamp (gone m fault) pieces t a
  marks t stamp Running x = x
  marks t stamp Failed x = x
  marks t stamp (Prepared at) x = x
  marks t stamp Resolving x = x
  marks t stamp Leaving x = x

  orders : (t : Transaction) (stamps : CommitStamps) (left : ℕ) (p : Phase) → OrdersStand p stamps m pieces t a left → OrdersStand p stamps (gone m fault) pieces t a left
  orders t stamps left Running x = ordered t stamps left x
  orders t stamps left (Prepared at) x = ordered t stamps left x
  orders t stamps left Failed x = x
  orders t stamps left Resolving x = x
  orders t stamps left Leaving x = x

  stamps_on : (t : Transaction) (stamps : CommitStamps) (left : ℕ) (p : Phase) → StampsStand p stamps m pieces t a left → StampsStand p stamps (gone m fault) pieces t a left
  stamps_on t stamps left Running x = (ordered t stamps 0 x.0, x.1)
  stamps_on t stamps left Resolving x = x
  stamps_on t stamps left Failed x = x
  stamps_on t stamps left (Prepared at) x = x
  stamps_on t stamps left Leaving x = x

  decides : (t : Transaction) (stamps : CommitStamps) (p : Phase) → DecidesStand p stamps m pieces t a → DecidesStand p stamps (gone m fault) pieces t a
  decides t stamps Running x = (ordered t stamps 0 x.0, x.1)
  decides t stamps (Prepared at) x = ordered t stamps 0 x
  decides t stamps Failed x = x
  decides t stamps Resolving x = x
  decides t stamps Leaving x = x

  undoes : (t : Transaction) (left : ℕ) (p : Phase) → UndoesStand p m pieces t a left → UndoesStand p (gone m fault) pieces t a left
  undoes t left Running x = x
  undoes t left Failed x = x
  undoes t left Leaving x = x
  undoes t left Resolving x = x
  undoes t left (Prepared at) x = x

  dones : (t : Transaction) (p : Phase) → DoneStands p m pieces t a → DoneStands p (gone m fault) pieces t a
  dones t Leaving x = x
  dones t Resolving x = x
  dones t Running x = x
  dones t Failed x = x
  dones t (Prepared at) x = x

  none-down : (table : ℕ) (way : Way) (range : List ℕ → Bool) → NoneAmong m session table way range → NoneAmong (gone m fault) session table way range
  none-down table way range none t there k is = value-goes-on m (GoDown fault) session t table k None valid tt there tt (none t there k is)

  sought-down : (call : KeyCall) (l : Leaf) → IsSought m leaves session a call l → IsSought (gone m fault) leaves session a call l
  sought-down (key_call.Step cursor way) l x = none-down l.table (way_in way) (passed (way_in way) leaves l (way_of m session l.table cursor (way_in way))) x
  sought-down call l x = x

  passed-down : (call : KeyCall) (l : Leaf) → IsPassed m leaves session call l → IsPassed (gone m fault) leaves session call l
  passed-down (key_call.Step cursor way) l x = none-down l.table (way_in way) (passed_with (way_in way) leaves l (way_of m session l.table cursor (way_in way))) x
  passed-down call l x = x

  stage-down : (g : Stage) → StageStands g m leaves pieces session a → StageStands g (gone m fault) leaves pieces session a
  stage-down stage.Rest x = ends-down
  stage-down (stage.Begin read) x = ends-down
  stage-down (stage.Find call) x = (ends-down, x.1)
  stage-down (stage.Fill call wanted) x = (x.0, (x.1.0, sought-down call x.1.0.0 x.1.1))
  stage-down (stage.Publish call target) x = ((x.0.0, (x.0.1.0, sought-down call x.0.1.0.0 x.0.1.1)), x.1)
  stage-down (stage.Validate call target) x = ((x.0.0, (x.0.1.0, sought-down call x.0.1.0.0 x.0.1.1)), x.1)
  stage-down (stage.Look call target) x = (x.0, sought-down call x.0.1.0 x.1)
  stage-down (stage.Pass call target) x = (x.0, passed-down call x.0.1.0 x.1)
  stage-down (stage.History call target) x = x
  stage-down (stage.ClearCursor call target) x = x
  stage-down (stage.Clear call target) x = x
  stage-down (stage.Reset cursor) x = ends-down
  stage-down (stage.Mark stamp left) x = x
  stage-down (stage.Release stamp) x = (ends-down, λ t there. marks t stamp t.phase (x.1 t there))
  stage-down (stage.Order stamps left) x = (x.0, has (λ t. OrdersStand t.phase stamps m pieces t a left) (λ t. OrdersStand t.phase stamps (gone m fault) pieces t a left) (λ t y. orders t stamps left t.phase y) x.1)
  stage-down (stage.Stamp stamps left) x = (x.0, has (λ t. StampsStand t.phase stamps m pieces t a left) (λ t. StampsStand t.phase stamps (gone m fault) pieces t a left) (λ t y. stamps_on t stamps left t.phase y) x.1)
  stage-down (stage.Decide stamps) x = (ends-down, λ t there. decides t stamps t.phase (x.1 t there))
  stage-down stage.Resolve x = (ends-down, x.1)
  stage-down (stage.Undo left) x = (x.0, has (λ t. UndoesStand t.phase m pieces t a left) (λ t. UndoesStand t.phase (gone m fault) pieces t a left) (λ t y. undoes t left t.phase y) x.1)
  stage-down stage.Done x = has (λ t. DoneStands t.phase m pieces t a) (λ t. DoneStands t.phase (gone m fault) pieces t a) (λ t y. dones t t.phase y) x
  stage-down (stage.Unpin cursor) x = x

session-down : (e : Engine) (m : Machine) (fault : Fault) (session : ℕ) (a : State) → Valid m → SessionStands m e.hub e.pieces session a → SessionStands (gone m fault) (with_fault e fault).hub e.pieces session a
session-down e m fault session a valid x = record {
  phase = x.phase;
  seated = record { opened = x.seated.opened; phase = x.seated.phase };
  cursors = x.cursors;
  noted = x.noted;
  stage = stage-down m fault valid e.hub.dir.leaves e.pieces session a a.stage x.stage;
}

pub downs-go : ChainsGoOn → DownsGo
downs-go chains e w fault st = record {
  valid = valid-after w.machine (GoDown fault) st.valid tt;
  fault = refl;
  stamps = st.stamps;
  txns = (calls-stand e.hub.txns w.machine st.valid st.txns).others (GoDown fault) tt tt;
  catalog = st.catalog;
  made = st.made;
  dir = st.dir;
  begun = st.begun;
  owned = st.owned;
  leaves = leaves-go-on chains w.machine (GoDown fault) w.shelf w.records e.hub.dir.leaves e.pieces e.states st.valid tt (λ table key. tt) st.leaves;
  unused = st.unused;
  frames = st.frames;
  count = st.count;
  doings = st.doings;
  doing = st.doing;
  sessions = λ session a there. session-down e w.machine fault session a st.valid (st.sessions session a there);
  systems = st.systems;
  noticed = st.noticed;
}
