-- The events of a checkpoint: it starts, is finished, or ends without that; and it starts and finishes, with nobody between.
use Rattle.std.proofs.Common.{◌≡◌, ℕ, refl, length, arith, subst}
use Rattle.std.specs.Prelude.{List, Option, Some, None}
use Rattle.kv_model.specs.Allowed.{Allowed}
use Rattle.kv_model.specs.Machine.{Machine, Checkpoint, Completed, Transaction, transaction_of, CheckpointStart, CheckpointFinish, CheckpointDrop, after, finished, of_some}
use Rattle.kv_model.specs.Reads.{Value, ReadAnswer}
use Rattle.kv_model.specs.Valid.{Valid}
use Rattle.kv_model.proofs.EveryEvent.{valid-after}
use Rattle.kv_model.proofs.RowRanges.{value-goes-on}
use Rattle.txn_table.specs.Stands.{TableStands}
use Rattle.txn_table.proofs.Standing.{calls-stand}
use Rattle.update_chain.specs.EventLaws.{ChainsGoOn}
use Rattle.engine_world.proofs.Homes.{LeavesStand}
use Rattle.engine_world.specs.Stands.{Engine, Stands}
use Rattle.engine_world.specs.Systems.{CheckpointsDrop, CheckpointsFinish, CheckpointsGo, CheckpointsStart}
use Rattle.engine_world.specs.Worlds.{World}
use Rattle.engine_world.proofs.Beside.{Apart, MachineApart}
use Rattle.engine_world.proofs.Events.{at-home, updates-same}
use Rattle.engine_world.proofs.HubMoves.{leaves-go-on}
use Rattle.engine_world.proofs.Others.{others-stay}
use Rattle.engine_world.proofs.SystemEvents.{leaves-same, past-all}

-- the machine with another checkpoint that runs, and another one that is complete
abbrev with-checkpoint : Machine → Option Checkpoint → Completed → Machine
with-checkpoint m k done = record m { completed = done; checkpoint = k }

-- what else a key reads as, it reads as with it
abbrev AbsencesStay : Machine → Machine → Type 0
AbsencesStay m next = (r : ℕ) (t : Transaction) (table : ℕ) (key : List ℕ) → transaction_of m r ≡ Some t → ReadAnswer m r t table key (Value None) → ReadAnswer next r t table key (Value None)

-- so an engine that stands for the one stands for the other
module _ (e : Engine) (w : World) (k : Option Checkpoint) (done : Completed) where
  abbrev next : Machine
  next = with-checkpoint w.machine k done

  next-apart : AbsencesStay w.machine next → MachineApart (length e.sessions) w.machine next
  next-apart absent = record {
    run = refl;
    fault = refl;
    others = λ r other. refl;
    cursors = λ r other. refl;
    held = λ r t table key other there alive own. refl;
    grown = λ table key v member. member;
    none = λ r t table key other there drawn none. none;
    absent = λ r t table key other there reads. absent r t table key there reads;
  }

  next-beside : AbsencesStay w.machine next → Apart None (length e.sessions) w.machine next e.hub e.hub e.pieces e.pieces
  next-beside absent = record {
    machine = next-apart absent;
    leaves = leaves-same e.hub.dir.leaves e.pieces;
    seats = omega arith;
    phases = λ r other. refl;
    updates = at-home None w.machine (length e.sessions) e.hub.dir.leaves e.pieces e.pieces (updates-same w.machine (length e.sessions) e.pieces);
  }

  next-stands : Stands e w → Valid next → TableStands e.hub.txns next → LeavesStand next w.shelf w.records e.hub.dir.leaves e.pieces e.states → AbsencesStay w.machine next → Stands e (record w { machine = next })
  next-stands st valid txns leaves absent = record {
    valid = valid;
    fault = st.fault;
    stamps = st.stamps;
    txns = txns;
    catalog = st.catalog;
    made = st.made;
    dir = st.dir;
    begun = st.begun;
    owned = st.owned;
    leaves = leaves;
    unused = st.unused;
    frames = st.frames;
    count = st.count;
    doings = st.doings;
    doing = st.doing;
    sessions = λ r b there. others-stay (length e.sessions) w.machine next e.hub e.hub e.pieces e.pieces r b (next-beside absent) (past-all e.sessions r b there) st.valid (st.sessions r b there);
    systems = st.systems;
    noticed = st.noticed;
  }

pub checkpoints-start : ChainsGoOn → CheckpointsStart
checkpoints-start chains e w st free none = next-stands e w (Some (record { prefix = length w.machine.history; oldest = w.machine.oldest; stable = w.machine.stable })) w.machine.completed st
    (valid-after w.machine CheckpointStart st.valid may)
    ((calls-stand e.hub.txns w.machine st.valid st.txns).others CheckpointStart tt may)
    (leaves-go-on chains w.machine CheckpointStart w.shelf w.records e.hub.dir.leaves e.pieces e.states st.valid may (λ table key. tt) st.leaves)
    (λ r t table key there reads. value-goes-on w.machine CheckpointStart r t table key None st.valid may there tt reads) where
      may : Allowed w.machine CheckpointStart
      may = (free, none)

pub checkpoints-drop : ChainsGoOn → CheckpointsDrop
checkpoints-drop chains e w st = next-stands e w None w.machine.completed st
    (valid-after w.machine CheckpointDrop st.valid tt)
    ((calls-stand e.hub.txns w.machine st.valid st.txns).others CheckpointDrop tt tt)
    (leaves-go-on chains w.machine CheckpointDrop w.shelf w.records e.hub.dir.leaves e.pieces e.states st.valid tt (λ table key. tt) st.leaves)
    (λ r t table key there reads. value-goes-on w.machine CheckpointDrop r t table key None st.valid tt there tt reads)

pub checkpoints-finish : ChainsGoOn → CheckpointsFinish
checkpoints-finish chains e w c st there = next-stands e w None (finished w.machine c).completed st
    (subst (λ k. Valid (of_some w.machine (finished w.machine) k)) there (valid-after w.machine CheckpointFinish st.valid tt))
    (subst (λ k. TableStands e.hub.txns (of_some w.machine (finished w.machine) k)) there ((calls-stand e.hub.txns w.machine st.valid st.txns).others CheckpointFinish tt tt))
    (subst (λ k. LeavesStand (of_some w.machine (finished w.machine) k) w.shelf w.records e.hub.dir.leaves e.pieces e.states) there
    (leaves-go-on chains w.machine CheckpointFinish w.shelf w.records e.hub.dir.leaves e.pieces e.states st.valid tt (λ table key. tt) st.leaves))
    (λ r t table key is reads. subst (λ k. ReadAnswer (of_some w.machine (finished w.machine) k) r t table key (Value None)) there (value-goes-on w.machine CheckpointFinish r t table key None st.valid tt is tt reads))

pub checkpoints-go : ChainsGoOn → CheckpointsGo
checkpoints-go chains e w st free none = checkpoints-finish chains e (record w { machine = after w.machine CheckpointStart }) (record { prefix = length w.machine.history; oldest = w.machine.oldest; stable = w.machine.stable })
    (checkpoints-start chains e w st free none) refl
