-- What the plain machine stands for.
use Rattle.std.specs.Prelude.{ℕ, List, [], Vec, Option, None, map, option_map, slice_index_or, slice_set}
use Rattle.std.specs.declared.alloc.Global.{Global}
use Rattle.kv_model.specs.Machine.{Machine, Transaction, Phase, Running, Failed, Prepared, Resolving, Leaving, Position, Checkpoint, Completed}
use Rattle.kv_plain.specs.declared.machine.Phase.{Phase as PlainPhase}
use Rattle.kv_plain.specs.declared.machine.Phase.TheVariants as phase
use Rattle.kv_plain.specs.declared.machine.Transaction.{Transaction as PlainTransaction}
use Rattle.kv_plain.specs.declared.machine.Position.{Position as PlainPosition}
use Rattle.kv_plain.specs.declared.machine.Checkpoint.{Checkpoint as PlainCheckpoint}
use Rattle.kv_plain.specs.declared.machine.Completed.{Completed as PlainCompleted}
use Rattle.kv_plain.specs.declared.machine.Machine.{Machine as PlainMachine}
use Rattle.kv_plain.specs.Plain.{write_in, history_in}

abbrev pub phase_in : PlainPhase → Phase
phase_in phase.Running = Running
phase_in phase.Failed = Failed
phase_in (phase.Prepared stamp) = Prepared stamp
phase_in phase.Resolving = Resolving
phase_in phase.Leaving = Leaving

abbrev pub transaction_in : PlainTransaction → Transaction
transaction_in t = record { id = t.id; start = t.start; read = t.read; writes = map write_in t.writes.items; phase = phase_in t.phase }

abbrev pub position_in : PlainPosition → Position
position_in p = record { table = p.table; key = p.key }

abbrev pub checkpoint_in : PlainCheckpoint → Checkpoint
checkpoint_in c = record { prefix = c.prefix; oldest = c.oldest; stable = c.stable }

abbrev pub completed_in : PlainCompleted → Completed
completed_in c = record { content = history_in c.content.items; oldest = c.oldest; stable = c.stable }

abbrev pub sessions_in : List (Option PlainTransaction) → List (Option Transaction)
sessions_in sessions = map (option_map transaction_in) sessions

abbrev pub cursors_in : List (Vec (Option PlainPosition) Global) → List (List (Option Position))
cursors_in cursors = map (λ row. map (option_map position_in) row.items) cursors

-- sessions, where that of this one is changed so
abbrev pub session_changed : (Transaction → Transaction) → ℕ → List (Option Transaction) → List (Option Transaction)
session_changed change session sessions = slice_set sessions session (option_map change (slice_index_or sessions session None))

-- cursors, where this one of the session is put here
abbrev pub cursor_placed : Option Position → ℕ → ℕ → List (List (Option Position)) → List (List (Option Position))
cursor_placed position session cursor cursors = slice_set cursors session (slice_set (slice_index_or cursors session []) cursor position)

abbrev pub machine_in : PlainMachine → Machine
machine_in m = record {
  history = history_in m.history.items;
  run = m.run;
  next = m.next;
  oldest = m.oldest;
  stable = m.stable;
  sessions = sessions_in m.sessions.items;
  cursors = cursors_in m.cursors.items;
  checkpoint = option_map checkpoint_in m.checkpoint;
  completed = completed_in m.completed;
  rollbacks = m.rollbacks;
  fault = m.fault;
}
