-- The row that the plain program finds on its way over a table: it goes over all keys that were written, and keeps the nearest one whose read is not absent.
use Rattle.std.specs.Prelude.{ℕ, Bool, true, false, ◌&&◌, List, [], ◌∷◌, Option, Some, None, option_map, if◌then◌else◌}
use Rattle.kv_model.specs.History.{Entry, Commit, Resolve, Write}
use Rattle.kv_model.specs.Machine.{Machine, Transaction}
use Rattle.kv_model.specs.Reads.{Found, Value, Conflict}
use Rattle.wt_code.specs.declared.refusals.Refusal.TheVariants.{NotFound, PrepareConflict}
use Rattle.kv_model.specs.Decisions.{Outcome, GivesRow, Refused}
use Rattle.kv_model.specs.Rows.{Way, comes_after, is_past}
use Rattle.wt_calls.specs.Calls.{way_in}
use Rattle.kv_plain.specs.declared.walk.Walk.{Walk as PlainWalk}
use Rattle.kv_plain.specs.Machine.{machine_in, transaction_in}
use Rattle.kv_plain.specs.Choices.{read_of}

-- a row, or a conflict at one
abbrev pub is_row : Found → Bool
is_row (Value None) = false
is_row _ = true

-- over a table, from a key or from the end
pub record Walk : Type 0 where
  pub machine : Machine
  pub session : ℕ
  pub transaction : Transaction
  pub table : ℕ
  pub way : Way
  pub from : Option (List ℕ)

abbrev pub walk_in : PlainWalk → Walk
walk_in w = record {
  machine = machine_in w.machine.now;
  session = w.session;
  transaction = transaction_in w.transaction.now;
  table = w.table;
  way = way_in w.way;
  from = option_map (λ i. i.now) w.from;
}

-- what is read at a key
abbrev pub read_at : Walk → List ℕ → Found
read_at w key = read_of w.machine w.session w.transaction w.table key

-- on the way, and not absent
abbrev pub is_met : Walk → List ℕ → Bool
is_met w key = is_past w.way w.from key && is_row (read_at w key)

-- it comes before the nearest so far
abbrev pub is_nearer : Way → List ℕ → Option (List ℕ) → Bool
is_nearer way key None = true
is_nearer way key (Some nearest) = comes_after way key nearest

-- the nearest so far, after one more key
abbrev pub nearer : Walk → Option (List ℕ) → List ℕ → Option (List ℕ)
nearer w nearest key = if is_met w key && is_nearer w.way key nearest then Some key else nearest

-- and after the keys of more writes
abbrev pub nearest_written : Walk → Option (List ℕ) → List Write → Option (List ℕ)
nearest_written w nearest [] = nearest
nearest_written w nearest (write ∷ writes) = nearest_written w (nearer w nearest write.key) writes

abbrev pub nearest_entered : Walk → Option (List ℕ) → Entry → Option (List ℕ)
nearest_entered w nearest (Commit name writes) = nearest_written w nearest writes
nearest_entered w nearest (Resolve name writes) = nearest_written w nearest writes
nearest_entered w nearest _ = nearest

abbrev pub nearest_stored : Walk → Option (List ℕ) → List Entry → Option (List ℕ)
nearest_stored w nearest [] = nearest
nearest_stored w nearest (entry ∷ older) = nearest_stored w (nearest_entered w nearest entry) older

abbrev pub nearest_held : Walk → Option (List ℕ) → List (Option Transaction) → Option (List ℕ)
nearest_held w nearest [] = nearest
nearest_held w nearest (None ∷ later) = nearest_held w nearest later
nearest_held w nearest (Some x ∷ later) = nearest_held w (nearest_written w nearest x.writes) later

-- of all keys: the transaction's own, those of the history, and those of all sessions
abbrev pub nearest_of : Walk → Option (List ℕ)
nearest_of w = nearest_held w (nearest_stored w (nearest_written w None w.transaction.writes) w.machine.history) w.machine.sessions

-- the answer at a key that reads so
abbrev pub row_answer : List ℕ → Found → Outcome
row_answer key (Value (Some v)) = GivesRow key v
row_answer key (Value None) = Refused NotFound
row_answer key (Conflict id) = Refused (PrepareConflict id)

abbrev pub answer_at : Walk → Option (List ℕ) → Outcome
answer_at w None = Refused NotFound
answer_at w (Some key) = row_answer key (read_at w key)
