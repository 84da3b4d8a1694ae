-- What the facts that decisions take stand for, and parts of decisions.
use Rattle.std.specs.Prelude.{ℕ, nat_le, [], ◌∷◌, Option, Some, None, Result, Ok, Err, if◌then◌else◌}
use Rattle.limits.specs.declared.TheConstants.{TABLES_MAX, NUMBER_MAX}
use Rattle.item.specs.declared.Formats.{Formats}
use Rattle.kv_model.specs.History.{Table, tables, named}
use Rattle.kv_model.specs.Machine as model
use Rattle.kv_model.specs.Outside as outside
use Rattle.wt_code.specs.declared.refusals.Refusal.TheVariants as told
use Rattle.wt_code.specs.declared.refusals.Invalid.{Invalid}
use Rattle.wt_code.specs.declared.refusals.Busy.TheVariants as who
use Rattle.wt_code.specs.declared.refusals.Limit.TheVariants as counted
use Rattle.kv_model.specs.Decisions as answer
use Rattle.kv_plain.specs.declared.decisions.Storing.{Storing}
use Rattle.kv_plain.specs.declared.decisions.Storing.TheVariants as storing
use Rattle.kv_plain.specs.declared.machine.Transaction.{Transaction}
use Rattle.kv_plain.specs.Machine.{transaction_in}
use denote.Bor.{Bor}

abbrev pub storing_in : Storing → outside.Storing
storing_in storing.Stored = outside.Stored
storing_in storing.NoPlace = outside.NoPlace
storing_in storing.ReadFailed = outside.ReadFailed
storing_in (storing.Damaged offset want found) = outside.Damaged offset want found
storing_in (storing.WriteFailed fault) = outside.WriteFailed fault

-- a call that goes on with a running transaction, or is refused by the state of its session
abbrev pub run_or : (model.Transaction → answer.Outcome × model.Event) → Result (Bor Transaction) Invalid → answer.Outcome × model.Event
run_or go (Ok t) = go (transaction_in t.now)
run_or go (Err reason) = answer.invalid reason

-- Create, where so many tables are known, of which the one of its name has these formats
abbrev pub created_with : ℕ → Table → Option Formats → answer.Outcome × model.Event
created_with known table None = answer.checked ((nat_le TABLES_MAX known, told.Limit counted.Tables) ∷ []) (answer.Done, model.CreateTable table)
created_with known table (Some formats) = if answer.same_formats table.formats formats then (answer.Done, model.Nothing) else answer.refused told.Exists

-- Create of a machine with its tables
abbrev pub create_of : model.Machine → Table → answer.Outcome × model.Event
create_of m table = answer.create_decision (tables m.history) table (named table.name (tables m.history))

-- a rollback to stable, where this session, if any, has a transaction
abbrev pub roll_back_beside : model.Machine → Option ℕ → answer.Outcome × model.Event
roll_back_beside m active =
    answer.unless_found active who.Active
    (answer.checked ((answer.is_there m.checkpoint, told.Busy who.Checkpoint) ∷ (nat_le NUMBER_MAX m.rollbacks, told.Limit counted.Rollbacks) ∷ []) (answer.Done, model.RollbackToStable))

-- the start of a checkpoint after that of this number, where this session, if any, has a transaction that was decided
abbrev pub start_beside : ℕ → Option ℕ → answer.Outcome × model.Event
start_beside number resolving =
    answer.unless_found resolving who.Resolving
    (answer.checked ((nat_le NUMBER_MAX number, told.Limit counted.Checkpoints) ∷ []) (answer.Done, model.CheckpointStart))
