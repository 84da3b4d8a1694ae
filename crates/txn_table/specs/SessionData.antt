-- What the table keeps of one session.
use Rattle.std.specs.Prelude.{◌≡◌, ◌⊎◌, ℕ, Bool, true, false, not, ◌&&◌, ◌==◌, nat_lt, List, [], if◌then◌else◌}
use Rattle.kv_model.specs.Machine.{Phase as ModelPhase, Running as ModelRunning, Failed as ModelFailed, Prepared as ModelPrepared, Resolving as ModelResolving, Leaving as ModelLeaving}
use Rattle.std.specs.Prelude.{Option, Some, None}
use Rattle.snapshot.specs.Sight.{Sight, sight_at}
use Rattle.snapshot.specs.Matters.{IsUnreleased}
use Rattle.txn_table.specs.declared.written_leaf.WrittenLeaf.{WrittenLeaf}
use Rattle.txn_table.specs.declared.phase.Phase.{Phase}
use Rattle.txn_table.specs.declared.phase.Phase.TheVariants.{Idle, Running, Failed, Prepared, Resolving, Leaving}

-- id is 0 until the first write, read is 0 for none
pub record SessionData : Type 0 where
  pub phase : Phase
  pub id : ℕ
  pub read : ℕ
  pub sight : Sight
  pub written : List WrittenLeaf

-- a session that was opened in this run and has not begun
abbrev pub opened : ℕ → SessionData
opened run = record { phase = Idle; id = 0; read = 0; sight = sight_at run 1 []; written = [] }

abbrev pub is_idle : Phase → Bool
is_idle Idle = true
is_idle _ = false

-- the session has a transaction
abbrev pub is_busy : Phase → Bool
is_busy phase = not (is_idle phase)

-- the transaction's commit or rollback was decided after it was prepared
abbrev pub is_resolving : Phase → Bool
is_resolving Resolving = true
is_resolving _ = false

-- in the phases before a transaction is released
abbrev pub is_unreleased : Phase → Bool
is_unreleased Running = true
is_unreleased Failed = true
is_unreleased Leaving = true
is_unreleased _ = false

-- its id is among the running ones
abbrev pub runs : SessionData → Bool
runs s = is_unreleased s.phase && nat_lt 0 s.id

-- the id of a transaction that has not ended, once it is drawn
abbrev pub unended_id : SessionData → Option ℕ
unended_id s = if is_idle s.phase then None else (if s.id == 0 then None else Some s.id)

-- the model's phase; None: no transaction
abbrev pub phase_in : Phase → Option ModelPhase
phase_in Idle = None
phase_in Running = Some ModelRunning
phase_in Failed = Some ModelFailed
phase_in (Prepared stamp) = Some (ModelPrepared stamp)
phase_in Resolving = Some ModelResolving
phase_in Leaving = Some ModelLeaving

-- the phases in which the transaction of a session may be: a refused write and the first undo of a rollback are events of a page, of which the table learns later
abbrev pub MayBe : Phase → ModelPhase → Type 0
MayBe Idle phase = ⊥
MayBe Running phase = IsUnreleased phase
MayBe Failed phase = (phase ≡ ModelFailed) ⊎ (phase ≡ ModelLeaving)
MayBe (Prepared stamp) phase = phase ≡ ModelPrepared stamp
MayBe Resolving phase = phase ≡ ModelResolving
MayBe Leaving phase = phase ≡ ModelLeaving
