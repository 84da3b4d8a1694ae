-- A read that finds nothing in the frame, and looks in the history later.
use Rattle.std.proofs.Common.{◌≡◌, ◌⊎◌, ℕ, refl, ap, sym, ◌∙◌, List, [], ◌∷◌, inl, inr, subst}
use Rattle.std.specs.Prelude.{Option, Some, None, option_and_then}
use Rattle.item.specs.declared.Change.{Change}
use Rattle.stamp.specs.declared.Version.{Version}
use Rattle.stamp.specs.declared.View.{View}
use Rattle.kv_model.specs.History.{Write, put_of, value}
use Rattle.kv_model.specs.Machine.{Machine, Transaction, Phase, Running, Failed, Prepared, Resolving, Leaving, Event, OpenSession, BeginAt, DrawId, AcceptWrite, RefuseWrite, PrepareAt, CommitAt, StartLeaving, EndTransaction, PlaceCursor, CreateTable, SetStamps, RollbackToStable, CheckpointStart, CheckpointFinish, CheckpointDrop, GoDown, Nothing, transaction_of, after}
use Rattle.kv_model.specs.Closing.{after_all}
use Rattle.kv_model.specs.DecisionLaws.{EachMayCome}
use Rattle.kv_model.specs.Elsewhere.{IsOfOthers, AllOfOthers}
use Rattle.kv_model.specs.Reads.{own_write, Meets, IsEnding, ReadAs, Value}
use Rattle.kv_model.specs.Valid.{Valid}
use Rattle.kv_model.specs.GoingOnLaws.{IsAnothers}
use Rattle.kv_model.proofs.EveryEvent.{valid-after}
use Rattle.kv_model.proofs.Meetings.{meets-go-on}
use Rattle.kv_model.proofs.Onward.{session-stays}
use Rattle.kv_model.proofs.ReadingOn.{reads-go-on}
use Rattle.snapshot.proofs.GoingOn.{goes-on, follows-after}
use Rattle.update_chain.specs.Updates.{IsOlder, Conflicts, read_of}
use Rattle.update_chain.specs.Answers.{ViewStands, content_of, ReplyStands, ReadStands}
use Rattle.update_chain.specs.LaterLooks.{LaterLooksAnswer}
use Rattle.update_chain.proofs.Reading.{reads-stand}

anothers : (s : ℕ) (event : Event) → IsOfOthers s event → IsAnothers s event
anothers s OpenSession apart = tt
anothers s (BeginAt r read) apart = tt
anothers s (DrawId r) apart = tt
anothers s (AcceptWrite r number key change) apart = tt
anothers s (RefuseWrite r) apart = tt
anothers s (PrepareAt r stamp) apart = tt
anothers s (CommitAt r commit durable) apart = apart
anothers s (StartLeaving r) apart = tt
anothers s (EndTransaction r) apart = tt
anothers s (PlaceCursor r cursor position) apart = tt
anothers s (CreateTable table) apart = tt
anothers s (SetStamps oldest stable) apart = tt
anothers s RollbackToStable apart = tt
anothers s CheckpointStart apart = tt
anothers s CheckpointFinish apart = tt
anothers s CheckpointDrop apart = tt
anothers s (GoDown fault) apart = tt
anothers s Nothing apart = tt

-- ---- later

-- what others leave of a running transaction and of its value
record Later (m next : Machine) (s : ℕ) (t : Transaction) (view : View) (table : ℕ) (key : List ℕ) : Type 0 where
  valid : Valid next
  there : transaction_of next s ≡ Some t
  stands : ViewStands next t view
  same : value next.history t.start t.read table key ≡ value m.history t.start t.read table key

abbrev AllEnding : Machine → ℕ → Transaction → ℕ → List ℕ → Type 0
AllEnding m s t table key = (other : ℕ) (x : Transaction) → Meets m s t table key other x → IsEnding x.phase

later : (m : Machine) (events : List Event) (s : ℕ) (t : Transaction) (view : View) (table : ℕ) (key : List ℕ) → Valid m → EachMayCome m events → AllOfOthers s events → transaction_of m s ≡ Some t → ViewStands m t view
    → AllEnding m s t table key → Later m (after_all m events) s t view table key
later m [] s t view table key valid may apart there stands ending = record { valid = valid; there = there; stands = stands; same = refl }
later m (event ∷ events) s t view table key valid may apart there stands ending =
    let rest = later (after m event) events s t view table key (valid-after m event valid may.0) may.1 apart.1 (session-stays m event s may.0 apart.0 ∙ there)
    (record { own = stands.own; read = stands.read; sees = goes-on m (after m event) t.start _ valid (follows-after m event valid may.0) stands.sees })
    (λ other x met. let before = meets-go-on m event s t table key other x valid may.0 there met in before.2 (ending other before.0 before.1)) in
    record { valid = rest.valid; there = rest.there; stands = rest.stands; same = rest.same ∙ ap (λ o. option_and_then (λ (v : Version Change). put_of v.change) o) (reads-go-on m s t table key valid there event may.0 (anothers s event apart.0) ending) }

decide-ending : (p : Phase) → IsEnding p ⊎ (IsEnding p → ⊥)
decide-ending Running = inr (λ e. e)
decide-ending Failed = inr (λ e. e)
decide-ending (Prepared stamp) = inr (λ e. e)
decide-ending Resolving = inl tt
decide-ending Leaving = inl tt

pub later-looks-answer : LaterLooksAnswer
later-looks-answer m events s t view table key chain cell records now now_cell now_records found valid may apart there running stands k nothing now_k now_nothing picks =
    by-own (own_write t table key) (goes.in_history now_nothing.in_cell found picks) where
      first : ReadStands m s t table key cell records (read_of view chain)
      first = reads-stand m s t view table key chain cell records valid there running stands k

      ending : AllEnding m s t table key
      ending other x met = elim (decide-ending x.phase) [ inl is ↦ is | inr alive ↦ let e : IsOlder ≡ Conflicts x.id = sym nothing.in_chain ∙ first.conflicts other x met alive in absurd (cc) ]

      after_them : Later m (after_all m events) s t view table key
      after_them = later m events s t view table key valid may apart there stands ending

      goes : ReplyStands (after_all m events) s t table key now_cell now_records IsOlder
      goes = subst (ReplyStands (after_all m events) s t table key now_cell now_records) now_nothing.in_chain
          (reads-stand (after_all m events) s t view table key now now_cell now_records after_them.valid after_them.there running after_them.stands now_k).answers

      by-own : (o : Option Write) → ReadAs o (after_all m events) s t table key (Value (content_of found)) → ReadAs o m s t table key (Value (content_of found))
      by-own None answer = (answer.0 ∙ after_them.same, ending)
      by-own (Some w) answer = answer
