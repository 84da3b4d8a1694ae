-- A begin.
use Rattle.std.proofs.Common.{◌≡◌, ◌<◌, ℕ, refl, ap, sym, ◌∙◌, [], length, inr, subst}
use Rattle.std.specs.Prelude.{Option, Some, None, option_map, slice_get, Result, Ok, Err}
use Rattle.std.proofs.lemmas.List.{get_or-set_same}
use Rattle.failure.specs.declared.Fault.{Fault}
use Rattle.wt_code.specs.declared.answers.Answer.TheVariants as answers
use Rattle.wt_code.specs.declared.refusals.Refusal.{Refusal}
use Rattle.wt_code.specs.declared.refusals.Refusal.TheVariants as told
use Rattle.wt_code.specs.declared.refusals.Invalid.{Invalid}
use Rattle.wt_code.specs.declared.refusals.Invalid.TheVariants as why
use Rattle.kv_model.specs.Machine.{Machine, Transaction, Phase as ModelPhase, Running, Failed, Prepared, Resolving, Leaving, transaction_of, of_some, begun as begun_at, Event, BeginAt, Nothing, after}
use Rattle.kv_model.specs.Allowed.{Allowed}
use Rattle.kv_model.specs.Refusals.{first_of, stamp_of, begin_rules}
use Rattle.kv_model.specs.Decisions.{Outcome, Done, Refused, invalid, ruled, decision, BeginCall}
use Rattle.kv_model.proofs.Deciding.{may-decide}
use Rattle.ts_rules.specs.Rules.{answer_by}
use Rattle.ts_rules.specs.declared.stamps.Stamps.{Stamps}
use Rattle.snapshot.specs.Sight.{sight_at}
use Rattle.txn_table.specs.declared.phase.Phase.{Phase}
use Rattle.txn_table.specs.declared.phase.Phase.TheVariants as phase
use Rattle.txn_table.specs.SessionData.{SessionData, phase_in}
use Rattle.txn_table.specs.Tabled.{Table, begun}
use Rattle.txn_table.proofs.Standing.{calls-stand}
use Rattle.call_steps.specs.declared.reply.Reply.TheVariants as reply
use Rattle.call_steps.specs.declared.stage.Stage.{Stage}
use Rattle.call_steps.specs.declared.stage.Stage.TheVariants as stage
use Rattle.call_steps.specs.HubEvents.{beside, begins, begins_by, begins_in, begin_made, hub_made_at}
use Rattle.call_steps.specs.State.{State, at_stage, refuses}
use Rattle.update_chain.specs.EventLaws.{ChainsGoOn}
use Rattle.engine_world.specs.Worlds.{World, Resting}
use Rattle.engine_world.specs.Steps.{JudgedBy}
use Rattle.engine_world.specs.Leaves.{AreNoted}
use Rattle.engine_world.specs.Stages.{EndsOnlyDown}
use Rattle.engine_world.specs.Stands.{Engine, Stands, SessionStands}
use Rattle.engine_world.specs.Laws.{BeginsGo, IsBegin}
use Rattle.engine_world.proofs.HubMoves.{Goes, decided-up, decided-down, idle-none, phase-there, phase-ends, refused-judged, stage-stands, goes-from, refused-goes, leaves-go-on, SetsSeat, seat-now, seats-opened, seat-leads}
use Rattle.engine_world.proofs.InPlace.{SessionInPlace}

-- ---- decisions

free-decided : (m : Machine) (session : ℕ) (read : Option ℕ) → m.fault ≡ None → transaction_of m session ≡ None
    → decision m session (BeginCall read) ≡ ruled (begin_rules m.oldest read) (BeginAt session (stamp_of read)) Nothing
free-decided m session read up none = decided-up m session (BeginCall read) up
    ∙ ap (λ (o : Option Transaction). of_some (ruled (begin_rules m.oldest read) (BeginAt session (stamp_of read)) Nothing) (λ (t : Transaction). invalid why.InTxn) o) none

busy-decided : (m : Machine) (session : ℕ) (read : Option ℕ) (t : Transaction) → m.fault ≡ None → transaction_of m session ≡ Some t → decision m session (BeginCall read) ≡ invalid why.InTxn
busy-decided m session read t up there = decided-up m session (BeginCall read) up
    ∙ ap (λ (o : Option Transaction). of_some (ruled (begin_rules m.oldest read) (BeginAt session (stamp_of read)) Nothing) (λ (t : Transaction). invalid why.InTxn) o) there

rule-passes : (m : Machine) (session : ℕ) (read : Option ℕ) (o : Option Invalid) → first_of (begin_rules m.oldest read) ≡ o
    → ruled (begin_rules m.oldest read) (BeginAt session (stamp_of read)) Nothing ≡ of_some {A = Invalid} {B = Outcome × Event} (Done, BeginAt session (stamp_of read)) (λ reason. (Refused (told.Invalid reason), Nothing)) o
rule-passes m session read o is = ap (λ (o : Option Invalid). of_some {A = Invalid} {B = Outcome × Event} (Done, BeginAt session (stamp_of read)) (λ reason. (Refused (told.Invalid reason), Nothing)) o) is

-- ---- what is left

-- the seat of a transaction that begins
abbrev new_seat : Table → ℕ → SessionData
new_seat t read = record { phase = phase.Running; id = 0; read = read; sight = sight_at t.run t.next t.running; written = [] }

begun-seat : (t : Table) (session read : ℕ) → SetsSeat t (begun t session read) session (new_seat t read)
begun-seat t session read = record { run = refl; sessions = refl }

begun-there : (m : Machine) (session read : ℕ) → session < length m.sessions → transaction_of (after m (BeginAt session read)) session ≡ Some (begun_at m read)
begun-there m session read inside = get_or-set_same m.sessions session (Some (begun_at m read)) None inside

module _ (law : ChainsGoOn) (e : Engine) (w : World) (session : ℕ) (a : State) (read : Option ℕ) (st : Stands e w) (at : slice_get e.sessions session ≡ Some a) (is : a.stage ≡ stage.Begin read) where
  mine : SessionStands w.machine e.hub e.pieces session a
  mine = st.sessions session a at

  ends : EndsOnlyDown w.machine session
  ends = stage-stands e w session a (stage.Begin read) st at is

  inside : session < length w.machine.sessions
  inside = subst (λ n. session < n) st.txns.count mine.seated.opened

  refuses-by : (r : Refusal) → decision w.machine session (BeginCall read) ≡ (Refused r, Nothing) → Goes e w session (beside e.hub (refuses r a))
  refuses-by r decided = refused-goes e w session a (stage.Begin read) r st at is ends (inr (refused-judged (decision w.machine session (BeginCall read)) r w.machine decided))

  begun-stands : transaction_of w.machine session ≡ None
      → SessionInPlace (after w.machine (BeginAt session (stamp_of read))) (record e.hub { txns = begun e.hub.txns session (stamp_of read) }) e.pieces session (at_stage stage.Rest (record a { phase = phase.Running }))
  begun-stands none = record {
    phase = sym (ap (λ (o : Option Transaction). option_map (λ (t : Transaction). t.phase) o) now);
    seated = record {
      opened = subst (λ n. session < n) (sym (seats-opened e.hub.txns (begun e.hub.txns session (stamp_of read)) session (new_seat e.hub.txns (stamp_of read)) seat)) mine.seated.opened;
      phase = ap (λ (x : SessionData). x.phase) (seat-now e.hub.txns (begun e.hub.txns session (stamp_of read)) session (new_seat e.hub.txns (stamp_of read)) seat mine.seated.opened);
    };
    cursors = mine.cursors;
    noted = subst noted-with (sym now) (subst noted-with none mine.noted);
    stage = phase-ends (after w.machine (BeginAt session (stamp_of read))) session (begun_at w.machine (stamp_of read)) Running now refl (λ x. x);
  } where
    now : transaction_of (after w.machine (BeginAt session (stamp_of read))) session ≡ Some (begun_at w.machine (stamp_of read))
    now = begun-there w.machine session (stamp_of read) inside

    seat : SetsSeat e.hub.txns (begun e.hub.txns session (stamp_of read)) session (new_seat e.hub.txns (stamp_of read))
    seat = begun-seat e.hub.txns session (stamp_of read)

    noted-with : Option Transaction → Type 0
    noted-with o = AreNoted e.hub.dir.leaves e.pieces (of_some [] (λ (t : Transaction). t.writes) o) a.written

  accepted : transaction_of w.machine session ≡ None → decision w.machine session (BeginCall read) ≡ (Done, BeginAt session (stamp_of read)) → Goes e w session (begins e.hub session a read)
  accepted none decided = seat-leads e w session a (at_stage stage.Rest (record a { phase = phase.Running })) (begun e.hub.txns session (stamp_of read)) (new_seat e.hub.txns (stamp_of read)) (BeginAt session (stamp_of read)) (reply.Answer answers.Done) st at
      may refl (begun-seat e.hub.txns session (stamp_of read)) ((calls-stand e.hub.txns w.machine st.valid st.txns).begins session (stamp_of read) may) refl
      (leaves-go-on law w.machine (BeginAt session (stamp_of read)) w.shelf w.records e.hub.dir.leaves e.pieces e.states st.valid may (λ table key. tt) st.leaves)
      (goes-from (w.again session) e.hub.dir.leaves session a (stage.Begin read) w.machine (record { told = reply.Answer answers.Done; machine = after w.machine (BeginAt session (stamp_of read)); doing = Resting }) is
      (inr (subst (λ (d : Outcome × Event). JudgedBy d w.machine (record { told = reply.Answer answers.Done; machine = after w.machine (BeginAt session (stamp_of read)); doing = Resting })) (sym decided) (answers.Done, refl, refl))))
      (begun-stands none) where
        may : Allowed w.machine (BeginAt session (stamp_of read))
        may = subst (λ (d : Outcome × Event). Allowed w.machine d.1) decided (may-decide w.machine session (BeginCall read) inside)

  by-rule : w.machine.fault ≡ None → transaction_of w.machine session ≡ None → (o : Option Invalid) → first_of (begin_rules w.machine.oldest read) ≡ o
      → Goes e w session (begins_by (of_some {A = Invalid} {B = Result (Unit {0}) Invalid} (Ok tt) (λ reason. Err reason) o) e.hub session a read)
  by-rule up none None passes = accepted none (free-decided w.machine session read up none ∙ rule-passes w.machine session read None passes)
  by-rule up none (Some reason) fails = refuses-by (told.Invalid reason) (free-decided w.machine session read up none ∙ rule-passes w.machine session read (Some reason) fails)

  busy : (p : Phase) (q : ModelPhase) → w.machine.fault ≡ None → a.phase ≡ p → phase_in p ≡ Some q → Goes e w session (beside e.hub (refuses (told.Invalid why.InTxn) a))
  busy p q up here to = let t = phase-there w.machine e.hub e.pieces session a p q mine here to in
      refuses-by (told.Invalid why.InTxn) (busy-decided w.machine session read t.0 up t.1)

  by-phase : w.machine.fault ≡ None → (p : Phase) → a.phase ≡ p → Goes e w session (begins_in p e.hub session a read)
  by-phase up phase.Idle here = subst (λ oldest. Goes e w session (begins_by (answer_by (begin_rules oldest read)) e.hub session a read)) (sym (ap (λ (s : Stamps). s.oldest) st.stamps))
      (by-rule up (idle-none w.machine e.hub e.pieces session a mine here) (first_of (begin_rules w.machine.oldest read)) refl)
  by-phase up phase.Running here = busy phase.Running Running up here refl
  by-phase up phase.Failed here = busy phase.Failed Failed up here refl
  by-phase up (phase.Prepared stamp) here = busy (phase.Prepared stamp) (Prepared stamp) up here refl
  by-phase up phase.Resolving here = busy phase.Resolving Resolving up here refl
  by-phase up phase.Leaving here = busy phase.Leaving Leaving up here refl

  by-fault : (f : Option Fault) → e.hub.fault ≡ f → Goes e w session (of_some (begins_in a.phase e.hub session a read) (λ (fault : Fault). beside e.hub (refuses (told.Panic fault) a)) f)
  by-fault None up = by-phase (sym st.fault ∙ up) a.phase refl
  by-fault (Some fault) down = refuses-by (told.Panic fault) (decided-down w.machine session (BeginCall read) fault (sym st.fault ∙ down) refl)

  begin-goes : Goes e w session (begin_made e.hub session a read)
  begin-goes = by-fault e.hub.fault refl

pub begins-go : ChainsGoOn → BeginsGo
begins-go law e w session a st at begins = by-stage a.stage refl begins where
  by-stage : (g : Stage) → a.stage ≡ g → IsBegin g → Goes e w session (hub_made_at g e.hub session a)
  by-stage (stage.Begin read) is begins = begin-goes law e w session a read st at is
  by-stage _ is begins = absurd begins
