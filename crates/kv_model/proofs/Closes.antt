-- The events of a Close may come, and leave no transaction.
use Rattle.std.proofs.Common.{◌≡◌, ◌≢◌, ◌⊎◌, ◌<◌, ◌+◌, ◌-◌, ℕ, refl, ap, sym, ◌∙◌, Bool, true, false, List, [], ◌∷◌, ◌++◌, inl, inr, subst, arith, suc}
use Rattle.std.specs.Prelude.{Option, Some, None, nat_le, slice_index_or}
use Rattle.std.proofs.lemmas.Bool.{cases_Bool, cases_eq, leb-true}
use Rattle.std.proofs.lemmas.List.{get_or-set_same, get_or-set_other}
use Rattle.std.proofs.Common.{append-nil}
use Rattle.limits.specs.declared.TheConstants.{NUMBER_MAX}
use Rattle.kv_model.specs.History.{Entry}
use Rattle.kv_model.specs.Machine.{Machine, Transaction, Phase, Running, Failed, Prepared, Resolving, Leaving, Event, StartLeaving, EndTransaction, transaction_of, with_transaction, of_some, in_phase, left, after}
use Rattle.kv_model.specs.Reads.{IsEnding}
use Rattle.kv_model.specs.Allowed.{HasTransaction}
use Rattle.kv_model.specs.Outside.{Storing, Stored, NoPlace, ReadFailed, Damaged, WriteFailed, Unfinished}
use Rattle.failure.specs.declared.Fault.{Fault}
use Rattle.wt_code.specs.declared.refusals.Refusal.TheVariants as told
use Rattle.wt_code.specs.declared.refusals.Busy.{Busy}
use Rattle.kv_model.specs.Decisions.{is_there}
use Rattle.kv_model.specs.Closing.{close_busy, rolling_back, last_stored, last_checkpoint, closing, close_refused, close_decision, after_all}
use Rattle.kv_model.specs.DecisionLaws.{EachMayCome}
use Rattle.kv_model.proofs.Seats.{seat-inside}
use Rattle.kv_model.proofs.Deciding.{not-there, le-false}

-- a session's transaction is ending, all others are as they were
record Leaves (m : Machine) (at : ℕ) (n : Machine) : Type 0 where
  ending : HasTransaction n at (λ u. IsEnding u.phase)
  others : (s : ℕ) → s ≢ at → transaction_of n s ≡ transaction_of m s
  checkpoint : n.checkpoint ≡ m.checkpoint

set-leaves : (m : Machine) (at : ℕ) (t u : Transaction) (history : List Entry) → transaction_of m at ≡ Some t → IsEnding u.phase → Leaves m at (record (with_transaction m at (Some u)) { history = history })
set-leaves m at t u history there ends = record {
  ending = (u, get_or-set_same m.sessions at (Some u) None (seat-inside m.sessions at t there), ends);
  others = λ s other. get_or-set_other m.sessions at s (Some u) None other;
  checkpoint = refl;
}

leaves : (m : Machine) (at : ℕ) (t : Transaction) → transaction_of m at ≡ Some t → (p : Phase) → t.phase ≡ p → Leaves m at (left p m at t)
leaves m at t there Running is = set-leaves m at t (in_phase Leaving t) m.history there tt
leaves m at t there Failed is = set-leaves m at t (in_phase Leaving t) m.history there tt
leaves m at t there Leaving is = set-leaves m at t (in_phase Leaving t) m.history there tt
leaves m at t there (Prepared stamp) is = set-leaves m at t (in_phase Resolving t) (left (Prepared stamp) m at t).history there tt
leaves m at t there Resolving is = record {
  ending = (t, there, subst IsEnding (sym is) tt);
  others = λ s other. refl;
  checkpoint = refl;
}

starts-leaving : (m : Machine) (at : ℕ) (t : Transaction) → transaction_of m at ≡ Some t → Leaves m at (after m (StartLeaving at))
starts-leaving m at t there = subst (Leaves m at) (sym (ap (of_some m (λ (u : Transaction). left u.phase m at u)) there)) (leaves m at t there t.phase refl)

-- it is gone
record Rolled (m : Machine) (at : ℕ) (n : Machine) : Type 0 where
  here : transaction_of n at ≡ None
  others : (s : ℕ) → s ≢ at → transaction_of n s ≡ transaction_of m s
  checkpoint : n.checkpoint ≡ m.checkpoint

ended : (m : Machine) (at : ℕ) (n : Machine) → Leaves m at n → Rolled m at (after n (EndTransaction at))
ended m at n l = record {
  here = get_or-set_same n.sessions at None None (seat-inside n.sessions at l.ending.0 l.ending.1);
  others = λ s other. get_or-set_other n.sessions at s None None other ∙ l.others s other;
  checkpoint = l.checkpoint;
}

-- no session has a transaction, and no checkpoint runs
record Quiet (m : Machine) : Type 0 where
  nobody : (s : ℕ) → transaction_of m s ≡ None
  idle : m.checkpoint ≡ None

-- sessions below this one have none, those from it on are these
record Suffix (m : Machine) (at : ℕ) (later : List (Option Transaction)) : Type 0 where
  below : (s : ℕ) → s < at → transaction_of m s ≡ None
  above : (s : ℕ) → transaction_of m (at + s) ≡ slice_index_or later s None
  idle : m.checkpoint ≡ None

quiet : (m : Machine) (at : ℕ) → Suffix m at [] → Quiet m
quiet m at x = record {
  nobody = λ s. by s (low s);
  idle = x.idle;
} where
  low : (s : ℕ) → (s < at) ⊎ ((k : ℕ) × (s ≡ at + k))
  low s = elim (cases_Bool (nat_le at s)) [
    | inl is ↦ inr (s - at, let le = leb-true at s is in omega arith)
    | inr isnt ↦ inl (le-false at s isnt)
  ]

  by : (s : ℕ) → (s < at) ⊎ ((k : ℕ) × (s ≡ at + k)) → transaction_of m s ≡ None
  by s (inl is) = x.below s is
  by s (inr k) = ap (transaction_of m) k.1 ∙ x.above k.0

on : (m n : Machine) (at : ℕ) (o : Option Transaction) (later : List (Option Transaction)) → Suffix m at (o ∷ later) → Rolled m at n → Suffix n (at + 1) later
on m n at o later x r = record {
  below = λ s lt. elim (cases_eq s at) [
    | inl same ↦ ap (transaction_of n) same ∙ r.here
    | inr other ↦ r.others s other ∙ x.below s (omega arith)
  ];
  above = λ s. r.others (at + 1 + s) (λ e. absurd (omega arith)) ∙ (ap (transaction_of m) (let e : at + 1 + s ≡ at + suc s = omega arith in e) ∙ x.above (suc s));
  idle = r.checkpoint ∙ x.idle;
}

first : (m : Machine) (at : ℕ) (o : Option Transaction) (later : List (Option Transaction)) → Suffix m at (o ∷ later) → transaction_of m at ≡ o
first m at o later x = ap (transaction_of m) (let e : at ≡ at + 0 = omega arith in e) ∙ x.above 0

-- they may come, and leave no transaction
Ends : Machine → List Event → Type 0
Ends m events = EachMayCome m events × ((s : ℕ) → transaction_of (after_all m events) s ≡ None)

rolls : (last : List Event) → ((m : Machine) → Quiet m → Ends m last) → (later : List (Option Transaction)) (at : ℕ) (m : Machine) → Suffix m at later → Ends m (rolling_back at later ++ last)
unfolding Ends
rolls last finish [] at m x = finish m (quiet m at x)
rolls last finish (None ∷ later) at m x = rolls last finish later (at + 1) m (on m m at None later x (record { here = first m at None later x; others = λ s other. refl; checkpoint = refl }))
rolls last finish (Some t ∷ later) at m x =
    let l = starts-leaving m at t (first m at (Some t) later x) in
    let n = after (after m (StartLeaving at)) (EndTransaction at) in
    let go = rolls last finish later (at + 1) n (on m n at (Some t) later x (ended m at (after m (StartLeaving at)) l)) in
    ((tt, (l.ending, go.0)), go.1)

stored-ends : (storing : Storing) (m : Machine) → Quiet m → Ends m (last_stored storing).1
unfolding Ends
stored-ends Stored m q = (((q.idle, λ s t there. absurd (none s t there)), (tt, tt)), q.nobody) where
  none : (s : ℕ) (t : Transaction) → transaction_of m s ≡ Some t → ⊥
  none s t there = let e = sym (q.nobody s) ∙ there in cc
stored-ends NoPlace m q = (tt, q.nobody)
stored-ends ReadFailed m q = (tt, q.nobody)
stored-ends (Damaged offset want found) m q = (tt, q.nobody)
stored-ends (WriteFailed fault) m q = ((tt, tt), q.nobody)

last-ends : (number : ℕ) (storing : Storing) (m : Machine) → Quiet m → Ends m (last_checkpoint number storing).1
unfolding Ends
last-ends number storing m q = elim (cases_Bool (nat_le NUMBER_MAX number)) [
  | inl is ↦ rw is (tt, q.nobody)
  | inr isnt ↦ rw isnt (stored-ends storing m q)
]

closing-ends : (m : Machine) (number : ℕ) (storing : Storing) → m.checkpoint ≡ None → Ends m (closing m (last_checkpoint number storing)).1
closing-ends m number storing idle = rolls (last_checkpoint number storing).1 (last-ends number storing) m.sessions 0 m (record {
  below = λ s lt. absurd (omega arith);
  above = λ s. ap (transaction_of m) (let e : 0 + s ≡ s = omega arith in e);
  idle = idle;
})

-- the rollbacks alone may come
pub may-roll : (m : Machine) → m.checkpoint ≡ None → EachMayCome m (rolling_back 0 m.sessions)
unfolding Ends
may-roll m idle = subst (EachMayCome m) (append-nil (rolling_back 0 m.sessions)) (rolls [] (λ n q. (tt, q.nobody)) m.sessions 0 m (record {
  below = λ s lt. absurd (omega arith);
  above = λ s. ap (transaction_of m) (let e : 0 + s ≡ s = omega arith in e);
  idle = idle;
})).0

pub idle-close : (m : Machine) (u : Unfinished) → close_busy m u ≡ None → m.checkpoint ≡ None
idle-close m u e = by (is_there m.checkpoint) refl where
  by : (b : Bool) → is_there m.checkpoint ≡ b → m.checkpoint ≡ None
  by true is = let f = rw is at e in absurd (cc)
  by false isnt = not-there m.checkpoint isnt

pub may-close : (m : Machine) (u : Unfinished) (number : ℕ) (storing : Storing) → EachMayCome m (close_decision m u number storing).1
unfolding Ends
may-close m u number storing = fault m.fault where
  busy : (o : Option Busy) → close_busy m u ≡ o → EachMayCome m (of_some (closing m (last_checkpoint number storing)) (λ busy. close_refused (told.Busy busy)) o).1
  busy None e = (closing-ends m number storing (idle-close m u e)).0
  busy (Some b) e = tt

  fault : (o : Option Fault) → EachMayCome m (of_some (of_some (closing m (last_checkpoint number storing)) (λ busy. close_refused (told.Busy busy)) (close_busy m u)) (λ fault. close_refused (told.Panic fault)) o).1
  fault None = busy (close_busy m u) refl
  fault (Some f) = tt

pub close-ends : (m : Machine) (u : Unfinished) (number : ℕ) (storing : Storing) → m.fault ≡ None → close_busy m u ≡ None
    → (session : ℕ) → transaction_of (after_all m (close_decision m u number storing).1) session ≡ None
unfolding Ends
close-ends m u number storing up free session = subst (λ d. transaction_of (after_all m d.1) session ≡ None) (sym goes) ((closing-ends m number storing (idle-close m u free)).1 session) where
  goes : close_decision m u number storing ≡ closing m (last_checkpoint number storing)
  goes = ap (of_some (of_some (closing m (last_checkpoint number storing)) (λ (busy : Busy). close_refused (told.Busy busy)) (close_busy m u)) (λ (fault : Fault). close_refused (told.Panic fault))) up
      ∙ ap (of_some (closing m (last_checkpoint number storing)) (λ (busy : Busy). close_refused (told.Busy busy))) free
