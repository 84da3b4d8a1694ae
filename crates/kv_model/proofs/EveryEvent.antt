-- Every event that may come keeps a machine valid.
use Rattle.std.proofs.Common.{◌≡◌, ℕ, refl, sym, List, [], ◌∷◌, length, inl, inr, subst, arith}
use Rattle.std.specs.Prelude.{Option, Some, None, ◌==◌, ◌+◌, max, if◌then◌else◌}
use Rattle.std.proofs.lemmas.Bool.{cases_Bool}
use Rattle.kv_model.specs.Ordered.{IsNewTable}
use Rattle.kv_model.specs.History.{Entry, Create, Rts, Table}
use Rattle.kv_model.specs.Machine.{Machine, Transaction, Checkpoint, Position, Event, transaction_of, after, of_some, finished, OpenSession, BeginAt, DrawId, AcceptWrite, RefuseWrite, PrepareAt, CommitAt, StartLeaving, EndTransaction, PlaceCursor, CreateTable, SetStamps, RollbackToStable, CheckpointStart, CheckpointFinish, CheckpointDrop, GoDown, Nothing}
use Rattle.kv_model.specs.Allowed.{Allowed, StampsFit}
use Rattle.kv_model.specs.Valid.{Valid, ValidSessions, ValidCheckpoint}
use Rattle.kv_model.proofs.Releases.{released-whole, released-cases}
use Rattle.kv_model.proofs.Seats.{seat-inside}
use Rattle.kv_model.proofs.Cursors.{cursors-placed}
use Rattle.kv_model.proofs.Growing.{grown, grown-checkpoint}
use Rattle.kv_model.proofs.Beginning.{valid-end, valid-open, valid-begin, valid-draw}
use Rattle.kv_model.proofs.Writing.{valid-accept, valid-refuse}
use Rattle.kv_model.proofs.Releasing.{valid-prepare}
use Rattle.kv_model.proofs.Committing.{valid-commit, valid-leave}

-- no checkpoint runs
undisturbed : (m : Machine) (history : List Entry) (oldest stable : ℕ) → (c : Checkpoint) → None ≡ Some c → ValidCheckpoint history oldest stable c
undisturbed m history oldest stable c is = absurd (cc)

valid-create : (m : Machine) (table : Table) → Valid m → IsNewTable table m.history → Valid (after m (CreateTable table))
valid-create m table v new = record {
  run = v.run;
  next = v.next;
  orderly = (new, v.orderly);
  names = λ x e. elim (released-cases (Create table) m.history (length (Create table ∷ m.history)) x e) [
    | inl here ↦ let never = here.0 in absurd (cc)
    | inr old ↦ v.names x (released-whole m.history (length (Create table ∷ m.history)) x old)
  ];
  stamps = v.stamps;
  sessions = record {
    each = λ s t there. grown m.run m.next (Create table) m.history t (record { release = refl; commit = refl; kept = λ n k. k; lines = λ busy table key own. refl }) (v.sessions.each s t there);
    distinct = v.sessions.distinct;
    apart = v.sessions.apart;
  };
  checkpoint = λ c runs. grown-checkpoint (Create table) m.history m.oldest m.stable c (λ news start whole. tt) (v.checkpoint c runs);
  cursors = v.cursors;
}

valid-set : (m : Machine) (oldest stable : ℕ) → Valid m → StampsFit (max m.oldest oldest) (max m.stable stable) → Valid (after m (SetStamps oldest stable))
valid-set m oldest stable v fit = record {
  run = v.run;
  next = v.next;
  orderly = v.orderly;
  names = v.names;
  stamps = fit;
  sessions = v.sessions;
  checkpoint = λ c runs. let k = v.checkpoint c runs in record {
    news = k.news;
    start = k.start;
    whole = k.whole;
    prefix = k.prefix;
    follow = k.follow;
    oldest = (let low = k.oldest in omega arith);
    stable = (let low = k.stable in omega arith);
    stamps = k.stamps;
  };
  cursors = v.cursors;
}

-- nobody is active
nobody : (m : Machine) (history : List Entry) → ((s : ℕ) → transaction_of m s ≡ None) → ValidSessions m.run m.next history m.sessions
nobody m history none = record {
  each = λ s t there. let gone = none s in absurd (cc);
  distinct = λ s r t u there at. let gone = none s in absurd (cc);
  apart = λ s r t u table key there at. let gone = none s in absurd (cc);
}

valid-rollback : (m : Machine) → Valid m → ((s : ℕ) → transaction_of m s ≡ None) → m.checkpoint ≡ None → Valid (after m RollbackToStable)
valid-rollback m v none quiet = elim (cases_Bool (m.stable == 0)) [
  | inl unset ↦ subst (λ b. Valid (record m { history = if b then m.history else Rts m.stable ∷ m.history; rollbacks = m.rollbacks + 1 })) (sym unset) (record {
    run = v.run;
    next = v.next;
    orderly = v.orderly;
    names = v.names;
    stamps = v.stamps;
    sessions = v.sessions;
    checkpoint = v.checkpoint;
    cursors = v.cursors;
  })
  | inr is ↦ subst (λ b. Valid (record m { history = if b then m.history else Rts m.stable ∷ m.history; rollbacks = m.rollbacks + 1 })) (sym is) (record {
    run = v.run;
    next = v.next;
    orderly = v.orderly;
    names = λ x e. elim (released-cases (Rts m.stable) m.history (length (Rts m.stable ∷ m.history)) x e) [
      | inl here ↦ let never = here.0 in absurd (cc)
      | inr old ↦ v.names x (released-whole m.history (length (Rts m.stable ∷ m.history)) x old)
    ];
    stamps = v.stamps;
    sessions = nobody m (Rts m.stable ∷ m.history) none;
    checkpoint = λ c runs. absurd (cc);
    cursors = v.cursors;
  })
]

valid-start : (m : Machine) → Valid m → Valid (after m CheckpointStart)
valid-start m v = record {
  run = v.run;
  next = v.next;
  orderly = v.orderly;
  names = v.names;
  stamps = v.stamps;
  sessions = v.sessions;
  checkpoint = λ c runs. let same : start ≡ c = cc in subst (λ k. ValidCheckpoint m.history m.oldest m.stable k) same (record {
    news = [];
    start = m.history;
    whole = refl;
    prefix = refl;
    follow = tt;
    oldest = omega arith;
    stable = omega arith;
    stamps = v.stamps;
  });
  cursors = v.cursors;
} where
  start : Checkpoint
  start = record { prefix = length m.history; oldest = m.oldest; stable = m.stable }

valid-finish : (m : Machine) → Valid m → Valid (after m CheckpointFinish)
valid-finish m v = by-run m.checkpoint refl where
  by-run : (o : Option Checkpoint) → m.checkpoint ≡ o → Valid (of_some m (finished m) m.checkpoint)
  by-run None is = subst (λ o. Valid (of_some m (finished m) o)) (sym is) v
  by-run (Some c) is = subst (λ o. Valid (of_some m (finished m) o)) (sym is) (record {
    run = v.run;
    next = v.next;
    orderly = v.orderly;
    names = v.names;
    stamps = v.stamps;
    sessions = v.sessions;
    checkpoint = λ k runs. undisturbed m m.history m.oldest m.stable k runs;
    cursors = v.cursors;
  })

valid-drop : (m : Machine) → Valid m → Valid (after m CheckpointDrop)
valid-drop m v = record {
  run = v.run;
  next = v.next;
  orderly = v.orderly;
  names = v.names;
  stamps = v.stamps;
  sessions = v.sessions;
  checkpoint = λ k runs. undisturbed m m.history m.oldest m.stable k runs;
  cursors = v.cursors;
}

valid-place : (m : Machine) (s cursor : ℕ) (position : Option Position) (t : Transaction) → Valid m → transaction_of m s ≡ Some t → Valid (after m (PlaceCursor s cursor position))
valid-place m s cursor position t v there = record {
  run = v.run;
  next = v.next;
  orderly = v.orderly;
  names = v.names;
  stamps = v.stamps;
  sessions = v.sessions;
  checkpoint = v.checkpoint;
  cursors = cursors-placed m.sessions m.cursors s cursor t position there (seat-inside m.sessions s t there) v.cursors;
}

pub valid-after : (m : Machine) (event : Event) → Valid m → Allowed m event → Valid (after m event)
valid-after m OpenSession v may = valid-open m v
valid-after m (BeginAt s read) v may = valid-begin m s read may.0 v
valid-after m (DrawId s) v may = valid-draw m s may.0 v may.1 may.2.0 may.2.1
valid-after m (AcceptWrite s table key change) v may = valid-accept m s table key change may.0 v may.1 may.2.0 may.2.1 may.2.2 may.2.3
valid-after m (RefuseWrite s) v may = valid-refuse m s may.0 v may.1 may.2
valid-after m (PrepareAt s stamp) v may = valid-prepare m s stamp may.0.0 v may.0.1 may.0.2 may.1
valid-after m (CommitAt s commit durable) v may = valid-commit m s commit durable may.0 v may.1 may.2
valid-after m (StartLeaving s) v may = valid-leave m s v
valid-after m (EndTransaction s) v may = valid-end m s may.0 v may.1
valid-after m (PlaceCursor s cursor position) v may = valid-place m s cursor position may.0 v may.1
valid-after m (CreateTable table) v may = valid-create m table v may.0
valid-after m (SetStamps oldest stable) v may = valid-set m oldest stable v may
valid-after m RollbackToStable v may = valid-rollback m v may.0 may.1
valid-after m CheckpointStart v may = valid-start m v
valid-after m CheckpointFinish v may = valid-finish m v
valid-after m CheckpointDrop v may = valid-drop m v
valid-after m (GoDown fault) v may = record {
  run = v.run;
  next = v.next;
  orderly = v.orderly;
  names = v.names;
  stamps = v.stamps;
  sessions = v.sessions;
  checkpoint = v.checkpoint;
  cursors = v.cursors;
}
valid-after m Nothing v may = v
