-- The table of a run that begins stands for the sessions of the machine.
use Rattle.std.proofs.Common.{◌≡◌, ◌+◌, ℕ, zero, suc, refl, ap, sym, ◌∙◌, [], ◌∷◌, ◌++◌, length, replicate, subst, append_assoc}
use Rattle.std.specs.Prelude.{Option, None, slice_index_or}
use Rattle.std.proofs.lemmas.List.{append-nil, length-replicate}
use Rattle.kv_model.specs.Closing.{after_all}
use Rattle.kv_model.specs.Content.{start}
use Rattle.kv_model.specs.Machine.{Machine, Transaction, OpenSession, after}
use Rattle.txn_table.specs.SessionData.{SessionData, opened, phase_in}
use Rattle.txn_table.specs.Tabled.{fresh, session_of}
use Rattle.txn_table.specs.Stands.{SessionStands}
use Rattle.txn_table.specs.TableLaws.{NewTablesStand}
use Rattle.txn_table.proofs.TableLemmas.{new-state, table-new}

-- the machine once this many sessions more are opened
abbrev pub opened_in : Machine → ℕ → Machine
opened_in m n = after_all m (replicate n OpenSession)

-- sessions are opened, and nothing else changes that a table knows of
pub record OpensMore (m : Machine) (n : ℕ) : Type 0 where
  pub run : (opened_in m n).run ≡ m.run
  pub next : (opened_in m n).next ≡ m.next
  pub sessions : (opened_in m n).sessions ≡ m.sessions ++ replicate n None

opens-more : (m : Machine) (n : ℕ) → OpensMore m n
opens-more m zero = record { run = refl; next = refl; sessions = sym (append-nil m.sessions) }
opens-more m (suc n) = let more = opens-more (after m OpenSession) n in record {
  run = more.run;
  next = more.next;
  sessions = more.sessions ∙ append_assoc m.sessions (None ∷ []) (replicate n None);
}

none-at : (n s : ℕ) → slice_index_or {A = Option Transaction} (replicate n None) s None ≡ None
none-at zero s = refl
none-at (suc n) zero = refl
none-at (suc n) (suc s) = none-at n s

pub new-stands : NewTablesStand
new-stands c n = let more = opens-more (start c) n in record {
  table = table-new (c.run + 1) n;
  run = sym more.run;
  next = sym more.next;
  count = length-replicate n (opened (c.run + 1)) ∙ sym (ap length more.sessions ∙ length-replicate n None);
  sessions = λ s. subst (SessionStands (opened_in (start c) n) (session_of (fresh (c.run + 1) n) s)) (sym (ap (λ l. slice_index_or l s None) more.sessions ∙ none-at n s))
      (ap (λ (x : SessionData). phase_in x.phase) (new-state (c.run + 1) n s));
}
