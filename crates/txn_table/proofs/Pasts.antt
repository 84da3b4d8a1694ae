-- What lies at the pin stamp and below the floor is past.
use Rattle.std.proofs.Common.{◌≡◌, ◌<◌, ℕ, suc, refl, ap, sym, ◌∙◌, Bool, true, false, List, [], ◌∷◌, length, inl, inr, arith}
use Rattle.std.specs.Prelude.{◌&&◌, nat_le, Option, Some, None, slice_index_or}
use Rattle.std.specs.List.{list_all}
use Rattle.std.proofs.lemmas.Bool.{and_from, le-leb}
use Rattle.stamp.specs.declared.Name.{Name}
use Rattle.kv_model.specs.History.{released, committed}
use Rattle.kv_model.specs.Machine.{Machine, Transaction, Checkpoint, transaction_of, of_some}
use Rattle.kv_model.specs.Droppable.{seen_by, pin}
use Rattle.kv_model.proofs.Releases.{false-from}
use Rattle.kv_model.proofs.Snapshots.{line-released}
use Rattle.snapshot.specs.Past.{is_below}
use Rattle.kv_model.proofs.Finishing.{line-committed}
use Rattle.txn_table.specs.SessionData.{is_idle}
use Rattle.txn_table.specs.Tabled.{Table, phase_of, floor_of}
use Rattle.txn_table.specs.Stands.{TableStands}
use Rattle.txn_table.specs.TableLaws.{IsSeenByAll}
use Rattle.txn_table.specs.Past.{ThePastCovers, FloorsAreUnderTheLiving, PastsStand}
use Rattle.txn_table.proofs.Bounds.{floors-seen, floor-low, pins-same, busy-some}
use Rattle.txn_table.proofs.Standing.{state-at}

-- a session's snapshot sees what all see
busy-at : (t : Table) (m : Machine) (s : ℕ) (x : Transaction) → TableStands t m → transaction_of m s ≡ Some x → is_idle (phase_of t s) ≡ false
busy-at t m s x stands there = busy-some (phase_of t s) x.phase (state-at t m s x stands there).phase

pub floors-under : FloorsAreUnderTheLiving
floors-under t m checkpoint x v stands live = false-from (is_below x (floor_of t checkpoint)) (λ under.
    let state = state-at t m live.session live.transaction stands live.there in
    let is = (floors-seen t m checkpoint x stands under).sessions live.session (busy-at t m live.session live.transaction stands live.there) in
    let released_then : released m.history live.transaction.start x ≡ true = sym (state.sees.sees x (inr live)) ∙ is in
    let lower = (v.sessions.each live.session live.transaction live.there).sight x released_then (ap (λ (n : Name). n.run) live.name) live.drawn in
    let same = ap (λ (n : Name). n.id) live.name in
    absurd (omega arith))

all-from : {A : Type 0} (p : Option A → Bool) (xs : List (Option A)) → ((s : ℕ) → s < length xs → p (slice_index_or xs s None) ≡ true) → list_all p xs ≡ true
all-from p [] each = refl
all-from p (x ∷ xs) each = and_from (p x) (list_all p xs) (each 0 (omega arith)) (all-from p xs (λ s lt. each (suc s) (omega arith)))

pub past-covers : ThePastCovers
past-covers t m checkpoint table key v valid stands sight there durable under =
    and_from (nat_le v.window.durable (pin m)) (list_all (seen_by m v.window.name) m.sessions && of_some true (λ (c : Checkpoint). committed m.history c.prefix v.window.name) m.checkpoint)
    (le-leb v.window.durable (pin m) (let low = durable in let e = pins-same t m stands in omega arith))
    (and_from (list_all (seen_by m v.window.name) m.sessions) (of_some true (λ (c : Checkpoint). committed m.history c.prefix v.window.name) m.checkpoint)
    (all-from (seen_by m v.window.name) m.sessions (λ s lt. by-state s (transaction_of m s) refl)) (by-checkpoint m.checkpoint refl)) where
      all : IsSeenByAll t checkpoint v.window.name
      all = floors-seen t m checkpoint v.window.name stands under

      by-state : (s : ℕ) (o : Option Transaction) → transaction_of m s ≡ o → seen_by m v.window.name (transaction_of m s) ≡ true
      by-state s None is = ap (seen_by m v.window.name) is
      by-state s (Some x) is = ap (seen_by m v.window.name) is
          ∙ (sym ((state-at t m s x stands is).sees.sees v.window.name (inl (line-released m.history valid.orderly table key v there))) ∙ all.sessions s (busy-at t m s x stands is))

      by-checkpoint : (o : Option Checkpoint) → m.checkpoint ≡ o → of_some true (λ (c : Checkpoint). committed m.history c.prefix v.window.name) m.checkpoint ≡ true
      by-checkpoint None is = ap (of_some true (λ (c : Checkpoint). committed m.history c.prefix v.window.name)) is
      by-checkpoint (Some k) is = let c = sight k is in ap (of_some true (λ (c : Checkpoint). committed m.history c.prefix v.window.name)) is
          ∙ (sym (c.2.sees v.window.name (inl (line-committed m.history table key v there))) ∙ all.checkpoints c.0 c.1 (c.2.run ∙ sym stands.run))

pub pasts-stand : PastsStand
pasts-stand t m checkpoint table key valid stands sight = record {
  cover = λ v there durable below. past-covers t m checkpoint table key v valid stands sight there durable below;
  living = λ x live. floors-under t m checkpoint x valid stands live;
  coming = (stands.run, (let low = floor-low t checkpoint in let next = stands.next in omega arith));
}
