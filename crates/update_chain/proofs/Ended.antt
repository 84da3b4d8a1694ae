-- A transaction that has ended goes on to have ended, at every event that may come.
use Rattle.std.proofs.Common.{◌≡◌, ℕ, ◌∙◌, true, List, length, inl, inr, subst}
use Rattle.std.proofs.lemmas.Bool.{both_ways}
use Rattle.item.specs.declared.Change.{Change}
use Rattle.stamp.specs.declared.Version.{Version}
use Rattle.kv_model.specs.Holds.{Member}
use Rattle.kv_model.specs.History.{line, released}
use Rattle.kv_model.specs.Machine.{Machine, Event, after, name_of}
use Rattle.kv_model.specs.Allowed.{Allowed}
use Rattle.kv_model.specs.Valid.{Valid}
use Rattle.kv_model.specs.Pending.{HasEnded}
use Rattle.kv_model.proofs.Meetings.{all-met}
use Rattle.kv_model.proofs.Snapshots.{line-released}

-- the transaction of a version that stands
pub ended-after : (m : Machine) (event : Event) (table : ℕ) (key : List ℕ) (v : Version Change) → Valid m → Allowed m event → Member v (line m.history table key) → HasEnded m v.window.name → HasEnded (after m event) v.window.name
ended-after m event table key v valid may there ended s u at is = elim (all-met m event valid may s u at) [
  | inl old ↦ ended s old.0 old.1 (is ∙ old.2)
  | inr never ↦ both_ways (released m.history (length m.history) (name_of (after m event) u)) never
      (subst (λ n. released m.history (length m.history) n ≡ true) is (line-released m.history valid.orderly table key v there))
]
