-- What stood when a transaction began stands.
use Rattle.std.proofs.Common.{ℕ, sym, Bool, true, false, List, [], ◌∷◌, ◌++◌, length, inr, subst, map}
use Rattle.std.specs.Prelude.{nat_lt, filter, if◌then◌else◌}
use Rattle.std.proofs.lemmas.Bool.{lt-ltb}
use Rattle.item.specs.declared.Change.{Change}
use Rattle.stamp.specs.declared.Name.{Name}
use Rattle.stamp.specs.declared.Version.{Version}
use Rattle.kv_model.specs.Holds.{Member}
use Rattle.kv_model.specs.History.{Entry, Create, Commit, Prepare, Resolve, Undo, Rts, Write, line, first, version_of, writes_at}
use Rattle.kv_model.specs.Valid.{NoRollbackSince}
use Rattle.kv_model.specs.PassingLaws.{SnapshotsStand}
use Rattle.kv_model.proofs.Ordering.{line-writes}

-- a version of the first entries is one of all, or of the older ones
step : (n : ℕ) (entry : Entry) (older : List Entry) (table : ℕ) (key : List ℕ) (v : Version Change)
    → ((Member v (line (first n older) table key)) → Member v (line (entry ∷ older) table key))
    → Member v (line (first n (entry ∷ older)) table key) → Member v (line (entry ∷ older) table key)
step n entry older table key v later at = by (nat_lt (length older) n) at where
  by : (b : Bool) → Member v (line (if b then entry ∷ older else first n older) table key) → Member v (line (entry ∷ older) table key)
  by true at = at
  by false at = later at

beneath : (new old : List (Version Change)) (v : Version Change) → Member v old → Member v (new ++ old)
beneath [] old v at = at
beneath (w ∷ new) old v at = inr (beneath new old v at)

written : (name : Name) (writes : List Write) (older : List Entry) (table : ℕ) (key : List ℕ) (v : Version Change) → Member v (line older table key) → Member v (line (Commit name writes ∷ older) table key)
written name writes older table key v at = subst (λ l. Member v l) (sym (line-writes name writes older table key)) (beneath (map (version_of name) (filter (writes_at table key) writes)) (line older table key) v at)

stays : (n : ℕ) (history : List Entry) (table : ℕ) (key : List ℕ) (v : Version Change) → NoRollbackSince n history → Member v (line (first n history) table key) → Member v (line history table key)
stays n [] table key v none at = at
stays n (Create t ∷ older) table key v none at = step n (Create t) older table key v (stays n older table key v none) at
stays n (Commit name writes ∷ older) table key v none at = step n (Commit name writes) older table key v (λ old. written name writes older table key v (stays n older table key v none old)) at
stays n (Prepare name stamp ∷ older) table key v none at = step n (Prepare name stamp) older table key v (stays n older table key v none) at
stays n (Resolve name writes ∷ older) table key v none at = step n (Resolve name writes) older table key v (λ old. written name writes older table key v (stays n older table key v none old)) at
stays n (Undo name ∷ older) table key v none at = step n (Undo name) older table key v (stays n older table key v none) at
stays n (Rts stable ∷ older) table key v low at = subst (λ b. Member v (line (if b then Rts stable ∷ older else first n older) table key)) (lt-ltb (length older) n low) at

pub snapshots-stand : SnapshotsStand
snapshots-stand m s t table key v valid there at = stays t.start m.history table key v (valid.sessions.each s t there).kept at
