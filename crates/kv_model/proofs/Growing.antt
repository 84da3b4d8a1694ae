-- What one more entry of the history leaves of a transaction that has not ended, and of a running checkpoint.
use Rattle.std.proofs.Common.{◌≡◌, ◌≤◌, ℕ, ap, sym, ◌∙◌, true, false, List, [], ◌∷◌, ◌++◌, length, inl, inr, subst, arith}
use Rattle.std.specs.Prelude.{◌==◌}
use Rattle.std.proofs.lemmas.Bool.{both_ways, or_right}
use Rattle.stamp.specs.declared.Name.{Name}
use Rattle.kv_model.specs.Holds.{Member}
use Rattle.kv_model.specs.History.{Entry, Create, Commit, Prepare, Resolve, Undo, Rts, line, releases, ends, tables, has_table}
use Rattle.kv_model.specs.Machine.{Transaction, Phase, Running, Failed, Prepared, Resolving, Leaving, Checkpoint, name_in}
use Rattle.kv_model.specs.Captures.{MayFollow}
use Rattle.kv_model.specs.Reads.{own_write, is_own, IsEnding}
use Rattle.kv_model.specs.Valid.{PhaseStands, IsReleased, NoRollbackSince, ValidTransaction, ValidCheckpoint}
use Rattle.kv_model.proofs.Releases.{released-later, released-older, released-whole, released-cases, still-unreleased, still-uncommitted}

-- what the entry leaves alone
pub record Leaves (run : ℕ) (entry : Entry) (history : List Entry) (t : Transaction) : Type 0 where
  pub release : releases entry (name_in run t) ≡ false
  pub commit : ends entry (name_in run t) ≡ false
  pub kept : (n : ℕ) → NoRollbackSince n history → NoRollbackSince n (entry ∷ history)
  pub lines : (IsEnding t.phase → ⊥) → (table : ℕ) (key : List ℕ) → is_own (own_write t table key) ≡ true → line (entry ∷ history) table key ≡ line history table key

pub table-older : (entry : Entry) (history : List Entry) (number : ℕ) → has_table (tables history) number ≡ true → has_table (tables (entry ∷ history)) number ≡ true
table-older (Create t) history number e = or_right (t.number == number) (has_table (tables history) number) e
table-older (Commit name writes) history number e = e
table-older (Prepare name stamp) history number e = e
table-older (Resolve name writes) history number e = e
table-older (Undo name) history number e = e
table-older (Rts s) history number e = e

pub is-released-older : (entry : Entry) (history : List Entry) (name : Name) (t : Transaction) → (t.writes ≡ [] → releases entry name ≡ false) → IsReleased history name t → IsReleased (entry ∷ history) name t
is-released-older entry history name t none is = record {
  writes = λ w there. released-whole (entry ∷ history) (length history) name (released-older entry history (length history) name (is.writes w there));
  empty = λ e. still-unreleased entry history name (none e) (is.empty e);
}

phase-older : (phase : Phase) (run : ℕ) (entry : Entry) (history : List Entry) (t : Transaction) → releases entry (name_in run t) ≡ false → ends entry (name_in run t) ≡ false
    → PhaseStands phase history (name_in run t) t → PhaseStands phase (entry ∷ history) (name_in run t) t
phase-older Running run entry history t none other p = still-unreleased entry history (name_in run t) none p
phase-older Failed run entry history t none other p = still-unreleased entry history (name_in run t) none p
phase-older (Prepared stamp) run entry history t none other p = record {
  marked = p.marked;
  uncommitted = still-uncommitted entry history (name_in run t) other p.uncommitted;
  later = λ n e. elim (released-cases entry history n (name_in run t) e) [ inl here ↦ absurd (both_ways (releases entry (name_in run t)) none here.0) | inr old ↦ p.later n old ];
  released = is-released-older entry history (name_in run t) t (λ e. none) p.released;
  prepared = λ w there. inr (none, p.prepared w there);
}
phase-older Resolving run entry history t none other p = is-released-older entry history (name_in run t) t (λ e. none) p
phase-older Leaving run entry history t none other p = still-unreleased entry history (name_in run t) none p

-- the same transaction over the longer history
pub grown : (run next : ℕ) (entry : Entry) (history : List Entry) (t : Transaction) → Leaves run entry history t → ValidTransaction run next history t → ValidTransaction run next (entry ∷ history) t
grown run next entry history t l v = record {
  id = v.id;
  start = (let low = v.start in omega arith);
  kept = l.kept t.start v.kept;
  sight = λ x e. v.sight x (sym (released-later entry history t.start x v.start) ∙ e);
  undrawn = v.undrawn;
  single = v.single;
  placed = λ w there. table-older entry history w.table (v.placed w there);
  above = λ busy table key own x there. released-later entry history t.start x.window.name v.start ∙ v.above busy table key own x (subst (λ lines. Member x lines) (l.lines busy table key own) there);
  phase = phase-older t.phase run entry history t l.release l.commit v.phase;
}

-- one id more is drawn
pub more-ids : (run next more : ℕ) (history : List Entry) (t : Transaction) → next ≤ more → ValidTransaction run next history t → ValidTransaction run more history t
more-ids run next more history t le v = record {
  id = (let low = v.id in omega arith);
  start = v.start;
  kept = v.kept;
  sight = v.sight;
  undrawn = v.undrawn;
  single = v.single;
  placed = v.placed;
  above = v.above;
  phase = v.phase;
}

pub grown-checkpoint : (entry : Entry) (history : List Entry) (oldest stable : ℕ) (c : Checkpoint) → ((news start : List Entry) → history ≡ news ++ start → MayFollow start entry)
    → ValidCheckpoint history oldest stable c → ValidCheckpoint (entry ∷ history) oldest stable c
grown-checkpoint entry history oldest stable c may v = record {
  news = entry ∷ v.news;
  start = v.start;
  whole = ap (λ l. entry ∷ l) v.whole;
  prefix = v.prefix;
  follow = (may v.news v.start v.whole, v.follow);
  oldest = v.oldest;
  stable = v.stable;
  stamps = v.stamps;
}
