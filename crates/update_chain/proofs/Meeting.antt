-- When the update on top of a chain is met.
use Rattle.std.proofs.Common.{◌≡◌, ◌⊎◌, ◌<◌, ℕ, zero, suc, refl, ap, sym, ◌∙◌, true, false, ◌&&◌, List, ◌∷◌, length, inl, inr, subst, arith}
use Rattle.std.specs.Prelude.{find, Some, if◌then◌else◌}
use Rattle.std.proofs.lemmas.Bool.{both_ways, and_left, and_right, ne_eqb, and_cases}
use Rattle.item.specs.declared.Change.{Change}
use Rattle.stamp.specs.declared.Name.{Name}
use Rattle.stamp.specs.declared.Version.{Version}
use Rattle.kv_model.specs.Holds.{Member}
use Rattle.kv_model.specs.History.{Write, admits, reads_at, released, writes_at}
use Rattle.kv_model.specs.Machine.{Machine, Transaction, Phase, Running, Failed, Prepared, Resolving, Leaving, transaction_of, name_of}
use Rattle.kv_model.specs.Reads.{prepared_in, PreparedAt, own_write}
use Rattle.kv_model.specs.Valid.{Valid, PhaseStands}
use Rattle.kv_model.specs.Pending.{Update as ModelUpdate, MarkStands, BelowStands, IsOutcome}
use Rattle.kv_model.proofs.Newest.{find-member}
use Rattle.kv_model.proofs.Prepares.{unprepared, unreleased-at, prepared-at, later-unread}
use Rattle.snapshot.specs.Matters.{Counts, HasWrites}
use Rattle.update_chain.specs.declared.update.Update.{Update}
use Rattle.update_chain.specs.Updates.{stamp_at}

-- ---- the update on top

-- a transaction with an own write of a key has writes
pub has-writes : (t : Transaction) (table : ℕ) (key : List ℕ) (w : Write) → own_write t table key ≡ Some w → HasWrites t
has-writes t table key w is = (w, (find-member (writes_at table key) t.writes w is).0)

-- so it counts in each phase
pub counts-writes : (p : Phase) (t : Transaction) → HasWrites t → Counts p t
counts-writes Running t w = tt
counts-writes Failed t w = tt
counts-writes Leaving t w = tt
counts-writes (Prepared stamp) t w = w
counts-writes Resolving t w = w

pub writer-drawn : (m : Machine) (s : ℕ) (t : Transaction) (table : ℕ) (key : List ℕ) (w : Write) → Valid m → transaction_of m s ≡ Some t → own_write t table key ≡ Some w → 0 < t.id
writer-drawn m s t table key w v there is = by-id t.id refl where
  by-id : (id : ℕ) → t.id ≡ id → 0 < id
  by-id zero none = absurd (subst (λ l. Member w l) ((v.sessions.each s t there).undrawn none) (find-member (writes_at table key) t.writes w is).0)
  by-id (suc id) some = omega arith

-- the update of the model as one of the code
abbrev pub back : ModelUpdate → Update
back u = record { version = u.version; prepared = u.prepared }

-- what there is to know of an update of this name, above these versions: where it is met, that it is marked there, and that else the versions that stand give what those below give
pub record Tops (m : Machine) (n read : ℕ) (name : Name) (u : ModelUpdate) (stands below : List (Version Change)) : Type 0 where
  pub met : (released m.history n name && reads_at read (stamp_at (back u))) ≡ prepared_in m.history n read name
  pub marked : prepared_in m.history n read name ≡ true → 0 < u.prepared
  pub skips : prepared_in m.history n read name ≡ false → find (admits m.history n read) stands ≡ find (admits m.history n read) below

-- of a transaction that was not released
tops-unreleased : (m : Machine) (n read : ℕ) (name : Name) (u : ModelUpdate) (stands below : List (Version Change)) → released m.history (length m.history) name ≡ false → stands ≡ below → Tops m n read name u stands below
tops-unreleased m n read name u stands below none rest = record {
  met = and_left (released m.history n name) (reads_at read (stamp_at (back u))) (unreleased-at m.history n name none) ∙ sym (unprepared m.history n read name none);
  marked = λ e. absurd (both_ways (prepared_in m.history n read name) (unprepared m.history n read name none) e);
  skips = λ e. ap (find (admits m.history n read)) rest;
}

pub marked-stamp : (u : ModelUpdate) → 0 < u.prepared → stamp_at (back u) ≡ u.prepared
marked-stamp u some = ap (λ b. if b then u.version.window.commit else u.prepared) (ne_eqb u.prepared 0 (λ e. absurd (omega arith)))

-- the outcome of an update that is not met is not admitted
outcome-unread : (m : Machine) (n read : ℕ) (name : Name) (u : ModelUpdate) (v : Version Change) → IsOutcome name u v → (released m.history n name && reads_at read u.prepared) ≡ false → admits m.history n read v ≡ false
outcome-unread m n read name u v out e = elim (and_cases (released m.history n name) (reads_at read u.prepared) e) [
  | inl unseen ↦ and_left (released m.history n v.window.name) (reads_at read v.window.commit) (ap (released m.history n) out.0 ∙ unseen)
  | inr unread ↦ and_right (released m.history n v.window.name) (reads_at read v.window.commit) (later-unread read u.prepared v.window.commit out.1 unread)
]

-- of one that was prepared at the stamp of the mark
tops-prepared : (m : Machine) (n read : ℕ) (name : Name) (u : ModelUpdate) (stands below : List (Version Change)) → 0 < u.prepared → PreparedAt m.history name u.prepared
    → (stands ≡ below) ⊎ ((v : Version Change) × IsOutcome name u v × (stands ≡ v ∷ below)) → Tops m n read name u stands below
tops-prepared m n read name u stands below some at rest = record {
  met = ap (λ s. released m.history n name && reads_at read s) (marked-stamp u some) ∙ sym (prepared-at m.history n read u.prepared name at);
  marked = λ e. some;
  skips = λ e. elim rest [
    | inl same ↦ ap (find (admits m.history n read)) same
    | inr one ↦ ap (find (admits m.history n read)) one.2
        ∙ ap (λ b. if b then Some one.0 else find (admits m.history n read) below) (outcome-unread m n read name u one.0 one.1 (sym (prepared-at m.history n read u.prepared name at) ∙ e))
  ];
}

-- in each phase of the transaction that has writes
pub tops : (m : Machine) (n read : ℕ) (p : Phase) (t : Transaction) (u : ModelUpdate) (stands below : List (Version Change)) → HasWrites t → PhaseStands p m.history (name_of m t) t
    → MarkStands p m.history (name_of m t) u → BelowStands p (name_of m t) u stands below → Tops m n read (name_of m t) u stands below
tops m n read Running t u stands below writes phase mark rest = tops-unreleased m n read (name_of m t) u stands below phase rest
tops m n read Failed t u stands below writes phase mark rest = tops-unreleased m n read (name_of m t) u stands below phase rest
tops m n read Leaving t u stands below writes phase mark rest = tops-unreleased m n read (name_of m t) u stands below phase rest
tops m n read (Prepared stamp) t u stands below writes phase mark rest = tops-prepared m n read (name_of m t) u stands below (let some = phase.marked in omega arith)
    (subst (λ s. PreparedAt m.history (name_of m t) s) (sym mark) (phase.prepared writes.0 writes.1)) (inl rest)
tops m n read Resolving t u stands below writes phase mark rest = tops-prepared m n read (name_of m t) u stands below mark.0 mark.1 (elim rest [ inl same ↦ inl same.0 | inr one ↦ inr one ])

-- what stands is what is below, or one version more
pub below-cases : (p : Phase) (name : Name) (u : ModelUpdate) (stands below : List (Version Change)) → BelowStands p name u stands below → (stands ≡ below) ⊎ ((v : Version Change) × (stands ≡ v ∷ below))
below-cases Running name u stands below rest = inl rest
below-cases Failed name u stands below rest = inl rest
below-cases Leaving name u stands below rest = inl rest
below-cases (Prepared stamp) name u stands below rest = inl rest
below-cases Resolving name u stands below rest = elim rest [ inl same ↦ inl same.0 | inr one ↦ inr (one.0, one.2) ]
