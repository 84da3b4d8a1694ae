-- The versions that a leaf holds of its keys, and the transactions that have not ended.
use Rattle.std.proofs.Common.{◌≡◌, ◌⊎◌, ◌<◌, ℕ, refl, ap, sym, ◌∙◌, true, List, [], ◌∷◌, ◌++◌, length, map, inl, inr, subst, arith}
use Rattle.std.specs.Prelude.{Option}
use Rattle.std.specs.Option.{option_to_list}
use Rattle.std.proofs.lemmas.Bool.{both_ways}
use Rattle.item.specs.declared.Change.{Change}
use Rattle.stamp.specs.declared.Version.{Version}
use Rattle.kv_model.specs.Holds.{Descends, Member}
use Rattle.kv_model.specs.History.{Write, committed, line, released}
use Rattle.kv_model.specs.Machine.{Machine, Phase, Running, Failed, Prepared, Resolving, Leaving, name_of}
use Rattle.kv_model.specs.Ordered.{Older}
use Rattle.kv_model.specs.Pending.{HasEnded, InFrame, TopStands, Update as ModelUpdate, settled}
use Rattle.kv_model.specs.Reconciling.{held_in}
use Rattle.kv_model.specs.Valid.{PhaseStands, Valid}
use Rattle.kv_model.proofs.Finishing.{line-committed, member-append}
use Rattle.kv_model.proofs.ReconciledKeys.{held-descends, line-top, member-cell, settled-versions}
use Rattle.kv_model.proofs.Snapshots.{line-released}
use Rattle.snapshot.specs.Matters.{Counts, IsLive}
use Rattle.update_chain.specs.declared.update.Update.{Update}
use Rattle.update_chain.specs.Updates.{update_in}
use Rattle.update_chain.specs.EventLaws.{StandsFor}
use Rattle.update_chain.proofs.Meeting.{counts-writes, has-writes, writer-drawn}
use Rattle.reconcile.specs.Held.{versions}

-- what stands is of a transaction that has ended, where that does not live
pub line-ended : (m : Machine) (table : ℕ) (key : List ℕ) (v : Version Change) → Valid m → Member v (line m.history table key) → (IsLive m v.window.name → ⊥) → HasEnded m v.window.name
line-ended m table key v valid at not s t there name = by-phase t.phase refl where
  seen : released m.history (length m.history) (name_of m t) ≡ true
  seen = subst (λ n. released m.history (length m.history) n ≡ true) name (line-released m.history valid.orderly table key v at)

  drawn : 0 < t.id
  drawn = elim (valid.names (name_of m t) seen) [ inl earlier ↦ absurd (omega arith) | inr now ↦ now.1 ]

  living : Counts t.phase t → ⊥
  living counts = not (record { session = s; transaction = t; there = there; drawn = drawn; name = name; counts = counts })

  phase : (p : Phase) → t.phase ≡ p → PhaseStands p m.history (name_of m t) t
  phase p is = subst (λ q. PhaseStands q m.history (name_of m t) t) is (valid.sessions.each s t there).phase

  by-phase : (p : Phase) → t.phase ≡ p → ⊥
  by-phase Running is = both_ways (released m.history (length m.history) (name_of m t)) (phase Running is) seen
  by-phase Failed is = both_ways (released m.history (length m.history) (name_of m t)) (phase Failed is) seen
  by-phase Leaving is = both_ways (released m.history (length m.history) (name_of m t)) (phase Leaving is) seen
  by-phase (Prepared stamp) is = both_ways (committed m.history (length m.history) (name_of m t)) (phase (Prepared stamp) is).uncommitted
      (subst (λ n. committed m.history (length m.history) n ≡ true) name (line-committed m.history table key v at))
  by-phase Resolving is = by-writes t.writes refl where
    by-writes : (writes : List Write) → t.writes ≡ writes → ⊥
    by-writes [] none = both_ways (released m.history (length m.history) (name_of m t)) ((phase Resolving is).empty none) seen
    by-writes (w ∷ rest) some = living (subst (λ p. Counts p t) (sym is) (w, subst (Member w) (sym some) (inl refl)))

versions-same : (chain : List Update) → versions chain ≡ map {A = ModelUpdate} (λ u. u.version) (map update_in chain)
versions-same [] = refl
versions-same (u ∷ older) = ap (λ (vs : List (Version Change)). u.version ∷ vs) (versions-same older)

-- what is held, as the model says it
pub held-same : (chain : List Update) (cell : Option (Version Change)) → versions chain ++ option_to_list cell ≡ held_in (map update_in chain) cell
held-same chain cell = ap (λ (vs : List (Version Change)). vs ++ option_to_list cell) (versions-same chain)

module _ (m : Machine) (table : ℕ) (key : List ℕ) (chain : List Update) (cell : Option (Version Change)) (valid : Valid m) (k : StandsFor m table key chain cell []) where
  -- it stands, or is of a transaction that has not ended
  pub held-cases : (v : Version Change) → Member v (versions chain ++ option_to_list cell) → Member v (line m.history table key) ⊎ IsLive m v.window.name
  held-cases v there = elim (member-append v (map {A = ModelUpdate} (λ u. u.version) (map update_in chain)) (option_to_list cell) (subst (Member v) (held-same chain cell) there)) [
    | inl at ↦ by-top k.top k.topped (subst (λ l. Member v (map {A = ModelUpdate} (λ u. u.version) l)) k.chained at)
    | inr at ↦ inl (stands (inr (member-cell cell v at)))
  ] where
    stands : InFrame k.held cell v → Member v (line m.history table key)
    stands at = elim (line-top m table key k.top k.below k.topped) [
      | inl same ↦ subst (Member v) (sym same) (k.stores.kept.within v (inl at))
      | inr more ↦ subst (Member v) (sym more.2) (inr (k.stores.kept.within v (inl at)))
    ]

    by-top : (top : List ModelUpdate) → TopStands m table key top k.below → Member v (map {A = ModelUpdate} (λ u. u.version) (top ++ map settled k.held)) → Member v (line m.history table key) ⊎ IsLive m v.window.name
    by-top [] topped at = inl (stands (inl (subst (λ l. Member v l) (settled-versions k.held) at)))
    by-top (u ∷ []) q (inl same) = inr (record {
      session = q.session;
      transaction = q.transaction;
      there = q.there;
      drawn = writer-drawn m q.session q.transaction table key q.write valid q.there q.own;
      name = ap (λ (x : Version Change). x.window.name) same ∙ q.name;
      counts = counts-writes q.transaction.phase q.transaction (has-writes q.transaction table key q.write q.own);
    })
    by-top (u ∷ []) q (inr later) = inl (stands (inl (subst (λ l. Member v l) (settled-versions k.held) later)))
    by-top (u ∷ (w ∷ rest)) topped at = absurd topped

  pub held-ended : (v : Version Change) → Member v (versions chain ++ option_to_list cell) → (IsLive m v.window.name → ⊥) → HasEnded m v.window.name
  held-ended v there not = elim (held-cases v there) [
    | inl at ↦ line-ended m table key v valid at not
    | inr live ↦ absurd (not live)
  ]

  -- newest first
  pub held-ordered : Descends Older (versions chain ++ option_to_list cell)
  held-ordered = subst (Descends Older) (sym (held-same chain cell)) (held-descends m table key (map update_in chain) k.top k.held k.below cell k.chained k.topped k.ordered (λ v at. k.stores.kept.within v (inl at)))
