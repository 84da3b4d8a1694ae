-- What is captured of a chain that stands for its key.
use Rattle.std.proofs.Common.{◌≡◌, ◌⊎◌, ◌∙◌, ◌++◌, ℕ, true, false, List, [], ◌∷◌, length, map, Some, None, refl, ap, sym, subst, inl, inr}
use Rattle.std.proofs.lemmas.Bool.{both_ways}
use Rattle.std.proofs.lemmas.List.{append-nil}
use Rattle.item.specs.declared.Change.{Change}
use Rattle.stamp.specs.declared.Name.{Name}
use Rattle.stamp.specs.declared.Version.{Version}
use Rattle.kv_model.specs.AgreementLaws.{head_of}
use Rattle.kv_model.specs.Holds.{Member, Descends}
use Rattle.kv_model.specs.Ordered.{Older}
use Rattle.kv_model.specs.History.{line, committed}
use Rattle.kv_model.specs.Machine.{Machine, Transaction, Phase, Running, Failed, Prepared, Resolving, Leaving, name_of}
use Rattle.kv_model.specs.Reads.{is_own}
use Rattle.kv_model.specs.Valid.{Valid, PhaseStands}
use Rattle.kv_model.specs.StoreLaws.{Held}
use Rattle.kv_model.specs.Pending.{Update as ModelUpdate, settled, BelowStands, IsTop, TopStands, KeyStands}
use Rattle.kv_model.proofs.Finishing.{line-committed, older-order}
use Rattle.kv_model.proofs.Ordering.{line-descends}
use Rattle.kv_model.proofs.Releasing.{never-committed}
use Rattle.snapshot.specs.Matters.{IsLive, SeesCommitted}
use Rattle.snapshot.specs.Sight.{Sight, is_seen}
use Rattle.update_chain.specs.declared.update.Update.{Update}
use Rattle.update_chain.specs.Updates.{update_in, unmarked_update}
use Rattle.update_chain.proofs.Meeting.{back, counts-writes, has-writes, writer-drawn}
use Rattle.leaf_chains.specs.Slots.{chain_at}
use Rattle.reconcile.specs.Capture.{captured}
use Rattle.reconcile.specs.CaptureLaws.{CapturedRowsAreNewest, CapturesAreNewest, NoCommitResolves}
use Rattle.reconcile.proofs.Picking.{captured_below, captured_here}

-- ---- a chain as the top and the versions under it

pub back_all : (chain : List Update) → map back (map update_in chain) ≡ chain
back_all [] = refl
back_all (u ∷ older) = ap (λ (l : List Update). u ∷ l) (back_all older)

back_held : (held : List (Version Change)) → map back (map settled held) ≡ map unmarked_update held
back_held [] = refl
back_held (v ∷ older) = ap (λ (l : List Update). unmarked_update v ∷ l) (back_held older)

pub back_parts : (top : List ModelUpdate) (held : List (Version Change)) → map back (top ++ map settled held) ≡ map back top ++ map unmarked_update held
back_parts [] held = back_held held
back_parts (u ∷ top) held = ap (λ (l : List Update). back u ∷ l) (back_parts top held)

-- ---- the versions under it

held_first : (s : Sight) (held : List (Version Change)) → ((v : Version Change) → Member v held → is_seen s v.window.name ≡ true) → captured s (map unmarked_update held) ≡ head_of held
held_first s [] seen = refl
held_first s (v ∷ older) seen = captured_here s (unmarked_update v) (map unmarked_update older) (seen v (inl refl))

-- the newest is held, since nothing covers it
pub newest_held : (held below : List (Version Change)) → Descends Older below → Descends Older held
    → ((v : Version Change) → Member v held → Member v below) → ((v : Version Change) → Member v below → Member v held ⊎ ((w : Version Change) × Member w below × Older v w)) → head_of held ≡ head_of below
newest_held [] [] down up within all = refl
newest_held (h ∷ held) [] down up within all = absurd (within h (inl refl))
newest_held held (b ∷ below) down up within all = of_held held up within first where
  first : Member b held
  first = elim (all b (inl refl)) [
    | inl there ↦ there
    | inr covered ↦ elim covered.1 [
      | inl same ↦ absurd (older-order.irrefl b (subst (λ (w : Version Change). Older b w) same covered.2))
      | inr later ↦ absurd (older-order.asym b covered.0 covered.2 (down.0 covered.0 later))
    ]
  ]

  of_held : (held : List (Version Change)) → Descends Older held → ((v : Version Change) → Member v held → Member v (b ∷ below)) → Member b held → head_of held ≡ Some b
  of_held [] up within there = absurd there
  of_held (h ∷ held) up within (inl same) = ap (λ (v : Version Change). Some v) (sym same)
  of_held (h ∷ held) up within (inr later) = elim (within h (inl refl)) [
    | inl same ↦ ap (λ (v : Version Change). Some v) same
    | inr under ↦ absurd (older-order.asym h b (down.0 h under) (up.0 b later))
  ]

below_held : (m : Machine) (table : ℕ) (key : List ℕ) (chain : List ModelUpdate) → (k : KeyStands m table key chain None (Held [])) → Descends Older k.below → head_of k.held ≡ head_of k.below
below_held m table key chain k down = newest_held k.held k.below down (subst (λ (l : List (Version Change)). Descends Older l) (append-nil k.held) k.ordered)
    (λ v at. k.stores.kept.within v (inl (inl at)))
    (λ v at. elim (k.stores.kept.all v at) [
      | inl one ↦ elim one [
        | inl frame ↦ elim frame [ inl there ↦ inl there | inr cell ↦ absurd (no_cell v cell) ]
        | inr none ↦ absurd none
      ]
      | inr covered ↦ inr (covered.0, covered.1, covered.2)
    ]) where
      no_cell : (v : Version Change) → None ≡ Some v → ⊥
      no_cell v e = cc

-- ---- the top

-- who has not ended is not committed, but where its commit is being resolved
uncommitted : (m : Machine) (t : Transaction) (p : Phase) → Valid m → PhaseStands p m.history (name_of m t) t → (p ≡ Resolving → committed m.history (length m.history) (name_of m t) ≡ false)
    → committed m.history (length m.history) (name_of m t) ≡ false
uncommitted m t Running valid stands none = never-committed m t valid stands
uncommitted m t Failed valid stands none = never-committed m t valid stands
uncommitted m t Leaving valid stands none = never-committed m t valid stands
uncommitted m t (Prepared stamp) valid stands none = stands.uncommitted
uncommitted m t Resolving valid stands none = none refl

-- under an update whose name no version bears lies all that stands
under_top : (p : Phase) (name : Name) (u : ModelUpdate) (stands below : List (Version Change)) → BelowStands p name u stands below → ((v : Version Change) → Member v stands → v.window.name ≡ name → ⊥) → stands ≡ below
under_top Running name u stands below rest none = rest
under_top Failed name u stands below rest none = rest
under_top Leaving name u stands below rest none = rest
under_top (Prepared stamp) name u stands below rest none = rest
under_top Resolving name u stands below (inl same) none = same.0
under_top Resolving name u stands below (inr one) none = absurd (none one.0 (subst (λ (l : List (Version Change)). Member one.0 l) (sym one.2) (inl refl)) one.1.0)

-- what there is to know of the top
pub record Top (m : Machine) (table : ℕ) (key : List ℕ) (s : Sight) (u : ModelUpdate) (below : List (Version Change)) : Type 0 where
  pub unseen : is_seen s u.version.window.name ≡ false
  pub under : line m.history table key ≡ below

pub top_unseen : (m : Machine) (table : ℕ) (key : List ℕ) (s : Sight) (u : ModelUpdate) (below : List (Version Change)) → Valid m → NoCommitResolves m table key → SeesCommitted m (length m.history) s → IsTop m table key u below
    → Top m table key s u below
top_unseen m table key s u below valid none sees q = record {
  unseen = sees.sees u.version.window.name (inr live) ∙ (ap (committed m.history (length m.history)) q.name ∙ never);
  under = under_top q.transaction.phase (name_of m q.transaction) u (line m.history table key) below q.rest (λ v at same.
      both_ways (committed m.history (length m.history) (name_of m q.transaction)) never (subst (λ (n : Name). committed m.history (length m.history) n ≡ true) same (line-committed m.history table key v at)));
} where
  live : IsLive m u.version.window.name
  live = record {
    session = q.session;
    transaction = q.transaction;
    there = q.there;
    drawn = writer-drawn m q.session q.transaction table key q.write valid q.there q.own;
    name = q.name;
    counts = counts-writes q.transaction.phase q.transaction (has-writes q.transaction table key q.write q.own);
  }

  never : committed m.history (length m.history) (name_of m q.transaction) ≡ false
  never = uncommitted m q.transaction q.transaction.phase valid (valid.sessions.each q.session q.transaction q.there).phase (none q.session q.transaction (q.there, ap is_own q.own))

-- ---- the laws

pub captures-newest : CapturesAreNewest
captures-newest m table key chain s valid none sees k = ap (captured s) whole ∙ by_top k.top k.topped where
  whole : chain ≡ map back k.top ++ map unmarked_update k.held
  whole = sym (back_all chain) ∙ (ap (map back) k.chained ∙ back_parts k.top k.held)

  -- of what is held, where it is all that stands
  of_held : line m.history table key ≡ k.below → captured s (map unmarked_update k.held) ≡ head_of (line m.history table key)
  of_held under =
      held_first s k.held (λ v at.
      let there = line-committed m.history table key v (subst (λ (l : List (Version Change)). Member v l) (sym under) (k.stores.kept.within v (inl (inl at)))) in
      sees.sees v.window.name (inl there) ∙ there)
      ∙ (below_held m table key (map update_in chain) k (subst (λ (l : List (Version Change)). Descends Older l) under (line-descends m.history valid.orderly table key)) ∙ ap head_of (sym under))

  by_top : (top : List ModelUpdate) → TopStands m table key top k.below → captured s (map back top ++ map unmarked_update k.held) ≡ head_of (line m.history table key)
  by_top [] topped = of_held topped.0
  by_top (u ∷ []) q = let t = top_unseen m table key s u k.below valid none sees q in captured_below s (back u) (map unmarked_update k.held) t.unseen ∙ of_held t.under
  by_top (u ∷ (w ∷ more)) topped = absurd topped

pub captured-newest : CapturedRowsAreNewest
captured-newest m table chains s rows valid none sees stands is key =
    sym (captures-newest m table key (chain_at key chains) s valid (λ r t wrote resolves. absurd (none r t wrote.0 resolves)) sees (stands key)) ∙ sym (is.shows key)
