-- The update on top of a chain that stands, and the transaction that it is of.
use Rattle.std.proofs.Common.{◌≡◌, ◌⊎◌, ◌<◌, ℕ, refl, ap, sym, ◌∙◌, true, false, List, [], ◌∷◌, ◌++◌, length, inl, inr, subst, map, arith}
use Rattle.std.specs.Prelude.{Option, Some, None}
use Rattle.std.proofs.lemmas.Bool.{cases_eq, both_ways}
use Rattle.item.specs.declared.Change.{Change}
use Rattle.stamp.specs.declared.Name.{Name}
use Rattle.stamp.specs.declared.Version.{Version}
use Rattle.kv_model.specs.Holds.{Member}
use Rattle.kv_model.specs.Ordered.{Older}
use Rattle.kv_model.specs.History.{Write, line, released, name_eq}
use Rattle.kv_model.specs.Machine.{Machine, Transaction, Phase, Running, Failed, Prepared, Resolving, Leaving, transaction_of, name_of}
use Rattle.kv_model.specs.Reads.{own_write, is_own, IsEnding, OthersEnding}
use Rattle.kv_model.specs.Valid.{Valid}
use Rattle.kv_model.specs.Pending.{Update as ModelUpdate, settled, MarkStands, BelowStands, IsTop, TopStands, KeyStands, InFrame}
use Rattle.kv_model.proofs.Releases.{name_eq-same}
use Rattle.kv_model.proofs.Snapshots.{line-released}
use Rattle.update_chain.specs.declared.update.Update.{Update}
use Rattle.update_chain.specs.Updates.{update_in}
use Rattle.update_chain.proofs.Meeting.{below-cases, writer-drawn}
use Rattle.update_chain.proofs.Reading.{one-transaction, part-within}

-- names of transactions tell their sessions apart
pub same-session : (m : Machine) (s r : ℕ) (t x : Transaction) → Valid m → transaction_of m s ≡ Some t → transaction_of m r ≡ Some x → 0 < t.id → name_of m x ≡ name_of m t → r ≡ s
same-session m s r t x v there at drawn name = elim (cases_eq r s) [
  | inl same ↦ same
  | inr other ↦ absurd (v.sessions.distinct s r t x there at (λ e. other (sym e)) drawn (sym (ap (λ (n : Name). n.id) name)))
]

-- the update is this transaction's
pub record TopOf (m : Machine) (s : ℕ) (t : Transaction) (w : Write) (table : ℕ) (key : List ℕ) (u : ModelUpdate) (below : List (Version Change)) : Type 0 where
  pub there : transaction_of m s ≡ Some t
  pub own : own_write t table key ≡ Some w
  pub name : u.version.window.name ≡ name_of m t
  pub change : u.version.change ≡ w.change
  pub mark : MarkStands t.phase m.history (name_of m t) u
  pub rest : BelowStands t.phase (name_of m t) u (line m.history table key) below
  pub alone : OthersEnding m s table key
  pub above : (v : Version Change) → Member v below → Older v u.version

pub top-of : (m : Machine) (s : ℕ) (t : Transaction) (w : Write) (table : ℕ) (key : List ℕ) (u : ModelUpdate) (below : List (Version Change)) → transaction_of m s ≡ Some t → own_write t table key ≡ Some w
    → (q : IsTop m table key u below) → q.session ≡ s → TopOf m s t w table key u below
top-of m s t w table key u below there own q here = record {
  there = there;
  own = own;
  name = q.name ∙ ap (name_of m) same;
  change = q.change ∙ ap (λ (z : Write). z.change) written;
  mark = subst (λ (z : Transaction). MarkStands z.phase m.history (name_of m z) u) same q.mark;
  rest = subst (λ (z : Transaction). BelowStands z.phase (name_of m z) u (line m.history table key) below) same q.rest;
  alone = λ r x other wrote. q.alone r x (λ e. other (e ∙ here)) wrote;
  above = q.above;
} where
  same : q.transaction ≡ t
  same = one-transaction m s q.session t q.transaction there q.there here

  written : q.write ≡ w
  written = let both : Some q.write ≡ Some w = sym q.own ∙ (ap (λ z. own_write z table key) same ∙ own) in cc

pub of-top : (m : Machine) (s : ℕ) (t : Transaction) (w : Write) (table : ℕ) (key : List ℕ) (u : ModelUpdate) (below : List (Version Change)) → TopOf m s t w table key u below → IsTop m table key u below
of-top m s t w table key u below q = record {
  session = s;
  transaction = t;
  write = w;
  there = q.there;
  own = q.own;
  name = q.name;
  change = q.change;
  mark = q.mark;
  rest = q.rest;
  alone = q.alone;
  above = q.above;
}

-- who wrote the key and is not ending has the top
pub the-top : (m : Machine) (s : ℕ) (t : Transaction) (w : Write) (table : ℕ) (key : List ℕ) (top : List ModelUpdate) (below : List (Version Change)) → transaction_of m s ≡ Some t → own_write t table key ≡ Some w
    → (IsEnding t.phase → ⊥) → TopStands m table key top below → (u : ModelUpdate) × (top ≡ u ∷ []) × TopOf m s t w table key u below
the-top m s t w table key [] below there own alive topped = absurd (alive (topped.1 s t (there, ap is_own own)))
the-top m s t w table key (u ∷ []) below there own alive q = (
  u,
  refl,
  top-of m s t w table key u below there own q (elim (cases_eq q.session s) [
    | inl here ↦ here
    | inr other ↦ absurd (alive (q.alone s t (λ e. other (sym e)) (there, ap is_own own)))
  ]),
)
the-top m s t w table key (u ∷ (v ∷ rest)) below there own alive topped = absurd topped

-- under the update of a transaction that is not resolving lies all that stands
pub unresolved-rest : (p : Phase) (name : Name) (u : ModelUpdate) (stands below : List (Version Change)) → (p ≡ Resolving → ⊥) → BelowStands p name u stands below → stands ≡ below
unresolved-rest Running name u stands below unresolved rest = rest
unresolved-rest Failed name u stands below unresolved rest = rest
unresolved-rest Leaving name u stands below unresolved rest = rest
unresolved-rest (Prepared stamp) name u stands below unresolved rest = rest
unresolved-rest Resolving name u stands below unresolved rest = absurd (unresolved refl)

pub running-rest : (t : Transaction) (name : Name) (u : ModelUpdate) (stands below : List (Version Change)) → t.phase ≡ Running → BelowStands t.phase name u stands below → stands ≡ below
running-rest t name u stands below running rest = subst (λ p. BelowStands p name u stands below) running rest

-- what lies below the top stands
pub below-stands : (m : Machine) (table : ℕ) (key : List ℕ) (top : List ModelUpdate) (below : List (Version Change)) → TopStands m table key top below → (v : Version Change) → Member v below → Member v (line m.history table key)
below-stands m table key [] below topped v at = subst (Member v) (sym topped.0) at
below-stands m table key (u ∷ []) below q v at = part-within (line m.history table key) below (below-cases q.transaction.phase (name_of m q.transaction) u (line m.history table key) below q.rest) v at
below-stands m table key (u ∷ (w ∷ rest)) below topped v at = absurd topped

-- and so does what the frame holds
pub frame-stands : (m : Machine) (table : ℕ) (key : List ℕ) (chain : List ModelUpdate) (cell : Option (Version Change)) (H : Version Change → Type 0) → (k : KeyStands m table key chain cell H) → (v : Version Change) → InFrame k.held cell v
    → Member v (line m.history table key)
frame-stands m table key chain cell H k v at = below-stands m table key k.top k.below k.topped v (k.stores.kept.within v (inl at))

-- whose top it is, by its name
pub named-top : (m : Machine) (s : ℕ) (t : Transaction) (table : ℕ) (key : List ℕ) (u : ModelUpdate) (below : List (Version Change)) → Valid m → transaction_of m s ≡ Some t → IsTop m table key u below → u.version.window.name ≡ name_of m t
    → (w : Write) × TopOf m s t w table key u below
named-top m s t table key u below valid there q named = (q.write, top-of m s t q.write table key u below there (subst (λ z. own_write z table key ≡ Some q.write) (one-transaction m s q.session t q.transaction there q.there here) q.own) q here) where
  name : name_of m q.transaction ≡ name_of m t
  name = sym q.name ∙ named

  here : q.session ≡ s
  here = same-session m s q.session t q.transaction valid there q.there
      (let drawn = writer-drawn m q.session q.transaction table key q.write valid q.there q.own in let id = ap (λ (n : Name). n.id) name in omega arith) name

-- ---- the newest update of a chain

-- a version that is held, or the top
pub front-cases : (m : Machine) (table : ℕ) (key : List ℕ) (u : Update) (older : List Update) (top : List ModelUpdate) (held below : List (Version Change)) → update_in u ∷ map update_in older ≡ top ++ map settled held → TopStands m table key top below
    → ((top ≡ []) × ((v : Version Change) × Member v held × (update_in u ≡ settled v))) ⊎ ((top ≡ update_in u ∷ []) × (map update_in older ≡ map settled held))
front-cases m table key u older [] [] below e topped = absurd (cc)
front-cases m table key u older [] (v ∷ rest) below e topped = inl (refl, (v, inl refl, (let first : update_in u ≡ settled v = cc in first)))
front-cases m table key u older (x ∷ []) held below e topped = inr ((let first : x ≡ update_in u = cc in ap (λ z. z ∷ []) first), (let rest : map update_in older ≡ map settled held = cc in rest))
front-cases m table key u older (x ∷ (y ∷ more)) held below e topped = absurd topped

pub some-own : (o : Option Write) → is_own o ≡ true → (w : Write) × (o ≡ Some w)
some-own None e = absurd (cc)
some-own (Some w) e = (w, refl)

-- no version of an unreleased name is held
pub unheld : (m : Machine) (t : Transaction) (table : ℕ) (key : List ℕ) (chain : List ModelUpdate) (cell : Option (Version Change)) (H : Version Change → Type 0) → Valid m → released m.history (length m.history) (name_of m t) ≡ false
    → (k : KeyStands m table key chain cell H) → (v : Version Change) → Member v k.held → v.window.name ≡ name_of m t → ⊥
unheld m t table key chain cell H valid none k v at named = both_ways (released m.history (length m.history) (name_of m t)) none
    (subst (λ n. released m.history (length m.history) n ≡ true) named (line-released m.history valid.orderly table key v (frame-stands m table key chain cell H k v (inl at))))

pub same-name : (x y : Name) → name_eq x y ≡ true → x ≡ y
same-name x y e = let p = name_eq-same x y e in ap (λ n. record { run = n; id = x.id }) p.0 ∙ ap (λ n. record { run = y.run; id = n }) p.1
