-- Undos and ends of transactions, over a chain that stands for its key.
use Rattle.std.proofs.Common.{◌≡◌, ◌≢◌, ◌⊎◌, ◌<◌, ℕ, refl, ap, sym, ◌∙◌, List, [], ◌∷◌, ◌++◌, inl, inr, subst, map, arith}
use Rattle.std.specs.Prelude.{Option, Some, None, if◌then◌else◌}
use Rattle.std.proofs.lemmas.Bool.{cases_Bool, cases_eq}
use Rattle.std.proofs.lemmas.List.{get_or-set_other}
use Rattle.item.specs.declared.Change.{Change}
use Rattle.stamp.specs.declared.Version.{Version}
use Rattle.kv_model.specs.Holds.{Member}
use Rattle.kv_model.specs.History.{line}
use Rattle.kv_model.specs.Machine.{Machine, Transaction, Phase, Running, Failed, Prepared, Resolving, Leaving, EndTransaction, transaction_of, name_of, after}
use Rattle.kv_model.specs.Reads.{Wrote, IsEnding, OthersEnding}
use Rattle.kv_model.specs.Valid.{Valid, PhaseStands}
use Rattle.kv_model.specs.Pending.{Update as ModelUpdate, settled as model_settled, MarkStands, BelowStands, TopStands, KeyStands, NoneHolds}
use Rattle.update_chain.specs.declared.update.Update.{Update}
use Rattle.update_chain.specs.Updates.{update_in, undone, is_named}
use Rattle.update_chain.specs.EventLaws.{StandsFor, IsUndone, NoneLeft, UndosStand, EndsStand}
use Rattle.update_chain.proofs.Reading.{one-transaction}
use Rattle.update_chain.proofs.Tops.{named-top, front-cases, frame-stands, unheld, same-name}
use Rattle.update_chain.proofs.Carrying.{carried, taken, elsewhere}

-- ---- undos

undone-ending : (m : Machine) (t : Transaction) (table : ℕ) (key : List ℕ) → IsUndone m t table key → IsEnding t.phase
undone-ending m t table key (inl leaving) = subst IsEnding (sym leaving) tt
undone-ending m t table key (inr resolving) = subst IsEnding (sym resolving.0) tt

-- no version of its name is held
undone-unheld : (m : Machine) (s : ℕ) (t : Transaction) (table : ℕ) (key : List ℕ) (chain : List ModelUpdate) (cell : Option (Version Change)) (H : Version Change → Type 0) → Valid m → transaction_of m s ≡ Some t → IsUndone m t table key
    → (k : KeyStands m table key chain cell H) → (v : Version Change) → Member v k.held → v.window.name ≡ name_of m t → ⊥
undone-unheld m s t table key chain cell H valid there (inl leaving) k v at named =
    unheld m t table key chain cell H valid (subst (λ p. PhaseStands p m.history (name_of m t) t) leaving (valid.sessions.each s t there).phase) k v at named
undone-unheld m s t table key chain cell H valid there (inr resolving) k v at named = resolving.1 v (frame-stands m table key chain cell H k v (inl at)) named

-- under its update lies all that stands
undone-rest : (m : Machine) (t : Transaction) (table : ℕ) (key : List ℕ) (u : ModelUpdate) (below : List (Version Change)) → IsUndone m t table key → BelowStands t.phase (name_of m t) u (line m.history table key) below → line m.history table key ≡ below
undone-rest m t table key u below (inl leaving) rest = subst (λ p. BelowStands p (name_of m t) u (line m.history table key) below) leaving rest
undone-rest m t table key u below (inr resolving) rest = by-rest (subst (λ p. BelowStands p (name_of m t) u (line m.history table key) below) resolving.0 rest) where
  by-rest : BelowStands Resolving (name_of m t) u (line m.history table key) below → line m.history table key ≡ below
  by-rest (inl none) = none.0
  by-rest (inr one) = absurd (resolving.1 one.0 (subst (Member one.0) (sym one.2) (inl refl)) one.1.0)

none-holds : (m : Machine) (s : ℕ) (t : Transaction) (table : ℕ) (key : List ℕ) → transaction_of m s ≡ Some t → IsEnding t.phase → OthersEnding m s table key → NoneHolds m table key
none-holds m s t table key there ending alone r x wrote = elim (cases_eq r s) [
  | inl here ↦ subst (λ (z : Transaction). IsEnding z.phase) (sym (one-transaction m s r t x there wrote.0 here)) ending
  | inr other ↦ alone r x other wrote
]

pub undos-stand : UndosStand
undos-stand m s t table key [] cell records valid there undone k = k
undos-stand m s t table key (u ∷ older) cell records valid there undone k = elim (cases_Bool (is_named (name_of m t) u)) [
  | inr other ↦ subst (λ b. StandsFor m table key (if b then older else u ∷ older) cell records) (sym other) k
  | inl named ↦ subst (λ b. StandsFor m table key (if b then older else u ∷ older) cell records) (sym named) (by-front (same-name u.version.window.name (name_of m t) named)
      (front-cases m table key u older k.top k.held k.below k.chained k.topped))
] where
  by-front : u.version.window.name ≡ name_of m t
      → ((k.top ≡ []) × ((v : Version Change) × Member v k.held × (update_in u ≡ model_settled v))) ⊎ ((k.top ≡ update_in u ∷ []) × (map update_in older ≡ map model_settled k.held))
      → StandsFor m table key older cell records
  by-front name (inl held) = absurd (undone-unheld m s t table key _ cell _ valid there undone k held.1.0 held.1.1 (sym (ap (λ (x : ModelUpdate). x.version.window.name) held.1.2) ∙ name))
  by-front name (inr top) = let q = named-top m s t table key (update_in u) k.below valid there (subst (λ l. TopStands m table key l k.below) top.0 k.topped) name in record {
    top = [];
    held = k.held;
    below = k.below;
    chained = top.1;
    ordered = k.ordered;
    topped = (undone-rest m t table key (update_in u) k.below undone q.1.rest, none-holds m s t table key there (undone-ending m t table key undone) q.1.alone);
    stores = k.stores;
    layered = k.layered;
  }

-- ---- ends

-- the top of one of whom none is left
left-top : (p : Phase) (m : Machine) (t : Transaction) (u : Update) (older : List Update) → NoneLeft p (name_of m t) (u ∷ older) → MarkStands p m.history (name_of m t) (update_in u) → u.version.window.name ≡ name_of m t → ⊥
left-top Resolving m t u older none mark name = let unmarked = none name in let low : 0 < u.prepared = mark.0 in omega arith
left-top Running m t u older none mark name = none name
left-top Failed m t u older none mark name = none name
left-top Leaving m t u older none mark name = none name
left-top (Prepared stamp) m t u older none mark name = none name

ended-holds : (m : Machine) (s : ℕ) (t : Transaction) (table : ℕ) (key : List ℕ) → transaction_of m s ≡ Some t → (r : ℕ) (x : Transaction) → Wrote (after m (EndTransaction s)) r table key x → (r ≢ s) × Wrote m r table key x
ended-holds m s t table key there r x wrote = elim (cases_eq r s) [
  | inl here ↦ let gone : None ≡ Some x = sym (taken m s t None there) ∙ subst (λ i. transaction_of (after m (EndTransaction s)) i ≡ Some x) here wrote.0 in absurd (cc)
  | inr other ↦ (other, (elsewhere m s None r x other wrote.0, wrote.1))
]

ended-top : (m : Machine) (s : ℕ) (t : Transaction) (table : ℕ) (key : List ℕ) (chain : List Update) (top : List ModelUpdate) (held below : List (Version Change)) → transaction_of m s ≡ Some t → NoneLeft t.phase (name_of m t) chain
    → map update_in chain ≡ top ++ map model_settled held → TopStands m table key top below → TopStands (after m (EndTransaction s)) table key top below
ended-top m s t table key chain [] held below there none e topped = (topped.0, λ r x wrote. topped.1 r x (ended-holds m s t table key there r x wrote).1)
ended-top m s t table key chain (x ∷ (y ∷ more)) held below there none e topped = absurd topped
ended-top m s t table key [] (x ∷ []) held below there none e q = absurd (cc)
ended-top m s t table key (u ∷ older) (x ∷ []) held below there none e q = record {
  session = q.session;
  transaction = q.transaction;
  write = q.write;
  there = get_or-set_other m.sessions s q.session None None apart ∙ q.there;
  own = q.own;
  name = q.name;
  change = q.change;
  mark = q.mark;
  rest = q.rest;
  alone = λ r z other wrote. q.alone r z other (ended-holds m s t table key there r z wrote).1;
  above = q.above;
} where
  first : update_in u ≡ x
  first = let f = e in cc

  apart : q.session ≢ s
  apart here = let same = one-transaction m s q.session t q.transaction there q.there here in
      let name : x.version.window.name ≡ name_of m t = q.name ∙ ap (name_of m) same in
      let mark : MarkStands t.phase m.history (name_of m t) x = subst (λ (z : Transaction). MarkStands z.phase m.history (name_of m z) x) same q.mark in
      left-top t.phase m t u older none (subst (MarkStands t.phase m.history (name_of m t)) (sym first) mark) (ap (λ (z : ModelUpdate). z.version.window.name) first ∙ name)

pub ends-stand : EndsStand
ends-stand m s t table key chain cell records valid may there none k = carried m (EndTransaction s) table key _ cell _ valid may k (ended-top m s t table key chain k.top k.held k.below there none k.chained k.topped)
