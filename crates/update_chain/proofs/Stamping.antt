-- The stamps of a resolving commit, over a chain that stands for its key.
use Rattle.std.proofs.Common.{◌≡◌, ◌⊎◌, ℕ, refl, ap, sym, ◌∙◌, List, [], ◌∷◌, inl, inr, subst, map}
use Rattle.std.specs.Prelude.{Option, Some, if◌then◌else◌}
use Rattle.std.proofs.lemmas.Bool.{cases_Bool, cases_eq}
use Rattle.item.specs.declared.Change.{Change}
use Rattle.stamp.specs.declared.Name.{Name}
use Rattle.stamp.specs.declared.Version.{Version}
use Rattle.kv_model.specs.Holds.{Member, Descends}
use Rattle.kv_model.specs.Ordered.{Older, NameBelow}
use Rattle.kv_model.specs.History.{Write, line}
use Rattle.kv_model.specs.Machine.{Machine, Transaction, Resolving, name_of}
use Rattle.kv_model.specs.Droppable.{covers}
use Rattle.kv_model.specs.Reads.{IsEnding}
use Rattle.kv_model.specs.Valid.{Valid}
use Rattle.kv_model.specs.StoreLaws.{Held}
use Rattle.kv_model.specs.Pending.{Update as ModelUpdate, settled as model_settled, BelowStands, TopStands, KeyStands, NoneHolds}
use Rattle.kv_model.proofs.Finishing.{older-order}
use Rattle.kv_model.proofs.Ordering.{line-descends}
use Rattle.update_chain.specs.declared.update.Update.{Update}
use Rattle.update_chain.specs.Updates.{update_in, is_named, stamped}
use Rattle.update_chain.specs.EventLaws.{StandsFor, outcome, StampsStand}
use Rattle.update_chain.proofs.Below.{in-frame}
use Rattle.update_chain.proofs.Reading.{one-transaction}
use Rattle.update_chain.proofs.Tops.{TopOf, named-top, front-cases, frame-stands, same-name}
use Rattle.update_chain.proofs.Releasing.{grown}

named-apart : (x y : Version Change) → x.window.name ≡ y.window.name → Older x y → ⊥
named-apart x y e below = older-order.irrefl y (subst (λ n. NameBelow n y.window.name) e below)

-- of a name there is one version
pub same-named : (l : List (Version Change)) (x y : Version Change) → Descends Older l → Member x l → Member y l → x.window.name ≡ y.window.name → x ≡ y
same-named [] x y d at there e = absurd at
same-named (z ∷ l) x y d (inl a) (inl b) e = a ∙ sym b
same-named (z ∷ l) x y d (inl a) (inr b) e = absurd (named-apart y z (sym e ∙ ap (λ (v : Version Change). v.window.name) a) (d.0 y b))
same-named (z ∷ l) x y d (inr a) (inl b) e = absurd (named-apart x z (e ∙ ap (λ (v : Version Change). v.window.name) b) (d.0 x a))
same-named (z ∷ l) x y d (inr a) (inr b) e = same-named l x y d.1 a b e

-- the version of the update's name is the newest
newest-is : (name : Name) (u : ModelUpdate) (stands below : List (Version Change)) (v : Version Change) → BelowStands Resolving name u stands below → Member v stands → v.window.name ≡ name → Descends Older stands → stands ≡ v ∷ below
newest-is name u stands below v (inl none) there is d = absurd (none.1 v there is)
newest-is name u stands below v (inr one) there is d = one.2 ∙ ap (λ z. z ∷ below) (same-named stands one.0 v d (subst (Member one.0) (sym one.2) (inl refl)) there (one.1.0 ∙ sym is))

-- the newest update is not stamped yet
stamped-top : (m : Machine) (s : ℕ) (t : Transaction) (w : Write) (table : ℕ) (key : List ℕ) (u : Update) (older : List Update) (cell : Option (Version Change)) (H : Version Change → Type 0) (commit durable : ℕ) → Valid m → t.phase ≡ Resolving
    → Member (outcome m t w commit durable) (line m.history table key) → (k : KeyStands m table key (map update_in (u ∷ older)) cell H) → TopOf m s t w table key (update_in u) k.below → map update_in older ≡ map model_settled k.held
    → KeyStands m table key (map update_in (stamped commit durable u ∷ older)) cell H
stamped-top m s t w table key u older cell H commit durable valid resolving there k q held = record {
  top = [];
  held = v ∷ k.held;
  below = v ∷ k.below;
  chained = ap (λ z. z ∷ map update_in older) head ∙ ap (λ l. model_settled v ∷ l) held;
  ordered = ((λ y at. sorted.0 y (k.stores.kept.within y (inl (in-frame k.held cell y at)))), k.ordered);
  topped = (whole, none);
  stores = grown (covers m) v k.held k.below cell H sorted k.stores;
  layered = λ x at. let a = k.layered x at in (a.0, elim a.1 [ inl deep ↦ inl (inr deep) | inr is ↦ inr is ], a.2, a.3);
} where
  v : Version Change
  v = outcome m t w commit durable

  whole : line m.history table key ≡ v ∷ k.below
  whole = newest-is (name_of m t) (update_in u) (line m.history table key) k.below v (subst (λ p. BelowStands p (name_of m t) (update_in u) (line m.history table key) k.below) resolving q.rest) there refl
      (line-descends m.history valid.orderly table key)

  sorted : Descends Older (v ∷ k.below)
  sorted = subst (Descends Older) whole (line-descends m.history valid.orderly table key)

  head : update_in (stamped commit durable u) ≡ model_settled v
  head = ap (λ n. model_settled (record { window = record { name = n; commit = commit; durable = durable }; change = u.version.change })) q.name
      ∙ ap (λ z. model_settled (record { window = record { name = name_of m t; commit = commit; durable = durable }; change = z })) q.change

  none : NoneHolds m table key
  none r x wrote = elim (cases_eq r s) [
    | inl here ↦ subst (λ (z : Transaction). IsEnding z.phase) (sym (one-transaction m s r t x q.there wrote.0 here)) (subst IsEnding (sym resolving) tt)
    | inr other ↦ q.alone r x other wrote
  ]

-- it is stamped already
pub stamped-held : (m : Machine) (t : Transaction) (w : Write) (u : Update) (commit durable : ℕ) → update_in u ≡ model_settled (outcome m t w commit durable) → update_in (stamped commit durable u) ≡ update_in u
stamped-held m t w u commit durable is = ap (λ (x : ModelUpdate). model_settled (record { window = record { name = x.version.window.name; commit = commit; durable = durable }; change = x.version.change })) is ∙ sym is

pub stamps-stand : StampsStand
stamps-stand m s t w table key [] cell records commit durable valid there resolving own at k = k
stamps-stand m s t w table key (u ∷ older) cell records commit durable valid there resolving own at k = elim (cases_Bool (is_named (name_of m t) u)) [
  | inr other ↦ subst (λ b. StandsFor m table key ((if b then stamped commit durable u else u) ∷ older) cell records) (sym other) k
  | inl named ↦ subst (λ b. StandsFor m table key ((if b then stamped commit durable u else u) ∷ older) cell records) (sym named) (by-front (same-name u.version.window.name (name_of m t) named)
      (front-cases m table key u older k.top k.held k.below k.chained k.topped))
] where
  by-front : u.version.window.name ≡ name_of m t
      → ((k.top ≡ []) × ((v : Version Change) × Member v k.held × (update_in u ≡ model_settled v))) ⊎ ((k.top ≡ update_in u ∷ []) × (map update_in older ≡ map model_settled k.held))
      → StandsFor m table key (stamped commit durable u ∷ older) cell records
  by-front name (inl held) = let v = held.1.0 in
      let same : v ≡ outcome m t w commit durable = same-named (line m.history table key) v (outcome m t w commit durable) (line-descends m.history valid.orderly table key) (frame-stands m table key _ cell _ k v (inl held.1.1)) at
      (sym (ap (λ (x : ModelUpdate). x.version.window.name) held.1.2) ∙ name) in
      subst (λ x. KeyStands m table key (x ∷ map update_in older) cell (Held records)) (sym (stamped-held m t w u commit durable (held.1.2 ∙ ap model_settled same))) k
  by-front name (inr top) = let q = named-top m s t table key (update_in u) k.below valid there (subst (λ l. TopStands m table key l k.below) top.0 k.topped) name in
      let same : q.0 ≡ w = (let both : Some q.0 ≡ Some w = sym q.1.own ∙ own in cc) in
      stamped-top m s t w table key u older cell _ commit durable valid resolving at k (subst (λ z. TopOf m s t z table key (update_in u) k.below) same q.1) top.1
