-- Lines descend by name.
use Rattle.std.proofs.Common.{◌≡◌, ℕ, refl, ap, sym, subst, ◌∙◌, Bool, List, [], ◌∷◌, ◌++◌, inl, inr, map}
use Rattle.std.specs.Prelude.{filter, Option, Some, None}
use Rattle.std.specs.Option.{option_to_list}
use Rattle.std.proofs.lemmas.Bool.{cases_Bool}
use Rattle.std.proofs.lemmas.List.{map-append}
use Rattle.std.proofs.lemmas.List.Elements.{filter-append}
use Rattle.item.specs.declared.Change.{Change}
use Rattle.stamp.specs.declared.Name.{Name}
use Rattle.stamp.specs.declared.Version.{Version}
use Rattle.kv_model.specs.Holds.{Member, Descends}
use Rattle.kv_model.specs.History.{Entry, Create, Commit, Prepare, Resolve, Undo, Rts, Write, Placed, line, standing, placed_of, version_of, is_at, is_by, writes_at}
use Rattle.kv_model.specs.Ordered.{Older, Follows, IsOrderly}
use Rattle.kv_model.proofs.Agrees.{line-rts}

descends-filter : {A : Type 0} (Below : A → A → Type 0) (f : A → Bool) (l : List A) → Descends Below l → Descends Below (filter f l)
descends-filter Below f [] d = d
descends-filter {A} Below f (x ∷ xs) d = elim (cases_Bool (f x)) [
  | inl is ↦ rw is ((λ y there. d.0 y (out xs y there)), descends-filter Below f xs d.1)
  | inr isnt ↦ rw isnt (descends-filter Below f xs d.1)
] where
  out : (l : List A) (y : A) → Member y (filter f l) → Member y l
  out [] y there = there
  out (z ∷ zs) y there = elim (cases_Bool (f z)) [
    | inl is ↦ elim (rw is at there) [ inl same ↦ inl same | inr later ↦ inr (out zs y later) ]
    | inr isnt ↦ inr (out zs y (rw isnt at there))
  ]

placed-at : (name : Name) (table : ℕ) (key : List ℕ) (writes : List Write) → map {A = Placed} (λ p. p.version) (filter (is_at table key) (map (placed_of name) writes)) ≡ map (version_of name) (filter (writes_at table key) writes)
placed-at name table key [] = refl
placed-at name table key (w ∷ writes) = elim (cases_Bool (writes_at table key w)) [
  | inl is ↦ rw (is, placed-at name table key writes) refl
  | inr isnt ↦ rw (isnt, placed-at name table key writes) refl
]

pub line-writes : (name : Name) (writes : List Write) (older : List Entry) (table : ℕ) (key : List ℕ)
    → map {A = Placed} (λ p. p.version) (filter (is_at table key) (map (placed_of name) writes ++ standing older)) ≡ map (version_of name) (filter (writes_at table key) writes) ++ line older table key
line-writes name writes older table key =
    ap (map {A = Placed} (λ p. p.version)) (filter-append (is_at table key) (map (placed_of name) writes) (standing older))
    ∙ (map-append {A = Placed} (λ p. p.version) (filter (is_at table key) (map (placed_of name) writes)) (filter (is_at table key) (standing older))
    ∙ ap (λ l. l ++ line older table key) (placed-at name table key writes))

-- the versions of a commit above the older ones
pub above-writes : (Below : Version Change → Version Change → Type 0) (name : Name) (older : List Entry) (table : ℕ) (key : List ℕ) (writes : List Write) → Follows name writes older
    → ((w : Write) → Member w (filter (writes_at table key) writes) → (v : Version Change) → Member v (line older table key) → Below v (version_of name w))
    → Descends Below (line older table key) → Descends Below (map (version_of name) (filter (writes_at table key) writes) ++ line older table key)
above-writes Below name older table key writes follows over d = go (follows.single table key).0 (follows.single table key).1 over where
  go : (found : Option Write) → filter (writes_at table key) writes ≡ option_to_list found
      → ((w : Write) → Member w (filter (writes_at table key) writes) → (v : Version Change) → Member v (line older table key) → Below v (version_of name w))
      → Descends Below (map (version_of name) (filter (writes_at table key) writes) ++ line older table key)
  go None is over = rw is d
  go (Some w) is over = rw is ((λ v there. over w (subst (λ l. Member w l) (sym is) (inl refl)) v there), d)

above-older : (name : Name) (older : List Entry) (table : ℕ) (key : List ℕ) (writes : List Write) → Follows name writes older → Descends Older (line older table key)
    → Descends Older (map (version_of name) (filter (writes_at table key) writes) ++ line older table key)
above-older name older table key writes follows d = above-writes Older name older table key writes follows (λ w of v there. (follows.above table key w of v there).below) d

-- the law
pub line-descends : (history : List Entry) → IsOrderly history → (table : ℕ) (key : List ℕ) → Descends Older (line history table key)
line-descends [] orderly table key = tt
line-descends (Create t ∷ older) orderly table key = line-descends older orderly.1 table key
line-descends (Commit name writes ∷ older) orderly table key = rw (line-writes name writes older table key) (above-older name older table key writes orderly.0 (line-descends older orderly.1 table key))
line-descends (Prepare name stamp ∷ older) orderly table key = line-descends older orderly table key
line-descends (Resolve name writes ∷ older) orderly table key = rw (line-writes name writes older table key) (above-older name older table key writes orderly.0.0 (line-descends older orderly.1 table key))
line-descends (Undo name ∷ older) orderly table key = line-descends older orderly table key
line-descends (Rts s ∷ older) orderly table key = rw (line-rts s older table key) (descends-filter Older (is_by s) (line older table key) (line-descends older orderly table key))
