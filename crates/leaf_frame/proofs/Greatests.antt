-- Names that none is above.
use Rattle.std.proofs.Common.{◌≡◌, ℕ, true, false, List, [], ◌∷◌, ◌++◌, Option, Some, None, refl, subst, inl, inr, arith}
use Rattle.std.specs.Prelude.{bytes_eq, option_map}
use Rattle.std.specs.Option.{option_to_list}
use Rattle.std.specs.List.{AllByRecursion}
use Rattle.std.proofs.lemmas.Bool.{cases_Bool}
use Rattle.std.proofs.lemmas.Grind.{common_steps}
use Rattle.std.proofs.lemmas.Option.{same_Some}
use Rattle.item.specs.declared.change.Change.{Change}
use Rattle.item.specs.declared.change.Change.TheVariants.{Remove}
use Rattle.stamp.specs.declared.name.Name.{Name}
use Rattle.stamp.specs.declared.version.Version.{Version}
use Rattle.snapshot.specs.Past.{is_below}
use Rattle.row_page.specs.Changes.{PageChange, version_in}
use Rattle.row_page.specs.Greatest.{greatest_in, names_of}
use Rattle.stamp.specs.Order.{later}
use Rattle.row_page.specs.Rows.{Row}
use Rattle.leaf_rows.specs.Rows.{version_at}
use Rattle.reconcile.specs.Shows.{shown_at}
use Rattle.update_chain.specs.declared.update.Update.{Update}
use Rattle.leaf_chains.specs.declared.slot.KeyChain.{KeyChain}
use Rattle.leaf_chains.specs.Names.{NoneAbove as NoneInChains}
use Rattle.leaf_chains.specs.Slots.{chain_at}
use Rattle.leaf_chains.proofs.NameLemmas.{none_later}
use Rattle.reconcile.specs.Held.{versions}
use Rattle.leaf_frame.specs.Leaf.{HeldLeaf}
use Rattle.leaf_frame.specs.Updates.{NoneAbove}

-- ---- the order of names

abbrev bearing : Name → KeyChain
bearing name = record { key = []; chain = record { version = record { window = record { name = name; commit = 0; durable = 0 }; change = Remove }; prepared = 0 } ∷ [] }

-- as the names of updates are ordered
pub not_below_trans : (a b c : Name) → is_below a b ≡ false → is_below b c ≡ false → is_below a c ≡ false
not_below_trans a b c p q = ((none_later b a (bearing c ∷ []) p (λ key. by key)) []).0 where
  by : (key : List ℕ) → AllByRecursion (λ (u : Update). is_below b u.version.window.name ≡ false) (chain_at key (bearing c ∷ []))
  by key = elim (cases_Bool (bytes_eq [] key)) [ inl t ↦ rw t (q, tt) | inr f ↦ rw f tt ]

pub never_back : (x y : Name) → is_below x y ≡ true → is_below y x ≡ false
never_back x y below = grind (arith, common_steps)

never_itself : (x : Name) → is_below x x ≡ false
never_itself x = elim (cases_Bool (is_below x x)) [ inl is ↦ never_back x x is | inr isnt ↦ isnt ]

later_first : (x y : Name) → is_below (later x y) x ≡ false
later_first x y = elim (cases_Bool (is_below x y)) [ inl t ↦ rw t (never_back x y t) | inr f ↦ rw f (never_itself x) ]

later_second : (x y : Name) → is_below (later x y) y ≡ false
later_second x y = elim (cases_Bool (is_below x y)) [ inl t ↦ rw t (never_itself y) | inr f ↦ rw f f ]

-- ---- the names of rows

over_rows : (rows : List Row) (key : List ℕ) (v : Version PageChange) → version_at key rows ≡ Some v → is_below (greatest_in (names_of rows)) v.window.name ≡ false
over_rows [] key v is = absurd cc
over_rows (r ∷ rows) key v is = elim (cases_Bool (bytes_eq r.0 key)) [
  | inl t ↦
      let same : r.1 ≡ v = same_Some r.1 v (rw t at is) in
      subst (λ (w : Version PageChange). is_below (later r.1.window.name (greatest_in (names_of rows))) w.window.name ≡ false) same (later_first r.1.window.name (greatest_in (names_of rows)))
  | inr f ↦
      not_below_trans (later r.1.window.name (greatest_in (names_of rows))) (greatest_in (names_of rows)) v.window.name (later_second r.1.window.name (greatest_in (names_of rows))) (over_rows rows key v (rw f at is))
]

-- each version that the rows show is not above this name
abbrev pub NoneShown : Name → List Row → Type 0
NoneShown name rows = (key : List ℕ) (v : Version Change) → shown_at key rows ≡ Some v → is_below name v.window.name ≡ false

pub none_shown : (name : Name) (rows : List Row) → is_below name (greatest_in (names_of rows)) ≡ false → NoneShown name rows
none_shown name rows over key v is = by (version_at key rows) refl is where
  by : (o : Option (Version PageChange)) → version_at key rows ≡ o → option_map version_in o ≡ Some v → is_below name v.window.name ≡ false
  by None at e = absurd cc
  by (Some w) at e =
      subst (λ (x : Version Change). is_below name x.window.name ≡ false) (same_Some (version_in w) v e) (not_below_trans name (greatest_in (names_of rows)) w.window.name over (over_rows rows key w at))

pub none_shown_empty : (name : Name) → NoneShown name []
none_shown_empty name key v is = absurd cc

-- ---- both

all_held : (name : Name) (chain : List Update) (row : Option (Version Change)) → AllByRecursion (λ (u : Update). is_below name u.version.window.name ≡ false) chain → ((v : Version Change) → row ≡ Some v → is_below name v.window.name ≡ false)
    → AllByRecursion (λ (v : Version Change). is_below name v.window.name ≡ false) (versions chain ++ option_to_list row)
all_held name [] None all none = tt
all_held name [] (Some v) all none = (none v refl, tt)
all_held name (u ∷ older) row all none = (all.0, all_held name older row all.1 none)

pub none_above : (name : Name) (leaf : HeldLeaf) → NoneInChains name leaf.chains → NoneShown name leaf.page → NoneAbove name leaf
none_above name leaf chains rows key = all_held name (chain_at key leaf.chains) (shown_at key leaf.page) (chains key) (rows key)
