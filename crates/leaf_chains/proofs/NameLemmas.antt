-- The names of updates: their order, and that a change in a slot brings none above a name.
use Rattle.std.proofs.Common.{◌≡◌, ℕ, zero, suc, ◌<◌, ◌⊎◌, Bool, true, false, cond, List, [], ◌∷◌, ◌++◌, refl, inl, inr, arith}
use Rattle.std.specs.Prelude.{bytes_eq, ◌||◌, ◌&&◌, ◌==◌, nat_lt}
use Rattle.std.specs.List.{AllByRecursion}
use Rattle.std.proofs.Math.Bool.{or-true}
use Rattle.std.proofs.lemmas.Bool.{cases_Bool, cases_lt, both_ways, and_parts, ltb-true, lt-ltb, eqb-true, eq-eqb}
use Rattle.stamp.specs.declared.name.Name.{Name}
use Rattle.kv_model.specs.History.{is_stable}
use Rattle.snapshot.specs.Past.{is_below}
use Rattle.update_chain.specs.declared.update.Update.{Update}
use Rattle.update_chain.specs.Updates.{covers_at, front_changed, installed, is_named, marked, rolled_back, stamped, trimmed, undone}
use Rattle.leaf_chains.specs.declared.slot.KeyChain.{KeyChain}
use Rattle.leaf_chains.specs.Slots.{chain_at, slot_changed}
use Rattle.leaf_chains.specs.Names.{NoneAbove}

-- ---- names by their run, then by their id

Before : Name → Name → Type 0
Before x y = (x.run < y.run) ⊎ (x.run ≡ y.run) × (x.id < y.id)

or_is : (b c : Bool) → (b || c) ≡ true → (b ≡ true) ⊎ (c ≡ true)
or_is true c e = inl refl
or_is false c e = inr e

before_is : (x y : Name) → is_below x y ≡ true → Before x y
unfolding Before
before_is x y e = elim (or_is (nat_lt x.run y.run) ((x.run == y.run) && nat_lt x.id y.id) e) [
  | inl less ↦ inl (ltb-true _ _ less)
  | inr same ↦ let p = and_parts (x.run == y.run) (nat_lt x.id y.id) same in inr (eqb-true _ _ p.0, ltb-true _ _ p.1)
]

is_before : (x y : Name) → Before x y → is_below x y ≡ true
unfolding Before
is_before x y (inl less) = let l : nat_lt x.run y.run ≡ true = lt-ltb _ _ less in rw l refl
is_before x y (inr same) =
    let e : (x.run == y.run) ≡ true = eq-eqb _ _ same.0 in
    let l : nat_lt x.id y.id ≡ true = lt-ltb _ _ same.1 in
    rw (e, l) (or-true (nat_lt x.run y.run))

between : (x y z : Name) → Before x z → Before x y ⊎ Before y z
unfolding Before
between x y z (inl a) = elim (cases_lt x.run y.run) [ inl less ↦ inl (inl less) | inr more ↦ inr (inl (omega (arith, a, more))) ]
between x y z (inr a) = elim (cases_lt x.run y.run) [
  | inl less ↦ inl (inl less)
  | inr more ↦ elim (cases_lt y.run z.run) [
    | inl less ↦ inr (inl less)
    | inr most ↦ elim (cases_lt x.id y.id) [
      | inl under ↦ inl (inr (omega (arith, a.0, more, most), under))
      | inr over ↦ inr (inr (omega (arith, a.0, more, most), omega (arith, a.1, over)))
    ]
  ]
]

not_below : (x y z : Name) → is_below x y ≡ false → is_below y z ≡ false → is_below x z ≡ false
not_below x y z p q = elim (cases_Bool (is_below x z)) [
  | inl is ↦ elim (between x y z (before_is x z is)) [
    | inl under ↦ absurd (both_ways (is_below x y) p (is_before x y under))
    | inr over ↦ absurd (both_ways (is_below y z) q (is_before y z over))
  ]
  | inr isnt ↦ isnt
]

-- ---- the names of a chain

-- the update's name is not above this one
abbrev pub IsUpTo : Name → Update → Type 0
IsUpTo name u = is_below name u.version.window.name ≡ false

abbrev pub AreUpTo : Name → List Update → Type 0
AreUpTo name chain = AllByRecursion (IsUpTo name) chain

up_to_later : (old new : Name) (chain : List Update) → is_below new old ≡ false → AreUpTo old chain → AreUpTo new chain
up_to_later old new [] later all = tt
up_to_later old new (u ∷ older) later all = (not_below new old u.version.window.name later all.0, up_to_later old new older later all.1)

pub installed_up_to : (name : Name) (u : Update) (chain : List Update) → IsUpTo name u → AreUpTo name chain → AreUpTo name (installed u chain)
installed_up_to name u [] its all = (its, tt)
installed_up_to name u (v ∷ older) its all = by (is_named u.version.window.name v)
  where
    by : (b : Bool) → AreUpTo name (cond b (u ∷ older) (u ∷ (v ∷ older)))
    by true = (its, all.1)
    by false = (its, all)

front_up_to : (name own : Name) (change : Update → Update) (chain : List Update) → ((u : Update) → IsUpTo name u → IsUpTo name (change u)) → AreUpTo name chain → AreUpTo name (front_changed own change chain)
front_up_to name own change [] keeps all = tt
front_up_to name own change (u ∷ older) keeps all = (by (is_named own u), all.1)
  where
    by : (b : Bool) → IsUpTo name (cond b (change u) u)
    by true = keeps u all.0
    by false = all.0

pub stamped_up_to : (name own : Name) (commit durable : ℕ) (chain : List Update) → AreUpTo name chain → AreUpTo name (front_changed own (stamped commit durable) chain)
stamped_up_to name own commit durable chain all = front_up_to name own (stamped commit durable) chain (λ u its. its) all

pub marked_up_to : (name own : Name) (prepare : ℕ) (chain : List Update) → AreUpTo name chain → AreUpTo name (front_changed own (marked prepare) chain)
marked_up_to name own prepare chain all = front_up_to name own (marked prepare) chain (λ u its. its) all

pub undone_up_to : (name own : Name) (chain : List Update) → AreUpTo name chain → AreUpTo name (undone own chain)
undone_up_to name own [] all = tt
undone_up_to name own (u ∷ older) all = by (is_named own u)
  where
    by : (b : Bool) → AreUpTo name (cond b older (u ∷ older))
    by true = all.1
    by false = all

pub trimmed_up_to : (name : Name) (pin : ℕ) (floor : Name) (chain : List Update) → AreUpTo name chain → AreUpTo name (trimmed pin floor chain)
trimmed_up_to name pin floor [] all = tt
trimmed_up_to name pin floor (u ∷ older) all = by (covers_at pin floor u) (trimmed_up_to name pin floor older all.1)
  where
    by : (b : Bool) → AreUpTo name (trimmed pin floor older) → AreUpTo name (cond b (u ∷ []) (u ∷ trimmed pin floor older))
    by true rest = (all.0, tt)
    by false rest = (all.0, rest)

pub rolled_back_up_to : (name : Name) (stable : ℕ) (chain : List Update) → AreUpTo name chain → AreUpTo name (rolled_back stable chain)
rolled_back_up_to name stable [] all = tt
rolled_back_up_to name stable (u ∷ older) all = by (is_stable stable u.version) (rolled_back_up_to name stable older all.1)
  where
    by : (b : Bool) → AreUpTo name (rolled_back stable older) → AreUpTo name (cond b (u ∷ rolled_back stable older) (rolled_back stable older))
    by true rest = (all.0, rest)
    by false rest = rest

-- ---- the names of a leaf

behind : (P : List Update → Type 0) (s : KeyChain) (key : List ℕ) (slots after : List KeyChain) → (P (chain_at key slots) → P (chain_at key after)) → P (chain_at key (s ∷ slots)) → P (chain_at key (s ∷ after))
behind P s key slots after others = by (bytes_eq s.key key)
  where
    by : (b : Bool) → P (cond b s.chain (chain_at key slots)) → P (cond b s.chain (chain_at key after))
    by true p = p
    by false p = others p

holds_changed : (P : List Update → Type 0) (key : List ℕ) (i : ℕ) (change : List Update → List Update) (slots : List KeyChain) → ((chain : List Update) → P chain → P (change chain)) → P (chain_at key slots) → P (chain_at key (slot_changed i change slots))
holds_changed P key i change [] keeps holds = holds
holds_changed P key zero change (s ∷ slots) keeps holds = by (bytes_eq s.key key) holds
  where
    by : (b : Bool) → P (cond b s.chain (chain_at key slots)) → P (cond b (change s.chain) (chain_at key slots))
    by true p = keeps s.chain p
    by false p = p
holds_changed P key (suc i) change (s ∷ slots) keeps holds = behind P s key slots (slot_changed i change slots) (holds_changed P key i change slots keeps) holds

holds_pushed : (P : List Update → Type 0) (key : List ℕ) (added : KeyChain) (slots : List KeyChain) → P added.chain → P (chain_at key slots) → P (chain_at key (slots ++ added ∷ []))
holds_pushed P key added [] its holds = by (bytes_eq added.key key)
  where
    by : (b : Bool) → P (cond b added.chain [])
    by true = its
    by false = holds
holds_pushed P key added (s ∷ slots) its holds = behind P s key slots (slots ++ added ∷ []) (holds_pushed P key added slots its) holds

pub none_changed : (name : Name) (i : ℕ) (change : List Update → List Update) (slots : List KeyChain) → ((chain : List Update) → AreUpTo name chain → AreUpTo name (change chain)) → NoneAbove name slots → NoneAbove name (slot_changed i change slots)
none_changed name i change slots keeps none = λ key. holds_changed (AreUpTo name) key i change slots keeps (none key)

pub none_pushed : (name : Name) (added : KeyChain) (slots : List KeyChain) → AreUpTo name added.chain → NoneAbove name slots → NoneAbove name (slots ++ added ∷ [])
none_pushed name added slots its none = λ key. holds_pushed (AreUpTo name) key added slots its (none key)

pub none_later : (old new : Name) (slots : List KeyChain) → is_below new old ≡ false → NoneAbove old slots → NoneAbove new slots
none_later old new slots later none = λ key. up_to_later old new (chain_at key slots) later (none key)
