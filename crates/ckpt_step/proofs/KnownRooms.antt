-- What stands in the rooms of a map, by its look-ups.
use Rattle.std.specs.Prelude.{◌≡◌, ◌≢◌, ℕ, ◌==◌, true, false, cond, List, [], ◌∷◌, Option, Some, None, Result, Ok, Err, OnOk, OnErr, option_map, is_some, Vec, if◌then◌else◌, refl}
use Rattle.std.specs.Map.{lookup}
use Rattle.std.specs.BTreeMap.{is_at}
use Rattle.std.specs.Ordering.{nat_cmp, is_eq}
use Rattle.std.specs.declared.alloc.Global.{Global}
use Rattle.std.proofs.Common.{inl, inr, sym, ◌∙◌, ap}
use Rattle.std.proofs.lemmas.Bool.{cases_Bool, cases_eq, eq-eqb, false≢true, ne_eqb}
use Rattle.stored.specs.TableTree.{Entry}
use Rattle.evict_step.proofs.KeptLists.{same_test}
use Rattle.ckpt_step.specs.Rooms.{has_room, known_in, rooms_in}

-- what a map has in its rooms
abbrev pub ByLeaf : Type 0
ByLeaf = List (ℕ × Option (Vec Entry Global))

-- what is found at a key: a room, with entries or without
abbrev pub found : ByLeaf → ℕ → Option (Option (Vec Entry Global))
found es id = lookup (is_at (nat_cmp id)) es

-- the entries in it
abbrev pub entries_in : Option (Option (Vec Entry Global)) → Option (List Entry)
entries_in None = None
entries_in (Some room) = option_map (λ (es : Vec Entry Global). es.items) room

-- ---- the rooms

pub known_found : (es : ByLeaf) (id : ℕ) → known_in (rooms_in es) id ≡ entries_in (found es id)
known_found [] id = refl
known_found (e ∷ es) id = elim (cases_Bool (e.0 == id)) [
  | inl is ↦ (let at : is_eq (nat_cmp id e.0) ≡ true = same_test id e.0 ∙ is in rw (is, at) refl)
  | inr isnt ↦ (let at : is_eq (nat_cmp id e.0) ≡ false = same_test id e.0 ∙ isnt in rw (isnt, at) (known_found es id))
]

pub room_found : (es : ByLeaf) (id : ℕ) → has_room (rooms_in es) id ≡ is_some (found es id)
room_found [] id = refl
room_found (e ∷ es) id = elim (cases_Bool (e.0 == id)) [
  | inl is ↦ (let at : is_eq (nat_cmp id e.0) ≡ true = same_test id e.0 ∙ is in rw (is, at) refl)
  | inr isnt ↦ (let at : is_eq (nat_cmp id e.0) ≡ false = same_test id e.0 ∙ isnt in rw (isnt, at) (room_found es id))
]

-- ---- a map more

-- a key has this room from now on
abbrev pub Puts : ByLeaf → ByLeaf → ℕ → Option (Vec Entry Global) → Type 0
Puts es next leaf room = (q : ℕ) → found next q ≡ cond (is_at (nat_cmp leaf) q) (Some room) (found es q)

test_turned : (leaf q : ℕ) → is_at (nat_cmp leaf) q ≡ (q == leaf)
test_turned leaf q = same_test leaf q

-- entries at a leaf
pub known_put : (es next : ByLeaf) (leaf : ℕ) (entries : Vec Entry Global) → Puts es next leaf (Some entries) → (id : ℕ) → known_in (rooms_in next) id ≡ (if id == leaf then Some entries.items else known_in (rooms_in es) id)
known_put es next leaf entries puts id =
    known_found next id ∙ (ap entries_in (puts id) ∙ elim (cases_Bool (id == leaf)) [
      | inl is ↦ (let at : is_at (nat_cmp leaf) id ≡ true = test_turned leaf id ∙ is in rw (is, at) refl)
      | inr isnt ↦ (let at : is_at (nat_cmp leaf) id ≡ false = test_turned leaf id ∙ isnt in rw (isnt, at) (sym (known_found es id)))
    ])

-- where there was a room no other gets one
pub rooms_put : (es next : ByLeaf) (leaf : ℕ) (room : Option (Vec Entry Global)) → Puts es next leaf room → has_room (rooms_in es) leaf ≡ true → (id : ℕ) → has_room (rooms_in next) id ≡ has_room (rooms_in es) id
rooms_put es next leaf room puts had id =
    room_found next id ∙ (ap is_some (puts id) ∙ elim (cases_eq id leaf) [
      | inl same ↦ (let at : is_at (nat_cmp leaf) id ≡ true = test_turned leaf id ∙ eq-eqb id leaf same in rw at (sym (ap (has_room (rooms_in es)) same ∙ had)))
      | inr differ ↦ (let at : is_at (nat_cmp leaf) id ≡ false = test_turned leaf id ∙ ne_eqb id leaf differ in rw at (sym (room_found es id)))
    ])

-- a room without entries, where there was none
pub known_kept : (es next : ByLeaf) (leaf : ℕ) → Puts es next leaf None → found es leaf ≡ None → (id : ℕ) → known_in (rooms_in next) id ≡ known_in (rooms_in es) id
known_kept es next leaf puts none id =
    known_found next id ∙ (ap entries_in (puts id) ∙ elim (cases_eq id leaf) [
      | inl same ↦ (let at : is_at (nat_cmp leaf) id ≡ true = test_turned leaf id ∙ eq-eqb id leaf same in rw at (sym (known_found es id ∙ ap entries_in (ap (found es) same ∙ none))))
      | inr differ ↦ (let at : is_at (nat_cmp leaf) id ≡ false = test_turned leaf id ∙ ne_eqb id leaf differ in rw at (sym (known_found es id)))
    ])

pub room_new : (es next : ByLeaf) (leaf : ℕ) (room : Option (Vec Entry Global)) → Puts es next leaf room → has_room (rooms_in next) leaf ≡ true
room_new es next leaf room puts = room_found next leaf ∙ (ap is_some (puts leaf) ∙ (let at : is_at (nat_cmp leaf) leaf ≡ true = test_turned leaf leaf ∙ eq-eqb leaf leaf refl in rw at refl))

pub room_kept : (es next : ByLeaf) (leaf : ℕ) (room : Option (Vec Entry Global)) → Puts es next leaf room → (id : ℕ) → has_room (rooms_in es) id ≡ true → has_room (rooms_in next) id ≡ true
room_kept es next leaf room puts id had = room_found next id ∙ (ap is_some (puts id) ∙ elim (cases_eq id leaf) [
  | inl same ↦ (let at : is_at (nat_cmp leaf) id ≡ true = test_turned leaf id ∙ eq-eqb id leaf same in rw at refl)
  | inr differ ↦ (let at : is_at (nat_cmp leaf) id ≡ false = test_turned leaf id ∙ ne_eqb id leaf differ in rw at (sym (room_found es id) ∙ had))
])

-- ---- a map less

-- a key has no room any more
abbrev pub LetsGo : ByLeaf → ByLeaf → ℕ → Type 0
LetsGo es next leaf = (q : ℕ) → found next q ≡ cond (is_at (nat_cmp leaf) q) None (found es q)

pub known_gone : (es next : ByLeaf) (leaf : ℕ) → LetsGo es next leaf → known_in (rooms_in next) leaf ≡ None
known_gone es next leaf goes = known_found next leaf ∙ (ap entries_in (goes leaf) ∙ (let at : is_at (nat_cmp leaf) leaf ≡ true = test_turned leaf leaf ∙ eq-eqb leaf leaf refl in rw at refl))

pub known_left : (es next : ByLeaf) (leaf : ℕ) → LetsGo es next leaf → (id : ℕ) → id ≢ leaf → known_in (rooms_in next) id ≡ known_in (rooms_in es) id
known_left es next leaf goes id other =
    known_found next id ∙ (ap entries_in (goes id) ∙ (let at : is_at (nat_cmp leaf) id ≡ false = test_turned leaf id ∙ ne_eqb id leaf other in rw at (sym (known_found es id))))

-- ---- of answers

-- an insertion into a room that is there does not fail
pub on_ok : {A B : Type 0} {P Q : Type 0} (r : Result A B) → OnOk r P → OnErr r Q → (Q → ⊥) → P
on_ok (Ok x) ok err never = ok
on_ok (Err e) ok err never = absurd (never err)

pub none_found : {A : Type 0} (o : Option A) → is_some o ≡ false → o ≡ None
none_found None isnt = refl
none_found (Some x) isnt = absurd (false≢true (sym isnt))

-- where there is a room something is found
pub some_found : (es : ByLeaf) (id : ℕ) → has_room (rooms_in es) id ≡ true → found es id ≡ None → ⊥
some_found es id had none = false≢true (sym (room_found es id ∙ ap is_some none) ∙ had)
