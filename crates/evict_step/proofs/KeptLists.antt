-- What stands in the lists of a map of what is kept, by its look-ups.
use Rattle.std.specs.Prelude.{◌≡◌, ℕ, ◌==◌, ◌++◌, true, false, cond, List, [], ◌∷◌, length, Option, Some, None, Vec, if◌then◌else◌, refl}
use Rattle.std.specs.Map.{lookup, set_value}
use Rattle.std.specs.BTreeMap.{is_at}
use Rattle.std.specs.Cmp.{nat_cmp_is}
use Rattle.std.specs.Ordering.{nat_cmp, is_eq}
use Rattle.std.specs.declared.alloc.Global.{Global}
use Rattle.std.specs.declared.cmp.Ordering.TheVariants.{Less, Equal, Greater}
use Rattle.std.proofs.Common.{◌<◌, inl, inr, sym, ◌∙◌, ap, subst, arith}
use Rattle.std.proofs.lemmas.Bool.{both_ways, cases_Bool, cases_eq, cases_lt, eq-eqb, eqb-true, ne_eqb}
use Rattle.std.proofs.lemmas.List.{append-nil}
use Rattle.reconcile.specs.declared.image.Moved.{Moved}
use Rattle.evict_step.specs.Backs.{AllFit}
use Rattle.evict_step.specs.Kept.{AllListsFit, KeepsAt, KeepsMore, Lists, alone_in, list_of, lists_in}

-- a list that is empty by its length
pub is_none : {A : Type 0} (l : List A) (n : ℕ) → length l ≡ n → (n == 0) ≡ true → l ≡ []
is_none [] n is none = refl
is_none (x ∷ l) n is none = absurd (let zero = eqb-true n 0 none in omega (arith, is, zero))

-- a key and a query
pub same_test : (id k : ℕ) → is_eq (nat_cmp id k) ≡ (k == id)
same_test id k = elim (cases_eq k id) [
  | inl same ↦ ap is_eq (sym (nat_cmp_is id k Equal (sym same))) ∙ sym (eq-eqb k id same)
  | inr differ ↦ elim (cases_lt id k) [
    | inl less ↦ ap is_eq (sym (nat_cmp_is id k Less less)) ∙ sym (ne_eqb k id differ)
    | inr most ↦ (let more : k < id = omega (arith, most, differ) in ap is_eq (sym (nat_cmp_is id k Greater more)) ∙ sym (ne_eqb k id differ))
  ]
]

-- what a map has
abbrev pub ByLeaf : Type 0
ByLeaf = List (ℕ × Vec Moved Global)

-- what is found at a key
abbrev pub found_at : ByLeaf → ℕ → Option (Vec Moved Global)
found_at es id = lookup (is_at (nat_cmp id)) es

abbrev pub items_in : Option (Vec Moved Global) → List Moved
items_in None = []
items_in (Some moved) = moved.items

pub list_found : (es : ByLeaf) (id : ℕ) → list_of (lists_in es) id ≡ items_in (found_at es id)
list_found [] id = refl
list_found (e ∷ es) id = elim (cases_Bool (e.0 == id)) [
  | inl is ↦ (let at : is_eq (nat_cmp id e.0) ≡ true = same_test id e.0 ∙ is in rw (is, at) refl)
  | inr isnt ↦ (let at : is_eq (nat_cmp id e.0) ≡ false = same_test id e.0 ∙ isnt in rw (isnt, at) (list_found es id))
]

-- a key has this from now on
pub list_put : (es next : ByLeaf) (leaf : ℕ) (moved : Vec Moved Global) → ((q : ℕ) → found_at next q ≡ cond (is_at (nat_cmp leaf) q) (Some moved) (found_at es q)) → KeepsAt (lists_in es) (lists_in next) leaf moved.items
list_put es next leaf moved puts id =
    list_found next id ∙ (ap items_in (puts id) ∙ elim (cases_Bool (id == leaf)) [
      | inl is ↦ (let at : is_at (nat_cmp leaf) id ≡ true = same_test leaf id ∙ is in rw (is, at) refl)
      | inr isnt ↦ (let at : is_at (nat_cmp leaf) id ≡ false = same_test leaf id ∙ isnt in rw (isnt, at) (sym (list_found es id)))
    ])

-- a key has nothing any more
pub list_gone : (es next : ByLeaf) (leaf : ℕ) → ((q : ℕ) → found_at next q ≡ cond (is_at (nat_cmp leaf) q) None (found_at es q)) → KeepsAt (lists_in es) (lists_in next) leaf []
list_gone es next leaf goes id =
    list_found next id ∙ (ap items_in (goes id) ∙ elim (cases_Bool (id == leaf)) [
      | inl is ↦ (let at : is_at (nat_cmp leaf) id ≡ true = same_test leaf id ∙ is in rw (is, at) refl)
      | inr isnt ↦ (let at : is_at (nat_cmp leaf) id ≡ false = same_test leaf id ∙ isnt in rw (isnt, at) (sym (list_found es id)))
    ])

-- ---- one version more

some_same : {A : Type 0} {x y : A} → Some x ≡ Some y → x ≡ y
some_same e = cc

-- the list of a key is longer by one
pub list_longer : (es : ByLeaf) (leaf : ℕ) (one : Moved) (had has : Vec Moved Global) → found_at es leaf ≡ Some had → has.items ≡ had.items ++ one ∷ [] → KeepsMore (lists_in es) (lists_in (set_value (is_at (nat_cmp leaf)) es has)) (alone_in leaf one)
list_longer [] leaf one had has found more id = absurd cc
list_longer (e ∷ es) leaf one had has found more id = elim (cases_Bool (e.0 == leaf)) [
  | inl is ↦
      let at : is_eq (nat_cmp leaf e.0) ≡ true = same_test leaf e.0 ∙ is in
      let own : e.1 ≡ had = some_same (rw at at found) in
      rw at (elim (cases_Bool (e.0 == id)) [
        | inl here ↦
            let asked : (id == leaf) ≡ true = eq-eqb id leaf (sym (eqb-true e.0 id here) ∙ eqb-true e.0 leaf is) in
            rw (here, asked) (more ∙ ap (λ (v : Vec Moved Global). v.items ++ one ∷ []) (sym own))
        | inr away ↦
            let asked : (id == leaf) ≡ false = ne_eqb id leaf (λ same. both_ways (e.0 == id) away (eq-eqb e.0 id (eqb-true e.0 leaf is ∙ sym same))) in
            rw (away, asked) (sym (append-nil (list_of (lists_in es) id)))
      ])
  | inr isnt ↦
      let at : is_eq (nat_cmp leaf e.0) ≡ false = same_test leaf e.0 ∙ isnt in
      rw at (elim (cases_Bool (e.0 == id)) [
        | inl here ↦
            let asked : (id == leaf) ≡ false = ne_eqb id leaf (λ same. both_ways (e.0 == leaf) isnt (eq-eqb e.0 leaf (eqb-true e.0 id here ∙ same))) in
            rw (here, asked) (sym (append-nil e.1.items))
        | inr away ↦ rw away (list_longer es leaf one had has (rw at at found) more id)
      ])
]

-- or as it was
pub list_same : (es : ByLeaf) (leaf : ℕ) (had has : Vec Moved Global) → found_at es leaf ≡ Some had → has.items ≡ had.items → lists_in (set_value (is_at (nat_cmp leaf)) es has) ≡ lists_in es
list_same [] leaf had has found same = refl
list_same (e ∷ es) leaf had has found same = elim (cases_Bool (e.0 == leaf)) [
  | inl is ↦
      let at : is_eq (nat_cmp leaf e.0) ≡ true = same_test leaf e.0 ∙ is in
      let own : e.1 ≡ had = some_same (rw at at found) in
      rw at (ap (λ (l : List Moved). (e.0, l) ∷ lists_in es) (same ∙ ap (λ (v : Vec Moved Global). v.items) (sym own)))
  | inr isnt ↦ (let at : is_eq (nat_cmp leaf e.0) ≡ false = same_test leaf e.0 ∙ isnt in rw at (ap (λ (l : Lists). (e.0, e.1.items) ∷ l) (list_same es leaf had has (rw at at found) same)))
]

-- a key that had nothing has one
pub list_alone : (es : ByLeaf) (lists : Lists) (leaf : ℕ) (one : Moved) → found_at es leaf ≡ None → KeepsAt (lists_in es) lists leaf (one ∷ []) → KeepsMore (lists_in es) lists (alone_in leaf one)
list_alone es lists leaf one none keeps id =
    keeps id ∙ elim (cases_Bool (id == leaf)) [
      | inl is ↦
          let own : list_of (lists_in es) id ≡ [] = ap (list_of (lists_in es)) (eqb-true id leaf is) ∙ (list_found es leaf ∙ ap items_in none) in
          rw is (ap (λ (l : List Moved). l ++ one ∷ []) (sym own))
      | inr isnt ↦ rw isnt (sym (append-nil (list_of (lists_in es) id)))
    ]

-- ---- each version fits still

pub all_fit : (before lists : Lists) (leaf : ℕ) (moved : List Moved) → AllListsFit before → AllFit moved → KeepsAt before lists leaf moved → AllListsFit lists
all_fit before lists leaf moved fit own keeps id = elim (cases_Bool (id == leaf)) [
  | inl is ↦ subst AllFit (sym (keeps id ∙ (let at : (if id == leaf then moved else list_of before id) ≡ moved = rw is refl in at))) own
  | inr isnt ↦ subst AllFit (sym (keeps id ∙ (let at : (if id == leaf then moved else list_of before id) ≡ list_of before id = rw isnt refl in at))) (fit id)
]
