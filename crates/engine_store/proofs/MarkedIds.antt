-- The ids of leaves that are put down, one leaf after the other, one table after the other.
use Rattle.std.proofs.Common.{◌≡◌, ◌<◌, ◌≤◌, ◌+◌, ◌⊎◌, ℕ, zero, suc, true, List, [], ◌∷◌, ◌++◌, get_or, length, Some, None, refl, sym, ap, subst, ◌∙◌, inl, inr, arith}
use Rattle.std.specs.Prelude.{slice_get}
use Rattle.std.specs.List.{Contains}
use Rattle.std.proofs.lemmas.Bool.{cases_lt}
use Rattle.std.proofs.lemmas.List.Elements.{Contains-append_left, Contains-append_right}
use Rattle.kv_model.specs.History.{Table}
use Rattle.leaf_rows.specs.declared.marks.Marks.{Marks}
use Rattle.leaf_load.specs.Loads.{are_surely_seen}
use Rattle.stored.specs.TableTree.{Entry}
use Rattle.engine.specs.Directories.{LeavesGoOn}
use Rattle.engine_world.specs.Leaves.{LeavesOwned}
use Rattle.tree_dir.specs.declared.leaf.Leaf.{Leaf}
use Rattle.tree_dir.specs.Leaves.{leaves_of}
use Rattle.tree_dir.proofs.Members.{split}
use Rattle.ckpt_step.proofs.Members.{some_same}
use Rattle.ckpt_step.proofs.TableLeaves.{contains_of, member_of, table_in}
use Rattle.engine_store.proofs.LeavesGo.{framed_then, leaf_was}
use Rattle.engine_store.specs.Marked.{AreMarkedOf, HasAll, IsFramed, IsUnmarked, LeadsOn}

-- ---- ids

pub more_all : (ids more : List ℕ) (id : ℕ) → more ≡ ids ++ id ∷ [] → HasAll more ids
more_all ids more id added k there = subst (λ (l : List ℕ). Contains l k) (sym added) (Contains-append_left ids (id ∷ []) k there)

pub more_has : (ids more : List ℕ) (id : ℕ) → more ≡ ids ++ id ∷ [] → Contains more id
more_has ids more id added = subst (λ (l : List ℕ). Contains l id) (sym added) (Contains-append_right ids (id ∷ []) id (0, omega arith, refl))

-- ---- of a table

-- each of these leaves is left, or its id is put down, or all of it is kept
abbrev pub AreDone : Marks → List Leaf → List Leaf → List ℕ → Type 0
AreDone marks own left ids = (x : Leaf) → Contains own x → Contains left x ⊎ (Contains ids x.id ⊎ IsUnmarked marks x)

pub done_next : (marks : Marks) (own left rest : List Leaf) (x : Leaf) (ids more : List ℕ) → left ≡ x ∷ rest → HasAll more ids → Contains more x.id ⊎ IsUnmarked marks x → AreDone marks own left ids → AreDone marks own rest more
done_next marks own left rest x ids more is all its done y there = elim (done y there) [
  | inr (inl had) ↦ inr (inl (all y.id had))
  | inr (inr whole) ↦ inr (inr whole)
  | inl among ↦ elim (split x y rest (subst (λ (l : List Leaf). Contains l y) is among)) [
    | inl same ↦ inr (subst (λ (z : Leaf). Contains more z.id ⊎ IsUnmarked marks z) same its)
    | inr later ↦ inl later
  ]
]

pub done_all : (marks : Marks) (leaves : List Leaf) (table : ℕ) (left : List Leaf) (ids : List ℕ) → left ≡ [] → AreDone marks (leaves_of table leaves) left ids → AreMarkedOf leaves table marks ids
done_all marks leaves table left ids none done l there own = elim (done l (contains_of (leaves_of table leaves) l (table_in table leaves l (member_of leaves l there) own))) [
  | inr its ↦ its
  | inl among ↦ let nothing : Contains [] l = subst (λ (ls : List Leaf). Contains ls l) none among in absurd (omega (arith, nothing.1))
]

-- ---- of all tables

-- so it is with the tables at the first places
abbrev pub AreMarkedUpTo : List Table → List Leaf → Marks → ℕ → List ℕ → Type 0
AreMarkedUpTo known leaves marks n ids = (i : ℕ) (t : Table) (x : Leaf) → i < n → slice_get known i ≡ Some t → Contains leaves x → x.table ≡ t.number → Contains ids x.id ⊎ IsUnmarked marks x

pub up_more : (known : List Table) (leaves : List Leaf) (marks : Marks) (n : ℕ) (t : Table) (number : ℕ) (ids more : List ℕ) → AreMarkedUpTo known leaves marks n ids → Some t ≡ slice_get known n → number ≡ t.number → HasAll more ids → AreMarkedOf leaves number marks more → AreMarkedUpTo known leaves marks (n + 1) more
up_more known leaves marks n t number ids more up at is all own i u x lt there among its = elim (cases_lt i n) [
  | inl less ↦ elim (up i u x less there among its) [ inl had ↦ inl (all x.id had) | inr whole ↦ inr whole ]
  | inr least ↦
      let same : t ≡ u = some_same (at ∙ (ap (slice_get known) (omega (arith, least, lt)) ∙ there)) in
      own x among (its ∙ (ap (λ (v : Table). v.number) (sym same) ∙ sym is))
]

-- where no table is at the next place
pub up_none : (known : List Table) (leaves : List Leaf) (marks : Marks) (n : ℕ) (ids : List ℕ) → AreMarkedUpTo known leaves marks n ids → None ≡ slice_get known n → AreMarkedUpTo known leaves marks (n + 1) ids
up_none known leaves marks n ids up none i u x lt there among its = elim (cases_lt i n) [
  | inl less ↦ up i u x less there among its
  | inr least ↦ absurd (let clash : None ≡ Some u = none ∙ (ap (slice_get known) (omega (arith, least, lt)) ∙ there) in cc)
]

-- ---- leaves that are in frames

-- the leaves of the first ids are
abbrev pub AreFramed : List Leaf → List ℕ → ℕ → Type 0
AreFramed leaves ids n = (k : ℕ) → k < n → IsFramed leaves (get_or ids k 0)

pub framed_more : (leaves next : List Leaf) (ids : List ℕ) (n id : ℕ) → AreFramed leaves ids n → LeavesGoOn leaves next → IsFramed next id → id ≡ get_or ids n 0 → AreFramed next ids (n + 1)
framed_more leaves next ids n id framed goes its is k lt = elim (cases_lt k n) [
  | inl less ↦ framed_then leaves next (get_or ids k 0) goes (framed k less)
  | inr least ↦ subst (λ (i : ℕ). IsFramed next i) (is ∙ ap (λ (i : ℕ). get_or ids i 0) (omega (arith, least, lt))) its
]

-- a leaf that is in no frame then is unmarked
pub unmarked_then : (known : List Table) (was now : List Leaf) (marks : Marks) (ids items : List ℕ) (n : ℕ) → LeavesOwned known was → LeavesGoOn was now → ((i : ℕ) (t : Table) (l : Leaf) → slice_get known i ≡ Some t → Contains was l → l.table ≡ t.number → Contains ids l.id ⊎ IsUnmarked marks l)
    → items ≡ ids → length items ≤ n → AreFramed now items n → (l : Leaf) → Contains now l → l.frame ≡ None → IsUnmarked marks l
unmarked_then known was now marks ids items n owned goes marked same many framed l there none =
    let before = leaf_was was now l goes there in
    let its = owned before.0 before.1 in
    elim (marked its.0 its.1 before.0 its.2 before.1 its.3) [
      | inr whole ↦ record {
        seen = subst (λ (e : Entry). are_surely_seen marks e.link.greatest e.link.durable ≡ true) (sym before.2.entry) whole.seen;
        leads = subst (λ (e : Entry). LeadsOn e.link) (sym before.2.entry) whole.leads;
      }
      | inl among ↦
          let at : Contains items before.0.id = subst (λ (xs : List ℕ). Contains xs before.0.id) (sym same) among in
          absurd (framed at.0 (omega (arith, at.1, many)) l there (before.2.id ∙ sym (placed items at.0 before.0.id at.1 at.2)) none)
    ]
  where
    placed : (xs : List ℕ) (k id : ℕ) → k < length xs → get_or xs k id ≡ id → get_or xs k 0 ≡ id
    placed [] k id lt is = absurd (omega (arith, lt))
    placed (x ∷ xs) zero id lt is = is
    placed (x ∷ xs) (suc k) id lt is = placed xs k id (omega (arith, lt)) is
