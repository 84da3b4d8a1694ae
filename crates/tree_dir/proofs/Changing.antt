-- A leaf that is changed and keeps its id, its table and its low key.
use Rattle.std.proofs.Common.{◌≡◌, ℕ, ◌*◌, ◌^◌, ◌<◌, List, [], ◌∷◌, length, map, get_or, Option, Some, None, refl, sym, ap, subst, ◌∙◌, inl, inr, arith}
use Rattle.std.specs.Prelude.{◌==◌, if◌then◌else◌}
use Rattle.std.specs.List.{Contains}
use Rattle.std.proofs.lemmas.Bool.{cases_eq, eq-eqb, ne_eqb}
use Rattle.std.proofs.lemmas.List.{get_or-map, length-map, same_lists}
use Rattle.std.proofs.lemmas.List.Elements.{Contains-get_or}
use Rattle.tree_dir.specs.declared.leaf.Leaf.{Leaf}
use Rattle.tree_dir.specs.Leaves.{Directory, changed, is_first_of, place_key, TablesBegin}
use Rattle.tree_dir.specs.Order.{IsWay}
use Rattle.tree_dir.specs.Slots.{changed_by_id, changed_if, home_of, leaf_at, leaves_at, no_leaf, slot_by_id, slot_changed}
use Rattle.tree_dir.specs.Sound.{AreHome, IsSound}
use Rattle.tree_dir.proofs.Index.{way-alike}
use Rattle.tree_dir.proofs.SlotIds.{IsSlotOf, slot-none, slot-some}
use Rattle.tree_dir.proofs.SlotLemmas.{changed-elsewhere, changed-here, changed-long, changed-rank, view-at, view-long, view-slot}
use Rattle.tree_dir.proofs.ViewLemmas.{missing-place}

-- the change of the leaf of an id
abbrev pub at_id : ℕ → (Leaf → Leaf) → Leaf → Leaf
at_id id change l = if l.id == id then change l else l

hit : (id : ℕ) (change : Leaf → Leaf) (l : Leaf) → l.id ≡ id → at_id id change l ≡ change l
hit id change l e = rw (eq-eqb l.id id e) refl

miss : (id : ℕ) (change : Leaf → Leaf) (l : Leaf) → (l.id ≡ id → ⊥) → at_id id change l ≡ l
miss id change l n = rw (ne_eqb l.id id n) refl

-- ---- by places of the order

by-places : (slots after : List Leaf) (order : List ℕ) (g : Leaf → Leaf) → ((k : ℕ) → k < length order → leaf_at after (get_or order k 0) ≡ g (leaf_at slots (get_or order k 0))) → leaves_at after order ≡ map g (leaves_at slots order)
by-places slots after order g each =
    let long = view-long slots order in
    let later = view-long after order in
    let many = length-map (leaves_at slots order) g in
    same_lists (leaves_at after order) (map g (leaves_at slots order)) (omega (arith, long, later, many)) (λ k d lt.
    let within : k < length order = omega (arith, lt, later) in
    view-at after order k d within ∙ (each k within ∙ (ap g (sym (view-at slots order k d within)) ∙ sym (get_or-map g (leaves_at slots order) k d d (omega (arith, within, long))))))

-- a change in the slot of an id changes the leaf of that id in the list
pub slot-view : (slots : List Leaf) (order : List ℕ) (id i : ℕ) (change : Leaf → Leaf) → IsWay slots order → AreHome slots → IsSlotOf slots id i → leaves_at (slot_changed i change slots) order ≡ changed id change (leaves_at slots order)
slot-view slots order id i change ix home s = by-places slots (slot_changed i change slots) order (at_id id change) each where
  each : (k : ℕ) → k < length order → leaf_at (slot_changed i change slots) (get_or order k 0) ≡ at_id id change (leaf_at slots (get_or order k 0))
  each k lt =
      let j = get_or order k 0 in
      elim (cases_eq j i) [
        | inl same ↦
            ap (leaf_at (slot_changed i change slots)) same
            ∙ (changed-here i change slots s.within
            ∙ (sym (hit id change (leaf_at slots i) s.named) ∙ ap (λ (n : ℕ). at_id id change (leaf_at slots n)) (sym same)))
        | inr other ↦
            changed-elsewhere i j change slots other
            ∙ sym (miss id change (leaf_at slots j) (λ e. other (sym (home j (view-slot slots order k ix lt)) ∙ (ap home_of e ∙ sym s.home))))
      ]

pub changed-view : (slots : List Leaf) (order : List ℕ) (id : ℕ) (change : Leaf → Leaf) → IsWay slots order → AreHome slots → leaves_at (changed_by_id id change slots) order ≡ changed id change (leaves_at slots order)
changed-view slots order id change ix home = go (slot_by_id id slots) refl where
  go : (o : Option ℕ) → slot_by_id id slots ≡ o → leaves_at (changed_if o change slots) order ≡ changed id change (leaves_at slots order)
  go None e = by-places slots slots order (at_id id change) (λ k lt. sym (miss id change (leaf_at slots (get_or order k 0)) (λ same. missing-place slots order id ix home (slot-none slots id e) k lt (ap (λ (l : Leaf). l.id) (view-at slots order k no_leaf lt) ∙ same))))
  go (Some i) e = slot-view slots order id i change ix home (slot-some slots id i e)

-- ---- what a change keeps

contains-map : (g : Leaf → Leaf) (xs : List Leaf) (x : Leaf) → Contains xs x → Contains (map g xs) (g x)
contains-map g xs x c = let long = length-map xs g in (c.0, omega (arith, c.1, long), get_or-map g xs c.0 x (g x) c.1 ∙ ap g c.2)

contains-source : (g : Leaf → Leaf) (xs : List Leaf) (y : Leaf) → Contains (map g xs) y → (x : Leaf) × Contains xs x × (g x ≡ y)
contains-source g xs y c =
    let long = length-map xs g in
    let within : c.0 < length xs = omega (arith, c.1, long) in
    (get_or xs c.0 no_leaf, Contains-get_or xs c.0 no_leaf within, sym (get_or-map g xs c.0 no_leaf y within) ∙ c.2)

abbrev head : List ℕ → ℕ
head [] = 0
head (x ∷ xs) = x

abbrev rest : List ℕ → List ℕ
rest [] = []
rest (x ∷ xs) = xs

first-kept : (a b : Leaf) (table : ℕ) → place_key a ≡ place_key b → is_first_of table b → is_first_of table a
first-kept a b table e first = (ap head e ∙ first.0, ap rest e ∙ first.1)

pub begins-map : (g : Leaf → Leaf) (leaves : List Leaf) → ((l : Leaf) → place_key (g l) ≡ place_key l) → TablesBegin leaves → TablesBegin (map g leaves)
begins-map g leaves keeps begins y c =
    let x = contains-source g leaves y c in
    let f = begins x.0 x.1 in
    let table : x.0.table ≡ y.table = sym (ap head (keeps x.0)) ∙ ap (λ (l : Leaf). l.table) x.2 in
    (g f.0, contains-map g leaves f.0 f.1, first-kept (g f.0) f.0 y.table (keeps f.0) (f.2.0 ∙ table, f.2.1))

at-place : (id : ℕ) (change : Leaf → Leaf) → ((l : Leaf) → place_key (change l) ≡ place_key l) → (l : Leaf) → place_key (at_id id change l) ≡ place_key l
at-place id change keeps l = elim (cases_eq l.id id) [
  | inl e ↦ ap place_key (hit id change l e) ∙ keeps l
  | inr n ↦ ap place_key (miss id change l n)
]

changed-id : (i j : ℕ) (change : Leaf → Leaf) (slots : List Leaf) → ((l : Leaf) → (change l).id ≡ l.id) → i < length slots → (leaf_at (slot_changed i change slots) j).id ≡ (leaf_at slots j).id
changed-id i j change slots keeps lt = elim (cases_eq j i) [
  | inl same ↦
      ap (λ (n : ℕ). (leaf_at (slot_changed i change slots) n).id) same
      ∙ (ap (λ (l : Leaf). l.id) (changed-here i change slots lt) ∙ (keeps (leaf_at slots i) ∙ ap (λ (n : ℕ). (leaf_at slots n).id) (sym same)))
  | inr other ↦ ap (λ (l : Leaf). l.id) (changed-elsewhere i j change slots other)
]

pub changed-sound : (serial : ℕ) (slots : List Leaf) (order : List ℕ) (id : ℕ) (change : Leaf → Leaf) → ((l : Leaf) → place_key (change l) ≡ place_key l) → ((l : Leaf) → (change l).id ≡ l.id) → IsSound serial slots order → IsSound serial (changed_by_id id change slots) order
changed-sound serial slots order id change places ids s = go (slot_by_id id slots) refl where
  go : (o : Option ℕ) → slot_by_id id slots ≡ o → IsSound serial (changed_if o change slots) order
  go None e = s
  go (Some i) e =
      let is = slot-some slots id i e in
      let after = slot_changed i change slots in
      let long = changed-long i change slots in
      record {
        way = way-alike slots after order long (changed-rank i change slots places) s.way;
        home = λ j lt. ap home_of (changed-id i j change slots ids is.within) ∙ s.home j (omega (arith, lt, long));
        below = λ j lt. let b = s.below j (omega (arith, lt, long)) in let same = changed-id i j change slots ids is.within in omega (arith, b, same);
        few = omega (arith, s.few, long);
        counted = s.counted;
        begins = subst TablesBegin (sym (slot-view slots order id i change s.way s.home is)) (begins-map (at_id id change) (leaves_at slots order) (at-place id change places) s.begins);
      }

abbrev pub with-leaves : ℕ → List Leaf → Directory
with-leaves serial leaves = record { next = serial * 2 ^ 28; leaves = leaves }
