-- Leaves of a directory that go on: each is as it was but for its frame.
use Rattle.std.proofs.Common.{◌≡◌, ℕ, List, [], ◌∷◌, Some, None, refl, sym, ap, ap₂, subst, ◌∙◌, inl, inr}
use Rattle.std.specs.Prelude.{◌==◌, true, false, if◌then◌else◌, option_map}
use Rattle.std.specs.List.{Contains}
use Rattle.std.proofs.lemmas.Bool.{cases_Bool, eq-eqb, eqb-true, false≢true}
use Rattle.kv_model.specs.Holds.{Member}
use Rattle.stored.specs.TableTree.{Entry}
use Rattle.tree_dir.specs.declared.leaf.Framed.{Framed}
use Rattle.tree_dir.specs.declared.leaf.Leaf.{Leaf}
use Rattle.tree_dir.specs.Leaves.{Directory, IsDirectory, changed, in_frame, leaf_named, of_table}
use Rattle.tree_dir.proofs.Parting.{ids-name}
use Rattle.engine.specs.Directories.{LeafGoesOn, LeavesGoOn}
use Rattle.engine.specs.Waits.{in_none}
use Rattle.ckpt_step.proofs.Members.{none_some, some_same}
use Rattle.ckpt_step.proofs.TableLeaves.{contains_of, member_of}
use Rattle.engine_store.specs.Loads.{low_behind}
use Rattle.engine_store.specs.Marked.{IsFramed}

-- ---- one after the other

leaf_same : (l : Leaf) → LeafGoesOn l l
leaf_same l = record { id = refl; table = refl; entry = refl; stays = λ none. none }

leaf_then : (a b c : Leaf) → LeafGoesOn a b → LeafGoesOn b c → LeafGoesOn a c
leaf_then a b c g h = record { id = h.id ∙ g.id; table = h.table ∙ g.table; entry = h.entry ∙ g.entry; stays = λ none. g.stays (h.stays none) }

pub leaves_same : (leaves : List Leaf) → LeavesGoOn leaves leaves
leaves_same [] = tt
leaves_same (l ∷ leaves) = (leaf_same l, leaves_same leaves)

pub leaves_then : (a b c : List Leaf) → LeavesGoOn a b → LeavesGoOn b c → LeavesGoOn a c
leaves_then [] [] c g h = h
leaves_then [] (y ∷ b) c g h = absurd g
leaves_then (x ∷ a) [] c g h = absurd g
leaves_then (x ∷ a) (y ∷ b) [] g h = absurd h
leaves_then (x ∷ a) (y ∷ b) (z ∷ c) g h = (leaf_then x y z g.0 h.0, leaves_then a b c g.1 h.1)

-- a leaf that is there now was there
pub leaf_went : (leaves next : List Leaf) (n : Leaf) → LeavesGoOn leaves next → Member n next → (l : Leaf) × Member l leaves × LeafGoesOn l n
leaf_went [] [] n goes there = absurd there
leaf_went [] (x ∷ next) n goes there = absurd goes
leaf_went (l ∷ leaves) [] n goes there = absurd goes
leaf_went (l ∷ leaves) (x ∷ next) n goes (inl same) = (l, inl refl, subst (LeafGoesOn l) (sym same) goes.0)
leaf_went (l ∷ leaves) (x ∷ next) n goes (inr there) = let later = leaf_went leaves next n goes.1 there in (later.0, inr later.1, later.2)

pub leaf_was : (leaves next : List Leaf) (n : Leaf) → LeavesGoOn leaves next → Contains next n → (l : Leaf) × Contains leaves l × LeafGoesOn l n
leaf_was leaves next n goes there = let was = leaf_went leaves next n goes (member_of next n there) in (was.0, contains_of leaves was.0 was.1, was.2)

-- ---- a leaf comes into a frame

pub changed_go : (id : ℕ) (f : Framed) (leaves : List Leaf) → LeavesGoOn leaves (changed id (in_frame (Some f)) leaves)
changed_go id f [] = tt
changed_go id f (l ∷ leaves) = elim (cases_Bool (l.id == id)) [
  | inl is ↦ rw is (record { id = refl; table = refl; entry = refl; stays = λ none. absurd (none_some (sym none)) }, changed_go id f leaves)
  | inr isnt ↦ rw isnt (leaf_same l, changed_go id f leaves)
]

pub changed_framed : (id : ℕ) (f : Framed) (leaves : List Leaf) → IsFramed (changed id (in_frame (Some f)) leaves) id
changed_framed id f leaves l there is none = by leaves (member_of (changed id (in_frame (Some f)) leaves) l there)
  where
    first : (x : Leaf) (b : _) → (x.id == id) ≡ b → l ≡ (if b then in_frame (Some f) x else x) → ⊥
    first x true here same = none_some (sym none ∙ ap (λ (y : Leaf). y.frame) same)
    first x false other same = false≢true (sym other ∙ eq-eqb x.id id (sym (ap (λ (y : Leaf). y.id) same) ∙ is))

    by : (leaves : List Leaf) → Member l (changed id (in_frame (Some f)) leaves) → ⊥
    by [] there = there
    by (x ∷ leaves) (inl same) = first x (x.id == id) refl same
    by (x ∷ leaves) (inr there) = by leaves there

-- a leaf in a frame stays in one
pub framed_then : (leaves next : List Leaf) (id : ℕ) → LeavesGoOn leaves next → IsFramed leaves id → IsFramed next id
framed_then leaves next id goes framed n there is none = let was = leaf_was leaves next n goes there in framed was.0 was.1 (sym was.2.id ∙ is) (was.2.stays none)

-- a leaf that is not away is in a frame
pub away_none : (d : Directory) → IsDirectory d → (id : ℕ) → leaf_named id d.leaves ≡ None → IsFramed d.leaves id
away_none d is_dir id missing l there is none = none_some (sym missing ∙ (ap (λ (k : ℕ). leaf_named k d.leaves) (sym is) ∙ ids-name d is_dir l there))

pub away_some : (d : Directory) → IsDirectory d → (id : ℕ) (m : Leaf) → leaf_named id d.leaves ≡ Some m → in_none m.frame ≡ false → IsFramed d.leaves id
away_some d is_dir id m named isnt l there is none =
    let same : m ≡ l = some_same (sym named ∙ (ap (λ (k : ℕ). leaf_named k d.leaves) (sym is) ∙ ids-name d is_dir l there)) in
    false≢true (sym isnt ∙ ap in_none (ap (λ (x : Leaf). x.frame) same ∙ none))

-- ---- what is behind a leaf, and a leaf by its id

of_goes : (a b x y : Leaf) → LeafGoesOn a x → LeafGoesOn b y → option_map (λ (l : Leaf). l.entry.key) (of_table x.table y) ≡ option_map (λ (l : Leaf). l.entry.key) (of_table a.table b)
of_goes a b x y g h = elim (cases_Bool (b.table == a.table)) [
  | inl is ↦ let now : (y.table == x.table) ≡ true = eq-eqb y.table x.table (h.table ∙ (eqb-true b.table a.table is ∙ sym g.table)) in rw (is, now) (ap (λ (e : Entry). Some e.key) h.entry)
  | inr isnt ↦ let now : (y.table == x.table) ≡ false = ap₂ (λ (p q : ℕ). p == q) h.table g.table ∙ isnt in rw (isnt, now) refl
]

pub low_goes : (leaves next : List Leaf) (id : ℕ) → LeavesGoOn leaves next → low_behind id next ≡ low_behind id leaves
low_goes [] [] id goes = refl
low_goes [] (x ∷ next) id goes = absurd goes
low_goes (a ∷ leaves) [] id goes = absurd goes
low_goes (a ∷ []) (x ∷ []) id goes = refl
low_goes (a ∷ []) (x ∷ y ∷ next) id goes = absurd goes.1
low_goes (a ∷ b ∷ leaves) (x ∷ []) id goes = absurd goes.1
low_goes (a ∷ b ∷ leaves) (x ∷ y ∷ next) id goes = elim (cases_Bool (a.id == id)) [
  | inl is ↦ let now : (x.id == id) ≡ true = ap (λ (n : ℕ). n == id) goes.0.id ∙ is in rw (is, now) (of_goes a b x y goes.0 goes.1.0)
  | inr isnt ↦ let now : (x.id == id) ≡ false = ap (λ (n : ℕ). n == id) goes.0.id ∙ isnt in rw (isnt, now) (low_goes (b ∷ leaves) (y ∷ next) id goes.1)
]

pub named_went : (leaves next : List Leaf) (id : ℕ) (n : Leaf) → LeavesGoOn leaves next → leaf_named id next ≡ Some n → (l : Leaf) × (leaf_named id leaves ≡ Some l) × LeafGoesOn l n
named_went [] [] id n goes is = absurd (none_some is)
named_went [] (x ∷ next) id n goes is = absurd goes
named_went (l ∷ leaves) [] id n goes is = absurd goes
named_went (l ∷ leaves) (x ∷ next) id n goes is = elim (cases_Bool (l.id == id)) [
  | inl here ↦ let now : (x.id == id) ≡ true = ap (λ (k : ℕ). k == id) goes.0.id ∙ here in (l, rw here refl, subst (LeafGoesOn l) (some_same (rw now at is)) goes.0)
  | inr other ↦
      let now : (x.id == id) ≡ false = ap (λ (k : ℕ). k == id) goes.0.id ∙ other in
      let rest = named_went leaves next id n goes.1 (rw now at is) in
      (rest.0, rw other rest.1, rest.2)
]
