-- What is known of leaves once a running checkpoint wrote more of them.
use Rattle.std.specs.Prelude.{◌≡◌, ℕ, ◌==◌, true, false, List, [], ◌∷◌, ◌++◌, Option, Some, None, if◌then◌else◌, refl}
use Rattle.std.specs.List.{AllByRecursion}
use Rattle.std.proofs.Common.{inl, inr, sym, ◌∙◌, ap, append_assoc}
use Rattle.std.proofs.lemmas.Bool.{cases_Bool, eq-eqb, ne_eqb}
use Rattle.std.proofs.lemmas.List.{append-nil}
use Rattle.kv_model.specs.Machine.{of_some}
use Rattle.stored.specs.TableTree.{Entry}
use Rattle.tree_dir.specs.declared.leaf.Leaf.{Leaf}
use Rattle.ckpt_step.specs.Floors.{IsAsItLies}
use Rattle.ckpt_step.specs.Parts.{has_rows, own_part, part_in, part_of, parts_of, with_parts}
use Rattle.ckpt_step.specs.Rooms.{Written}
use Rattle.ckpt_step.specs.declared.parts.LeafPart.{LeafPart}

-- none of these is of the leaf of this id
abbrev pub NoneOf : ℕ → List LeafPart → Type 0
NoneOf id more = AllByRecursion (λ (p : LeafPart). p.leaf ≡ id → ⊥) more

-- ---- by id

-- what is known of a leaf depends on what was known of that one alone
pub with_alike : (had other : Written) (more : List LeafPart) (id : ℕ) → had id ≡ other id → with_parts had more id ≡ with_parts other more id
with_alike had other [] id same = same
with_alike had other (p ∷ more) id same = with_alike (λ x. if x == p.leaf then Some p.entries.items else had x) (λ x. if x == p.leaf then Some p.entries.items else other x) more id (ap (λ (o : Option (List Entry)). if id == p.leaf then Some p.entries.items else o) same)

-- of a leaf of which nothing is written the same is known
pub with_none : (had : Written) (more : List LeafPart) (id : ℕ) → NoneOf id more → with_parts had more id ≡ had id
with_none had [] id none = refl
with_none had (p ∷ more) id none =
    let isnt : (id == p.leaf) ≡ false = ne_eqb id p.leaf (λ same. none.0 (sym same)) in
    let here : (if id == p.leaf then Some p.entries.items else had id) ≡ had id = rw isnt refl in
    with_none (λ x. if x == p.leaf then Some p.entries.items else had x) more id none.1 ∙ here

-- first these, then those
pub with_both : (had : Written) (more own : List LeafPart) (id : ℕ) → with_parts had (more ++ own) id ≡ with_parts (with_parts had more) own id
with_both had [] own id = refl
with_both had (p ∷ more) own id = with_both (λ x. if x == p.leaf then Some p.entries.items else had x) more own id

-- a leaf more is written: its entries are these, and those of any other are as they were
pub with_last : (had : Written) (more : List LeafPart) (p : LeafPart) → with_parts had (more ++ p ∷ []) p.leaf ≡ Some p.entries.items
with_last had more p = with_both had more (p ∷ []) p.leaf ∙ (let is : (p.leaf == p.leaf) ≡ true = eq-eqb p.leaf p.leaf refl in rw is refl)

pub with_other : (had : Written) (more : List LeafPart) (p : LeafPart) (id : ℕ) → (p.leaf ≡ id → ⊥) → with_parts had (more ++ p ∷ []) id ≡ with_parts had more id
with_other had more p id other = with_both had more (p ∷ []) id ∙ with_none (with_parts had more) (p ∷ []) id (other, tt)

-- ---- by leaf

pub in_alike : (written other : Written) (l : Leaf) → written l.id ≡ other l.id → part_in written l ≡ part_in other l
in_alike written other l same = ap (λ (o : Option (List Entry)). part_in (λ id. o) l) same

pub part_alike : (written other : Written) (l : Leaf) → written l.id ≡ other l.id → part_of written l ≡ part_of other l
part_alike written other l same = ap (λ (o : Option (List Entry)). part_of (λ id. o) l) same

-- where it is as it lies by the one, it is by the other
pub lies_alike : (written other : Written) (l : Leaf) → written l.id ≡ other l.id → IsAsItLies other l → IsAsItLies written l
lies_alike written other l same (inl free) = inl free
lies_alike written other l same (inr none) = inr (same ∙ none)

-- where it was written with these
pub part_written : (written : Written) (l : Leaf) (part : List Entry) → written l.id ≡ Some part → part_of written l ≡ part
part_written written l part is = ap (λ (o : Option (List Entry)). part_of (λ id. o) l) is

-- where it has none
pub part_none : (written : Written) (l : Leaf) → part_in written l ≡ None → part_of written l ≡ []
part_none written l is = ap (λ (o : Option (List Entry)). of_some [] (λ (es : List Entry). es) o) is

pub parts_alike : (written other : Written) (leaves : List Leaf) → AllByRecursion (λ (l : Leaf). written l.id ≡ other l.id) leaves → parts_of written leaves ≡ parts_of other leaves
parts_alike written other [] same = refl
parts_alike written other (l ∷ leaves) same = ap (λ (part : List Entry). part ++ parts_of written leaves) (part_alike written other l same.0) ∙ ap (λ (rest : List Entry). part_of other l ++ rest) (parts_alike written other leaves same.1)

pub parts_both : (written : Written) (front rest : List Leaf) → parts_of written (front ++ rest) ≡ parts_of written front ++ parts_of written rest
parts_both written [] rest = refl
parts_both written (l ∷ front) rest = ap (λ (es : List Entry). part_of written l ++ es) (parts_both written front rest) ∙ sym (append_assoc (part_of written l) (parts_of written front) (parts_of written rest))

-- a leaf more
pub parts_more : (written : Written) (front : List Leaf) (l : Leaf) → parts_of written (front ++ l ∷ []) ≡ parts_of written front ++ part_of written l
parts_more written front l = parts_both written front (l ∷ []) ∙ ap (λ (es : List Entry). parts_of written front ++ es) (append-nil (part_of written l))

-- a part that leads to rows
pub own_some : (e : Entry) → has_rows e.link ≡ true → own_part e ≡ Some (e ∷ [])
own_some e has = elim (cases_Bool (e.link.greatest.id == 0)) [
  | inl is ↦ absurd (let clash : false ≡ true = rw is at has in cc)
  | inr isnt ↦ rw isnt refl
]
