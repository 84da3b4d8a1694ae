-- The leaves of one table, by its entries: each key lies in one of them, which has what the table has of it.
use Rattle.std.proofs.Common.{◌≡◌, ℕ, Bool, true, false, List, [], ◌∷◌, length, Option, Some, None, refl, sym, ap, subst, ◌∙◌, inl, inr, arith}
use Rattle.std.specs.Prelude.{filter, map, not, if◌then◌else◌}
use Rattle.std.specs.Option.{option_or}
use Rattle.std.specs.List.{Contains}
use Rattle.std.proofs.lemmas.Bool.{cases_Bool, eq-eqb}
use Rattle.std.proofs.lemmas.Option.{same_Some}
use Rattle.row_page.specs.Rows.{Row, is_below}
use Rattle.reconcile.specs.Shows.{shown_at}
use Rattle.stored.specs.Tree.{join}
use Rattle.stored.specs.TableTree.{Climbs, Entry, Stay}
use Rattle.tree_dir.specs.declared.leaf.Leaf.{Leaf}
use Rattle.tree_dir.specs.Leaves.{begins_by, leaf_under, leaves_with}
use Rattle.tree_dir.proofs.Members.{split}
use Rattle.engine_start.proofs.KeyedRows.{NoneHas, from_none, join_from, kept_before, kept_behind, none_kept, not_lower, to_none, within_from, within_to}

-- the leaf of an entry, in no frame
abbrev leaf_with : ℕ → ℕ → Entry → Leaf
leaf_with number id e = record { id = id; table = number; entry = e; frame = None }

module _ (number : ℕ) (key : List ℕ) where
  abbrev under : List ℕ → List Entry → Option Leaf
  under ids es = leaf_under number key (leaves_with number ids es)

  abbrev here : ℕ → Entry → Option Leaf
  here id e = if begins_by number key (leaf_with number id e) then Some (leaf_with number id e) else None

  begins : (id : ℕ) (e : Entry) → begins_by number key (leaf_with number id e) ≡ not (is_below key e.key)
  begins id e = rw (eq-eqb number number refl) refl

  -- the leaf lies here where none of the others has the key
  here_is : (id : ℕ) (e : Entry) → is_below key e.key ≡ false → here id e ≡ Some (leaf_with number id e)
  here_is id e isnt = rw (begins id e, isnt) refl

  not_here : (id : ℕ) (e : Entry) → is_below key e.key ≡ true → here id e ≡ None
  not_here id e is = rw (begins id e, is) refl

  -- ---- whether there is one

  under_nothing : (ids : List ℕ) → under ids [] ≡ None
  under_nothing [] = refl
  under_nothing (id ∷ ids) = refl

  here_or_later : (id : ℕ) (ids : List ℕ) (e : Entry) (es : List Entry) (l : Leaf) → ((m : Leaf) → under ids es ≡ Some m → is_below key e.key ≡ false) → under (id ∷ ids) (e ∷ es) ≡ Some l → is_below key e.key ≡ false
  here_or_later id ids e es l later is = elim (cases_Bool (is_below key e.key)) [
    | inl below ↦ later l (in_first (under ids es) (here id e) (not_here id e below) is)
    | inr isnt ↦ isnt
  ] where
    in_first : (o p : Option Leaf) → p ≡ None → option_or o p ≡ Some l → o ≡ Some l
    in_first None p a b = absurd (let clash : None ≡ Some l = sym a ∙ b in cc)
    in_first (Some x) p a b = b

  found_from : (ids : List ℕ) (e : Entry) (es : List Entry) (l : Leaf) → Climbs (e ∷ es) → under ids (e ∷ es) ≡ Some l → is_below key e.key ≡ false
  found_from [] e es l climbs is = absurd (let clash : None ≡ Some l = is in cc)
  found_from (id ∷ ids) e [] l climbs is = here_or_later id ids e [] l (λ m at. absurd (let clash : None ≡ Some m = sym (under_nothing ids) ∙ at in cc)) is
  found_from (id ∷ ids) e (f ∷ es) l climbs is = here_or_later id ids e (f ∷ es) l (λ m at. not_lower e.key f.key key climbs.0 (found_from ids f es m climbs.1 at)) is

  none_below : (id : ℕ) (ids : List ℕ) (e : Entry) (es : List Entry) → under (id ∷ ids) (e ∷ es) ≡ None → is_below key e.key ≡ true
  none_below id ids e es is = elim (cases_Bool (is_below key e.key)) [
    | inl below ↦ below
    | inr isnt ↦ absurd (nothing (under ids es) (here id e) (leaf_with number id e) (here_is id e isnt) is)
  ] where
    nothing : (o p : Option Leaf) (l : Leaf) → p ≡ Some l → option_or o p ≡ None → ⊥
    nothing None None l a b = cc
    nothing None (Some x) l a b = cc
    nothing (Some x) p l a b = cc

  -- ---- what the leaves have

  module _ (p : Row → Bool) (rows_of : Entry → List Row) where
    abbrev all_rows : List Entry → List Row
    all_rows es = join (map rows_of es)

    none_later : (ids : List ℕ) (es : List Entry) → length ids ≡ length es → Climbs es → Stay es (map rows_of es) → under ids es ≡ None → NoneHas key (all_rows es)
    none_later ids [] many climbs stay is = tt
    none_later [] (e ∷ es) many climbs stay is = absurd (omega (arith, many))
    none_later (id ∷ ids) (e ∷ es) many climbs stay is = from_none key e.key (all_rows (e ∷ es)) (none_below id ids e es is) (join_from rows_of e es climbs stay)

    none_here : (ids : List ℕ) (e : Entry) (es : List Entry) (l : Leaf) → Climbs (e ∷ es) → Stay (e ∷ es) (map rows_of (e ∷ es)) → under ids es ≡ Some l → NoneHas key (rows_of e)
    none_here ids e [] l climbs stay is = absurd (let clash : None ≡ Some l = sym (under_nothing ids) ∙ is in cc)
    none_here ids e (f ∷ es) l climbs stay is = to_none key f.key (rows_of e) (found_from ids f es l climbs.1 is) (within_to e.key f.key (rows_of e) stay.0)

    climbs_later : (e : Entry) (es : List Entry) → Climbs (e ∷ es) → Climbs es
    climbs_later e [] climbs = tt
    climbs_later e (f ∷ es) climbs = climbs.1

    -- the leaf under the key has what all have of it
    pub shown_under : (ids : List ℕ) (es : List Entry) (l : Leaf) → length ids ≡ length es → Climbs es → Stay es (map rows_of es) → under ids es ≡ Some l → shown_at key (filter p (all_rows es)) ≡ shown_at key (filter p (rows_of l.entry))
    shown_under [] es l many climbs stay is = absurd (let clash : None ≡ Some l = is in cc)
    shown_under (id ∷ ids) [] l many climbs stay is = absurd (let clash : None ≡ Some l = is in cc)
    shown_under (id ∷ ids) (e ∷ es) l many climbs stay is = by (under ids es) refl (λ at. shown_under ids es l (omega (arith, many)) (climbs_later e es climbs) stay.1 at) where
      first : (o q : Option Leaf) (m : Leaf) → o ≡ Some m → option_or o q ≡ Some l → Some m ≡ Some l
      first None q m a b = absurd (let clash : None ≡ Some m = a in cc)
      first (Some x) q m a b = sym a ∙ b

      last : (o q : Option Leaf) → o ≡ None → option_or o q ≡ Some l → q ≡ Some l
      last None q a b = b
      last (Some x) q a b = absurd (let clash : Some x ≡ None = a in cc)

      its_leaf : here id e ≡ Some l → leaf_with number id e ≡ l
      its_leaf its = elim (cases_Bool (is_below key e.key)) [
        | inl below ↦ absurd (let clash : None ≡ Some l = sym (not_here id e below) ∙ its in cc)
        | inr isnt ↦ same_Some (leaf_with number id e) l (sym (here_is id e isnt) ∙ its)
      ]

      by : (o : Option Leaf) → under ids es ≡ o → (under ids es ≡ Some l → shown_at key (filter p (all_rows es)) ≡ shown_at key (filter p (rows_of l.entry))) → shown_at key (filter p (all_rows (e ∷ es))) ≡ shown_at key (filter p (rows_of l.entry))
      by (Some m) at later = kept_behind p key (rows_of e) (all_rows es) (none_here ids e es m climbs stay at) ∙ later (at ∙ first (under ids es) (here id e) m at is)
      by None at later =
          kept_before p key (rows_of e) (all_rows es) (none_later ids es (omega (arith, many)) (climbs_later e es climbs) stay.1 at)
          ∙ ap (λ (x : Leaf). shown_at key (filter p (rows_of x.entry))) (its_leaf (last (under ids es) (here id e) at is))

    -- and no other leaf has anything
    pub none_elsewhere : (ids : List ℕ) (es : List Entry) (l : Leaf) → length ids ≡ length es → Climbs es → Stay es (map rows_of es) → Contains (leaves_with number ids es) l → (under ids es ≡ Some l → ⊥) → shown_at key (filter p (rows_of l.entry)) ≡ None
    none_elsewhere [] es l many climbs stay there other = absurd (omega (arith, there.1))
    none_elsewhere (id ∷ ids) [] l many climbs stay there other = absurd (omega (arith, there.1))
    none_elsewhere (id ∷ ids) (e ∷ es) l many climbs stay there other = elim (split (leaf_with number id e) l (leaves_with number ids es) there) [
      | inl same ↦ subst (λ (x : Leaf). shown_at key (filter p (rows_of x.entry)) ≡ None) same (none_kept p key (rows_of e) (by (under ids es) refl same))
      | inr later ↦ none_elsewhere ids es l (omega (arith, many)) (climbs_later e es climbs) stay.1 later (λ is. other (rw is refl))
    ] where
      by : (o : Option Leaf) → under ids es ≡ o → leaf_with number id e ≡ l → NoneHas key (rows_of e)
      by (Some m) at same = none_here ids e es m climbs stay at
      by None at same = elim (cases_Bool (is_below key e.key)) [
        | inl below ↦ from_none key e.key (rows_of e) below (within_from e.key _ (rows_of e) stay.0)
        | inr isnt ↦ absurd (other (last (under ids es) (here id e) at (here_is id e isnt ∙ ap Some same)))
      ] where
        last : (o q : Option Leaf) → o ≡ None → q ≡ Some l → option_or o q ≡ Some l
        last None q a b = b
        last (Some x) q a b = absurd (let clash : Some x ≡ None = a in cc)
