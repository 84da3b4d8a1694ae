-- Where a leaf gave way to others: what is found under a key then, and in which order they stand.
use Rattle.std.proofs.Common.{◌≡◌, ◌≢◌, ◌⊎◌, ℕ, ◌≤◌, Bool, true, false, List, [], ◌∷◌, ◌++◌, length, get_or, Option, Some, None, refl, sym, ap, subst, ◌∙◌, inl, inr, append_assoc, arith}
use Rattle.std.specs.Prelude.{if◌then◌else◌}
use Rattle.std.specs.Option.{option_or}
use Rattle.std.specs.List.{Contains}
use Rattle.std.proofs.lemmas.Bool.{both_ways, false_from_ne_true}
use Rattle.std.proofs.lemmas.List.{get_or_default}
use Rattle.std.proofs.lemmas.Option.{same_Some}
use Rattle.stored.specs.TableTree.{Entry, first_key}
use Rattle.tree_dir.specs.declared.leaf.Leaf.{Leaf}
use Rattle.tree_dir.specs.GivingWay.{LeavesGiveWay, StandFor}
use Rattle.tree_dir.specs.Leaves.{Directory, GaveWay, IsDirectory, TakePlace, begins_by, entry_of, leaf_behind, leaf_under, leaves_of, leaves_with}
use Rattle.tree_dir.specs.Slots.{no_leaf}
use Rattle.tree_dir.proofs.Around.{IsAmong, among, beside-it, given-among, of-all, of-append, of-none, of-other, of-own, under-append, under-in, under-some}
use Rattle.tree_dir.proofs.LeavesWith.{begins-from-low, ids-rise, with-first, with-ids, with-low, with-own}
use Rattle.tree_dir.proofs.Looking.{under-none}
use Rattle.tree_dir.proofs.Members.{inside, outside, sides, split}
use Rattle.tree_dir.proofs.Parting.{ids-name}

record IsGiving (d next : Directory) (l : Leaf) (entries : List Entry) (ids : List ℕ) : Type 0 where
  old : IsDirectory d
  there : Contains d.leaves l
  place : TakePlace l.id entries d.leaves
  gave : GaveWay d next l.id entries ids

module _ (d next : Directory) (l : Leaf) (entries : List Entry) (ids : List ℕ) (g : IsGiving d next l entries ids) where
  abbrev made : List Leaf
  made = leaves_with l.table ids entries

  a : IsAmong d.leaves l
  a = among d.leaves l g.old.once g.there

  now : next.leaves ≡ a.front ++ (made ++ a.back)
  now = g.gave.leaves ∙ given-among d.leaves l ids entries a

  -- ---- the leaves in its place

  low : first_key entries ≡ Some l.entry.key
  low = g.place.begins ∙ ap (λ (m : Leaf). Some m.entry.key) (same_Some g.place.leaf l (sym g.place.there ∙ ids-name d g.old l g.there))

  first : (n : Leaf) × Contains made n × (n.entry.key ≡ l.entry.key)
  first = with-first l.table ids entries l.entry.key g.gave.fresh.many low

  own : (n : Leaf) → Contains made n → (n.table ≡ l.table) × (n.frame ≡ None)
  own n c = with-own l.table ids entries n c

  made-none : (table : ℕ) (key : List ℕ) → begins_by table key l ≡ false → leaf_under table key made ≡ None
  made-none table key not = under-none table key made no_leaf (λ k lt.
      let n = get_or made k no_leaf in
      let c : Contains made n = (k, lt, get_or_default made k n no_leaf lt) in
      let from = with-low l.table ids entries (entry_of (leaf_behind l.id d.leaves)) l.entry.key n low g.place.climbs c in
      false_from_ne_true (begins_by table key n) (λ b. both_ways (begins_by table key l) not (begins-from-low table key l n (own n c).0 from b)))

  made-some : (table : ℕ) (key : List ℕ) → begins_by table key l ≡ true → (n : Leaf) × Contains made n × (leaf_under table key made ≡ Some n)
  made-some table key b = under-some table key made first.0 first.1 (begins-first table key b) where
    begins-first : (table : ℕ) (key : List ℕ) → begins_by table key l ≡ true → begins_by table key first.0 ≡ true
    begins-first table key b = begins-from-low table key first.0 l (sym (own first.0 first.1).0) (inl first.2) b

  -- ---- what is found under a key

  was : (table : ℕ) (key : List ℕ) (o : Option Leaf) → leaf_under table key a.back ≡ o → (b : Bool) → begins_by table key l ≡ b → leaf_under table key d.leaves ≡ option_or (option_or o (if b then Some l else None)) (leaf_under table key a.front)
  was table key o is b begins =
      ap (leaf_under table key) a.whole
      ∙ (under-append table key a.front (l ∷ a.back)
      ∙ (ap (λ (x : Option Leaf). option_or (option_or x (if begins_by table key l then Some l else None)) (leaf_under table key a.front)) is
      ∙ ap (λ (c : Bool). option_or (option_or o (if c then Some l else None)) (leaf_under table key a.front)) begins))

  is : (table : ℕ) (key : List ℕ) (o q : Option Leaf) → leaf_under table key a.back ≡ o → leaf_under table key made ≡ q → leaf_under table key next.leaves ≡ option_or (option_or o q) (leaf_under table key a.front)
  is table key o q back mid =
      ap (leaf_under table key) now
      ∙ (under-append table key a.front (made ++ a.back)
      ∙ (ap (λ (x : Option Leaf). option_or x (leaf_under table key a.front)) (under-append table key made a.back)
      ∙ (ap (λ (x : Option Leaf). option_or (option_or x (leaf_under table key made)) (leaf_under table key a.front)) back
      ∙ ap (λ (x : Option Leaf). option_or (option_or o x) (leaf_under table key a.front)) mid)))

  under-new : (key : List ℕ) → leaf_under l.table key d.leaves ≡ Some l → (n : Leaf) × Contains made n × (leaf_under l.table key next.leaves ≡ Some n)
  under-new key e = go (leaf_under l.table key a.back) refl (begins_by l.table key l) refl where
    go : (o : Option Leaf) → leaf_under l.table key a.back ≡ o → (b : Bool) → begins_by l.table key l ≡ b → (n : Leaf) × Contains made n × (leaf_under l.table key next.leaves ≡ Some n)
    go (Some y) back b begins = absurd (a.behind y (under-in l.table key a.back y back) (ap (λ (m : Leaf). m.id) (same_Some y l (sym (was l.table key (Some y) back b begins) ∙ e))))
    go None back true begins = let m = made-some l.table key begins in (m.0, m.1, is l.table key None (Some m.0) back m.2)
    go None back false begins = absurd (a.ahead l (under-in l.table key a.front l (sym (was l.table key None back false begins) ∙ e)) refl)

  under-other : (table : ℕ) (key : List ℕ) (x : Leaf) → x.id ≢ l.id → leaf_under table key d.leaves ≡ Some x → leaf_under table key next.leaves ≡ Some x
  under-other table key x other e = go (leaf_under table key a.back) refl (begins_by table key l) refl where
    go : (o : Option Leaf) → leaf_under table key a.back ≡ o → (b : Bool) → begins_by table key l ≡ b → leaf_under table key next.leaves ≡ Some x
    go (Some y) back b begins = is table key (Some y) (leaf_under table key made) back refl ∙ (sym (was table key (Some y) back b begins) ∙ e)
    go None back true begins = absurd (other (ap (λ (m : Leaf). m.id) (sym (same_Some l x (sym (was table key None back true begins) ∙ e)))))
    go None back false begins = is table key None None back (made-none table key begins) ∙ (sym (was table key None back false begins) ∙ e)

  under-none-now : (table : ℕ) (key : List ℕ) → leaf_under table key d.leaves ≡ None → leaf_under table key next.leaves ≡ None
  under-none-now table key e = go (leaf_under table key a.back) refl (begins_by table key l) refl where
    go : (o : Option Leaf) → leaf_under table key a.back ≡ o → (b : Bool) → begins_by table key l ≡ b → leaf_under table key next.leaves ≡ None
    go (Some y) back b begins = let clash = sym (was table key (Some y) back b begins) ∙ e in absurd cc
    go None back true begins = let clash = sym (was table key None back true begins) ∙ e in absurd cc
    go None back false begins = is table key None None back (made-none table key begins) ∙ (sym (was table key None back false begins) ∙ e)

  -- ---- which leaves there are

  members : (x : Leaf) → Contains next.leaves x → (Contains d.leaves x × (x.id ≢ l.id)) ⊎ Contains made x
  members x c = elim (sides a.front made a.back x (subst (λ (ls : List Leaf). Contains ls x) now c)) [
    | inl old ↦ inl (subst (λ (ls : List Leaf). Contains ls x) (sym a.whole) (outside a.front (l ∷ []) a.back x old), beside-it d.leaves l x a old)
    | inr new ↦ inr new
  ]

  others : (x : Leaf) → Contains d.leaves x → x.id ≢ l.id → Contains next.leaves x
  others x c other = elim (sides a.front (l ∷ []) a.back x (subst (λ (ls : List Leaf). Contains ls x) a.whole c)) [
    | inl old ↦ subst (λ (ls : List Leaf). Contains ls x) (sym now) (outside a.front made a.back x old)
    | inr it ↦ elim (split l x [] it) [
      | inl same ↦ absurd (other (ap (λ (m : Leaf). m.id) (sym same)))
      | inr none ↦ absurd (omega (arith, none.1))
    ]
  ]

  news : (n : Leaf) → Contains made n → Contains next.leaves n
  news n c = subst (λ (ls : List Leaf). Contains ls n) (sym now) (inside a.front made a.back n c)

  -- ---- in the order of their keys

  of-then : (table : ℕ) → leaves_of table d.leaves ≡ leaves_of table a.front ++ leaves_of table (l ∷ a.back)
  of-then table = ap (leaves_of table) a.whole ∙ of-append table a.front (l ∷ a.back)

  of-now : (table : ℕ) → leaves_of table next.leaves ≡ leaves_of table a.front ++ (leaves_of table made ++ leaves_of table a.back)
  of-now table = ap (leaves_of table) now ∙ (of-append table a.front (made ++ a.back) ∙ ap (λ (ls : List Leaf). leaves_of table a.front ++ ls) (of-append table made a.back))

  rest : (table : ℕ) → table ≢ l.table → leaves_of table next.leaves ≡ leaves_of table d.leaves
  rest table other =
      of-now table
      ∙ (ap (λ (ls : List Leaf). leaves_of table a.front ++ (ls ++ leaves_of table a.back)) (of-none table made (λ n c e. other (sym e ∙ (own n c).0)))
      ∙ sym (of-then table ∙ ap (λ (ls : List Leaf). leaves_of table a.front ++ ls) (of-other table l a.back (λ e. other (sym e)))))

  stand : StandFor d next l made
  stand = record {
    ids = ids-rise d.next next.next ids g.gave.fresh.ascend (some-ids g.gave.fresh.many);
    later = λ n c. with-ids d.next next.next l.table ids entries n g.gave.fresh.ascend c;
    own = own;
    members = members;
    others = others;
    news = news;
    under_new = under-new;
    under_other = under-other;
    under_none = under-none-now;
    front = leaves_of l.table a.front;
    back = leaves_of l.table a.back;
    were = of-then l.table ∙ ap (λ (ls : List Leaf). leaves_of l.table a.front ++ ls) (of-own l.table l a.back refl);
    are =
        of-now l.table
        ∙ (ap (λ (ls : List Leaf). leaves_of l.table a.front ++ (ls ++ leaves_of l.table a.back)) (of-all l.table made (λ n c. (own n c).0))
        ∙ sym (append_assoc (leaves_of l.table a.front) made (leaves_of l.table a.back)));
    rest = rest;
  } where
    some-ids : length ids ≡ length entries → 1 ≤ length ids
    some-ids many = by entries low many where
      by : (es : List Entry) → first_key es ≡ Some l.entry.key → length ids ≡ length es → 1 ≤ length ids
      by [] begins same = absurd cc
      by (e ∷ es) begins same = omega arith

pub leaves-give-way : LeavesGiveWay
leaves-give-way d next l entries ids old new there place gave = stand d next l entries ids (record { old = old; there = there; place = place; gave = gave })
