-- Leaves that come to the slots, each in its place in the order.
use Rattle.std.proofs.Common.{◌≡◌, ℕ, zero, suc, ◌+◌, ◌<◌, ◌≤◌, ◌^◌, true, false, List, [], ◌∷◌, ◌++◌, length, length-append, map, get_or, take, drop, refl, sym, ap, subst, ◌∙◌, arith}
use Rattle.std.specs.List.{All, insert}
use Rattle.std.specs.List.Sorted.{IsPartitionPoint}
use Rattle.std.specs.Ordering.{nat_cmp, is_lt}
use Rattle.std.specs.Cmp.Lexicographic.{slice_cmp}
use Rattle.std.specs.declared.cmp.Ordering.TheVariants.{Less, Greater}
use Rattle.std.proofs.lemmas.List.{map-append, take-map, drop-map, append_assoc}
use Rattle.std.proofs.lemmas.List.Elements.{All-head, All-tail, All-take, All-drop}
use Rattle.std.proofs.Math.Seq.{take-append_seam}
use Rattle.stored.specs.TableTree.{Entry}
use Rattle.tree_dir.specs.declared.leaf.Leaf.{Leaf}
use Rattle.tree_dir.specs.Added.{IsAdded, ids_of}
use Rattle.tree_dir.specs.Leaves.{is_before, place_key}
use Rattle.tree_dir.specs.Order.{IsWay, rank_order, with_leaf, with_leaves}
use Rattle.tree_dir.specs.Slots.{leaf_at, leaves_at, new_leaf, no_leaf, numbered}
use Rattle.tree_dir.proofs.Pushing.{way-pushed}
use Rattle.tree_dir.proofs.SlotLemmas.{leaf-new, leaf-pushed, view-at, view-long, view-rank}

-- ---- one leaf

map-pushed : (slots : List Leaf) (s : Leaf) (xs : List ℕ) → All (λ i. i < length slots) xs → map (leaf_at (slots ++ s ∷ [])) xs ≡ map (leaf_at slots) xs
map-pushed slots s [] all = refl
map-pushed slots s (x ∷ xs) all =
    ap (λ (l : Leaf). l ∷ map (leaf_at (slots ++ s ∷ [])) xs) (leaf-pushed slots s x (All-head (λ (i : ℕ). i < length slots) x xs all))
    ∙ ap (λ (ls : List Leaf). leaf_at slots x ∷ ls) (map-pushed slots s xs (All-tail (λ (i : ℕ). i < length slots) x xs all))

view-pushed : (slots : List Leaf) (s : Leaf) (order : List ℕ) (r : ℕ) → All (λ i. i < length slots) order → leaves_at (slots ++ s ∷ []) (insert order r (length slots)) ≡ insert (leaves_at slots order) r s
view-pushed slots s order r all =
    let after = slots ++ s ∷ [] in
    let within : ℕ → Type 0 = λ i. i < length slots in
    map-append (leaf_at after) (take r order) (length slots ∷ drop r order)
    ∙ (ap (λ (ls : List Leaf). ls ++ map (leaf_at after) (length slots ∷ drop r order)) (map-pushed slots s (take r order) (All-take within r order all) ∙ sym (take-map (leaf_at slots) r order))
    ∙ (ap (λ (l : Leaf). take r (leaves_at slots order) ++ (l ∷ map (leaf_at after) (drop r order))) (leaf-new slots s)
    ∙ ap (λ (ls : List Leaf). take r (leaves_at slots order) ++ (s ∷ ls)) (map-pushed slots s (drop r order) (All-drop within r order all) ∙ sym (drop-map (leaf_at slots) r order))))

put-insert : (l : Leaf) (xs : List Leaf) (r : ℕ) → r ≤ length xs → ((k : ℕ) → k < r → is_before (get_or xs k no_leaf) l ≡ true) → (r < length xs → is_before (get_or xs r no_leaf) l ≡ false) → insert xs r l ≡ with_leaf l xs
put-insert l [] zero le low high = refl
put-insert l [] (suc r) le low high = absurd (omega (arith, le))
put-insert l (x ∷ xs) zero le low high = rw (high (omega arith)) refl
put-insert l (x ∷ xs) (suc r) le low high = rw (low 0 (omega arith)) (ap (λ (ls : List Leaf). x ∷ ls) (put-insert l xs r (omega (arith, le)) (λ k lt. low (suc k) (omega (arith, lt))) (λ lt. high (omega (arith, lt)))))

abbrev pub Parts : List Leaf → List ℕ → List ℕ → ℕ → Type 0
Parts slots order place r = IsPartitionPoint (λ y. rank_order slots place y ≡ Less) (λ y. rank_order slots place y ≡ Greater) order r

pub added-view : (slots : List Leaf) (order : List ℕ) (r : ℕ) (s : Leaf) → IsWay slots order → r ≤ length order → Parts slots order (place_key s) r → leaves_at (slots ++ s ∷ []) (insert order r (length slots)) ≡ with_leaf s (leaves_at slots order)
added-view slots order r s ix le parts =
    let long = view-long slots order in
    view-pushed slots s order r ix.within
    ∙ put-insert s (leaves_at slots order) r (omega (arith, le, long))
    (λ k lt.
    ap (λ (l : Leaf). is_before l s) (view-at slots order k no_leaf (omega (arith, lt, le)))
    ∙ ap is_lt (ap (λ (p : List ℕ). slice_cmp nat_cmp p (place_key s)) (sym (view-rank slots order k ix (omega (arith, lt, le)))) ∙ parts.0 k 0 (omega arith) lt))
    (λ lt.
    let within : r < length order = omega (arith, lt, long) in
    ap (λ (l : Leaf). is_before l s) (view-at slots order r no_leaf within)
    ∙ ap is_lt (ap (λ (p : List ℕ). slice_cmp nat_cmp p (place_key s)) (sym (view-rank slots order r ix within)) ∙ parts.1 r 0 (omega arith) within))

pub one-added : (slots : List Leaf) (order : List ℕ) (r table serial : ℕ) (e : Entry) → IsWay slots order → length slots < 2 ^ 28 → r ≤ length order → Parts slots order (table ∷ e.key) r → IsAdded slots order table serial (e ∷ []) (slots ++ new_leaf table (ids_of serial + length slots) e ∷ []) (insert order r (length slots))
one-added slots order r table serial e ix few le parts =
    let s = new_leaf table (ids_of serial + length slots) e in
    let long = length-append slots (s ∷ []) in
    record {
      slots_are = refl;
      way = way-pushed slots order r s ix le parts;
      in_order = added-view slots order r s ix le parts;
      few = omega (arith, few, long);
    }

-- the same by what a step leaves
pub is-added : (slots later : List Leaf) (order after : List ℕ) (r table serial at n : ℕ) (e : Entry) → IsWay slots order → length slots < 2 ^ 28 → r ≤ length order → Parts slots order (table ∷ e.key) r → at ≡ length slots → n ≡ length slots → later ≡ slots ++ new_leaf table (ids_of serial + at) e ∷ [] → after ≡ insert order r n → IsAdded slots order table serial (e ∷ []) later after
is-added slots later order after r table serial at n e ix few le parts at-is n-is later-is after-is =
    let later-then = later-is ∙ ap (λ (k : ℕ). slots ++ new_leaf table (ids_of serial + k) e ∷ []) at-is in
    let after-then = after-is ∙ ap (λ (k : ℕ). insert order r k) n-is in
    subst (λ (ls : List Leaf). IsAdded slots order table serial (e ∷ []) ls after) (sym later-then)
    (subst (λ (os : List ℕ). IsAdded slots order table serial (e ∷ []) (slots ++ new_leaf table (ids_of serial + length slots) e ∷ []) os) (sym after-then)
    (one-added slots order r table serial e ix few le parts))

-- ---- several

numbered-append : (table id : ℕ) (es fs : List Entry) → numbered table id (es ++ fs) ≡ numbered table id es ++ numbered table (id + length es) fs
numbered-append table id [] fs = let z : id + 0 ≡ id = omega arith in ap (λ (n : ℕ). numbered table n fs) (sym z)
numbered-append table id (e ∷ es) fs =
    let next : id + 1 + length es ≡ id + suc (length es) = omega arith in
    ap (λ (ls : List Leaf). new_leaf table id e ∷ ls) (numbered-append table (id + 1) es fs ∙ ap (λ (n : ℕ). numbered table (id + 1) es ++ numbered table n fs) next)

pub numbered-long : (table id : ℕ) (es : List Entry) → length (numbered table id es) ≡ length es
numbered-long table id [] = refl
numbered-long table id (e ∷ es) = ap suc (numbered-long table (id + 1) es)

with_leaves-append : (xs ys leaves : List Leaf) → with_leaves (xs ++ ys) leaves ≡ with_leaves ys (with_leaves xs leaves)
with_leaves-append [] ys leaves = refl
with_leaves-append (x ∷ xs) ys leaves = with_leaves-append xs ys (with_leaf x leaves)

append-nil : (xs : List Leaf) → xs ++ [] ≡ xs
append-nil [] = refl
append-nil (x ∷ xs) = ap (λ (ls : List Leaf). x ∷ ls) (append-nil xs)

pub none-added : (slots : List Leaf) (order : List ℕ) (table serial : ℕ) → IsWay slots order → length slots ≤ 2 ^ 28 → IsAdded slots order table serial [] slots order
none-added slots order table serial ix few = record { slots_are = sym (append-nil slots); way = ix; in_order = refl; few = few }

pub more-added : (slots later last : List Leaf) (order after end : List ℕ) (table serial : ℕ) (es : List Entry) (e : Entry) → IsAdded slots order table serial es later after → IsAdded later after table serial (e ∷ []) last end → IsAdded slots order table serial (es ++ e ∷ []) last end
more-added slots later last order after end table serial es e a b =
    let id = ids_of serial + length slots in
    let first = numbered table id es in
    let long = ap length a.slots_are ∙ length-append slots first in
    let many = numbered-long table id es in
    let next : ids_of serial + length later ≡ id + length es = omega (arith, long, many) in
    let both = numbered-append table id es (e ∷ []) in
    let then = ap (λ (n : ℕ). numbered table n (e ∷ [])) next in
    record {
      slots_are =
          b.slots_are
          ∙ (ap (λ (ls : List Leaf). ls ++ numbered table (ids_of serial + length later) (e ∷ [])) a.slots_are
          ∙ (ap (λ (ls : List Leaf). (slots ++ first) ++ ls) then
          ∙ (append_assoc slots first (numbered table (id + length es) (e ∷ [])) ∙ ap (λ (ls : List Leaf). slots ++ ls) (sym both))));
      way = b.way;
      in_order =
          b.in_order
          ∙ (ap (λ (ls : List Leaf). with_leaves ls (leaves_at later after)) then
          ∙ (ap (λ (ls : List Leaf). with_leaves (numbered table (id + length es) (e ∷ [])) ls) a.in_order
          ∙ (sym (with_leaves-append first (numbered table (id + length es) (e ∷ [])) (leaves_at slots order)) ∙ ap (λ (ls : List Leaf). with_leaves ls (leaves_at slots order)) (sym both))));
      few = b.few;
    }

-- those that were there stand at the front
pub front-stays : (slots later : List Leaf) (order after : List ℕ) (table serial : ℕ) (es : List Entry) → IsAdded slots order table serial es later after → (take (length slots) later ≡ slots) × (length slots ≤ length later)
front-stays slots later order after table serial es a =
    let new = numbered table (ids_of serial + length slots) es in
    (ap (take (length slots)) a.slots_are ∙ take-append_seam slots new, let long = ap length a.slots_are ∙ length-append slots new in omega (arith, long))
