-- A directory in which leaves took the place of one.
use Rattle.std.proofs.Common.{◌≡◌, ℕ, zero, suc, ◌+◌, ◌^◌, ◌<◌, ◌≤◌, true, List, [], ◌∷◌, ◌++◌, length, length-append, map, get_or, take, drop, Option, Some, refl, sym, ap, subst, ◌∙◌, inl, inr, append_assoc, arith}
use Rattle.std.specs.Ordering.{is_lt}
use Rattle.std.proofs.lemmas.Bool.{cases_eq, cases_lt, eq-eqb, ne_eqb}
use Rattle.std.proofs.lemmas.Option.{same_Some}
use Rattle.std.proofs.lemmas.List.{drop_more, get_or-drop, get_or-take, length-drop, length-take-le, map-append, take-append-drop}
use Rattle.std.proofs.lemmas.List.Elements.{at_from_Contains}
use Rattle.row_page.specs.Rows.{is_below}
use Rattle.stored.specs.TableTree.{Climbs, Entry, first_key}
use Rattle.tree_dir.specs.declared.leaf.Leaf.{Leaf}
use Rattle.tree_dir.specs.Added.{IsAdded, IsReplaced, ids_of}
use Rattle.tree_dir.specs.Leaves.{GaveWay, TablesBegin, TakePlace, changed, entry_of, given_way, is_before, leaf_behind, leaf_named, leaves_with, of_table, place_key}
use Rattle.tree_dir.specs.Order.{IsWay, rank_at, with_leaves}
use Rattle.tree_dir.specs.Slots.{home_of, leaf_at, leaves_at, new_leaf, no_leaf, numbered, slot_changed}
use Rattle.tree_dir.specs.Sound.{AreBelow, AreHome, IsSound}
use Rattle.tree_dir.proofs.Changing.{at_id, slot-view}
use Rattle.tree_dir.proofs.Index.{way-alike}
use Rattle.tree_dir.proofs.KeyOrder.{place-less, place-same}
use Rattle.tree_dir.proofs.Members.{begins-given, head-in, split}
use Rattle.tree_dir.proofs.NewIds.{at-left, below-added, counted, counted-ascend, counted-long, home-added, home-is, numbered-table, numbered-with}
use Rattle.tree_dir.proofs.NewLeaves.{numbered-long}
use Rattle.tree_dir.proofs.SlotIds.{IsSlotOf}
use Rattle.tree_dir.proofs.SlotLemmas.{changed-elsewhere, changed-here, changed-long, view-at, view-long}
use Rattle.tree_dir.proofs.Splicing.{Above, BeforeFirst, Befores, before-on, numbered-chain, splice}
use Rattle.tree_dir.proofs.Standing.{shown, stands}
use Rattle.tree_dir.proofs.ViewLemmas.{ids-differ, named-slot, nth, tables-rise, view-behind}

-- ---- the list where the leaf lies

-- a leaf at a place, with those before and those behind
pub around : (leaves : List Leaf) (r : ℕ) (d : Leaf) → r < length leaves → leaves ≡ take r leaves ++ (get_or leaves r d ∷ drop (suc r) leaves)
around leaves r d lt =
    let next : r + 1 ≡ suc r = omega arith in
    sym (take-append-drop r leaves) ∙ (ap (λ (ls : List Leaf). take r leaves ++ ls) (drop_more leaves r d lt) ∙ ap (λ (k : ℕ). take r leaves ++ (get_or leaves r d ∷ drop k leaves)) next)

pub given-at : (id : ℕ) (ids : List ℕ) (es : List Entry) (xs ys : List Leaf) (leaf : Leaf) → ((k : ℕ) → k < length xs → (get_or xs k no_leaf).id ≡ id → ⊥) → leaf.id ≡ id → given_way id ids es (xs ++ (leaf ∷ ys)) ≡ xs ++ (leaves_with leaf.table ids es ++ ys)
given-at id ids es [] ys leaf none e = rw (eq-eqb leaf.id id e) refl
given-at id ids es (x ∷ xs) ys leaf none e = rw (ne_eqb x.id id (none 0 (omega arith))) (ap (λ (ls : List Leaf). x ∷ ls) (given-at id ids es xs ys leaf (λ k lt. none (suc k) (omega (arith, lt))) e))

unchanged : (id : ℕ) (change : Leaf → Leaf) (xs : List Leaf) → ((k : ℕ) → k < length xs → (get_or xs k no_leaf).id ≡ id → ⊥) → changed id change xs ≡ xs
unchanged id change [] none = refl
unchanged id change (x ∷ xs) none = rw (ne_eqb x.id id (none 0 (omega arith))) (ap (λ (ls : List Leaf). x ∷ ls) (unchanged id change xs (λ k lt. none (suc k) (omega (arith, lt)))))

numbered-others : (table id from : ℕ) (es : List Entry) (change : Leaf → Leaf) → id < from → changed id change (numbered table from es) ≡ numbered table from es
numbered-others table id from [] change lt = refl
numbered-others table id from (e ∷ es) change lt =
    rw (ne_eqb from id (λ same. omega (arith, same, lt))) (ap (λ (ls : List Leaf). new_leaf table from e ∷ ls) (numbered-others table id (from + 1) es change (omega (arith, lt))))

-- the change of one leaf between others
changed-between : (id : ℕ) (new leaf : Leaf) (xs ps ys : List Leaf) → leaf.id ≡ id → changed id (λ _. new) xs ≡ xs → changed id (λ _. new) ps ≡ ps → changed id (λ _. new) ys ≡ ys → changed id (λ _. new) (xs ++ (leaf ∷ (ps ++ ys))) ≡ xs ++ (new ∷ (ps ++ ys))
changed-between id new leaf xs ps ys e a b c =
    let g = at_id id (λ _. new) in
    map-append g xs (leaf ∷ (ps ++ ys))
    ∙ (ap (λ (ls : List Leaf). ls ++ map g (leaf ∷ (ps ++ ys))) a
    ∙ ap (λ (ls : List Leaf). xs ++ ls)
    (rw (eq-eqb leaf.id id e) (ap (λ (ls : List Leaf). new ∷ ls) (map-append g ps ys ∙ (ap (λ (ls : List Leaf). ls ++ map g ys) b ∙ ap (λ (ls : List Leaf). ps ++ ls) c)))))

-- ---- the leaf at its place of the order

-- a leaf of the directory: its slot, and its place in the order
pub record IsHere (slots : List Leaf) (order : List ℕ) (id i r : ℕ) : Type 0 where
  pub slot : IsSlotOf slots id i
  pub place : r < length order
  pub named : get_or order r 0 ≡ i

pub here : (slots : List Leaf) (order : List ℕ) (id i : ℕ) → IsWay slots order → IsSlotOf slots id i → (r : ℕ) × IsHere slots order id i r
here slots order id i ix s = let a = at_from_Contains order i (ix.whole i s.within) in (a.0, record { slot = s; place = a.1; named = a.2 0 })

abbrev pub fore : List Leaf → List ℕ → ℕ → List Leaf
fore slots order r = take r (leaves_at slots order)

abbrev pub rear : List Leaf → List ℕ → ℕ → List Leaf
rear slots order r = drop (suc r) (leaves_at slots order)

pub whole : (slots : List Leaf) (order : List ℕ) (id i r : ℕ) → IsHere slots order id i r → leaves_at slots order ≡ fore slots order r ++ (leaf_at slots i ∷ rear slots order r)
whole slots order id i r h =
    let long = view-long slots order in
    around (leaves_at slots order) r no_leaf (omega (arith, h.place, long))
    ∙ ap (λ (l : Leaf). fore slots order r ++ (l ∷ rear slots order r)) (view-at slots order r no_leaf h.place ∙ ap (leaf_at slots) h.named)

-- no other leaf has the id
other-id : (slots : List Leaf) (order : List ℕ) (id i r k : ℕ) → IsWay slots order → AreHome slots → IsHere slots order id i r → k < length order → (k ≡ r → ⊥) → (get_or (leaves_at slots order) k no_leaf).id ≡ id → ⊥
other-id slots order id i r k ix home h lt n e =
    ids-differ slots order k r ix home lt h.place n
    (sym (ap (λ (l : Leaf). l.id) (view-at slots order k no_leaf lt)) ∙ (e ∙ (sym h.slot.named ∙ ap (λ (j : ℕ). (leaf_at slots j).id) (sym h.named))))

fore-ids : (slots : List Leaf) (order : List ℕ) (id i r : ℕ) → IsWay slots order → AreHome slots → IsHere slots order id i r → (k : ℕ) → k < length (fore slots order r) → (get_or (fore slots order r) k no_leaf).id ≡ id → ⊥
fore-ids slots order id i r ix home h k lt e =
    let long = view-long slots order in
    let short = length-take-le r (leaves_at slots order) (omega (arith, h.place, long)) in
    let below : k < r = omega (arith, lt, short) in
    other-id slots order id i r k ix home h (omega (arith, below, h.place)) (λ same. omega (arith, same, below)) (sym (ap (λ (l : Leaf). l.id) (get_or-take r (leaves_at slots order) k no_leaf below)) ∙ e)

rear-ids : (slots : List Leaf) (order : List ℕ) (id i r : ℕ) → IsWay slots order → AreHome slots → IsHere slots order id i r → (k : ℕ) → k < length (rear slots order r) → (get_or (rear slots order r) k no_leaf).id ≡ id → ⊥
rear-ids slots order id i r ix home h k lt e =
    let long = view-long slots order in
    let left = length-drop (suc r) (leaves_at slots order) in
    other-id slots order id i r (suc r + k) ix home h (omega (arith, lt, left, long, h.place)) (λ same. omega (arith, same)) (sym (ap (λ (l : Leaf). l.id) (get_or-drop (suc r) (leaves_at slots order) k no_leaf)) ∙ e)

-- ---- those that come behind it

befores-from : (xs : List Leaf) (q : Leaf) → ((k : ℕ) → k < length xs → is_before (get_or xs k no_leaf) q ≡ true) → Befores xs q
befores-from [] q each = tt
befores-from (x ∷ xs) q each = (each 0 (omega arith), befores-from xs q (λ k lt. each (suc k) (omega (arith, lt))))

befores-end : (xs : List Leaf) (leaf q : Leaf) → Befores xs q → is_before leaf q ≡ true → Befores (xs ++ leaf ∷ []) q
befores-end [] leaf q b h = (h, tt)
befores-end (x ∷ xs) leaf q b h = (b.0, befores-end xs leaf q b.1 h)

-- the leaves up to this one are before those that come
up-to : (serial : ℕ) (slots : List Leaf) (order : List ℕ) (id i r : ℕ) (q : Leaf) → IsSound serial slots order → IsHere slots order id i r → is_before (leaf_at slots i) q ≡ true → Befores (fore slots order r ++ leaf_at slots i ∷ []) q
up-to serial slots order id i r q s h below =
    let long = view-long slots order in
    let leaves = leaves_at slots order in
    let leaf = leaf_at slots i in
    let short = length-take-le r leaves (omega (arith, h.place, long)) in
    let at = view-at slots order r no_leaf h.place ∙ ap (leaf_at slots) h.named in
    befores-end (fore slots order r) leaf q
    (befores-from (fore slots order r) q (λ k lt.
    let less : k < r = omega (arith, lt, short) in
    let up = (stands serial slots order s).ascends k r no_leaf less (omega (arith, h.place, long)) in
    let it = ap (λ (l : Leaf). is_before l (get_or leaves r no_leaf)) (get_or-take r leaves k no_leaf less) ∙ up in
    before-on (get_or (fore slots order r) k no_leaf) leaf q (sym (ap (is_before (get_or (fore slots order r) k no_leaf)) at) ∙ it) below))
    below

first-behind : (serial : ℕ) (slots : List Leaf) (order : List ℕ) (id i r from : ℕ) (first : Entry) (more end : List Entry) → IsSound serial slots order → IsHere slots order id i r → first.key ≡ (leaf_at slots i).entry.key → Climbs (first ∷ (more ++ end)) → BeforeFirst (fore slots order r ++ leaf_at slots i ∷ []) (numbered (leaf_at slots i).table from more)
first-behind serial slots order id i r from first [] end s h low climbs = tt
first-behind serial slots order id i r from first (e ∷ more) end s h low climbs =
    let leaf = leaf_at slots i in
    up-to serial slots order id i r (new_leaf leaf.table from e) s h
    (ap is_lt (place-same leaf.table leaf.table leaf.entry.key e.key refl) ∙ (ap (λ (k : List ℕ). is_below k e.key) (sym low) ∙ climbs.0))

nil-from : (xs : List Leaf) → length xs ≡ 0 → xs ≡ []
nil-from [] e = refl
nil-from (x ∷ xs) e = absurd (omega (arith, e))

rear-none : (slots : List Leaf) (order : List ℕ) (r : ℕ) → length order ≤ suc r → rear slots order r ≡ []
rear-none slots order r end =
    let long = view-long slots order in
    let left = length-drop (suc r) (leaves_at slots order) in
    nil-from (rear slots order r) (omega (arith, end, long, left))

rear-some : (slots : List Leaf) (order : List ℕ) (r : ℕ) → suc r < length order → rear slots order r ≡ nth slots order (suc r) ∷ drop (suc r + 1) (leaves_at slots order)
rear-some slots order r lt =
    let long = view-long slots order in
    drop_more (leaves_at slots order) (suc r) no_leaf (omega (arith, lt, long))
    ∙ ap (λ (l : Leaf). l ∷ drop (suc r + 1) (leaves_at slots order)) (view-at slots order (suc r) no_leaf lt)

behind-here : (slots : List Leaf) (order : List ℕ) (id i r : ℕ) → IsWay slots order → AreHome slots → IsHere slots order id i r → suc r < length order → leaf_behind id (leaves_at slots order) ≡ of_table (leaf_at slots i).table (nth slots order (suc r))
behind-here slots order id i r ix home h lt =
    let named = ap (λ (j : ℕ). (leaf_at slots j).id) h.named ∙ h.slot.named in
    sym (ap (λ (n : ℕ). leaf_behind n (leaves_at slots order)) named)
    ∙ (view-behind slots order r ix home lt ∙ ap (λ (j : ℕ). of_table (leaf_at slots j).table (nth slots order (suc r))) h.named)

-- what stands behind the leaf is above each leaf that ends below it
next-above : (slots : List Leaf) (order : List ℕ) (id i r n : ℕ) (e : Entry) → IsWay slots order → AreHome slots → IsHere slots order id i r → Climbs (e ∷ entry_of (leaf_behind id (leaves_at slots order))) → suc r < length order → is_before (new_leaf (leaf_at slots i).table n e) (nth slots order (suc r)) ≡ true
next-above slots order id i r n e ix home h climbs lt =
    let leaf = leaf_at slots i in
    let next = nth slots order (suc r) in
    elim (cases_eq next.table leaf.table) [
      | inl same ↦
          let own : leaf_behind id (leaves_at slots order) ≡ Some next = behind-here slots order id i r ix home h lt ∙ rw (eq-eqb next.table leaf.table same) refl in
          let up = subst (λ (o : Option Leaf). Climbs (e ∷ entry_of o)) own climbs in
          ap is_lt (place-same leaf.table next.table e.key next.entry.key (sym same)) ∙ up.0
      | inr other ↦
          let rise = ap (λ (j : ℕ). (leaf_at slots j).table) h.named in
          let up = tables-rise slots order r (suc r) ix (omega arith) lt in
          ap is_lt (place-less leaf.table next.table e.key next.entry.key (omega (arith, rise, up, other)))
    ]

rear-above : (slots : List Leaf) (order : List ℕ) (id i r n : ℕ) (e : Entry) → IsWay slots order → AreHome slots → IsHere slots order id i r → Climbs (e ∷ entry_of (leaf_behind id (leaves_at slots order))) → Above (rear slots order r) (new_leaf (leaf_at slots i).table n e)
rear-above slots order id i r n e ix home h climbs = elim (cases_lt (suc r) (length order)) [
  | inr end ↦ subst (λ (ls : List Leaf). Above ls (new_leaf (leaf_at slots i).table n e)) (sym (rear-none slots order r end)) tt
  | inl lt ↦ subst (λ (ls : List Leaf). Above ls (new_leaf (leaf_at slots i).table n e)) (sym (rear-some slots order r lt)) (next-above slots order id i r n e ix home h climbs lt)
]

climbs-tail : (e : Entry) (es : List Entry) → Climbs (e ∷ es) → Climbs es
climbs-tail e [] c = tt
climbs-tail e (f ∷ es) c = c.1

-- ---- the whole step

pub record Step : Type 0 where
  pub serial : ℕ
  pub slots : List Leaf
  pub order : List ℕ
  pub id : ℕ
  pub i : ℕ
  pub r : ℕ
  pub first : Entry
  pub more : List Entry
  pub between : List Leaf
  pub after : List ℕ
  pub sound : IsSound serial slots order
  pub here : IsHere slots order id i r
  pub low : first.key ≡ (leaf_at slots i).entry.key
  pub climbs : Climbs (first ∷ (more ++ entry_of (leaf_behind id (leaves_at slots order))))
  pub added : IsAdded slots order (leaf_at slots i).table serial more between after
  pub last : serial + 1 < 2 ^ 36

abbrev pub it : Step → Leaf
it x = leaf_at x.slots x.i

abbrev pub new : Step → Leaf
new x = new_leaf (it x).table (ids_of x.serial + x.i) x.first

abbrev pub others : Step → List Leaf
others x = numbered (it x).table (ids_of x.serial + length x.slots) x.more

abbrev pub behind : Step → List Leaf
behind x = rear x.slots x.order x.r

abbrev pub ahead : Step → List Leaf
ahead x = fore x.slots x.order x.r

abbrev pub result : Step → List Leaf
result x = slot_changed x.i (λ _. new x) x.between

between-view : (x : Step) → leaves_at x.between x.after ≡ ahead x ++ (it x ∷ (others x ++ behind x))
between-view x =
    let from = ids_of x.serial + length x.slots in
    let s = x.sound in
    let end = entry_of (leaf_behind x.id (leaves_at x.slots x.order)) in
    x.added.in_order
    ∙ (ap (with_leaves (others x)) (whole x.slots x.order x.id x.i x.r x.here ∙ sym (append_assoc (ahead x) (it x ∷ []) (behind x)))
    ∙ (splice (others x) (ahead x ++ it x ∷ []) (behind x) (first-behind x.serial x.slots x.order x.id x.i x.r from x.first x.more end s x.here x.low x.climbs)
    (numbered-chain (it x).table from x.more end (behind x) (λ n e c. rear-above x.slots x.order x.id x.i x.r n e s.way s.home x.here c) (climbs-tail x.first (x.more ++ end) x.climbs))
    ∙ append_assoc (ahead x) (it x ∷ []) (others x ++ behind x)))

few-slots : (x : Step) → length (x.slots ++ others x) ≤ 2 ^ 28
few-slots x = subst (λ (ls : List Leaf). length ls ≤ 2 ^ 28) x.added.slots_are x.added.few

between-home : (x : Step) → AreHome x.between
between-home x = subst AreHome (sym x.added.slots_are) (home-added x.slots (it x).table x.serial x.more x.sound.home (few-slots x))

between-at : (x : Step) (j : ℕ) → j < length x.slots → leaf_at x.between j ≡ leaf_at x.slots j
between-at x j lt = ap (λ (ls : List Leaf). leaf_at ls j) x.added.slots_are ∙ at-left x.slots (others x) j lt

between-slot : (x : Step) → IsSlotOf x.between x.id x.i
between-slot x =
    let h = x.here.slot in
    let long = ap length x.added.slots_are ∙ length-append x.slots (others x) in
    record {
      home = h.home;
      within = omega (arith, h.within, long);
      named = ap (λ (l : Leaf). l.id) (between-at x x.i h.within) ∙ h.named;
    }

pub result-view : (x : Step) → leaves_at (result x) x.after ≡ ahead x ++ (new x ∷ (others x ++ behind x))
result-view x =
    let s = x.sound in
    let h = x.here.slot in
    let change = λ (l : Leaf). new x in
    let low = s.below x.i h.within in
    slot-view x.between x.after x.id x.i change x.added.way (between-home x) (between-slot x)
    ∙ (ap (changed x.id change) (between-view x)
    ∙ changed-between x.id (new x) (it x) (ahead x) (others x) (behind x) h.named
    (unchanged x.id change (ahead x) (fore-ids x.slots x.order x.id x.i x.r s.way s.home x.here))
    (numbered-others (it x).table x.id (ids_of x.serial + length x.slots) x.more change (omega (arith, low, h.named)))
    (unchanged x.id change (behind x) (rear-ids x.slots x.order x.id x.i x.r s.way s.home x.here)))

rank-set : (i : ℕ) (change : Leaf → Leaf) (slots : List Leaf) → i < length slots → place_key (change (leaf_at slots i)) ≡ place_key (leaf_at slots i) → (j : ℕ) → rank_at (slot_changed i change slots) j ≡ rank_at slots j
rank-set i change [] lt keeps j = refl
rank-set zero change (x ∷ slots) lt keeps zero = keeps
rank-set zero change (x ∷ slots) lt keeps (suc j) = refl
rank-set (suc i) change (x ∷ slots) lt keeps zero = refl
rank-set (suc i) change (x ∷ slots) lt keeps (suc j) = rank-set i change slots (omega (arith, lt)) keeps j

same-place : (x : Step) → place_key (new x) ≡ place_key (leaf_at x.between x.i)
same-place x = ap (λ (k : List ℕ). (it x).table ∷ k) x.low ∙ sym (ap place_key (between-at x x.i x.here.slot.within))

pub result-sound : (x : Step) → IsSound (x.serial + 1) (result x) x.after
result-sound x =
    let s = x.sound in
    let change = λ (l : Leaf). new x in
    let long = changed-long x.i change x.between in
    let slot = between-slot x in
    let home = between-home x in
    let few = few-slots x in
    let below = subst (λ (ls : List Leaf). AreBelow (ids_of (x.serial + 1)) ls) (sym x.added.slots_are) (below-added x.slots (it x).table x.serial x.more s.below few) in
    record {
      way = way-alike x.between (result x) x.after long (rank-set x.i change x.between slot.within (same-place x)) x.added.way;
      home = λ j lt. elim (cases_eq j x.i) [
        | inl same ↦
            ap (λ (n : ℕ). home_of (leaf_at (result x) n).id) same
            ∙ (ap (λ (l : Leaf). home_of l.id) (changed-here x.i change x.between slot.within)
            ∙ (home-is x.serial x.i (let f = x.added.few in let w = slot.within in omega (arith, f, w)) ∙ sym same))
        | inr other ↦ ap (λ (l : Leaf). home_of l.id) (changed-elsewhere x.i j change x.between other) ∙ home j (omega (arith, lt, long))
      ];
      below = λ j lt. elim (cases_eq j x.i) [
        | inl same ↦
            let at = ap (λ (n : ℕ). (leaf_at (result x) n).id) same ∙ ap (λ (l : Leaf). l.id) (changed-here x.i change x.between slot.within) in
            let f = x.added.few in
            let w = slot.within in
            omega (arith, at, f, w)
        | inr other ↦
            let at = ap (λ (l : Leaf). l.id) (changed-elsewhere x.i j change x.between other) in
            let b = below j (omega (arith, lt, long)) in
            omega (arith, at, b)
      ];
      few = let f = x.added.few in omega (arith, f, long);
      counted = x.last;
      begins = subst TablesBegin (sym (result-view x))
          (begins-given (ahead x) (new x ∷ others x) (behind x) (it x) (new x) (subst TablesBegin (whole x.slots x.order x.id x.i x.r x.here) s.begins)
          (λ l c. elim (split (new x) l (others x) c) [
            | inl same ↦ sym (ap (λ (m : Leaf). m.table) same)
            | inr o ↦ numbered-table (it x).table (ids_of x.serial + length x.slots) x.more l o
          ])
          (head-in (new x) (others x)) refl x.low);
    }

pub result-given : (x : Step) → (ids : List ℕ) × GaveWay (shown x.serial x.slots x.order) (shown (x.serial + 1) (result x) x.after) x.id (x.first ∷ x.more) ids
result-given x =
    let from = ids_of x.serial + length x.slots in
    let id = ids_of x.serial + x.i in
    let s = x.sound in
    let h = x.here.slot in
    let ids = id ∷ counted from x.more in
    let long = ap length x.added.slots_are ∙ length-append x.slots (others x) in
    let many = numbered-long (it x).table from x.more in
    let f = x.added.few in
    let w = h.within in (
      ids,
      record {
        fresh = record {
          many = ap suc (counted-long from x.more);
          ascend = (omega arith, omega (arith, w, long, f), counted-ascend (id + 1) (ids_of (x.serial + 1)) from x.more (omega (arith, w)) (omega (arith, long, many, f)));
        };
        leaves =
            result-view x
            ∙ (ap (λ (ls : List Leaf). ahead x ++ (new x ∷ (ls ++ behind x))) (numbered-with (it x).table from x.more)
            ∙ (sym (given-at x.id ids (x.first ∷ x.more) (ahead x) (behind x) (it x) (fore-ids x.slots x.order x.id x.i x.r s.way s.home x.here) h.named)
            ∙ ap (given_way x.id ids (x.first ∷ x.more)) (sym (whole x.slots x.order x.id x.i x.r x.here))));
      },
    )

-- ---- from what the call is given

pub record Given : Type 0 where
  pub step : Step
  pub entries : List Entry
  pub later : List Leaf
  pub all : entries ≡ step.first ∷ step.more
  pub later_is : later ≡ result step

given-sound : (g : Given) → IsSound (g.step.serial + 1) g.later g.step.after
given-sound g = subst (λ (ls : List Leaf). IsSound (g.step.serial + 1) ls g.step.after) (sym g.later_is) (result-sound g.step)

given-way : (g : Given) → (ids : List ℕ) × GaveWay (shown g.step.serial g.step.slots g.step.order) (shown (g.step.serial + 1) g.later g.step.after) g.step.id g.entries ids
given-way g =
    let x = g.step in
    subst (λ (ls : List Leaf). (ids : List ℕ) × GaveWay (shown x.serial x.slots x.order) (shown (x.serial + 1) ls x.after) x.id g.entries ids) (sym g.later_is)
    (subst (λ (es : List Entry). (ids : List ℕ) × GaveWay (shown x.serial x.slots x.order) (shown (x.serial + 1) (result x) x.after) x.id es ids) (sym g.all) (result-given x))

given : (serial : ℕ) (slots later : List Leaf) (order after : List ℕ) (id i : ℕ) (es : List Entry) → IsSound serial slots order → IsSlotOf slots id i → TakePlace id es (leaves_at slots order) → IsReplaced slots order i serial es later after → serial + 1 < 2 ^ 36 → Given
given serial slots later order after id i es s slot p t last =
    let at = here slots order id i s.way slot in
    let own = ap (λ (n : ℕ). leaf_named n (leaves_at slots order)) slot.named in
    let same = same_Some p.leaf (leaf_at slots i) (sym p.there ∙ (sym own ∙ named-slot slots order i s.way s.home slot.within)) in
    let low = same_Some t.first.key p.leaf.entry.key (sym (ap first_key t.all) ∙ p.begins) ∙ ap (λ (l : Leaf). l.entry.key) same in
    let end = entry_of (leaf_behind id (leaves_at slots order)) in
    record {
      step = record {
        serial = serial;
        slots = slots;
        order = order;
        id = id;
        i = i;
        r = at.0;
        first = t.first;
        more = t.rest;
        between = t.between;
        after = after;
        sound = s;
        here = at.1;
        low = low;
        climbs = subst (λ (xs : List Entry). Climbs (xs ++ end)) t.all p.climbs;
        added = t.added;
        last = last;
      };
      entries = es;
      later = later;
      all = t.all;
      later_is = t.slots_are;
    }

pub replaced-sound : (serial : ℕ) (slots later : List Leaf) (order after : List ℕ) (id i : ℕ) (es : List Entry) → IsSound serial slots order → IsSlotOf slots id i → TakePlace id es (leaves_at slots order) → IsReplaced slots order i serial es later after → serial + 1 < 2 ^ 36 → IsSound (serial + 1) later after
unfolding given
replaced-sound serial slots later order after id i es s slot p t last = given-sound (given serial slots later order after id i es s slot p t last)

pub replaced-way : (serial : ℕ) (slots later : List Leaf) (order after : List ℕ) (id i : ℕ) (es : List Entry) → IsSound serial slots order → IsSlotOf slots id i → TakePlace id es (leaves_at slots order) → IsReplaced slots order i serial es later after → serial + 1 < 2 ^ 36 → (ids : List ℕ) × GaveWay (shown serial slots order) (shown (serial + 1) later after) id es ids
unfolding given
replaced-way serial slots later order after id i es s slot p t last = given-way (given serial slots later order after id i es s slot p t last)
