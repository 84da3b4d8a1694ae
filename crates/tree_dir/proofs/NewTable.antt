-- A directory with one more table.
use Rattle.std.proofs.Common.{◌≡◌, ◌≢◌, ℕ, ◌+◌, ◌^◌, ◌<◌, ◌≤◌, List, [], ◌∷◌, ◌++◌, length, length-append, Some, refl, sym, ap, subst, ◌∙◌, append_assoc, arith}
use Rattle.std.specs.List.{All}
use Rattle.std.proofs.lemmas.Option.{same_Some}
use Rattle.stored.specs.TableTree.{Climbs, Entry, first_key}
use Rattle.tree_dir.specs.declared.leaf.Leaf.{Leaf}
use Rattle.tree_dir.specs.Added.{IsAdded, ids_of}
use Rattle.tree_dir.specs.Leaves.{AreTable, HasTable, leaves_with, TablesBegin}
use Rattle.tree_dir.specs.Order.{with_leaves}
use Rattle.tree_dir.specs.Slots.{leaves_at, new_leaf, numbered}
use Rattle.tree_dir.specs.Sound.{AreBelow, AreHome, IsSound}
use Rattle.tree_dir.proofs.Members.{begins-spliced, head-in}
use Rattle.tree_dir.proofs.NewIds.{below-added, counted, counted-ascend, counted-long, home-added, numbered-table, numbered-with}
use Rattle.tree_dir.proofs.NewLeaves.{numbered-long}
use Rattle.tree_dir.proofs.Splicing.{BeforeFirst, greater, greater-above, lower, lower-before, numbered-chain, parted, splice}
use Rattle.tree_dir.proofs.Standing.{shown, stands}

append-nil : (es : List Entry) → es ++ [] ≡ es
append-nil [] = refl
append-nil (e ∷ es) = ap (λ (xs : List Entry). e ∷ xs) (append-nil es)

first-of-lower : (table id : ℕ) (es : List Entry) (leaves : List Leaf) → BeforeFirst (lower table leaves) (numbered table id es)
first-of-lower table id [] leaves = tt
first-of-lower table id (e ∷ es) leaves = lower-before table leaves (new_leaf table id e) refl

pub table-spliced : (serial table : ℕ) (slots later : List Leaf) (order after : List ℕ) (es : List Entry) → IsSound serial slots order → All (λ l. l.table ≢ table) (leaves_at slots order) → Climbs es → IsAdded slots order table serial es later after →
    leaves_at later after ≡ lower table (leaves_at slots order) ++ (numbered table (ids_of serial + length slots) es ++ greater table (leaves_at slots order))
table-spliced serial table slots later order after es s none climbs a =
    let old = leaves_at slots order in
    let new = numbered table (ids_of serial + length slots) es in
    a.in_order
    ∙ (ap (with_leaves new) (parted table old (stands serial slots order s).ascends none)
    ∙ splice new (lower table old) (greater table old) (first-of-lower table (ids_of serial + length slots) es old)
    (numbered-chain table (ids_of serial + length slots) es [] (greater table old) (λ i e c. greater-above table old (new_leaf table i e) refl) (subst Climbs (sym (append-nil es)) climbs)))

table-begins : (table id : ℕ) (xs ys : List Leaf) (es : List Entry) → first_key es ≡ Some [] → TablesBegin (xs ++ ys) → TablesBegin (xs ++ (numbered table id es ++ ys))
table-begins table id xs ys [] first begins = absurd cc
table-begins table id xs ys (e ∷ es) first begins =
    begins-spliced xs (numbered table id (e ∷ es)) ys table (new_leaf table id e) begins (numbered-table table id (e ∷ es)) (head-in (new_leaf table id e) (numbered table (id + 1) es)) (refl, same_Some e.key [] first)

pub table-sound : (serial table : ℕ) (slots later : List Leaf) (order after : List ℕ) (es : List Entry) → IsSound serial slots order → All (λ l. l.table ≢ table) (leaves_at slots order) → AreTable es → IsAdded slots order table serial es later after → serial + 1 < 2 ^ 36 → IsSound (serial + 1) later after
table-sound serial table slots later order after es s none t a last =
    let old = leaves_at slots order in
    let id = ids_of serial + length slots in
    let few = subst (λ (ls : List Leaf). length ls ≤ 2 ^ 28) a.slots_are a.few in
    record {
      way = a.way;
      home = subst (λ (ls : List Leaf). AreHome ls) (sym a.slots_are) (home-added slots table serial es s.home few);
      below = subst (λ (ls : List Leaf). AreBelow (ids_of (serial + 1)) ls) (sym a.slots_are) (below-added slots table serial es s.below few);
      few = a.few;
      counted = last;
      begins = subst TablesBegin (sym (table-spliced serial table slots later order after es s none t.climbs a))
          (table-begins table id (lower table old) (greater table old) es t.begins (subst TablesBegin (parted table old (stands serial slots order s).ascends none) s.begins));
    }

pub table-added : (serial table : ℕ) (slots later : List Leaf) (order after : List ℕ) (es : List Entry) → IsSound serial slots order → All (λ l. l.table ≢ table) (leaves_at slots order) → Climbs es → IsAdded slots order table serial es later after → (ids : List ℕ) × HasTable (shown serial slots order) (shown (serial + 1) later after) table es ids
table-added serial table slots later order after es s none climbs a =
    let old = leaves_at slots order in
    let id = ids_of serial + length slots in
    let new = numbered table id es in
    let long = ap length a.slots_are ∙ length-append slots new in
    let many = numbered-long table id es in (
      counted id es,
      record {
        fresh = record { many = counted-long id es; ascend = counted-ascend (ids_of serial) (ids_of (serial + 1)) id es (omega arith) (omega (arith, long, many, a.few)) };
        leaves =
            table-spliced serial table slots later order after es s none climbs a
            ∙ (ap (λ (ls : List Leaf). lower table old ++ (ls ++ greater table old)) (numbered-with table id es)
            ∙ sym (append_assoc (lower table old) (leaves_with table (counted id es) es) (greater table old)));
      },
    )
