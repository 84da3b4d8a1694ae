-- The slots and the order of a directory give what every directory keeps.
use Rattle.std.proofs.Common.{ℕ, ◌*◌, ◌<◌, ◌^◌, List, length, get_or, sym, ap, subst, ◌∙◌, arith}
use Rattle.std.specs.Ordering.{is_lt}
use Rattle.tree_dir.specs.declared.leaf.Leaf.{Leaf}
use Rattle.tree_dir.specs.Leaves.{Directory, IsDirectory, is_before}
use Rattle.tree_dir.specs.Slots.{leaves_at}
use Rattle.tree_dir.specs.Sound.{IsSound}
use Rattle.tree_dir.proofs.SlotLemmas.{view-at, view-long, view-slot}
use Rattle.tree_dir.proofs.LastLeaves.{order-few}
use Rattle.tree_dir.proofs.ViewLemmas.{ids-once, nth, places-rise}

abbrev pub shown : ℕ → List Leaf → List ℕ → Directory
shown serial slots order = record { next = serial * 2 ^ 28; leaves = leaves_at slots order }

pub stands : (serial : ℕ) (slots : List Leaf) (order : List ℕ) → IsSound serial slots order → IsDirectory (shown serial slots order)
stands serial slots order s =
    let long = view-long slots order in
    record {
      below = λ k d lt.
          let within : k < length order = omega (arith, lt, long) in
          subst (λ (l : Leaf). l.id < serial * 2 ^ 28) (sym (view-at slots order k d within)) (s.below (get_or order k 0) (view-slot slots order k s.way within));
      once = λ i j d lt le e.
          let within : j < length order = omega (arith, le, long) in
          ids-once slots order i j s.way s.home lt within
          (sym (ap (λ (l : Leaf). l.id) (view-at slots order i d (omega (arith, lt, within)))) ∙ (e ∙ ap (λ (l : Leaf). l.id) (view-at slots order j d within)));
      ascends = λ i j d lt le.
          let within : j < length order = omega (arith, le, long) in
          ap (λ (l : Leaf). is_before l (get_or (leaves_at slots order) j d)) (view-at slots order i d (omega (arith, lt, within)))
          ∙ (ap (is_before (nth slots order i)) (view-at slots order j d within) ∙ ap is_lt (places-rise slots order i j s.way lt within));
      begins = s.begins;
      few = let most = order-few slots order s.way in omega (arith, long, most, s.few);
    }
