use Rattle.std.proofs.Common.{◌≡◌, ℕ, List, [], ◌∷◌, drop, ap, subst, ◌∙◌}
use Rattle.std.specs.List.{HoldsAt}
use Rattle.std.specs.declared.cmp.Ordering.TheVariants.{Equal}
use Rattle.ordered_groups.specs.Groups.{entries}
use Rattle.ordered_groups.specs.Places.{PartsAt, rank}
use Rattle.ordered_groups.specs.declared.Place.{Place}
use Rattle.tree_dir.specs.declared.leaf.Leaf.{Leaf}
use Rattle.tree_dir.specs.Leaves.{Directory, leaves_of}
use Rattle.tree_dir.specs.Order.{rank_order}
use Rattle.tree_dir.specs.Slots.{front_of, leaves_at}
use Rattle.tree_dir.proofs.Index.{place-within, rises}
use Rattle.tree_dir.proofs.Walking.{from_end, from_place}
use Rattle.tree_dir.proofs.dir.Dir.leaves_of.Goals as goal
use Rattle.tree_dir.proofs.dir.Dir.leaves_of.Goals.{in-Ok, in-Err}

pub returns : goal.returns
returns c =
    let slots = c.self.inside.slots.items in
    let gs = c.self.inside.order in
    let order = entries gs in
    let table = c.args.table in
    let seen = c.over.ensures ∙ (ap (λ (l : List Leaf). front_of table (leaves_at l c.walk.result)) c.deref-2.ensures.value ∙ ap (λ (l : List ℕ). front_of table (leaves_at slots l)) c.walk.ensures) in
    let own = ap (λ (d : Directory). leaves_of table d.leaves) c.self.view_is in
    seen ∙ (elim c.match-place_of.branch [
      | in-Ok w ↦
          let p = w.in-Ok.place in
          ap (λ (q : Place). front_of table (leaves_at slots (drop (rank gs q) order))) w.place-is
          ∙ from_place slots order table c.self.invariant.way (rank gs p) (place-within gs p w.in-Ok.ensures.place)
          (subst (λ (l : List Leaf). HoldsAt (λ y. rank_order l (table ∷ []) y ≡ Equal) order (rank gs p)) c.deref.ensures.value w.in-Ok.ensures.found)
      | in-Err w ↦
          let p = w.in-Err.field-0 in
          ap (λ (q : Place). front_of table (leaves_at slots (drop (rank gs q) order))) w.place-is
          ∙ (ap (λ (n : ℕ). front_of table (leaves_at slots (drop n order))) w.end-place.ensures.rank
          ∙ from_end slots order table c.self.invariant.way (rank gs p)
          (subst (λ (l : List Leaf). PartsAt (rank_order l (table ∷ [])) order (rank gs p)) c.deref.ensures.value w.in-Err.ensures.found (rises slots order (table ∷ []) c.self.invariant.way)) c.self.invariant.begins)
    ] ∙ own)
