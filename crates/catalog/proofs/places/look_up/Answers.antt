use Rattle.std.proofs.Common.{◌≡◌, ◌<◌, ◌∙◌, List, get_or, length, false, sym, ap, subst, arith}
use Rattle.std.specs.Prelude.{bytes_eq}
use Rattle.std.proofs.lemmas.List.{length-map}
use Rattle.kv_model.specs.History.{Table}
use Rattle.catalog.specs.Known.{by_name}
use Rattle.catalog.specs.Order.{SplitsAt, table_at}
use Rattle.catalog.proofs.Distinct.{place_there, place_nowhere}
use Rattle.catalog.proofs.Splitting.{named_nowhere, mapped_or, place_at}
use Rattle.catalog.proofs.Sorting.{sorted_none}
use Rattle.catalog.proofs.places.look_up.Goals as goal
use Rattle.catalog.proofs.places.look_up.Goals.{else-i-places-via-then-i-places+else-has_name, else-i-places-via-else-i-places}

pub returns-then-has_name : goal.returns-then-has_name
returns-then-has_name c =
    let lt = place_at (length c.args.tables.now) c.args.places.now c.first_not_below-i.result c.requires.order.within c.if-i-places.true in
    (place_there c.args.name.now c.args.tables.now (get_or c.args.places.now c.first_not_below-i.result 0) c.requires.distinct lt (sym c.has_name.ensures ∙ c.if-has_name.true), lt)

pub returns : goal.returns
returns c =
    let i = c.first_not_below-i.result in
    let tables = c.args.tables.now in
    let name = c.args.name.now in
    let splits : SplitsAt (by_name tables) name i = subst (λ (l : List Table). SplitsAt l name i) c.requires.order.sorted c.first_not_below-i.ensures in
    let other : (d : Table) → i < length (by_name tables) → bytes_eq (get_or (by_name tables) i d).name name ≡ false = elim c.else-i-places.branch [
      | else-i-places-via-then-i-places+else-has_name w ↦ (λ d lt. subst (λ (l : List Table). bytes_eq (get_or l i d).name name ≡ false) c.requires.order.sorted
          (ap (λ (t : Table). bytes_eq t.name name) (mapped_or (table_at tables) c.args.places.now i d w.if-i-places.true) ∙ sym w.has_name.ensures ∙ w.if-has_name.false))
      | else-i-places-via-else-i-places w ↦ (λ d lt. absurd (omega (arith, w.if-i-places.false, lt, ap length c.requires.order.sorted, length-map c.args.places.now (table_at tables))))
    ] in
    (place_nowhere name tables (sorted_none name tables (named_nowhere (by_name tables) name i c.requires.order.ascend splits other)), splits)
