use Rattle.std.proofs.Common.{◌≡◌, ◌&&◌, ◌||◌, ◌==◌, ℕ, Bool, true, false, nat_lt, nat_le, not, List, [], ◌∷◌, refl, ap, ◌∙◌, inl, inr}
use Rattle.std.specs.List.{list_any}
use Rattle.std.proofs.lemmas.Bool.{cases_Bool}
use Rattle.stamp.specs.declared.version.Window.{Window}
use Rattle.row_page.specs.Rows.{Row}
use Rattle.leaf_rows.specs.declared.marks.Marks.{Marks}
use Rattle.leaf_rows.specs.Contents.{is_kept_row, is_seen_row, kept_rows, seen_rows}
use Rattle.engine_start.specs.ContentLaws.{SeenStay}
use Rattle.engine_start.specs.Contents.{TableLeaf, kept_leaves, seen_leaf, seen_leaves}
use Rattle.engine_start.proofs.laws.seen_stay.Goals as goal

-- an id that is not listed is seen where none is listed
fewer : (old same below early listed late : Bool) → ((old || (same && (below || (early && not listed)))) && late) ≡ true → ((old || (same && (below || (early && true)))) && late) ≡ true
fewer true same below early listed late is = is
fewer false true true early listed late is = is
fewer false true false true listed true is = refl
fewer false true false true true false is = cc
fewer false true false true false false is = is
fewer false true false false listed late is = is
fewer false false below early listed late is = is

row_kept : (m : Marks) (ids : List ℕ) (r : Row) → is_seen_row m ids r ≡ true → is_kept_row m r ≡ true
row_kept m ids r is =
    let w : Window = r.1.window in
    fewer (nat_lt w.name.run m.run) (w.name.run == m.run) (nat_lt w.name.id m.min) (nat_lt w.name.id m.max) (list_any (λ n. n == w.name.id) ids) ((m.stable == 0) || nat_le w.durable m.stable) is

rows_stay : (m : Marks) (ids : List ℕ) (rows : List Row) → kept_rows m (seen_rows m ids rows) ≡ seen_rows m ids rows
rows_stay m ids [] = refl
rows_stay m ids (r ∷ rows) = elim (cases_Bool (is_seen_row m ids r)) [
  | inl is ↦ rw (is, row_kept m ids r is) (ap (λ (l : List Row). r ∷ l) (rows_stay m ids rows))
  | inr isnt ↦ rw isnt (rows_stay m ids rows)
]

leaves_stay : SeenStay
leaves_stay m ids [] = refl
leaves_stay m ids (l ∷ leaves) =
    ap (λ (rows : List Row). record { table = l.table; rows = rows } ∷ kept_leaves m (seen_leaves m ids leaves)) (rows_stay m ids l.rows)
    ∙ ap (λ (rest : List TableLeaf). seen_leaf m ids l ∷ rest) (leaves_stay m ids leaves)

pub returns : goal.returns
returns c = leaves_stay
