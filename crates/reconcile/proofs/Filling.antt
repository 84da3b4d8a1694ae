-- A leaf that is gathered row by row.
use Rattle.std.proofs.Common.{◌≡◌, ◌≢◌, ◌+◌, ◌<◌, ◌≤◌, ◌∙◌, ℕ, false, List, [], ◌∷◌, ◌++◌, length, ap, sym, subst, arith}
use Rattle.std.specs.Prelude.{max, slice_get}
use Rattle.std.specs.Option.{option_to_list}
use Rattle.std.proofs.lemmas.Bool.{false≢true}
use Rattle.std.proofs.lemmas.List.{append-nil, length-append, map-append}
use Rattle.std.proofs.lemmas.List.Concat.{flat_map-append}
use Rattle.stamp.specs.declared.Name.{Name}
use Rattle.row_page.specs.Greatest.{durables_of, greatest_in, most_in, names_of}
use Rattle.stamp.specs.Order.{later}
use Rattle.row_page.specs.Rows.{Row, cell, cells}
use Rattle.row_page.specs.Writing.{Written, Wrote, size_with}
use Rattle.row_page.proofs.Greater.{greatest_push, most_push}
use Rattle.leaf_rows.specs.Rows.{image_length}
use Rattle.snapshot.specs.Sight.{Sight}
use Rattle.leaf_chains.specs.declared.slot.KeyChain.{KeyChain}
use Rattle.reconcile.specs.declared.gathered.Gathered.{Gathered}
use Rattle.reconcile.specs.Gathered.{HasGathered, rows_of, slots_at}
use Rattle.reconcile.proofs.Gathering.{rows_next}

-- ---- how long their image is

cells_both : (rows others : List Row) → length (cells (rows ++ others)) ≡ length (cells rows) + length (cells others)
cells_both rows others = ap (λ (b : List ℕ). length b) (flat_map-append cell rows others) ∙ length-append (cells rows) (cells others)

-- rows and others behind them
pub longer : (rows others : List Row) → image_length rows ≤ image_length (rows ++ others)
longer rows others = omega (arith, cells_both rows others)

-- what a writer counts with one row more
pub size_more : (w : Written) (rows : List Row) (r : Row) → Wrote w rows → size_with w r ≡ image_length (rows ++ r ∷ [])
size_more w rows r h = omega (arith, ap length h.text, cells_both rows (r ∷ []), ap length (append-nil (cell r)))

-- ---- one row more

some_behind : (rows : List Row) (r : Row) → rows ++ r ∷ [] ≢ []
some_behind [] r none = cc
some_behind (q ∷ rows) r none = cc

pub gathered_more : (g : Gathered) (w : Written) (greatest : Name) (durable : ℕ) (r : Row) → size_with g.writer r ≤ g.writer.limit → w.limit ≡ g.writer.limit → ((rows : List Row) → Wrote g.writer rows → Wrote w (rows ++ r ∷ []))
    → greatest ≡ later g.greatest r.1.window.name → durable ≡ max g.durable r.1.window.durable → (rows : List Row) → HasGathered g rows → HasGathered (record { writer = w; greatest = greatest; durable = durable; is_empty = false }) (rows ++ r ∷ [])
gathered_more g w greatest durable r room limit wrote name stamp rows h = record {
  wrote = wrote rows h.wrote;
  limit = limit ∙ h.limit;
  small = omega (arith, room, h.limit, size_more g.writer rows r h.wrote);
  greatest =
      name
      ∙ (ap (λ (n : Name). later n r.1.window.name) h.greatest
      ∙ (sym (greatest_push (names_of rows) r.1.window.name) ∙ ap greatest_in (sym (map-append {A = Row} (λ x. x.1.window.name) rows (r ∷ [])))));
  durable =
      stamp
      ∙ (ap (λ (n : ℕ). max n r.1.window.durable) h.durable
      ∙ (sym (most_push (durables_of rows) r.1.window.durable) ∙ ap most_in (sym (map-append {A = Row} (λ x. x.1.window.durable) rows (r ∷ [])))));
  empty = (λ is. absurd (false≢true is), λ none. absurd (some_behind rows r none));
}

-- ---- along a way

-- the rows up to here are gathered, and with those along the rest of the way they are all
pub record GatheredTo (s : Sight) (slots : List KeyChain) (way : List ℕ) (all : List Row) (g : Gathered) : Type 0 where
  pub rows : List Row
  pub has : HasGathered g rows
  pub whole : rows ++ rows_of s (slots_at slots way) ≡ all

-- those of the next slot have room
pub gathered_next : (s : Sight) (slots : List KeyChain) (i : ℕ) (way : List ℕ) (all : List Row) (g g' : Gathered) (to : GatheredTo s slots (i ∷ way) all g)
    → HasGathered g' (to.rows ++ rows_of s (option_to_list (slice_get slots i))) → GatheredTo s slots way all g'
gathered_next s slots i way all g g' to has = record { rows = to.rows ++ rows_of s (option_to_list (slice_get slots i)); has = has; whole = rows_next s slots i way to.rows ∙ to.whole }

-- they have none, and so have all
pub gathered_over : (s : Sight) (slots : List KeyChain) (i : ℕ) (way : List ℕ) (all : List Row) (g : Gathered) (to : GatheredTo s slots (i ∷ way) all g)
    → 32768 < image_length (to.rows ++ rows_of s (option_to_list (slice_get slots i))) → 32768 < image_length all
gathered_over s slots i way all g to over =
    let long : 32768 < image_length ((to.rows ++ rows_of s (option_to_list (slice_get slots i))) ++ rows_of s (slots_at slots way)) =
    omega (arith, over, longer (to.rows ++ rows_of s (option_to_list (slice_get slots i))) (rows_of s (slots_at slots way))) in
    subst (λ (l : List Row). 32768 < image_length l) (rows_next s slots i way to.rows ∙ to.whole) long

-- no slot is left
pub gathered_all : (s : Sight) (slots : List KeyChain) (all : List Row) (g : Gathered) → GatheredTo s slots [] all g → HasGathered g all
gathered_all s slots all g to = subst (HasGathered g) (sym (append-nil to.rows) ∙ to.whole) to.has
