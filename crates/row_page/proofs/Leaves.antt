-- The rows of a leaf have one spelling, also where zeros fill it up.
use Rattle.std.proofs.Common.{◌≡◌, ℕ, ◌+◌, ◌*◌, ◌≤◌, List, [], ◌∷◌, ◌++◌, length, Option, Some, None, refl, sym, ap, ◌∙◌, arith}
use Rattle.std.specs.List.{AllByRecursion}
use Rattle.std.proofs.lemmas.List.{length-append}
use Rattle.le_codec.specs.Combine.{Chained}
use Rattle.le_codec.specs.Images.{first_format}
use Rattle.le_codec.specs.Images.{padded, block_size}
use Rattle.le_codec.proofs.Laws.{length_8, length_16, length_32, length_64}
use Rattle.le_codec.proofs.Combined.{one_value}
use Rattle.le_codec.proofs.Heads.{length-framed, same_framed}
use Rattle.row_page.specs.Rows.{Row, cell, cells, key_most, value_of, RowFits, key_of, Ascends, AreRows, image, IsPage}
use Rattle.row_page.proofs.Fields.{After, rows_field}

pub length-cell : (r : Row) → length (cell r) ≡ 39 + length r.0 + length (value_of r.1.change)
length-cell r = simp (length-append, length_8, length_16, length_32, length_64) (omega arith)

pub count_upto : (rows : List Row) → 39 * length rows ≤ length (cells rows)
count_upto [] = omega arith
count_upto (r ∷ rows) = omega (arith, count_upto rows, length-append (cell r) (cells rows), length-cell r)

pub length-image : (rows : List Row) → length (image rows) ≡ 16 + length (cells rows)
length-image rows = length-framed 1 first_format (length rows) 0 (cells rows)

-- a chain of rows is a list that fits and ascends
pub chained : (before : Option (List ℕ)) (rows : List Row) → AllByRecursion (λ (r : Row). RowFits [] key_most r) rows → Ascends before rows → Chained (After [] key_most) key_of before rows
chained before [] fit ascend = tt
chained before (r ∷ rows) fit ascend = ((fit.0, ascend.0), chained (Some r.0) rows fit.1 ascend.1)

-- two leaves that are filled up to the same bytes have the same rows
pub leaf_exact : (size other : ℕ) (p q : List Row) → AreRows p → AreRows q → padded (image p) size ≡ padded (image q) other → p ≡ q
leaf_exact size other p q hp hq same =
    let both = same_framed 1 first_format 0 0 (length p) (length q) (cells p) (cells q) size other (omega arith) (omega arith) (omega arith) (omega arith) (omega (arith, count_upto p, hp.size)) (omega (arith, count_upto q, hq.size)) (omega (arith, hp.size)) (omega (arith, hq.size)) same in
    let texts : cells p ++ [] ≡ cells q ++ [] = ap (λ (l : List ℕ). l ++ []) both.2 in
    (one_value (rows_field [] key_most (omega arith) (length p) None) p q [] [] (refl, chained None p hp.fit hp.ascend) (sym both.0, chained None q hq.fit hq.ascend) texts).0

-- the bytes of a block are those of one leaf
pub one_page : (bytes : List ℕ) (p q : List Row) → IsPage bytes p → IsPage bytes q → p ≡ q
one_page bytes p q hp hq = leaf_exact (block_size (length (image p))) (block_size (length (image q))) p q hp.admitted hq.admitted (sym hp.spelled ∙ hq.spelled)
