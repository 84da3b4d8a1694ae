-- A leaf that is read from its block is in the grammar, and what is in the grammar is read.
use Rattle.std.proofs.Common.{◌≡◌, ℕ, ◌≤◌, Bool, true, false, cond, List, [], ◌∷◌, ◌++◌, length, Option, Some, None, refl, sym, ap, subst, ◌∙◌, arith}
use Rattle.std.specs.Prelude.{◌&&◌, ◌==◌, nat_le}
use Rattle.std.specs.List.{AllByRecursion}
use Rattle.std.proofs.lemmas.Bool.{eqb-true, leb-true, le-leb}
use Rattle.std.proofs.lemmas.Option.{cond_some}
use Rattle.std.proofs.lemmas.List.{append-nil, nil_from_length}
use Rattle.le_codec.specs.Fields.{IsBytes}
use Rattle.le_codec.specs.Images.{first_format}
use Rattle.le_codec.specs.Combine.{Chained}
use Rattle.le_codec.specs.Images.{framed, block_of, block_size, HoldsImage}
use Rattle.le_codec.proofs.Laws.{bind_some}
use Rattle.le_codec.proofs.Heads.{same_framed}
use Rattle.row_page.specs.Rows.{Row, cells, key_most, RowFits, key_of, Ascends, AreRows, image, IsPage}
use Rattle.row_page.specs.Reading.{read_rows, leaf_at}
use Rattle.row_page.proofs.Fields.{After, rows_field}
use Rattle.row_page.proofs.Leaves.{chained, count_upto}

nothing_some : {A : Type 0} {x : A} → None ≡ Some x → ⊥
nothing_some e = absurd cc

and_is : (b c : Bool) → (b && c) ≡ true → (b ≡ true) × (c ≡ true)
and_is true c e = (refl, e)
and_is false c e = absurd cc

all_fit : (before : Option (List ℕ)) (rows : List Row) → Chained (After [] key_most) key_of before rows → AllByRecursion (λ (r : Row). RowFits [] key_most r) rows
all_fit before [] h = tt
all_fit before (r ∷ rows) h = (h.0.0, all_fit (Some r.0) rows h.1)

ascend : (before : Option (List ℕ)) (rows : List Row) → Chained (After [] key_most) key_of before rows → Ascends before rows
ascend before [] h = tt
ascend before (r ∷ rows) h = (h.0.1, ascend (Some r.0) rows h.1)

-- what a leaf's count, level and text say
pub record Says (count level : ℕ) (text : List ℕ) (rows : List Row) : Type 0 where
  pub admitted : AreRows rows
  pub count_is : count ≡ length rows
  pub level_is : level ≡ 0
  pub text_is : text ≡ cells rows

pub leaf_takes : (count level : ℕ) (text : List ℕ) (rows : List Row) → IsBytes text → leaf_at count level text ≡ Some rows → Says count level text rows
leaf_takes count level text rows fits e =
    let a = bind_some (read_rows count text) (λ x. cond ((level == 0) && (length x.1 == 0) && nat_le (length text) 32752) (Some x.0) None) rows e in
    let g = cond_some ((level == 0) && (length a.0.1 == 0) && nat_le (length text) 32752) a.0.0 rows a.2 in
    let h = and_is ((level == 0) && (length a.0.1 == 0)) (nat_le (length text) 32752) g.0 in
    let k = and_is (level == 0) (length a.0.1 == 0) h.0 in
    let t = (rows_field [] key_most (omega arith) count None).takes text a.0.0 a.0.1 fits a.1 in
    let nothing : a.0.1 ≡ [] = nil_from_length a.0.1 (eqb-true _ _ k.1) in
    let whole : text ≡ cells a.0.0 = t.0.parts ∙ ap (λ (l : List ℕ). cells a.0.0 ++ l) nothing ∙ append-nil (cells a.0.0) in
    let small : length text ≤ 32752 = leb-true _ _ h.1 in
    let ok : AreRows a.0.0 = record { fit = all_fit None a.0.0 t.1.1; ascend = ascend None a.0.0 t.1.1; size = omega (arith, ap length whole, small) } in
    subst (λ (r : List Row). Says count level text r) g.1 (record { admitted = ok; count_is = sym t.1.0; level_is = eqb-true _ _ k.0; text_is = whole })

pub leaf_again : (rows : List Row) → AreRows rows → leaf_at (length rows) 0 (cells rows) ≡ Some rows
leaf_again rows ok =
    let all : read_rows (length rows) (cells rows) ≡ Some (rows, []) = ap (read_rows (length rows)) (sym (append-nil (cells rows))) ∙ (rows_field [] key_most (omega arith) (length rows) None).again rows [] (refl, chained None rows ok.fit ok.ascend) in
    let small : nat_le (length (cells rows)) 32752 ≡ true = le-leb _ _ (omega (arith, ok.size)) in
    rw (all, small) refl

-- a block's image says the rows
pub page_takes : (block : List ℕ) (count level : ℕ) (text : List ℕ) (rows : List Row) → block ≡ block_of (framed 1 first_format count level text) → Says count level text rows → IsPage block rows
page_takes block count level text rows is s = record {
  admitted = s.admitted;
  spelled = is ∙ ap (λ (n : ℕ). block_of (framed 1 first_format n level text)) s.count_is ∙ ap (λ (n : ℕ). block_of (framed 1 first_format (length rows) n text)) s.level_is ∙ ap (λ (l : List ℕ). block_of (framed 1 first_format (length rows) 0 l)) s.text_is;
}

-- what a leaf's image says
says_image : (block : List ℕ) (rows : List Row) → IsPage block rows → HoldsImage 1 first_format block (length rows) 0 (cells rows)
says_image block rows page = record { spelled = page.spelled; count_fits = omega (arith, count_upto rows, page.admitted.size); level_fits = omega arith; text_fits = omega (arith, page.admitted.size) }

-- no image: no leaf
pub no_image : (block : List ℕ) → ((count level : ℕ) (text : List ℕ) → HoldsImage 1 first_format block count level text → ⊥) → (rows : List Row) → IsPage block rows → ⊥
no_image block none rows page = none (length rows) 0 (cells rows) (says_image block rows page)

-- an image that says no rows: no leaf
pub no_rows : (block : List ℕ) (count level : ℕ) (text : List ℕ) → HoldsImage 1 first_format block count level text → None ≡ leaf_at count level text → (rows : List Row) → IsPage block rows → ⊥
no_rows block count level text h given rows page =
    let k = says_image block rows page in
    let s = same_framed 1 first_format level 0 count (length rows) text (cells rows) (block_size (length (framed 1 first_format count level text))) (block_size (length (image rows))) (omega arith) (omega arith) h.level_fits k.level_fits h.count_fits k.count_fits h.text_fits k.text_fits (sym h.spelled ∙ k.spelled) in
    let same : leaf_at count level text ≡ Some rows = ap (λ (n : ℕ). leaf_at n level text) s.0 ∙ ap (λ (n : ℕ). leaf_at (length rows) n text) s.1 ∙ ap (λ (l : List ℕ). leaf_at (length rows) 0 l) s.2 ∙ leaf_again rows page.admitted in
    nothing_some (given ∙ same)
