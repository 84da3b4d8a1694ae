-- Reading a row, as code does.
use Rattle.std.proofs.Common.{◌≡◌, ℕ, ◌+◌, true, cond, List, [], ◌∷◌, ◌++◌, take, Option, Some, None, refl, sym, ap, subst, ◌∙◌}
use Rattle.std.specs.Prelude.{slice_get, IsSome}
use Rattle.std.specs.Ordering.{nat_cmp, is_eq}
use Rattle.std.specs.Cmp.Lexicographic.{slice_cmp}
use Rattle.std.specs.declared.cmp.Ordering.TheVariants.{Equal}
use Rattle.std.proofs.lemmas.Map.Text.{is_eq-slice_cmp}
use Rattle.std.proofs.lemmas.Slice.Eq.{bytes_eq-Decides}
use Rattle.std.proofs.lemmas.List.{take_more}
use Rattle.std.proofs.lemmas.Option.{cond_some, slice_get_within, get_or_from_slice_get}
use Rattle.le_codec.specs.Fields.{◌>>=◌, Gives}
use Rattle.le_codec.specs.Combine.{try_at}
use Rattle.le_codec.proofs.Laws.{bind_some, some_is}
use Rattle.row_page.specs.Rows.{Row, comes_after, key_most}
use Rattle.row_page.specs.Reading.{cell_at, row_at}

nothing_some : {A : Type 0} {x : A} → None ≡ Some x → ⊥
nothing_some e = absurd cc

-- a row that comes after a key is a cell that does
pub ordered : (before : Option (List ℕ)) (bytes : List ℕ) (r : Row) (rest : List ℕ) → row_at [] key_most before bytes ≡ Some (r, rest) → (cell_at [] key_most bytes ≡ Some (r, rest)) × (comes_after before r.0 ≡ true)
unfolding row_at try_at
ordered before bytes r rest e =
    let a = bind_some (cell_at [] key_most bytes) (λ x. (cond (comes_after before x.0.0) (Some x.0) None) >>= λ b. Some (b, x.1)) (r, rest) e in
    let b = bind_some (cond (comes_after before a.0.0.0) (Some a.0.0) None) (λ b. Some (b, a.0.1)) (r, rest) a.2 in
    let g = cond_some (comes_after before a.0.0.0) a.0.0 b.0 b.1 in
    let same = some_is (b.0, a.0.1) (r, rest) b.2 in
    let row : a.0.0 ≡ r = g.1 ∙ ap (λ (p : Row × List ℕ). p.0) same in
    let left : a.0.1 ≡ rest = ap (λ (p : Row × List ℕ). p.1) same in
    (a.1 ∙ ap (λ (x : Row). Some (x, a.0.1)) row ∙ ap (λ (l : List ℕ). Some (r, l)) left, subst (λ (x : Row). comes_after before x.0 ≡ true) row g.0)

pub gives_some : {X Y : Type 0} (view : X → Y) (r : Option X) (left : List ℕ) (read : Option (Y × List ℕ)) (y : Y) (after : List ℕ) → Gives view r left read → read ≡ Some (y, after) → IsSome r × (left ≡ after)
gives_some {Y = Y} view (Some x) left read y after given is = (refl, ap (λ (p : Y × List ℕ). p.1) (some_is (view x, left) (y, after) (sym given ∙ is)))
gives_some {Y = Y} view None left read y after given is = absurd (nothing_some (sym given ∙ is))

pub gives_view : {X Y : Type 0} (view : X → Y) (r : Option X) (x : X) (left : List ℕ) (read : Option (Y × List ℕ)) (y : Y) (after : List ℕ) → r ≡ Some x → Gives view r left read → read ≡ Some (y, after) → y ≡ view x
gives_view {X = X} {Y = Y} view r x left read y after at given is =
    let told : Gives view (Some x) left read = subst (λ (o : Option X). Gives view o left read) at given in
    let same = some_is (view x, left) (y, after) (sym told ∙ is) in
    sym (ap (λ (p : Y × List ℕ). p.0) same)

-- the first rows, and the next
pub take_next : (i : ℕ) (rows : List Row) (r : Row) → slice_get rows i ≡ Some r → take (i + 1) rows ≡ take i rows ++ r ∷ []
take_next i rows r e =
    let lt = slice_get_within rows i r e in
    take_more rows i r lt ∙ ap (λ (x : Row). take i rows ++ x ∷ []) (get_or_from_slice_get rows i r r e)

pub equal_is : (x y : List ℕ) → slice_cmp nat_cmp x y ≡ Equal → x ≡ y
equal_is x y e = (bytes_eq-Decides x y).0 (sym (is_eq-slice_cmp x y) ∙ ap is_eq e)
