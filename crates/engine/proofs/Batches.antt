-- A row more in a batch.
use Rattle.std.proofs.Common.{◌≡◌, ◌≤◌, ◌+◌, ◌-◌, ℕ, zero, suc, refl, ap, sym, ◌∙◌, List, [], ◌∷◌, ◌++◌, length, take, drop, subst, arith, length-append, length-drop}
use Rattle.std.specs.Prelude.{Option, Some, None, slice_get, slice_range}
use Rattle.std.proofs.lemmas.List.{append_assoc, drop-append-le, drop_at, map-append, take-append-le, take_all, take_at}
use Rattle.engine.specs.declared.batch.Bounds.{Bounds}
use Rattle.engine.specs.Batches.{EndsIn, LieIn, LiesIn, row_in, rows_in}

-- what lies within stays where bytes come behind
range-stays : (bytes more : List ℕ) (from to : ℕ) → from ≤ to → to ≤ length bytes → slice_range (bytes ++ more) from to ≡ slice_range bytes from to
range-stays bytes more from to below within =
    let start : from ≤ length bytes = omega (arith, below, within) in
    let long : to - from ≤ length (drop from bytes) = (let e = length-drop from bytes in omega (arith, e, below, within)) in
    ap (take (to - from)) (drop-append-le from bytes more start) ∙ take-append-le (to - from) (drop from bytes) more long

row-stays : (bytes more : List ℕ) (b : Bounds) → LiesIn (length bytes) b → row_in (bytes ++ more) b ≡ row_in bytes b
row-stays bytes more b lies =
    let value : b.value ≤ length bytes = (let v = lies.value in let e = lies.end in omega (arith, v, e)) in
    λ i. (range-stays bytes more b.key b.value lies.key value i, range-stays bytes more b.value b.end lies.value lies.end i)

rows-stay : (bytes more : List ℕ) (bounds : List Bounds) → LieIn (length bytes) bounds → rows_in (bytes ++ more) bounds ≡ rows_in bytes bounds
rows-stay bytes more [] lie = refl
rows-stay bytes more (b ∷ bounds) lie = λ i. row-stays bytes more b lie.0 i ∷ rows-stay bytes more bounds lie.1 i

lie-more : (long more : ℕ) (bounds : List Bounds) → long ≤ more → LieIn long bounds → LieIn more bounds
lie-more long more [] less lie = tt
lie-more long more (b ∷ bounds) less lie = (record { key = lie.0.key; value = lie.0.value; end = (let e = lie.0.end in omega (arith, e, less)) }, lie-more long more bounds less lie.1)

lie-pushed : (long : ℕ) (bounds : List Bounds) (b : Bounds) → LieIn long bounds → LiesIn long b → LieIn long (bounds ++ b ∷ [])
lie-pushed long [] b lie new = (new, tt)
lie-pushed long (a ∷ bounds) b lie new = (lie.0, lie-pushed long bounds b lie.1 new)

-- what comes behind is there
range-new : (before more after : List ℕ) (from to : ℕ) → from ≡ length before → to ≡ length before + length more → slice_range ((before ++ more) ++ after) from to ≡ more
range-new before more after from to start end =
    let n : to - from ≡ length more = omega (arith, start, end) in
    ap (take (to - from)) (ap (drop from) (append_assoc before more after) ∙ drop_at before (more ++ after) from (sym start))
    ∙ take_at more after (to - from) (sym n)

pub record Pushed (bytes later key value : List ℕ) (bounds : List Bounds) (b : Bounds) : Type 0 where
  pub lie : LieIn (length later) (bounds ++ b ∷ [])
  pub rows : rows_in later (bounds ++ b ∷ []) ≡ rows_in bytes bounds ++ (key, value) ∷ []

pub pushes : (bytes later key value : List ℕ) (bounds : List Bounds) (b : Bounds) → later ≡ (bytes ++ key) ++ value → LieIn (length bytes) bounds
    → b.key ≡ length bytes → b.value ≡ length bytes + length key → b.end ≡ length later → Pushed bytes later key value bounds b
pushes bytes later key value bounds b is lie at_key at_value at_end = record {
  lie = lie-pushed (length later) bounds b (lie-more (length bytes) (length later) bounds (omega (arith, long)) lie) (record {
    key = omega (arith, at_key, at_value);
    value = omega (arith, at_value, at_end, long);
    end = omega (arith, at_end);
  });
  rows = map-append (row_in later) bounds (b ∷ []) ∙ (ap (λ l. l ++ row_in later b ∷ []) (ap (λ l. rows_in l bounds) (is ∙ append_assoc bytes key value) ∙ rows-stay bytes (key ++ value) bounds lie)
      ∙ ap (λ r. rows_in bytes bounds ++ r ∷ []) row);
} where
  long : length later ≡ (length bytes + length key) + length value
  long = ap length is ∙ (length-append (bytes ++ key) value ∙ ap (λ n. n + length value) (length-append bytes key))

  its_key : slice_range later b.key b.value ≡ key
  its_key = ap (λ l. slice_range l b.key b.value) is ∙ range-new bytes key value b.key b.value at_key at_value

  its_value : slice_range later b.value b.end ≡ value
  its_value =
      let from : b.value ≡ length (bytes ++ key) = (let e = length-append bytes key in omega (arith, e, at_value)) in
      let n : b.end - b.value ≡ length value = omega (arith, at_end, at_value, long) in
      ap (λ l. slice_range l b.value b.end) is
      ∙ (ap (take (b.end - b.value)) (drop_at (bytes ++ key) value b.value (sym from)) ∙ take_all (b.end - b.value) value (omega (arith, n)))

  row : row_in later b ≡ (key, value)
  row = λ i. (its_key i, its_value i)

-- the row at the last place is the last one
pub ends-in : (rows : List (List ℕ × List ℕ)) (at : ℕ) (o : Option (List ℕ × List ℕ)) → at + 1 ≡ length rows → o ≡ slice_get rows at → EndsIn rows o
ends-in [] at o long is = absurd (omega arith)
ends-in (row ∷ []) zero o long is = subst (EndsIn (row ∷ [])) (sym is) ([], refl)
ends-in (row ∷ []) (suc at) o long is = absurd (omega arith)
ends-in (row ∷ (next ∷ rows)) zero o long is = absurd (omega arith)
ends-in (row ∷ (next ∷ rows)) (suc at) o long is = behind (ends-in (next ∷ rows) at o (omega arith) is) where
  behind : EndsIn (next ∷ rows) o → EndsIn (row ∷ (next ∷ rows)) o
  behind = by o is where
    by : (o : Option (List ℕ × List ℕ)) → o ≡ slice_get (next ∷ rows) at → EndsIn (next ∷ rows) o → EndsIn (row ∷ (next ∷ rows)) o
    by None is none = absurd (let clash : next ∷ rows ≡ [] = none in cc)
    by (Some last) is x = (row ∷ x.0, ap (λ l. row ∷ l) x.1)
