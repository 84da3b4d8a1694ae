-- One row at most, as a call answers it.
use Rattle.std.proofs.Common.{◌≡◌, ◌≤◌, ℕ, refl, sym, true, false, List, [], ◌∷◌, length, subst, arith}
use Rattle.wt_code.specs.declared.answers.Answer.TheVariants as answers
use Rattle.kv_model.specs.Calls.{NextRow}
use Rattle.kv_model.specs.Rows.{Way}
use Rattle.engine_world.specs.Worlds.{World}
use Rattle.engine.specs.RowReads.{RowCalled, RowsCalled}
use Rattle.engine.specs.Whole.{MayCall}

pub no-row : (w : World) (session cursor : ℕ) (name : List ℕ) (way : Way) (rows : List (List ℕ × List ℕ)) (later : World) → RowsCalled w session cursor name way rows later → length rows ≡ 0 → RowCalled false w session cursor name way rows later
no-row w session cursor name way [] later called none = (refl, called)
no-row w session cursor name way (row ∷ rows) later called none = absurd (omega (arith, none))

pub one-row : (w : World) (session cursor : ℕ) (name : List ℕ) (way : Way) (rows : List (List ℕ × List ℕ)) (later : World) → RowsCalled w session cursor name way rows later → 1 ≤ length rows → length rows ≤ 1 → RowCalled true w session cursor name way rows later
one-row w session cursor name way [] later called some few = absurd (omega (arith, some))
one-row w session cursor name way (row ∷ []) later called some few =
    (row.0, row.1, refl, subst (λ (x : World). MayCall w session (NextRow cursor name way) (answers.Row row.0 row.1) x) (sym called.2) called.1)
one-row w session cursor name way (row ∷ (next ∷ rows)) later called some few = absurd (omega (arith, few))
