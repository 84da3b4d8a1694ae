-- The run of `list`: the names of all tables are printed.
use Rattle.std.specs.Prelude.{◌≡◌, ◌⊎◌, ◌↔◌, true, List, [], ◌∷◌, ◌++◌, ℕ, Some, codes}
use Rattle.std.specs.List.{flat_map}
use Rattle.wt_code.specs.declared.refusals.Refusal.TheVariants.{NoMemory}
use Rattle.kv_model.specs.Holds.{Member}
use Rattle.kv_model.specs.History.{Table, tables, named}
use Rattle.kv_model.specs.Machine.{Machine}
use Rattle.kv_model.specs.Rows.{key_lt}
use Rattle.script_run.specs.declared.script.End.TheVariants.{Through, OutputFailed}
use Rattle.wt_tool.specs.Points.{Point, Ran, ends, stops, prints}

-- each name is below the next one
abbrev pub Sorted : List (List ℕ) → Type 0
Sorted [] = Unit {0}
Sorted (a ∷ []) = Unit {0}
Sorted (a ∷ (b ∷ names)) = (key_lt a b ≡ true) × Sorted (b ∷ names)

-- these are the names of the machine's tables, in their order
pub record AreNames (m : Machine) (names : List (List ℕ)) : Type 0 where
  pub all : (name : List ℕ) → Member name names ↔ ((t : Table) × (named name (tables m.history) ≡ Some t))
  pub ascend : Sorted names

-- a line for each
abbrev pub names_text : List (List ℕ) → List ℕ
names_text names = flat_map (λ (name : List ℕ). codes "table:" ++ name ++ 10 ∷ []) names

-- The text is printed. A write of the output that fails ends the run, with a front of it printed; want of memory for it ends the run before that.
abbrev pub PrintsAll : (output_failed : Type 0) → List ℕ → Point → Ran → Type 0
PrintsAll output_failed text p ran =
    (ran ≡ prints text (ends Through p)) ⊎ (((ran ≡ prints text (ends OutputFailed p)) × output_failed) ⊎ (ran ≡ stops NoMemory p))

abbrev pub RunsList : (output_failed : Type 0) → Point → Ran → Type 0
RunsList output_failed p ran = (names : List (List ℕ)) × AreNames p.machine names × PrintsAll output_failed (names_text names) p ran
