-- An engine that begins on nothing.
use Rattle.std.proofs.Common.{◌≡◌, ℕ, [], List, inl, inr, refl, subst, sym, arith}
use Rattle.kv_model.specs.Content.{nothing}
use Rattle.kv_model.specs.History.{Placed}
use Rattle.kv_model.specs.Regular.{IsRegular, IsVersionOf}
use Rattle.row_page.specs.Rows.{Row}
use Rattle.tree_dir.specs.Leaves.{Directory, no_leaves}
use Rattle.catalog.specs.Known.{Known}
use Rattle.engine_world.specs.Worlds.{Records}
use Rattle.engine.specs.Bases.{IsBaseOf}

no_versions : (p : Placed) → IsVersionOf nothing p → ⊥
no_versions p (inl there) = there
no_versions p (inr there) = there

pub nothing_is_regular : IsRegular nothing
nothing_is_regular = record {
  numbers = tt;
  names = λ t u there. absurd there;
  cells = tt;
  records = tt;
  stamps = λ p there. absurd (no_versions p there);
  fit = inl refl;
}

abbrev pub no_shelf : ℕ → List Row
no_shelf id = []

abbrev pub no_records : Records
no_records leaf key = []

-- no tables and no leaves
pub nothing_is_base : (known : Known) (dir : Directory) → known ≡ record { tables = []; next = 1 } → dir ≡ no_leaves → IsBaseOf nothing no_shelf no_records 1 0 0 known dir
nothing_is_base known dir is none =
    let plain : Known = record { tables = []; next = 1 } in
    subst (λ (k : Known). IsBaseOf nothing no_shelf no_records 1 0 0 k dir) (sym is) (subst (λ (d : Directory). IsBaseOf nothing no_shelf no_records 1 0 0 plain d) (sym none)
    (record { run_is = refl; oldest_is = refl; stable_is = refl; tables_are = refl; begun = λ place t there. absurd cc; leaves = λ l there. absurd (omega (arith, there.1)); unused = λ id late key. refl }))
