-- A leaf that is read with all its rows.
use Rattle.std.specs.Prelude.{◌≡◌, ◌<◌, ℕ, ◌==◌, nat_lt, true, List, [], ◌∷◌, Result, Ok, Err, IfOk, Some, refl}
use Rattle.std.specs.List.{AllByRecursion}
use Rattle.std.proofs.Common.{sym, ◌∙◌, ap, subst, arith}
use Rattle.std.proofs.lemmas.Bool.{eq-eqb, lt-ltb}
use Rattle.limits.specs.declared.TheConstants.{NUMBER_MAX}
use Rattle.wt_code.specs.declared.refusals.Refusal.{Refusal}
use Rattle.row_page.specs.Rows.{Row, RowFits, key_most}
use Rattle.leaf_rows.specs.Contents.{seen_rows}
use Rattle.leaf_rows.specs.declared.marks.Marks.{Marks}
use Rattle.device_leaf.specs.Leaves.{LeafIs}
use Rattle.leaf_frame.specs.Leaf.{HeldLeaf}
use Rattle.leaf_load.specs.Loads.{OneIsLoaded}
use Rattle.tree_dir.specs.declared.leaf.Leaf.{Leaf}
use Rattle.tree_dir.specs.Leaves.{Directory, leaf_named}
use Rattle.ckpt_step.specs.Parts.{has_rows}
use Rattle.ckpt_step.proofs.Members.{some_same}
use Rattle.engine_store.specs.Loads.{IsReadAs, ShelfIsOn, low_behind}

module _ (m : Marks) (later : NUMBER_MAX < m.run) (stampless : m.stable ≡ 0) where
  -- no name is of so late a run
  all_seen : (rows : List Row) → AllByRecursion (λ (r : Row). RowFits [] key_most r) rows → seen_rows m [] rows ≡ rows
  all_seen [] fit = refl
  all_seen (r ∷ rows) fit =
      let early : nat_lt r.1.window.name.run m.run ≡ true = lt-ltb r.1.window.name.run m.run (omega (arith, later, fit.0.window.name.run)) in
      let free : (m.stable == 0) ≡ true = eq-eqb m.stable 0 stampless in
      rw (early, free) (ap (λ (l : List Row). r ∷ l) (all_seen rows fit.1))

  pub read_all : (bytes : List ℕ) (dir : Directory) (id : ℕ) (shelf : ℕ → List Row) (leads : (l : Leaf) → leaf_named id dir.leaves ≡ Some l → has_rows l.entry.link ≡ true) → OneIsLoaded → ShelfIsOn bytes dir shelf id → (result : Result HeldLeaf Refusal) → IfOk result (IsReadAs bytes dir id m []) → IfOk result (λ held. held.page ≡ shelf id)
  read_all bytes dir id shelf leads one on (Err r) read = tt
  read_all bytes dir id shelf leads one on (Ok held) read =
      let same : on.leaf ≡ read.leaf = some_same (sym on.there ∙ read.there) in
      let under = on.under (leads on.leaf on.there) in
      ap (λ (h : HeldLeaf). h.page) (one bytes read.leaf.entry (low_behind id dir.leaves) m [] held (shelf id) read.loaded (subst (λ (l : Leaf). LeafIs bytes l.entry.link (shelf id)) same under.leaf))
      ∙ all_seen (shelf id) under.leaf.bears.leaf.fit
