-- The page of a leaf that was read: what an opening keeps of the rows that the device has, or all of them.
use Rattle.std.proofs.Common.{◌≡◌, ◌≤◌, ◌^◌, ℕ, List, [], ◌∷◌, Some, refl, sym, ap, subst, ◌∙◌, arith}
use Rattle.std.specs.Prelude.{true, IsTrue, nat_lt}
use Rattle.std.specs.List.{AllByRecursion}
use Rattle.std.proofs.lemmas.Bool.{lt-ltb}
use Rattle.row_page.specs.Rows.{Row, RowFits, key_most}
use Rattle.leaf_frame.specs.Leaf.{HeldLeaf}
use Rattle.leaf_load.specs.Loads.{OneIsLoaded}
use Rattle.leaf_load.proofs.Seen.{all_kept}
use Rattle.leaf_rows.specs.Contents.{is_seen_row, seen_rows}
use Rattle.leaf_rows.specs.declared.marks.Marks.{Marks}
use Rattle.device_leaf.specs.Leaves.{LeafIs}
use Rattle.tree_dir.specs.declared.leaf.Leaf.{Leaf}
use Rattle.tree_dir.specs.Leaves.{Directory, leaf_named}
use Rattle.ckpt_step.proofs.Members.{some_same}
use Rattle.engine_store.specs.Loads.{IsReadAs}

-- by marks of a later run that ask no stamp all is kept
all_seen : (m : Marks) (ids : List ℕ) (rows : List Row) → 2 ^ 62 ≤ m.run → m.stable ≡ 0 → AllByRecursion (λ (r : Row). RowFits [] key_most r) rows → AllByRecursion (λ (r : Row). IsTrue (is_seen_row m ids r)) rows
all_seen m ids [] late none fit = tt
all_seen m ids (r ∷ rows) late none fit =
    let earlier : nat_lt r.1.window.name.run m.run ≡ true = lt-ltb _ _ (omega (arith, late, fit.0.window.name.run.1)) in
    (rw (earlier, none) refl, all_seen m ids rows late none fit.1)

pub seen_later : (m : Marks) (ids : List ℕ) (rows : List Row) → 2 ^ 62 ≤ m.run → m.stable ≡ 0 → AllByRecursion (λ (r : Row). RowFits [] key_most r) rows → seen_rows m ids rows ≡ rows
seen_later m ids rows late none fit = all_kept (is_seen_row m ids) rows (all_seen m ids rows late none fit)

-- ---- of a leaf that was read

pub page_kept : OneIsLoaded → (bytes : List ℕ) (dir : Directory) (id : ℕ) (marks : Marks) (ids : List ℕ) (held : HeldLeaf) (l : Leaf) (rows : List Row) → IsReadAs bytes dir id marks ids held → leaf_named id dir.leaves ≡ Some l → LeafIs bytes l.entry.link rows → held.page ≡ seen_rows marks ids rows
page_kept one bytes dir id marks ids held l rows read there leaf =
    let same : l ≡ read.leaf = some_same (sym there ∙ read.there) in
    ap (λ (h : HeldLeaf). h.page) (one bytes read.leaf.entry _ marks ids held rows read.loaded (subst (λ (x : Leaf). LeafIs bytes x.entry.link rows) same leaf))
