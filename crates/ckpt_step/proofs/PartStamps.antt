-- The durable stamps of the rows of a part of a tree, which its links say.
use Rattle.std.specs.Prelude.{◌≤◌, ℕ, IfSome, List, [], ◌∷◌, bytes_eq}
use Rattle.std.specs.List.{AllByRecursion}
use Rattle.std.proofs.Common.{inl, inr, subst, arith}
use Rattle.std.proofs.lemmas.Bool.{cases_Bool}
use Rattle.row_page.specs.Greatest.{durables_of, most_in}
use Rattle.row_page.specs.Rows.{Row}
use Rattle.reconcile.specs.Shows.{shown_at}
use Rattle.stored.specs.TableTree.{Entry}
use Rattle.stored.specs.Tree.{join}
use Rattle.tree_write.specs.Drafts.{HasLeaves}
use Rattle.ckpt_step.specs.Giving.{AreDurableAt}
use Rattle.ckpt_step.proofs.OrderedByName.{all_join}

-- each of their versions is durable at this stamp
abbrev pub RowsDurable : ℕ → List Row → Type 0
RowsDurable oldest rows = AllByRecursion (λ (r : Row). r.1.window.durable ≤ oldest) rows

pub durable_rows : (oldest : ℕ) (rows : List Row) → most_in (durables_of rows) ≤ oldest → RowsDurable oldest rows
durable_rows oldest [] low = tt
durable_rows oldest (r ∷ rows) low = (omega (arith, low), durable_rows oldest rows (omega (arith, low)))

-- so are those of a part of a tree that a device has, where its links say so
pub durable_part : (bytes : List ℕ) (oldest : ℕ) (part : List Entry) (images : List (List Row)) → HasLeaves bytes part images → AreDurableAt oldest part → RowsDurable oldest (join images)
durable_part bytes oldest [] [] has durable = tt
durable_part bytes oldest [] (rows ∷ images) has durable = absurd has
durable_part bytes oldest (e ∷ part) [] has durable = absurd has
durable_part bytes oldest (e ∷ part) (rows ∷ images) has durable =
    all_join (λ (r : Row). r.1.window.durable ≤ oldest) rows (join images)
    (durable_rows oldest rows (subst (λ (stamp : ℕ). stamp ≤ oldest) has.0.1.bears.says.durable durable.0)) (durable_part bytes oldest part images has.1 durable.1)

-- and what they show of a key
pub shown_durable : (oldest : ℕ) (key : List ℕ) (rows : List Row) → RowsDurable oldest rows → IfSome (shown_at key rows) (λ v. v.window.durable ≤ oldest)
shown_durable oldest key [] low = tt
shown_durable oldest key (r ∷ rows) low = elim (cases_Bool (bytes_eq r.0 key)) [
  | inl same ↦ rw same low.0
  | inr other ↦ rw other (shown_durable oldest key rows low.1)
]
