-- Rows are told by what they show; and the core of a line of one version.
use Rattle.std.proofs.Common.{◌≡◌, ℕ, List, Option, Some, None, refl, ap, ◌∙◌, inl, inr}
use Rattle.std.specs.Prelude.{option_map}
use Rattle.std.specs.Option.{option_to_list}
use Rattle.std.proofs.lemmas.Bool.{cases_Bool}
use Rattle.item.specs.declared.change.Change.{Change}
use Rattle.stamp.specs.declared.version.Version.{Version}
use Rattle.kv_model.specs.History.{core, is_by}
use Rattle.stamp.specs.declared.version.Window.{Window}
use Rattle.row_page.specs.declared.change.CellChange.TheVariants.{Put, Remove}
use Rattle.row_page.specs.Changes.{PageChange, change_in, version_in}
use Rattle.leaf_rows.specs.Rows.{version_at}
use Rattle.reconcile.specs.ShowsLaws.{RowsAreOne}
use Rattle.reconcile.proofs.Keyed.{alike}

-- of one at most the core is all
pub core_one : (oldest : ℕ) (o : Option (Version Change)) → core oldest (option_to_list o) ≡ option_to_list o
core_one oldest None = refl
core_one oldest (Some v) = elim (cases_Bool (is_by oldest v)) [ inl is ↦ rw is refl | inr isnt ↦ rw isnt refl ]

-- a page says no more of a key than the model's change does
change_one : (c d : PageChange) → change_in c ≡ change_in d → c ≡ d
change_one (Put x) (Put y) e = let same : x ≡ y = cc in ap (λ (v : List ℕ). Put v) same
change_one (Put x) Remove e = absurd cc
change_one Remove (Put y) e = absurd cc
change_one Remove Remove e = refl

version_one : (v w : Version PageChange) → version_in v ≡ version_in w → v ≡ w
version_one v w e =
    ap (λ (x : Window). record { window = x; change = v.change }) (ap (λ (x : Version Change). x.window) e)
    ∙ ap (λ (c : PageChange). record { window = w.window; change = c }) (change_one v.change w.change (ap (λ (x : Version Change). x.change) e))

shown_one : (a b : Option (Version PageChange)) → option_map version_in a ≡ option_map version_in b → a ≡ b
shown_one None None e = refl
shown_one None (Some w) e = absurd cc
shown_one (Some v) None e = absurd cc
shown_one (Some v) (Some w) e = let same : version_in v ≡ version_in w = cc in ap Some (version_one v w same)

pub ones : RowsAreOne
ones rows others are too same = alike None None rows others are.ascend too.ascend (λ key. shown_one (version_at key rows) (version_at key others) (same key))
