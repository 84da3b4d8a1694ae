-- What is captured of a chain.
use Rattle.std.proofs.Common.{◌≡◌, ◌∙◌, ℕ, zero, suc, true, false, List, [], ◌∷◌, drop, Some, refl, ap, sym, subst, inl, inr}
use Rattle.std.specs.Prelude.{slice_get}
use Rattle.std.proofs.lemmas.Bool.{cases_Bool}
use Rattle.std.proofs.lemmas.Option.{same_Some}
use Rattle.item.specs.declared.Change.{Change}
use Rattle.item.specs.declared.Change.TheVariants.{Put as Puts, Remove as Removes}
use Rattle.stamp.specs.declared.Version.{Version}
use Rattle.row_page.specs.Changes.{change_in, version_in}
use Rattle.row_page.specs.Rows.{RowFits, key_most}
use Rattle.snapshot.specs.Sight.{Sight, is_seen}
use Rattle.update_chain.specs.declared.update.Update.{Update}
use Rattle.reconcile.specs.Cells.{cell_change, cell_version}
use Rattle.reconcile.specs.Capture.{captured, ChainFits}

-- ---- update by update

pub captured_here : (s : Sight) (u : Update) (older : List Update) → is_seen s u.version.window.name ≡ true → captured s (u ∷ older) ≡ Some u.version
captured_here s u older seen = rw seen refl

pub captured_below : (s : Sight) (u : Update) (older : List Update) → is_seen s u.version.window.name ≡ false → captured s (u ∷ older) ≡ captured s older
captured_below s u older unseen = rw unseen refl

pub captured_at : (s : Sight) (chain : List Update) (i : ℕ) (u : Update) → slice_get chain i ≡ Some u → is_seen s u.version.window.name ≡ true → captured s (drop i chain) ≡ Some u.version
captured_at s [] i u is seen = absurd cc
captured_at s (x ∷ chain) zero u is seen = subst (λ (y : Update). captured s (y ∷ chain) ≡ Some u.version) (sym (same_Some x u is)) (captured_here s u chain seen)
captured_at s (x ∷ chain) (suc i) u is seen = captured_at s chain i u is seen

pub captured_past : (s : Sight) (chain : List Update) (i : ℕ) (u : Update) → slice_get chain i ≡ Some u → is_seen s u.version.window.name ≡ false → captured s (drop i chain) ≡ captured s (drop (suc i) chain)
captured_past s [] i u is unseen = absurd cc
captured_past s (x ∷ chain) zero u is unseen = subst (λ (y : Update). captured s (y ∷ chain) ≡ captured s chain) (sym (same_Some x u is)) (captured_below s u chain unseen)
captured_past s (x ∷ chain) (suc i) u is unseen = captured_past s chain i u is unseen

-- what is captured is seen
pub captured_seen : (s : Sight) (chain : List Update) (v : Version Change) → captured s chain ≡ Some v → is_seen s v.window.name ≡ true
captured_seen s [] v is = absurd cc
captured_seen s (u ∷ older) v is = elim (cases_Bool (is_seen s u.version.window.name)) [
  | inl seen ↦ subst (λ (w : Version Change). is_seen s w.window.name ≡ true) (same_Some u.version v (sym (captured_here s u older seen) ∙ is)) seen
  | inr unseen ↦ captured_seen s older v (sym (captured_below s u older unseen) ∙ is)
]

-- ---- what a page says of it

change_back : (c : Change) → change_in (cell_change c) ≡ c
change_back (Puts value) = refl
change_back Removes = refl

pub version_back : (v : Version Change) → version_in (cell_version v) ≡ v
version_back v = ap (λ (c : Change). record { window = v.window; change = c }) (change_back v.change)

pub captured_fits : (s : Sight) (key : List ℕ) (chain : List Update) (v : Version Change) → captured s chain ≡ Some v → ChainFits key chain → RowFits [] key_most (key, cell_version v)
captured_fits s key [] v is fit = absurd cc
captured_fits s key (u ∷ older) v is fit = elim (cases_Bool (is_seen s u.version.window.name)) [
  | inl seen ↦ subst (λ (w : Version Change). RowFits [] key_most (key, cell_version w)) (same_Some u.version v (sym (captured_here s u older seen) ∙ is)) fit.0
  | inr unseen ↦ captured_fits s key older v (sym (captured_below s u older unseen) ∙ is) fit.1
]
