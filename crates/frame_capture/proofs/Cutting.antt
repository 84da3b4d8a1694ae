-- What an opening keeps of captured rows.
use Rattle.std.proofs.Common.{◌≡◌, ◌∙◌, true, List, Option, Some, None, refl, sym, subst, inl, inr}
use Rattle.std.proofs.lemmas.Bool.{cases_Bool}
use Rattle.std.proofs.lemmas.Option.{same_Some}
use Rattle.item.specs.declared.Change.{Change}
use Rattle.stamp.specs.declared.Version.{Version}
use Rattle.kv_model.specs.StoreLaws.{or_else}
use Rattle.reconcile.specs.Shows.{shown_at}
use Rattle.reconcile.proofs.Keyed.{of_key_rows}
use Rattle.snapshot.specs.Sight.{Sight, is_seen}
use Rattle.update_chain.specs.declared.update.Update.{Update}
use Rattle.leaf_chains.specs.Slots.{chain_at}
use Rattle.reconcile.specs.Capture.{captured}
use Rattle.reconcile.proofs.CaptureCutting.{agrees}
use Rattle.reconcile.proofs.Picking.{captured_seen}
use Rattle.frame_capture.specs.Capture.{captured_over, seen_row}
use Rattle.frame_capture.specs.CutLaws.{CapturesAreCut}
use Rattle.frame_capture.proofs.Newest.{captures-newest}

-- ---- what is captured is seen

row_seen : (s : Sight) (row : Option (Version Change)) (v : Version Change) → seen_row s row ≡ Some v → is_seen s v.window.name ≡ true
row_seen s None v is = absurd cc
row_seen s (Some w) v is = elim (cases_Bool (is_seen s w.window.name)) [
  | inl seen ↦ (let found : Some w ≡ Some v = rw seen at is in subst (λ (x : Version Change). is_seen s x.window.name ≡ true) (same_Some w v found) seen)
  | inr unseen ↦ (let none : None ≡ Some v = rw unseen at is in absurd cc)
]

pub over_seen : (s : Sight) (chain : List Update) (row : Option (Version Change)) (v : Version Change) → captured_over s chain row ≡ Some v → is_seen s v.window.name ≡ true
over_seen s chain row v is = by (captured s chain) refl is where
  by : (o : Option (Version Change)) → captured s chain ≡ o → or_else o (seen_row s row) ≡ Some v → is_seen s v.window.name ≡ true
  by None none below = row_seen s row v below
  by (Some w) some found = captured_seen s chain v (some ∙ found)

-- ---- the law

pub captures-cut : CapturesAreCut
captures-cut m table key leaf s rows c valid none sees stands is n h =
    let chain = chain_at key leaf.chains in
    let row = shown_at key leaf.page in
    let shown = shown_at key rows in
    let head = sym (captures-newest m table key chain row s valid none sees stands) ∙ sym (is.shows key) in
    agrees m table key s rows c shown valid.stamps head n h (h.cells ∙ of_key_rows table key None rows is.fit.ascend) (λ v e. over_seen s chain row v (sym (is.shows key) ∙ e))
