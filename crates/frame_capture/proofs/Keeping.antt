-- The newest live version of a key, where those that a snapshot sees are live.
use Rattle.std.proofs.Common.{◌≡◌, ◌∙◌, true, false, List, [], ◌∷◌, ◌++◌, Option, Some, None, refl, inl, inr}
use Rattle.std.specs.Prelude.{find}
use Rattle.std.specs.Option.{option_to_list}
use Rattle.std.proofs.lemmas.Bool.{cases_Bool}
use Rattle.item.specs.declared.Change.{Change}
use Rattle.stamp.specs.declared.Version.{Version}
use Rattle.stamp.specs.declared.Window.{Window}
use Rattle.snapshot.specs.Sight.{Sight, is_seen}
use Rattle.update_chain.specs.declared.update.Update.{Update}
use Rattle.reconcile.specs.declared.live.Live.{Live}
use Rattle.reconcile.specs.Held.{is_live, lives, versions}
use Rattle.frame_capture.specs.Capture.{captured_over}

module _ (s : Sight) (live : Live) (same : (w : Window) → lives live w ≡ is_seen s w.name) where
  -- it is what is captured
  pub found_over : (chain : List Update) (row : Option (Version Change)) → find (is_live live) (versions chain ++ option_to_list row) ≡ captured_over s chain row
  found_over [] None = refl
  found_over [] (Some v) = elim (cases_Bool (is_seen s v.window.name)) [
    | inl t ↦ (let l : lives live v.window ≡ true = same v.window ∙ t in rw (t, l) refl)
    | inr f ↦ (let l : lives live v.window ≡ false = same v.window ∙ f in rw (f, l) refl)
  ]
  found_over (u ∷ older) row = elim (cases_Bool (is_seen s u.version.window.name)) [
    | inl t ↦ (let l : lives live u.version.window ≡ true = same u.version.window ∙ t in rw (t, l) refl)
    | inr f ↦ (let l : lives live u.version.window ≡ false = same u.version.window ∙ f in rw (f, l) (found_over older row))
  ]
