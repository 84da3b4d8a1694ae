-- A read of a chain picks what the model admits.
use Rattle.std.proofs.Common.{◌≡◌, ℕ, refl, ap, ◌∙◌, false, ◌&&◌, ◌||◌, List, [], ◌∷◌, inl, inr, map}
use Rattle.std.specs.Prelude.{find, option_map}
use Rattle.std.proofs.lemmas.Bool.{cases_Bool}
use Rattle.item.specs.declared.Change.{Change}
use Rattle.stamp.specs.declared.Version.{Version}
use Rattle.stamp.specs.declared.View.{View}
use Rattle.kv_model.specs.Holds.{Member}
use Rattle.kv_model.specs.History.{admits, reads_at}
use Rattle.kv_model.specs.Machine.{Machine}
use Rattle.snapshot.specs.Sight.{sight_of, is_seen}
use Rattle.snapshot.specs.Matters.{Matters, SeesFirst}
use Rattle.update_chain.specs.Updates.{unmarked_update, decides, is_own}

-- one committed version of another decides where the model admits it
decides-settled : (m : Machine) (n : ℕ) (view : View) (v : Version Change) → SeesFirst m n (sight_of view) → Matters m v.window.name → is_own view (unmarked_update v) ≡ false
    → decides view (unmarked_update v) ≡ admits m.history n view.read v
decides-settled m n view v sees matters other =
    ap (λ own. own || (is_seen (sight_of view) v.window.name && reads_at view.read v.window.commit)) other
    ∙ ap (λ seen. seen && reads_at view.read v.window.commit) (sees.sees v.window.name matters)

pub reads-pick : (m : Machine) (n : ℕ) (view : View) (versions : List (Version Change)) → SeesFirst m n (sight_of view)
    → ((v : Version Change) → Member v versions → Matters m v.window.name × (is_own view (unmarked_update v) ≡ false))
    → find (decides view) (map unmarked_update versions) ≡ option_map unmarked_update (find (admits m.history n view.read) versions)
reads-pick m n view [] sees others = refl
reads-pick m n view (v ∷ older) sees others =
    let here = others v (inl refl) in
    let same = decides-settled m n view v sees here.0 here.1 in
    let rest = reads-pick m n view older sees (λ u there. others u (inr there)) in
    elim (cases_Bool (admits m.history n view.read v)) [
      | inl is ↦ rw (same ∙ is, is) refl
      | inr isnt ↦ rw (same ∙ isnt, isnt) rest
    ]
