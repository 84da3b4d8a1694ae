-- What the history keeps of one leaf and of the others, where it keeps something else of this one.
use Rattle.std.proofs.Common.{◌≡◌, ◌≢◌, ◌<◌, ◌≤◌, ℕ, refl, ap, sym, ◌∙◌, List, [], arith}
use Rattle.std.specs.Prelude.{if◌then◌else◌}
use Rattle.std.specs.List.{Contains}
use Rattle.std.proofs.lemmas.Bool.{eq-eqb, ne_eqb}
use Rattle.std.proofs.lemmas.List.Elements.{All-contains}
use Rattle.item.specs.declared.Change.{Change}
use Rattle.stamp.specs.declared.Version.{Version}
use Rattle.tree_dir.specs.declared.leaf.Leaf.{Leaf}
use Rattle.engine_world.specs.Stands.{Engine, Stands}
use Rattle.engine_world.specs.Worlds.{World, with_records}

module _ (id : ℕ) (kept : List ℕ → List (Version Change)) (w : World) where
  pub records-here : (key : List ℕ) → (with_records id kept w).records id key ≡ kept key
  records-here key = ap (λ b. if b then kept key else w.records id key) (eq-eqb id id refl)

  pub records-there : (other : ℕ) → other ≢ id → (key : List ℕ) → w.records other key ≡ (with_records id kept w).records other key
  records-there other apart key = sym (ap (λ b. if b then kept key else w.records other key) (ne_eqb other id apart))

-- still nothing of a leaf that was never made
pub still-unused : (e : Engine) (w : World) (l : Leaf) (kept : List ℕ → List (Version Change)) → Stands e w → Contains e.hub.dir.leaves l → (id : ℕ) → e.hub.dir.next ≤ id → (key : List ℕ) → (with_records l.id kept w).records id key ≡ []
still-unused e w l kept st there id past key = sym (records-there l.id kept w id other key) ∙ st.unused id past key where
  other : id ≢ l.id
  other same = let below = All-contains (λ (x : Leaf). x.id < e.hub.dir.next) e.hub.dir.leaves l st.dir.below there in absurd (omega (arith, same, below, past))
