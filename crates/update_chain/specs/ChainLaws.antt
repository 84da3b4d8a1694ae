-- What reads and trims of chains are good for.
use Rattle.std.specs.Prelude.{◌≡◌, ℕ, true, false, List, ◌++◌, map, find, option_map}
use Rattle.item.specs.declared.Change.{Change}
use Rattle.stamp.specs.declared.Name.{Name}
use Rattle.stamp.specs.declared.Version.{Version}
use Rattle.stamp.specs.declared.View.{View}
use Rattle.kv_model.specs.Holds.{Member}
use Rattle.kv_model.specs.History.{admits}
use Rattle.kv_model.specs.Machine.{Machine}
use Rattle.snapshot.specs.Sight.{sight_of}
use Rattle.snapshot.specs.Matters.{Matters, SeesFirst}
use Rattle.update_chain.specs.declared.update.Update.{Update}
use Rattle.update_chain.specs.Updates.{unmarked_update, decides, is_own, covers_at, trimmed}

-- among committed versions of others a read picks the one that the model admits first
abbrev pub ReadsPick : Type 0
ReadsPick = (m : Machine) (n : ℕ) (view : View) (versions : List (Version Change)) → SeesFirst m n (sight_of view)
    → ((v : Version Change) → Member v versions → Matters m v.window.name × (is_own view (unmarked_update v) ≡ false))
    → find (decides view) (map unmarked_update versions) ≡ option_map unmarked_update (find (admits m.history n view.read) versions)

-- a trim leaves the newest updates; where any is lost, the last that is left covers them all
abbrev pub TrimsLoseCovered : Type 0
TrimsLoseCovered = (pin : ℕ) (floor : Name) (chain : List Update)
    → (lost : List Update) × (chain ≡ trimmed pin floor chain ++ lost)
    × ((u : Update) → Member u lost → (cover : Update) × Member cover (trimmed pin floor chain) × (covers_at pin floor cover ≡ true))
