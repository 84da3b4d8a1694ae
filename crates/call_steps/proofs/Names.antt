-- The name of a table that is there is one that a table may have.
use Rattle.std.proofs.Common.{◌≡◌, ℕ, ◌+◌, true, List, [], ◌∷◌, Option, Some, None, refl, subst, inl, inr}
use Rattle.std.specs.Prelude.{bytes_eq, option_map, option_and_then, slice_get}
use Rattle.std.specs.List.{AllByRecursion}
use Rattle.std.proofs.lemmas.Bool.{cases_Bool}
use Rattle.kv_model.specs.History.{Table}
use Rattle.kv_model.specs.Decisions.{is_name}
use Rattle.kv_model.specs.Refusals.{first_of}
use Rattle.tree_dir.specs.declared.leaf.Leaf.{Leaf}
use Rattle.catalog.specs.Known.{Known, AreTables, place_of}
use Rattle.leaf_chains.proofs.Changes.{same_key}
use Rattle.call_steps.specs.declared.stage.KeyCall.{KeyCall}
use Rattle.call_steps.specs.declared.stage.Stage.{Stage}
use Rattle.call_steps.specs.HubEvents.{item_checks}
use Rattle.call_steps.specs.Lengths.{length_checks}
use Rattle.call_steps.specs.State.{State}
use Rattle.call_steps.specs.Tables.{leaf_for, stage_for, stage_of}

some_before : (o : Option ℕ) (p : ℕ) → option_map (λ k. k + 1) o ≡ Some p → (q : ℕ) × (o ≡ Some q)
some_before None p e = absurd cc
some_before (Some q) p e = (q, refl)

named_well : (tables : List Table) (name : List ℕ) (p : ℕ) → AllByRecursion (λ (t : Table). is_name t.name ≡ true) tables → place_of name tables ≡ Some p → is_name name ≡ true
named_well [] name p all e = absurd cc
named_well (t ∷ later) name p all e = elim (cases_Bool (bytes_eq t.name name)) [
  | inl same ↦ subst (λ (x : List ℕ). is_name x ≡ true) (same_key t.name name same) all.0
  | inr other ↦ let q = some_before (place_of name later) p (rw other at e) in named_well later name q.0 all.1 q.1
]

some_place : (known : Known) (leaves : List Leaf) (call : KeyCall) (s : State) (o : Option ℕ) (to : Stage)
    → option_map (stage_for call) (option_and_then (leaf_for leaves call s) (option_and_then (λ place. slice_get known.tables place) o)) ≡ Some to → (p : ℕ) × (o ≡ Some p)
some_place known leaves call s None to e = absurd cc
some_place known leaves call s (Some p) to e = (p, refl)

pub known_name : (known : Known) (leaves : List Leaf) (call : KeyCall) (s : State) (to : Stage) → AreTables known → stage_of known leaves call s ≡ Some to → is_name s.name ≡ true
known_name known leaves call s to are e = let p = some_place known leaves call s (place_of s.name known.tables) to e in named_well known.tables s.name p.0 are.names p.1

pub only_lengths : (s : State) → is_name s.name ≡ true → first_of (item_checks s) ≡ first_of (length_checks s)
only_lengths s e = rw e refl
