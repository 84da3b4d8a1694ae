-- The target of a leaf that is found in the directory.
use Rattle.std.proofs.Common.{◌≡◌, ℕ, refl, ap, sym, ◌∙◌, List, [], ◌∷◌, inl, inr, subst}
use Rattle.std.specs.Prelude.{◌==◌, Option, Some, None, option_and_then, option_map, slice_get}
use Rattle.std.specs.List.{Contains}
use Rattle.std.proofs.lemmas.Bool.{cases_Bool, eqb-true}
use Rattle.std.proofs.lemmas.Option.{same_Some}
use Rattle.kv_model.specs.History.{Table}
use Rattle.kv_model.specs.Rows.{Way, Up, Down}
use Rattle.tree_dir.specs.declared.leaf.Leaf.{Leaf}
use Rattle.tree_dir.specs.Leaves.{Directory, IsDirectory, leaf_ahead, leaf_behind, leaf_named, of_table}
use Rattle.tree_dir.proofs.Members.{head-in, later}
use Rattle.tree_dir.proofs.Parting.{ids-name, last-ends, under-has}
use Rattle.catalog.specs.Known.{Known, place_of}
use Rattle.wt_calls.specs.Calls.{way_in}
use Rattle.call_steps.specs.declared.stage.KeyCall.{KeyCall}
use Rattle.call_steps.specs.declared.stage.KeyCall.TheVariants as key_call
use Rattle.call_steps.specs.State.{State}
use Rattle.call_steps.specs.Tables.{leaf_for, leaf_on, leaf_sought, next_for, number_of, sought, stage_for, stage_of}

-- ---- where a leaf is

table-of : (table : ℕ) (b n : Leaf) → of_table table b ≡ Some n → (b.table ≡ table) × (b ≡ n)
table-of table b n e = elim (cases_Bool (b.table == table)) [
  | inl is ↦ (eqb-true b.table table is, same_Some b n (rw is at e))
  | inr isnt ↦ let none : None ≡ Some n = rw isnt at e in absurd cc
]

behind-there : (id : ℕ) (leaves : List Leaf) (n : Leaf) → leaf_behind id leaves ≡ Some n → Contains leaves n
behind-there id [] n e = absurd cc
behind-there id (a ∷ []) n e = absurd cc
behind-there id (a ∷ b ∷ leaves) n e = elim (cases_Bool (a.id == id)) [
  | inl is ↦ let here = table-of a.table b n (rw is at e) in subst (Contains (a ∷ b ∷ leaves)) here.1 (later a b (b ∷ leaves) (head-in b leaves))
  | inr isnt ↦ later a n (b ∷ leaves) (behind-there id (b ∷ leaves) n (rw isnt at e))
]

ahead-there : (id : ℕ) (leaves : List Leaf) (n : Leaf) → leaf_ahead id leaves ≡ Some n → Contains leaves n
ahead-there id [] n e = absurd cc
ahead-there id (a ∷ []) n e = absurd cc
ahead-there id (a ∷ b ∷ leaves) n e = elim (cases_Bool (b.id == id)) [
  | inl is ↦ let here = table-of b.table a n (rw is at e) in subst (Contains (a ∷ b ∷ leaves)) here.1 (head-in a (b ∷ leaves))
  | inr isnt ↦ later a n (b ∷ leaves) (ahead-there id (b ∷ leaves) n (rw isnt at e))
]

on-there : (way : Way) (id : ℕ) (leaves : List Leaf) (n : Leaf) → leaf_on way id leaves ≡ Some n → Contains leaves n
on-there Up id leaves n e = behind-there id leaves n e
on-there Down id leaves n e = ahead-there id leaves n e

sought-in : (d : Directory) (table : ℕ) (key : Option (List ℕ)) (l : Leaf) → IsDirectory d → leaf_sought d.leaves table key ≡ Some l → Contains d.leaves l
sought-in d table None l is e = (last-ends d is table l e).0
sought-in d table (Some key) l is e = (under-has d is table key l e).there

next-in : (call : KeyCall) (id : ℕ) (leaves : List Leaf) (n : Leaf) → next_for call id leaves ≡ Some n → Contains leaves n
next-in (key_call.Step cursor way) id leaves n e = on-there (way_in way) id leaves n e
next-in call id leaves n e = absurd cc

-- ---- found again by its id

again : (d : Directory) (o : Option Leaf) (id : ℕ) → IsDirectory d → ((l : Leaf) → o ≡ Some l → Contains d.leaves l) → option_map (λ (l : Leaf). l.id) o ≡ Some id → leaf_named id d.leaves ≡ o
again d None id is there e = absurd cc
again d (Some l) id is there e = ap (λ (n : ℕ). leaf_named n d.leaves) (sym (same_Some l.id id e)) ∙ ids-name d is l (there l refl)

pub sought-again : (d : Directory) (table : ℕ) (key : Option (List ℕ)) (id : ℕ) → IsDirectory d → option_map (λ (l : Leaf). l.id) (leaf_sought d.leaves table key) ≡ Some id → leaf_named id d.leaves ≡ leaf_sought d.leaves table key
sought-again d table key id is e = again d (leaf_sought d.leaves table key) id is (λ l at. sought-in d table key l is at) e

pub next-again : (d : Directory) (call : KeyCall) (from id : ℕ) → IsDirectory d → option_map (λ (l : Leaf). l.id) (next_for call from d.leaves) ≡ Some id → leaf_named id d.leaves ≡ next_for call from d.leaves
next-again d call from id is e = again d (next_for call from d.leaves) id is (λ l at. next-in call from d.leaves l at) e

pub none-stage : (call : KeyCall) (o : Option Leaf) → option_map (λ (l : Leaf). l.id) o ≡ None → None ≡ option_map (stage_for call) o
none-stage call None e = refl
none-stage call (Some l) e = absurd cc

-- ---- the table of a name

module _ (known : Known) (leaves : List Leaf) (call : KeyCall) (s : State) where
  by-table : (o : Option Table) (n : ℕ) → option_map (λ (t : Table). t.number) o ≡ Some n → option_map (stage_for call) (leaf_sought leaves n (sought call s n)) ≡ option_map (stage_for call) (option_and_then (leaf_for leaves call s) o)
  by-table None n e = absurd cc
  by-table (Some t) n e = ap (λ k. option_map (stage_for call) (leaf_sought leaves k (sought call s k))) (sym (same_Some t.number n e))

  by-place : (o : Option ℕ) (n : ℕ) → option_and_then (λ place. option_map (λ (t : Table). t.number) (slice_get known.tables place)) o ≡ Some n
      → option_map (stage_for call) (leaf_sought leaves n (sought call s n)) ≡ option_map (stage_for call) (option_and_then (leaf_for leaves call s) (option_and_then (λ place. slice_get known.tables place) o))
  by-place None n e = absurd cc
  by-place (Some place) n e = by-table (slice_get known.tables place) n e

  pub of-table : (n : ℕ) → number_of known s.name ≡ Some n → option_map (stage_for call) (leaf_sought leaves n (sought call s n)) ≡ stage_of known leaves call s
  of-table n e = by-place (place_of s.name known.tables) n e

  none-table : (o : Option Table) → option_map (λ (t : Table). t.number) o ≡ None → None ≡ option_map (stage_for call) (option_and_then (leaf_for leaves call s) o)
  none-table None e = refl
  none-table (Some t) e = absurd cc

  none-place : (o : Option ℕ) → option_and_then (λ place. option_map (λ (t : Table). t.number) (slice_get known.tables place)) o ≡ None
      → None ≡ option_map (stage_for call) (option_and_then (leaf_for leaves call s) (option_and_then (λ place. slice_get known.tables place) o))
  none-place None e = refl
  none-place (Some place) e = none-table (slice_get known.tables place) e

  pub no-table : number_of known s.name ≡ None → None ≡ stage_of known leaves call s
  no-table e = none-place (place_of s.name known.tables) e
