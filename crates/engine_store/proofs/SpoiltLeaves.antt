-- A leaf that is in no frame and at fault was so before, where the hub went on.
use Rattle.std.proofs.Common.{◌≡◌, ◌≢◌, ◌⊎◌, ℕ, zero, suc, List, [], ◌∷◌, map, Option, Some, None, refl, sym, ap, subst, ◌∙◌, inl, inr}
use Rattle.std.specs.Prelude.{slice_get}
use Rattle.std.specs.List.{Contains}
use Rattle.std.proofs.lemmas.Bool.{cases_eq}
use Rattle.kv_model.specs.History.{Table}
use Rattle.stored.specs.TableTree.{Entry}
use Rattle.recover_open.specs.Damage.{EntrySpoils}
use Rattle.tree_dir.specs.declared.leaf.Leaf.{Leaf}
use Rattle.tree_dir.specs.Leaves.{Directory, IsDirectory, in_frame, leaf_named, leaves_of}
use Rattle.tree_dir.proofs.Parting.{ids-name}
use Rattle.call_steps.specs.declared.hub.Hub.{Hub}
use Rattle.engine.specs.Directories.{HubGoesOn, LeafGoesOn, LeavesGoOn}
use Rattle.engine.specs.Waits.{IsAway}
use Rattle.ckpt_step.proofs.Members.{none_some, some_same}
use Rattle.ckpt_step.proofs.TableLeaves.{contains_of, in_table, member_of, table_in}
use Rattle.engine_store.specs.declared.store.Store.{Store}
use Rattle.kv_model.specs.Holds.{Member}
use Rattle.engine_store.specs.GoneOut.{all_out}
use Rattle.engine_store.specs.Loads.{LeafSpoils, low_behind}
use Rattle.engine_store.specs.Opened.{SpoilsAreThere}
use Rattle.engine_store.proofs.AllOut.{of_outs, outs_go}
use Rattle.engine_store.proofs.KeptLeaves.{named_there}
use Rattle.engine_store.proofs.LeafBehind.{low_own}
use Rattle.engine_store.proofs.LeavesGo.{leaf_went, low_goes}

-- ---- the table of a leaf

abbrev IsKnown : List Table → ℕ → Type 0
IsKnown known number = (i : ℕ) × (t : Table) × (slice_get known i ≡ Some t) × (number ≡ t.number)

abbrev IsOfNone : List Table → ℕ → Type 0
IsOfNone known number = (i : ℕ) (t : Table) → slice_get known i ≡ Some t → number ≢ t.number

none_more : (x : Table) (known : List Table) (number : ℕ) → number ≢ x.number → IsOfNone known number → IsOfNone (x ∷ known) number
none_more x known number other none zero t at same = other (same ∙ ap (λ (v : Table). v.number) (sym (some_same at)))
none_more x known number other none (suc i) t at same = none i t at same

known_or : (known : List Table) (number : ℕ) → IsKnown known number ⊎ IsOfNone known number
known_or [] number = inr (λ i t at. absurd (none_some at))
known_or (x ∷ known) number = elim (cases_eq number x.number) [
  | inl here ↦ inl (0, x, refl, here)
  | inr other ↦ elim (known_or known number) [
    | inl found ↦ inl (suc found.0, found.1, found.2, found.3)
    | inr none ↦ inr (none_more x known number other none)
  ]
]

-- ---- the leaf

-- what is behind the leaf of an id is behind it among those of its table
low_of : (d : Directory) → IsDirectory d → (id n : ℕ) (l : Leaf) → Contains d.leaves l → l.id ≡ id → l.table ≡ n → low_behind id d.leaves ≡ low_behind id (leaves_of n d.leaves)
low_of d is id n l there same its = subst (λ (k : ℕ). low_behind k d.leaves ≡ low_behind k (leaves_of n d.leaves)) same (low_own d is n l there its)

-- leaves that may have left their frames since
module _ (leaves next : List Leaf) (goes : LeavesGoOn (map (in_frame None) leaves) next) where
  was_there : (n : Leaf) → Member n next → (l : Leaf) × Member l leaves × LeafGoesOn (in_frame None l) n
  was_there n there =
      let was = leaf_went (map (in_frame None) leaves) next n goes there in
      let x = source leaves was.0 was.1 in
      (x.0, x.1, subst (λ (y : Leaf). LeafGoesOn y n) x.2 was.2)
    where
      source : (ls : List Leaf) (y : Leaf) → Member y (map (in_frame None) ls) → (l : Leaf) × Member l ls × (y ≡ in_frame None l)
      source [] y at = absurd at
      source (l ∷ ls) y (inl same) = (l, inl refl, same)
      source (l ∷ ls) y (inr at) = let later = source ls y at in (later.0, inr later.1, later.2)

  low_then : (id : ℕ) → low_behind id next ≡ low_behind id leaves
  low_then id = low_goes (map (in_frame None) leaves) next id goes ∙ sym (low_goes (map (in_frame None) leaves) leaves id (outs_go leaves))

pub spoils_before : (bytes : List ℕ) (h next : Hub) (id at want found : ℕ) → IsDirectory h.dir → IsDirectory next.dir → HubGoesOn (all_out h) next → IsAway next.dir.leaves id → LeafSpoils bytes next.dir id at want found → LeafSpoils bytes h.dir id at want found
spoils_before bytes h next id at want found was now goes (x, named, none) spoils = by (known_or h.tables.tables spoils.leaf.table)
  where
    l : Leaf
    l = spoils.leaf

    there : Contains next.dir.leaves l × (l.id ≡ id)
    there = named_there id next.dir.leaves l spoils.there

    away : l.frame ≡ None
    away = ap (λ (y : Leaf). y.frame) (some_same (sym spoils.there ∙ named)) ∙ none

    by : IsKnown h.tables.tables l.table ⊎ IsOfNone h.tables.tables l.table → LeafSpoils bytes h.dir id at want found
    by (inr other) = absurd ((goes.dir.made l there.0 other).2 away)
    by (inl (i, t, known, its)) =
        let n = t.number in
        let kept = subst (λ (ls : List Leaf). LeavesGoOn ls (leaves_of n next.dir.leaves)) (of_outs n h.dir.leaves) (goes.dir.kept i t known) in
        let before = was_there (leaves_of n h.dir.leaves) (leaves_of n next.dir.leaves) kept l (table_in n next.dir.leaves l (member_of next.dir.leaves l there.0) its) in
        let w = before.0 in
        let own = in_table n h.dir.leaves w before.1 in
        let among = contains_of h.dir.leaves w own.0 in
        let its_id : w.id ≡ id = sym before.2.id ∙ there.1 in
        let low : low_behind id next.dir.leaves ≡ low_behind id h.dir.leaves =
        low_of next.dir now id n l there.0 there.1 its ∙ (low_then (leaves_of n h.dir.leaves) (leaves_of n next.dir.leaves) kept id ∙ sym (low_of h.dir was id n w among its_id own.1)) in
        record {
          leaf = w;
          there = ap (λ (k : ℕ). leaf_named k h.dir.leaves) (sym its_id) ∙ ids-name h.dir was w among;
          spoils = subst (λ (e : Entry). EntrySpoils bytes e (low_behind id h.dir.leaves) at want found) before.2.entry (subst (λ (k : Option (List ℕ)). EntrySpoils bytes l.entry k at want found) low spoils.spoils);
        }

-- ---- an engine without leaves

pub bare_spoils : (bytes : List ℕ) (s : Store) → s.engine.hub.dir.leaves ≡ [] → SpoilsAreThere bytes s
bare_spoils bytes s bare id at want found spoils = absurd (none_some (ap (λ (l : List Leaf). leaf_named id l) (sym bare) ∙ spoils.there))
