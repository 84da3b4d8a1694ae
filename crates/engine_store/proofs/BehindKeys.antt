-- The low key of the leaf behind another one, as it is looked up.
use Rattle.std.proofs.Common.{◌≡◌, ℕ, List, Option, Some, sym, ap, subst, ◌∙◌, inl, inr}
use Rattle.std.specs.Prelude.{IfErr, IfOk, IsTrue, Result, Ok, Err, option_map}
use Rattle.device_layout.specs.declared.link.Link.{Link}
use Rattle.disk_model.specs.declared.disk.Disk.{Ghosts}
use Rattle.failure.specs.Counts.{Rose}
use Rattle.wt_code.specs.declared.refusals.Refusal.{Refusal}
use Rattle.leaf_frame.specs.Leaf.{HeldLeaf}
use Rattle.leaf_load.specs.Loads.{IsLoaded, entry_of}
use Rattle.leaf_rows.specs.declared.marks.Marks.{Marks}
use Rattle.stored.specs.TableTree.{Entry}
use Rattle.recover_open.specs.Damage.{EntrySpoils}
use Rattle.tree_open.specs.Damage.{Refused}
use Rattle.tree_dir.specs.declared.leaf.Leaf.{Leaf}
use Rattle.tree_dir.specs.Leaves.{Directory, IsDirectory, leaf_behind, leaf_named}
use Rattle.ckpt_step.proofs.NextLeaf.{found_behind}
use Rattle.engine_store.specs.Loads.{IsReadAs, RefusesLeaf, low_behind}

-- by the id of the next leaf
pub behind_key : (d : Directory) → IsDirectory d → (id next : ℕ) (l : Leaf) → Some next ≡ option_map (λ (x : Leaf). x.id) (leaf_behind id d.leaves) → Some l ≡ leaf_named next d.leaves → low_behind id d.leaves ≡ Some l.entry.key
behind_key d is id next l there named = ap (option_map (λ (y : Leaf). y.entry.key)) (sym (found_behind d is id next there) ∙ sym named)

-- ---- what was read there

module _ (dir : Directory) (id : ℕ) (leaf : Leaf) (low : List ℕ) (link : Link) (next : Option (List ℕ)) (there : leaf_named id dir.leaves ≡ Some leaf) (low_is : low ≡ leaf.entry.key) (link_is : link ≡ leaf.entry.link) (next_is : next ≡ low_behind id dir.leaves) where
  entry_is : entry_of low link ≡ leaf.entry
  entry_is = ap (λ (k : List ℕ). entry_of k link) low_is ∙ ap (λ (l : Link). entry_of leaf.entry.key l) link_is

  pub read_as : {E : Type 0} (bytes : List ℕ) (marks : Marks) (ids : List ℕ) (r : Result HeldLeaf E) → IfOk r (IsLoaded bytes (entry_of low link) next marks ids) → IfOk r (IsReadAs bytes dir id marks ids)
  read_as bytes marks ids (Err e) loaded = tt
  read_as bytes marks ids (Ok held) loaded = record {
    leaf = leaf;
    there = there;
    loaded = subst (λ (e : Entry). IsLoaded bytes e (low_behind id dir.leaves) marks ids held) entry_is (subst (λ (k : Option (List ℕ)). IsLoaded bytes (entry_of low link) k marks ids held) next_is loaded);
  }

  pub refuses_leaf : {T D : Type 0} (g : Ghosts D) (old new : D) (r : Result T Refusal) → IfErr r (Refused (Rose (g.faults old) (g.faults new)) (IsTrue (g.honest old)) (EntrySpoils (g.seen old) (entry_of low link) next)) → IfErr r (RefusesLeaf g dir id old new)
  refuses_leaf g old new (Ok held) err = tt
  refuses_leaf g old new (Err r) (inl failed) = inl failed
  refuses_leaf g old new (Err r) (inr (inl none)) = inr (inl none)
  refuses_leaf g old new (Err r) (inr (inr (at, want, found, is, spoils))) = inr (inr (
    at,
    want,
    found,
    is,
    λ known. record {
      leaf = leaf;
      there = there;
      spoils = subst (λ (e : Entry). EntrySpoils (g.seen old) e (low_behind id dir.leaves) at want found) entry_is (subst (λ (k : Option (List ℕ)). EntrySpoils (g.seen old) (entry_of low link) k at want found) next_is (spoils known));
    },
  ))
