-- The leaf at which a call begins in a table.
use Rattle.std.proofs.Common.{◌≡◌, ℕ, zero, suc, refl, ap, ◌∙◌, List, [], ◌∷◌, subst, map}
use Rattle.std.specs.Prelude.{Option, Some, None, slice_index_or}
use Rattle.std.specs.List.{Contains}
use Rattle.kv_model.specs.Machine.{Machine, cursors_of}
use Rattle.kv_model.specs.Rows.{starts_at}
use Rattle.tree_dir.specs.declared.leaf.Leaf.{Leaf}
use Rattle.tree_dir.specs.Leaves.{Directory, IsDirectory}
use Rattle.tree_dir.proofs.Parting.{has-under, keys-have, tables-end}
use Rattle.wt_calls.specs.Calls.{way_in}
use Rattle.call_steps.specs.declared.cursor.Cursor.{Cursor}
use Rattle.call_steps.specs.declared.cursor.Position.{Position}
use Rattle.call_steps.specs.declared.stage.KeyCall.{KeyCall}
use Rattle.call_steps.specs.declared.stage.KeyCall.TheVariants as key_call
use Rattle.call_steps.specs.declared.stage.Stage.{Stage}
use Rattle.call_steps.specs.Looks.{start_in, starts_from}
use Rattle.call_steps.specs.State.{State, at_stage}
use Rattle.call_steps.specs.Tables.{leaf_sought, row_sought, sought}
use Rattle.engine_world.specs.Stages.{IsSought}
use Rattle.engine_world.specs.Stands.{position_in}
use Rattle.engine_world.proofs.WalkKeys.{none-passed}

-- a cursor starts where it starts in the machine
pub start-same : (ks : List Cursor) (cursor table : ℕ) → start_in ks cursor table ≡ starts_at table (slice_index_or (map position_in ks) cursor None)
start-same [] cursor table = refl
start-same (k ∷ ks) zero table = by k.position where
  by : (o : Option Position) → starts_from table o ≡ starts_at table (position_in (record k { position = o }))
  by None = refl
  by (Some p) = refl
start-same (k ∷ ks) (suc n) table = start-same ks n table

-- a table that has a leaf has one at which a call begins
pub sought-some : (d : Directory) (m : Leaf) (key : Option (List ℕ)) → IsDirectory d → Contains d.leaves m → (l : Leaf) × (leaf_sought d.leaves m.table key ≡ Some l)
sought-some d m None is there = tables-end d.leaves m there
sought-some d m (Some key) is there = let h = keys-have d is m there key in (h.0, has-under d is m.table key h.0 h.1)

-- it is the one that is sought, and a walk has passed nothing yet
pub begins-sought : (m : Machine) (d : Directory) (session : ℕ) (a : State) (g : Stage) (call : KeyCall) (l : Leaf) → IsDirectory d → map position_in a.cursors ≡ cursors_of m session
    → leaf_sought d.leaves l.table (sought call a l.table) ≡ Some l → IsSought m d.leaves session (at_stage g a) call l
begins-sought m d session a g (key_call.Step cursor way) l is cursors e = λ t there key passed.
    absurd (none-passed d (way_in way) (starts_at l.table (slice_index_or (cursors_of m session) cursor None)) l.table l key is
    (subst (λ (f : Option (List ℕ)). leaf_sought d.leaves l.table (row_sought (way_in way) f) ≡ Some l)
    (start-same a.cursors cursor l.table ∙ ap (λ ks. starts_at l.table (slice_index_or ks cursor None)) cursors) e) passed)
begins-sought m d session a g call l is cursors e = e
