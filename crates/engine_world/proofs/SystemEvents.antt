-- What stands over the events that are of no session.
use Rattle.std.proofs.Common.{◌≡◌, ◌≢◌, ℕ, refl, List, length, arith}
use Rattle.std.specs.Prelude.{None, Some, slice_get}
use Rattle.std.proofs.lemmas.Option.{slice_get_within}
use Rattle.kv_model.specs.Allowed.{Allowed}
use Rattle.kv_model.specs.History.{Table}
use Rattle.kv_model.specs.Machine.{Machine, after, SetStamps, CreateTable}
use Rattle.kv_model.specs.Valid.{Valid}
use Rattle.kv_model.proofs.RowRanges.{value-goes-on}
use Rattle.tree_dir.specs.declared.leaf.Leaf.{Leaf}
use Rattle.call_steps.specs.declared.frame.FramePiece.{FramePiece}
use Rattle.engine_world.proofs.Beside.{LeavesStay, MachineApart}
use Rattle.engine_world.proofs.Events.{slots-same}
use Rattle.engine_world.proofs.NotedSlots.{stay-same}

-- ---- the leaves

pub leaves-same : (leaves : List Leaf) (pieces : List FramePiece) → LeavesStay None leaves leaves pieces pieces
leaves-same leaves pieces = stay-same leaves pieces pieces (slots-same pieces)

-- ---- the machine, as to any session

pub raised-apart : (session : ℕ) (m : Machine) (oldest stable : ℕ) → Valid m → Allowed m (SetStamps oldest stable) → MachineApart session m (after m (SetStamps oldest stable))
raised-apart session m oldest stable valid may = record {
  run = refl;
  fault = refl;
  others = λ r other. refl;
  cursors = λ r other. refl;
  held = λ r t table key other there alive own. refl;
  grown = λ table key v member. member;
  none = λ r t table key other there drawn none. none;
  absent = λ r t table key other there reads. value-goes-on m (SetStamps oldest stable) r t table key None valid may there tt reads;
}

pub created-apart : (session : ℕ) (m : Machine) (table : Table) → Valid m → Allowed m (CreateTable table) → MachineApart session m (after m (CreateTable table))
created-apart session m table valid may = record {
  run = refl;
  fault = refl;
  others = λ r other. refl;
  cursors = λ r other. refl;
  held = λ r t table key other there alive own. refl;
  grown = λ table key v member. member;
  none = λ r t table key other there drawn none. none;
  absent = λ r t number key other there reads. value-goes-on m (CreateTable table) r t number key None valid may there tt reads;
}

-- nothing happens
pub same-apart : (session : ℕ) (m : Machine) → MachineApart session m m
same-apart session m = record {
  run = refl;
  fault = refl;
  others = λ r other. refl;
  cursors = λ r other. refl;
  held = λ r t table key other there alive own. refl;
  grown = λ table key v member. member;
  none = λ r t table key other there drawn none. none;
  absent = λ r t number key other there reads. reads;
}

-- every session is another one
pub past-all : {A : Type 0} (xs : List A) (r : ℕ) (x : A) → slice_get xs r ≡ Some x → r ≢ length xs
past-all xs r x there = let within = slice_get_within xs r x there in omega arith
