-- What a device holds, and the history and the machine that an opening makes of it.
use Rattle.std.specs.Prelude.{◌≡◌, ◌⊎◌, ℕ, ◌+◌, Bool, true, not, ◌&&◌, ◌||◌, ◌==◌, nat_lt, List, [], ◌∷◌, ◌++◌, filter, None, if◌then◌else◌}
use Rattle.std.specs.List.{list_any}
use Rattle.std.specs.declared.cmp.Ordering.{Ordering}
use Rattle.std.specs.Ordering.{nat_cmp, on, then_cmp, is_lt}
use Rattle.std.specs.Cmp.Lexicographic.{slice_cmp}
use Rattle.stamp.specs.declared.Name.{Name}
use Rattle.kv_model.specs.Holds.{Member}
use Rattle.kv_model.specs.History.{Entry, Table, Placed, history_of, is_at, is_stable, name_eq, has_table, Agree}
use Rattle.kv_model.specs.Ordered.{Older}
use Rattle.kv_model.specs.Machine.{Machine, Completed}

-- the ids that had not ended, prepared ones too, when the checkpoint started: ids is sorted, each from min to below max
pub record Snapshot : Type 0 where
  pub min : ℕ
  pub max : ℕ
  pub ids : List ℕ

-- cells: the versions of the leaves; records: those of the history; tables: ascending by name
pub record Content : Type 0 where
  pub run : ℕ
  pub oldest : ℕ
  pub stable : ℕ
  pub snapshot : Snapshot
  pub tables : List Table
  pub cells : List Placed
  pub records : List Placed

-- a device on which no checkpoint was completed
abbrev pub nothing : Content
nothing = record {
  run = 0;
  oldest = 0;
  stable = 0;
  snapshot = record { min = 0; max = 0; ids = [] };
  tables = [];
  cells = [];
  records = [];
}

-- an id is below min, or below max and not listed
abbrev pub sees_id : Snapshot → ℕ → Bool
sees_id s id = nat_lt id s.min || (nat_lt id s.max && not (list_any (λ n. n == id) s.ids))

-- a name of an earlier run is seen, one of this run where its id is, one of a later run is not
abbrev pub sees_name : ℕ → Snapshot → Name → Bool
sees_name run s name = nat_lt name.run run || ((name.run == run) && sees_id s name.id)

-- the version is of a table that is there, the recorded snapshot sees its name, and it is durable at the recorded stable stamp
abbrev pub is_kept_version : Content → Placed → Bool
is_kept_version c p = has_table c.tables p.table && (sees_name c.run c.snapshot p.version.window.name && is_stable c.stable p.version)

-- the same key and name
abbrev pub is_again : Placed → Placed → Bool
is_again p q = is_at q.table q.key p && name_eq p.version.window.name q.version.window.name

abbrev pub kept_cells : Content → List Placed
kept_cells c = filter (is_kept_version c) c.cells

-- the versions that an opening keeps: the cells, and the records that are not a cell again
abbrev pub kept : Content → List Placed
kept c = kept_cells c ++ filter (λ p. is_kept_version c p && not (list_any (is_again p) (kept_cells c))) c.records

-- a list in descending order, by insertion
module _ {A : Type 0} (lt : A → A → Bool) where
  abbrev pub inserted : A → List A → List A
  inserted x [] = x ∷ []
  inserted x (y ∷ ys) = if lt y x then x ∷ (y ∷ ys) else y ∷ inserted x ys

  abbrev pub descending : List A → List A
  descending [] = []
  descending (x ∷ xs) = inserted x (descending xs)

-- by name, then by table number, then by key
abbrev pub placed_cmp : Placed → Placed → Ordering
placed_cmp = then_cmp (on (λ p. p.version.window.name.run) nat_cmp) (then_cmp (on (λ p. p.version.window.name.id) nat_cmp) (then_cmp (on (λ p. p.table) nat_cmp) (on (λ p. p.key) (slice_cmp nat_cmp))))

abbrev pub placed_lt : Placed → Placed → Bool
placed_lt p q = is_lt (placed_cmp p q)

abbrev pub table_lt : Table → Table → Bool
table_lt t u = nat_lt t.number u.number

-- the content as a history: the tables by number, then one commit for each kept version, ascending by name, then table number, then key
abbrev pub base : Content → List Entry
base c = history_of (descending table_lt c.tables) (descending placed_lt (kept c))

-- the machine that an opening makes
abbrev pub start : Content → Machine
start c = record {
  history = base c;
  run = c.run + 1;
  next = 1;
  oldest = c.oldest;
  stable = c.stable;
  sessions = [];
  cursors = [];
  checkpoint = None;
  completed = record { content = base c; oldest = c.oldest; stable = c.stable };
  rollbacks = 0;
  fault = None;
}

-- each record that is kept has a cell of its key with a greater name, or that is the same version
abbrev pub IsLayered : Content → Type 0
IsLayered c = (p : Placed) → Member p c.records → is_kept_version c p ≡ true
    → (q : Placed) × Member q c.cells × (is_at p.table p.key q ≡ true) × ((p.version ≡ q.version) ⊎ Older p.version q.version)

-- the content is layered and is that of this checkpoint, from its oldest stamp on
pub record OpensAs (c : Content) (done : Completed) : Type 0 where
  pub layered : IsLayered c
  pub oldest : c.oldest ≡ done.oldest
  pub stable : c.stable ≡ done.stable
  pub agrees : Agree (base c) done.content done.oldest
