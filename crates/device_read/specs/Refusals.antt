-- Why a device is not read.
use Rattle.std.specs.Prelude.{◌≡◌, ◌⊎◌, ℕ, ◌+◌, ◌^◌, ◌<◌, ◌≤◌, List, ◌∷◌, ◌++◌, length}
use Rattle.limits.specs.declared.TheConstants.{TABLES_MAX}
use Rattle.failure.specs.Counts.{Rose}
use Rattle.disk_model.specs.declared.disk.Disk.{Ghosts}
use Rattle.device_layout.specs.declared.addr.Addr.{Addr}
use Rattle.device_layout.specs.declared.slot.Slot.{Slot}
use Rattle.wt_code.specs.declared.refusals.Refusal.{Refusal}
use Rattle.wt_code.specs.declared.refusals.Refusal.TheVariants.{Limit as Refusal_Limit}
use Rattle.wt_code.specs.declared.refusals.Limit.TheVariants.{Checkpoints, Tables}
use Rattle.kv_model.specs.Content.{Content}
use Rattle.stored.specs.TableTree.{Entry, first_key}
use Rattle.stored.specs.Records.{TableRoot, Record}
use Rattle.stored.specs.Stored.{Stored, IsOn, IsBlank, Reads}
use Rattle.device_leaf.specs.Openings.{last_number}
use Rattle.tree_open.specs.Damage.{Refused}
use Rattle.tree_open.specs.Trees.{InnerIs}
use Rattle.recover_open.specs.Damage.{Names, IsAmong, EntrySpoils}
use Rattle.recover_open.specs.Wholes.{IsWholeDamage}

-- ---- an opening

-- the next number leaves none for as many tables as an engine may have
abbrev pub LacksNumbers : Record → Type 0
LacksNumbers r = 2 ^ 32 + length r.tables ≤ r.next_table + TABLES_MAX

-- another run may follow the checkpoint, and the next number leaves one for each of as many tables as an engine may have
abbrev pub HasNumbers : Record → Type 0
HasNumbers r = (r.run < last_number) × (r.next_table + TABLES_MAX < 2 ^ 32 + length r.tables)

-- Why no reader is opened: as a whole survey is refused, since no run may follow the record's, or since its next number leaves none for as many tables as an engine may have. A device that reads has that record.
abbrev pub OpenRefused : (fault known : Type 0) → List ℕ → Refusal → Type 0
OpenRefused fault known bytes r =
    Refused fault known (IsWholeDamage bytes) r
    ⊎ (((r ≡ Refusal_Limit Checkpoints) × (known → (content : Content) → Reads bytes content → content.run ≡ last_number))
    ⊎ ((r ≡ Refusal_Limit Tables) × (known → (s : Stored) → IsOn bytes s → LacksNumbers s.kept) × (known → IsBlank bytes → ⊥)))

-- the same of a disk, before and after
abbrev pub RefusesOpen : {D : Type 0} → Ghosts D → (known : Type 0) → D → D → Refusal → Type 0
RefusesOpen g known old new r = OpenRefused (Rose (g.faults old) (g.faults new)) known (g.seen old) r

-- ---- a leaf

-- The inner pages of a table's tree are there, and one of its leaves is at fault, whatever the others are.
pub record LeafIsAtFault (bytes : List ℕ) (at want found : ℕ) : Type 0 where
  pub slot : Slot
  pub names : Record
  pub there : Names bytes slot names
  pub table : TableRoot
  pub among : IsAmong names.tables table
  pub es : List Entry
  pub addrs : List Addr
  pub inner : InnerIs bytes table.root es addrs
  pub front : List Entry
  pub entry : Entry
  pub others : List Entry
  pub is : es ≡ front ++ entry ∷ others
  pub leaf : EntrySpoils bytes entry (first_key others) at want found
