-- A leaf at fault, as an engine and as a reader tell it.
use Rattle.std.specs.Prelude.{ℕ, suc, List, [], ◌∷◌}
use Rattle.std.proofs.Common.{inl, inr, refl, sym, subst, arith}
use Rattle.kv_model.specs.Holds.{Member}
use Rattle.stored.specs.Records.{TableRoot}
use Rattle.tree_open.specs.declared.place.Upper.{Upper}
use Rattle.tree_open.specs.Trees.{InnerIs}
use Rattle.recover_open.specs.Bare.{HaveUppers}
use Rattle.recover_open.specs.Damage.{IsAmong}
use Rattle.device_read.specs.Refusals.{LeafIsAtFault}
use Rattle.engine_store.specs.Opened.{HasSpoiltLeaf}
use Rattle.wt_line.specs.Line.{Asked, create, write, read, list, verify, script, dump, load}
use Rattle.wt_tool.specs.Commands.{IsByReader, IsOnEngine}
use Rattle.wt_tool.specs.Top.{IsToldOf}

-- the table whose tree has this above its leaves
owner : (bytes : List ℕ) (tables : List TableRoot) (uppers : List Upper) (u : Upper) → HaveUppers bytes tables uppers → Member u uppers → (t : TableRoot) × IsAmong tables t × InnerIs bytes t.root u.entries.items u.addrs.items
owner bytes tables [] u have there = absurd there
owner bytes [] (x ∷ uppers) u have there = absurd have
owner bytes (t ∷ tables) (x ∷ uppers) u have (inl same) = (t, (0, omega arith, refl), subst (λ (y : Upper). InnerIs bytes t.root y.entries.items y.addrs.items) (sym same) have.0)
owner bytes (t ∷ tables) (x ∷ uppers) u have (inr later) =
    let there = owner bytes tables uppers u have.1 later in
    (there.0, (suc there.1.0, omega (arith, there.1.1), there.1.2), there.2)

-- by the same survey
pub leaf_fault : (bytes : List ℕ) (at want found : ℕ) → HasSpoiltLeaf bytes at want found → LeafIsAtFault bytes at want found
leaf_fault bytes at want found spoilt =
    let a = spoilt.whole in
    let surveyed = spoilt.surveyed in
    let leaf = spoilt.leaf in
    let there = owner bytes a.record.tables a.uppers.items leaf.upper surveyed.have leaf.among in
    record {
      slot = surveyed.slot;
      names = a.record;
      there = surveyed.names;
      table = there.0;
      among = there.1;
      es = leaf.upper.entries.items;
      addrs = leaf.upper.addrs.items;
      inner = there.2;
      front = leaf.front;
      entry = leaf.entry;
      others = leaf.others;
      is = leaf.is;
      leaf = leaf.spoils;
    }

-- ---- of a command that may tell it

pub engine_leaf : (asked : Asked) (before now : List ℕ) (at want found : ℕ) → IsOnEngine asked → LeafIsAtFault before at want found → IsToldOf asked before now at want found
engine_leaf (create config uri) before now at want found on fault = fault
engine_leaf (write overwrite uri pairs) before now at want found on fault = fault
engine_leaf script before now at want found on fault = inl fault
engine_leaf (load no_overwrite name) before now at want found on fault = fault
engine_leaf (read uri keys) before now at want found on fault = absurd on
engine_leaf list before now at want found on fault = absurd on
engine_leaf (dump hex reverse uri) before now at want found on fault = absurd on
engine_leaf (verify uri) before now at want found on fault = absurd on

pub reader_leaf : (asked : Asked) (before now : List ℕ) (at want found : ℕ) → IsByReader asked → LeafIsAtFault before at want found → IsToldOf asked before now at want found
reader_leaf (read uri keys) before now at want found by fault = fault
reader_leaf list before now at want found by fault = fault
reader_leaf (dump hex reverse uri) before now at want found by fault = fault
reader_leaf (create config uri) before now at want found by fault = absurd by
reader_leaf (write overwrite uri pairs) before now at want found by fault = absurd by
reader_leaf (verify uri) before now at want found by fault = absurd by
reader_leaf script before now at want found by fault = absurd by
reader_leaf (load no_overwrite name) before now at want found by fault = absurd by
