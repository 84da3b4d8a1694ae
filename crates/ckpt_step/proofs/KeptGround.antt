-- A ground of which something else is kept is that of the same checkpoint.
use Rattle.std.specs.Prelude.{ℕ, List, Option}
use Rattle.std.proofs.Common.{inl, inr}
use Rattle.disk_model.specs.declared.disk.Disk.{Ghosts}
use Rattle.wt_code.specs.declared.refusals.Refusal.{Refusal}
use Rattle.reconcile.specs.declared.image.Moved.{Moved}
use Rattle.stored.specs.Stored.{Stored}
use Rattle.call_steps.specs.declared.hub.Hub.{Hub}
use Rattle.engine_world.specs.Stands.{Engine}
use Rattle.engine_world.specs.Worlds.{Records, World}
use Rattle.evict_step.specs.Kept.{Lists}
use Rattle.ckpt_step.specs.declared.ground.Ground.{Ground}
use Rattle.ckpt_step.specs.Evicts.{LeftFrame, LeftInParts}
use Rattle.ckpt_step.specs.Floors.{Follows}
use Rattle.ckpt_step.specs.Grounds.{StandsOn}
use Rattle.ckpt_step.specs.WritesOut.{NotWritten, RefusesOut}

pub stands_kept : (seen : List ℕ) (images : List ℕ → Type 0) (hub : Hub) (g : Ground) (old : Option Stored) (kept : Lists) → StandsOn seen images hub g old → StandsOn seen images hub (record g { kept = kept }) old
stands_kept seen images hub g old kept on = record {
  stands = on.stands;
  number = on.number;
  slot = on.slot;
  cells = on.cells;
  units = on.units;
  idle = on.idle;
  long = on.long;
  within = on.within;
  roots = on.roots;
  history = on.history;
  written = on.written;
  since = on.since;
  led = on.led;
}

-- what the history keeps does not matter
pub follows_records : (old : Option Stored) (hub : Hub) (g : Ground) (w : World) (records : Records) → Follows old hub g w → Follows old hub g (record w { records = records })
follows_records old hub g w records follows = record { respects = follows.respects; leaf = follows.leaf; since = follows.since }

module _ {D : Type 0} (g : Ghosts D) (old : Option Stored) (w : World) (stand stand' : Ground) (e e' : Engine) (id : ℕ) (before after : D) (was now : Lists) where
  pub not_written_kept : NotWritten g old w (record stand { kept = was }) stand' e e' id before after → NotWritten g old w stand (record stand' { kept = now }) e e' id before after
  not_written_kept not = record {
    left = not.left;
    on = stands_kept (g.seen after) (g.may_leave after) e.hub stand' old now not.on;
    follows = not.follows;
    since = not.since;
    same = not.same;
  }

  pub refuses_kept : (r : Refusal) → RefusesOut g old w (record stand { kept = was }) stand' e e' id before after r → RefusesOut g old w stand (record stand' { kept = now }) e e' id before after r
  refuses_kept r (inl (not, why)) = inl (not_written_kept not, why)
  refuses_kept r (inr fallen) = inr (record { is = fallen.is; rose = fallen.rose; fault = fallen.fault; down = fallen.down; left = fallen.left })

  pub left_kept : (moved : List Moved) → LeftFrame g old w (record stand { kept = was }) stand' e e' id before after moved → LeftFrame g old w stand stand' e e' id before after moved
  left_kept moved left = record {
    link = left.link;
    rows = left.rows;
    out = left.out;
    left = left.left;
    stands = left.stands;
    on = left.on;
    follows = left.follows;
    since = left.since;
    live = left.live;
    freed = left.freed;
    forgets = left.forgets;
  }

  -- of what each of the leaves keeps that took its place
  pub parts_kept : (moved : List Moved) → LeftInParts g old w stand stand' e e' id before after moved → LeftInParts g old w stand (record stand' { kept = now }) e e' id before after moved
  parts_kept moved left = record {
    grown = left.grown;
    entries = left.entries;
    parted = left.parted;
    ids = left.ids;
    left = left.left;
    shelf = left.shelf;
    to = left.to;
    own = left.own;
    stands = left.stands;
    on = stands_kept (g.seen after) (g.may_leave after) e'.hub stand' old now left.on;
    follows = left.follows;
    since = left.since;
    live = left.live;
    freed = left.freed;
    forgets = left.forgets;
  }
