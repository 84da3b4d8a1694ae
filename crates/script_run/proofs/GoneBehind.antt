-- What goes behind the line of an actor.
use Rattle.std.specs.Prelude.{◌≡◌, Option, None, Some}
use Rattle.std.proofs.Common.{inl, inr, refl, sym, ap, subst, ◌∙◌}
use Rattle.failure.specs.Counts.{Rose}
use Rattle.disk_model.specs.declared.disk.Disk.{Ghosts}
use Rattle.kv_model.specs.Machine.{GoDown, Machine, after as after_event}
use Rattle.script_text.specs.declared.line.Line.{Line}
use Rattle.script_text.specs.declared.line.Line.TheVariants.{Whole, Start, Step, Finish, Control}
use Rattle.script_text.specs.declared.replies.Reply.{Reply}
use Rattle.item.specs.declared.formats.Formats.{Formats}
use Rattle.engine.specs.declared.turning.Evicting.{Evicting}
use Rattle.engine_store.specs.declared.store.Store.{Store}
use Rattle.engine_store.specs.Devices.{Device, IsLater, KeepsCheckpoint, device_of}
use Rattle.engine_store.specs.Held.{IsHeld}
use Rattle.engine_store.specs.Room.{RoomMade, RoomOf}
use Rattle.script_run.specs.Runs.{IsOfActor}
use Rattle.script_run.specs.Scripts.{ActorReplies, Behind, CheckpointCallReplies, GoneBehind, IsFree, LeavesGone, Replies, RepliesBy, RepliesTo, Script, actor_of, eviction_of, number_of}
use Rattle.script_run.specs.declared.checkpointing.CheckpointStage.{CheckpointStage}
use Rattle.script_run.specs.Checkpointing.{checkpointing_of}

-- ---- a line of an actor

pub behind_actor : (asked : Line) (s later : Script) → IsOfActor asked → GoneBehind s later → Behind asked s later
behind_actor (Whole made) s later now gone = gone
behind_actor (Start made) s later now gone = gone
behind_actor (Step who) s later now gone = gone
behind_actor (Finish who) s later now gone = gone
behind_actor (Control asked) s later now gone = absurd now

-- a line of an actor
abbrev pub IsActors : Line → Type 0
IsActors (Control asked) = ⊥
IsActors _ = Unit {0}

pub actors_line : (asked : Line) → IsOfActor asked → IsActors asked
actors_line (Whole made) now = tt
actors_line (Start made) now = tt
actors_line (Step who) now = tt
actors_line (Finish who) now = tt
actors_line (Control asked) now = absurd now

module _ (s : Script) (formats : Formats) (reply : Reply) (later : Script) where
  freely : (asked : Line) → IsFree (actor_of asked) s.kept → ActorReplies asked s formats reply later → RepliesTo asked s formats reply later
  freely asked none is =
      subst (λ (o : Option Evicting). RepliesBy o (checkpointing_of (actor_of asked) s.kept.checkpointing) asked s formats reply later) (sym none.0)
      (subst (λ (o : Option CheckpointStage). RepliesBy None o asked s formats reply later) (sym none.1) is)

  called : (asked : Line) (at : CheckpointStage) → eviction_of (actor_of asked) s.kept.evicting ≡ None → checkpointing_of (actor_of asked) s.kept.checkpointing ≡ Some at → CheckpointCallReplies asked (number_of (actor_of asked)) at s reply later → RepliesTo asked s formats reply later
  called asked at none there is =
      subst (λ (o : Option Evicting). RepliesBy o (checkpointing_of (actor_of asked) s.kept.checkpointing) asked s formats reply later) (sym none)
      (subst (λ (o : Option CheckpointStage). RepliesBy None o asked s formats reply later) (sym there) is)

-- no call of its actor is kept
pub replies_free : (asked : Line) (s : Script) (formats : Formats) (reply : Reply) (later : Script) → IsActors asked → IsFree (actor_of asked) s.kept → ActorReplies asked s formats reply later → Replies asked s formats reply later
replies_free (Whole made) s formats reply later now none is = freely s formats reply later (Whole made) none is
replies_free (Start made) s formats reply later now none is = freely s formats reply later (Start made) none is
replies_free (Step who) s formats reply later now none is = freely s formats reply later (Step who) none is
replies_free (Finish who) s formats reply later now none is = freely s formats reply later (Finish who) none is
replies_free (Control asked) s formats reply later now none is = absurd now

-- its actor has a call of a checkpoint at this stage
pub replies_called : (asked : Line) (s : Script) (formats : Formats) (reply : Reply) (later : Script) (at : CheckpointStage) → IsActors asked → eviction_of (actor_of asked) s.kept.evicting ≡ None → checkpointing_of (actor_of asked) s.kept.checkpointing ≡ Some at
    → CheckpointCallReplies asked (number_of (actor_of asked)) at s reply later → Replies asked s formats reply later
replies_called (Whole made) s formats reply later at now none there is = called s formats reply later (Whole made) at none there is
replies_called (Start made) s formats reply later at now none there is = called s formats reply later (Start made) at none there is
replies_called (Step who) s formats reply later at now none there is = called s formats reply later (Step who) at none there is
replies_called (Finish who) s formats reply later at now none there is = called s formats reply later (Finish who) at none there is
replies_called (Control asked) s formats reply later at now none there is = absurd now

module _ {D : Type 0} (g : Ghosts D) (first : D) (s : Script) (store store' : Store) (disk disk' : D) (there : s.device ≡ device_of g disk) where
  -- the store and its disk stand for what it leaves
  pub record IsBehind : Type 0 where
    pub later : Script
    pub gone : GoneBehind s later
    pub held : IsHeld g first store' disk' later.world later.first later.made
    pub device : later.device ≡ device_of g disk'
    pub start : later.first ≡ s.first
    pub kept : later.kept ≡ s.kept
    pub frames : later.frames ≡ s.frames
    pub progress : later.progress ≡ s.progress

  module _ (next : Machine) (x : RoomMade g first s.world s.first s.made store store' disk disk' next) where
    abbrev pub now : Script
    now = record s { world = record s.world { machine = next; shelf = x.shelf; again = x.again }; device = device_of g disk' }

    pub gone : LeavesGone s next (device_of g disk') now
    gone = record {
      shelf = x.shelf;
      again = x.again;
      more = x.more;
      after = subst (λ (d : Device). IsLater d (device_of g disk')) (sym there) x.later;
      capacity = x.capacity ∙ sym (ap (λ (d : Device). d.capacity) there);
      leaves = refl;
    }

    is_behind : GoneBehind s now → IsBehind
    is_behind went = record { later = now; gone = went; held = x.held; device = refl; start = refl; kept = refl; frames = refl; progress = refl }

  pub gone_behind : RoomOf g first s.world s.first s.made store store' disk disk' → IsBehind
  gone_behind (inl up) =
      is_behind s.world.machine up.room
      (inl (record { device = device_of g disk'; gone = gone s.world.machine up.room; keeps = subst (λ (d : Device). KeepsCheckpoint d (device_of g disk')) (sym there) up.keeps }))
  gone_behind (inr down) =
      let next = after_event s.world.machine (GoDown down.fault) in
      is_behind next down.room
      (inr (record { fault = down.fault; device = device_of g disk'; gone = gone next down.room; rose = subst (λ (d : Device). Rose d.faults (g.faults disk')) (sym there) down.rose }))
