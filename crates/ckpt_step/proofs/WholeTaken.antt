-- A checkpoint that is finished as it starts: what it answers.
use Rattle.std.specs.Prelude.{◌≡◌, List, [], ◌∷◌, Option, Result, Ok, Err, refl}
use Rattle.std.proofs.Common.{inl, inr, sym, ap, subst}
use Rattle.failure.specs.Counts.{Rose}
use Rattle.disk_model.specs.declared.disk.Disk.{Ghosts}
use Rattle.wt_code.specs.declared.refusals.Refusal.{Refusal}
use Rattle.kv_model.specs.Decisions.{StartCall}
use Rattle.kv_model.specs.History.{Table, tables}
use Rattle.kv_model.specs.Holds.{Member}
use Rattle.kv_model.specs.Machine.{CheckpointStart, Machine, after}
use Rattle.kv_model.proofs.Finishing.{first-start}
use Rattle.stored.specs.Stored.{Stored}
use Rattle.engine_world.specs.Stands.{Engine}
use Rattle.engine_world.specs.Worlds.{World}
use Rattle.engine.specs.Checkpoints.{MayStart}
use Rattle.engine.specs.declared.running_checkpoint.RunningCheckpoint.{RunningCheckpoint}
use Rattle.engine_world.proofs.HubMoves.{decided-down}
use Rattle.hist_gather.proofs.Members.{member_turned}
use Rattle.ckpt_content.specs.Finished.{tables_then}
use Rattle.ckpt_step.specs.declared.ground.Ground.{Ground}
use Rattle.ckpt_step.specs.declared.lives.Lone.{Lone}
use Rattle.ckpt_step.specs.Floors.{GoesOn}
use Rattle.ckpt_step.specs.Grounds.{number_of}
use Rattle.ckpt_step.specs.Lives.{AreOfOthers}
use Rattle.ckpt_step.specs.Moments.{Moment, moment_of}
use Rattle.ckpt_step.specs.Rooms.{known_in}
use Rattle.ckpt_step.specs.Takes.{Finished, FallenDown, Fallen, Finishes, IsWholeAt, NotTaken, Starts, Taken, Takes, Unfinished, WhyNot, WhyUnfinished, begun}
use Rattle.ckpt_step.proofs.Floors.{follows_goes, same_machine}
use Rattle.ckpt_step.proofs.Members.{get_member}
use Rattle.ckpt_step.proofs.ServingCells.{cells_serve}
use Rattle.ckpt_step.proofs.WholeCells.{whole_head}

-- ---- the machine

pub started_goes : (m : Machine) → GoesOn m (after m CheckpointStart)
started_goes m = same_machine m (after m CheckpointStart) refl refl refl refl

unstarted_goes : (m : Machine) → GoesOn (after m CheckpointStart) m
unstarted_goes m = same_machine (after m CheckpointStart) m refl refl refl refl

-- the tables that stood as it started are those that stand
tables_same : (m : Machine) → tables_then (after m CheckpointStart) (begun m) ≡ tables m.history
tables_same m = ap tables (first-start [] m.history)

no_lone : (lives : List Lone) → ((x : Lone) → Member x lives → ⊥) → lives ≡ []
no_lone [] none = refl
no_lone (x ∷ lives) none = absurd (none x (inl refl))

-- ---- as it started

module _ (e : Engine) (stand : Ground) (w : World) (running : RunningCheckpoint) (starts : Starts e stand w running) where
  abbrev pub then_world : World
  then_world = record w { machine = after w.machine CheckpointStart }

  abbrev pub whole : Moment
  whole = moment_of e then_world (begun w.machine)

  -- the engine has the newest version of each key
  pub is_whole : IsWholeAt w.machine whole
  is_whole = record {
    machine = refl;
    checkpoint = refl;
    newest = λ t there key.
        let serves = cells_serve e then_world (begun w.machine) running starts.stands starts.under_way.runs starts.under_way.is t (subst (λ (l : List Table). Member t l) (sym (tables_same w.machine)) there) key in
        whole_head (after w.machine CheckpointStart) t.number key (whole.cells t.number key) starts.stands.valid serves.there serves.top;
  }

  -- no leaf is of another table
  none_other : (lives others : List Lone) → AreOfOthers (tables_then whole.world.machine whole.checkpoint) e.hub.dir.leaves lives others → others ≡ []
  none_other lives others are = no_lone others (λ x there.
      let leaf = (are.each x there).1 in
      let owned = starts.stands.owned leaf.0 leaf.1 in
      let stands : Member owned.1 (tables w.machine.history) = subst (λ (l : List Table). Member owned.1 l) starts.stands.made (member_turned owned.1 e.hub.tables.tables (get_member e.hub.tables.tables owned.0 owned.1 owned.2)) in
      leaf.4 owned.1 (subst (λ (l : List Table). Member owned.1 l) (sym (tables_same w.machine)) stands) owned.3)

  module _ {D : Type 0} (g : Ghosts D) (old : Option Stored) (stand' : Ground) (e' : Engine) (before after : D) (may : MayStart w.machine (number_of old) (Ok tt)) where
    taken : Finished g old whole stand stand' e e' before after → Taken g old w stand stand' e e' before after
    taken f = record {
      new = f.new;
      is = f.is;
      leaves = f.leaves;
      each = f.each;
      on = f.on;
      follows = f.follows;
      none = none_other stand.lives stand'.lives f.others;
      had_room = (whole, is_whole, f.had_room);
      kept = f.kept;
      may = may;
      same = f.same;
      stands = f.stands;
    }

    why_not : (r : Refusal) → WhyUnfinished (Rose (g.faults before) (g.faults after)) (g.seen before) (g.capacity before) stand.lives e.hub.dir.leaves (known_in stand.parts) whole r
        → WhyNot (Rose (g.faults before) (g.faults after)) (g.seen before) (g.capacity before) stand.lives e.hub.dir.leaves (known_in stand.parts) w.machine (number_of old) r
    why_not r (inl down) = inl (subst (λ (x : Refusal). MayStart w.machine (number_of old) (Err x)) (sym down.2) (decided-down w.machine 0 (StartCall (number_of old)) down.0 down.1 refl))
    why_not r (inr (inl is)) = inr (inl is)
    why_not r (inr (inr (inl full))) = inr (inr (may, inl (full.0, (whole, is_whole, full.1))))
    why_not r (inr (inr (inr failed))) = inr (inr (may, inr failed))

    not_taken : (r : Refusal) → Unfinished g old whole stand stand' e e' before after r → NotTaken g old w stand stand' e e' before after r
    not_taken r u = record {
      why = why_not r u.why;
      leaves = u.leaves;
      on = u.on;
      follows = follows_goes old e.hub.tables.tables stand'.lives e.hub.dir.leaves (known_in stand'.parts) stand'.trees.items stand'.floor then_world w (unstarted_goes w.machine) refl u.follows;
      since = u.since;
      same = u.same;
    }

    fallen : (r : Refusal) → FallenDown g old whole stand stand' e e' before after r → Fallen g old w stand stand' e e' before after r
    fallen r f = record { is = f.is; may = may; rose = f.rose; fault = f.fault; down = f.down; leaves = f.leaves }

    pub whole_taken : (answer : Result (Unit {0}) Refusal) → Finishes g old whole stand stand' e e' before after answer → Takes g old w stand stand' e e' before after answer
    whole_taken (Ok done) f = taken f
    whole_taken (Err r) (inl u) = inl (not_taken r u)
    whole_taken (Err r) (inr f) = inr (fallen r f)
