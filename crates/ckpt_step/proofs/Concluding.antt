-- What a checkpoint answers, from how it went.
use Rattle.std.specs.Prelude.{◌≡◌, ◌⊎◌, ℕ, List, Option, Some, Result, Ok, Err, IfErr, OnErr, OnOk, refl}
use Rattle.std.proofs.Common.{inl, inr, sym, subst}
use Rattle.failure.specs.Counts.{Rose}
use Rattle.failure.specs.declared.Fault.{Fault}
use Rattle.disk_model.specs.declared.disk.Disk.{Ghosts}
use Rattle.disk_model.proofs.Crash.{started}
use Rattle.wt_code.specs.declared.refusals.Refusal.{Refusal}
use Rattle.wt_code.specs.declared.store_error.StoreError.{StoreError}
use Rattle.wt_code.specs.declared.store_error.StoreError.TheVariants.{NoMemory, NoSpace, Read, Down}
use Rattle.stored.specs.Stored.{Stored}
use Rattle.checkpoint_core.specs.Finishes.{IsOld}
use Rattle.engine_world.specs.Stands.{Engine, Stands}
use Rattle.engine_world.specs.Systems.{with_fault}
use Rattle.engine_world.specs.Worlds.{World}
use Rattle.kv_model.specs.Machine.{Checkpoint, Machine, finished}
use Rattle.ckpt_step.specs.declared.ground.Ground.{Ground}
use Rattle.ckpt_step.specs.Floors.{AreLivesOn, Follows, GoesOn}
use Rattle.ckpt_step.specs.Grounds.{StandsOn, number_of}
use Rattle.wt_code.specs.StoreErrors.{IsOfDisk}
use Rattle.ckpt_step.specs.Moments.{Moment}
use Rattle.ckpt_step.specs.Rooms.{known_in}
use Rattle.ckpt_step.specs.Runs.{Concludes, Wrote}
use Rattle.ckpt_step.specs.Takes.{Finishes, NotTaken, Unfinished, WhyNot, WhyUnfinished, finished_world}
use Rattle.ckpt_step.proofs.Floors.{follows_goes, same_machine}

-- the floor of a machine whose checkpoint is finished, or starts, is about the same
finished_goes : (m : Machine) (c : Checkpoint) → GoesOn m (finished m c)
finished_goes m c = same_machine m (finished m c) refl refl refl refl

module _ {D : Type 0} (g : Ghosts D) (old : Option Stored) (n : Moment) (stand stand' : Ground) (e e' : Engine) (before after : D) where
  -- once it was written, or was not
  pub concluded : (outcome : Result (Unit {0}) StoreError) (answer : Result (Unit {0}) Refusal) → Wrote g old n e.hub stand stand' before after outcome → IfErr outcome (λ x. IsOfDisk x → Rose (g.faults before) (g.faults after)) → Concludes e e' outcome answer
      → (answer ≡ Ok tt → Stands e' (finished_world n)) → Finishes g old n stand stand' e e' before after answer
  concluded (Ok done) answer wrote failed (is, same) stands = subst (λ (r : Result (Unit {0}) Refusal). Finishes g old n stand stand' e e' before after r) (sym is) (record {
    new = wrote.new;
    is = wrote.is;
    leaves = wrote.left;
    each = wrote.each;
    on = wrote.on;
    follows = follows_goes (Some wrote.new) e.hub.tables.tables stand'.lives e.hub.dir.leaves (known_in stand'.parts) stand'.trees.items stand'.floor n.world (finished_world n) (finished_goes n.world.machine n.checkpoint) refl wrote.follows;
    since = wrote.since;
    others = wrote.others;
    had_room = wrote.had_room;
    kept = wrote.kept;
    same = same;
    stands = stands is;
  })
  concluded (Err NoMemory) answer wrote failed (is, same) stands = subst (λ (r : Result (Unit {0}) Refusal). Finishes g old n stand stand' e e' before after r) (sym is) (inl (record { why = inr (inl refl); leaves = wrote.kept tt; on = wrote.on tt; follows = wrote.follows; since = wrote.since tt; same = same }))
  concluded (Err NoSpace) answer wrote failed (is, same) stands = subst (λ (r : Result (Unit {0}) Refusal). Finishes g old n stand stand' e e' before after r) (sym is) (inl (record { why = inr (inr (inl (refl, wrote.full refl))); leaves = wrote.kept tt; on = wrote.on tt; follows = wrote.follows; since = wrote.since tt; same = same }))
  concluded (Err Read) answer wrote failed (is, same) stands = subst (λ (r : Result (Unit {0}) Refusal). Finishes g old n stand stand' e e' before after r) (sym is) (inl (record { why = inr (inr (inr (refl, failed tt))); leaves = wrote.kept tt; on = wrote.on tt; follows = wrote.follows; since = wrote.since tt; same = same }))
  concluded (Err (Down fault)) answer wrote failed (is, same) stands = subst (λ (r : Result (Unit {0}) Refusal). Finishes g old n stand stand' e e' before after r) (sym is) (inr (record { is = refl; rose = failed tt; fault = fault; down = same; leaves = wrote.left }))

-- it was refused before anything was done
pub unfinished : {D : Type 0} (g : Ghosts D) (old : Option Stored) (n : Moment) (stand : Ground) (e : Engine) (disk : D) (r : Refusal) → ((c : List ℕ) → g.left_since disk (g.moment disk) c → g.may_leave disk c)
    → WhyUnfinished (Rose (g.faults disk) (g.faults disk)) (g.seen disk) (g.capacity disk) stand.lives e.hub.dir.leaves (known_in stand.parts) n r → StandsOn (g.seen disk) (g.may_leave disk) e.hub stand old → Follows old e.hub stand n.world → AreLivesOn (g.seen disk) e.hub stand n.world → Unfinished g old n stand stand e e disk disk r
unfinished g old n stand e disk r only why on follows device = record {
  why = why;
  leaves = started g disk (IsOld (g.may_leave disk) old) (λ c left. inl (only c left));
  on = on;
  follows = follows;
  since = device;
  same = refl;
}

pub refused : {D : Type 0} (g : Ghosts D) (old : Option Stored) (w : World) (stand : Ground) (e : Engine) (disk : D) (r : Refusal) → ((c : List ℕ) → g.left_since disk (g.moment disk) c → g.may_leave disk c)
    → WhyNot (Rose (g.faults disk) (g.faults disk)) (g.seen disk) (g.capacity disk) stand.lives e.hub.dir.leaves (known_in stand.parts) w.machine (number_of old) r → StandsOn (g.seen disk) (g.may_leave disk) e.hub stand old → Follows old e.hub stand w → AreLivesOn (g.seen disk) e.hub stand w → NotTaken g old w stand stand e e disk disk r
refused g old w stand e disk r only why on follows device = record {
  why = why;
  leaves = started g disk (IsOld (g.may_leave disk) old) (λ c left. inl (only c left));
  on = on;
  follows = follows;
  since = device;
  same = refl;
}

-- the engine is as it was, or down
pub engine_after : (e e' : Engine) (outcome : Result (Unit {0}) StoreError) (answer : Result (Unit {0}) Refusal) → Concludes e e' outcome answer → (e' ≡ e) ⊎ ((fault : Fault) × (e' ≡ with_fault e fault))
engine_after e e' (Ok done) answer (is, same) = inl same
engine_after e e' (Err NoMemory) answer (is, same) = inl same
engine_after e e' (Err NoSpace) answer (is, same) = inl same
engine_after e e' (Err Read) answer (is, same) = inl same
engine_after e e' (Err (Down fault)) answer (is, same) = inr (fault, same)

-- what holds once it was not written holds once it is refused
pub err_after : (A : Type 0) (e e' : Engine) (outcome : Result (Unit {0}) StoreError) (answer : Result (Unit {0}) Refusal) → Concludes e e' outcome answer → OnErr outcome A → OnErr answer A
err_after A e e' (Ok done) answer (is, same) held = subst (λ (r : Result (Unit {0}) Refusal). OnErr r A) (sym is) tt
err_after A e e' (Err NoMemory) answer (is, same) held = subst (λ (r : Result (Unit {0}) Refusal). OnErr r A) (sym is) held
err_after A e e' (Err NoSpace) answer (is, same) held = subst (λ (r : Result (Unit {0}) Refusal). OnErr r A) (sym is) held
err_after A e e' (Err Read) answer (is, same) held = subst (λ (r : Result (Unit {0}) Refusal). OnErr r A) (sym is) held
err_after A e e' (Err (Down fault)) answer (is, same) held = subst (λ (r : Result (Unit {0}) Refusal). OnErr r A) (sym is) held

pub on_ok_of : {A : Type 0} (r : Result (Unit {0}) Refusal) → OnOk r A → r ≡ Ok tt → A
on_ok_of {A} r is same = subst (λ (x : Result (Unit {0}) Refusal). OnOk x A) same is

pub on_err_map : {A B : Type 0} (r : Result (Unit {0}) Refusal) → (A → B) → OnErr r A → OnErr r B
on_err_map (Ok done) f held = tt
on_err_map (Err x) f held = f held
