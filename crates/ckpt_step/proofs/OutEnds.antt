-- What the writing out of a leaf answers, from how it went.
use Rattle.std.specs.Prelude.{◌≡◌, ℕ, List, Option, Err, refl}
use Rattle.std.proofs.Common.{inl, inr, ◌∙◌, ap, sym, subst}
use Rattle.failure.specs.Counts.{Rose}
use Rattle.disk_model.specs.declared.disk.Disk.{Ghosts}
use Rattle.disk_model.proofs.Crash.{started}
use Rattle.wt_code.specs.declared.refusals.Refusal.{Refusal}
use Rattle.wt_code.specs.declared.store_error.StoreError.{StoreError}
use Rattle.wt_code.specs.declared.store_error.StoreError.TheVariants.{NoMemory, NoSpace, Read, Down}
use Rattle.wt_code.specs.StoreErrors.{IsOfDisk}
use Rattle.stored.specs.Stored.{Stored}
use Rattle.checkpoint_core.specs.Finishes.{IsOld}
use Rattle.tree_write.specs.Captures.{IsSafe}
use Rattle.engine_world.specs.Stands.{Engine}
use Rattle.engine_world.specs.Systems.{with_fault}
use Rattle.engine_world.specs.Worlds.{World}
use Rattle.engine.specs.Checkpoints.{MayStart}
use Rattle.ckpt_step.specs.declared.ground.Ground.{Ground}
use Rattle.ckpt_step.specs.CutOuts.{NotPut, TellsOut}
use Rattle.ckpt_step.specs.Floors.{AreLivesOn, Follows}
use Rattle.ckpt_step.specs.Grounds.{StandsOn}
use Rattle.ckpt_step.specs.WritesOut.{LeavesEngine, NotWritten, RefusesOut}

-- nothing was done
pub not_done : {D : Type 0} (g : Ghosts D) (old : Option Stored) (w : World) (stand : Ground) (e : Engine) (id : ℕ) (disk : D) → ((c : List ℕ) → g.left_since disk (g.moment disk) c → g.may_leave disk c) → StandsOn (g.seen disk) (g.may_leave disk) e.hub stand old → Follows old e.hub stand w → AreLivesOn (g.seen disk) e.hub stand w → NotWritten g old w stand stand e e id disk disk
not_done g old w stand e id disk only on follows device = record {
  left = started g disk (IsOld (g.may_leave disk) old) (λ c left. inl (only c left));
  on = on;
  follows = follows;
  since = device;
  same = refl;
}

-- refused before that
pub barred : {D : Type 0} (g : Ghosts D) (old : Option Stored) (w : World) (stand : Ground) (e : Engine) (id : ℕ) (disk : D) (r : Refusal) → MayStart w.machine stand.number (Err r) → StandsOn (g.seen disk) (g.may_leave disk) e.hub stand old → NotWritten g old w stand stand e e id disk disk → RefusesOut g old w stand stand e e id disk disk r
barred g old w stand e id disk r may on same = inl (same, inl (subst (λ (n : ℕ). MayStart w.machine n (Err r)) on.number may))

-- it was not put there
module _ {D : Type 0} (g : Ghosts D) (old : Option Stored) (w : World) (stand stand' : Ground) (e e' : Engine) (id : ℕ) (before after : D) where
  written_not : (x : StoreError) (mid : Engine) → NotPut g old w stand stand' e mid id before after x → e' ≡ mid → IsSafe x → NotWritten g old w stand stand' e e' id before after
  written_not x mid put same safe = record { left = put.left; on = put.on safe; follows = put.follows safe; since = put.since safe; same = same ∙ put.same }

  pub refused_out : (x : StoreError) (mid : Engine) (answer : Refusal) → NotPut g old w stand stand' e mid id before after x → (IsOfDisk x → Rose (g.faults before) (g.faults after)) → TellsOut mid e' x answer → RefusesOut g old w stand stand' e e' id before after answer
  refused_out NoMemory mid answer put failed (is, same) = subst (λ (r : Refusal). RefusesOut g old w stand stand' e e' id before after r) (sym is) (inl (written_not NoMemory mid put same tt, inr (inl refl)))
  refused_out NoSpace mid answer put failed (is, same) = subst (λ (r : Refusal). RefusesOut g old w stand stand' e e' id before after r) (sym is) (inl (written_not NoSpace mid put same tt, inr (inr (inl (refl, put.full refl)))))
  refused_out Read mid answer put failed (is, same) = subst (λ (r : Refusal). RefusesOut g old w stand stand' e e' id before after r) (sym is) (inl (written_not Read mid put same tt, inr (inr (inr (refl, failed tt)))))
  refused_out (Down fault) mid answer put failed (is, same) =
      subst (λ (r : Refusal). RefusesOut g old w stand stand' e e' id before after r) (sym is)
      (inr (record { is = refl; rose = failed tt; fault = fault; down = subst (λ (x : Engine). e' ≡ with_fault x fault) put.same same; left = put.left }))

-- the engine is as it was, or down
pub told_engine : (e mid e' : Engine) (id : ℕ) (x : StoreError) (answer : Refusal) → mid ≡ e → TellsOut mid e' x answer → LeavesEngine e e' id (Err answer)
told_engine e mid e' id NoMemory answer kept (is, same) = inl (same ∙ kept)
told_engine e mid e' id NoSpace answer kept (is, same) = inl (same ∙ kept)
told_engine e mid e' id Read answer kept (is, same) = inl (same ∙ kept)
told_engine e mid e' id (Down fault) answer kept (is, same) = inr (fault, same ∙ ap (λ (m : Engine). with_fault m fault) kept)
