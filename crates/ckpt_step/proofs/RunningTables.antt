-- The tables of a checkpoint that is finished are the first ones of the engine.
use Rattle.std.specs.Prelude.{◌≡◌, ℕ, ◌≤◌, List, length, reverse, take}
use Rattle.std.proofs.Common.{sym, ◌∙◌, ap, subst}
use Rattle.std.proofs.lemmas.List.{length-reverse}
use Rattle.kv_model.specs.History.{Table}
use Rattle.kv_model.specs.Holds.{Member}
use Rattle.stamp.specs.declared.Name.{Name}
use Rattle.engine.specs.declared.running_checkpoint.RunningCheckpoint.{RunningCheckpoint}
use Rattle.engine_world.specs.Stands.{Engine}
use Rattle.ckpt_content.specs.Finished.{tables_then}
use Rattle.ckpt_step.specs.Moments.{IsFinishing, Moment}
use Rattle.ckpt_step.proofs.Then.{then_few, then_first}
use Rattle.ckpt_step.proofs.Turned.{member_turned, turned_member}

module _ (e : Engine) (running : RunningCheckpoint) (floor : Name) (n : Moment) (fin : IsFinishing e running floor n) where
  -- they are those that stood as it started, in the order in which they were made
  pub first_are : take running.tables e.hub.tables.tables ≡ reverse (tables_then n.world.machine n.checkpoint)
  first_are = ap (λ (k : ℕ). take k e.hub.tables.tables) fin.is.tables ∙ then_first n.world.machine n.checkpoint e.hub.tables.tables fin.stands.valid fin.runs fin.stands.made

  pub first_many : length (take running.tables e.hub.tables.tables) ≡ running.tables
  first_many = ap (λ (l : List Table). length l) first_are ∙ (length-reverse (tables_then n.world.machine n.checkpoint) ∙ sym fin.is.tables)

  pub first_few : running.tables ≤ length e.hub.tables.tables
  first_few = subst (λ (k : ℕ). k ≤ length e.hub.tables.tables) (sym fin.is.tables) (then_few n.world.machine n.checkpoint e.hub.tables.tables fin.stands.valid fin.runs fin.stands.made)

  pub first_stood : (t : Table) → Member t (take running.tables e.hub.tables.tables) → Member t (tables_then n.world.machine n.checkpoint)
  first_stood t there = turned_member t (tables_then n.world.machine n.checkpoint) (subst (λ (l : List Table). Member t l) first_are there)

  pub stood_first : (t : Table) → Member t (tables_then n.world.machine n.checkpoint) → Member t (take running.tables e.hub.tables.tables)
  stood_first t there = subst (λ (l : List Table). Member t l) (sym first_are) (member_turned t (tables_then n.world.machine n.checkpoint) there)
