-- A checkpoint that starts: what runs then.
use Rattle.std.specs.Prelude.{◌≡◌, ◌⊎◌, ◌<◌, ◌≤◌, ◌-◌, ◌^◌, ◌==◌, ℕ, true, false, nat_lt, MatchOption, Ok, Option, None, Some}
use Rattle.std.proofs.Common.{inl, inr, sym, ◌∙◌, ap, subst, refl, arith}
use Rattle.std.proofs.Math.Bool.{and-false}
use Rattle.std.proofs.lemmas.Bool.{cases_eq, le-ltb}
use Rattle.kv_model.specs.Machine.{Checkpoint, CheckpointStart, Machine, Transaction, after, name_of, transaction_of}
use Rattle.snapshot.specs.Matters.{AreUnended}
use Rattle.snapshot.specs.Sight.{IsSight, Sight, is_listed, is_seen, least_or, sight_at}
use Rattle.stamp.specs.declared.Name.{Name}
use Rattle.txn_table.specs.Tabled.{unended}
use Rattle.engine_world.specs.Stands.{Engine, Stands}
use Rattle.engine_world.specs.Worlds.{World}
use Rattle.engine.specs.Checkpoints.{MayStart}
use Rattle.engine.specs.Running.{IsRunning, RunsAs}
use Rattle.engine.specs.declared.running_checkpoint.RunningCheckpoint.{RunningCheckpoint}
use Rattle.ckpt_step.specs.declared.ground.Ground.{Ground}
use Rattle.ckpt_step.specs.Floors.{Respects}
use Rattle.ckpt_step.specs.Moments.{SeesNone, floor_at}
use Rattle.ckpt_step.specs.Takes.{Starts, begun}
use Rattle.ckpt_step.proofs.CapturesBefore.{above_now}
use Rattle.ckpt_step.proofs.Following.{from_low, respects_now}
use Rattle.ckpt_step.proofs.Members.{some_same}
use Rattle.ckpt_step.proofs.WholeTaken.{started_goes}

-- a name of its run that is listed, from the least id on
hidden : (s : Sight) (x : Name) → x.run ≡ s.run → s.min ≤ x.id → is_listed s.list x.id ≡ true → is_seen s x ≡ false
hidden s x run low listed =
    let late : nat_lt x.run s.run ≡ false = le-ltb x.run s.run (omega (arith, run)) in
    let past : nat_lt x.id s.min ≡ false = le-ltb x.id s.min low in
    rw (late, past, listed, and-false (nat_lt x.id s.max)) (and-false (x.run == s.run))

sees_none : (m : Machine) (s : Sight) → s.run ≡ m.run → IsSight s → AreUnended m s.list → SeesNone m s
sees_none m s run is ids session = each (transaction_of m session) refl
  where
    each : (o : Option Transaction) → transaction_of m session ≡ o → MatchOption o (Unit {0}) (λ t. (t.id ≡ 0) ⊎ (is_seen s (name_of m t) ≡ false))
    each None there = tt
    each (Some t) there = elim (cases_eq t.id 0) [
      | inl none ↦ inl none
      | inr some ↦ (let listed = ids.all t.id (record { session = session; transaction = t; there = there; drawn = omega (arith, some); same = refl }) in
          inr (hidden s (name_of m t) (sym run) (from_low s.min s.list s.max t.id is.ascending listed) listed))
    ]

module _ (e : Engine) (g : Ground) (w : World) (running : RunningCheckpoint) (st : Stands e w) (sight : running.snapshot.sight ≡ sight_at e.hub.txns.run e.hub.txns.next (unended e.hub.txns)) (is_sight : IsSight running.snapshot.sight) (ids : AreUnended w.machine running.snapshot.sight.list)
    (runs : RunsAs (after w.machine CheckpointStart) (Some running)) where
  checkpoint_is : runs.0 ≡ begun w.machine
  checkpoint_is = sym (some_same runs.1)

  is : IsRunning (after w.machine CheckpointStart) (begun w.machine) running
  is = subst (λ (c : Checkpoint). IsRunning (after w.machine CheckpointStart) c running) checkpoint_is runs.2

  run_is : running.snapshot.sight.run ≡ w.machine.run
  run_is = ap (λ (s : Sight). s.run) sight ∙ st.txns.run

  max_is : running.snapshot.sight.max ≡ w.machine.next
  max_is = ap (λ (s : Sight). s.max) sight ∙ st.txns.next

  least_is : running.snapshot.sight.min ≡ least_or w.machine.next running.snapshot.sight.list
  least_is = ap (λ (s : Sight). s.min) sight ∙ (ap (λ (n : ℕ). least_or n (unended e.hub.txns)) st.txns.next ∙ ap (least_or w.machine.next) (sym (ap (λ (s : Sight). s.list) sight)))

  pub starts : Respects w.machine g.floor → g.number < 2 ^ 62 - 1 → MayStart w.machine g.number (Ok tt) → Stands e (record w { machine = after w.machine CheckpointStart }) → Starts e g w running
  starts respects number may stands = record {
    may = may;
    stands = stands;
    under_way = record {
      runs = refl;
      is = is;
      number = number;
      unseen = sees_none w.machine running.snapshot.sight run_is is_sight ids;
      respects = (started_goes w.machine (floor_at running.snapshot.sight) (respects_now w.machine running.snapshot.sight run_is max_is is_sight ids)).0;
      above = above_now w.machine running.snapshot.sight g.floor run_is least_is ids respects;
    };
  }
