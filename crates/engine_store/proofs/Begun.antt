-- A machine with a checkpoint that has just started.
use Rattle.std.proofs.Common.{◌≡◌, [], refl, subst, arith}
use Rattle.kv_model.specs.Machine.{Checkpoint, CheckpointStart, Machine, after}
use Rattle.kv_model.specs.Valid.{Valid, ValidCheckpoint}
use Rattle.ckpt_step.specs.Takes.{begun}

-- it is valid, as before
pub valid_begun : (m : Machine) → Valid m → Valid (after m CheckpointStart)
valid_begun m v = record {
  run = v.run;
  next = v.next;
  orderly = v.orderly;
  names = v.names;
  stamps = v.stamps;
  sessions = v.sessions;
  checkpoint = λ c runs. let same : begun m ≡ c = cc in subst (λ (k : Checkpoint). ValidCheckpoint m.history m.oldest m.stable k) same (record {
    news = [];
    start = m.history;
    whole = refl;
    prefix = refl;
    follow = tt;
    oldest = omega arith;
    stable = omega arith;
    stamps = v.stamps;
  });
  cursors = v.cursors;
}
