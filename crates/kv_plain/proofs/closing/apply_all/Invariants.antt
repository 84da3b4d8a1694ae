use Rattle.std.proofs.Common.{◌≡◌}
use Rattle.kv_model.specs.Closing.{after_all}
use Rattle.kv_plain.specs.Machine.{machine_in}
use Rattle.kv_plain.specs.Closing.{events_in}
use Rattle.kv_plain.proofs.closing.apply_all.Given as goal

-- the events so far left it
abbrev pub invariant-loop-event : goal.invariant-loop-event
invariant-loop-event l = machine_in l.machine ≡ after_all (machine_in l.fn.m) (events_in l.yielded)
