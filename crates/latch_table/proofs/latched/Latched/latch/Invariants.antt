use Rattle.std.proofs.Common.{◌≡◌}
use Rattle.latch_table.specs.Tables.{IsSeatOf, SamePieces, note_of}
use Rattle.latch_table.proofs.latched.Latched.latch.Given as goal

abbrev pub invariant-loop : goal.invariant-loop
invariant-loop g l =
    (goal.iterator-loop g).can_next l.iterator' × (goal.iterator-loop g).is_finite l.iterator'
    × IsSeatOf l.self l.seat × SamePieces l.initial.seat l.seat × (note_of l.seat ≡ note_of l.initial.seat)
