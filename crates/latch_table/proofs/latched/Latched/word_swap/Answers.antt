use Rattle.latch_table.proofs.Sitting.{sits_noted}
use Rattle.latch_table.proofs.latched.Latched.word_swap.Goals as goal

pub returns-then-found-old-clause-seat : goal.returns-then-found-old-clause-seat
returns-then-found-old-clause-seat g c = let t = c.swap_at-found.ensures.moved in sits_noted _ _ _ _ c.requires.seat c.swap_at-found.ensures.same.0 t.0 t.1

pub returns-else-found-old-clause-seat : goal.returns-else-found-old-clause-seat
returns-else-found-old-clause-seat g c = let t = c.swap_at-found.ensures.moved in sits_noted _ _ _ _ c.requires.seat c.swap_at-found.ensures.same.0 t.0 t.1
