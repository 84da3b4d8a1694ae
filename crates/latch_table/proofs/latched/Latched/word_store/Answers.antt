use Rattle.latch_table.proofs.Sitting.{sits_noted}
use Rattle.latch_table.proofs.latched.Latched.word_store.Goals as goal

pub returns-clause-seat : goal.returns-clause-seat
returns-clause-seat g c = let t = c.store_at.ensures.moved in sits_noted _ _ _ _ c.requires.seat c.store_at.ensures.same.0 t.0 t.1
