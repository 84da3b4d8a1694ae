use Rattle.std.proofs.Common.{sym, ◌∙◌}
use Rattle.latch_table.proofs.Ending.{some_word}
use Rattle.latch_table.proofs.Packing.{same_pieces}
use Rattle.latch_table.proofs.latched.Latched.end.Goals as goal

pub gather-requires-clause-some_word : goal.gather-requires-clause-some_word
gather-requires-clause-some_word g c = some_word c.args.self c.args.seats.items c.requires.all c.requires.some_seat c.requires.pieces

pub returns : goal.returns
returns g c =
    let l = c.gather.ensures.leaves in
    let t = c.take_hub.ensures in
    (l.0, l.1, (same_pieces c.take_hub.result l.0.hub t.0 l.0.frames (sym t.1 ∙ l.2)).0, l.5)
