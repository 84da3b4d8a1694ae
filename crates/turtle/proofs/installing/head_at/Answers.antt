use Rattle.std.proofs.Common.{List, ℕ, arith, sym, ap, ◌∙◌}
use Rattle.std.specs.Int.{from_le_bytes, w64}
use Rattle.turtle.proofs.Choice.{part_of}
use Rattle.turtle.proofs.installing.head_at.Goals as goal

pub returns-clause-sequence : goal.returns-clause-sequence
returns-clause-sequence g c h =
    c.number_8-sequence.ensures ∙ ap (λ (l : List ℕ). from_le_bytes w64 l) (sym (part_of (g.D.Disk.seen c.args.disk.now) c.read.new.buffer c.args.at 12 8 (sym (c.in-Ok.ensures.bytes h)) (omega arith)))
