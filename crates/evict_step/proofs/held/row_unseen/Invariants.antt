use Rattle.std.specs.Prelude.{◌≡◌, true}
use Rattle.row_page.specs.Rows.{Row}
use Rattle.snapshot.specs.Sight.{is_seen}
use Rattle.engine.proofs.EachBelow.{EachBelow}
use Rattle.evict_step.proofs.held.row_unseen.Given as goal

abbrev pub invariant-loop-i : goal.invariant-loop-i
invariant-loop-i l = EachBelow (λ (r : Row). is_seen l.live.sight r.1.window.name ≡ true) l.page l.i
