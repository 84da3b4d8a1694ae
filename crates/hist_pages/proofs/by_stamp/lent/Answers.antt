use Rattle.std.proofs.Common.{◌∙◌, ap, arith}
use Rattle.std.specs.Prelude.{vec_capacity, vec_len}
use Rattle.hist_pages.proofs.Sorting.{all_now, next_now, none_past}
use Rattle.hist_pages.proofs.by_stamp.lent.Goals as goal
use Rattle.hist_pages.proofs.by_stamp.lent.Goals.{in-Some, in_default}

pub loop-place-preserved : goal.loop-place-preserved
loop-place-preserved c = elim c.match-get.branch [
  | in-Some w ↦ record {
    room = ap (λ x. vec_capacity x) w.lent-is ∙ w.push_reserved.ensures.capacity ∙ c.loop-place.invariant.room;
    len = ap (λ x. vec_len x) w.lent-is ∙ omega (arith, w.push_reserved.ensures.len, c.loop-place.invariant.len);
    items =
        ap (λ x. all_now x.items) w.lent-is
        ∙ ap all_now w.push_reserved.ensures.items
        ∙ next_now c.args.versions.now c.loop-place.lent.items c.loop-place.place w.in-Some.version c.loop-place.invariant.items w.in-Some.ensures;
  }
  | in_default w ↦ absurd (none_past c.args.versions.now c.loop-place.place (omega (arith, c.loop-place-test.true, c.len-count.ensures)) w.in_default.ensures)
]
