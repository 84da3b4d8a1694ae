use Rattle.std.proofs.Common.{◌≡◌, ap, sym, ◌∙◌, List, [], ◌∷◌, ◌++◌, length, subst, arith, length-append}
use Rattle.std.specs.Prelude.{Option, option_map}
use Rattle.std.proofs.Common.{ℕ}
use Rattle.update_chain.specs.Updates.{Gives}
use Rattle.kv_model.specs.Rows.{Way}
use Rattle.wt_calls.specs.Calls.{way_in}
use Rattle.call_steps.specs.Looks.{IsNearestRow}
use Rattle.leaf_frame.specs.Walks.{Walked, onward, walk_on}
use Rattle.engine.specs.RowReads.{AreNearest, start_behind}
use Rattle.engine.proofs.CopyingRows.{nearest-more, start-more}
use Rattle.engine.proofs.row_reads.copy_rows.Goals as goal

pub loop-walk-preserved : goal.loop-walk-preserved
loop-walk-preserved c = record {
  near = subst (λ (l : List (List ℕ × List ℕ)). AreNearest c.args.view.now way from c.args.leaf.now l) (sym pushed)
      (nearest-more c.args.view.now way from c.args.leaf.now c.loop-walk.rows row c.loop-walk.invariant.near
      (subst (λ (w : Walked). IsNearestRow c.args.view.now w.way w.from w.leaf row.0 (Gives row.1)) c.loop-walk.invariant.here_is c.in-Row.ensures.found));
  here_is = c.in-Row.ensures.behind ∙ (ap (onward row.0) c.loop-walk.invariant.here_is ∙ ap (λ (o : Option (List ℕ)). walk_on way o c.args.leaf.now) (sym (ap (start_behind from) pushed ∙ start-more from c.loop-walk.rows row)));
  few = (let room = c.loop-walk-test.true in let count = c.len.ensures in let more = ap length pushed ∙ length-append c.loop-walk.rows (row ∷ []) in omega (arith, room, count, more));
} where
  way : Way
  way = way_in c.args.way

  from : Option (List ℕ)
  from = option_map (λ k. k.now) c.args.from

  row : List ℕ × List ℕ
  row = (c.in-Row.key.now, c.in-Row.value.now)

  pushed : c.push.new.self ≡ c.loop-walk.rows ++ row ∷ []
  pushed = c.in_ok-push-in-Row.ensures.pushed
