use Rattle.std.proofs.Common.{◌<◌, ◌++◌, List, ℕ, subst}
use Rattle.std.specs.Prelude.{slice_get}
use Rattle.std.specs.Option.{option_to_list}
use Rattle.std.proofs.lemmas.Bool.{MatchBool-at_false, MatchBool-at_true}
use Rattle.leaf_rows.specs.Rows.{image_length}
use Rattle.reconcile.specs.Gathered.{HasGathered, rows_of, slots_at}
use Rattle.reconcile.proofs.Filling.{GatheredTo, gathered_all, gathered_next, gathered_over}
use Rattle.reconcile.proofs.Gathering.{way_captured, way_fits}
use Rattle.reconcile.proofs.capturing.capture.Goals as goal

pub returns-then-not-push_slot : goal.returns-then-not-push_slot
returns-then-not-push_slot c =
    let s = c.args.snapshot.now.sight in
    let slots = c.args.chains.now in
    let way = c.walk_above-walk.result in
    let all = rows_of s (slots_at slots way) in
    let slot = c.in-Some.slot in
    let to = subst (λ (l : List ℕ). GatheredTo s slots l all c.loop-slot.gathered) c.in-Some.ensures.after c.loop-slot.invariant in
    let rows = to.rows ++ rows_of s (option_to_list (slice_get slots slot)) in
    let over = MatchBool-at_false (HasGathered c.push_slot.new.gathered rows) (32768 < image_length rows) c.if-not-push_slot.true (c.push_slot.ensures to.rows to.has) in
    (all, way_captured s slots way c.walk_above-walk.ensures c.requires.fit, gathered_over s slots slot c.next_entry.new.self all c.loop-slot.gathered to over)

pub loop-slot-preserved : goal.loop-slot-preserved
loop-slot-preserved c =
    let s = c.args.snapshot.now.sight in
    let slots = c.args.chains.now in
    let all = rows_of s (slots_at slots c.walk_above-walk.result) in
    let slot = c.in-Some.slot in
    let to = subst (λ (l : List ℕ). GatheredTo s slots l all c.loop-slot.gathered) c.in-Some.ensures.after c.loop-slot.invariant in
    let rows = to.rows ++ rows_of s (option_to_list (slice_get slots slot)) in
    gathered_next s slots slot c.next_entry.new.self all c.loop-slot.gathered c.push_slot.new.gathered to
    (MatchBool-at_true (HasGathered c.push_slot.new.gathered rows) (32768 < image_length rows) c.if-not-push_slot.false (c.push_slot.ensures to.rows to.has))

pub returns : goal.returns
returns c =
    let s = c.args.snapshot.now.sight in
    let slots = c.args.chains.now in
    let way = c.walk_above-walk.result in
    let all = rows_of s (slots_at slots way) in
    let to = subst (λ (l : List ℕ). GatheredTo s slots l all c.loop-slot.gathered) c.in_default.ensures.ends c.loop-slot.invariant in
    (all, way_captured s slots way c.walk_above-walk.ensures c.requires.fit, c.finish.ensures all (gathered_all s slots all c.loop-slot.gathered to) (way_fits s slots way c.walk_above-walk.ensures c.requires.fit))
