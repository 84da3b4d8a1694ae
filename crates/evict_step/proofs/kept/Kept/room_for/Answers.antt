use Rattle.std.proofs.Common.{◌≡◌, ◌+◌, ◌∙◌, length, ap, sym, arith}
use Rattle.std.proofs.lemmas.List.{length-map}
use Rattle.evict_step.specs.Kept.{Lists, lists_in}
use Rattle.evict_step.proofs.FreshLists.{count_fresh}
use Rattle.evict_step.proofs.kept.Kept.room_for.Goals as goal

pub returns-clause-room : goal.returns-clause-room
returns-clause-room c =
    let fresh = c.self.inside.fresh.items in
    let es = c.self.inside.by_leaf.entries in
    let seen : length c.args.self.now ≡ length fresh + length (lists_in es) = sym (ap (λ (l : Lists). length l) c.self.view_is) ∙ count_fresh fresh (lists_in es) in
    let mapped : length (lists_in es) ≡ length es = length-map es _ in
    let lists = c.len.ensures.len in
    let long = c.len-2.ensures in
    let own = c.self.inside.fresh.ok.0 in
    let sum = c.in-Some.ensures.1 in
    let all = c.in-Some-checked_add.ensures.1 in
    let room = c.in_ok-room.ensures.capacity in
    omega (arith, seen, mapped, lists, long, own, sum, all, room)
