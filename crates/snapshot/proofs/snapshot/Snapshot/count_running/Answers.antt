use Rattle.std.proofs.Common.{◌≡◌, ◌<◌, ◌≤◌, ap, ◌∙◌, arith, [], ◌∷◌, ℕ, List}
use Rattle.snapshot.specs.Sight.{Ascends, IsSight, SnapshotValue, Sight, least_or, with_id, counting}
use Rattle.snapshot.proofs.Listed.{ascends-lower, ascends-with, ascends-least}
use Rattle.snapshot.proofs.snapshot.Snapshot.count_running.Goals as goal

pub list_too-requires-clause-ascending : goal.list_too-requires-clause-ascending
list_too-requires-clause-ascending c = (c.self.inside.max, ascends-lower c.self.inside.min 0 c.self.inside.max c.self.inside.list.items (omega arith) c.self.invariant.ascending)

-- with an id that is not 0 the snapshot stands
counting-stands : (s : Sight) (id : ℕ) → IsSight s → 1 ≤ id → id < s.max → IsSight (counting s id)
counting-stands s id stands from drawn =
    let more = ascends-with 1 s.max s.list id (ascends-lower s.min 1 s.max s.list stands.from_one stands.ascending) from drawn in
    record { from_one = ascends-from 1 s.max (with_id s.list id) more; ascending = ascends-least 1 s.max (with_id s.list id) more } where
      ascends-from : (low high : ℕ) (ids : List ℕ) → Ascends low ids high → low ≤ least_or high ids
      ascends-from low high [] a = a
      ascends-from low high (x ∷ ids) a = a.0

pub invariant_of-self : goal.invariant_of-self
invariant_of-self c =
    let below : c.args.id < c.self.inside.max = let e = ap (λ (k : SnapshotValue). k.sight.max) c.self.view_is in let drawn = c.requires.drawn in omega arith in
    let stands : IsSight (counting (record { run = c.self.inside.run; min = c.self.inside.min; max = c.self.inside.max; list = c.self.inside.list.items }) c.args.id) =
    counting-stands (record { run = c.self.inside.run; min = c.self.inside.min; max = c.self.inside.max; list = c.self.inside.list.items }) c.args.id c.self.invariant c.requires.from_one below in
    let least : c.least-self-inside.result ≡ least_or c.self.inside.max (with_id c.self.inside.list.items c.args.id) =
    c.least-self-inside.ensures ∙ ap (least_or c.self.inside.max) (c.deref.ensures.value ∙ c.list_too.ensures.items) in
    rw (least, c.list_too.ensures.items) stands
