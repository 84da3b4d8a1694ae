use Rattle.std.proofs.Common.{rules, option_map, List, ℕ, Option, Bor}
use Rattle.std.proofs.lemmas.List.Sorted.{IsPartitionPoint-from_clause}
use Rattle.device_read.specs.Newest.{is_sooner}
use Rattle.device_read.proofs.Parts.{count_is, sooner_first}
use Rattle.device_read.proofs.newest.count_before.Goals as goal

pub returns : goal.returns
returns c =
    let key : Option (List ℕ) = option_map {T = Bor (List ℕ)} {U = List ℕ} (λ k. k.now) c.args.key in
    count_is c.args.table key c.args.newest.now c.partition_point.result c.partition_point.ensures.bound
    (IsPartitionPoint-from_clause (is_sooner c.args.table key) c.args.newest.now c.partition_point.result c.partition_point.ensures.partitioned (sooner_first c.args.table key c.args.newest.now c.requires) (λ a r f k. search rules))
