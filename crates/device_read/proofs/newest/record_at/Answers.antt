use Rattle.std.proofs.Common.{◌∙◌, Bor, ap, sym, option_map}
use Rattle.std.proofs.lemmas.Bool.{both_ways}
use Rattle.stamp.specs.declared.version.Version.{Version}
use Rattle.row_page.specs.Changes.{PageChange}
use Rattle.stored.specs.HistoryTree.{HistoryRecord}
use Rattle.device_read.proofs.Parts.{none_at, record_away, record_here, record_none, there_at}
use Rattle.device_read.proofs.newest.record_at.Goals as goal

pub returns-in_err-found : goal.returns-in_err-found
returns-in_err-found c =
    let n = c.count_before.result in
    ap (option_map {T = Bor HistoryRecord} {U = Version PageChange} (λ r. r.now.version)) c.from_residual.ensures
    ∙ sym (record_none c.args.table c.args.key.now c.args.newest.now n c.requires c.count_before.ensures (none_at c.args.newest.now n c.in_err-found.ensures.lookup.3))

pub returns-then-is_of : goal.returns-then-is_of
returns-then-is_of c =
    let n = c.count_before.result in
    let r = c.in_ok-found.found.now in
    let is = c.is_of.ensures.0 c.if-is_of.true in
    sym (record_here c.args.table c.args.key.now c.args.newest.now n c.requires c.count_before.ensures r (there_at c.args.newest.now n r c.in_ok-found.ensures.lookup.3.0 c.in_ok-found.ensures.lookup.1) is.0 is.1)

pub returns-else-is_of : goal.returns-else-is_of
returns-else-is_of c =
    let n = c.count_before.result in
    let r = c.in_ok-found.found.now in
    sym (record_away c.args.table c.args.key.now c.args.newest.now n c.requires c.count_before.ensures r (there_at c.args.newest.now n r c.in_ok-found.ensures.lookup.3.0 c.in_ok-found.ensures.lookup.1) (λ both. both_ways c.is_of.result c.if-is_of.false (c.is_of.ensures.1 both)))
