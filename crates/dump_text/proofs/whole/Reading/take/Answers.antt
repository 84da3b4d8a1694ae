use Rattle.std.proofs.Common.{◌≡◌, ℕ, Some, ap, false, inr, refl, true}
use Rattle.wt_code.specs.declared.refusals.Refusal.TheVariants.{Invalid}
use Rattle.wt_code.specs.declared.refusals.Invalid.TheVariants.{Text}
use Rattle.dump_text.specs.Cuts.{lines_in}
use Rattle.dump_text.specs.declared.reader.DumpReader.{DumpReader}
use Rattle.dump_text.proofs.Taking.{no_rows, row_none, stop_is, taken_row}
use Rattle.dump_text.proofs.whole.Reading.take.Goals as goal

pub take_head-requires : goal.take_head-requires
take_head-requires c = no_rows c.args.self.now.found c.args.self.now.at_value c.args.line.now c.is_row_line.result c.in-None.is c.is_row_line.ensures

pub returns-in-Some-true-clause-taken : goal.returns-in-Some-true-clause-taken
returns-in-Some-true-clause-taken c lines t =
    let so : c.is_row_line.result ≡ Some true = cc in
    taken_row lines (lines_in c.args.behind.now) c.args.line.now c.args.self.now _ c.is_row_line.result so c.is_row_line.ensures (ap (λ (x : DumpReader). x.lines) c.count_line.ensures) refl refl t

pub returns-in-Some-false-clause-refused : goal.returns-in-Some-false-clause-refused
returns-in-Some-false-clause-refused c lines left less t =
    let so : c.is_row_line.result ≡ Some false = cc in
    stop_is lines left c.args.line.now c.args.self.now _ less t (inr (ap (λ (n : ℕ). Invalid (Text n)) c.number.ensures, row_none lines left c.args.line.now c.args.self.now c.is_row_line.result so c.is_row_line.ensures t))
