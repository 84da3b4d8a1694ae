use Rattle.std.proofs.Common.{◌++◌, List, ℕ, ap, ◌∙◌}
use Rattle.std.specs.Int.{w32}
use Rattle.std.specs.Prelude.{length}
use Rattle.le_codec.specs.Fields.{le}
use Rattle.row_page.specs.Rows.{lengths_text, window_text, code_of, value_of}
use Rattle.hist_pages.specs.Views.{record_seen}
use Rattle.hist_pages.proofs.Writings.{put_is}
use Rattle.hist_pages.proofs.record_writer.put_record.Goals as goal

pub returns-clause-written : goal.returns-clause-written
returns-clause-written c =
    let r = record_seen c.args.lent.now in
    let v = r.version in
    put_is c.args.out.now.items c.append.new.out.items c.append-2.new.out.items c.append-3.new.out.items (le w32 r.table) (lengths_text (length r.key) (code_of v.change) (length (value_of v.change)) ++ window_text v.window) r.key (value_of v.change)
    (c.append.ensures.written
    ∙ ap (λ (l : List ℕ). c.args.out.now.items ++ l) (c.numbers_of-numbers.ensures
    ∙ ap (λ (n : ℕ). le w32 r.table ++ (lengths_text (length r.key) n (length c.value_of-value.result.now) ++ window_text v.window)) c.code_of.ensures
    ∙ ap (λ (b : List ℕ). le w32 r.table ++ (lengths_text (length r.key) (code_of v.change) (length b) ++ window_text v.window)) c.value_of-value.ensures))
    c.append-2.ensures.written
    (c.append-3.ensures.written ∙ ap (λ (l : List ℕ). c.append-2.new.out.items ++ l) c.value_of-value.ensures)
