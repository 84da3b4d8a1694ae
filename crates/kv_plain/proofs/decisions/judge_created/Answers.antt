use Rattle.std.proofs.Common.{◌∙◌, ap, length}
use Rattle.kv_model.specs.History.{tables, named}
use Rattle.kv_plain.specs.Plain.{table_in, history_in}
use Rattle.kv_plain.specs.Decisions.{created_with}
use Rattle.kv_plain.proofs.Creating.{created-with}
use Rattle.kv_plain.proofs.decisions.judge_created.Goals as goal

pub returns : goal.returns
returns c =
    let known = tables (history_in c.args.m.now.history.items) in
    c.decide_created.ensures
    ∙ (ap (λ n. created_with n (table_in c.args.table) c.formats_named-old.result) (c.table_count.ensures.count ∙ ap (λ h. length (tables (history_in h))) c.deref.ensures.value)
    ∙ (ap (created_with (length known) (table_in c.args.table)) c.formats_named-old.ensures ∙ created-with known (table_in c.args.table) (named c.args.table.name known)))
