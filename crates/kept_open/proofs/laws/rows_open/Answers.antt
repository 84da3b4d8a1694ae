use Rattle.kept_open.proofs.OpenedRows.{no_others, opened_show, returns_alike, rows_open, shown_open, whole}
use Rattle.kept_open.proofs.laws.rows_open.Goals as goal

pub returns-clause-show : goal.returns-clause-show
returns-clause-show c = opened_show

pub returns-clause-open : goal.returns-clause-open
returns-clause-open c = rows_open

pub returns-clause-alike : goal.returns-clause-alike
returns-clause-alike c = shown_open

pub returns-clause-none : goal.returns-clause-none
returns-clause-none c = no_others

pub returns-clause-whole : goal.returns-clause-whole
returns-clause-whole c = whole

pub returns-clause-back : goal.returns-clause-back
returns-clause-back c = returns_alike
