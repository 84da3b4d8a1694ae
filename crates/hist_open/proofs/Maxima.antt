-- The greatest of the names and of the durable stamps that entries say, and that records have, one after the other.
use Rattle.std.proofs.Common.{◌≡◌, ℕ, ◌+◌, ◌<◌, List, length, take, get_or, sym, ◌∙◌, ap}
use Rattle.std.specs.Prelude.{map, max}
use Rattle.std.proofs.lemmas.List.{map_push}
use Rattle.stamp.specs.declared.name.Name.{Name}
use Rattle.stamp.specs.Order.{later}
use Rattle.row_page.specs.Greatest.{greatest_in, most_in}
use Rattle.row_page.proofs.Greater.{greatest_push, most_push}
use Rattle.checkpoint_record.proofs.Lists.{take_step}
use Rattle.stored.specs.HistoryTree.{HistoryEntry, HistoryRecord}

abbrev names : List HistoryEntry → List Name
names es = map {A = HistoryEntry} (λ x. x.link.greatest) es

abbrev durables : List HistoryEntry → List ℕ
durables es = map {A = HistoryEntry} (λ x. x.link.durable) es

pub name_more : (es : List HistoryEntry) (i : ℕ) (e : HistoryEntry) (before said after : Name) → i < length es → e ≡ get_or es i e → said ≡ e.link.greatest → before ≡ greatest_in (names (take i es)) → after ≡ later before said → after ≡ greatest_in (names (take (i + 1) es))
name_more es i e before said after lt is says was told =
    told ∙ ap (λ (n : Name). later n said) was ∙ ap (λ (n : Name). later (greatest_in (names (take i es))) n) says
    ∙ sym (greatest_push (names (take i es)) e.link.greatest)
    ∙ ap greatest_in (sym (map_push {X = HistoryEntry} (λ x. x.link.greatest) (take i es) e))
    ∙ ap (λ (l : List HistoryEntry). greatest_in (names l)) (sym (take_step es i e lt is))

pub durable_more : (es : List HistoryEntry) (i : ℕ) (e : HistoryEntry) (before said after : ℕ) → i < length es → e ≡ get_or es i e → said ≡ e.link.durable → before ≡ most_in (durables (take i es)) → after ≡ max before said → after ≡ most_in (durables (take (i + 1) es))
durable_more es i e before said after lt is says was told =
    told ∙ ap (λ (n : ℕ). max n said) was ∙ ap (λ (n : ℕ). max (most_in (durables (take i es))) n) says
    ∙ sym (most_push (durables (take i es)) e.link.durable)
    ∙ ap most_in (sym (map_push {X = HistoryEntry} (λ x. x.link.durable) (take i es) e))
    ∙ ap (λ (l : List HistoryEntry). most_in (durables l)) (sym (take_step es i e lt is))

-- ---- of records

abbrev record_names : List HistoryRecord → List Name
record_names rs = map {A = HistoryRecord} (λ x. x.version.window.name) rs

abbrev record_durables : List HistoryRecord → List ℕ
record_durables rs = map {A = HistoryRecord} (λ x. x.version.window.durable) rs

pub record_name_more : (rs : List HistoryRecord) (i : ℕ) (e : HistoryRecord) (before said after : Name) → i < length rs → e ≡ get_or rs i e → said ≡ e.version.window.name → before ≡ greatest_in (record_names (take i rs)) → after ≡ later before said → after ≡ greatest_in (record_names (take (i + 1) rs))
record_name_more rs i e before said after lt is says was told =
    told ∙ ap (λ (n : Name). later n said) was ∙ ap (λ (n : Name). later (greatest_in (record_names (take i rs))) n) says
    ∙ sym (greatest_push (record_names (take i rs)) e.version.window.name)
    ∙ ap greatest_in (sym (map_push {X = HistoryRecord} (λ x. x.version.window.name) (take i rs) e))
    ∙ ap (λ (l : List HistoryRecord). greatest_in (record_names l)) (sym (take_step rs i e lt is))

pub record_durable_more : (rs : List HistoryRecord) (i : ℕ) (e : HistoryRecord) (before said after : ℕ) → i < length rs → e ≡ get_or rs i e → said ≡ e.version.window.durable → before ≡ most_in (record_durables (take i rs)) → after ≡ max before said → after ≡ most_in (record_durables (take (i + 1) rs))
record_durable_more rs i e before said after lt is says was told =
    told ∙ ap (λ (n : ℕ). max n said) was ∙ ap (λ (n : ℕ). max (most_in (record_durables (take i rs))) n) says
    ∙ sym (most_push (record_durables (take i rs)) e.version.window.durable)
    ∙ ap most_in (sym (map_push {X = HistoryRecord} (λ x. x.version.window.durable) (take i rs) e))
    ∙ ap (λ (l : List HistoryRecord). most_in (record_durables l)) (sym (take_step rs i e lt is))
