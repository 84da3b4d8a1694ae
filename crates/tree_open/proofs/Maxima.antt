-- The greatest of the names and of the durable stamps that entries say, one entry after the other.
use Rattle.std.proofs.Common.{◌≡◌, ℕ, ◌+◌, ◌<◌, List, length, take, get_or, sym, ◌∙◌, ap}
use Rattle.std.specs.Prelude.{map, max}
use Rattle.std.proofs.lemmas.List.{map_push}
use Rattle.stamp.specs.declared.name.Name.{Name}
use Rattle.stamp.specs.Order.{later}
use Rattle.row_page.specs.Greatest.{greatest_in, most_in}
use Rattle.row_page.proofs.Greater.{greatest_push, most_push}
use Rattle.checkpoint_record.proofs.Lists.{take_step}
use Rattle.stored.specs.TableTree.{Entry}

abbrev names : List Entry → List Name
names es = map {A = Entry} (λ x. x.link.greatest) es

abbrev durables : List Entry → List ℕ
durables es = map {A = Entry} (λ x. x.link.durable) es

pub name_more : (es : List Entry) (i : ℕ) (e : Entry) (before said after : Name) → i < length es → e ≡ get_or es i e → said ≡ e.link.greatest → before ≡ greatest_in (names (take i es)) → after ≡ later before said → after ≡ greatest_in (names (take (i + 1) es))
name_more es i e before said after lt is says was told =
    told ∙ ap (λ (n : Name). later n said) was ∙ ap (λ (n : Name). later (greatest_in (names (take i es))) n) says
    ∙ sym (greatest_push (names (take i es)) e.link.greatest)
    ∙ ap greatest_in (sym (map_push {X = Entry} (λ x. x.link.greatest) (take i es) e))
    ∙ ap (λ (l : List Entry). greatest_in (names l)) (sym (take_step es i e lt is))

pub durable_more : (es : List Entry) (i : ℕ) (e : Entry) (before said after : ℕ) → i < length es → e ≡ get_or es i e → said ≡ e.link.durable → before ≡ most_in (durables (take i es)) → after ≡ max before said → after ≡ most_in (durables (take (i + 1) es))
durable_more es i e before said after lt is says was told =
    told ∙ ap (λ (n : ℕ). max n said) was ∙ ap (λ (n : ℕ). max (most_in (durables (take i es))) n) says
    ∙ sym (most_push (durables (take i es)) e.link.durable)
    ∙ ap most_in (sym (map_push {X = Entry} (λ x. x.link.durable) (take i es) e))
    ∙ ap (λ (l : List Entry). most_in (durables l)) (sym (take_step es i e lt is))
