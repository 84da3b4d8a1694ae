use Rattle.std.proofs.Common.{◌≡◌, ◌∙◌, List, inl, inr, ap, refl, sym, subst}
use Rattle.kv_model.specs.History.{Table}
use Rattle.kv_model.specs.Decisions.{same_formats}
use Rattle.catalog.specs.Known.{Known}
use Rattle.catalog.specs.Order.{Finds, table_at}
use Rattle.catalog.specs.Creates.{asked}
use Rattle.catalog.specs.declared.places.Search.TheVariants.{Found}
use Rattle.catalog.proofs.Deciding.{named_there, decided_same, decided_exists}
use Rattle.catalog.proofs.catalog.Catalog.create.Goals as goal

pub returns-then-not-has_formats-clause-refused : goal.returns-then-not-has_formats-clause-refused
returns-then-not-has_formats-clause-refused c =
    let old = c.args.self.now in
    let name = c.args.name.now in
    let place = c.in-Found.place in
    let tables : c.deref.result.now ≡ old.tables = c.deref.ensures.value ∙ ap (λ (k : Known). k.tables) c.self.view_is in
    let here : c.deref-in-Found.result.now ≡ old.tables = c.deref-in-Found.ensures.value ∙ ap (λ (k : Known). k.tables) c.self.view_is in
    let found : Finds old.tables name (Found place) = subst (λ (l : List Table). Finds l name (Found place)) tables c.in-Found.ensures in
    inr (inl (decided_exists old.tables (asked old name c.args.formats) (table_at old.tables place) (sym c.is_name.ensures ∙ c.if-not-is_name.false)
    (named_there old.tables name place found.0 found.1)
    (ap (λ (l : List Table). same_formats c.args.formats (table_at l place).formats) (sym here) ∙ sym c.has_formats.ensures ∙ c.if-not-has_formats.true)))

pub returns-else-not-has_formats-clause-created : goal.returns-else-not-has_formats-clause-created
returns-else-not-has_formats-clause-created c =
    let old = c.args.self.now in
    let name = c.args.name.now in
    let place = c.in-Found.place in
    let tables : c.deref.result.now ≡ old.tables = c.deref.ensures.value ∙ ap (λ (k : Known). k.tables) c.self.view_is in
    let here : c.deref-in-Found.result.now ≡ old.tables = c.deref-in-Found.ensures.value ∙ ap (λ (k : Known). k.tables) c.self.view_is in
    let found : Finds old.tables name (Found place) = subst (λ (l : List Table). Finds l name (Found place)) tables c.in-Found.ensures in (
      decided_same old.tables (asked old name c.args.formats) (table_at old.tables place) (sym c.is_name.ensures ∙ c.if-not-is_name.false)
          (named_there old.tables name place found.0 found.1)
          (ap (λ (l : List Table). same_formats c.args.formats (table_at l place).formats) (sym here) ∙ sym c.has_formats.ensures ∙ c.if-not-has_formats.false),
      found.0,
      refl,
    )
