use Rattle.std.proofs.Common.{◌≡◌, List, [], Some, None, sym, subst, ◌∙◌, arith}
use Rattle.std.specs.Prelude.{IfSome, IfNone}
use Rattle.stored.specs.TableTree.{Entry}
use Rattle.inner_page.specs.TableReading.{entries_at}
use Rattle.inner_page.proofs.TablePages.{no_table_image, no_table_head, no_table_page, table_page}
use Rattle.inner_page.proofs.table_reading.decode.Goals as goal

pub returns-in_default-clause-none : goal.returns-in_default-clause-none
returns-in_default-clause-none c = no_table_image c.args.block.now c.in_default.ensures.none

pub returns-then-not-page_fits-clause-none : goal.returns-then-not-page_fits-clause-none
returns-then-not-page_fits-clause-none c =
    let i = c.in-Some.image in
    no_table_head c.args.block.now i.count i.level i.text.now c.in-Some.ensures.found (sym c.page_fits.ensures ∙ c.if-not-page_fits.true)

pub returns-in_default-2-clause-none : goal.returns-in_default-2-clause-none
returns-in_default-2-clause-none c =
    let i = c.in-Some.image in
    no_table_page c.args.block.now i.count i.level i.text.now c.in-Some.ensures.found (subst (λ o. IfNone o ((es : List Entry) → entries_at i.count None i.text.now ≡ Some (es, []) → ⊥)) c.in_default-2.is c.in_ok-entries.ensures.none)

pub returns-clause-found : goal.returns-clause-found
returns-clause-found c =
    let i = c.in-Some.image in
    table_page c.args.block.now i.count i.level i.text.now c.in-Some-2.entries.items (λ k. omega (arith, c.type_inv.block k)) c.in-Some.ensures.found (sym c.page_fits.ensures ∙ c.if-not-page_fits.false)
    (subst (λ o. IfSome o (λ v. entries_at i.count None i.text.now ≡ Some (v.items, []))) c.in-Some-2.is c.in_ok-entries.ensures.found)
