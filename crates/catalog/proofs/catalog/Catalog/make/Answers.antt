use Rattle.std.proofs.Common.{◌≡◌, ◌<◌, ◌≤◌, ◌-◌, ◌^◌, ◌∙◌, ap, length, inl, inr, refl, subst, arith}
use Rattle.std.specs.Prelude.{None}
use Rattle.kv_model.specs.History.{Table, named}
use Rattle.catalog.specs.Known.{Known, with_new}
use Rattle.catalog.specs.Creates.{asked}
use Rattle.catalog.proofs.Distinct.{nowhere_named}
use Rattle.catalog.proofs.Deciding.{decided_new, decided_full, table_is}
use Rattle.catalog.proofs.catalog.Catalog.make.Goals as goal
use Rattle.catalog.proofs.catalog.Catalog.make.Goals.{then-place-ge-TABLES_MAX-via-then-place-ge-TABLES_MAX, then-place-ge-TABLES_MAX-via-else-place-ge-TABLES_MAX+then-self-gt-NUMBER_MAX}

pub returns-then-place-ge-TABLES_MAX-clause-refused : goal.returns-then-place-ge-TABLES_MAX-clause-refused
returns-then-place-ge-TABLES_MAX-clause-refused c =
    let old = c.args.self.now in
    let t = asked old c.args.name.now c.args.formats in
    let none : named c.args.name.now old.tables ≡ None = nowhere_named c.args.name.now old.tables c.requires.absent.0 in
    elim c.then-place-ge-TABLES_MAX.branch [
      | then-place-ge-TABLES_MAX-via-then-place-ge-TABLES_MAX w ↦
          let here : 1024 ≤ length c.self.inside.tables.items = omega (arith, c.len-place.ensures, w.if-place-ge-TABLES_MAX.true) in
          inr (inl (decided_full old.tables t c.requires.name none (subst (λ (k : Known). 1024 ≤ length k.tables) c.self.view_is here)))
      | then-place-ge-TABLES_MAX-via-else-place-ge-TABLES_MAX+then-self-gt-NUMBER_MAX w ↦
          let here : length c.self.inside.tables.items < 1024 = omega (arith, c.len-place.ensures, w.if-place-ge-TABLES_MAX.false) in
          let past : 2 ^ 32 - 1 ≤ c.self.inside.next = omega (arith, w.if-self-gt-NUMBER_MAX.true) in
          inr (inr (refl, decided_new old.tables t c.requires.name none (subst (λ (k : Known). length k.tables < 1024) c.self.view_is here), subst (λ (k : Known). 2 ^ 32 - 1 ≤ k.next) c.self.view_is past))
    ]

pub returns-clause-created : goal.returns-clause-created
returns-clause-created c =
    let old = c.args.self.now in
    let t = asked old c.args.name.now c.args.formats in
    let none : named c.args.name.now old.tables ≡ None = nowhere_named c.args.name.now old.tables c.requires.absent.0 in
    let here : length c.self.inside.tables.items < 1024 = omega (arith, c.len-place.ensures, c.if-place-ge-TABLES_MAX.false) in
    let place : c.len-place.result ≡ length c.self.inside.tables.items = omega (arith, c.len-place.ensures) in (
      decided_new old.tables t c.requires.name none (subst (λ (k : Known). length k.tables < 1024) c.self.view_is here),
      place ∙ ap (λ (k : Known). length k.tables) c.self.view_is,
      c.in_ok-append.ensures.ok ∙ ap (λ (u : Table). with_new old u) (table_is c.self.inside.next old.next c.new.result c.args.name.now c.args.formats (ap (λ (k : Known). k.next) c.self.view_is) (c.new.ensures ∙ c.in_ok-from_slice.ensures.items)),
    )
