use Rattle.std.proofs.Common.{◌≡◌, ◌++◌, ◌∷◌, ◌∙◌, [], ℕ, List, length, refl, ap, subst, arith}
use Rattle.std.specs.Prelude.{filter, ltb}
use Rattle.kv_model.specs.History.{Table}
use Rattle.catalog.specs.Order.{IsCatalog}
use Rattle.catalog.proofs.Sorting.{catalog_is}
use Rattle.catalog.proofs.Taking.{catalog_taken}
use Rattle.catalog.proofs.catalog.Catalog.take_back.Goals as goal

pub invariant_of-self : goal.invariant_of-self
invariant_of-self c =
    let front = c.pop.new.self.items in
    let t = c.in-Some.table in
    let places = c.self.inside.places.items in
    let is : IsCatalog (record { tables = front ++ t ∷ []; next = c.self.inside.next }) places =
    subst (λ (l : List Table). IsCatalog (record { tables = l; next = c.self.inside.next }) places) c.in-Some.ensures.items c.self.invariant in
    let end : c.len.result ≡ length front = omega (arith, c.len.ensures) in
    catalog_is (record { tables = front; next = t.number }) (filter (λ (place : ℕ). ltb place (length front)) places) front c.table.inside.number c.keep_below.new.places.items
    (catalog_taken front t c.self.inside.next places is)
    refl
    (ap (λ (u : Table). u.number) c.table.view_is)
    (c.keep_below.ensures ∙ ap (λ (n : ℕ). filter (λ (place : ℕ). ltb place n) places) end)
