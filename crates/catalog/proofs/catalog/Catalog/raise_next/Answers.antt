use Rattle.std.proofs.Common.{◌≡◌, ◌≤◌, sym, subst}
use Rattle.catalog.specs.Known.{Known}
use Rattle.catalog.proofs.Sorting.{catalog_upto}
use Rattle.catalog.proofs.catalog.Catalog.raise_next.Goals as goal

pub invariant_of-self : goal.invariant_of-self
invariant_of-self c =
    let known : Known = record { tables = c.self.inside.tables.items; next = c.self.inside.next } in
    let view : known ≡ c.args.self.now = c.self.view_is in
    catalog_upto known c.args.next c.self.inside.places.items c.self.invariant (subst (λ (k : Known). k.next ≤ c.args.next) (sym view) c.requires) c.ranges.next.fits
