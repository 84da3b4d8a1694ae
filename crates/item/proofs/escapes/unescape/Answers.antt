use Rattle.std.proofs.Common.{◌≡◌, List, ℕ, ap, sym, ◌∙◌, subst}
use Rattle.std.specs.Prelude.{IfSome}
use Rattle.item.specs.Escapes.{IsSmall, reads_on}
use Rattle.item.proofs.ReadBack.{taken}
use Rattle.item.proofs.escapes.unescape.Goals as goal

pub loop-out-preserved : goal.loop-out-preserved
loop-out-preserved c = record {
  bytes =
      c.loop-out.invariant.bytes
      ∙ c.in_ok-rest.ensures.bytes
      ∙ ap (λ (l : List ℕ). reads_on c.copy_plain.new.out.items c.loop-out.reading l) c.in-Some.ensures.cases.0
      ∙ taken c.copy_plain.new.out.items c.take_byte.new.out.items c.loop-out.reading c.in-Some-2.next c.in-Some.b.now c.in-Some.behind.now (sym c.in-Some-2.is ∙ c.in_ok-take_byte.ensures.next) c.in_ok-take_byte.ensures.bytes;
  small = subst (λ o. IfSome o IsSmall) c.in-Some-2.is c.in_ok-take_byte.ensures.small;
}
