use Rattle.std.proofs.Common.{◌≡◌, [], ◌∷◌, ap, length, List, arith, refl, rules}
use Rattle.std.proofs.lemmas.List.{length_push}
use Rattle.stored.specs.Records.{TableRoot}
use Rattle.tree_open.specs.declared.place.Upper.{Upper}
use Rattle.engine_store.proofs.Over.{rest_all, rest_more}
use Rattle.engine_store.proofs.tables.with_entries.Goals as goal

pub loop-root-preserved-in-Continue-1 : goal.loop-root-preserved-in-Continue-1
loop-root-preserved-in-Continue-1 c =
    let tables : List TableRoot = c.pop.new.self.items in
    let uppers : List Upper = c.pop-in-Some.new.self.items in
    record {
      count = omega (arith, c.loop-root.invariant.count, ap length c.in-Some.ensures.items, ap length c.in-Some-pop.ensures.items, length_push tables c.in-Some.root, length_push uppers c.in-Some-pop.upper);
      rest = rest_more c.loop-root.both.items c.push.new.both.items c.with_upper.result tables c.loop-root.tables.items c.args.tables.items uppers c.loop-root.uppers.items c.args.uppers.items c.in-Some.root c.in-Some-pop.upper
          c.in-Some.ensures.items c.in-Some-pop.ensures.items c.with_upper.ensures c.in_ok-push.ensures c.loop-root.invariant.rest;
    }

none_left : {A : Type 0} (xs : List A) → length xs ≡ 0 → xs ≡ []
none_left [] none = refl
none_left (x ∷ xs) none = absurd (omega (arith, none))

pub returns : goal.returns
returns c =
    let none : c.loop-root.tables.items ≡ [] = search rules in
    rest_all c.loop-root.both.items c.reverse.new.self.items c.loop-root.tables.items c.args.tables.items c.loop-root.uppers.items c.args.uppers.items none
    (none_left c.loop-root.uppers.items (omega (arith, c.loop-root.invariant.count, ap length none))) c.reverse.ensures.items c.loop-root.invariant.rest
