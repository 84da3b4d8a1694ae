use Rattle.std.proofs.Common.{◌≡◌, ◌-◌, ◌≤◌, true, List, [], ◌∷◌, length, drop, refl, sym, ◌∙◌, arith}
use Rattle.std.proofs.lemmas.List.{length-drop}
use Rattle.stored.specs.Records.{TableRoot}
use Rattle.checkpoint_record.specs.Rules.{names_ascend}
use Rattle.checkpoint_record.proofs.rules.names_ascend.Goals as goal

one_ascends : (tables : List TableRoot) → length tables ≤ 1 → names_ascend tables ≡ true
one_ascends [] few = refl
one_ascends (t ∷ []) few = refl
one_ascends (t ∷ u ∷ tables) few = absurd (omega (arith, few))

pub returns : goal.returns
returns c =
    let rest : List TableRoot = drop (c.loop-i.i - 1) c.args.tables.now in
    sym (one_ascends rest (omega (arith, length-drop (c.loop-i.i - 1) c.args.tables.now, c.loop-i-test.false))) ∙ c.loop-i.invariant
