use Rattle.std.proofs.Common.{◌∙◌, sym, arith}
use Rattle.std.specs.Cmp.{nat_cmp_is}
use Rattle.std.specs.declared.cmp.Ordering.TheVariants.{Less, Greater}
use Rattle.leaf_chains.specs.Slots.{key_at}
use Rattle.leaf_chains.proofs.HeadLemmas.{by_heads}
use Rattle.leaf_chains.proofs.places.compare_heads.Goals as goal

pub returns-then-kept-head : goal.returns-then-kept-head
returns-then-kept-head c =
    let kept = c.requires.kept.heads c.args.slot c.in-Some.kept (sym c.at.ensures ∙ c.in-Some.is) in
    nat_cmp_is c.in-Some.kept c.args.head Less c.if-kept-head.true
    ∙ sym (by_heads c.args.heads.now.front.items (key_at c.args.slots.now c.args.slot) c.args.key.now c.in-Some.kept c.args.head kept c.requires.head (λ e. omega (arith, e, c.if-kept-head.true)))

pub returns-then-head-kept : goal.returns-then-head-kept
returns-then-head-kept c =
    let kept = c.requires.kept.heads c.args.slot c.in-Some.kept (sym c.at.ensures ∙ c.in-Some.is) in
    nat_cmp_is c.in-Some.kept c.args.head Greater c.if-head-kept.true
    ∙ sym (by_heads c.args.heads.now.front.items (key_at c.args.slots.now c.args.slot) c.args.key.now c.in-Some.kept c.args.head kept c.requires.head (λ e. omega (arith, e, c.if-head-kept.true)))
