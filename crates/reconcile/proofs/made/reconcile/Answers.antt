use Rattle.std.proofs.Common.{◌∙◌, ℕ, List, drop, None, ap, sym, subst}
use Rattle.leaf_chains.specs.declared.slot.KeyChain.{KeyChain}
use Rattle.reconcile.specs.Gathered.{slots_at}
use Rattle.reconcile.proofs.Measuring.{slot_fits}
use Rattle.reconcile.proofs.Gathering.{climbs, way_chain}
use Rattle.reconcile.specs.declared.image.Moved.{Moved}
use Rattle.reconcile.specs.declared.live.Rule.{Rule}
use Rattle.reconcile.specs.Held.{page_rows}
use Rattle.reconcile.specs.Making.{MadeTo}
use Rattle.reconcile.specs.Merged.{all_kept, merged}
use Rattle.reconcile.specs.Moving.{InKeyOrder, versions_in}
use Rattle.reconcile.proofs.Making.{all_fit, made_all, slots_first}
use Rattle.reconcile.proofs.Merging.{merged_tidy, rises}
use Rattle.reconcile.proofs.Reconciling.{is_reconciled, moved_are, moved_order}
use Rattle.reconcile.proofs.made.reconcile.Goals as goal

pub make_key-requires-clause-fit : goal.make_key-requires-clause-fit
make_key-requires-clause-fit c = slot_fits c.args.chains.now c.in-Some.slot c.in-Some-slot.there.now (sym c.in-Some-slot.ensures.there) c.in-Some-slot.ensures.own c.requires.fit

pub loop-slot-preserved-in-Some-slot : goal.loop-slot-preserved-in-Some-slot
loop-slot-preserved-in-Some-slot c =
    let rule : Rule = record { live = c.args.live; pin = c.args.pin; floor = c.args.floor } in
    let slots = c.args.chains.now in
    let page = page_rows c.args.page in
    let way = c.walk_above-walk.result in
    let all = merged (slots_at slots way) page in
    c.in_ok-at.ensures (slots_at slots c.next_entry.new.self) all (all_fit rule slots way page c.walk_above-walk.ensures c.requires.fit c.requires.page)
    (subst (λ (chains : List KeyChain). MadeTo rule c.loop-slot.making (merged chains (drop c.loop-slot.at page)) all)
    (slots_first slots c.loop-slot.walk c.next_entry.new.self c.in-Some.slot c.in-Some-slot.there.now c.in-Some.ensures.after (sym c.in-Some-slot.ensures.there)) c.loop-slot.invariant)

pub returns-clause-images : goal.returns-clause-images
returns-clause-images c =
    let rule : Rule = record { live = c.args.live; pin = c.args.pin; floor = c.args.floor } in
    let slots = c.args.chains.now in
    let page = page_rows c.args.page in
    let way = c.walk_above-walk.result in
    let chains = slots_at slots way in
    let all = merged chains page in
    let fit = all_fit rule slots way page c.walk_above-walk.ensures c.requires.fit c.requires.page in
    let to = subst (λ (w : List ℕ). MadeTo rule c.loop-slot.making (merged (slots_at slots w) (drop c.loop-slot.at page)) all) c.in_default.ensures.ends c.loop-slot.invariant in
    let has = made_all rule c.make_rest.new.making all (c.in_ok-make_rest.ensures all fit to) in (
      all_kept c.args.live all,
      is_reconciled c.args.live chains slots page (climbs slots way c.walk_above-walk.ensures.ascends) (rises None page c.requires.page.ascend) (λ key. way_chain slots way key c.walk_above-walk.ensures) fit,
      c.in_ok-finish.ensures (all_kept c.args.live all) has.rows fit,
    )

pub returns-clause-moved : goal.returns-clause-moved
returns-clause-moved c = λ key.
    let rule : Rule = record { live = c.args.live; pin = c.args.pin; floor = c.args.floor } in
    let slots = c.args.chains.now in
    let page = page_rows c.args.page in
    let way = c.walk_above-walk.result in
    let chains = slots_at slots way in
    let all = merged chains page in
    let fit = all_fit rule slots way page c.walk_above-walk.ensures c.requires.fit c.requires.page in
    let to = subst (λ (w : List ℕ). MadeTo rule c.loop-slot.making (merged (slots_at slots w) (drop c.loop-slot.at page)) all) c.in_default.ensures.ends c.loop-slot.invariant in
    let has = made_all rule c.make_rest.new.making all (c.in_ok-make_rest.ensures all fit to) in
    ap (λ (l : List Moved). versions_in key l) has.moves
    ∙ moved_are c.args.live c.args.pin c.args.floor chains slots page (climbs slots way c.walk_above-walk.ensures.ascends) (rises None page c.requires.page.ascend) (λ k. way_chain slots way k c.walk_above-walk.ensures) key

pub returns-clause-ordered : goal.returns-clause-ordered
returns-clause-ordered c =
    let rule : Rule = record { live = c.args.live; pin = c.args.pin; floor = c.args.floor } in
    let slots = c.args.chains.now in
    let page = page_rows c.args.page in
    let way = c.walk_above-walk.result in
    let chains = slots_at slots way in
    let all = merged chains page in
    let fit = all_fit rule slots way page c.walk_above-walk.ensures c.requires.fit c.requires.page in
    let to = subst (λ (w : List ℕ). MadeTo rule c.loop-slot.making (merged (slots_at slots w) (drop c.loop-slot.at page)) all) c.in_default.ensures.ends c.loop-slot.invariant in
    let has = made_all rule c.make_rest.new.making all (c.in_ok-make_rest.ensures all fit to) in
    subst InKeyOrder (sym has.moves) (moved_order c.args.live c.args.pin c.args.floor all (merged_tidy chains page (climbs slots way c.walk_above-walk.ensures.ascends) (rises None page c.requires.page.ascend)))
