use Rattle.std.proofs.Common.{◌≡◌, ◌∙◌, ℕ, List, [], ◌∷◌, ◌++◌, Some, None, refl, ap, sym, subst}
use Rattle.std.specs.List.{HoldsAt}
use Rattle.std.specs.List.Sorted.{IsPartitionPoint}
use Rattle.std.specs.declared.cmp.Ordering.TheVariants.{Less, Equal, Greater}
use Rattle.ordered_groups.specs.Groups.{entries}
use Rattle.ordered_groups.specs.Places.{rank, PartsAt}
use Rattle.update_chain.specs.Updates.{installed}
use Rattle.leaf_chains.specs.declared.slot.KeyChain.{KeyChain}
use Rattle.leaf_chains.specs.Slots.{slot_of, with_update}
use Rattle.leaf_chains.specs.Heads.{AreHeads}
use Rattle.leaf_chains.specs.Order.{key_order}
use Rattle.leaf_chains.proofs.HeadLemmas.{heads_pushed, last_head}
use Rattle.leaf_chains.proofs.Installs.{installed_new, pushed_slot}
use Rattle.leaf_chains.proofs.Index.{found_slot, no_slot, place_within, gap_within, rises}
use Rattle.leaf_chains.proofs.NameLemmas.{AreUpTo, none_later, none_pushed}
use Rattle.leaf_chains.proofs.Pushing.{index_pushed}
use Rattle.leaf_chains.proofs.chains.LeafChains.add.Goals as goal
use Rattle.leaf_chains.proofs.chains.LeafChains.add.Goals.{After-keep}

pub returns-in-Ok-clause-added : goal.returns-in-Ok-clause-added
returns-in-Ok-clause-added c =
    let slots = c.self.inside.slots.items in
    let gs = c.self.inside.order in
    let p = c.in-Ok.place in
    let key = c.args.key.now in
    let equal = subst (λ (s : List KeyChain). HoldsAt (λ y. key_order s key y ≡ Equal) (entries gs) (rank gs p)) c.as_slice.ensures.value c.in-Ok.ensures.found in
    let there = found_slot slots (entries gs) key (rank gs p) c.get-slot.result c.self.invariant.0 (place_within gs p c.in-Ok.ensures.place) c.get-slot.ensures equal in
    (subst (λ (s : List KeyChain). slot_of key s ≡ Some c.get-slot.result) c.self.view_is there, refl, refl)

parts : (c : After-keep) → IsPartitionPoint (λ y. key_order c.self.inside.slots.items c.args.key.now y ≡ Less) (λ y. key_order c.self.inside.slots.items c.args.key.now y ≡ Greater) (entries c.self.inside.order) (rank c.self.inside.order c.in-Err.gap)
parts c =
    let slots = c.self.inside.slots.items in
    let gs = c.self.inside.order in
    let key = c.args.key.now in
    let splits = subst (λ (s : List KeyChain). PartsAt (key_order s key) (entries gs) (rank gs c.in-Err.gap)) c.as_slice.ensures.value c.in-Err.ensures.found in
    splits (rises slots (entries gs) key c.self.invariant.0)

is_new : (c : After-keep) → slot_of c.args.key.now c.self.inside.slots.items ≡ None
is_new c = no_slot c.self.inside.slots.items (entries c.self.inside.order) c.args.key.now (rank c.self.inside.order c.in-Err.gap) c.self.invariant.0 (parts c)

pub invariant_of-self-in-Err : goal.invariant_of-self-in-Err
invariant_of-self-in-Err c =
    let slots = c.self.inside.slots.items in
    let gs = c.self.inside.order in
    let r = rank gs c.in-Err.gap in
    let key = ap (λ (s : KeyChain). s.key) c.in_ok-added-in-Err.ensures in
    let here = subst (λ (k : List ℕ). IsPartitionPoint (λ y. key_order slots k y ≡ Less) (λ y. key_order slots k y ≡ Greater) (entries gs) r) (sym key) (parts c) in
    let after = c.as_slice-in-Err.ensures.value ∙ c.in_ok-slot-in-Err.ensures.slots in
    let kept = subst (λ (xs : List KeyChain). AreHeads c.keep.new.self.front.items c.keep.new.self.words.items xs) after c.keep.ensures in
    let name = c.later-self-inside.result in
    let chain = ap (λ (s : KeyChain). s.chain) c.in_ok-added-in-Err.ensures in
    let its = subst (AreUpTo name) (sym chain) (c.later-self-inside.ensures.second, tt) in
    let raised = none_later c.self.inside.greatest name slots c.later-self-inside.ensures.first c.self.invariant.2 in
    rw (c.in_ok-slot-in-Err.ensures.slots, c.in_ok-slot-in-Err.ensures.named) (
      index_pushed slots (entries gs) r c.in_ok-added-in-Err.added c.self.invariant.0 (gap_within gs c.in-Err.gap c.in-Err.ensures.place) here,
      kept,
      none_pushed name c.in_ok-added-in-Err.added slots its raised,
    )

pushed : (c : After-keep) → c.self.inside.slots.items ++ c.in_ok-added-in-Err.added ∷ [] ≡ with_update c.args.key.now c.args.update c.self.inside.slots.items
pushed c =
    let slots = c.self.inside.slots.items in
    ap (λ (s : KeyChain). slots ++ s ∷ []) c.in_ok-added-in-Err.ensures
    ∙ installed_new c.args.key.now c.args.update slots (is_new c)

its_slot : (c : After-keep) → slot_of c.args.key.now (c.self.inside.slots.items ++ c.in_ok-added-in-Err.added ∷ []) ≡ Some c.in_ok-slot-in-Err.slot
its_slot c =
    let slots = c.self.inside.slots.items in
    let key = c.args.key.now in
    ap (λ (s : KeyChain). slot_of key (slots ++ s ∷ [])) c.in_ok-added-in-Err.ensures
    ∙ (pushed_slot key (installed c.args.update []) slots (is_new c)
    ∙ ap (λ (i : ℕ). Some i) (sym c.in_ok-slot-in-Err.ensures.slot))

pub returns-in_ok-slot-in-Err-clause-added : goal.returns-in_ok-slot-in-Err-clause-added
returns-in_ok-slot-in-Err-clause-added c =
    let key = c.args.key.now in (
      subst (λ (s : List KeyChain). slot_of key s ≡ None) c.self.view_is (is_new c),
      c.in_ok-slot-in-Err.ensures.slots ∙ (pushed c ∙ ap (λ (s : List KeyChain). with_update key c.args.update s) c.self.view_is),
      ap (slot_of key) c.in_ok-slot-in-Err.ensures.slots ∙ its_slot c,
    )

pub keep-requires-clause-heads : goal.keep-requires-clause-heads
keep-requires-clause-heads c =
    let slots = c.self.inside.slots.items in
    let heads = c.self.inside.heads in
    let after = c.as_slice-in-Err.ensures.value ∙ c.in_ok-slot-in-Err.ensures.slots in
    subst (λ (xs : List KeyChain). AreHeads heads.front.items heads.words.items xs) (sym after)
    (heads_pushed heads.front.items heads.words.items slots c.in_ok-added-in-Err.added c.self.invariant.1)

pub keep-requires-clause-last : goal.keep-requires-clause-last
keep-requires-clause-last c =
    let after = c.as_slice-in-Err.ensures.value ∙ c.in_ok-slot-in-Err.ensures.slots in
    last_head c.self.inside.heads.front.items c.args.key.now c.self.inside.slots.items c.as_slice-in-Err.result.now c.in_ok-added-in-Err.added c.of-head.result
    after (ap (λ (s : KeyChain). s.key) c.in_ok-added-in-Err.ensures) c.of-head.ensures
