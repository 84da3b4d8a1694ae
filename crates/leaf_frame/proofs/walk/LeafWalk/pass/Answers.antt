use Rattle.std.proofs.Common.{◌≡◌, ◌∙◌, ℕ, List, Option, None, Some, Bor, ap, sym, subst}
use Rattle.std.specs.Prelude.{option_map}
use Rattle.kv_model.specs.Rows.{Way}
use Rattle.row_page.specs.Rows.{Row}
use Rattle.reconcile.specs.Held.{page_rows}
use Rattle.leaf_frame.specs.declared.near.First.{First}
use Rattle.leaf_frame.specs.Leaf.{leaf_of}
use Rattle.leaf_frame.specs.Near.{IsNear, NonePast}
use Rattle.leaf_frame.specs.Walks.{IsFirst, Walked, onward, walk_on, way_along}
use Rattle.leaf_frame.specs.Ways.{way_in}
use Rattle.leaf_frame.proofs.Walking.{IsSought, RowFrom, behind_both, behind_row, behind_slot, near_is_both, near_is_row, near_is_slot, none_near, sought, still_placed, the_row, the_slot}
use Rattle.leaf_frame.proofs.walk.LeafWalk.pass.Goals as goal

pub invariant_of-self : goal.invariant_of-self
invariant_of-self c =
    let slots = c.nearest-self-inside.new.self in
    let from = option_map (λ k. k.now) c.self.inside.from in
    let page = page_rows c.self.inside.page in
    let chains = c.self.inside.chains.now in
    let there = c.nearest-self-inside.result in
    let row = c.self.inside.row in
    let at = sought c.self.inside.slots slots from page chains c.self.inside.there there row c.self.invariant c.nearest-self-inside.ensures.way c.nearest-self-inside.ensures.left c.nearest-self-inside.ensures.none in
    still_placed slots from page chains there row at

pub invariant_of-self-in-Some-Slot : goal.invariant_of-self-in-Some-Slot
invariant_of-self-in-Some-Slot c =
    let slots = c.nearest-self-inside.new.self in
    let from = option_map (λ k. k.now) c.self.inside.from in
    let page = page_rows c.self.inside.page in
    let chains = c.self.inside.chains.now in
    let there = c.nearest-self-inside.result in
    let row = c.self.inside.row in
    let at = sought c.self.inside.slots slots from page chains c.self.inside.there there row c.self.invariant c.nearest-self-inside.ensures.way c.nearest-self-inside.ensures.left c.nearest-self-inside.ensures.none in
    let told : way_in c.way_of-way.result ≡ way_along slots = c.way_of-way.ensures ∙ sym c.nearest-self-inside.ensures.way in
    let first = subst (λ (w : Way). IsFirst w there row c.in-Some-Slot.field-0) told c.in-Some-Slot.ensures in
    let first = subst (λ (f : First). IsFirst (way_along slots) there row f) c.in-Some-Slot.field-0-is first in
    behind_slot slots from page chains there row c.in-Some-Slot.slot c.of_slot-near.result.key.now at first c.of_slot-near.ensures.0

pub invariant_of-self-in-Some-Row : goal.invariant_of-self-in-Some-Row
invariant_of-self-in-Some-Row c =
    let slots = c.nearest-self-inside.new.self in
    let from = option_map (λ k. k.now) c.self.inside.from in
    let page = page_rows c.self.inside.page in
    let chains = c.self.inside.chains.now in
    let there = c.nearest-self-inside.result in
    let row = c.self.inside.row in
    let at = sought c.self.inside.slots slots from page chains c.self.inside.there there row c.self.invariant c.nearest-self-inside.ensures.way c.nearest-self-inside.ensures.left c.nearest-self-inside.ensures.none in
    let told : way_in c.way_of-way.result ≡ way_along slots = c.way_of-way.ensures ∙ sym c.nearest-self-inside.ensures.way in
    let first = subst (λ (w : Way). IsFirst w there row c.in-Some-Row.field-0) told c.in-Some-Row.ensures in
    let first = subst (λ (f : First). IsFirst (way_along slots) there row f) c.in-Some-Row.field-0-is first in
    let next = subst (λ (w : Way). RowFrom w (Some c.in-Some-Row.row.cell.key.now) page c.row_behind-self-inside.result) told c.row_behind-self-inside.ensures in
    behind_row slots from page chains there row c.row_behind-self-inside.result c.in-Some-Row.row c.of_row-near.result.key.now at first c.of_row-near.ensures.0 next

pub returns-in-None : goal.returns-in-None
returns-in-None c =
    let slots = c.nearest-self-inside.new.self in
    let from = option_map (λ k. k.now) c.self.inside.from in
    let page = page_rows c.self.inside.page in
    let chains = c.self.inside.chains.now in
    let there = c.nearest-self-inside.result in
    let row = c.self.inside.row in
    let at = sought c.self.inside.slots slots from page chains c.self.inside.there there row c.self.invariant c.nearest-self-inside.ensures.way c.nearest-self-inside.ensures.left c.nearest-self-inside.ensures.none in (
      subst (λ (w : Walked). NonePast w.way w.from w.leaf) c.self.view_is (subst (λ (w : Way). NonePast w from (leaf_of page chains)) c.nearest-self-inside.ensures.way
          (none_near slots from page chains there row at c.in-None.ensures.0 c.in-None.ensures.1)),
      ap (λ (w : Way). walk_on w from (leaf_of page chains)) c.nearest-self-inside.ensures.way ∙ c.self.view_is,
    )

pub returns-in-Some-Slot : goal.returns-in-Some-Slot
returns-in-Some-Slot c =
    let slots = c.nearest-self-inside.new.self in
    let from = option_map (λ k. k.now) c.self.inside.from in
    let page = page_rows c.self.inside.page in
    let chains = c.self.inside.chains.now in
    let there = c.nearest-self-inside.result in
    let row = c.self.inside.row in
    let at = sought c.self.inside.slots slots from page chains c.self.inside.there there row c.self.invariant c.nearest-self-inside.ensures.way c.nearest-self-inside.ensures.left c.nearest-self-inside.ensures.none in
    let told : way_in c.way_of-way.result ≡ way_along slots = c.way_of-way.ensures ∙ sym c.nearest-self-inside.ensures.way in
    let first = subst (λ (w : Way). IsFirst w there row c.in-Some-Slot.field-0) told c.in-Some-Slot.ensures in
    let first = subst (λ (f : First). IsFirst (way_along slots) there row f) c.in-Some-Slot.field-0-is first in
    let near = the_slot (way_along slots) from chains there c.in-Some-Slot.slot at.slot first.0 in (
      subst (λ (w : Walked). IsNear w.way w.from w.leaf c.of_slot-near.result) c.self.view_is (subst (λ (w : Way). IsNear w from (leaf_of page chains) c.of_slot-near.result) c.nearest-self-inside.ensures.way
          (near_is_slot (way_along slots) from (leaf_of page chains) c.in-Some-Slot.slot.now row c.of_slot-near.result near at.row_at first.1 c.of_slot-near.ensures)),
      ap (λ (w : Way). walk_on w (Some c.of_slot-near.result.key.now) (leaf_of page chains)) c.nearest-self-inside.ensures.way ∙ ap (onward c.of_slot-near.result.key.now) c.self.view_is,
    )

pub returns-in-Some-Row : goal.returns-in-Some-Row
returns-in-Some-Row c =
    let slots = c.nearest-self-inside.new.self in
    let from = option_map (λ k. k.now) c.self.inside.from in
    let page = page_rows c.self.inside.page in
    let chains = c.self.inside.chains.now in
    let there = c.nearest-self-inside.result in
    let row = c.self.inside.row in
    let at = sought c.self.inside.slots slots from page chains c.self.inside.there there row c.self.invariant c.nearest-self-inside.ensures.way c.nearest-self-inside.ensures.left c.nearest-self-inside.ensures.none in
    let told : way_in c.way_of-way.result ≡ way_along slots = c.way_of-way.ensures ∙ sym c.nearest-self-inside.ensures.way in
    let first = subst (λ (w : Way). IsFirst w there row c.in-Some-Row.field-0) told c.in-Some-Row.ensures in
    let first = subst (λ (f : First). IsFirst (way_along slots) there row f) c.in-Some-Row.field-0-is first in
    let near = the_row (way_along slots) from page row c.in-Some-Row.row at.row_at first.0 in (
      subst (λ (w : Walked). IsNear w.way w.from w.leaf c.of_row-near.result) c.self.view_is (subst (λ (w : Way). IsNear w from (leaf_of page chains) c.of_row-near.result) c.nearest-self-inside.ensures.way
          (near_is_row (way_along slots) from (leaf_of page chains) there c.in-Some-Row.row c.of_row-near.result at.slot near first.1 c.of_row-near.ensures)),
      ap (λ (w : Way). walk_on w (Some c.of_row-near.result.key.now) (leaf_of page chains)) c.nearest-self-inside.ensures.way ∙ ap (onward c.of_row-near.result.key.now) c.self.view_is,
    )

pub returns-in-Some-Both : goal.returns-in-Some-Both
returns-in-Some-Both c =
    let slots = c.nearest-self-inside.new.self in
    let from = option_map (λ k. k.now) c.self.inside.from in
    let page = page_rows c.self.inside.page in
    let chains = c.self.inside.chains.now in
    let there = c.nearest-self-inside.result in
    let row = c.self.inside.row in
    let at = sought c.self.inside.slots slots from page chains c.self.inside.there there row c.self.invariant c.nearest-self-inside.ensures.way c.nearest-self-inside.ensures.left c.nearest-self-inside.ensures.none in
    let told : way_in c.way_of-way.result ≡ way_along slots = c.way_of-way.ensures ∙ sym c.nearest-self-inside.ensures.way in
    let first = subst (λ (w : Way). IsFirst w there row c.in-Some-Both.field-0) told c.in-Some-Both.ensures in
    let first = subst (λ (f : First). IsFirst (way_along slots) there row f) c.in-Some-Both.field-0-is first in
    let slot = the_slot (way_along slots) from chains there c.in-Some-Both.slot at.slot first.0 in
    let near = the_row (way_along slots) from page row c.in-Some-Both.row at.row_at first.1.0 in (
      subst (λ (w : Walked). IsNear w.way w.from w.leaf c.of_both-near.result) c.self.view_is (subst (λ (w : Way). IsNear w from (leaf_of page chains) c.of_both-near.result) c.nearest-self-inside.ensures.way
          (near_is_both (way_along slots) from (leaf_of page chains) c.in-Some-Both.slot.now c.in-Some-Both.row c.of_both-near.result slot near c.of_both-near.ensures)),
      ap (λ (w : Way). walk_on w (Some c.of_both-near.result.key.now) (leaf_of page chains)) c.nearest-self-inside.ensures.way ∙ ap (onward c.of_both-near.result.key.now) c.self.view_is,
    )
