use Rattle.std.proofs.lemmas.Bool.{both_ways, eq-eqb, eqb-true}
use Rattle.std.proofs.Common.{◌≡◌, ℕ, ◌+◌, ◌-◌, length, take, Some, List, ap, sym, ◌∙◌, subst, arith, ◌++◌, ◌∷◌, []}
use Rattle.std.specs.Prelude.{option_map}
use Rattle.std.proofs.Math.ListN.{set}
use Rattle.std.proofs.lemmas.List.{take_more_set, take_all, length-set}
use Rattle.row_page.specs.declared.greatest.Greatest.{Greatest}
use Rattle.row_page.specs.Views.{row_seen}
use Rattle.row_page.proofs.Founds.{Passed, passed_more, passed_none, passed_left, passed_all}
use Rattle.row_page.proofs.leaf.cells_in.Goals as goal
use Rattle.row_page.proofs.leaf.cells_in.Goals.{Else-not-is_empty}

pub returns-in_default-clause-none : goal.returns-in_default-clause-none
returns-in_default-clause-none c =
    passed_none c.args.text.now c.args.count c.loop-i.i (option_map (λ v. v.now) c.loop-i.before) c.loop-i.reader (take c.loop-i.i c.loop-i.places.items) c.loop-i.greatest.name c.loop-i.greatest.durable c.loop-i-test.true c.loop-i.invariant.passed
    c.in_default.ensures.read

pub loop-i-preserved : goal.loop-i-preserved
loop-i-preserved c =
    let text : List ℕ = c.args.text.now in
    let items : List ℕ = c.loop-i.places.items in
    let i : ℕ = c.loop-i.i in
    let more = passed_more text c.args.count i (option_map (λ v. v.now) c.loop-i.before) c.loop-i.reader (take i items) c.loop-i.greatest.name c.loop-i.greatest.durable (row_seen c.in-Some.cell) c.next_cell.new.reader (λ k. omega (arith, c.type_inv.text k)) c.loop-i-test.true c.loop-i.invariant.passed c.in-Some.ensures.read in
    let places : take (i + 1) (set items i (length text - length c.rest.result.now)) ≡ take i items ++ (length text - length c.loop-i.reader) ∷ [] =
    take_more_set items i (length text - length c.rest.result.now) (omega (arith, c.loop-i-test.true, c.loop-i.invariant.room)) ∙ ap (λ (l : List ℕ). take i items ++ (length text - length l) ∷ []) c.rest.ensures in
    record {
      room = length-set items i (length text - length c.rest.result.now) ∙ c.loop-i.invariant.room;
      passed =
          subst (λ (ps : List ℕ). Passed text c.args.count (i + 1) (Some c.in-Some.cell.key.now) c.next_cell.new.reader ps c.next_cell.new.greatest.name c.next_cell.new.greatest.durable) (sym places)
          (subst (λ (g : Greatest). Passed text c.args.count (i + 1) (Some c.in-Some.cell.key.now) c.next_cell.new.reader (take i items ++ (length text - length c.loop-i.reader) ∷ []) g.name g.durable) (sym c.in-Some.ensures.greatest) more);
    }

pub returns-then-not-is_empty-clause-none : goal.returns-then-not-is_empty-clause-none
returns-then-not-is_empty-clause-none c =
    passed_left c.args.text.now c.args.count c.loop-i.i (option_map (λ v. v.now) c.loop-i.before) c.loop-i.reader (take c.loop-i.i c.loop-i.places.items) c.loop-i.greatest.name c.loop-i.greatest.durable (omega (arith, c.loop-i-test.false)) c.loop-i.invariant.passed
    (λ e. both_ways c.is_empty.result c.if-not-is_empty.true (c.is_empty.ensures ∙ eq-eqb _ _ (ap length c.rest-2.ensures ∙ e)))

empty : (c : Else-not-is_empty) → length c.loop-i.reader ≡ 0
empty c = sym (ap length c.rest-2.ensures) ∙ eqb-true _ _ (sym c.is_empty.ensures ∙ c.if-not-is_empty.false)

-- all places
whole : (c : Else-not-is_empty) → Passed c.args.text.now c.args.count c.loop-i.i (option_map (λ v. v.now) c.loop-i.before) c.loop-i.reader c.loop-i.places.items c.loop-i.greatest.name c.loop-i.greatest.durable
whole c =
    subst (λ (ps : List ℕ). Passed c.args.text.now c.args.count c.loop-i.i (option_map (λ v. v.now) c.loop-i.before) c.loop-i.reader ps c.loop-i.greatest.name c.loop-i.greatest.durable)
    (take_all c.loop-i.i c.loop-i.places.items (omega (arith, c.loop-i-test.false, c.loop-i.invariant.room))) c.loop-i.invariant.passed

pub returns-clause-found : goal.returns-clause-found
returns-clause-found c =
    (passed_all c.args.text.now c.args.count c.loop-i.i (option_map (λ v. v.now) c.loop-i.before) c.loop-i.reader c.loop-i.places.items c.loop-i.greatest.name c.loop-i.greatest.durable (λ i. omega (arith, c.type_inv.text i)) c.requires (omega (arith, c.loop-i-test.false)) (whole c) (empty c)).1

pub returns-clause-leaf : goal.returns-clause-leaf
returns-clause-leaf c =
    (passed_all c.args.text.now c.args.count c.loop-i.i (option_map (λ v. v.now) c.loop-i.before) c.loop-i.reader c.loop-i.places.items c.loop-i.greatest.name c.loop-i.greatest.durable (λ i. omega (arith, c.type_inv.text i)) c.requires (omega (arith, c.loop-i-test.false)) (whole c) (empty c)).0
