use Rattle.std.proofs.Common.{◌≡◌, [], length, sym, ap, subst, ◌∙◌, arith}
use Rattle.std.proofs.lemmas.Bool.{both_ways, eq-eqb, eqb-true}
use Rattle.std.proofs.lemmas.List.{nil_from_length}
use Rattle.stored.specs.Records.{Record}
use Rattle.checkpoint_record.specs.Rules.{Keeps}
use Rattle.checkpoint_record.proofs.Kept.{record_keeps}
use Rattle.checkpoint_record.proofs.Blocks.{was_none, was_some, none_said, said_is, read_said}
use Rattle.checkpoint_record.proofs.reading.record_in.Goals as goal

pub returns-in_default-clause-none : goal.returns-in_default-clause-none
returns-in_default-clause-none c = none_said c.args.count c.args.text.now (was_none c.args.count c.args.text.now c.new-reader.result c.record_of.new.reader c.in_ok-record.field-0 c.new-reader.ensures c.in_default.is c.in_ok-record.ensures)

pub returns-then-not-is_empty-clause-none : goal.returns-then-not-is_empty-clause-none
returns-then-not-is_empty-clause-none c = λ r s.
    (let q : Record = c.in-Some.record in
    let read = was_some c.args.count c.args.text.now c.new-reader.result c.record_of.new.reader c.in_ok-record.field-0 q c.new-reader.ensures c.in-Some.is c.in_ok-record.ensures in
    let same = said_is c.args.count c.args.text.now q c.record_of.new.reader read r s in
    both_ways c.is_empty.result c.if-not-is_empty.true (c.is_empty.ensures ∙ eq-eqb _ _ (ap length c.rest.ensures ∙ ap length same.1)))

pub returns-then-branch-clause-found : goal.returns-then-branch-clause-found
returns-then-branch-clause-found c =
    let q : Record = c.in-Some.record in
    let read = was_some c.args.count c.args.text.now c.new-reader.result c.record_of.new.reader c.in_ok-record.field-0 q c.new-reader.ensures c.in-Some.is c.in_ok-record.ensures in
    let empty : c.record_of.new.reader ≡ [] = nil_from_length c.record_of.new.reader (sym (ap length c.rest.ensures) ∙ eqb-true _ _ (sym c.is_empty.ensures ∙ c.if-not-is_empty.false)) in
    read_said c.args.count c.args.text.now q c.record_of.new.reader (λ i. omega (arith, c.type_inv.text i)) c.requires read empty (c.in_ok-keeps.ensures.0 c.if-branch.true)

pub returns-else-branch-clause-none : goal.returns-else-branch-clause-none
returns-else-branch-clause-none c = λ r s.
    (let q : Record = c.in-Some.record in
    let read = was_some c.args.count c.args.text.now c.new-reader.result c.record_of.new.reader c.in_ok-record.field-0 q c.new-reader.ensures c.in-Some.is c.in_ok-record.ensures in
    let same = said_is c.args.count c.args.text.now q c.record_of.new.reader read r s in
    both_ways c.in_ok-keeps.field-0 c.if-branch.false (c.in_ok-keeps.ensures.1 (subst (λ (k : Record). Keeps k) (sym same.0) (record_keeps r s.admitted))))
