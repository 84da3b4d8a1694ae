use Rattle.std.proofs.Common.{◌∙◌, ◌<◌, ◌+◌, ◌^◌, ◌∷◌, ◌++◌, [], ℕ, List, length, refl, sym, ap, subst, append_assoc, arith}
use Rattle.std.proofs.lemmas.List.{length_push}
use Rattle.dump_text.specs.Cuts.{lines_in}
use Rattle.dump_text.specs.Wholes.{HasTaken}
use Rattle.dump_text.proofs.Taking.{done_ended, dumped_all, refused_all, refused_last, refused_stop, rest_none, taken_all}
use Rattle.dump_text.proofs.whole.read_dump.Goals as goal

pub lines-init : goal.lines-init
lines-init c = record { front = []; taken = c.nothing-reading.ensures (lines_in c.args.text.now); lines = refl; count = refl; fits = omega arith }

pub lines-preserved : goal.lines-preserved
lines-preserved c =
    let i = c.lines.invariant in
    let line = c.first_line.result.0.now in
    let behind = c.first_line.result.1.now in
    record {
      front = i.front ++ line ∷ [];
      taken = c.in-Ok.ensures.taken i.front (subst (λ (l : List (List ℕ)). HasTaken i.front l c.lines.reading) c.first_line.ensures.lines i.taken);
      lines = i.lines ∙ ap (λ (l : List (List ℕ)). i.front ++ l) c.first_line.ensures.lines ∙ sym (append_assoc i.front (line ∷ []) (lines_in behind));
      count = ap (λ (n : ℕ). n + 1) i.count ∙ sym (length_push i.front line);
      fits = omega (arith, i.fits, c.first_line.ensures.shorter);
    }

pub returns-in-Err-clause-refused : goal.returns-in-Err-clause-refused
returns-in-Err-clause-refused c =
    let i = c.lines.invariant in
    let less : length i.front < 2 ^ 63 = omega (arith, i.count, i.fits, c.requires.short) in
    refused_stop c.args.ended c.args.text.now i.front (lines_in c.first_line.result.1.now) c.first_line.result.0.now c.in-Err.refusal
    (i.lines ∙ ap (λ (l : List (List ℕ)). i.front ++ l) c.first_line.ensures.lines) (c.in-Err.ensures.refused i.front (lines_in c.lines.rest.now) less i.taken)

pub whole-requires : goal.whole-requires
whole-requires c =
    let i = c.lines.invariant in
    let all = taken_all c.args.text.now c.lines.rest.now i.front c.lines.reading (rest_none c.lines.rest.now c.is_empty.result c.lines-test.false c.is_empty.ensures) i.lines i.taken in
    (i.front, all.1)

pub returns-then-ended : goal.returns-then-ended
returns-then-ended c =
    let i = c.lines.invariant in
    let less : length i.front < 2 ^ 63 = omega (arith, i.count, i.fits, c.requires.short) in
    let all = taken_all c.args.text.now c.lines.rest.now i.front c.lines.reading (rest_none c.lines.rest.now c.is_empty.result c.lines-test.false c.is_empty.ensures) i.lines i.taken in
    record {
      dump = dumped_all c.args.text.now i.front c.whole.result all.0 (c.whole.ensures.dump i.front all.1);
      ended = done_ended c.whole.result c.args.ended c.if-ended.true;
      refused = refused_all c.args.text.now i.front c.whole.result c.args.ended c.if-ended.true all.0 (c.whole.ensures.refused i.front less all.1);
    }

pub returns-clause-refused : goal.returns-clause-refused
returns-clause-refused c =
    let i = c.lines.invariant in
    let all = taken_all c.args.text.now c.lines.rest.now i.front c.lines.reading (rest_none c.lines.rest.now c.is_empty.result c.lines-test.false c.is_empty.ensures) i.lines i.taken in
    refused_last c.args.text.now i.front c.lines.reading c.args.ended c.lines.count c.if-ended.false (c.requires.some c.if-ended.false) all.0 i.count all.1
