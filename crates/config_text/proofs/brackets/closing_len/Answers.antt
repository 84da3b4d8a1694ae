use Rattle.std.proofs.Common.{◌∙◌, ◌≡◌, reverse, length, arith, sym}
use Rattle.std.specs.Prelude.{Some, None, vec_len}
use Rattle.std.proofs.lemmas.Bool.{cond-true, eqb-false}
use Rattle.std.proofs.lemmas.List.{length-reverse}
use Rattle.config_text.specs.Reading.{Nest}
use Rattle.config_text.proofs.ClosingBrackets.{byte-taken}
use Rattle.config_text.proofs.brackets.closing_len.Goals as goal

pub loop-i-preserved : goal.loop-i-preserved
loop-i-preserved c =
    let nest : Nest = record { quoted = c.take.new.self.quoted; awaited = reverse c.take.new.self.awaited.items } in
    let step = c.in_ok-take.ensures ∙ cond-true c.in_ok-take.field-0 (Some nest) None c.if-not-branch.false in
    record {
      len = byte-taken c.loop-i.nest.quoted (reverse c.loop-i.nest.awaited.items) nest c.args.text.now c.loop-i.i _ c.loop-i.invariant.awaiting c.loop-i-test.true step c.loop-i.invariant.len;
      awaiting = some;
    } where
      some : length (reverse c.take.new.self.awaited.items) ≡ 0 → ⊥
      some none =
          let full : vec_len c.take.new.self.awaited ≡ 0 → ⊥ = eqb-false (vec_len c.take.new.self.awaited) 0 (sym c.is_empty.ensures ∙ c.if-is_empty.false) in
          let turned = length-reverse c.take.new.self.awaited.items in
          let held = c.take.new.self.awaited.ok.0 in
          full (omega (arith, turned, held, none))
