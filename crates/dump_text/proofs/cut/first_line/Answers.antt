use Rattle.std.proofs.Common.{◌≡◌, ◌∙◌, ◌∷◌, ◌+◌, ◌-◌, ◌≤◌, ◌<◌, List, ℕ, suc, take, drop, length, length-drop, ap, sym, subst, arith}
use Rattle.std.proofs.lemmas.List.{take_all}
use Rattle.dump_text.specs.Cuts.{lines_in}
use Rattle.dump_text.specs.Runs.{IsOneLine}
use Rattle.dump_text.proofs.TextLines.{lines_cut, lines_one}
use Rattle.dump_text.proofs.cut.first_line.Goals as goal

pub returns-then-end-text-clause-lines : goal.returns-then-end-text-clause-lines
returns-then-end-text-clause-lines c =
    let text = c.args.text.now in
    let all : length text ≤ c.line_end-end.result = omega arith in
    lines_one text (subst (λ (l : List ℕ). IsOneLine l) (take_all c.line_end-end.result text all) c.line_end-end.ensures.line) c.requires

pub returns-clause-lines : goal.returns-clause-lines
returns-clause-lines c =
    let text = c.args.text.now in
    let n = c.line_end-end.result in
    let less : n < length text = omega arith in
    let next : suc n ≡ n + 1 = omega arith in
    let all : take (length text - (n + 1)) (drop (n + 1) text) ≡ drop (n + 1) text = take_all (length text - (n + 1)) (drop (n + 1) text) (omega (arith, length-drop (n + 1) text)) in
    lines_cut text n c.line_end-end.ensures.line less (c.line_end-end.ensures.newline less)
    ∙ ap (λ (k : ℕ). take n text ∷ lines_in (drop k text)) next
    ∙ ap (λ (l : List ℕ). take n text ∷ lines_in l) (sym all)
