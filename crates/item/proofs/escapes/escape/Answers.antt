use Rattle.std.proofs.Common.{◌≡◌, ◌++◌, ◌∷◌, List, ℕ, ap, sym, ◌∙◌, take, drop}
use Rattle.item.specs.Escapes.{escaped, escape_byte}
use Rattle.item.proofs.ReadBack.{escaped-past, append-after}
use Rattle.item.proofs.escapes.escape.Goals as goal

pub loop-out-preserved : goal.loop-out-preserved
loop-out-preserved c =
    let rest : List ℕ = c.loop-out.rest.now in
    let n : ℕ = c.plain_front.result in
    let front : List ℕ = take n rest in
    let behind : List ℕ = c.in-Some.behind.now in
    let before : (c.loop-out.out.items ++ front) ++ escaped (drop n rest) ≡ escaped c.args.item.now = sym (escaped-past c.loop-out.out.items rest n c.plain_front.ensures.plain) ∙ c.loop-out.invariant in
    let others : c.in-Some.b.now ∷ behind ≡ drop n rest = sym c.in-Some.ensures.cases.0 ∙ c.split_at.ensures.back in
    let more : c.push_escaped.new.out.items ≡ (c.loop-out.out.items ++ front) ++ escape_byte c.in-Some.b.now =
    c.in_ok-push_escaped-in-Some.ensures ∙ ap (λ (l : List ℕ). l ++ escape_byte c.in-Some.b.now) (c.in_ok-extend_from_slice.ensures.items ∙ ap (λ (l : List ℕ). c.loop-out.out.items ++ l) c.split_at.ensures.front) in
    ap (λ (l : List ℕ). l ++ escaped behind) more
    ∙ append-after (c.loop-out.out.items ++ front) (escape_byte c.in-Some.b.now) (escaped behind)
    ∙ ap (λ (l : List ℕ). (c.loop-out.out.items ++ front) ++ escaped l) others
    ∙ before
