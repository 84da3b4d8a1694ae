use Rattle.std.proofs.Common.{◌≡◌, ℕ, suc, ◌+◌, ◌++◌, ◌∷◌, [], List, drop, length, sym, ap, ◌∙◌, arith}
use mathlib.Core.List.{append_assoc}
use Rattle.std.proofs.lemmas.List.{length-append}
use Rattle.std.specs.Slots.{slots_items}
use Rattle.atomic_table.proofs.Lists.{drop_at}
use Rattle.latch_table.proofs.close.read_words.Goals as goal

pub loop-i-preserved : goal.loop-i-preserved
loop-i-preserved g c =
    let i = c.loop-i.invariant in
    let test = c.loop-i-test.true in
    let count = c.len-count.ensures in
    let ws : List ℕ = slots_items c.args.closed.now.words in
    let next : suc c.loop-i.i ≡ c.loop-i.i + 1 = omega arith in
    let here : drop c.loop-i.i ws ≡ c.word.result ∷ drop (c.loop-i.i + 1) ws = drop_at ws c.loop-i.i c.word.result c.word.ensures ∙ ap (λ (k : ℕ). c.word.result ∷ drop k ws) next in
    let long : length c.push_reserved.new.self.items ≡ length c.loop-i.words.items + 1 = ap length c.push_reserved.ensures.items ∙ length-append c.loop-i.words.items (c.word.result ∷ []) in
    let cap = c.push_reserved.ensures.capacity in
    let a = i.1 in
    let b = i.2 in
    let d = i.3 in
    let e = i.4 in (
      ap (λ l. l ++ drop (c.loop-i.i + 1) ws) c.push_reserved.ensures.items ∙ (append_assoc c.loop-i.words.items (c.word.result ∷ []) (drop (c.loop-i.i + 1) ws) ∙ (ap (λ l. c.loop-i.words.items ++ l) (sym here) ∙ i.0)),
      omega arith,
      omega arith,
      omega arith,
      omega arith,
    )
