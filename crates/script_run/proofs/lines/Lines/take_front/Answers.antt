use Rattle.std.proofs.Common.{◌≡◌, ◌≤◌, ◌<◌, ◌++◌, ◌+◌, ◌-◌, ℕ, List, true, false, length, take, drop, get_or, arith, subst, ap, sym, ◌∙◌}
use Rattle.script_run.specs.Lines.{Held, Takes, is_unbroken}
use Rattle.script_run.proofs.Taking.{held, takes-long, takes-all, takes-newline, length_front}
use Rattle.script_run.proofs.lines.Lines.take_front.Goals as goal

pub returns-then-len-gt-LINE_MAX : goal.returns-then-len-gt-LINE_MAX
returns-then-len-gt-LINE_MAX c =
    let at = c.self.inside.at in
    let end = c.self.inside.end in
    let same : c.deref.result.now ≡ c.self.inside.buffer.items = c.deref.ensures.value in
    let line : c.self.inside.line.items ≡ c.args.self.now.line = ap (λ (h : Held). h.line) c.self.view_is in
    let before : length c.self.inside.line.items ≤ 65536 = subst (λ (l : List ℕ). length l ≤ 65536) (sym line) c.requires.short in
    subst (λ (h : Held). Takes true h (held c.self.inside.buffer.items (c.self.inside.at + c.min-count.result) c.self.inside.end c.extend_from_slice.new.self.items c.self.inside.ended)) c.self.view_is
    (takes-long c.self.inside.buffer.items c.self.inside.line.items c.extend_from_slice.new.self.items at end c.newline_at.result c.min-count.result c.self.inside.ended
    c.self.invariant.0
    (subst (λ (l : List ℕ). is_unbroken l ≡ true) (sym line) c.requires.unbroken)
    (subst (λ (b : List ℕ). is_unbroken (take c.newline_at.result (take (end - at) (drop at b))) ≡ true) same c.newline_at.ensures.front)
    (subst (λ (b : List ℕ). c.newline_at.result ≤ length (take (end - at) (drop at b))) same c.newline_at.ensures.within)
    (omega (arith, c.min-count.ensures))
    (omega (arith, c.min-count.ensures, c.len.ensures, before))
    (subst (λ (b : List ℕ). c.extend_from_slice.new.self.items ≡ c.self.inside.line.items ++ take c.min-count.result (take (end - at) (drop at b))) same c.in_ok-extend_from_slice.ensures.items)
    (omega (arith, c.if-len-gt-LINE_MAX.true, c.len-2.ensures)))

pub returns-then-self : goal.returns-then-self
returns-then-self c =
    let at = c.self.inside.at in
    let end = c.self.inside.end in
    let same : c.deref.result.now ≡ c.self.inside.buffer.items = c.deref.ensures.value in
    let line : c.self.inside.line.items ≡ c.args.self.now.line = ap (λ (h : Held). h.line) c.self.view_is in
    subst (λ (h : Held). Takes false h (held c.self.inside.buffer.items (c.self.inside.at + c.min-count.result) c.self.inside.end c.extend_from_slice.new.self.items c.self.inside.ended)) c.self.view_is
    (takes-all c.self.inside.buffer.items c.self.inside.line.items c.extend_from_slice.new.self.items at end c.newline_at.result c.min-count.result c.self.inside.ended
    c.self.invariant.0
    c.self.invariant.1
    (subst (λ (l : List ℕ). is_unbroken l ≡ true) (sym line) c.requires.unbroken)
    (subst (λ (b : List ℕ). is_unbroken (take c.newline_at.result (take (end - at) (drop at b))) ≡ true) same c.newline_at.ensures.front)
    (omega (arith, c.min-count.ensures))
    c.if-self.true
    (subst (λ (b : List ℕ). c.extend_from_slice.new.self.items ≡ c.self.inside.line.items ++ take c.min-count.result (take (end - at) (drop at b))) same c.in_ok-extend_from_slice.ensures.items)
    (omega (arith, c.if-len-gt-LINE_MAX.false, c.len-2.ensures)))

pub returns : goal.returns
returns c =
    let at = c.self.inside.at in
    let end = c.self.inside.end in
    let n = c.newline_at.result in
    let same : c.deref.result.now ≡ c.self.inside.buffer.items = c.deref.ensures.value in
    let line : c.self.inside.line.items ≡ c.args.self.now.line = ap (λ (h : Held). h.line) c.self.view_is in
    let before : length c.self.inside.line.items ≤ 65536 = subst (λ (l : List ℕ). length l ≤ 65536) (sym line) c.requires.short in
    let more : at + (c.min-count.result + 1) ≡ (at + c.min-count.result) + 1 = omega arith in
    let whole : c.extend_from_slice.new.self.items ≡ c.self.inside.line.items ++ take c.min-count.result (take (end - at) (drop at c.self.inside.buffer.items)) =
    subst (λ (b : List ℕ). c.extend_from_slice.new.self.items ≡ c.self.inside.line.items ++ take c.min-count.result (take (end - at) (drop at b))) same c.in_ok-extend_from_slice.ensures.items in
    let within : n ≤ length (take (end - at) (drop at c.self.inside.buffer.items)) = subst (λ (b : List ℕ). n ≤ length (take (end - at) (drop at b))) same c.newline_at.ensures.within in
    let size : length c.extend_from_slice.new.self.items ≡ length c.self.inside.line.items + c.min-count.result =
    ap length whole ∙ length_front c.self.inside.line.items (take (end - at) (drop at c.self.inside.buffer.items)) c.min-count.result (omega (arith, c.min-count.ensures, within)) in
    subst (λ (k : ℕ). Takes true c.args.self.now (held c.self.inside.buffer.items k c.self.inside.end c.extend_from_slice.new.self.items c.self.inside.ended)) more
    (subst (λ (h : Held). Takes true h (held c.self.inside.buffer.items (c.self.inside.at + (c.min-count.result + 1)) c.self.inside.end c.extend_from_slice.new.self.items c.self.inside.ended)) c.self.view_is
    (takes-newline c.self.inside.buffer.items c.self.inside.line.items c.extend_from_slice.new.self.items at end n c.min-count.result c.self.inside.ended
    c.self.invariant.0
    c.self.invariant.1
    (subst (λ (l : List ℕ). is_unbroken l ≡ true) (sym line) c.requires.unbroken)
    (subst (λ (b : List ℕ). is_unbroken (take n (take (end - at) (drop at b))) ≡ true) same c.newline_at.ensures.front)
    (subst (λ (b : List ℕ). n < length (take (end - at) (drop at b)) → get_or (take (end - at) (drop at b)) n 0 ≡ 10) same c.newline_at.ensures.newline)
    within
    (omega (arith, c.min-count.ensures, c.len.ensures, before, size, c.if-len-gt-LINE_MAX.false, c.len-2.ensures))
    c.if-self.false
    whole
    (omega (arith, c.if-len-gt-LINE_MAX.false, c.len-2.ensures))))
