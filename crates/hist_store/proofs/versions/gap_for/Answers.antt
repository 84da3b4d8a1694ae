use Rattle.std.proofs.Common.{◌≡◌, ◌∙◌, length, sym, arith}
use Rattle.std.proofs.lemmas.Bool.{or_from}
use Rattle.kv_model.specs.History.{name_eq}
use Rattle.snapshot.specs.Past.{is_below}
use Rattle.hist_store.proofs.Adding.{goes-above, goes-last, is_not_newer, stays-as-is}
use Rattle.hist_store.proofs.Searching.{none-more}
use Rattle.hist_store.proofs.versions.gap_for.Goals as goal

pub returns-then-is_before : goal.returns-then-is_before
returns-then-is_before c =
    (omega arith, goes-above c.args.version.now c.args.versions.now.items c.loop-i.i c.index.result.now (omega arith) c.loop-i.invariant c.index.ensures (sym c.is_before.ensures ∙ c.if-is_before.true))

pub returns-then-is_same : goal.returns-then-is_same
returns-then-is_same c =
    stays-as-is c.args.version.now c.args.versions.now.items c.loop-i.i c.index.result.now (omega arith) c.loop-i.invariant c.index.ensures (sym c.is_before.ensures ∙ c.if-is_before.false) (sym c.is_same.ensures ∙ c.if-is_same.true)

pub loop-i-preserved : goal.loop-i-preserved
loop-i-preserved c =
    let name = c.args.version.now.window.name in
    let there = c.index.result.now.window.name in
    none-more (is_not_newer c.args.version.now) c.args.versions.now.items c.loop-i.i c.index.result.now (omega arith) c.loop-i.invariant c.index.ensures (or_from (is_below there name) (name_eq there name) (sym c.is_before.ensures ∙ c.if-is_before.false) (sym c.is_same.ensures ∙ c.if-is_same.false))

pub returns : goal.returns
returns c =
    let n : c.len.result ≡ length c.args.versions.now.items = omega arith in
    rw n (omega arith, goes-last c.args.version.now c.args.versions.now.items (λ k lt d. c.loop-i.invariant k (omega arith) d))
