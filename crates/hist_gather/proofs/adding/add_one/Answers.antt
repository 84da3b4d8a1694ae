use Rattle.std.proofs.Common.{◌∙◌, ◌∷◌, ℕ, List, [], ap, sym, subst, arith}
use Rattle.std.proofs.lemmas.Result.{on_ok_weaker}
use Rattle.hist_store.specs.declared.key_history.KeyHistory.{KeyHistory}
use Rattle.hist_store.specs.Versions.{added}
use Rattle.hist_pages.specs.Records.{Fits}
use Rattle.hist_gather.specs.Added.{AreKnown, HasMore, OfMoved}
use Rattle.hist_gather.proofs.AddedSlots.{fit_more, known_more, one_more, record_fits}
use Rattle.hist_gather.proofs.adding.add_one.Goals as goal

pub returns-clause-more : goal.returns-clause-more
returns-clause-more c =
    let one = c.args.one in
    let old = c.args.history.now in
    on_ok_weaker c.add.result
    (λ is. subst (λ (s : List KeyHistory). HasMore (OfMoved c.args.table (one ∷ [])) old s) (sym (is ∙ ap (λ (k : List ℕ). added c.args.table k one.version old) c.as_bytes.ensures))
    (one_more c.adds_add.ensures c.adds_change.ensures c.adds_keep.ensures c.args.table one old))
    c.add.ensures.added

pub returns-clause-known : goal.returns-clause-known
returns-clause-known c =
    let one = c.args.one in
    let old = c.args.history.now in
    on_ok_weaker c.add.result
    (λ is tables has known. subst (λ (s : List KeyHistory). AreKnown tables s) (sym (is ∙ ap (λ (k : List ℕ). added c.args.table k one.version old) c.as_bytes.ensures)) (known_more tables c.args.table one.key one.version old has known))
    c.add.ensures.added

pub returns-clause-fit : goal.returns-clause-fit
returns-clause-fit c =
    let one = c.args.one in
    let old = c.args.history.now in
    on_ok_weaker c.add.result
    (λ is fit. subst (λ (s : List KeyHistory). Fits s) (sym (is ∙ ap (λ (k : List ℕ). added c.args.table k one.version old) c.as_bytes.ensures)) (fit_more c.args.table one.key one.version old (record_fits c.args.table one.key one.version (omega (arith, c.ranges.table.fits)) c.requires) fit))
    c.add.ensures.added
