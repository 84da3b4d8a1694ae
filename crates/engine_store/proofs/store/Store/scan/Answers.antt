use Rattle.std.proofs.Common.{◌∙◌, ◌/◌, inr, refl, subst, sym}
use Rattle.engine.specs.declared.turning.EvictStage.{EvictStage}
use Rattle.engine.specs.declared.turning.EvictStage.TheVariants.{Scan}
use Rattle.engine_store.specs.declared.evict_steps.EvictTurn.TheVariants.{On}
use Rattle.engine_store.specs.EvictSteps.{LeavesFewer, stage_left}
use Rattle.engine_store.proofs.EvictTurns.{behind_last, scan_fewer, within_words, without_words}
use Rattle.engine_store.proofs.store.Store.scan.Goals as goal

pub returns-then-not-has_word-clause-sees : goal.returns-then-not-has_word-clause-sees
returns-then-not-has_word-clause-sees c = λ evicting number name key w stands.
    let end = without_words c.args.self.now.engine c.args.word (sym c.has_word.ensures.is ∙ c.if-not-has_word.true) in
    (c.names.ensures.no c.if-names.false, behind_last c.args.self.now.engine c.args.target c.args.word end)

pub returns-then-names-clause-sees : goal.returns-then-names-clause-sees
returns-then-names-clause-sees c = λ evicting number name key w stands. inr (inr (c.args.word / 5, refl, refl, c.names.ensures.yes c.if-names.true))

pub returns-clause-sees : goal.returns-clause-sees
returns-clause-sees c = λ evicting number name key w stands. (c.names.ensures.no c.if-names.false, c.scan_from.ensures)

pub returns-clause-fewer : goal.returns-clause-fewer
returns-clause-fewer c = subst (λ (next : EvictStage). LeavesFewer c.args.self.now.engine (stage_left c.args.self.now.engine (Scan c.args.target c.args.word)) (On next)) (sym c.scan_from.ensures)
    (scan_fewer c.args.self.now.engine c.args.target c.args.word (within_words c.args.self.now.engine c.args.word (sym c.has_word.ensures.is ∙ c.if-not-has_word.false)))
