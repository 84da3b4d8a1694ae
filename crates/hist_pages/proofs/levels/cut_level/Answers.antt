use Rattle.std.proofs.Common.{◌∙◌, [], ◌∷◌, ◌++◌, List, take, drop, ap, sym, subst}
use Rattle.std.specs.List.{AllByRecursion}
use Rattle.std.proofs.lemmas.List.{take-append-drop}
use Rattle.stored.specs.HistoryTree.{AreHistoryEntries, HistoryClimbs, HistoryEntry, HistoryEntryFits}
use Rattle.hist_pages.specs.declared.page.HistoryPage.{HistoryPage}
use Rattle.hist_pages.specs.Levels.{AreCut, SpellsPage}
use Rattle.hist_pages.proofs.CutLevels.{are-entries, climbs-drop, cut-all, cut-more, fit-drop, is-full, none-left}
use Rattle.hist_pages.proofs.levels.cut_level.Goals as goal

pub draft-requires : goal.draft-requires
draft-requires c =
    let rest = c.loop-rest.rest.now in
    let i = c.loop-rest.invariant in
    subst (λ (es : List HistoryEntry). AreHistoryEntries c.args.level es) (sym c.split_at.ensures.front)
    (are-entries c.args.level c.front_len.result rest i.fit i.climbs c.requires.low c.requires.high c.front_len.ensures.some c.front_len.ensures.most c.front_len.ensures.room)

pub loop-rest-preserved : goal.loop-rest-preserved
loop-rest-preserved c =
    let rest = c.loop-rest.rest.now in
    let i = c.loop-rest.invariant in
    let n = c.front_len.result in
    let page = c.in_ok-draft.field-0 in
    let pages = c.loop-rest.pages.items in
    let spells = subst (λ (es : List HistoryEntry). SpellsPage c.args.level page es) c.split_at.ensures.front c.in_ok-draft.ensures in
    let back = c.split_at.ensures.back in
    let after = c.push_reserved.ensures.items ∙ ap (λ (ps : List HistoryPage). ps ++ page ∷ []) c.in_ok-reserve.ensures.items in
    let cut = cut-more c.args.level pages page rest (take n rest) (drop n rest) c.args.entries.now i.cut spells (is-full rest n c.front_len.ensures.full) (sym (take-append-drop n rest)) in
    record {
      fit = subst (λ (es : List HistoryEntry). AllByRecursion HistoryEntryFits es) (sym back) (fit-drop n rest i.fit);
      climbs = subst HistoryClimbs (sym back) (climbs-drop n rest i.climbs);
      cut = λ later goes. subst (λ (ps : List HistoryPage). AreCut c.args.level (ps ++ later) c.args.entries.now) (sym after) (cut later (subst (λ (es : List HistoryEntry). AreCut c.args.level later es) back goes));
    }

pub returns : goal.returns
returns c = cut-all c.args.level c.loop-rest.pages.items c.loop-rest.rest.now c.args.entries.now c.loop-rest.invariant.cut (none-left c.loop-rest.rest.now c.loop-rest-test.ensures)
