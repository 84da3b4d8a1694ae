use Rattle.std.proofs.Common.{[], sym}
use Rattle.std.proofs.lemmas.List.{append-nil}
use Rattle.tree_write.proofs.LeafSteps.{want_space}
use Rattle.tree_write.proofs.OneBlock.{if_ok_map}
use Rattle.hist_write.proofs.PageSteps.{level_stopped}
use Rattle.hist_write.proofs.Rising.{above_of, drafts_of}
use Rattle.hist_write.proofs.levels.write_level.Goals as goal

pub write_pages-requires-clause-drafts : goal.write_pages-requires-clause-drafts
write_pages-requires-clause-drafts g c = let of = drafts_of c.args.level c.in-Ok.drafts.items c.args.entries.now c.in-Ok.ensures in (c.args.level, of.pages, of.spelled)

pub returns-in-Err-clause-writes : goal.returns-in-Err-clause-writes
returns-in-Err-clause-writes g c h old first may = (
  [],
  sym (append-nil c.args.captured.now.items),
  level_stopped g.D.Disk old first c.args.blocks.now c.args.disk.now (λ d left. g.met.D.Disk.only_now _ d left) c.args.level c.args.entries.now _ may c.requires.some c.requires.low c.requires.high c.requires.fit c.requires.climbs (λ is. want_space is),
)

pub returns-in-Ok-clause-climbs : goal.returns-in-Ok-clause-climbs
returns-in-Ok-clause-climbs g c = if_ok_map c.write_pages.result c.write_pages.ensures.marks (λ v marks. (above_of c.args.level c.in-Ok.drafts.items c.args.entries.now v.items c.in-Ok.ensures marks c.requires.climbs c.requires.some).climbs)

pub returns-in-Ok-clause-some : goal.returns-in-Ok-clause-some
returns-in-Ok-clause-some g c = if_ok_map c.write_pages.result c.write_pages.ensures.marks (λ v marks. (above_of c.args.level c.in-Ok.drafts.items c.args.entries.now v.items c.in-Ok.ensures marks c.requires.climbs c.requires.some).some)

pub returns-in-Ok-clause-shrinks : goal.returns-in-Ok-clause-shrinks
returns-in-Ok-clause-shrinks g c = if_ok_map c.write_pages.result c.write_pages.ensures.marks (λ v marks. (above_of c.args.level c.in-Ok.drafts.items c.args.entries.now v.items c.in-Ok.ensures marks c.requires.climbs c.requires.some).shrinks)

pub returns-in-Ok-clause-writes : goal.returns-in-Ok-clause-writes
returns-in-Ok-clause-writes g c h old first may =
    let of = drafts_of c.args.level c.in-Ok.drafts.items c.args.entries.now c.in-Ok.ensures in
    let wrote = c.write_pages.ensures.writes c.args.level of.pages of.spelled h old first may in
    (wrote.0, wrote.1, record { pages = of.pages; cut = of.cut; writes = wrote.2 })
