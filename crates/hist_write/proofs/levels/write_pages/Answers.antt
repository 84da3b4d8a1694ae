use Rattle.std.proofs.Common.{◌≡◌, ◌∙◌, ◌++◌, [], ◌∷◌, List, suc, length, drop, ap, sym, subst, refl, arith}
use Rattle.std.specs.List.{AllByRecursion}
use Rattle.std.proofs.lemmas.List.{append-nil, append_assoc, append_cancel_left, length-append, map-append, map-id}
use Rattle.std.proofs.lemmas.Iterator.Adapters.{YieldsList-from_vec}
use Rattle.std.proofs.lemmas.Iterator.Consumers.{YieldsList-end, YieldsList-so_far, YieldsList-turn}
use Rattle.disk_model.proofs.Crash.{same_disk_then}
use Rattle.device_layout.specs.declared.addr.Addr.{Addr}
use Rattle.stored.specs.HistoryTree.{HistoryEntry, HistoryEntryFits, Mark}
use Rattle.hist_pages.specs.declared.page.HistoryPage.{HistoryPage}
use Rattle.hist_write.specs.Steps.{marks_of, lows_of}
use Rattle.tree_write.proofs.LeafSteps.{want_space}
use Rattle.tree_write.proofs.Lists.{all_both}
use Rattle.tree_write.proofs.PageSteps.{left_here}
use Rattle.hist_write.proofs.Rising.{PagesGoing, draft_at, next_page, page_failed, page_more, pages_begun, pages_ended, pages_stopped}
use Rattle.hist_write.proofs.levels.write_pages.Goals as goal

pub returns-in_default-clause-writes : goal.returns-in_default-clause-writes
returns-in_default-clause-writes g c level pages spelled h old first may =
    let D = g.D.Disk in
    let d = c.args.disk.now in
    ([], sym (append-nil c.args.captured.now.items), pages_stopped D old first c.args.blocks.now d level pages c.args.drafts.items [] [] c.args.blocks.now d _ (pages_begun D old first c.args.blocks.now d level pages c.args.drafts.items spelled may (λ d left. g.met.D.Disk.only_now _ d left)) (λ is. want_space is))

pub loop-draft-init : goal.loop-draft-init
loop-draft-init g c = record {
  disk = record { same = refl; room = refl; home = refl; later = omega arith };
  held = c.requires.held;
  ready = c.requires.ready;
  count = ap length c.in-Ok.ensures.items;
  room = omega (arith, c.in-Ok.ensures.capacity, c.len.ensures, c.args.drafts.ok.0);
  fit = subst (λ (l : List HistoryEntry). AllByRecursion HistoryEntryFits l) (sym c.in-Ok.ensures.items) tt;
  marks = ap marks_of c.in-Ok.ensures.items;
  going = λ level pages spelled h old first may. (
    [],
    sym (append-nil c.args.captured.now.items),
    c.args.drafts.items,
    refl,
    subst (λ (l : List HistoryEntry). PagesGoing g.D.Disk old first c.args.blocks.now c.args.disk.now level pages c.args.drafts.items l [] c.args.blocks.now c.args.disk.now) (sym c.in-Ok.ensures.items)
        (pages_begun g.D.Disk old first c.args.blocks.now c.args.disk.now level pages c.args.drafts.items spelled may (λ d left. g.met.D.Disk.only_now _ d left)),
  );
}

pub write_page-requires-clause-page : goal.write_page-requires-clause-page
write_page-requires-clause-page g c =
    let gives = c.into_iter-draft-iterator.ensures.into_iter_gives in
    let t = YieldsList-turn (YieldsList-from_vec c.args.drafts.items gives.0 (omega (arith, gives.1, c.args.drafts.ok.0))) c.loop-draft.yielded _ c.loop-draft.yielded_by _ c.next.new.self c.in-Some.draft c.in-Some.is c.next.ensures.steps in
    let page = draft_at c.requires.drafts.0 c.args.drafts.items c.requires.drafts.1 (length c.loop-draft.yielded) c.in-Some.draft c.requires.drafts.2 t.0 t.1 in
    (c.requires.drafts.0, page.0, page.1)

pub returns-in-Err-clause-writes : goal.returns-in-Err-clause-writes
returns-in-Err-clause-writes g c level pages spelled h old first may =
    let D = g.D.Disk in
    let now = c.loop-draft.invariant in
    let draft = c.in-Some.draft in
    let own = c.loop-draft.entries.items in
    let yielded = c.loop-draft.yielded in
    let gives = c.into_iter-draft-iterator.ensures.into_iter_gives in
    let e = YieldsList-from_vec c.args.drafts.items gives.0 (omega (arith, gives.1, c.args.drafts.ok.0)) in
    let t = YieldsList-turn e yielded _ c.loop-draft.yielded_by _ c.next.new.self draft c.in-Some.is c.next.ensures.steps in
    let so_far = sym (map-id yielded) ∙ YieldsList-so_far e yielded _ c.loop-draft.yielded_by in
    let tail : List HistoryPage = drop (suc (length yielded)) c.args.drafts.items in
    let is = left_here c.args.drafts.items yielded draft so_far t.0 t.1 in
    let going = now.going level pages spelled h old first may in
    let here = subst (λ (l : List HistoryPage). PagesGoing D old first c.args.blocks.now c.args.disk.now level pages l own going.0 c.loop-draft.blocks c.loop-draft.disk) (append_cancel_left yielded going.2 (draft ∷ tail) (sym going.3 ∙ is)) going.4 in
    let page = next_page D old first c.args.blocks.now c.args.disk.now level pages draft tail own going.0 c.loop-draft.blocks c.loop-draft.disk here now.disk.room in
    let wrote = c.in-Err.ensures.writes level page.es page.spells (now.disk.same ∙ h) old first here.captures.may in (
      going.0 ++ wrote.0,
      wrote.1 ∙ (ap (λ (l : List Addr). l ++ wrote.0) going.1 ∙ append_assoc c.args.captured.now.items going.0 wrote.0),
      page_failed D old first c.args.blocks.now c.args.disk.now level pages draft tail own going.0 c.loop-draft.blocks c.loop-draft.disk here now.disk.room wrote.0 c.write_page.new.blocks c.write_page.new.disk c.in-Err.error wrote.2,
    )

pub loop-draft-preserved : goal.loop-draft-preserved
loop-draft-preserved g c =
    let D = g.D.Disk in
    let now = c.loop-draft.invariant in
    let draft = c.in-Some.draft in
    let entry = c.in-Ok-write_page.entry in
    let own = c.loop-draft.entries.items in
    let yielded = c.loop-draft.yielded in
    let items = c.push_reserved.ensures.items in
    record {
      disk = same_disk_then D c.args.disk.now c.loop-draft.disk c.write_page.new.disk now.disk c.write_page.ensures.disk;
      held = c.write_page.ensures.held;
      ready = λ h. c.in-Ok-write_page.ensures.ready (now.disk.same ∙ h);
      count = omega (arith, ap length items, length-append own (entry ∷ []), length-append yielded (draft ∷ []), now.count);
      room = omega (arith, c.push_reserved.ensures.capacity, now.room);
      fit = subst (λ (l : List HistoryEntry). AllByRecursion HistoryEntryFits l) (sym items) (all_both HistoryEntryFits own (entry ∷ []) now.fit (c.in-Ok-write_page.ensures.fits, tt));
      marks = ap marks_of items ∙ (map-append {A = HistoryEntry} {B = Mark} (λ e. e.least) own (entry ∷ []) ∙ (ap (λ (l : List Mark). l ++ entry.least ∷ []) now.marks ∙ (ap (λ (k : Mark). lows_of yielded ++ k ∷ []) c.in-Ok-write_page.ensures.least ∙ sym (map-append {A = HistoryPage} {B = Mark} (λ p. p.least) yielded (draft ∷ [])))));
      going = λ level pages spelled h old first may.
          let gives = c.into_iter-draft-iterator.ensures.into_iter_gives in
          let e = YieldsList-from_vec c.args.drafts.items gives.0 (omega (arith, gives.1, c.args.drafts.ok.0)) in
          let t = YieldsList-turn e yielded _ c.loop-draft.yielded_by _ c.next.new.self draft c.in-Some.is c.next.ensures.steps in
          let so_far = sym (map-id yielded) ∙ YieldsList-so_far e yielded _ c.loop-draft.yielded_by in
          let tail : List HistoryPage = drop (suc (length yielded)) c.args.drafts.items in
          let is = left_here c.args.drafts.items yielded draft so_far t.0 t.1 in
          let going = now.going level pages spelled h old first may in
          let here = subst (λ (l : List HistoryPage). PagesGoing D old first c.args.blocks.now c.args.disk.now level pages l own going.0 c.loop-draft.blocks c.loop-draft.disk) (append_cancel_left yielded going.2 (draft ∷ tail) (sym going.3 ∙ is)) going.4 in
          let page = next_page D old first c.args.blocks.now c.args.disk.now level pages draft tail own going.0 c.loop-draft.blocks c.loop-draft.disk here now.disk.room in
          let wrote = c.in-Ok-write_page.ensures.writes level page.es page.spells (now.disk.same ∙ h) old first here.captures.may in (
            going.0 ++ wrote.0,
            wrote.1 ∙ (ap (λ (l : List Addr). l ++ wrote.0) going.1 ∙ append_assoc c.args.captured.now.items going.0 wrote.0),
            tail,
            is ∙ sym (append_assoc yielded (draft ∷ []) tail),
            subst (λ (l : List HistoryEntry). PagesGoing D old first c.args.blocks.now c.args.disk.now level pages tail l (going.0 ++ wrote.0) c.write_page.new.blocks c.write_page.new.disk) (sym items)
                (page_more D old first c.args.blocks.now c.args.disk.now level pages draft tail own going.0 c.loop-draft.blocks c.loop-draft.disk here now.disk.room entry wrote.0 c.write_page.new.blocks c.write_page.new.disk wrote.2),
          );
    }

pub returns-clause-writes : goal.returns-clause-writes
returns-clause-writes g c level pages spelled h old first may =
    let D = g.D.Disk in
    let yielded = c.loop-draft.yielded in
    let gives = c.into_iter-draft-iterator.ensures.into_iter_gives in
    let e = YieldsList-from_vec c.args.drafts.items gives.0 (omega (arith, gives.1, c.args.drafts.ok.0)) in
    let t = YieldsList-end e yielded _ c.loop-draft.yielded_by _ c.next.new.self c.in-None.is c.next.ensures.steps in
    let going = c.loop-draft.invariant.going level pages spelled h old first may in
    let none : going.2 ≡ [] = append_cancel_left yielded going.2 [] (sym going.3 ∙ (sym t.0 ∙ (map-id yielded ∙ sym (append-nil yielded)))) in (
      going.0,
      going.1,
      pages_ended D old first c.args.blocks.now c.args.disk.now level pages c.loop-draft.entries.items going.0 c.loop-draft.blocks c.loop-draft.disk
          (subst (λ (l : List HistoryPage). PagesGoing D old first c.args.blocks.now c.args.disk.now level pages l c.loop-draft.entries.items going.0 c.loop-draft.blocks c.loop-draft.disk) none going.4),
    )
