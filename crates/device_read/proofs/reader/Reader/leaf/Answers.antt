use Rattle.std.proofs.Common.{◌∙◌, List, None, IsTrue, ap, drop, suc, subst, sym}
use Rattle.failure.specs.Counts.{Rose}
use Rattle.row_page.specs.Rows.{Ascends}
use Rattle.leaf_rows.specs.Rows.{AreFit}
use Rattle.stored.specs.HistoryTree.{HistoryRecord}
use Rattle.stored.specs.Records.{TableRoot}
use Rattle.stored.specs.TableTree.{Entry, first_key}
use Rattle.tree_open.specs.Damage.{Refused}
use Rattle.tree_open.specs.declared.place.Upper.{Upper}
use Rattle.device_read.specs.Merging.{merged}
use Rattle.device_read.specs.Newest.{KeysClimb, rows_of}
use Rattle.device_read.specs.Readers.{Held, entries_at, entries_in, low_at, number_at, number_in}
use Rattle.device_read.specs.Steps.{LeafSpoilsAt}
use Rattle.device_read.proofs.Fits.{page_fits}
use Rattle.device_read.proofs.LeafPlaces.{held_page_at, page_there}
use Rattle.device_read.proofs.Merged.{merged_ascends}
use Rattle.device_read.proofs.Parts.{leaf_ascends}
use Rattle.device_read.proofs.reader.Reader.leaf.Goals as goal

pub returns-in-Ok-clause-there : goal.returns-in-Ok-clause-there
returns-in-Ok-clause-there g c h =
    let held = c.args.self.now in
    let place = c.args.place in
    let read = c.entries_at-entries.result.now in
    let entries = c.entries_at-entries.ensures ∙ ap (λ (l : List Upper). entries_in l place) c.deref.ensures.value ∙ ap (λ (x : Held). entries_at x place) c.self.view_is in
    let marks = ap (λ (x : Held). x.marks) c.self.view_is in
    let ids = c.deref-2.ensures.value ∙ ap (λ (x : Held). x.ids) c.self.view_is in
    let numbers = c.number_at.ensures ∙ ap (λ (l : List TableRoot). number_in l place) c.deref-in-Ok-2.ensures.value ∙ ap (λ (x : Held). number_at x place) c.self.view_is in
    let records = c.deref-in-Ok.ensures.value ∙ ap (λ (x : Held). x.newest) c.self.view_is in
    page_there (g.D.Disk.seen c.args.disk.now) held place c.args.i c.number_at.result read c.self.inside.marks c.deref-2.result.now c.deref-in-Ok.result.now c.newest_on.result.now c.in-Ok.leaf entries marks ids numbers records c.newest_on.ensures (c.in-Ok.ensures.ok h)

pub returns-in-Ok-clause-ok : goal.returns-in-Ok-clause-ok
returns-in-Ok-clause-ok g c h pages has =
    let held = c.args.self.now in
    let place = c.args.place in
    let read = c.entries_at-entries.result.now in
    let entries = c.entries_at-entries.ensures ∙ ap (λ (l : List Upper). entries_in l place) c.deref.ensures.value ∙ ap (λ (x : Held). entries_at x place) c.self.view_is in
    let marks = ap (λ (x : Held). x.marks) c.self.view_is in
    let ids = c.deref-2.ensures.value ∙ ap (λ (x : Held). x.ids) c.self.view_is in
    let numbers = c.number_at.ensures ∙ ap (λ (l : List TableRoot). number_in l place) c.deref-in-Ok-2.ensures.value ∙ ap (λ (x : Held). number_at x place) c.self.view_is in
    let records = c.deref-in-Ok.ensures.value ∙ ap (λ (x : Held). x.newest) c.self.view_is in
    held_page_at (g.D.Disk.seen c.args.disk.now) held place pages c.args.i (merged c.in-Ok.leaf.page (rows_of c.newest_on.result.now)) has
    (page_there (g.D.Disk.seen c.args.disk.now) held place c.args.i c.number_at.result read c.self.inside.marks c.deref-2.result.now c.deref-in-Ok.result.now c.newest_on.result.now c.in-Ok.leaf entries marks ids numbers records c.newest_on.ensures (c.in-Ok.ensures.ok h))

pub returns-in-Ok-clause-ascend : goal.returns-in-Ok-clause-ascend
returns-in-Ok-clause-ascend g c =
    let read = c.entries_at-entries.result.now in
    let records : List HistoryRecord = c.deref-in-Ok.result.now in
    let climb : KeysClimb records = subst (λ (l : List HistoryRecord). KeysClimb l) (sym c.deref-in-Ok.ensures.value) c.self.invariant.keys in
    merged_ascends None c.in-Ok.leaf.page (rows_of c.newest_on.result.now) c.in-Ok.ensures.fit.ascend
    (subst (λ (l : List HistoryRecord). Ascends None (rows_of l)) (sym c.newest_on.ensures) (leaf_ascends c.number_at.result (low_at read c.args.i) (first_key (drop (suc c.args.i) read)) records climb))

pub returns-in-Ok-clause-fit : goal.returns-in-Ok-clause-fit
returns-in-Ok-clause-fit g c bytes reader =
    let read = c.entries_at-entries.result.now in
    let records : List HistoryRecord = c.deref-in-Ok.result.now in
    let climb : KeysClimb records = subst (λ (l : List HistoryRecord). KeysClimb l) (sym c.deref-in-Ok.ensures.value) c.self.invariant.keys in
    subst (λ (l : List HistoryRecord). AreFit (merged c.in-Ok.leaf.page (rows_of l))) (sym c.newest_on.ensures)
    (page_fits bytes c.args.self.now c.number_at.result (low_at read c.args.i) (first_key (drop (suc c.args.i) read)) records c.in-Ok.leaf.page reader (c.deref-in-Ok.ensures.value ∙ ap (λ (x : Held). x.newest) c.self.view_is) climb c.in-Ok.ensures.fit)

pub returns-in-Err-clause-err : goal.returns-in-Err-clause-err
returns-in-Err-clause-err g c =
    let D = g.D.Disk in
    let place = c.args.place in
    let entries = c.entries_at-entries.ensures ∙ ap (λ (l : List Upper). entries_in l place) c.deref.ensures.value ∙ ap (λ (x : Held). entries_at x place) c.self.view_is in
    subst (λ (l : List Entry). Refused (Rose (D.faults c.args.disk.now) (D.faults c.leaf_at.new.disk)) (IsTrue (D.honest c.args.disk.now)) (LeafSpoilsAt (D.seen c.args.disk.now) l c.args.i) c.in-Err.refusal) entries c.in-Err.ensures.err
