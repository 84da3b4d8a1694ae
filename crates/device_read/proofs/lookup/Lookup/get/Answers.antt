use Rattle.std.proofs.Common.{◌∙◌, ap, subst, sym, IsTrue, List}
use Rattle.failure.specs.Counts.{Rose}
use Rattle.device_leaf.proofs.Opens.{err_map, ok_map}
use Rattle.stored.specs.TableTree.{Climbs, Entry}
use Rattle.tree_open.specs.Damage.{Refused}
use Rattle.tree_open.specs.declared.place.Upper.{Upper}
use Rattle.device_read.specs.Lookups.{KeptLeaf}
use Rattle.device_read.specs.Newest.{record_at}
use Rattle.device_read.specs.Readers.{Held, entries_at, entries_in, number_at}
use Rattle.device_read.specs.Steps.{IsValueOf, KeySpoilsAt}
use Rattle.device_read.proofs.LeafPlaces.{entries_climb, same_last, same_value}
use Rattle.device_read.proofs.Readings.{value_is}
use Rattle.device_read.proofs.lookup.Lookup.get.Goals as goal

pub value_at-requires : goal.value_at-requires
value_at-requires g c =
    let place = c.self.inside.place in
    subst (λ (l : List Entry). Climbs l) (sym (c.entries_at-entries.ensures ∙ ap (λ (l : List Upper). entries_in l place) c.deref.ensures.value)) (entries_climb c.reader.inside.uppers.items place c.reader.invariant.climb)

pub returns-clause-there : goal.returns-clause-there
returns-clause-there g c h keeps =
    let bytes = g.D.Disk.seen c.args.disk.now in
    let held = c.args.reader.now in
    let place = c.args.self.now.place in
    let key = c.args.key.now in
    let read = c.entries_at-entries.result.now in
    let own = c.reader.inside.marks in
    let known = c.deref-2.result.now in
    let entries = c.entries_at-entries.ensures ∙ ap (λ (l : List Upper). entries_in l c.self.inside.place) c.deref.ensures.value ∙ ap (λ (x : Held). entries_at x c.self.inside.place) c.reader.view_is ∙ ap (λ (k : KeptLeaf). entries_at held k.place) c.self.view_is in
    let marks = ap (λ (x : Held). x.marks) c.reader.view_is in
    let ids = c.deref-2.ensures.value ∙ ap (λ (x : Held). x.ids) c.reader.view_is in
    let newest = c.newest_of-newest.ensures ∙ ap (λ (k : KeptLeaf). record_at (number_at held k.place) key held.newest) c.self.view_is in
    let last = same_last bytes (entries_at held place) read held.marks own held.ids known c.args.self.now.last c.self.inside.last entries marks ids (ap (λ (k : KeptLeaf). k.last) c.self.view_is) keeps in
    ok_map {P = IsValueOf bytes read key own known _} c.value_at.result (c.value_at.ensures.ok h last) (λ v is.
    same_value bytes (entries_at held place) read key held.marks own held.ids known (record_at (number_at held place) key held.newest) _ v entries marks ids newest is)

pub returns-clause-ok : goal.returns-clause-ok
returns-clause-ok g c h reader keeps content t reads at =
    let bytes = g.D.Disk.seen c.args.disk.now in
    let held = c.args.reader.now in
    let place = c.args.self.now.place in
    let key = c.args.key.now in
    let read = c.entries_at-entries.result.now in
    let own = c.reader.inside.marks in
    let known = c.deref-2.result.now in
    let entries = c.entries_at-entries.ensures ∙ ap (λ (l : List Upper). entries_in l c.self.inside.place) c.deref.ensures.value ∙ ap (λ (x : Held). entries_at x c.self.inside.place) c.reader.view_is ∙ ap (λ (k : KeptLeaf). entries_at held k.place) c.self.view_is in
    let marks = ap (λ (x : Held). x.marks) c.reader.view_is in
    let ids = c.deref-2.ensures.value ∙ ap (λ (x : Held). x.ids) c.reader.view_is in
    let newest = c.newest_of-newest.ensures ∙ ap (λ (k : KeptLeaf). record_at (number_at held k.place) key held.newest) c.self.view_is in
    let last = same_last bytes (entries_at held place) read held.marks own held.ids known c.args.self.now.last c.self.inside.last entries marks ids (ap (λ (k : KeptLeaf). k.last) c.self.view_is) keeps in
    ok_map {P = IsValueOf bytes read key own known _} c.value_at.result (c.value_at.ensures.ok h last) (λ v is.
    value_is bytes content held place t key v (c.what_is_read_is_regular.ensures bytes content reads) reader reads at
    (same_value bytes (entries_at held place) read key held.marks own held.ids known (record_at (number_at held place) key held.newest) _ v entries marks ids newest is))

pub returns-clause-err : goal.returns-clause-err
returns-clause-err g c =
    let D = g.D.Disk in
    let held = c.args.reader.now in
    let entries = c.entries_at-entries.ensures ∙ ap (λ (l : List Upper). entries_in l c.self.inside.place) c.deref.ensures.value ∙ ap (λ (x : Held). entries_at x c.self.inside.place) c.reader.view_is ∙ ap (λ (k : KeptLeaf). entries_at held k.place) c.self.view_is in
    err_map c.value_at.result c.value_at.ensures.err (λ r why. subst (λ (l : List Entry). Refused (Rose (D.faults c.args.disk.now) (D.faults c.value_at.new.disk)) (IsTrue (D.honest c.args.disk.now)) (KeySpoilsAt (D.seen c.args.disk.now) l c.args.key.now) r) entries why)
