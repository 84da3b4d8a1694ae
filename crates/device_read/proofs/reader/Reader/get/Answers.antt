use Rattle.std.proofs.Common.{◌∙◌, ap, subst, sym, IsTrue, List}
use Rattle.failure.specs.Counts.{Rose}
use Rattle.device_leaf.proofs.Opens.{err_map, ok_map}
use Rattle.stored.specs.TableTree.{Climbs, Entry}
use Rattle.tree_open.specs.Damage.{Refused}
use Rattle.tree_open.specs.declared.place.Upper.{Upper}
use Rattle.device_read.specs.Newest.{record_at}
use Rattle.device_read.specs.Readers.{Held, entries_at, entries_in, number_at}
use Rattle.device_read.specs.Steps.{IsValueOf, KeySpoilsAt}
use Rattle.device_read.proofs.LeafPlaces.{entries_climb, same_value}
use Rattle.device_read.proofs.Readings.{value_is}
use Rattle.device_read.proofs.reader.Reader.get.Goals as goal

pub value_at-requires : goal.value_at-requires
value_at-requires g c =
    let place = c.args.place in
    subst (λ (l : List Entry). Climbs l) (sym (c.entries_at.ensures ∙ ap (λ (l : List Upper). entries_in l place) c.deref.ensures.value)) (entries_climb c.self.inside.uppers.items place c.self.invariant.climb)

pub returns-clause-there : goal.returns-clause-there
returns-clause-there g c h =
    let bytes = g.D.Disk.seen c.args.disk.now in
    let held = c.args.self.now in
    let place = c.args.place in
    let key = c.args.key.now in
    let entries = c.entries_at.ensures ∙ ap (λ (l : List Upper). entries_in l place) c.deref.ensures.value ∙ ap (λ (x : Held). entries_at x place) c.self.view_is in
    ok_map {P = IsValueOf bytes c.entries_at.result.now key c.self.inside.marks c.deref-2.result.now _} c.value_at.result (c.value_at.ensures.ok h tt) (λ v is.
    same_value bytes (entries_at held place) c.entries_at.result.now key held.marks c.self.inside.marks held.ids c.deref-2.result.now (record_at (number_at held place) key held.newest) _ v entries (ap (λ (x : Held). x.marks) c.self.view_is) (c.deref-2.ensures.value ∙ ap (λ (x : Held). x.ids) c.self.view_is) c.newest_of.ensures is)

pub returns-clause-ok : goal.returns-clause-ok
returns-clause-ok g c h reader content t reads at =
    let bytes = g.D.Disk.seen c.args.disk.now in
    let held = c.args.self.now in
    let place = c.args.place in
    let key = c.args.key.now in
    let entries = c.entries_at.ensures ∙ ap (λ (l : List Upper). entries_in l place) c.deref.ensures.value ∙ ap (λ (x : Held). entries_at x place) c.self.view_is in
    ok_map {P = IsValueOf bytes c.entries_at.result.now key c.self.inside.marks c.deref-2.result.now _} c.value_at.result (c.value_at.ensures.ok h tt) (λ v is.
    value_is bytes content held place t key v (c.what_is_read_is_regular.ensures bytes content reads) reader reads at
    (same_value bytes (entries_at held place) c.entries_at.result.now key held.marks c.self.inside.marks held.ids c.deref-2.result.now (record_at (number_at held place) key held.newest) _ v entries (ap (λ (x : Held). x.marks) c.self.view_is) (c.deref-2.ensures.value ∙ ap (λ (x : Held). x.ids) c.self.view_is) c.newest_of.ensures is))

pub returns-clause-err : goal.returns-clause-err
returns-clause-err g c =
    let D = g.D.Disk in
    let place = c.args.place in
    let entries = c.entries_at.ensures ∙ ap (λ (l : List Upper). entries_in l place) c.deref.ensures.value ∙ ap (λ (x : Held). entries_at x place) c.self.view_is in
    err_map c.value_at.result c.value_at.ensures.err (λ r why. subst (λ (l : List Entry). Refused (Rose (D.faults c.args.disk.now) (D.faults c.value_at.new.disk)) (IsTrue (D.honest c.args.disk.now)) (KeySpoilsAt (D.seen c.args.disk.now) l c.args.key.now) r) entries why)
