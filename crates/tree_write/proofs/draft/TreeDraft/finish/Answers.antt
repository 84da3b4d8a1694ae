use Rattle.std.proofs.Common.{◌≡◌, ◌∙◌, ◌≤◌, [], List, Result, length, sym, subst, refl, arith}
use Rattle.std.proofs.lemmas.Bool.{eqb-true}
use Rattle.std.proofs.lemmas.List.{append-nil, nil_from_length}
use Rattle.wt_code.specs.declared.store_error.StoreError.{StoreError}
use Rattle.device_layout.specs.declared.addr.Addr.{Addr}
use Rattle.stored.specs.TableTree.{Climbs, Entry, Stay}
use Rattle.stored.specs.Tree.{join}
use Rattle.tree_open.specs.declared.place.TreePlace.{TreePlace}
use Rattle.tree_write.specs.Drafts.{PartsWrite}
use Rattle.tree_write.specs.Steps.{LeavesWritten}
use Rattle.tree_write.proofs.Aligning.{bear_length}
use Rattle.tree_write.proofs.Assembling.{none_written, parts_failed, rise_answers, rooted_written, some_there}
use Rattle.tree_write.proofs.LeafKeys.{rooted_climbs, rooted_stay}
use Rattle.tree_write.proofs.LeafSteps.{want_space}
use Rattle.tree_write.proofs.draft.TreeDraft.finish.Goals as goal
use Rattle.tree_write.proofs.draft.TreeDraft.finish.Goals.{in-Ok, in-Err}

pub rise-requires-clause-climbs : goal.rise-requires-clause-climbs
rise-requires-clause-climbs g c = subst Climbs (sym c.rooted.ensures) (rooted_climbs c.self.inside.entries.items c.self.invariant.0)

pub returns-then-is_empty-clause-writes : goal.returns-then-is_empty-clause-writes
returns-then-is_empty-clause-writes g c h old first books before links parts listed draft below =
    let D = g.D.Disk in
    let d = c.args.disk.now in
    let now = c.args.blocks.now in
    let entries = c.self.inside.entries in
    let none : length entries.items ≡ 0 = omega (arith, entries.ok.0, eqb-true _ _ (sym c.is_empty.ensures ∙ c.if-is_empty.true)) in
    let empty : c.args.self ≡ [] = sym c.self.view_is ∙ nil_from_length entries.items none in
    let wrote = subst (λ (l : List Entry). LeavesWritten D old first books now before d links (join parts) listed l) empty draft.written in (
      [],
      sym (append-nil c.args.captured.now.items),
      subst (λ (l : List Addr). PartsWrite D old first links parts (join (join parts)) l books now before d c.match-no_tree.result) (sym (append-nil listed)) (elim c.match-no_tree.branch [
        | in-Ok w ↦ subst (λ (r : Result TreePlace StoreError). PartsWrite D old first links parts (join (join parts)) listed books now before d r) (sym w.result-is)
            (none_written D old first books now before d links parts listed wrote w.in-Ok.place w.in-Ok.ensures below.full)
        | in-Err w ↦ subst (λ (r : Result TreePlace StoreError). PartsWrite D old first links parts (join (join parts)) listed books now before d r) (sym w.result-is)
            (parts_failed D old first books now before d links parts (join parts) (join (join parts)) listed [] _ wrote (λ is. want_space is))
      ]),
    )

pub returns-clause-writes : goal.returns-clause-writes
returns-clause-writes g c h old first books before links parts listed draft below =
    let D = g.D.Disk in
    let d = c.args.disk.now in
    let now = c.args.blocks.now in
    let es = c.self.inside.entries.items in
    let top = c.rooted.result.items in
    let is : top ≡ _ = c.rooted.ensures in
    let wrote = subst (λ (l : List Entry). LeavesWritten D old first books now before d links (join parts) listed l) (sym c.self.view_is) draft.written in
    let whole = subst (λ (l : List Entry). LeavesWritten D old first books now before d links (join parts) listed l) (sym is) (rooted_written D old first books now before d links (join parts) listed es wrote) in
    let climbs = subst Climbs (sym is) (rooted_climbs es c.self.invariant.0) in
    let stay = subst (λ (l : List Entry). Stay l (join parts)) (sym is) (rooted_stay es (join parts) (subst (λ (l : List Entry). Stay l (join parts)) (sym c.self.view_is) below.stay)) in
    let some : 1 ≤ length (join parts) = omega (arith, c.self.inside.entries.ok.0, some_there _ _ c.is_empty.ensures c.if-is_empty.false, bear_length es (join parts) wrote.bear) in
    let rises = c.rise.ensures.rises h old first draft.written.captures.may in (
      rises.0,
      rises.1,
      rise_answers parts (join parts) refl below.full below.some some D old first books before links draft.may top climbs stay listed now d whole draft.room rises.0 c.rise.new.blocks c.rise.new.disk c.rise.result rises.2,
    )
