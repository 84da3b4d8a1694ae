use Rattle.std.proofs.Common.{◌≡◌, ◌∙◌, ◌++◌, ◌∷◌, [], List, length, ap, sym, arith}
use Rattle.std.proofs.lemmas.List.{map-id}
use Rattle.std.proofs.lemmas.Iterator.Adapters.{YieldsList-from_vec}
use Rattle.std.proofs.lemmas.Iterator.Consumers.{YieldsList-end, YieldsList-turn}
use Rattle.reconcile.specs.declared.image.Moved.{Moved}
use Rattle.stored.specs.HistoryTree.{HistoryRecord, RecordFits}
use Rattle.hist_pages.proofs.Members.{member_at, of_all}
use Rattle.evict_step.specs.Kept.{Lists, list_of}
use Rattle.kept_open.specs.Keeping.{moved_in}
use Rattle.kept_open.proofs.ByLeaf.{in-append}
use Rattle.kept_open.proofs.keep.keep_each.Goals as goal

pub loop-of-init : goal.loop-of-init
loop-of-init c = λ id. ap (λ (l : Lists). list_of l id) c.new-kept.ensures

pub keep_one-requires : goal.keep_one-requires
keep_one-requires c =
    let gives = c.into_iter-of-iterator.ensures.into_iter_gives in
    let e = YieldsList-from_vec c.args.records.items gives.0 (omega (arith, gives.1, c.args.records.ok.0)) in
    let t = YieldsList-turn e c.loop-of.yielded _ c.loop-of.yielded_by _ c.next.new.self c.in-Some.of c.in-Some.is c.next.ensures.steps in
    of_all (λ (r : HistoryRecord). RecordFits r) c.args.records.items c.in-Some.of c.requires (member_at c.args.records.items (length c.loop-of.yielded) c.in-Some.of t.0 t.1)

pub loop-of-preserved : goal.loop-of-preserved
loop-of-preserved c = λ id.
    let leaves = c.args.leaves.now.leaves in
    c.in_ok-keep_one.ensures id
    ∙ (ap (λ (l : List Moved). l ++ moved_in leaves (c.in-Some.of ∷ []) id) (c.loop-of.invariant id) ∙ sym (in-append leaves c.loop-of.yielded (c.in-Some.of ∷ []) id))

pub returns : goal.returns
returns c = λ id.
    let gives = c.into_iter-of-iterator.ensures.into_iter_gives in
    let e = YieldsList-from_vec c.args.records.items gives.0 (omega (arith, gives.1, c.args.records.ok.0)) in
    let t = YieldsList-end e c.loop-of.yielded _ c.loop-of.yielded_by _ c.next.new.self c.in-None.is c.next.ensures.steps in
    let all : c.loop-of.yielded ≡ c.args.records.items = sym (map-id c.loop-of.yielded) ∙ t.0 in
    c.loop-of.invariant id ∙ ap (λ (l : List HistoryRecord). moved_in c.args.leaves.now.leaves l id) all
