use Rattle.std.proofs.Common.{◌≡◌, ◌∙◌, ◌++◌, ◌∷◌, [], Some, None, List, Option, ap, subst, sym, append_assoc, refl, arith}
use Rattle.std.proofs.lemmas.List.{append-nil, map-id}
use Rattle.std.proofs.lemmas.Iterator.Adapters.{YieldsList-from_vec}
use Rattle.std.proofs.lemmas.Iterator.Consumers.{YieldsList-end}
use Rattle.stored.specs.HistoryTree.{HistoryRecord}
use Rattle.device_read.specs.Newest.{newest_behind, newest_in}
use Rattle.device_read.proofs.NewestRecords.{put_end}
use Rattle.device_read.proofs.newest.newest_in.Goals as goal
use Rattle.device_read.proofs.newest.newest_in.Goals.{in-Some-last+in_ok-push, in_default}

pub loop-of-preserved : goal.loop-of-preserved
loop-of-preserved c = λ rest.
    c.in_ok-put_behind.ensures rest ∙ (c.loop-of.invariant (c.in-Some.of ∷ rest) ∙ ap newest_in (sym (append_assoc c.loop-of.yielded (c.in-Some.of ∷ []) rest)))

none_of : (o : Option HistoryRecord) → ((r : HistoryRecord) → o ≡ Some r → ⊥) → o ≡ None
none_of None none = refl
none_of (Some r) none = absurd (none r refl)

pub returns : goal.returns
returns c =
    let gives = c.into_iter-of-iterator.ensures.into_iter_gives in
    let e = YieldsList-from_vec c.args.records.items gives.0 (omega (arith, gives.1, c.args.records.ok.0)) in
    let t = YieldsList-end e c.loop-of.yielded _ c.loop-of.yielded_by _ c.next.new.self c.in-None.is c.next.ensures.steps in
    let all : c.loop-of.yielded ≡ c.args.records.items = sym (map-id c.loop-of.yielded) ∙ t.0 in
    let out : List HistoryRecord = c.loop-of.newest.items in
    let end = put_end out c.loop-of.last c.loop-of.yielded c.args.records.items all c.loop-of.invariant in
    elim c.match-last.branch [
      | in-Some-last+in_ok-push w ↦ rw w.newest-is (w.in_ok-push.ensures ∙ subst (λ (o : Option HistoryRecord). out ++ newest_behind o [] ≡ newest_in c.args.records.items) w.in-Some-last.is end)
      | in_default w ↦ rw w.newest-is (sym (append-nil out) ∙ subst (λ (o : Option HistoryRecord). out ++ newest_behind o [] ≡ newest_in c.args.records.items) (none_of c.loop-of.last w.in_default.not-Some) end)
    ]
