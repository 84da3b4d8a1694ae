-- What a call of a disk in memory leaves.
use Rattle.std.proofs.Common.{◌≡◌, ◌++◌, [], ◌∷◌, ℕ, List, Vec, length, sym, subst, ap, ◌∙◌, inl, inr, refl, ◌⊎◌}
use Rattle.std.specs.declared.alloc.Global.{Global}
use Rattle.disk_model.specs.Disk.{put, Torn, Elapses, Follows, Only, NoMore}
use Rattle.disk_model.specs.Images.{content_after, content_of, MayLeave, LeftSince, Medium, Same, Went, content, May, Time}
use Rattle.disk_model.specs.Laws.{elapses_grew, looked_leaves, missed_leaves, synced_leaves, synced_no_more, left_push, torn_none, quiet_content, content_push}
use Rattle.disk_model.specs.declared.call.Look.{Look}
use Rattle.disk_model.specs.declared.call.Call.{Call}
use Rattle.disk_model.specs.declared.call.Call.TheVariants.{Wrote, Missed, Synced, Looked}

pub went_of : (old new : Medium) (call : Call) → Same old new → Went old call new
went_of old new call same = record { first = same.first; grew = inl same.calls; capacity = same.capacity; home = same.home }

-- a call between two changes of the counts
pub went_by : (old mid next new : Medium) (call : Call) → Same old mid → Went mid call next → Same next new → Went old call new
went_by old mid next new call before went after = record {
  first = after.first ∙ went.first ∙ before.first;
  grew = elim went.grew [
    | inl same ↦ inl (after.calls ∙ same ∙ before.calls)
    | inr more ↦ inr (after.calls ∙ more ∙ ap (λ (l : List Call). l ++ call ∷ []) before.calls)
  ];
  capacity = after.capacity ∙ went.capacity ∙ before.capacity;
  home = after.home ∙ went.home ∙ before.home;
}

pub time : (old new : Medium) (call : Call) → Went old call new → Time old new
time old new call went = subst (λ (f : List ℕ). Elapses (length old.calls) (length new.calls) (LeftSince old.first old.calls) (LeftSince f new.calls) (MayLeave f new.calls)) (sym went.first) (elapses_grew old.first old.calls new.calls call went.grew)

pub looked : (old new : Medium) (look : Look) → Went old (Looked look) new → NoMore (May old) (May new)
looked old new look went = subst (λ (f : List ℕ). NoMore (May old) (MayLeave f new.calls)) (sym went.first) (looked_leaves old.first old.calls new.calls look went.grew)

pub no_more : (old new : Medium) → Went old Synced new → NoMore (May old) (May new)
no_more old new went = subst (λ (f : List ℕ). NoMore (May old) (MayLeave f new.calls)) (sym went.first) (synced_no_more old.first old.calls new.calls went.grew)

pub synced : (old new : Medium) → Went old Synced new → new.calls ≡ old.calls ++ Synced ∷ [] → Only (content old) (May new)
synced old new went more = subst (λ (f : List ℕ). Only (content old) (MayLeave f new.calls)) (sym went.first) (synced_leaves old.first old.calls new.calls more)

pub missed : (old new : Medium) (at : ℕ) (v : Vec ℕ Global) (bytes : List ℕ) → v.items ≡ bytes → Went old (Missed at v) new → Follows (Torn at (length bytes)) (May old) (May new)
missed old new at v bytes is went =
    subst (λ (b : List ℕ). Follows (Torn at (length b)) (May old) (May new)) is (subst (λ (f : List ℕ). Follows (Torn at (length v.items)) (May old) (MayLeave f new.calls)) (sym went.first) (missed_leaves old.first old.calls new.calls at v went.grew))

-- a call that leaves the content as it is
pub quiet : (old new : Medium) (call : Call) → content_after (content old) call ≡ content old → Went old call new → content new ≡ content old
quiet old new call same went = ap (λ (f : List ℕ). content_of f new.calls) went.first ∙ sym (quiet_content old.first (content old) old.calls new.calls call same refl went.grew)

-- a write that was done
pub wrote : (old new : Medium) (at : ℕ) (v : Vec ℕ Global) (bytes : List ℕ) → v.items ≡ bytes → new.first ≡ old.first → new.calls ≡ old.calls ++ Wrote at v ∷ [] → Follows (Torn at (length bytes)) (May old) (May new)
wrote old new at v bytes is first more c left =
    let from = left_push old.first old.calls new.calls (Wrote at v) c more (subst (λ (f : List ℕ). MayLeave f new.calls c) first left) in
    (from.0, from.1, subst (λ (b : List ℕ). Torn at (length b) from.0 c) is from.2)

pub wrote_content : (old new : Medium) (at : ℕ) (v : Vec ℕ Global) (bytes : List ℕ) → v.items ≡ bytes → new.first ≡ old.first → new.calls ≡ old.calls ++ Wrote at v ∷ [] → content new ≡ put (content old) at bytes
wrote_content old new at v bytes is first more =
    ap (λ (f : List ℕ). content_of f new.calls) first ∙ ap (λ (l : List Call). content_of old.first l) more ∙ content_push old.first old.calls (Wrote at v) ∙ ap (λ (b : List ℕ). put (content old) at b) is

pub wrote_time : (old new : Medium) (at : ℕ) (v : Vec ℕ Global) → new.first ≡ old.first → new.calls ≡ old.calls ++ Wrote at v ∷ [] → Time old new
wrote_time old new at v first more = subst (λ (f : List ℕ). Elapses (length old.calls) (length new.calls) (LeftSince old.first old.calls) (LeftSince f new.calls) (MayLeave f new.calls)) (sym first) (elapses_grew old.first old.calls new.calls (Wrote at v) (inr more))

pub same_refl : (m : Medium) → Same m m
same_refl m = record { first = refl; calls = refl; capacity = refl; home = refl }

same_trans : (a b c : Medium) → Same a b → Same b c → Same a c
same_trans a b c one two = record { first = two.first ∙ one.first; calls = two.calls ∙ one.calls; capacity = two.capacity ∙ one.capacity; home = two.home ∙ one.home }

-- what is known of a write that failed
abbrev Tried : Medium → ℕ → List ℕ → Medium → Type 0
Tried old at bytes new = Same old new ⊎ ((v : Vec ℕ Global) × (v.items ≡ bytes) × Went old (Missed at v) new)

pub missed_or_not : (old mid next new : Medium) (at : ℕ) (bytes : List ℕ) → Same old mid → Tried mid at bytes next → Same next new → Follows (Torn at (length bytes)) (May old) (May new)
missed_or_not old mid next new at bytes before tried after = elim tried [
  | inl same ↦ (λ c left.
      let all = same_trans old next new (same_trans old mid next before same) after in
      (c, subst (λ (f : List ℕ). MayLeave f old.calls c) all.first (subst (λ (l : List Call). MayLeave new.first l c) all.calls left), torn_none at (length bytes) c))
  | inr (v, is, went) ↦ missed old new at v bytes is (went_by old mid next new (Missed at v) before went after)
]

pub missed_time : (old mid next new : Medium) (at : ℕ) (bytes : List ℕ) → Same old mid → Tried mid at bytes next → Same next new → Time old new
missed_time old mid next new at bytes before tried after = elim tried [
  | inl same ↦ time old new Synced (went_of old new Synced (same_trans old next new (same_trans old mid next before same) after))
  | inr (v, is, went) ↦ time old new (Missed at v) (went_by old mid next new (Missed at v) before went after)
]
