-- What holds of the images of a disk in memory.
use Rattle.std.specs.Prelude.{◌≡◌, ◌⊎◌, ℕ, ◌≤◌, List, [], ◌∷◌, ◌++◌, length, take, refl}
use Rattle.std.specs.declared.alloc.Global.{Global}
use Rattle.std.proofs.Common.{Vec, sym, ◌∙◌, ap, subst, inl, inr, arith, length-append}
use Rattle.std.proofs.lemmas.List.{take-append-le, take_all}
use Rattle.std.proofs.lemmas.Bool.{cases_lt}
use Rattle.std.proofs.lemmas.Grind.{common_steps}
use Rattle.disk_model.specs.Disk.{put, Torn, Elapses, Follows, Only, NoMore}
use Rattle.disk_model.specs.Images.{content_after, images_after, content_of, images_of, MayLeave, LeftSince, Grew, Leaves}
use Rattle.disk_model.specs.declared.call.Look.{Look}
use Rattle.disk_model.specs.declared.call.Call.{Call}
use Rattle.disk_model.specs.declared.call.Call.TheVariants.{Wrote, Missed, Synced, Looked}

-- nothing done is one of the outcomes of a write
pub torn_none : (at n : ℕ) (c : List ℕ) → Torn at n c c
torn_none at n c = record { before = refl; after = refl; no_shorter = omega arith; no_longer = omega arith }

-- and so is all
pub torn_put : (at : ℕ) (bytes old : List ℕ) → Torn at (length bytes) old (put old at bytes)
torn_put at bytes old = record {
  before = grind (arith, common_steps);
  after = grind (arith, common_steps);
  no_shorter = grind (arith, common_steps);
  no_longer = grind (arith, common_steps);
}

-- the content is one of the images
pub content_left : (content : List ℕ) (images : List ℕ → Type 0) (calls : List Call) → images content → images_of content images calls (content_of content calls)
content_left content images [] is = is
content_left content images (Wrote at bytes ∷ calls) is = content_left (put content at bytes.items) (images_after content images (Wrote at bytes)) calls (content, is, torn_put at bytes.items content)
content_left content images (Missed at bytes ∷ calls) is = content_left content (images_after content images (Missed at bytes)) calls (content, is, torn_none at (length bytes.items) content)
content_left content images (Synced ∷ calls) is = content_left content (images_after content images Synced) calls refl
content_left content images (Looked look ∷ calls) is = content_left content (images_after content images (Looked look)) calls is

pub seen_left : (first : List ℕ) (calls : List Call) → MayLeave first calls (content_of first calls)
seen_left first calls = content_left first (λ c. c ≡ first) calls refl

-- one call more
pub content_push : (content : List ℕ) (calls : List Call) (call : Call) → content_of content (calls ++ call ∷ []) ≡ content_after (content_of content calls) call
content_push content [] call = refl
content_push content (x ∷ calls) call = content_push (content_after content x) calls call

pub images_push : (content : List ℕ) (images : List ℕ → Type 0) (calls : List Call) (call : Call) (c : List ℕ) → images_of content images (calls ++ call ∷ []) c → images_after (content_of content calls) (images_of content images calls) call c
images_push content images [] call c left = left
images_push content images (x ∷ calls) call c left = images_push (content_after content x) (images_after content images x) calls call c left

pub now_since : (first : List ℕ) (calls : List Call) (t : ℕ) (c : List ℕ) → t ≤ length calls → MayLeave first calls c → LeftSince first calls t c
now_since first calls t c le left = (length calls, le, omega arith, subst (λ (l : List Call). MayLeave first l c) (sym (take_all (length calls) calls (omega arith))) left)

pub since_now : (first : List ℕ) (calls : List Call) (c : List ℕ) → LeftSince first calls (length calls) c → MayLeave first calls c
since_now first calls c (k, le, most, left) = subst (λ (l : List Call). MayLeave first l c) (take_all k calls (omega arith)) left

take_before : (k : ℕ) (calls : List Call) (call : Call) → k ≤ length calls → take k (calls ++ call ∷ []) ≡ take k calls
take_before k calls call le = rw take-append-le refl

abbrev Elapsed : List ℕ → List Call → List Call → Type 0
Elapsed first calls later = Elapses (length calls) (length later) (LeftSince first calls) (LeftSince first later) (MayLeave first later)

pub elapses_same : (first : List ℕ) (calls : List Call) → Elapsed first calls calls
elapses_same first calls = record { later = omega arith; nothing_else = λ t c le left. inl left; keeps = λ t c le left. left }

elapses_push : (first : List ℕ) (calls : List Call) (call : Call) → Elapsed first calls (calls ++ call ∷ [])
elapses_push first calls call = record {
  later = omega (arith, length-append calls (call ∷ []));
  nothing_else = λ t c le left. other t c left;
  keeps = λ t c le left. kept t c left;
}
  where
    other : (t : ℕ) (c : List ℕ) → LeftSince first (calls ++ call ∷ []) t c → LeftSince first calls t c ⊎ MayLeave first (calls ++ call ∷ []) c
    other t c (k, le, most, left) = elim (cases_lt (length calls) k) [
      | inl last ↦ inr (subst (λ (l : List Call). MayLeave first l c) (take_all k (calls ++ call ∷ []) (omega (arith, length-append calls (call ∷ [])))) left)
      | inr here ↦ inl (k, le, here, subst (λ (l : List Call). MayLeave first l c) (take_before k calls call here) left)
    ]

    kept : (t : ℕ) (c : List ℕ) → LeftSince first calls t c → LeftSince first (calls ++ call ∷ []) t c
    kept t c (k, le, most, left) = (k, le, omega (arith, length-append calls (call ∷ [])), subst (λ (l : List Call). MayLeave first l c) (sym (take_before k calls call most)) left)

pub elapses_to : (first : List ℕ) (calls later : List Call) (call : Call) → later ≡ calls ++ call ∷ [] → Elapsed first calls later
elapses_to first calls later call is = subst (λ (l : List Call). Elapsed first calls l) (sym is) (elapses_push first calls call)

pub pushed_content : (first content later : List ℕ) (calls grown : List Call) (call : Call) → content ≡ content_of first calls → grown ≡ calls ++ call ∷ [] → later ≡ content_after content call → later ≡ content_of first grown
pushed_content first content later calls grown call is grows after =
    after ∙ ap (λ (l : List ℕ). content_after l call) is ∙ sym (content_push first calls call) ∙ ap (λ (l : List Call). content_of first l) (sym grows)

pub elapses_grew : (first : List ℕ) (calls later : List Call) (call : Call) → Grew calls call later → Elapsed first calls later
elapses_grew first calls later call grew = elim grew [
  | inl same ↦ subst (λ (l : List Call). Elapsed first calls l) (sym same) (elapses_same first calls)
  | inr more ↦ elapses_to first calls later call more
]

-- what may be left after a call that was taken down
pub left_push : (first : List ℕ) (calls later : List Call) (call : Call) (c : List ℕ) → later ≡ calls ++ call ∷ [] → MayLeave first later c → images_after (content_of first calls) (MayLeave first calls) call c
left_push first calls later call c grows left = images_push first (λ d. d ≡ first) calls call c (subst (λ (l : List Call). MayLeave first l c) grows left)

pub looked_leaves : (first : List ℕ) (calls later : List Call) (look : Look) → Grew calls (Looked look) later → NoMore (MayLeave first calls) (MayLeave first later)
looked_leaves first calls later look grew c left = elim grew [
  | inl same ↦ subst (λ (l : List Call). MayLeave first l c) same left
  | inr more ↦ left_push first calls later (Looked look) c more left
]

pub missed_leaves : (first : List ℕ) (calls later : List Call) (at : ℕ) (bytes : Vec ℕ Global) → Grew calls (Missed at bytes) later → Follows (Torn at (length bytes.items)) (MayLeave first calls) (MayLeave first later)
missed_leaves first calls later at bytes grew c left = elim grew [
  | inl same ↦ (c, subst (λ (l : List Call). MayLeave first l c) same left, torn_none at (length bytes.items) c)
  | inr more ↦ left_push first calls later (Missed at bytes) c more left
]

pub synced_leaves : (first : List ℕ) (calls later : List Call) → later ≡ calls ++ Synced ∷ [] → Only (content_of first calls) (MayLeave first later)
synced_leaves first calls later more c left = left_push first calls later Synced c more left

-- a sync leaves no more than before, since the content was one of the images
pub synced_no_more : (first : List ℕ) (calls later : List Call) → Grew calls Synced later → NoMore (MayLeave first calls) (MayLeave first later)
synced_no_more first calls later grew c left = elim grew [
  | inl same ↦ subst (λ (l : List Call). MayLeave first l c) same left
  | inr more ↦ subst (λ (l : List ℕ). MayLeave first calls l) (sym (synced_leaves first calls later more c left)) (seen_left first calls)
]

pub quiet_content : (first content : List ℕ) (calls later : List Call) (call : Call) → content_after content call ≡ content → content ≡ content_of first calls → Grew calls call later → content ≡ content_of first later
quiet_content first content calls later call quiet is grew = elim grew [
  | inl same ↦ is ∙ ap (λ (l : List Call). content_of first l) (sym same)
  | inr more ↦ pushed_content first content content calls later call is more (sym quiet)
]

-- an image goes on through one call more
images_pull : (content : List ℕ) (images : List ℕ → Type 0) (calls : List Call) (call : Call) (c : List ℕ) → images_after (content_of content calls) (images_of content images calls) call c → images_of content images (calls ++ call ∷ []) c
images_pull content images [] call c left = left
images_pull content images (x ∷ calls) call c left = images_pull (content_after content x) (images_after content images x) calls call c left

image_step : (content : List ℕ) (images : List ℕ → Type 0) (call : Call) (old new : List ℕ) → images old → Leaves content call old new → images_after content images call new
image_step content images (Wrote at bytes) old new is step = (old, is, step)
image_step content images (Missed at bytes) old new is step = (old, is, step)
image_step content images Synced old new is step = step
image_step content images (Looked look) old new is step = subst images (sym step) is

pub leaves_more : (first content : List ℕ) (calls grown : List Call) (call : Call) (old new : List ℕ) → grown ≡ calls ++ call ∷ [] → content ≡ content_of first calls → MayLeave first calls old → Leaves content call old new → MayLeave first grown new
leaves_more first content calls grown call old new grows is from step =
    subst (λ (l : List Call). MayLeave first l new) (sym grows) (images_pull first (λ d. d ≡ first) calls call new (image_step (content_of first calls) (MayLeave first calls) call old new from (subst (λ (l : List ℕ). Leaves l call old new) is step)))
