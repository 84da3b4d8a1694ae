-- How a run of calls goes on, and what a write keeps.
use Rattle.std.specs.Prelude.{◌≡◌, ℕ, ◌+◌, ◌≤◌, min, List, length, take, drop, refl, ◌-◌}
use Rattle.std.proofs.Common.{sym, ◌∙◌, ap, inl, inr, ⊎_elim, arith}
use Rattle.std.proofs.lemmas.List.{drop-drop}
use Rattle.std.proofs.lemmas.Bool.{cases_lt}
use Rattle.disk_model.specs.declared.disk.Disk.{Ghosts}
use Rattle.disk_model.specs.Disk.{NoMore, put, Torn}
use Rattle.disk_model.specs.Ranges.{range, range_take, range_torn_after}
use Rattle.disk_model.specs.Laws.{torn_put}
use Rattle.disk_model.specs.Crash.{SameDisk, OneCall, LeavesOnly, Keeps, Alike, Apart, Looked}

module _ {D : Type 0} (g : Ghosts D) where
  -- before the first call
  pub started : (old : D) (P : List ℕ → Type 0) → ((c : List ℕ) → g.left_since old (g.moment old) c → P c) → LeavesOnly g old old P
  started old P here = record { later = omega arith; each = here; before = λ t c le left. inl left }

  -- one call more, after which a crash leaves what has P
  pub goes_on : (old mid new : D) (P : List ℕ → Type 0) → LeavesOnly g old mid P → OneCall g mid new
      → ((c : List ℕ) → g.may_leave new c → P c) → LeavesOnly g old new P
  goes_on old mid new P so_far time here = record {
    later = omega (arith, so_far.later, time.later);
    each = λ c left. ⊎_elim (so_far.each c) (here c) (time.nothing_else (g.moment old) c so_far.later left);
    before = λ t c le left. ⊎_elim (so_far.before t c le) (λ now. inr (here c now)) (time.nothing_else t c (omega (arith, le, so_far.later)) left);
  }

  -- two runs, one after the other
  pub joined : (old mid new : D) (P Q : List ℕ → Type 0) → LeavesOnly g old mid P → LeavesOnly g mid new Q → ((c : List ℕ) → Q c → P c) → LeavesOnly g old new P
  joined old mid new P Q first second more = record {
    later = omega (arith, first.later, second.later);
    each = λ c left. ⊎_elim (first.each c) (more c) (second.before (g.moment old) c first.later left);
    before = λ t c le left. ⊎_elim (first.before t c le) (λ q. inr (more c q)) (second.before t c (omega (arith, le, first.later)) left);
  }

  pub widened : (old new : D) (P Q : List ℕ → Type 0) → LeavesOnly g old new P → ((c : List ℕ) → P c → Q c) → LeavesOnly g old new Q
  widened old new P Q run more = record {
    later = run.later;
    each = λ c left. more c (run.each c left);
    before = λ t c le left. ⊎_elim (λ past. inl past) (λ p. inr (more c p)) (run.before t c le left);
  }

-- a range before a write, within the old content, is as it was
pub range_torn_front : (at size : ℕ) (old new : List ℕ) (i n : ℕ) → Torn at size old new → i + n ≤ at → i + n ≤ length old → range new i n ≡ range old i n
range_torn_front at size old new i n torn le within =
    sym (range_take new (min at (length old)) i n (omega arith)) ∙ ap (λ (l : List ℕ). range l i n) torn.before ∙ range_take old (min at (length old)) i n (omega arith)

pub range_torn_apart : (at size : ℕ) (old new : List ℕ) (i n : ℕ) → Torn at size old new → Apart at size i n → i + n ≤ length old → range new i n ≡ range old i n
range_torn_apart at size old new i n torn apart within = elim (cases_lt at (i + n)) [
  | inl meets ↦ range_torn_after at size old new i n torn (apart meets)
  | inr before ↦ range_torn_front at size old new i n torn before within
]

pub take_torn : (at size : ℕ) (old new : List ℕ) (n : ℕ) → Torn at size old new → n ≤ at → n ≤ length old → take n new ≡ take n old
take_torn at size old new n torn le within = grind (arith, range_torn_front at size old new 0 n torn (omega arith) (omega arith))

-- all behind a write is as it was
pub drop_torn : (at size : ℕ) (old new : List ℕ) (n : ℕ) → Torn at size old new → at + size ≤ n → drop n new ≡ drop n old
drop_torn at size old new n torn le =
    let more : n ≡ (at + size) + (n - (at + size)) = omega arith in
    ap (λ k. drop k new) more ∙ sym (drop-drop (n - (at + size)) (at + size) new) ∙ ap (λ (l : List ℕ). drop (n - (at + size)) l) torn.after ∙ drop-drop (n - (at + size)) (at + size) old ∙ ap (λ k. drop k old) (sym more)

module _ (kept : ℕ → ℕ → Type 0) where
  pub keeps_refl : (c : List ℕ) → Keeps kept c c
  keeps_refl c = record { slots = λ _. refl; part = λ at n is le. refl; no_shorter = omega arith }

  pub keeps_trans : (a b c : List ℕ) → Keeps kept a b → Keeps kept b c → Keeps kept a c
  keeps_trans a b c first second = record {
    slots = λ long. second.slots (omega (arith, long, first.no_shorter)) ∙ first.slots long;
    part = λ at n is le. second.part at n is (omega (arith, le, first.no_shorter)) ∙ first.part at n is le;
    no_shorter = omega (arith, first.no_shorter, second.no_shorter);
  }

  pub keeps_fewer : (fewer : ℕ → ℕ → Type 0) (a b : List ℕ) → ((at n : ℕ) → fewer at n → kept at n) → Keeps kept a b → Keeps fewer a b
  keeps_fewer fewer a b less keeps = record { slots = keeps.slots; part = λ at n is. keeps.part at n (less at n is); no_shorter = keeps.no_shorter }

  -- a write behind the slots that meets none of the parts
  pub keeps_torn : (at size : ℕ) (old new : List ℕ) → 8192 ≤ at → ((i n : ℕ) → kept i n → Apart at size i n) → Torn at size old new → Keeps kept old new
  keeps_torn at size old new behind apart torn = record {
    slots = λ long. take_torn at size old new 8192 torn behind long;
    part = λ i n is within. range_torn_apart at size old new i n torn (apart i n is) within;
    no_shorter = torn.no_shorter;
  }

  pub keeps_put : (at : ℕ) (bytes old : List ℕ) → 8192 ≤ at → ((i n : ℕ) → kept i n → Apart at (length bytes) i n) → Keeps kept old (put old at bytes)
  keeps_put at bytes old behind apart = keeps_torn at (length bytes) old (put old at bytes) behind apart (torn_put at bytes old)

  pub alike_then : (seen old new : List ℕ) → Alike kept seen old → Keeps kept old new → Alike kept seen new
  alike_then seen old new alike keeps = record {
    long = omega (arith, alike.long, keeps.no_shorter);
    slots = keeps.slots alike.long ∙ alike.slots;
    part = λ at n is. (keeps.part at n is (alike.part at n is).1 ∙ (alike.part at n is).0, omega (arith, (alike.part at n is).1, keeps.no_shorter));
  }

  -- where two are alike with a third, they are alike
  pub alike_both : (base seen image : List ℕ) → Alike kept base seen → Alike kept base image → Alike kept seen image
  alike_both base seen image first second = record {
    long = second.long;
    slots = second.slots ∙ sym first.slots;
    part = λ at n is. ((second.part at n is).0 ∙ sym (first.part at n is).0, (second.part at n is).1);
  }

module _ {D : Type 0} (g : Ghosts D) where
  pub same_disk_then : (old mid new : D) → SameDisk g old mid → SameDisk g mid new → SameDisk g old new
  same_disk_then old mid new one two = record {
    same = two.same ∙ one.same;
    room = two.room ∙ one.room;
    home = two.home ∙ one.home;
    later = omega (arith, one.later, two.later);
  }

  pub looked_since : (old new : D) → OneCall g old new → NoMore (g.may_leave old) (g.may_leave new)
      → ((t : ℕ) (c : List ℕ) → t ≤ g.moment old → g.may_leave old c → g.left_since old t c) → (t : ℕ) (c : List ℕ) → t ≤ g.moment old → g.left_since new t c → g.left_since old t c
  looked_since old new time images counts t c le left = ⊎_elim (λ past. past) (λ now. counts t c le (images c now)) (time.nothing_else t c le left)

  pub looked_then : (old mid new : D) → Looked g old mid → Looked g mid new → Looked g old new
  looked_then old mid new one two = record {
    same = two.same ∙ one.same;
    content = two.content ∙ one.content;
    images = λ c left. one.images c (two.images c left);
    capacity = two.capacity ∙ one.capacity;
    count = omega (arith, one.count, two.count);
    later = omega (arith, one.later, two.later);
    since = λ t c le left. one.since t c le (two.since t c (omega (arith, le, one.later)) left);
  }

  pub looked_same : (old new : D) → Looked g old new → g.home new ≡ g.home old → SameDisk g old new
  looked_same old new looked home = record { same = looked.same; room = looked.capacity; home = home; later = looked.count }

  pub looked_only : (old new : D) (P : List ℕ → Type 0) → Looked g old new → ((c : List ℕ) → g.left_since old (g.moment old) c → P c) → LeavesOnly g old new P
  looked_only old new P looked here = record {
    later = looked.later;
    each = λ c left. here c (looked.since (g.moment old) c (omega arith) left);
    before = λ t c le left. inl (looked.since t c le left);
  }
