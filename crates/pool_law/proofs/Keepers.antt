-- The lemmas of the law under which each seat keeps the word of its own number.
use Rattle.std.proofs.Common.{◌≡◌, ◌≢◌, ℕ, ◌<◌, ◌≤◌, List, ◌∷◌, get_or, set, sym, refl, ap, ◌∙◌, subst, inl, inr, ⊎_elim, arith, length-set, get_or-set_other, get_or-set_same}
use mathlib.Core.Logic.{dite}
use mathlib.Core.Option.{some}
use native.Mathlib.Decide.{ℕ_discrete}
use lib.ListN.{get_elem?}
use Rattle.pool_law.proofs.Seats.{at_set}
use Rattle.pool_law.specs.declared.part.Part.{Part}
use Rattle.pool_law.specs.Asks.{FindsAndMayGo, MayGo, MayTurn}
use Rattle.pool_law.specs.Whole.{Noted, noted, part_at, Fits, Whole, IsFree, IsOnly, latched, put, stepped}
use Rattle.pool_law.specs.Keeping.{Own, Kept, finds_own, turns_own, tells_nothing, puts_anything}

abbrev W : Type 0
W = Whole ℕ ℕ Own

abbrev V : Type 0
V = Noted Own

-- what holds of each seat's note, after one of them has another
after : (P : ℕ → Own → Type 0) (seats : List V) (id : ℕ) (w : V) → P id w.note → ((j : ℕ) (v : V) → get_elem? seats j ≡ some v → P j v.note)
    → (j : ℕ) (v : V) → get_elem? (set seats id w) j ≡ some v → P j v.note
after P seats id w here others j v e = ⊎_elim
    (λ (t : (j ≡ id) × (w ≡ v)). subst (λ (y : V). P j y.note) t.1 (subst (λ (i : ℕ). P i w.note) (sym t.0) here))
    (λ (t : (j ≢ id) × (get_elem? seats j ≡ some v)). others j v t.1)
    (at_set seats id j w v e)

-- a seat with the same note and other pieces
same_note : (n : ℕ) (x : W) (id : ℕ) (v : V) (m : Own) (held : List ℕ) (hub : ℕ) (frames : List ℕ) → Kept n x → get_elem? x.seats id ≡ some v → m ≡ v.note
    → Kept n record { words = x.words; hub = hub; frames = frames; seats = set x.seats id (noted m held) }
same_note n x id v m held hub frames g at e = record {
  wide = g.wide;
  number = after (λ j y. y.0 ≡ j) x.seats id (noted m held) (ap (λ (y : Own). y.0) e ∙ g.number id v at) g.number;
  own = after (λ j y. j < n → get_or x.words j 0 ≡ y.1) x.seats id (noted m held) (λ l. g.own id v at l ∙ ap (λ (y : Own). y.1) (sym e)) g.own;
}

pub keep_latches : (n : ℕ) (x : W) (id : ℕ) (v : V) (k : ℕ) → Kept n x → get_elem? x.seats id ≡ some v → Unit {0} → Fits k (part_at x.hub x.frames k) → IsFree k x
    → (m : Own) × tells_nothing v k (part_at x.hub x.frames k) m × Kept n (latched x id v k m)
keep_latches n x id v k g at may fit free = (v.note, refl, same_note n x id v v.note (k ∷ v.held) x.hub x.frames g at refl)

pub keep_puts : (n : ℕ) (x : W) (id : ℕ) (v : V) (k : ℕ) (rest : List ℕ) (y : Part ℕ ℕ) (m : Own) → Kept n x → get_elem? x.seats id ≡ some v → v.held ≡ k ∷ rest → IsOnly id k x
    → Fits k (part_at x.hub x.frames k) → Fits k y → puts_anything v k (part_at x.hub x.frames k) y m → Kept n (put x id rest k y m)
keep_puts n x id v k rest y m g at held only fit fits e = same_note n x id v m rest _ _ g at e

pub keep_finds : (n : ℕ) (x : W) (id : ℕ) (v : V) (i : ℕ) → Kept n x → get_elem? x.seats id ≡ some v → finds_own n v i (get_or x.words i 0)
keep_finds n x id v i g at mine small =
    let is : i ≡ id = mine ∙ g.number id v at in
    ap (λ (y : ℕ). get_or x.words y 0) is ∙ g.own id v at (omega arith)

pub keep_turns : (n : ℕ) (x : W) (id : ℕ) (v : V) (i t : ℕ) (k : Own) → Kept n x → get_elem? x.seats id ≡ some v → turns_own n v i (get_or x.words i 0) t k
    → Kept n (stepped x id v.held i t k)
keep_turns n x id v i t k g at (inl (mine, new)) =
    let is : i ≡ id = mine ∙ g.number id v at in
    let wide = g.wide in
    record {
      wide = (let l = length-set x.words i t in omega arith);
      number = after (λ j y. y.0 ≡ j) x.seats id (noted k v.held) (ap (λ (y : Own). y.0) new ∙ is) g.number;
      own = λ j w e. ⊎_elim
          (λ (q : (j ≡ id) × (noted k v.held ≡ w)). λ (l : j < n). ap (λ (y : ℕ). get_or (set x.words i t) y 0) (q.0 ∙ sym is)
          ∙ (get_or-set_same x.words i t 0 (let a = q.0 in omega arith) ∙ (ap (λ (y : Own). y.1) (sym new) ∙ ap (λ (y : V). y.note.1) q.1)))
          (λ (q : (j ≢ id) × (get_elem? x.seats j ≡ some w)). λ (l : j < n). get_or-set_other x.words i j t 0 (λ z. q.0 (z ∙ is)) ∙ g.own j w q.1 l)
          (at_set x.seats id j (noted k v.held) w e);
    }
keep_turns n x id v i t k g at (inr (other, same, none)) =
    let not_own : i ≢ id = (λ z. other (z ∙ sym (g.number id v at))) in
    let wide = g.wide in
    record {
      wide = (let l = length-set x.words i t in omega arith);
      number = after (λ j y. y.0 ≡ j) x.seats id (noted k v.held) (ap (λ (y : Own). y.0) none ∙ g.number id v at) g.number;
      own = λ j w e. ⊎_elim
          (λ (q : (j ≡ id) × (noted k v.held ≡ w)). λ (l : j < n). get_or-set_other x.words i j t 0 (λ z. not_own (sym z ∙ q.0))
          ∙ (ap (λ (y : ℕ). get_or x.words y 0) q.0 ∙ (g.own id v at (let a = q.0 in omega arith) ∙ (ap (λ (y : Own). y.1) (sym none) ∙ ap (λ (y : V). y.note.1) q.1))))
          (λ (q : (j ≢ id) × (get_elem? x.seats j ≡ some w)). λ (l : j < n). dite (ℕ_discrete j i)
          (λ (z : j ≡ i). ap (λ (y : ℕ). get_or (set x.words i t) y 0) z ∙ (get_or-set_same x.words i t 0 (omega arith) ∙ (same (omega arith) ∙ (ap (λ (y : ℕ). get_or x.words y 0) (sym z) ∙ g.own j w q.1 l))))
          (λ (z : j ≢ i). get_or-set_other x.words i j t 0 z ∙ g.own j w q.1 l))
          (at_set x.seats id j (noted k v.held) w e);
    }

-- what a seat may do: read any word, write those behind the first n, and write its own
module _ (n : ℕ) (u : V) where
  pub may_read : (i : ℕ) → MayTurn (finds_own n) (turns_own n) u i (λ r. r)
  may_read i r lt found = dite (ℕ_discrete i u.note.0) (λ (e : i ≡ u.note.0). ((i, r), inl (e, refl))) (λ (e : i ≢ u.note.0). (u.note, inr (e, (λ l. refl), refl)))

  pub may_write : (i : ℕ) (to : ℕ → ℕ) → n ≤ i → MayTurn (finds_own n) (turns_own n) u i to
  may_write i to behind r lt found = dite (ℕ_discrete i u.note.0)
      (λ (e : i ≡ u.note.0). ((i, to r), inl (e, refl)))
      (λ (e : i ≢ u.note.0). (u.note, inr (e, (λ l. absurd (omega arith)), refl)))

  pub may_write_own : (i : ℕ) (to : ℕ → ℕ) → i ≡ u.note.0 → MayTurn (finds_own n) (turns_own n) u i to
  may_write_own i to e r lt found = ((i, to r), inl (e, refl))

  pub may_go_own : (i m t : ℕ) → i ≡ u.note.0 → MayGo (finds_own n) (turns_own n) u i m t
  may_go_own i m t e found = ((i, t), inl (e, refl))

  pub may_fill_own : (i m t : ℕ) → i ≡ u.note.0 → i < n → u.note.1 ≡ m → FindsAndMayGo (finds_own n) (turns_own n) u i m t
  may_fill_own i m t e l is r lt found = (found e l ∙ is, ((i, t), inl (e, refl)))

-- after a step on the own word the seat knows it
pub own_after : (n : ℕ) (u : V) (i m t : ℕ) (k : Own) → i ≡ u.note.0 → turns_own n u i m t k → k ≡ (i, t)
own_after n u i m t k e (inl (mine, is)) = is
own_after n u i m t k e (inr (other, same, none)) = absurd (other e)

-- after a step on another word its note is as before
pub other_after : (n : ℕ) (u : V) (i m t : ℕ) (k : Own) → i ≢ u.note.0 → turns_own n u i m t k → k ≡ u.note
other_after n u i m t k e (inl (mine, is)) = absurd (e mine)
other_after n u i m t k e (inr (other, same, none)) = none
