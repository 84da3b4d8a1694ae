-- The laws of `Grow`.
use Rattle.std.proofs.Common.{◌≡◌, ◌≢◌, ℕ, zero, suc, ◌+◌, ◌≤◌, List, [], ◌∷◌, get_or, set, sym, refl, ◌∙◌, subst, ⊎_elim, arith, le_refl, length-set}
use mathlib.Core.Option.{some}
use lib.ListN.{get_elem?}
use Rattle.pool_law.proofs.Seats.{at_set}
use Rattle.pool_law.specs.declared.part.Part.{Part}
use Rattle.pool_law.specs.declared.part.Part.TheVariants.{Hub, Frame, Gone}
use Rattle.pool_law.specs.Whole.{Noted, noted, part_at, Fits, Whole, IsFree, IsOnly, latched, put, stepped}
use Rattle.pool_law.specs.Growing.{value_of, total, Under, none_left, both_left, Grown, looks, raises}

under_total : (xs ys : List ℕ) → Under xs ys → total xs ≤ total ys
under_total [] [] none_left = le_refl 0
under_total [] (y ∷ ys) u = elim u [ ]
under_total (x ∷ xs) [] u = elim u [ ]
under_total (x ∷ xs) (y ∷ ys) (both_left _ _ _ _ l u) = let r = under_total xs ys u in let p : x + total xs ≤ y + total ys = omega arith in p

-- the list grows at one place
under_more : (xs ys : List ℕ) (f b : ℕ) → Under xs ys → get_or ys f 0 ≤ b → Under xs (set ys f b)
under_more [] [] f b none_left l = none_left
under_more [] (y ∷ ys) f b u l = elim u [ ]
under_more (x ∷ xs) [] f b u l = elim u [ ]
under_more (x ∷ xs) (y ∷ ys) zero b (both_left _ _ _ _ a u) l = both_left x b xs ys (omega arith) u
under_more (x ∷ xs) (y ∷ ys) (suc f) b (both_left _ _ _ _ a u) l = both_left x y xs (set ys f b) a (under_more xs ys f b u l)

-- what is there is seen at one place
under_seen : (xs ys : List ℕ) (f b : ℕ) → Under xs ys → b ≤ get_or ys f 0 → Under (set xs f b) ys
under_seen [] [] f b none_left l = none_left
under_seen [] (y ∷ ys) f b u l = elim u [ ]
under_seen (x ∷ xs) [] f b u l = elim u [ ]
under_seen (x ∷ xs) (y ∷ ys) zero b (both_left _ _ _ _ a u) l = both_left b y xs ys l u
under_seen (x ∷ xs) (y ∷ ys) (suc f) b (both_left _ _ _ _ a u) l = both_left x y (set xs f b) ys a (under_seen xs ys f b u l)

under_both : (xs ys : List ℕ) (f b : ℕ) → Under xs ys → get_or ys f 0 ≤ b → Under (set xs f b) (set ys f b)
under_both [] [] f b none_left l = none_left
under_both [] (y ∷ ys) f b u l = elim u [ ]
under_both (x ∷ xs) [] f b u l = elim u [ ]
under_both (x ∷ xs) (y ∷ ys) zero b (both_left _ _ _ _ a u) l = both_left b b xs ys (le_refl b) u
under_both (x ∷ xs) (y ∷ ys) (suc f) b (both_left _ _ _ _ a u) l = both_left x y (set xs f b) (set ys f b) a (under_both xs ys f b u l)

value_at : (h : ℕ) (fs : List ℕ) (f : ℕ) → value_of (part_at h fs (suc f)) ≡ get_or fs f 0
value_at h [] f = refl
value_at h (x ∷ fs) zero = refl
value_at h (x ∷ fs) (suc f) = value_at h fs f

sum_more : (ys : List ℕ) (f b : ℕ) → get_or ys f 0 ≤ b → total ys ≤ total (set ys f b)
sum_more [] f b l = le_refl 0
sum_more (y ∷ ys) zero b l = let p : y + total ys ≤ b + total ys = omega arith in p
sum_more (y ∷ ys) (suc f) b l = let r = sum_more ys f b l in let p : y + total ys ≤ y + total (set ys f b) = omega arith in p

abbrev W : Type 0
W = Whole ℕ ℕ (List ℕ)

-- the seats after one of them has another note
seats_after : (frames : List ℕ) (seats : List (Noted (List ℕ))) (id : ℕ) (w : Noted (List ℕ)) → Under w.note frames → ((j : ℕ) (v : Noted (List ℕ)) → get_elem? seats j ≡ some v → Under v.note frames)
    → (j : ℕ) (v : Noted (List ℕ)) → get_elem? (set seats id w) j ≡ some v → Under v.note frames
seats_after frames seats id w u others j v e = ⊎_elim (λ (t : (j ≡ id) × (w ≡ v)). subst (λ (y : Noted (List ℕ)). Under y.note frames) t.1 u) (λ (t : (j ≢ id) × (get_elem? seats j ≡ some v)). others j v t.1) (at_set seats id j w v e)

pub grow_latches : (n : ℕ) (x : W) (id : ℕ) (v : Noted (List ℕ)) (k : ℕ) → Grown n x → get_elem? x.seats id ≡ some v → Unit {0} → Fits k (part_at x.hub x.frames k) → IsFree k x
    → (m : List ℕ) × looks v k (part_at x.hub x.frames k) m × Grown n (latched x id v k m)
grow_latches n x id v zero g at may fit free = (v.note, refl, record { wide = g.wide; most = g.most; seen = seats_after x.frames x.seats id (noted v.note (0 ∷ v.held)) (g.seen id v at) g.seen })
grow_latches n x id v (suc f) g at may fit free = let b = value_of (part_at x.hub x.frames (suc f)) in let m = set v.note f b in let e = value_at x.hub x.frames f in
    (m, refl, record { wide = g.wide; most = g.most; seen = seats_after x.frames x.seats id (noted m (suc f ∷ v.held)) (under_seen v.note x.frames f b (g.seen id v at) (omega arith)) g.seen })

pub grow_puts : (n : ℕ) (x : W) (id : ℕ) (v : Noted (List ℕ)) (k : ℕ) (rest : List ℕ) (y : Part ℕ ℕ) (m : List ℕ) → Grown n x → get_elem? x.seats id ≡ some v → v.held ≡ k ∷ rest → IsOnly id k x → Fits k (part_at x.hub x.frames k) → Fits k y → raises v k (part_at x.hub x.frames k) y m
    → Grown n (put x id rest k y m)
grow_puts n x id v zero rest (Hub h) m g at held only fit fits r = record { wide = g.wide; most = (let a = under_total v.note x.frames (g.seen id v at) in let b = r.0 in omega arith); seen = seats_after x.frames x.seats id (noted m rest) (subst (λ (l : List ℕ). Under l x.frames) (sym r.1) (g.seen id v at)) g.seen }
grow_puts n x id v zero rest (Frame h) m g at held only fit fits r = elim fits [ ]
grow_puts n x id v zero rest Gone m g at held only fit fits r = elim fits [ ]
grow_puts n x id v (suc f) rest (Hub h) m g at held only fit fits r = elim fits [ ]
grow_puts n x id v (suc f) rest Gone m g at held only fit fits r = elim fits [ ]
grow_puts n x id v (suc f) rest (Frame b) m g at held only fit fits r = let e = value_at x.hub x.frames f in let more : get_or x.frames f 0 ≤ b = (let c = r.0 in omega arith) in record {
  wide = length-set x.frames f b ∙ g.wide;
  most = (let a = g.most in let c = sum_more x.frames f b more in omega arith);
  seen = seats_after (set x.frames f b) x.seats id (noted m rest) (subst (λ (l : List ℕ). Under l (set x.frames f b)) (sym r.1) (under_both v.note x.frames f b (g.seen id v at) more)) (λ j w h. under_more w.note x.frames f b (g.seen j w h) more);
}

pub grow_turns : (n : ℕ) (x : W) (id : ℕ) (v : Noted (List ℕ)) (i b : ℕ) (m : List ℕ) → Grown n x → get_elem? x.seats id ≡ some v → m ≡ v.note → Grown n (stepped x id v.held i b m)
grow_turns n x id v i b m g at e = record { wide = g.wide; most = g.most; seen = seats_after x.frames x.seats id (noted m v.held) (subst (λ (l : List ℕ). Under l x.frames) (sym e) (g.seen id v at)) g.seen }
