-- Each step of a table of latched pieces keeps its rule.
use Rattle.std.proofs.Common.{◌≡◌, ◌⊎◌, ℕ, zero, suc, ◌+◌, ◌-◌, ◌^◌, ◌<◌, ◌≤◌, eqb, ◌≢◌, Bool, true, false, List, [], ◌∷◌, map, length, get_or, drop, set, sym, refl, ap, ◌∙◌, subst, inl, inr, ⊎_elim, arith, length-set, get_or-set_other, get_or-set_same, ne_eqb}
use mathlib.Core.Logic.{dite}
use mathlib.Core.Option.{Option, none, some, some-injective, some-ne-none}
use native.Mathlib.Decide.{ℕ_discrete}
use lib.ListN.{get_elem?}
use lib.Seq.{set-get_or}
use prog.Atomic.{either}
use Rattle.std.proofs.lemmas.List.{drop-set-lt, drop-set-add, get_or-drop}
use Rattle.atomic_table.specs.Table.{State, Me, Step, step, keeps, takes, gives, stepped, Allows}
use Rattle.atomic_table.proofs.Lists.{at_set, set_here, set_else, set_again}
use Rattle.pool_law.specs.declared.part.Part.{Part}
use Rattle.pool_law.specs.declared.part.Part.TheVariants.{Hub, Frame, Gone}
use Rattle.pool_law.specs.Whole.{Noted, noted, part_at, frame_or, hub_after, frames_after, Fits, Whole, whole, IsFree, IsOnly, latched, put}
use Rattle.pool_law.specs.Obligations.{LatchKeeps, PutKeeps, FindHolds, TurnKeeps}
use Rattle.latch_table.specs.declared.view.View.{View}
use Rattle.latch_table.specs.Rule.{number, known, turned, Has, Seated, Stands, took, gave, moved}

abbrev is_false : Bool → Type 0
is_false true = ⊥
is_false false = Unit {0}

pub false_true : false ≡ true → ⊥
false_true e = subst is_false e tt

module _ {A : Type 0} where
  pub inside : (l : List A) (i : ℕ) (a : A) → get_elem? l i ≡ some a → i < length l
  inside [] i a e = absurd (some-ne-none a (sym e))
  inside (x ∷ xs) zero a e = omega arith
  inside (x ∷ xs) (suc i) a e = let r = inside xs i a e in omega arith

  one_place : (l : List A) (i : ℕ) (a b : A) → get_elem? l i ≡ some a → get_elem? l i ≡ some b → a ≡ b
  one_place l i a b e f = some-injective a b (sym e ∙ f)

  there : (l : List A) (i : ℕ) → i < length l → (a : A) × (get_elem? l i ≡ some a)
  there [] i h = absurd (omega arith)
  there (x ∷ xs) zero h = (x, refl)
  there (x ∷ xs) (suc i) h = there xs i (omega arith)

module _ {P : Type 0} where
  -- a number that stands in the list of numbers comes with its piece
  numbered : (l : List (ℕ × P)) (a k : ℕ) → get_elem? (map number l) a ≡ some k → (p : P) × (get_elem? l a ≡ some (k, p))
  numbered [] a k e = absurd (some-ne-none k (sym e))
  numbered (x ∷ xs) zero k e = (x.1, λ i. some (some-injective x.0 k e i, x.1))
  numbered (x ∷ xs) (suc a) k e = numbered xs a k e

places : (id i j c d a b : ℕ) → i ≡ j → c ≡ d → (((i ≡ id) × (a ≡ suc c)) ⊎ ((i ≢ id) × (a ≡ c))) → (((j ≡ id) × (b ≡ suc d)) ⊎ ((j ≢ id) × (b ≡ d))) → a ≡ b
places id i j c d a b e f (inl p) (inl q) = let p1 = p.1 in let q1 = q.1 in omega arith
places id i j c d a b e f (inl p) (inr q) = absurd (q.0 (sym e ∙ p.0))
places id i j c d a b e f (inr p) (inl q) = absurd (p.0 (e ∙ q.0))
places id i j c d a b e f (inr p) (inr q) = let p1 = p.1 in let q1 = q.1 in omega arith

back_places : (id i j c d a b : ℕ) → i ≡ j → c ≡ d → (((i ≡ id) × (c ≡ suc a)) ⊎ ((i ≢ id) × (c ≡ a))) → (((j ≡ id) × (d ≡ suc b)) ⊎ ((j ≢ id) × (d ≡ b))) → a ≡ b
back_places id i j c d a b e f (inl p) (inl q) = let p1 = p.1 in let q1 = q.1 in omega arith
back_places id i j c d a b e f (inl p) (inr q) = absurd (q.0 (sym e ∙ p.0))
back_places id i j c d a b e f (inr p) (inl q) = absurd (p.0 (e ∙ q.0))
back_places id i j c d a b e f (inr p) (inr q) = let p1 = p.1 in let q1 = q.1 in omega arith

module _ {P : Type 0} where
  not_first : (k : ℕ) (x : P) (l : List (ℕ × P)) (i a : ℕ) (p : P) → i ≢ k → get_elem? ((k, x) ∷ l) a ≡ some (i, p) → (b : ℕ) × (get_elem? l b ≡ some (i, p))
  not_first k x l i zero p ne e = absurd (ne (sym (λ t. (some-injective (k, x) (i, p) e t).0)))
  not_first k x l i (suc a) p ne e = (a, e)

  abbrev second_or : P → List (ℕ × P) → P
  second_or d [] = d
  second_or d (x ∷ xs) = x.1

  same_head : {k m : ℕ} {x y : P} {l r : List (ℕ × P)} → (k, x) ∷ l ≡ (m, y) ∷ r → (x ≡ y) × (l ≡ r)
  same_head {k} {m} {x} {y} {l} {r} e = (ap (second_or x) e, ap Rattle.atomic_table.specs.Table.rest e)

module _ {H F : Type 0} where
  pub fits_at : (h : H) (fs : List F) (k : ℕ) → k < suc (length fs) → Fits k (part_at h fs k)
  fits_at h fs zero l = tt
  fits_at h fs (suc k) l = let x = there fs k (omega arith) in subst (λ (o : Option F). Fits {H = H} (suc k) (frame_or o)) (sym x.1) tt

module _ {H F N : Type 0} (start : ℕ → N) (total : ℕ) (joint : Whole H F N → Type 0) where
  abbrev V : Type 0
  V = View H F N

  abbrev P : Type 0
  P = Part H F

  abbrev St : Type 0
  St = State P V

  abbrev Sd : List V → List (Noted N) → Type 0
  Sd = Seated start total

  seated_turn : (views : List V) (notes : List (Noted N)) (id : ℕ) (v : V) (n : N) (held : List (ℕ × P)) → get_elem? views id ≡ some v → v.spent ≡ false → Sd views notes
      → Sd (set views id (turned v n held)) (set notes id (noted n (map number held)))
  seated_turn views notes id v n held at live r =
      let w = turned v n held in
      let long = length-set views id w in
      let room = inside views id v at in
      record {
        total = length-set notes id (known w) ∙ r.total;
        few = (let a = long in let b = r.few in omega arith);
        made = λ u e alive. ⊎_elim
            (λ (t : (0 ≡ id) × (w ≡ u)). ap (λ (z : V). z.made) (sym t.1) ∙ (r.made v (ap (λ (z : ℕ). get_elem? views z) t.0 ∙ at) live ∙ sym long))
            (λ (t : (0 ≢ id) × (get_elem? views 0 ≡ some u)). r.made u t.1 alive ∙ sym long)
            (at_set views id 0 w u e);
        numbered = λ j u e alive. ⊎_elim
            (λ (t : (j ≡ id) × (w ≡ u)). ap (λ (z : V). z.seat) (sym t.1) ∙ (r.numbered id v at live ∙ sym t.0))
            (λ (t : (j ≢ id) × (get_elem? views j ≡ some u)). r.numbered j u t.1 alive)
            (at_set views id j w u e);
        idle = λ j u e gone. ⊎_elim
            (λ (t : (j ≡ id) × (w ≡ u)). absurd (false_true (sym live ∙ (ap (λ (z : V). z.spent) t.1 ∙ gone))))
            (λ (t : (j ≢ id) × (get_elem? views j ≡ some u)). r.idle j u t.1 gone)
            (at_set views id j w u e);
        waiting = λ j l h. set_else notes id j (known w) (λ e. (let a = long in omega arith)) ∙ r.waiting j (let a = long in omega arith) h;
        gathered = λ i u a j m e g.
            let old = ⊎_elim
            (λ (t : (i ≡ id) × (w ≡ u)). r.gathered id v a j m at (ap (λ (z : V). get_elem? z.gathered a) t.1 ∙ g))
            (λ (t : (i ≢ id) × (get_elem? views i ≡ some u)). r.gathered i u a j m t.1 g)
            (at_set views id i w u e) in
            let ne : j ≢ id = λ is. false_true (sym live ∙ old.2 v (ap (λ (z : ℕ). get_elem? views z) is ∙ at)) in
            ((let c = long in let b = old.0 in omega arith), set_else notes id j (known w) ne ∙ old.1, λ y f. old.2 y (sym (set_else views id j w ne) ∙ f));
      }

  -- a step that changes nothing
  same_state : (s : St) (id i : ℕ) (v : V) (c : List (ℕ × P)) → get_elem? s.views id ≡ some v → stepped s i (get_or s.words i 0) id c v keeps ≡ s
  same_state s id i v c at j = record { words = set-get_or s.words i 0 j; homes = s.homes; views = set_again s.views id v at j }

  free_of : (s : St) (r : Stands start total joint s) (k : ℕ) → get_or s.words k 0 ≡ 0 → IsFree k (whole (drop (length s.homes) s.words) r.hub r.frames r.notes)
  free_of s r k z j w at (a, e) = ⊎_elim
      (λ (none_held : w.held ≡ []). some-ne-none k (sym e ∙ ap (λ l. get_elem? l a) none_held))
      (λ (o : (v : V) × (get_elem? s.views j ≡ some v) × (known v ≡ w)).
      let v = o.0 in
      let b = numbered v.held a k (ap (λ (n : Noted N). get_elem? n.held a) o.2 ∙ e) in
      let c = r.out j a k b.0 (v, o.1, b.1) in
      let d = c.1 in absurd (omega arith))
      (r.owner j w at)

  -- where a seat has a place after it took the piece k: the new place, or one that it had
  abbrev Late : List V → ℕ → ℕ → P → ℕ → ℕ → ℕ → P → Type 0
  Late views id k x j a m q = ((j ≡ id) × (a ≡ 0) × (m ≡ k) × (q ≡ x)) ⊎ ((b : ℕ) × Has views j b (m, q) × (((j ≡ id) × (a ≡ suc b)) ⊎ ((j ≢ id) × (a ≡ b))))

  late_here : (views : List V) (id k : ℕ) (v : V) (x : P) → get_elem? views id ≡ some v → (j a m : ℕ) (q : P) → j ≡ id → get_elem? ((k, x) ∷ v.held) a ≡ some (m, q) → Late views id k x j a m q
  late_here views id k v x at j zero m q is e = let p = some-injective (k, x) (m, q) e in inl (is, refl, (λ i. (sym p i).0), (λ i. (sym p i).1))
  late_here views id k v x at j (suc a) m q is e = inr (a, (v, ap (λ (z : ℕ). get_elem? views z) is ∙ at, e), inl (is, refl))

  late : (views : List V) (id k : ℕ) (v : V) (n : N) (x : P) → get_elem? views id ≡ some v → (j a m : ℕ) (q : P)
      → Has (set views id (turned v n ((k, x) ∷ v.held))) j a (m, q) → Late views id k x j a m q
  late views id k v n x at j a m q (w, there, e) = let new = turned v n ((k, x) ∷ v.held) in ⊎_elim
      (λ (t : (j ≡ id) × (new ≡ w)). late_here views id k v x at j a m q t.0 (ap (λ (u : V). get_elem? u.held a) t.1 ∙ e))
      (λ (t : (j ≢ id) × (get_elem? views j ≡ some w)). inr (a, (w, t.1, e), inr (t.0, refl)))
      (at_set views id j new w there)

  took_stands : (s : St) (r : Stands start total joint s) (id k : ℕ) (v : V) (n : N) → k < length s.homes → get_or s.words k 0 ≡ 0 → get_elem? s.views id ≡ some v → v.spent ≡ false
      → joint (latched (whole (drop (length s.homes) s.words) r.hub r.frames r.notes) id (known v) k n)
      → Stands start total joint record { words = set s.words k 1; homes = set s.homes k none; views = set s.views id (turned v n ((k, part_at r.hub r.frames k) ∷ v.held)) }
  took_stands s r id k v n l z at live j =
      let x = part_at r.hub r.frames k in
      let w = turned v n ((k, x) ∷ v.held) in
      let m = length s.homes in
      let wide = r.wide in
      let same_homes = length-set s.homes k none in
      let same_words = length-set s.words k 1 in
      let now : get_or (set s.words k 1) k 0 ≡ 1 = get_or-set_same s.words k 1 0 (omega arith) in
      let other : (i : ℕ) → i ≢ k → get_or (set s.words k 1) i 0 ≡ get_or s.words i 0 = λ i ne. get_or-set_other s.words k i 1 0 ne in
      let held : (i a b : ℕ) (p : P) → Has s.views i a (b, p) → b ≢ k = λ i a b p h e. let o = r.out i a b p h in let one = o.1 in let zero_there = ap (λ (y : ℕ). get_or s.words y 0) e ∙ z in absurd (omega arith) in
      let room = inside s.views id v at in
      record {
        hub = r.hub;
        frames = r.frames;
        notes = set r.notes id (noted n (k ∷ map number v.held));
        seated = seated_turn s.views r.notes id v n ((k, x) ∷ v.held) at live r.seated;
        count = same_homes ∙ r.count;
        wide = (let a = same_homes in let b = same_words in omega arith);
        bits = λ i h. dite (ℕ_discrete i k)
            (λ e. let q = ap (λ (y : ℕ). get_or (set s.words k 1) y 0) e ∙ now in omega arith)
            (λ ne. let q = other i ne in let b = r.bits i (omega arith) in omega arith);
        home = λ i h e0. dite (ℕ_discrete i k)
            (λ e. let q = ap (λ (y : ℕ). get_or (set s.words k 1) y 0) e ∙ now in absurd (omega arith))
            (λ ne. set_else s.homes k i none ne ∙ r.home i (omega arith) (sym (other i ne) ∙ e0));
        out = λ i a b p h. ⊎_elim
            (λ (t : (i ≡ id) × (a ≡ 0) × (b ≡ k) × (p ≡ x)). (
              (let e = t.2 in omega arith),
              ap (λ (y : ℕ). get_or (set s.words k 1) y 0) t.2 ∙ now,
              t.3 ∙ ap (λ (y : ℕ). part_at r.hub r.frames y) (sym t.2),
            ))
            (λ (t : (c : ℕ) × Has s.views i c (b, p) × (((i ≡ id) × (a ≡ suc c)) ⊎ ((i ≢ id) × (a ≡ c)))).
            let o = r.out i t.0 b p t.1 in ((let q = o.0 in omega arith), other b (held i t.0 b p t.1) ∙ o.1, o.2))
            (late s.views id k v n x at i a b p h);
        one = λ i1 i2 a1 a2 b p q h1 h2. ⊎_elim
            (λ (t : (i1 ≡ id) × (a1 ≡ 0) × (b ≡ k) × (p ≡ x)). ⊎_elim
            (λ (u : (i2 ≡ id) × (a2 ≡ 0) × (b ≡ k) × (q ≡ x)). (t.0 ∙ sym u.0, t.1 ∙ sym u.1))
            (λ (u : (c : ℕ) × Has s.views i2 c (b, q) × (((i2 ≡ id) × (a2 ≡ suc c)) ⊎ ((i2 ≢ id) × (a2 ≡ c)))). absurd (held i2 u.0 b q u.1 t.2))
            (late s.views id k v n x at i2 a2 b q h2))
            (λ (t : (c : ℕ) × Has s.views i1 c (b, p) × (((i1 ≡ id) × (a1 ≡ suc c)) ⊎ ((i1 ≢ id) × (a1 ≡ c)))). ⊎_elim
            (λ (u : (i2 ≡ id) × (a2 ≡ 0) × (b ≡ k) × (q ≡ x)). absurd (held i1 t.0 b p t.1 u.2))
            (λ (u : (c : ℕ) × Has s.views i2 c (b, q) × (((i2 ≡ id) × (a2 ≡ suc c)) ⊎ ((i2 ≢ id) × (a2 ≡ c)))).
            let g = r.one i1 i2 t.0 u.0 b p q t.1 u.1 in (g.0, places id i1 i2 t.0 u.0 a1 a2 g.0 g.1 t.2 u.2))
            (late s.views id k v n x at i2 a2 b q h2))
            (late s.views id k v n x at i1 a1 b p h1);
        gone = λ i h e1. dite (ℕ_discrete i k)
            (λ e. (id, 0, x, (w, set_here s.views id w room, λ t. some (sym e t, x))))
            (λ ne. let g = r.gone i (omega arith) (sym (other i ne) ∙ e1) in dite (ℕ_discrete g.0 id)
            (λ e. (id, suc g.1, g.2, (w, set_here s.views id w room, ap (λ (u : V). get_elem? u.held g.1) (one_place s.views id v g.3.0 at (ap (λ (y : ℕ). get_elem? s.views y) (sym e) ∙ g.3.1)) ∙ g.3.2)))
            (λ no. (g.0, g.1, g.2, (g.3.0, set_else s.views id g.0 w no ∙ g.3.1, g.3.2))));
        live = λ i u e alive. ⊎_elim
            (λ (t : (i ≡ id) × (w ≡ u)). ap (λ (y : ℕ). get_elem? (set r.notes id (known w)) y) t.0 ∙ (set_here r.notes id (known w) (inside r.notes id (known v) (r.live id v at live)) ∙ ap (λ (y : V). some (known y)) t.1))
            (λ (t : (i ≢ id) × (get_elem? s.views i ≡ some u)). set_else r.notes id i (known w) t.0 ∙ r.live i u t.1 alive)
            (at_set s.views id i w u e);
        owner = λ i y e. ⊎_elim
            (λ (t : (i ≡ id) × (known w ≡ y)). inr (w, ap (λ (q : ℕ). get_elem? (set s.views id w) q) t.0 ∙ set_here s.views id w room, t.1))
            (λ (t : (i ≢ id) × (get_elem? r.notes i ≡ some y)). ⊎_elim inl (λ (o : (u : V) × (get_elem? s.views i ≡ some u) × (known u ≡ y)). inr (o.0, set_else s.views id i w t.0 ∙ o.1, o.2)) (r.owner i y t.1))
            (at_set r.notes id i (known w) y e);
        kept = subst (λ (ws : List ℕ). joint (whole ws r.hub r.frames (set r.notes id (known w))))
            (sym (ap (λ (y : ℕ). drop y (set s.words k 1)) same_homes ∙ drop-set-lt m s.words k 1 l)) j;
      }

  pub latches : (may : Noted N → ℕ → Type 0) (told : Noted N → ℕ → P → N → Type 0) → LatchKeeps joint may told
      → (slots id k : ℕ) (me : Me P V) → k < slots → me.0.spent ≡ false → may (known me.0) k
      → Allows (Stands start total joint) slots id me k (λ n. either (eqb n 0) 1 n) (took told (step slots k 0 1 none) me)
  latches may told law slots id k me l live ask s r len at fits = dite (ℕ_discrete (get_or s.words k 0) 0)
      (λ z.
      let x = whole (drop (length s.homes) s.words) r.hub r.frames r.notes in
      let inner : k < length s.homes = omega arith in
      let count = r.count in
      let d = law x id (known me.0) k r.kept (r.live id me.0 at live) ask (fits_at r.hub r.frames k (omega arith)) (free_of s r k z) in
      let y = part_at r.hub r.frames k in
      let w = turned me.0 d.0 ((k, y) ∷ me.0.held) in (
        w,
        takes k y,
        r.home k inner z,
        subst (λ (m : ℕ). Stands start total joint record { words = set s.words k m; homes = set s.homes k none; views = set s.views id w })
            (sym (subst (λ (m : ℕ). either (eqb m 0) 1 m ≡ 1) (sym z) refl)) (took_stands s r id k me.0 d.0 inner z at live d.2),
        ((λ _. (y, d.0, refl, fits_at r.hub r.frames k (omega arith), d.1)), (λ no. absurd (no z))),
      ))
      (λ ne.
      let bit = r.bits k (omega arith) in
      let same : either (eqb (get_or s.words k 0) 0) 1 (get_or s.words k 0) ≡ get_or s.words k 0 = subst (λ (b : Bool). either b 1 (get_or s.words k 0) ≡ get_or s.words k 0) (sym (ne_eqb (get_or s.words k 0) 0 ne)) refl in (
        me.0,
        keeps,
        tt,
        subst (λ (m : ℕ). Stands start total joint (stepped s k m id me.1 me.0 keeps)) (sym same) (subst (Stands start total joint) (sym (same_state s id k me.0 me.1 at)) r),
        ((λ z. absurd (ne z)), (λ _. (refl, omega arith))),
      ))

  only_of : (s : St) (r : Stands start total joint s) (id k : ℕ) (v : V) (x : P) (held : List (ℕ × P)) → get_elem? s.views id ≡ some v → v.held ≡ (k, x) ∷ held → IsOnly id k (whole (drop (length s.homes) s.words) r.hub r.frames r.notes)
  only_of s r id k v x held at is j a w there e = ⊎_elim
      (λ (none_held : w.held ≡ []). absurd (some-ne-none k (sym e ∙ ap (λ l. get_elem? l a) none_held)))
      (λ (o : (u : V) × (get_elem? s.views j ≡ some u) × (known u ≡ w)).
      let b = numbered o.0.held a k (ap (λ (n : Noted N). get_elem? n.held a) o.2 ∙ e) in
      r.one j id a 0 k b.0 x (o.0, o.1, b.1) (v, at, ap (λ l. get_elem? l 0) is))
      (r.owner j w there)

  -- the pieces after one of them was put back
  put_here : (h : H) (fs : List F) (k : ℕ) (y : P) → k < suc (length fs) → Fits k y → part_at (hub_after h k y) (frames_after fs k y) k ≡ y
  put_here h fs zero (Hub g) l f = refl
  put_here h fs zero (Frame _) l f = elim f [ ]
  put_here h fs zero Gone l f = elim f [ ]
  put_here h fs (suc k) (Hub g) l ok = elim ok [ ]
  put_here h fs (suc k) Gone l ok = elim ok [ ]
  put_here h fs (suc k) (Frame f) l ok = ap frame_or (set_here fs k f (omega arith))

  put_else : (h : H) (fs : List F) (k i : ℕ) (y : P) → Fits k y → i ≢ k → part_at (hub_after h k y) (frames_after fs k y) i ≡ part_at h fs i
  put_else h fs zero zero (Hub g) f ne = absurd (ne refl)
  put_else h fs zero (suc i) (Hub g) f ne = refl
  put_else h fs zero zero (Frame _) f ne = elim f [ ]
  put_else h fs zero zero Gone f ne = elim f [ ]
  put_else h fs zero (suc i) (Frame _) f ne = elim f [ ]
  put_else h fs zero (suc i) Gone f ne = elim f [ ]
  put_else h fs (suc k) zero (Hub g) ok ne = elim ok [ ]
  put_else h fs (suc k) zero Gone ok ne = elim ok [ ]
  put_else h fs (suc k) (suc i) (Hub g) ok ne = elim ok [ ]
  put_else h fs (suc k) (suc i) Gone ok ne = elim ok [ ]
  put_else h fs (suc k) zero (Frame f) ok ne = refl
  put_else h fs (suc k) (suc i) (Frame f) ok ne = ap frame_or (set_else fs k i f (λ e. ne (ap suc e)))

  put_count : (fs : List F) (k : ℕ) (y : P) → length (frames_after fs k y) ≡ length fs
  put_count fs zero y = refl
  put_count fs (suc k) (Hub g) = refl
  put_count fs (suc k) (Frame f) = length-set fs k f
  put_count fs (suc k) Gone = refl

  -- where a seat had a place before it gave the piece k
  early : (views : List V) (id k : ℕ) (v : V) (n : N) (x : P) (rest : List (ℕ × P)) → get_elem? views id ≡ some v → v.held ≡ (k, x) ∷ rest → (j a m : ℕ) (q : P)
      → Has (set views id (turned v n rest)) j a (m, q) → (b : ℕ) × Has views j b (m, q) × (((j ≡ id) × (b ≡ suc a)) ⊎ ((j ≢ id) × (b ≡ a)))
  early views id k v n x rest at is j a m q (w, there, e) = let new = turned v n rest in ⊎_elim
      (λ (t : (j ≡ id) × (new ≡ w)). (suc a, (v, ap (λ (z : ℕ). get_elem? views z) t.0 ∙ at, ap (λ l. get_elem? l (suc a)) is ∙ (ap (λ (u : V). get_elem? u.held a) t.1 ∙ e)), inl (t.0, refl)))
      (λ (t : (j ≢ id) × (get_elem? views j ≡ some w)). (a, (w, t.1, e), inr (t.0, refl)))
      (at_set views id j new w there)

  later : (j id a b : ℕ) → (((j ≡ id) × (b ≡ suc a)) ⊎ ((j ≢ id) × (b ≡ a))) → (j ≡ id) × (b ≡ 0) → ⊥
  later j id a b (inl t) h = let x = t.1 in let y = h.1 in omega arith
  later j id a b (inr t) h = t.0 h.0

  gave_stands : (s : St) (r : Stands start total joint s) (id k : ℕ) (v : V) (n : N) (x y : P) (rest : List (ℕ × P)) → k < length s.homes → get_elem? s.views id ≡ some v → v.spent ≡ false
      → v.held ≡ (k, x) ∷ rest → Fits k y
      → joint (put (whole (drop (length s.homes) s.words) r.hub r.frames r.notes) id (map number rest) k y n)
      → Stands start total joint record { words = set s.words k 0; homes = set s.homes k (some y); views = set s.views id (turned v n rest) }
  gave_stands s r id k v n x y rest l at live is fit j =
      let w = turned v n rest in
      let m = length s.homes in
      let wide = r.wide in
      let count = r.count in
      let same_homes = length-set s.homes k (some y) in
      let same_words = length-set s.words k 0 in
      let now : get_or (set s.words k 0) k 0 ≡ 0 = get_or-set_same s.words k 0 0 (omega arith) in
      let other : (i : ℕ) → i ≢ k → get_or (set s.words k 0) i 0 ≡ get_or s.words i 0 = λ i ne. get_or-set_other s.words k i 0 0 ne in
      let room = inside s.views id v at in
      let had : Has s.views id 0 (k, x) = (v, at, ap (λ l. get_elem? l 0) is) in
      let apart : (i a b : ℕ) (p : P) → Has s.views i a (b, p) → ¬ ((i ≡ id) × (a ≡ 0)) → b ≢ k = λ i a b p h no e.
      no (let g = r.one i id a 0 b p x h (v, at, ap (λ l. get_elem? l 0) is ∙ (λ t. some (sym e t, x))) in g) in
      record {
        hub = hub_after r.hub k y;
        frames = frames_after r.frames k y;
        notes = set r.notes id (noted n (map number rest));
        seated = seated_turn s.views r.notes id v n rest at live r.seated;
        count = same_homes ∙ (r.count ∙ ap suc (sym (put_count r.frames k y)));
        wide = (let a = same_homes in let b = same_words in omega arith);
        bits = λ i h. dite (ℕ_discrete i k)
            (λ e. let q = ap (λ (z : ℕ). get_or (set s.words k 0) z 0) e ∙ now in omega arith)
            (λ ne. let q = other i ne in let b = r.bits i (omega arith) in omega arith);
        home = λ i h e0. dite (ℕ_discrete i k)
            (λ e. ap (λ (z : ℕ). get_elem? (set s.homes k (some y)) z) e ∙ (set_here s.homes k (some y) l ∙ ap (λ (z : P). some (some z)) (sym (put_here r.hub r.frames k y (omega arith) fit) ∙ ap (λ (z : ℕ). part_at (hub_after r.hub k y) (frames_after r.frames k y) z) (sym e))))
            (λ ne. set_else s.homes k i (some y) ne ∙ (r.home i (omega arith) (sym (other i ne) ∙ e0) ∙ ap (λ (z : P). some (some z)) (sym (put_else r.hub r.frames k i y fit ne))));
        out = λ i a b p h.
            let t = early s.views id k v n x rest at is i a b p h in
            let o = r.out i t.0 b p t.1 in
            let ne = apart i t.0 b p t.1 (later i id a t.0 t.2) in
            ((let q = o.0 in omega arith), other b ne ∙ o.1, o.2 ∙ sym (put_else r.hub r.frames k b y fit ne));
        one = λ i1 i2 a1 a2 b p q h1 h2.
            let t = early s.views id k v n x rest at is i1 a1 b p h1 in
            let u = early s.views id k v n x rest at is i2 a2 b q h2 in
            let g = r.one i1 i2 t.0 u.0 b p q t.1 u.1 in (g.0, back_places id i1 i2 t.0 u.0 a1 a2 g.0 g.1 t.2 u.2);
        gone = λ i h e1. dite (ℕ_discrete i k)
            (λ e. let q = ap (λ (z : ℕ). get_or (set s.words k 0) z 0) e ∙ now in absurd (omega arith))
            (λ ne. let g = r.gone i (omega arith) (sym (other i ne) ∙ e1) in dite (ℕ_discrete g.0 id)
            (λ e. let f = ap (λ (u : V). get_elem? u.held g.1) (one_place s.views id v g.3.0 at (ap (λ (z : ℕ). get_elem? s.views z) (sym e) ∙ g.3.1)) ∙ g.3.2 in
            let d = not_first k x rest i g.1 g.2 ne (ap (λ l. get_elem? l g.1) (sym is) ∙ f) in (id, d.0, g.2, (w, set_here s.views id w room, d.1)))
            (λ no. (g.0, g.1, g.2, (g.3.0, set_else s.views id g.0 w no ∙ g.3.1, g.3.2))));
        live = λ i u e alive. ⊎_elim
            (λ (t : (i ≡ id) × (w ≡ u)). ap (λ (z : ℕ). get_elem? (set r.notes id (known w)) z) t.0 ∙ (set_here r.notes id (known w) (inside r.notes id (known v) (r.live id v at live)) ∙ ap (λ (z : V). some (known z)) t.1))
            (λ (t : (i ≢ id) × (get_elem? s.views i ≡ some u)). set_else r.notes id i (known w) t.0 ∙ r.live i u t.1 alive)
            (at_set s.views id i w u e);
        owner = λ i z e. ⊎_elim
            (λ (t : (i ≡ id) × (known w ≡ z)). inr (w, ap (λ (q : ℕ). get_elem? (set s.views id w) q) t.0 ∙ set_here s.views id w room, t.1))
            (λ (t : (i ≢ id) × (get_elem? r.notes i ≡ some z)). ⊎_elim inl (λ (o : (u : V) × (get_elem? s.views i ≡ some u) × (known u ≡ z)). inr (o.0, set_else s.views id i w t.0 ∙ o.1, o.2)) (r.owner i z t.1))
            (at_set r.notes id i (known w) z e);
        kept = subst (λ (ws : List ℕ). joint (whole ws (hub_after r.hub k y) (frames_after r.frames k y) (set r.notes id (known w))))
            (sym (ap (λ (z : ℕ). drop z (set s.words k 0)) same_homes ∙ drop-set-lt m s.words k 0 l)) j;
      }

  pub puts_back : (puts : Noted N → ℕ → P → P → N → Type 0) → PutKeeps joint puts
      → (slots id k : ℕ) (me : Me P V) (x y : P) (held out : List (ℕ × P)) (n : N) → k < slots → me.0.spent ≡ false → me.0.held ≡ (k, x) ∷ held → me.1 ≡ (k, y) ∷ out → Fits k y → puts (known me.0) k x y n
      → Allows (Stands start total joint) slots id me k (λ _. 0) (λ _. gave puts (step slots k 0 0 none) me 0)
  puts_back puts law slots id k me x y held out n l live is mine fit p s r len at fits =
      let W = whole (drop (length s.homes) s.words) r.hub r.frames r.notes in
      let inner : k < length s.homes = omega arith in
      let count = r.count in
      let o = r.out id 0 k x (me.0, at, ap (λ l. get_elem? l 0) is) in
      let here : x ≡ part_at r.hub r.frames k = o.2 in
      let j = law W id (known me.0) k (map number held) y n r.kept (r.live id me.0 at live) (ap (λ (l : List (ℕ × P)). map number l) is) (only_of s r id k me.0 x held at is) (fits_at r.hub r.frames k (omega arith)) fit
      (subst (λ (z : P). puts (known me.0) k z y n) here p) in
      let w = turned me.0 n held in (
        w,
        gives,
        tt,
        subst (λ (hs : List (Option P)). Stands start total joint record { words = set s.words k 0; homes = hs; views = set s.views id w })
            (ap (λ (c : List (ℕ × P)). Rattle.atomic_table.specs.Table.put_back s.homes c) (sym mine))
            (gave_stands s r id k me.0 n x y held inner at live is fit j),
        λ x' y' held' out' is' mine'.
            let a = same_head (sym is ∙ is') in
            let b = same_head (sym mine ∙ mine') in
            (n, (λ i. (turned me.0 n (a.1 i), (ap Rattle.atomic_table.specs.Table.rest mine' i))), subst (λ (z : P). puts (known me.0) k z y' n) a.0 (subst (λ (z : P). puts (known me.0) k x z n) b.0 p)),
      )

  same_had : (views : List V) (id : ℕ) (v : V) (n : N) → get_elem? views id ≡ some v → (j a : ℕ) (x : ℕ × P) → Has (set views id (turned v n v.held)) j a x → Has views j a x
  same_had views id v n at j a x (w, there, e) = let new = turned v n v.held in ⊎_elim
      (λ (t : (j ≡ id) × (new ≡ w)). (v, ap (λ (z : ℕ). get_elem? views z) t.0 ∙ at, ap (λ (u : V). get_elem? u.held a) t.1 ∙ e))
      (λ (t : (j ≢ id) × (get_elem? views j ≡ some w)). (w, t.1, e))
      (at_set views id j new w there)

  same_has : (views : List V) (id : ℕ) (v : V) (n : N) → get_elem? views id ≡ some v → (j a : ℕ) (x : ℕ × P) → Has views j a x → Has (set views id (turned v n v.held)) j a x
  same_has views id v n at j a x (w, there, e) = let new = turned v n v.held in dite (ℕ_discrete j id)
      (λ is. (new, ap (λ (z : ℕ). get_elem? (set views id new) z) is ∙ set_here views id new (inside views id v at), ap (λ (u : V). get_elem? u.held a) (one_place views id v w at (ap (λ (z : ℕ). get_elem? views z) (sym is) ∙ there)) ∙ e))
      (λ ne. (w, set_else views id j new ne ∙ there, e))

  turned_stands : (s : St) (r : Stands start total joint s) (id i b : ℕ) (v : V) (n : N) → length s.homes ≤ i → get_elem? s.views id ≡ some v → v.spent ≡ false
      → joint (whole (drop (length s.homes) (set s.words i b)) r.hub r.frames (set r.notes id (noted n (map number v.held))))
      → Stands start total joint record { words = set s.words i b; homes = s.homes; views = set s.views id (turned v n v.held) }
  turned_stands s r id i b v n l at live j =
      let w = turned v n v.held in
      let wide = r.wide in
      let same_words = length-set s.words i b in
      let other : (k : ℕ) → k < length s.homes → get_or (set s.words i b) k 0 ≡ get_or s.words k 0 = λ k h. get_or-set_other s.words i k b 0 (λ e. omega arith) in
      let room = inside s.views id v at in
      record {
        hub = r.hub;
        frames = r.frames;
        notes = set r.notes id (known w);
        seated = seated_turn s.views r.notes id v n v.held at live r.seated;
        count = r.count;
        wide = (let c = same_words in omega arith);
        bits = λ k h. let q = other k h in let c = r.bits k h in omega arith;
        home = λ k h e0. r.home k h (sym (other k h) ∙ e0);
        out = λ k a c p h. let o = r.out k a c p (same_had s.views id v n at k a (c, p) h) in (o.0, other c o.0 ∙ o.1, o.2);
        one = λ i1 i2 a1 a2 c p q h1 h2. r.one i1 i2 a1 a2 c p q (same_had s.views id v n at i1 a1 (c, p) h1) (same_had s.views id v n at i2 a2 (c, q) h2);
        gone = λ k h e1. let g = r.gone k h (sym (other k h) ∙ e1) in (g.0, g.1, g.2, same_has s.views id v n at g.0 g.1 (k, g.2) g.3);
        live = λ k u e alive. ⊎_elim
            (λ (t : (k ≡ id) × (w ≡ u)). ap (λ (z : ℕ). get_elem? (set r.notes id (known w)) z) t.0 ∙ (set_here r.notes id (known w) (inside r.notes id (known v) (r.live id v at live)) ∙ ap (λ (z : V). some (known z)) t.1))
            (λ (t : (k ≢ id) × (get_elem? s.views k ≡ some u)). set_else r.notes id k (known w) t.0 ∙ r.live k u t.1 alive)
            (at_set s.views id k w u e);
        owner = λ k z e. ⊎_elim
            (λ (t : (k ≡ id) × (known w ≡ z)). inr (w, ap (λ (q : ℕ). get_elem? (set s.views id w) q) t.0 ∙ set_here s.views id w room, t.1))
            (λ (t : (k ≢ id) × (get_elem? r.notes k ≡ some z)). ⊎_elim inl (λ (o : (u : V) × (get_elem? s.views k ≡ some u) × (known u ≡ z)). inr (o.0, set_else s.views id k w t.0 ∙ o.1, o.2)) (r.owner k z t.1))
            (at_set r.notes id k (known w) z e);
        kept = j;
      }

  pub turns_word : (finds : Noted N → ℕ → ℕ → Type 0) (turns : Noted N → ℕ → ℕ → ℕ → N → Type 0) → FindHolds joint finds → TurnKeeps joint turns
      → (slots id i j : ℕ) (me : Me P V) (f : ℕ → ℕ) (then : ℕ → Me P V → Type 0) → i ≡ slots + j → me.0.spent ≡ false → ((r : ℕ) → r < 2 ^ 64 → finds (known me.0) j r → (n : N) × turns (known me.0) j r (f r) n)
      → ((r : ℕ) (n : N) → finds (known me.0) j r → turns (known me.0) j r (f r) n → then r (turned me.0 n me.0.held, me.1))
      → Allows (Stands start total joint) slots id me i f then
  turns_word finds turns here law slots id i j me f then is live may tells s r len at fits =
      let b = get_or s.words i 0 in
      let m = length s.homes in
      let W = whole (drop m s.words) r.hub r.frames r.notes in
      let place : m + j ≡ i = omega arith in
      let found : get_or (drop m s.words) j 0 ≡ b = get_or-drop m s.words j 0 ∙ ap (λ (z : ℕ). get_or s.words z 0) place in
      let sees : finds (known me.0) j b = subst (λ (z : ℕ). finds (known me.0) j z) found (here W id (known me.0) j r.kept (r.live id me.0 at live)) in
      let d = may b fits sees in
      let k = law W id (known me.0) j (f b) d.0 r.kept (r.live id me.0 at live) (subst (λ (z : ℕ). turns (known me.0) j z (f b) d.0) (sym found) d.1) in
      let written : drop m (set s.words i (f b)) ≡ set (drop m s.words) j (f b) = ap (λ (z : ℕ). drop m (set s.words z (f b))) (sym place) ∙ drop-set-add m s.words j (f b) in (
        turned me.0 d.0 me.0.held,
        keeps,
        tt,
        turned_stands s r id i (f b) me.0 d.0 (omega arith) at live (subst (λ (ws : List ℕ). joint (whole ws r.hub r.frames (set r.notes id (noted d.0 (map number me.0.held))))) (sym written) k),
        tells b d.0 sees d.1,
      )

  pub moves : (finds : Noted N → ℕ → ℕ → Type 0) (turns : Noted N → ℕ → ℕ → ℕ → N → Type 0) → FindHolds joint finds → TurnKeeps joint turns
      → (id j : ℕ) (me : Me P V) (st : Step P) (after : Step P → ℕ → ℕ) → st.word ≡ st.slots + j → me.0.spent ≡ false → ((r : ℕ) → r < 2 ^ 64 → finds (known me.0) j r → (n : N) × turns (known me.0) j r (after st r) n)
      → Allows (Stands start total joint) st.slots id me st.word (after st) (moved finds turns after st me)
  moves finds turns here law id j me st after is live may =
      let back : j ≡ st.word - st.slots = omega arith in
      turns_word finds turns here law st.slots id st.word j me (after st) (moved finds turns after st me) is live may
      (λ r n h t. (n, refl, subst (λ (w : ℕ). finds (known me.0) w r) back h, subst (λ (w : ℕ). turns (known me.0) w r (after st r) n) back t))
