-- How seats are made at the start, and how one takes in the others at the end.
use Rattle.std.proofs.Common.{◌≡◌, ◌⊎◌, ◌≢◌, ℕ, zero, suc, ◌<◌, Bool, true, false, List, [], ◌∷◌, ◌++◌, map, length, get_or, drop, set, sym, refl, ap, ◌∙◌, subst, inl, inr, ⊎_elim, arith, length-set}
use mathlib.Core.Logic.{dite}
use mathlib.Core.Option.{some, some-injective, some-ne-none}
use native.Mathlib.Decide.{ℕ_discrete}
use lib.ListN.{get_elem?}
use Rattle.std.proofs.lemmas.List.{length-append}
use Rattle.atomic_table.specs.Table.{State, Splits, Joins, Final, Seen}
use Rattle.atomic_table.proofs.Lists.{at_set, set_here, set_else, at_longer, at_last}
use Rattle.pool_law.specs.declared.part.Part.{Part}
use Rattle.pool_law.specs.Whole.{Noted, noted, part_at, Whole, whole}
use Rattle.latch_table.specs.declared.view.View.{View}
use Rattle.latch_table.specs.Rule.{number, known, Has, Stands, maker, next_seat, gathering, gone_seat}
use Rattle.latch_table.specs.Seats.{Covers, Leaves}
use Rattle.latch_table.proofs.Keeps.{inside, false_true}

still : (b : Bool) → (b ≡ true → ⊥) → b ≡ false
still true n = absurd (n refl)
still false n = refl

module _ {A : Type 0} where
  pub at_end : (l : List A) (a b : A) (j : ℕ) → get_elem? (l ++ a ∷ []) j ≡ some b → (get_elem? l j ≡ some b) ⊎ ((j ≡ length l) × (a ≡ b))
  at_end [] a b zero e = inr (refl, some-injective a b e)
  at_end [] a b (suc j) e = absurd (some-ne-none b (sym e))
  at_end (x ∷ xs) a b zero e = inl e
  at_end (x ∷ xs) a b (suc j) e = ⊎_elim inl (λ (t : (j ≡ length xs) × (a ≡ b)). inr (ap suc t.0, t.1)) (at_end xs a b j e)

module _ {H F N : Type 0} (start : ℕ → N) (bygone : N) (total : ℕ) (joint : Whole H F N → Type 0) where
  abbrev V : Type 0
  V = View H F N

  abbrev St : Type 0
  St = State (Part H F) V

  abbrev more : List V → V → List V
  more views v = set views 0 (maker v) ++ next_seat start v ∷ []

  seat_of : (views : List V) (v : V) → get_elem? views 0 ≡ some v → (j : ℕ) (u : V) → get_elem? (more views v) j ≡ some u
      → ((j ≡ 0) × (u ≡ maker v)) ⊎ (((j ≢ 0) × (get_elem? views j ≡ some u)) ⊎ ((j ≡ length views) × (u ≡ next_seat start v)))
  seat_of views v at j u e = ⊎_elim
      (λ (g : get_elem? (set views 0 (maker v)) j ≡ some u). ⊎_elim (λ (t : (j ≡ 0) × (maker v ≡ u)). inl (t.0, sym t.1)) (λ t. inr (inl t)) (at_set views 0 j (maker v) u g))
      (λ (t : (j ≡ length (set views 0 (maker v))) × (next_seat start v ≡ u)). inr (inr (t.0 ∙ length-set views 0 (maker v), sym t.1)))
      (at_end (set views 0 (maker v)) (next_seat start v) u j e)

  had : (views : List V) (v : V) → get_elem? views 0 ≡ some v → (j a : ℕ) (x : ℕ × Part H F) → Has (more views v) j a x → Has views j a x
  had views v at j a x (u, there, e) = ⊎_elim
      (λ (t : (j ≡ 0) × (u ≡ maker v)). (v, ap (λ (z : ℕ). get_elem? views z) t.0 ∙ at, ap (λ (y : V). get_elem? y.held a) (sym t.1) ∙ e))
      (λ s. ⊎_elim (λ (t : (j ≢ 0) × (get_elem? views j ≡ some u)). (u, t.1, e)) (λ (t : (j ≡ length views) × (u ≡ next_seat start v)). absurd (some-ne-none x (sym e ∙ ap (λ (y : V). get_elem? y.held a) t.1))) s)
      (seat_of views v at j u there)

  kept_at : (views : List V) (v : V) (j : ℕ) (u : V) → get_elem? views 0 ≡ some v → get_elem? views j ≡ some u → (w : V) × (get_elem? (more views v) j ≡ some w) × (known w ≡ known u) × (w.held ≡ u.held) × (w.spent ≡ u.spent)
  kept_at views v j u at e = dite (ℕ_discrete j 0)
      (λ z. let same : v ≡ u = some-injective v u (sym at ∙ (ap (λ (y : ℕ). get_elem? views y) (sym z) ∙ e)) in
      (maker v, at_longer (set views 0 (maker v)) (next_seat start v ∷ []) j (maker v) (ap (λ (y : ℕ). get_elem? (set views 0 (maker v)) y) z ∙ set_here views 0 (maker v) (inside views 0 v at)), ap known same, ap (λ (y : V). y.held) same, ap (λ (y : V). y.spent) same))
      (λ ne. (u, at_longer (set views 0 (maker v)) (next_seat start v ∷ []) j u (set_else views 0 j (maker v) ne ∙ e), refl, refl, refl))

  pub forks : (v : V) → v.spent ≡ false → v.made < total → Splits (Stands start total joint) 0 v (maker v) (next_seat start v)
  forks v live room s r at =
      let d = r.seated in
      let now = d.made v at live in
      let long : length (more s.views v) ≡ suc (length s.views) = length-append (set s.views 0 (maker v)) (next_seat start v ∷ []) ∙ (let a = length-set s.views 0 (maker v) in omega arith) in
      let last = at_last (set s.views 0 (maker v)) (next_seat start v) (length s.views) (length-set s.views 0 (maker v)) in
      record {
        hub = r.hub;
        frames = r.frames;
        notes = r.notes;
        count = r.count;
        wide = r.wide;
        bits = r.bits;
        home = r.home;
        out = λ j a k p h. r.out j a k p (had s.views v at j a (k, p) h);
        one = λ i j a b k p q h g. r.one i j a b k p q (had s.views v at i a (k, p) h) (had s.views v at j b (k, q) g);
        gone = λ k h e. let g = r.gone k h e in let w = kept_at s.views v g.0 g.3.0 at g.3.1 in (g.0, g.1, g.2, (w.0, w.1, ap (λ (l : List (ℕ × Part H F)). get_elem? l g.1) w.3 ∙ g.3.2));
        live = λ j u e alive. ⊎_elim
            (λ (t : (j ≡ 0) × (u ≡ maker v)). ap (λ (z : ℕ). get_elem? r.notes z) t.0 ∙ (r.live 0 v at live ∙ ap (λ (y : V). some (known y)) (sym t.1)))
            (λ m. ⊎_elim (λ (t : (j ≢ 0) × (get_elem? s.views j ≡ some u)). r.live j u t.1 alive)
            (λ (t : (j ≡ length s.views) × (u ≡ next_seat start v)). ap (λ (z : ℕ). get_elem? r.notes z) t.0 ∙ (d.waiting (length s.views) (omega arith) (omega arith) ∙ (ap (λ (z : ℕ). some (noted (start z) [])) (sym now) ∙ ap (λ (y : V). some (known y)) (sym t.1)))) m)
            (seat_of s.views v at j u e);
        owner = λ j w e. ⊎_elim inl (λ (o : (u : V) × (get_elem? s.views j ≡ some u) × (known u ≡ w)). let k = kept_at s.views v j o.0 at o.1 in inr (k.0, k.1, k.2 ∙ o.2)) (r.owner j w e);
        seated = record {
          total = d.total;
          few = omega arith;
          made = λ u e alive. let is = some-injective (maker v) u (sym (at_longer (set s.views 0 (maker v)) (next_seat start v ∷ []) 0 (maker v) (set_here s.views 0 (maker v) (inside s.views 0 v at))) ∙ e) in ap (λ (y : V). y.made) (sym is) ∙ (let a : v.made ≡ length s.views = now in omega arith);
          numbered = λ j u e alive. ⊎_elim
              (λ (t : (j ≡ 0) × (u ≡ maker v)). ap (λ (y : V). y.seat) t.1 ∙ (d.numbered 0 v at live ∙ sym t.0))
              (λ m. ⊎_elim (λ (t : (j ≢ 0) × (get_elem? s.views j ≡ some u)). d.numbered j u t.1 alive) (λ (t : (j ≡ length s.views) × (u ≡ next_seat start v)). ap (λ (y : V). y.seat) t.1 ∙ (now ∙ sym t.0)) m)
              (seat_of s.views v at j u e);
          idle = λ j u e gone. ⊎_elim
              (λ (t : (j ≡ 0) × (u ≡ maker v)). absurd (false_true (sym live ∙ (ap (λ (y : V). y.spent) (sym t.1) ∙ gone))))
              (λ m. ⊎_elim (λ (t : (j ≢ 0) × (get_elem? s.views j ≡ some u)). d.idle j u t.1 gone) (λ (t : (j ≡ length s.views) × (u ≡ next_seat start v)). ap (λ (y : V). y.held) t.1) m)
              (seat_of s.views v at j u e);
          waiting = λ j l h. d.waiting j (omega arith) h;
          gathered = λ i u a j m e g.
              let old = ⊎_elim
              (λ (t : (i ≡ 0) × (u ≡ maker v)). d.gathered 0 v a j m at (ap (λ (y : V). get_elem? y.gathered a) (sym t.1) ∙ g))
              (λ o. ⊎_elim (λ (t : (i ≢ 0) × (get_elem? s.views i ≡ some u)). d.gathered i u a j m t.1 g) (λ (t : (i ≡ length s.views) × (u ≡ next_seat start v)). absurd (some-ne-none (j, m) (sym g ∙ ap (λ (y : V). get_elem? y.gathered a) t.1))) o)
              (seat_of s.views v at i u e) in
              let b = old.0 in (
                omega arith,
                old.1,
                λ y f. ⊎_elim
                    (λ (t : (j ≡ 0) × (y ≡ maker v)). ap (λ (q : V). q.spent) t.1 ∙ old.2 v (ap (λ (z : ℕ). get_elem? s.views z) t.0 ∙ at))
                    (λ o. ⊎_elim (λ (t : (j ≢ 0) × (get_elem? s.views j ≡ some y)). old.2 y t.1) (λ (t : (j ≡ length s.views) × (y ≡ next_seat start v)). absurd (let c = t.0 in omega arith)) o)
                    (seat_of s.views v at j y f),
              );
        };
        kept = r.kept;
      }

  -- the seats after one of them took in another
  abbrev fewer : List V → ℕ → V → ℕ → V → List V
  fewer views id v other w = set (set views id (gathering v w)) other (gone_seat bygone)

  left_of : (views : List V) (id other : ℕ) (v w : V) → (j : ℕ) (u : V) → get_elem? (fewer views id v other w) j ≡ some u
      → ((j ≡ other) × (u ≡ gone_seat bygone)) ⊎ (((j ≡ id) × (u ≡ gathering v w)) ⊎ ((j ≢ id) × (j ≢ other) × (get_elem? views j ≡ some u)))
  left_of views id other v w j u e = ⊎_elim
      (λ (t : (j ≡ other) × (gone_seat bygone ≡ u)). inl (t.0, sym t.1))
      (λ (t : (j ≢ other) × (get_elem? (set views id (gathering v w)) j ≡ some u)). ⊎_elim
      (λ (q : (j ≡ id) × (gathering v w ≡ u)). inr (inl (q.0, sym q.1)))
      (λ (q : (j ≢ id) × (get_elem? views j ≡ some u)). inr (inr (q.0, t.0, q.1)))
      (at_set views id j (gathering v w) u t.1))
      (at_set (set views id (gathering v w)) other j (gone_seat bygone) u e)

  split_at : {A : Type 0} (xs ys : List A) (a : ℕ) (x : A) → get_elem? (xs ++ ys) a ≡ some x → (get_elem? xs a ≡ some x) ⊎ ((b : ℕ) × (get_elem? ys b ≡ some x))
  split_at [] ys a x e = inr (a, e)
  split_at (y ∷ xs) ys zero x e = inl e
  split_at (y ∷ xs) ys (suc a) x e = split_at xs ys a x e

  places : (k : ℕ) (n : N) (xs ys : List (ℕ × N)) (P : Type 0) (b j : ℕ) (m : N) → get_elem? ((k, n) ∷ (xs ++ ys)) b ≡ some (j, m) → (◌≡◌ {A = ℕ × N} (k, n) (j, m) → P) → ((c : ℕ) → get_elem? xs c ≡ some (j, m) → P) → ((c : ℕ) → get_elem? ys c ≡ some (j, m) → P) → P
  places k n xs ys P zero j m g f x y = f (some-injective (k, n) (j, m) g)
  places k n xs ys P (suc b) j m g f x y = ⊎_elim (x b) (λ (t : (c : ℕ) × (get_elem? ys c ≡ some (j, m))). y t.0 t.1) (split_at xs ys b (j, m) g)

  pub absorbs : (id other : ℕ) (v w : V) → v.spent ≡ false → w.spent ≡ false → w.held ≡ [] → Joins (Stands start total joint) id v other w (gathering v w) (gone_seat bygone)
  absorbs id other v w live alive none_held s r at apart there0 =
      let d = r.seated in
      let there : get_elem? s.views other ≡ some w = sym (set_else s.views id other (gathering v w) apart) ∙ there0 in
      let long : length (fewer s.views id v other w) ≡ length s.views = length-set (set s.views id (gathering v w)) other (gone_seat bygone) ∙ length-set s.views id (gathering v w) in
      let at_id : get_elem? (fewer s.views id v other w) id ≡ some (gathering v w) = set_else (set s.views id (gathering v w)) other id (gone_seat bygone) (λ e. apart (sym e)) ∙ set_here s.views id (gathering v w) (inside s.views id v at) in
      let had' : (j a : ℕ) (x : ℕ × Part H F) → Has (fewer s.views id v other w) j a x → Has s.views j a x = λ j a x h. ⊎_elim
      (λ (t : (j ≡ other) × (h.0 ≡ gone_seat bygone)). absurd (some-ne-none x (sym h.2 ∙ ap (λ (y : V). get_elem? y.held a) t.1)))
      (λ o. ⊎_elim
      (λ (t : (j ≡ id) × (h.0 ≡ gathering v w)). (v, ap (λ (z : ℕ). get_elem? s.views z) t.0 ∙ at, ap (λ (y : V). get_elem? y.held a) (sym t.1) ∙ h.2))
      (λ (t : (j ≢ id) × (j ≢ other) × (get_elem? s.views j ≡ some h.0)). (h.0, t.2, h.2)) o)
      (left_of s.views id other v w j h.0 h.1) in
      let has' : (j a : ℕ) (x : ℕ × Part H F) → Has s.views j a x → Has (fewer s.views id v other w) j a x = λ j a x h. dite (ℕ_discrete j other)
      (λ e. let same = some-injective w h.0 (sym there ∙ (ap (λ (z : ℕ). get_elem? s.views z) (sym e) ∙ h.1)) in absurd (some-ne-none x (sym h.2 ∙ (ap (λ (y : V). get_elem? y.held a) (sym same) ∙ ap (λ (l : List (ℕ × Part H F)). get_elem? l a) none_held))))
      (λ ne. dite (ℕ_discrete j id)
      (λ e. let same = some-injective v h.0 (sym at ∙ (ap (λ (z : ℕ). get_elem? s.views z) (sym e) ∙ h.1)) in (gathering v w, ap (λ (z : ℕ). get_elem? (fewer s.views id v other w) z) e ∙ at_id, ap (λ (y : V). get_elem? y.held a) same ∙ h.2))
      (λ no. (h.0, set_else (set s.views id (gathering v w)) other j (gone_seat bygone) ne ∙ (set_else s.views id j (gathering v w) no ∙ h.1), h.2))) in
      record {
        hub = r.hub;
        frames = r.frames;
        notes = r.notes;
        count = r.count;
        wide = r.wide;
        bits = r.bits;
        home = r.home;
        out = λ j a k p h. r.out j a k p (had' j a (k, p) h);
        one = λ i j a b k p q h g. r.one i j a b k p q (had' i a (k, p) h) (had' j b (k, q) g);
        gone = λ k h e. let g = r.gone k h e in (g.0, g.1, g.2, has' g.0 g.1 (k, g.2) g.3);
        live = λ j u e ok. ⊎_elim
            (λ (t : (j ≡ other) × (u ≡ gone_seat bygone)). absurd (false_true (sym ok ∙ ap (λ (y : V). y.spent) t.1)))
            (λ o. ⊎_elim
            (λ (t : (j ≡ id) × (u ≡ gathering v w)). ap (λ (z : ℕ). get_elem? r.notes z) t.0 ∙ (r.live id v at live ∙ ap (λ (y : V). some (known y)) (sym t.1)))
            (λ (t : (j ≢ id) × (j ≢ other) × (get_elem? s.views j ≡ some u)). r.live j u t.2 ok) o)
            (left_of s.views id other v w j u e);
        owner = λ j y e. ⊎_elim inl
            (λ (o : (u : V) × (get_elem? s.views j ≡ some u) × (known u ≡ y)). dite (ℕ_discrete j other)
            (λ is. let same = some-injective w o.0 (sym there ∙ (ap (λ (z : ℕ). get_elem? s.views z) (sym is) ∙ o.1)) in inl (sym (ap (λ (n : Noted N). n.held) o.2) ∙ (ap (λ (q : V). map number q.held) (sym same) ∙ ap (λ (l : List (ℕ × Part H F)). map number l) none_held)))
            (λ ne. dite (ℕ_discrete j id)
            (λ is. let same = some-injective v o.0 (sym at ∙ (ap (λ (z : ℕ). get_elem? s.views z) (sym is) ∙ o.1)) in inr (gathering v w, ap (λ (z : ℕ). get_elem? (fewer s.views id v other w) z) is ∙ at_id, ap known same ∙ o.2))
            (λ no. inr (o.0, set_else (set s.views id (gathering v w)) other j (gone_seat bygone) ne ∙ (set_else s.views id j (gathering v w) no ∙ o.1), o.2))))
            (r.owner j y e);
        seated = record {
          total = d.total;
          few = (let a = d.few in let b = long in omega arith);
          made = λ u e ok. ⊎_elim
              (λ (t : (0 ≡ other) × (u ≡ gone_seat bygone)). absurd (false_true (sym ok ∙ ap (λ (y : V). y.spent) t.1)))
              (λ o. ⊎_elim
              (λ (t : (0 ≡ id) × (u ≡ gathering v w)). ap (λ (y : V). y.made) t.1 ∙ (d.made v (ap (λ (z : ℕ). get_elem? s.views z) t.0 ∙ at) live ∙ sym long))
              (λ (t : (0 ≢ id) × (0 ≢ other) × (get_elem? s.views 0 ≡ some u)). d.made u t.2 ok ∙ sym long) o)
              (left_of s.views id other v w 0 u e);
          numbered = λ j u e ok. ⊎_elim
              (λ (t : (j ≡ other) × (u ≡ gone_seat bygone)). absurd (false_true (sym ok ∙ ap (λ (y : V). y.spent) t.1)))
              (λ o. ⊎_elim
              (λ (t : (j ≡ id) × (u ≡ gathering v w)). ap (λ (y : V). y.seat) t.1 ∙ (d.numbered id v at live ∙ sym t.0))
              (λ (t : (j ≢ id) × (j ≢ other) × (get_elem? s.views j ≡ some u)). d.numbered j u t.2 ok) o)
              (left_of s.views id other v w j u e);
          idle = λ j u e gone. ⊎_elim
              (λ (t : (j ≡ other) × (u ≡ gone_seat bygone)). ap (λ (y : V). y.held) t.1)
              (λ o. ⊎_elim
              (λ (t : (j ≡ id) × (u ≡ gathering v w)). absurd (false_true (sym live ∙ (ap (λ (y : V). y.spent) (sym t.1) ∙ gone))))
              (λ (t : (j ≢ id) × (j ≢ other) × (get_elem? s.views j ≡ some u)). d.idle j u t.2 gone) o)
              (left_of s.views id other v w j u e);
          waiting = λ j l h. d.waiting j (let a = long in omega arith) h;
          gathered = λ i u a j m e g.
              let Old : Type 0 = (j < length s.views) × (get_elem? r.notes j ≡ some (noted m [])) × ((j ≡ other) ⊎ ((j ≢ id) × ((y : V) → get_elem? s.views j ≡ some y → y.spent ≡ true))) in
              let from : (i' : ℕ) (u' : V) (b : ℕ) → get_elem? s.views i' ≡ some u' → get_elem? u'.gathered b ≡ some (j, m) → Old = λ i' u' b e' g'.
              let o = d.gathered i' u' b j m e' g' in (o.0, o.1, inr ((λ is. false_true (sym live ∙ o.2 v (ap (λ (z : ℕ). get_elem? s.views z) is ∙ at))), o.2)) in
              let first : ◌≡◌ {A = ℕ × N} (w.seat, w.note) (j, m) → Old = λ q. let is : j ≡ other = sym (λ t. (q t).0) ∙ d.numbered other w there alive in (subst (λ (z : ℕ). z < length s.views) (sym is) (inside s.views other w there), ap (λ (z : ℕ). get_elem? r.notes z) is ∙ (r.live other w there alive ∙ (λ t. some (noted ((q t).1) (map number (none_held t))))), inl is) in
              let mine : (b : ℕ) → get_elem? ((w.seat, w.note) ∷ (w.gathered ++ v.gathered)) b ≡ some (j, m) → Old = λ b g'. places w.seat w.note w.gathered v.gathered Old b j m g' first (λ c h. from other w c there h) (λ c h. from id v c at h) in
              let old : Old = ⊎_elim
              (λ (t : (i ≡ other) × (u ≡ gone_seat bygone)). absurd (some-ne-none (j, m) (sym g ∙ ap (λ (y : V). get_elem? y.gathered a) t.1)))
              (λ o. ⊎_elim
              (λ (t : (i ≡ id) × (u ≡ gathering v w)). mine a (ap (λ (y : V). get_elem? y.gathered a) (sym t.1) ∙ g))
              (λ (t : (i ≢ id) × (i ≢ other) × (get_elem? s.views i ≡ some u)). from i u a t.2 g) o)
              (left_of s.views id other v w i u e) in (
                (let b = old.0 in let c = long in omega arith),
                old.1,
                λ y f. ⊎_elim
                    (λ (t : (j ≡ other) × (y ≡ gone_seat bygone)). ap (λ (q : V). q.spent) t.1)
                    (λ o. ⊎_elim
                    (λ (t : (j ≡ id) × (y ≡ gathering v w)). ⊎_elim (λ (is : j ≡ other). absurd (apart (sym is ∙ t.0))) (λ (q : (j ≢ id) × ((z : V) → get_elem? s.views j ≡ some z → z.spent ≡ true)). absurd (q.0 t.0)) old.2)
                    (λ (t : (j ≢ id) × (j ≢ other) × (get_elem? s.views j ≡ some y)). ⊎_elim (λ (is : j ≡ other). absurd (t.1 is)) (λ (q : (j ≢ id) × ((z : V) → get_elem? s.views j ≡ some z → z.spent ≡ true)). q.1 y t.2) old.2) o)
                    (left_of s.views id other v w j y f),
              );
        };
        kept = r.kept;
      }

  numbers_of : {P : Type 0} (l : List (ℕ × P)) (a : ℕ) (x : ℕ × P) → map number l ≡ [] → get_elem? l a ≡ some x → ⊥
  numbers_of [] a x e g = some-ne-none x (sym g)
  numbers_of (y ∷ ys) a x e g = let l = ap length e in omega arith

  -- once all seats are in one, and it holds nothing, every piece is at home
  all_home : (s : St) (r : Stands start total joint s) (id : ℕ) (v : V) → get_elem? s.views id ≡ some v → v.spent ≡ false → v.held ≡ [] → Covers total v
      → (k : ℕ) → k < length s.homes → get_elem? s.homes k ≡ some (some (part_at r.hub r.frames k))
  all_home s r id v at live none_held all k l = dite (ℕ_discrete (get_or s.words k 0) 0) (r.home k l)
      (λ ne.
      let d = r.seated in
      let g = r.gone k l (let b = r.bits k l in omega arith) in
      let j = g.0 in
      let u = g.3.0 in
      let few = d.few in
      let there = inside s.views j u g.3.1 in
      let alive : u.spent ≡ false = still u.spent (λ (gone : u.spent ≡ true). some-ne-none (k, g.2) (sym g.3.2 ∙ ap (λ (h : List (ℕ × Part H F)). get_elem? h g.1) (d.idle j u g.3.1 gone))) in
      absurd (⊎_elim
      (λ (is : j ≡ v.seat). let same : v ≡ u = some-injective v u (sym at ∙ (ap (λ (z : ℕ). get_elem? s.views z) (sym (is ∙ d.numbered id v at live)) ∙ g.3.1)) in
      some-ne-none (k, g.2) (sym g.3.2 ∙ (ap (λ (y : V). get_elem? y.held g.1) (sym same) ∙ ap (λ (h : List (ℕ × Part H F)). get_elem? h g.1) none_held)))
      (λ (c : (a : ℕ) × (m : N) × (get_elem? v.gathered a ≡ some (j, m))).
      let o = d.gathered id v c.0 j c.1 at c.2 in
      let same = some-injective (known u) (noted c.1 []) (sym (r.live j u g.3.1 alive) ∙ o.1) in
      numbers_of u.held g.1 (k, g.2) (ap (λ (n : Noted N). n.held) same) g.3.2)
      (all j (omega arith))))

  pub leaves : (ws : List ℕ) (parts : List (Part H F)) (id : ℕ) (v : V) → v.spent ≡ false → v.held ≡ [] → Covers total v → Final (Seen (Stands start total joint) id v) ws parts → Leaves joint v ws parts
  leaves ws parts id v live none_held all f =
      let s = f.0 in
      let r = f.1.0 in
      let at = f.1.1 in
      let d = r.seated in
      let long = f.3 in
      let count = r.count in (
        whole (drop (length s.homes) s.words) r.hub r.frames r.notes,
        r.kept,
        (λ k l. f.4 k (part_at r.hub r.frames k) (all_home s r id v at live none_held all k (omega arith))),
        omega arith,
        ap (λ (z : ℕ). drop z ws) (sym long) ∙ ap (λ (l : List ℕ). drop (length s.homes) l) (sym f.2),
        (let w = r.wide in let q = ap length f.2 in omega arith),
        ap (λ (z : ℕ). get_elem? r.notes z) (d.numbered id v at live) ∙ (r.live id v at live ∙ ap (λ (l : List (ℕ × Part H F)). some (noted v.note (map number l))) none_held),
        (λ a j m e. (d.gathered id v a j m at e).1),
      )
