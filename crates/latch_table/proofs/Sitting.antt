-- What a seat and its pieces are after a step.
use Rattle.std.proofs.Common.{◌≡◌, ◌≢◌, ℕ, zero, suc, ◌<◌, List, [], ◌∷◌, map, get_or, set, sym, refl, ap, ◌∙◌, subst, ⊎_elim, arith, length-set}
use mathlib.Core.Option.{some, some-injective, some-ne-none}
use lib.ListN.{get_elem?}
use Rattle.atomic_table.specs.Table.{Me, rest}
use Rattle.atomic_table.specs.Seated.{TableId}
use Rattle.atomic_table.specs.declared.shared.Seat.{Seat}
use Rattle.atomic_table.proofs.Lists.{at_set}
use Rattle.pool_law.specs.declared.part.Part.{Part}
use Rattle.pool_law.specs.declared.part.Part.TheVariants.{Gone}
use Rattle.pool_law.specs.Whole.{Fits, Holds}
use Rattle.latch_table.specs.declared.view.View.{View}
use Rattle.latch_table.specs.Rule.{number, turned}
use Rattle.latch_table.specs.Seats.{vacated, Sits}

numbers : {P : Type 0} (l : List (ℕ × P)) (a k : ℕ) (p : P) → get_elem? l a ≡ some (k, p) → get_elem? (map number l) a ≡ some k
numbers [] a k p e = absurd (some-ne-none (k, p) (sym e))
numbers (x ∷ xs) zero k p e = λ i. some (some-injective x (k, p) e i).0
numbers (x ∷ xs) (suc a) k p e = numbers xs a k p e

pub got : {A : Type 0} (l : List A) (k : ℕ) (y d : A) → get_elem? l k ≡ some y → get_or l k d ≡ y
got [] k y d e = absurd (some-ne-none y (sym e))
got (x ∷ xs) zero y d e = some-injective x y e
got (x ∷ xs) (suc k) y d e = got xs k y d e

suc_injective : {a b : ℕ} → suc a ≡ suc b → a ≡ b
suc_injective {a} {b} e = omega arith

zero_suc : {a : ℕ} → 0 ≡ suc a → ⊥
zero_suc {a} e = omega arith

module _ {H F N : Type 0} (z : TableId) (r r' : Seat (Part H F) (View H F N)) (ps : List (Part H F)) (s : Sits z r ps) (same : r'.table_id ≡ r.table_id) where
  pub sits_same : r'.me ≡ r.me → Sits z r' ps
  sits_same e = record {
    table = same ∙ s.table;
    mine = ap (λ (m : Me (Part H F) (View H F N)). m.0.spent) e ∙ s.mine;
    away = ap (λ (m : Me (Part H F) (View H F N)). m.1) e ∙ (s.away ∙ ap (λ (m : Me (Part H F) (View H F N)). map vacated m.0.held) (sym e));
    room = s.room;
    wide = s.wide;
    once = λ a b k p q h g. s.once a b k p q (ap (λ (m : Me (Part H F) (View H F N)). get_elem? m.0.held a) (sym e) ∙ h) (ap (λ (m : Me (Part H F) (View H F N)). get_elem? m.0.held b) (sym e) ∙ g);
    fit = λ a k p q h g. s.fit a k p q (ap (λ (m : Me (Part H F) (View H F N)). get_elem? m.0.held a) (sym e) ∙ h) g;
  }

  pub sits_noted : (n : N) → r'.me ≡ (turned r.me.0 n r.me.0.held, r.me.1) → Sits z r' ps
  sits_noted n e = record {
    table = same ∙ s.table;
    mine = ap (λ (m : Me (Part H F) (View H F N)). m.0.spent) e ∙ s.mine;
    away = ap (λ (m : Me (Part H F) (View H F N)). m.1) e ∙ (s.away ∙ ap (λ (m : Me (Part H F) (View H F N)). map vacated m.0.held) (sym e));
    room = s.room;
    wide = s.wide;
    once = λ a b k p q h g. s.once a b k p q (ap (λ (m : Me (Part H F) (View H F N)). get_elem? m.0.held a) (sym e) ∙ h) (ap (λ (m : Me (Part H F) (View H F N)). get_elem? m.0.held b) (sym e) ∙ g);
    fit = λ a k p q h g. s.fit a k p q (ap (λ (m : Me (Part H F) (View H F N)). get_elem? m.0.held a) (sym e) ∙ h) g;
  }

  pub sits_latched : (n : N) (k : ℕ) (x : Part H F) → r'.me ≡ (turned r.me.0 n ((k, x) ∷ r.me.0.held), (k, Gone) ∷ r.me.1) → k < z.slots → Fits k x → ¬ Holds k (map number r.me.0.held) → Sits z r' (set ps k x)
  sits_latched n k x e l f none_held = record {
    table = same ∙ s.table;
    mine = ap (λ (m : Me (Part H F) (View H F N)). m.0.spent) e ∙ s.mine;
    away = ap (λ (m : Me (Part H F) (View H F N)). m.1) e ∙ (ap (λ (c : List (ℕ × Part H F)). (k, Gone) ∷ c) s.away ∙ ap (λ (m : Me (Part H F) (View H F N)). map vacated m.0.held) (sym e));
    room = length-set ps k x ∙ s.room;
    wide = s.wide;
    once = λ a b i p q h g. onces a b i p q (ap (λ (m : Me (Part H F) (View H F N)). get_elem? m.0.held a) (sym e) ∙ h) (ap (λ (m : Me (Part H F) (View H F N)). get_elem? m.0.held b) (sym e) ∙ g);
    fit = λ a i p q h g. fits a i p q (ap (λ (m : Me (Part H F) (View H F N)). get_elem? m.0.held a) (sym e) ∙ h) g;
  } where
    onces : (a b i : ℕ) (p q : Part H F) → get_elem? ((k, x) ∷ r.me.0.held) a ≡ some (i, p) → get_elem? ((k, x) ∷ r.me.0.held) b ≡ some (i, q) → a ≡ b
    onces zero zero i p q h g = refl
    onces zero (suc b) i p q h g = let e = some-injective (k, x) (i, p) h in let at : k ≡ i = (λ t. (e t).0) in absurd (none_held (b, numbers r.me.0.held b k q (g ∙ (λ j. some (sym at j, q)))))
    onces (suc a) zero i p q h g = let e = some-injective (k, x) (i, q) g in let at : k ≡ i = (λ t. (e t).0) in absurd (none_held (a, numbers r.me.0.held a k p (h ∙ (λ j. some (sym at j, p)))))
    onces (suc a) (suc b) i p q h g = ap suc (s.once a b i p q h g)

    fits : (a i : ℕ) (p q : Part H F) → get_elem? ((k, x) ∷ r.me.0.held) a ≡ some (i, p) → get_elem? (set ps k x) i ≡ some q → (i < z.slots) × Fits i q
    fits zero i p q h g = let e = some-injective (k, x) (i, p) h in let at : k ≡ i = (λ t. (e t).0) in ⊎_elim
        (λ (t : (i ≡ k) × (x ≡ q)). ((let u = t.0 in omega arith), subst (λ (y : ℕ × Part H F). Fits y.0 y.1) (λ j. (at j, t.1 j)) f))
        (λ (t : (i ≢ k) × (get_elem? ps i ≡ some q)). absurd (t.0 (sym at)))
        (at_set ps k i x q g)
    fits (suc a) i p q h g = ⊎_elim
        (λ (t : (i ≡ k) × (x ≡ q)). absurd (none_held (a, numbers r.me.0.held a k p (h ∙ (λ j. some (t.0 j, p))))))
        (λ (t : (i ≢ k) × (get_elem? ps i ≡ some q)). s.fit a i p q h t.1)
        (at_set ps k i x q g)

  pub sits_put : (n : N) (k : ℕ) (x y : Part H F) (rest : List (ℕ × Part H F)) → r.me.0.held ≡ (k, x) ∷ rest → r'.me ≡ (turned r.me.0 n rest, map vacated rest) → Sits z r' (set ps k y)
  sits_put n k x y rest held e = record {
    table = same ∙ s.table;
    mine = ap (λ (m : Me (Part H F) (View H F N)). m.0.spent) e ∙ s.mine;
    away = ap (λ (m : Me (Part H F) (View H F N)). m.1) e ∙ ap (λ (m : Me (Part H F) (View H F N)). map vacated m.0.held) (sym e);
    room = length-set ps k y ∙ s.room;
    wide = s.wide;
    once = λ a b i p q h g. suc_injective (s.once (suc a) (suc b) i p q (ap (λ (l : List (ℕ × Part H F)). get_elem? l (suc a)) held ∙ (ap (λ (m : Me (Part H F) (View H F N)). get_elem? m.0.held a) (sym e) ∙ h)) (ap (λ (l : List (ℕ × Part H F)). get_elem? l (suc b)) held ∙ (ap (λ (m : Me (Part H F) (View H F N)). get_elem? m.0.held b) (sym e) ∙ g)));
    fit = λ a i p q h g. let h' = ap (λ (m : Me (Part H F) (View H F N)). get_elem? m.0.held a) (sym e) ∙ h in ⊎_elim
        (λ (t : (i ≡ k) × (y ≡ q)). absurd (zero_suc (s.once 0 (suc a) k x p (ap (λ (l : List (ℕ × Part H F)). get_elem? l 0) held) (ap (λ (l : List (ℕ × Part H F)). get_elem? l (suc a)) held ∙ (h' ∙ (λ j. some (t.0 j, p)))))))
        (λ (t : (i ≢ k) × (get_elem? ps i ≡ some q)). s.fit (suc a) i p q (ap (λ (l : List (ℕ × Part H F)). get_elem? l (suc a)) held ∙ h') t.1)
        (at_set ps k i y q g);
  }

abbrev second_or : {P : Type 0} → P → List (ℕ × P) → P
second_or d [] = d
second_or d (x ∷ xs) = x.1

module _ {H F N : Type 0} where
  -- a seat that took a slot, and then the piece out of it
  pub latched_me : (m m' m'' : Me (Part H F) (View H F N)) (k : ℕ) (x y : Part H F) (n : N) → m' ≡ (turned m.0 n ((k, x) ∷ m.0.held), (k, x) ∷ m.1) → m'.1 ≡ (k, y) ∷ rest m'.1 → m'' ≡ (m'.0, (k, Gone) ∷ rest m'.1)
      → (x ≡ y) × (m'' ≡ (turned m.0 n ((k, y) ∷ m.0.held), (k, Gone) ∷ m.1))
  latched_me m m' m'' k x y n e f g =
      let same : x ≡ y = ap (second_or x) (sym (ap (λ (q : Me (Part H F) (View H F N)). q.1) e) ∙ f) in
      (same, g ∙ (ap (λ (q : Me (Part H F) (View H F N)). (q.0, (k, Gone) ∷ rest q.1)) e ∙ ap (λ (p : Part H F). (turned m.0 n ((k, p) ∷ m.0.held), (k, Gone) ∷ m.1)) same))

  -- a seat that put a piece into a slot, and then gave the slot back
  pub put_me : (m m' m'' : Me (Part H F) (View H F N)) (k : ℕ) (y : Part H F) (held : List (ℕ × Part H F)) (n : N) → m.1 ≡ map vacated m.0.held → (x : Part H F) → m.0.held ≡ (k, x) ∷ held → m' ≡ (m.0, (k, y) ∷ rest m.1) → m'' ≡ (turned m'.0 n held, rest m'.1)
      → m'' ≡ (turned m.0 n held, map vacated held)
  put_me m m' m'' k y held n away x is e f = f ∙ (ap (λ (q : Me (Part H F) (View H F N)). (turned q.0 n held, rest q.1)) e ∙ ap (λ (l : List (ℕ × Part H F)). (turned m.0 n held, rest l)) (away ∙ ap (λ (l : List (ℕ × Part H F)). map vacated l) is))

  -- the slot that a seat took last is the one of the piece that it took last
  pub front_me : (m : Me (Part H F) (View H F N)) (k : ℕ) (x : Part H F) (held : List (ℕ × Part H F)) → m.1 ≡ map vacated m.0.held → m.0.held ≡ (k, x) ∷ held → m.1 ≡ (k, Gone) ∷ rest m.1
  front_me m k x held away is =
      let e : m.1 ≡ (k, Gone) ∷ map vacated held = away ∙ ap (λ (l : List (ℕ × Part H F)). map vacated l) is in e ∙ ap (λ (l : List (ℕ × Part H F)). (k, Gone) ∷ rest l) (sym e)

-- a seat gave the piece at the front of what it held
module _ {H F N : Type 0} where
  pub gave_me : (m m' m'' : Me (Part H F) (View H F N)) (k : ℕ) (x y : Part H F) (held : List (ℕ × Part H F)) (P : View H F N → Part H F → Part H F → N → Type 0) → m.1 ≡ map vacated m.0.held → m.0.held ≡ (k, x) ∷ held → m' ≡ (m.0, (k, y) ∷ rest m.1)
      → ((x' y' : Part H F) (h o : List (ℕ × Part H F)) → m'.0.held ≡ (k, x') ∷ h → m'.1 ≡ (k, y') ∷ o → (n : N) × (m'' ≡ (turned m'.0 n h, o)) × P m'.0 x' y' n)
      → (n : N) × (m'' ≡ (turned m.0 n held, map vacated held)) × P m.0 x y n
  gave_me m m' m'' k x y held P away is e gave =
      let g = gave x y held (rest m.1) (ap (λ (q : Me (Part H F) (View H F N)). q.0.held) e ∙ is) (ap (λ (q : Me (Part H F) (View H F N)). q.1) e) in
      (g.0, g.1 ∙ (ap (λ (q : Me (Part H F) (View H F N)). (turned q.0 g.0 held, rest m.1)) e ∙ ap (λ (l : List (ℕ × Part H F)). (turned m.0 g.0 held, rest l)) (away ∙ ap (λ (l : List (ℕ × Part H F)). map vacated l) is)), subst (λ (q : Me (Part H F) (View H F N)). P q.0 x y g.0) e g.2)
