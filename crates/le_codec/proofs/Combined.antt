-- Fields made of fields have one spelling too.
use Rattle.std.proofs.Common.{◌≡◌, ℕ, zero, suc, List, [], ◌∷◌, ◌++◌, length, Option, Some, refl, sym, ap, subst, ◌∙◌, append_assoc}
use Rattle.std.specs.List.{flat_map, AllByRecursion}
use Rattle.le_codec.specs.Fields.{◌>>=◌, IsBytes, Takes, IsField}
use Rattle.le_codec.specs.Combine.{then_at, many_at, as_at, try_at}
use Rattle.le_codec.proofs.Laws.{bind_some, some_is, takes_then}

pub then_field : {A B : Type 0} {s : A → List ℕ} {f : List ℕ → Option (A × List ℕ)} {Fits : A → Type 0} {t : A → B → List ℕ} {g : A → List ℕ → Option (B × List ℕ)} {Suits : A → B → Type 0}
    → IsField s f Fits → ((a : A) → IsField (t a) (g a) (Suits a)) → IsField (λ (p : A × B). s p.0 ++ t p.0 p.1) (then_at f g) (λ (p : A × B). Fits p.0 × Suits p.0 p.1)
unfolding then_at
then_field {A = A} {B = B} {s = s} {f = f} {Fits = Fits} {t = t} {g = g} {Suits = Suits} first second = record { takes = take; again = again }
  where
    take : (bytes : List ℕ) (x : A × B) (rest : List ℕ) → IsBytes bytes → then_at f g bytes ≡ Some (x, rest) → Takes bytes (s x.0 ++ t x.0 x.1) rest × (Fits x.0 × Suits x.0 x.1)
    take bytes x rest fits e =
        let a = bind_some (f bytes) (λ a. g a.0 a.1 >>= λ b. Some ((a.0, b.0), b.1)) (x, rest) e in
        let b = bind_some (g a.0.0 a.0.1) (λ b. Some ((a.0.0, b.0), b.1)) (x, rest) a.2 in
        let p = first.takes bytes a.0.0 a.0.1 fits a.1 in
        let q = (second a.0.0).takes a.0.1 b.0.0 b.0.1 p.0.rest_fits b.1 in
        let made : (A × B) × List ℕ = ((a.0.0, b.0.0), b.0.1) in
        subst (λ (y : (A × B) × List ℕ). Takes bytes (s y.0.0 ++ t y.0.0 y.0.1) y.1 × (Fits y.0.0 × Suits y.0.0 y.0.1)) (some_is made (x, rest) b.2) (takes_then bytes (s a.0.0) a.0.1 (t a.0.0 b.0.0) b.0.1 p.0 q.0, (p.1, q.1))

    again : (x : A × B) (rest : List ℕ) → Fits x.0 × Suits x.0 x.1 → then_at f g ((s x.0 ++ t x.0 x.1) ++ rest) ≡ Some (x, rest)
    again x rest h = ap (then_at f g) (append_assoc (s x.0) (t x.0 x.1) rest) ∙ rw (first.again x.0 (t x.0 x.1 ++ rest) h.0, (second x.0).again x.1 rest h.1) refl

pub as_field : {A B : Type 0} (to : A → B) («from» : B → A) {s : A → List ℕ} {f : List ℕ → Option (A × List ℕ)} {Fits : A → Type 0} → ((a : A) → «from» (to a) ≡ a) → ((b : B) → to («from» b) ≡ b)
    → IsField s f Fits → IsField (λ (b : B). s («from» b)) (as_at to f) (λ (b : B). Fits («from» b))
unfolding as_at
as_field {A = A} {B = B} to back {s = s} {f = f} {Fits = Fits} there here field = record { takes = take; again = again }
  where
    take : (bytes : List ℕ) (b : B) (rest : List ℕ) → IsBytes bytes → as_at to f bytes ≡ Some (b, rest) → Takes bytes (s (back b)) rest × Fits (back b)
    take bytes b rest fits e =
        let a = bind_some (f bytes) (λ a. Some (to a.0, a.1)) (b, rest) e in
        let p = field.takes bytes a.0.0 a.0.1 fits a.1 in
        let q : Takes bytes (s (back (to a.0.0))) a.0.1 × Fits (back (to a.0.0)) = subst (λ (x : A). Takes bytes (s x) a.0.1 × Fits x) (sym (there a.0.0)) p in
        subst (λ (y : B × List ℕ). Takes bytes (s (back y.0)) y.1 × Fits (back y.0)) (some_is (to a.0.0, a.0.1) (b, rest) a.2) q

    again : (b : B) (rest : List ℕ) → Fits (back b) → as_at to f (s (back b) ++ rest) ≡ Some (b, rest)
    again b rest h = rw (field.again (back b) rest h, here b) refl

-- the same seen as another type, where only what fits can be seen
pub seen_field : {A B : Type 0} (to : A → B) (back : B → A) (Good : B → Type 0) {s : A → List ℕ} {f : List ℕ → Option (A × List ℕ)} {Fits : A → Type 0}
    → ((a : A) → Fits a → (back (to a) ≡ a) × Good (to a)) → ((b : B) → Good b → (to (back b) ≡ b) × Fits (back b)) → IsField s f Fits → IsField (λ (b : B). s (back b)) (as_at to f) Good
unfolding as_at
seen_field {A = A} {B = B} to back Good {s = s} {f = f} {Fits = Fits} there here field = record { takes = take; again = again }
  where
    take : (bytes : List ℕ) (b : B) (rest : List ℕ) → IsBytes bytes → as_at to f bytes ≡ Some (b, rest) → Takes bytes (s (back b)) rest × Good b
    take bytes b rest fits e =
        let a = bind_some (f bytes) (λ a. Some (to a.0, a.1)) (b, rest) e in
        let p = field.takes bytes a.0.0 a.0.1 fits a.1 in
        let q = there a.0.0 p.1 in
        let r : Takes bytes (s (back (to a.0.0))) a.0.1 = subst (λ (x : A). Takes bytes (s x) a.0.1) (sym q.0) p.0 in
        subst (λ (y : B × List ℕ). Takes bytes (s (back y.0)) y.1 × Good y.0) (some_is (to a.0.0, a.0.1) (b, rest) a.2) (r, q.1)

    again : (b : B) (rest : List ℕ) → Good b → as_at to f (s (back b) ++ rest) ≡ Some (b, rest)
    again b rest h = let g = here b h in rw (field.again (back b) rest g.1, g.0) refl

many_take : {A : Type 0} (s : A → List ℕ) (f : List ℕ → Option (A × List ℕ)) (Fits : A → Type 0) (field : IsField s f Fits) (n : ℕ) (bytes : List ℕ) (x : List A × List ℕ) → IsBytes bytes → many_at f n bytes ≡ Some x → Takes bytes (flat_map s x.0) x.1 × (length x.0 ≡ n) × AllByRecursion Fits x.0
unfolding many_at
many_take {A = A} s f Fits field zero bytes x fits e =
    subst (λ (y : List A × List ℕ). Takes bytes (flat_map s y.0) y.1 × (length y.0 ≡ 0) × AllByRecursion Fits y.0) (some_is ([], bytes) x e) (record { parts = refl; rest_fits = fits }, refl, tt)
many_take {A = A} s f Fits field (suc n) bytes x fits e =
    let a = bind_some (f bytes) (λ first. many_at f n first.1 >>= λ others. Some (first.0 ∷ others.0, others.1)) x e in
    let b = bind_some (many_at f n a.0.1) (λ others. Some (a.0.0 ∷ others.0, others.1)) x a.2 in
    let p = field.takes bytes a.0.0 a.0.1 fits a.1 in
    let q = many_take s f Fits field n a.0.1 b.0 p.0.rest_fits b.1 in
    let made : List A × List ℕ = (a.0.0 ∷ b.0.0, b.0.1) in
    subst (λ (y : List A × List ℕ). Takes bytes (flat_map s y.0) y.1 × (length y.0 ≡ suc n) × AllByRecursion Fits y.0) (some_is made x b.2) (takes_then bytes (s a.0.0) a.0.1 (flat_map s b.0.0) b.0.1 p.0 q.0, ap suc q.1, (p.1, q.2))

many_again : {A : Type 0} (s : A → List ℕ) (f : List ℕ → Option (A × List ℕ)) (Fits : A → Type 0) (field : IsField s f Fits) (xs : List A) (rest : List ℕ) → AllByRecursion Fits xs → many_at f (length xs) (flat_map s xs ++ rest) ≡ Some (xs, rest)
unfolding many_at
many_again s f Fits field [] rest fits = refl
many_again s f Fits field (x ∷ xs) rest fits =
    ap (many_at f (suc (length xs))) (append_assoc (s x) (flat_map s xs) rest) ∙ rw (field.again x (flat_map s xs ++ rest) fits.0, many_again s f Fits field xs rest fits.1) refl

pub many_field : {A : Type 0} {s : A → List ℕ} {f : List ℕ → Option (A × List ℕ)} {Fits : A → Type 0} → IsField s f Fits → (n : ℕ) → IsField (flat_map s) (many_at f n) (λ (xs : List A). (length xs ≡ n) × AllByRecursion Fits xs)
many_field {A = A} {s = s} {f = f} {Fits = Fits} field n = record {
  takes = λ bytes x rest fits e. (let p = many_take s f Fits field n bytes (x, rest) fits e in (p.0, (p.1, p.2)));
  again = λ xs rest h. subst (λ (k : ℕ). many_at f k (flat_map s xs ++ rest) ≡ Some (xs, rest)) h.0 (many_again s f Fits field xs rest h.1);
}

-- another way to write the same spelling and the same limits
pub again_field : {A : Type 0} {s : A → List ℕ} {f : List ℕ → Option (A × List ℕ)} {Fits : A → Type 0} (t : A → List ℕ) (Suits : A → Type 0) → ((x : A) → s x ≡ t x) → ((x : A) → Fits x → Suits x) → ((x : A) → Suits x → Fits x) → IsField s f Fits → IsField t f Suits
again_field {A = A} {s = s} {f = f} {Fits = Fits} t Suits same to back field = record {
  takes = λ bytes x rest fits e. (let p = field.takes bytes x rest fits e in (subst (λ (l : List ℕ). Takes bytes l rest) (same x) p.0, to x p.1));
  again = λ x rest h. subst (λ (l : List ℕ). f (l ++ rest) ≡ Some (x, rest)) (same x) (field.again x rest (back x h));
}

-- what a value stands for, and the value that stands for it
pub try_field : {A B : Type 0} (to : A → Option B) (back : B → A) (Good : B → Type 0) {s : A → List ℕ} {f : List ℕ → Option (A × List ℕ)} {Fits : A → Type 0}
    → ((a : A) (b : B) → Fits a → to a ≡ Some b → (back b ≡ a) × Good b) → ((b : B) → Good b → (to (back b) ≡ Some b) × Fits (back b)) → IsField s f Fits → IsField (λ (b : B). s (back b)) (try_at to f) Good
unfolding try_at
try_field {A = A} {B = B} to back Good {s = s} {f = f} {Fits = Fits} there here field = record { takes = take; again = again }
  where
    take : (bytes : List ℕ) (b : B) (rest : List ℕ) → IsBytes bytes → try_at to f bytes ≡ Some (b, rest) → Takes bytes (s (back b)) rest × Good b
    take bytes b rest fits e =
        let a = bind_some (f bytes) (λ a. to a.0 >>= λ b. Some (b, a.1)) (b, rest) e in
        let d = bind_some (to a.0.0) (λ b. Some (b, a.0.1)) (b, rest) a.2 in
        let p = field.takes bytes a.0.0 a.0.1 fits a.1 in
        let q = there a.0.0 d.0 p.1 d.1 in
        let r : Takes bytes (s (back d.0)) a.0.1 = subst (λ (x : A). Takes bytes (s x) a.0.1) (sym q.0) p.0 in
        subst (λ (y : B × List ℕ). Takes bytes (s (back y.0)) y.1 × Good y.0) (some_is (d.0, a.0.1) (b, rest) d.2) (r, q.1)

    again : (b : B) (rest : List ℕ) → Good b → try_at to f (s (back b) ++ rest) ≡ Some (b, rest)
    again b rest h = let g = here b h in rw (field.again (back b) rest g.1, g.0) refl

-- what is spelled the same at the front is the same
pub one_value : {A : Type 0} {s : A → List ℕ} {f : List ℕ → Option (A × List ℕ)} {Fits : A → Type 0} → IsField s f Fits → (x y : A) (a b : List ℕ) → Fits x → Fits y → s x ++ a ≡ s y ++ b → (x ≡ y) × (a ≡ b)
one_value {A = A} {f = f} field x y a b hx hy same =
    let both = some_is (x, a) (y, b) (sym (field.again x a hx) ∙ ap f same ∙ field.again y b hy) in
    (ap (λ (p : A × List ℕ). p.0) both, ap (λ (p : A × List ℕ). p.1) both)
