-- What is live of a list, and of that what lies above the first that is past.
use Rattle.std.proofs.Common.{◌≡◌, ◌⊎◌, ◌∙◌, Bool, true, false, List, [], ◌∷◌, map, drop, Option, Some, None, refl, ap, sym, subst, inl, inr}
use Rattle.std.specs.Prelude.{filter, find, option_map}
use Rattle.std.proofs.lemmas.Bool.{cases_Bool}
use Rattle.item.specs.declared.Change.{Change}
use Rattle.stamp.specs.declared.Version.{Version}
use Rattle.kv_model.specs.Holds.{Member, Descends}
use Rattle.kv_model.specs.History.{down_to}
use Rattle.kv_model.specs.Ordered.{Older}
use Rattle.reconcile.specs.Held.{moved_of}
use Rattle.reconcile.specs.Laws.{KeysAreReconciled}

-- ---- the first that passes

abbrev pub head_of : {A : Type 0} → List A → Option A
head_of [] = None
head_of (x ∷ xs) = Some x

pub find_filter : {A : Type 0} (p : A → Bool) (l : List A) → find p l ≡ head_of (filter p l)
find_filter p [] = refl
find_filter p (x ∷ l) = elim (cases_Bool (p x)) [ inl is ↦ rw is refl | inr isnt ↦ rw isnt (find_filter p l) ]

-- ---- members

pub member_filter : {A : Type 0} (p : A → Bool) (l : List A) (x : A) → Member x l → p x ≡ true → Member x (filter p l)
member_filter p [] x there is = there
member_filter {A} p (y ∷ l) x (inl same) is = let here = subst (λ (z : A). p z ≡ true) same is in rw here (inl same)
member_filter p (y ∷ l) x (inr later) is = elim (cases_Bool (p y)) [ inl t ↦ rw t (inr (member_filter p l x later is)) | inr f ↦ rw f (member_filter p l x later is) ]

pub filter_member : {A : Type 0} (p : A → Bool) (l : List A) (x : A) → Member x (filter p l) → Member x l × (p x ≡ true)
filter_member p [] x there = absurd there
filter_member {A} p (y ∷ l) x there = elim (cases_Bool (p y)) [
  | inl t ↦ elim (rw t at there) [
    | inl same ↦ (inl same, subst (λ (z : A). p z ≡ true) (sym same) t)
    | inr later ↦ let rest = filter_member p l x later in (inr rest.0, rest.1)
  ]
  | inr f ↦ let rest = filter_member p l x (rw f at there) in (inr rest.0, rest.1)
]

pub down_member : {A : Type 0} (p : A → Bool) (l : List A) (x : A) → Member x (down_to p l) → Member x l
down_member p [] x there = absurd there
down_member p (y ∷ l) x there = elim (cases_Bool (p y)) [
  | inl t ↦ elim (rw t at there) [ inl same ↦ inl same | inr none ↦ absurd none ]
  | inr f ↦ elim (rw f at there) [ inl same ↦ inl same | inr later ↦ inr (down_member p l x later) ]
]

pub drop_member : {A : Type 0} (l : List A) (x : A) → Member x (drop 1 l) → Member x l
drop_member [] x there = there
drop_member (y ∷ l) x there = inr there

filter_descends : {A : Type 0} (Below : A → A → Type 0) (p : A → Bool) (l : List A) → Descends Below l → Descends Below (filter p l)
filter_descends Below p [] down = tt
filter_descends Below p (y ∷ l) down = elim (cases_Bool (p y)) [
  | inl t ↦ rw t ((λ x there. down.0 x (filter_member p l x there).0), filter_descends Below p l down.1)
  | inr f ↦ rw f (filter_descends Below p l down.1)
]

-- ---- the law

-- one behind the first that is past is below it
down_all : {A : Type 0} (Below : A → A → Type 0) (p : A → Bool) (l : List A) (x : A) → Descends Below l → Member x l → Member x (down_to p l) ⊎ ((w : A) × Member w l × Below x w × (p w ≡ true))
down_all Below p [] x down there = absurd there
down_all {A} Below p (y ∷ l) x down (inl same) = elim (cases_Bool (p y)) [ inl t ↦ inl (rw t (inl same)) | inr f ↦ inl (rw f (inl same)) ]
down_all {A} Below p (y ∷ l) x down (inr later) = elim (cases_Bool (p y)) [
  | inl t ↦ inr (y, inl refl, down.0 x later, t)
  | inr f ↦ elim (down_all Below p l x down.1 later) [
    | inl there ↦ inl (rw f (inr there))
    | inr over ↦ inr (over.0, inr over.1, over.2, over.3)
  ]
]

pub keys-reconciled : KeysAreReconciled
keys-reconciled live past held down = record {
  cell_is = refl;
  from = λ x there. filter_member live held x (down_member past (filter live held) x (drop_member (down_to past (filter live held)) x there));
  all = λ x there lives. by (filter live held) refl (filter_descends Older live held down) x (member_filter live held x there lives);
} where
  by : (l : List (Version Change)) → filter live held ≡ l → Descends Older l → (x : Version Change) → Member x l
      → (find live held ≡ Some x) ⊎ (Member x (moved_of live past held) ⊎ ((w : Version Change) × Member w held × Older x w × (live w ≡ true) × (past w ≡ true)))
  by [] is order x there = absurd there
  by (f ∷ l) is order x (inl same) = inl (find_filter live held ∙ (ap (λ (k : List (Version Change)). head_of k) is ∙ ap (λ (v : Version Change). Some v) (sym same)))
  by (f ∷ l) is order x (inr later) = elim (cases_Bool (past f)) [
    | inl t ↦
        let at = filter_member live held f (subst (λ (k : List (Version Change)). Member f k) (sym is) (inl refl)) in
        inr (inr (f, at.0, order.0 x later, at.1, t))
    | inr n ↦ elim (down_all Older past l x order.1 later) [
      | inl there ↦ inr (inl (subst (λ (k : List (Version Change)). Member x (drop 1 (down_to past k))) (sym is) (rw n there)))
      | inr over ↦
          let at = filter_member live held over.0 (subst (λ (k : List (Version Change)). Member over.0 k) (sym is) (inr over.1)) in
          inr (inr (over.0, at.0, over.2, at.1, over.3))
    ]
  ]

-- ---- rows and their versions

-- a map that keeps what is asked
pub find_map : {A B : Type 0} (f : A → B) (p : A → Bool) (q : B → Bool) (l : List A) → ((x : A) → q (f x) ≡ p x) → find q (map f l) ≡ option_map f (find p l)
find_map f p q [] same = refl
find_map f p q (x ∷ l) same = elim (cases_Bool (p x)) [
  | inl t ↦ let u : q (f x) ≡ true = same x ∙ t in rw (t, u) refl
  | inr n ↦ let u : q (f x) ≡ false = same x ∙ n in rw (n, u) (find_map f p q l same)
]

pub filter_map : {A B : Type 0} (f : A → B) (p : A → Bool) (q : B → Bool) (l : List A) → ((x : A) → q (f x) ≡ p x) → filter q (map f l) ≡ map f (filter p l)
filter_map f p q [] same = refl
filter_map {A} {B} f p q (x ∷ l) same = elim (cases_Bool (p x)) [
  | inl t ↦ let u : q (f x) ≡ true = same x ∙ t in rw (t, u) (ap (λ (k : List B). f x ∷ k) (filter_map f p q l same))
  | inr n ↦ let u : q (f x) ≡ false = same x ∙ n in rw (n, u) (filter_map f p q l same)
]

pub down_map : {A B : Type 0} (f : A → B) (p : A → Bool) (q : B → Bool) (l : List A) → ((x : A) → q (f x) ≡ p x) → down_to q (map f l) ≡ map f (down_to p l)
down_map f p q [] same = refl
down_map {A} {B} f p q (x ∷ l) same = elim (cases_Bool (p x)) [
  | inl t ↦ let u : q (f x) ≡ true = same x ∙ t in rw (t, u) refl
  | inr n ↦ let u : q (f x) ≡ false = same x ∙ n in rw (n, u) (ap (λ (k : List B). f x ∷ k) (down_map f p q l same))
]

pub drop_map : {A B : Type 0} (f : A → B) (l : List A) → drop 1 (map f l) ≡ map f (drop 1 l)
drop_map f [] = refl
drop_map f (x ∷ l) = refl
