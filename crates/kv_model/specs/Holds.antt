-- Sorted lists of versions, newest first, and stores that hold such a list less what no read can reach.
use Rattle.std.specs.Prelude.{◌≡◌, ◌⊎◌, Bool, true, List, [], ◌∷◌, Option, Some, None}

abbrev pub Member : {A : Type 0} → A → List A → Type 0
Member x [] = ⊥
Member x (y ∷ ys) = (x ≡ y) ⊎ Member x ys

-- each is above all that are older
abbrev pub Descends : {A : Type 0} → (A → A → Type 0) → List A → Type 0
Descends Below [] = Unit {0}
Descends {A} Below (x ∷ xs) = ((y : A) → Member y xs → Below y x) × Descends Below xs

pub record IsOrder {A : Type 0} (Below : A → A → Type 0) : Type 0 where
  pub asym : (x y : A) → Below x y → Below y x → ⊥
  pub irrefl : (x : A) → Below x x → ⊥

-- the newest that is held and passes
pub record IsNewest {A : Type 0} (Below : A → A → Type 0) (Held : A → Type 0) (p : A → Bool) (x : A) : Type 0 where
  pub held : Held x
  pub passes : p x ≡ true
  pub newest : (y : A) → Held y → p y ≡ true → (y ≡ x) ⊎ Below y x

-- the answer of a look-up among what is held
abbrev pub Picks : {A : Type 0} → (A → A → Type 0) → (A → Type 0) → (A → Bool) → Option A → Type 0
Picks Below Held p (Some x) = IsNewest Below Held p x
Picks {A} Below Held p None = (x : A) → Held x → p x ≡ true → ⊥

-- a newer one of the list makes it unreachable
pub record Covered {A : Type 0} (Below : A → A → Type 0) (covers : A → Bool) (l : List A) (x : A) : Type 0 where
  pub by : A
  pub there : Member by l
  pub above : Below x by
  pub is_cover : covers by ≡ true

-- what is held is of the list, and each of the list is held or covered
pub record Kept {A : Type 0} (Below : A → A → Type 0) (covers : A → Bool) (l : List A) (Held : A → Type 0) : Type 0 where
  pub within : (x : A) → Held x → Member x l
  pub all : (x : A) → Member x l → Held x ⊎ ((w : A) × Member w l × Below x w × (covers w ≡ true))

-- frame and history together keep the list, and of what is newer than one in the frame all is there or covered
pub record Stores {A : Type 0} (Below : A → A → Type 0) (covers : A → Bool) (l : List A) (Frame History : A → Type 0) : Type 0 where
  pub kept : Kept Below covers l (λ x. Frame x ⊎ History x)
  pub upper : (x y : A) → Frame x → Member y l → Below x y → Frame y ⊎ Covered Below covers l y
