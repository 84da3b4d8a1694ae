-- What a stable stamp leaves of the versions of a key, where the newest suffices.
use Rattle.std.proofs.Common.{◌≡◌, ◌∙◌, arith, ℕ, Bool, true, false, ◌&&◌, List, [], ◌∷◌, Option, Some, None, refl, ap, sym, subst, inl, inr}
use Rattle.std.specs.Prelude.{◌==◌, filter, if◌then◌else◌}
use Rattle.std.specs.Option.{option_to_list}
use Rattle.std.proofs.lemmas.Bool.{cases_Bool, eq-eqb, le-leb, leb-true, or_left, or_right}
use Rattle.item.specs.declared.Change.{Change}
use Rattle.stamp.specs.declared.Version.{Version}
use Rattle.kv_model.specs.AgreementLaws.{head_of}
use Rattle.kv_model.specs.Allowed.{StampsFit}
use Rattle.kv_model.specs.Holds.{Member}
use Rattle.kv_model.specs.History.{Placed, core, is_at, is_by, is_stable, of_key}

-- what a filter keeps of a key are the versions that pass
pub keys_sifted : (f : Placed → Bool) (g : Version Change → Bool) (table : ℕ) (key : List ℕ) (l : List Placed) → ((p : Placed) → Member p l → is_at table key p ≡ true → f p ≡ g p.version)
    → of_key table key (filter f l) ≡ filter g (of_key table key l)
keys_sifted f g table key [] all = refl
keys_sifted f g table key (x ∷ l) all =
    let rest = keys_sifted f g table key l (λ p there. all p (inr there)) in
    elim (cases_Bool (is_at table key x)) [
      | inl here ↦ (
          let tells = sym (all x (inl refl) here) in
          elim (cases_Bool (f x)) [
            | inl is ↦ (let too : g x.version ≡ true = tells ∙ is in rw (is, here, too) (ap (λ (vs : List (Version Change)). x.version ∷ vs) rest))
            | inr isnt ↦ (let neither : g x.version ≡ false = tells ∙ isnt in rw (isnt, here, neither) rest)
          ])
      | inr away ↦ elim (cases_Bool (f x)) [ inl is ↦ rw (is, away) rest | inr isnt ↦ rw (isnt, away) rest ]
    ]

pub passes : (known seen stable : Bool) → known ≡ true → seen ≡ true → (known && (seen && stable)) ≡ stable
passes known seen stable is too = rw (is, too) refl

-- the version, where it is durable at this stamp
abbrev pub stable_one : ℕ → Option (Version Change) → Option (Version Change)
stable_one stable None = None
stable_one stable (Some v) = if is_stable stable v then Some v else None

pub one_stable : (stable : ℕ) (o : Option (Version Change)) → filter (is_stable stable) (option_to_list o) ≡ option_to_list (stable_one stable o)
one_stable stable None = refl
one_stable stable (Some v) = elim (cases_Bool (is_stable stable v)) [ inl is ↦ rw is refl | inr isnt ↦ rw isnt refl ]

-- what is durable at oldest is so at stable
by_stable : (oldest stable : ℕ) (v : Version Change) → StampsFit oldest stable → is_by oldest v ≡ true → is_stable stable v ≡ true
by_stable oldest stable v (inl none) low = or_left (stable == 0) (is_by stable v) (eq-eqb stable 0 none)
by_stable oldest stable v (inr le) low = or_right (stable == 0) (is_by stable v) (le-leb v.window.durable stable (let at = leb-true v.window.durable oldest low in omega (arith, le, at)))

core_none : (oldest : ℕ) (l : List (Version Change)) → core oldest l ≡ [] → l ≡ []
core_none oldest [] none = refl
core_none oldest (v ∷ older) none = elim (cases_Bool (is_by oldest v)) [
  | inl low ↦ (let some = rw low at none in absurd cc)
  | inr late ↦ (let some = rw late at none in absurd cc)
]

-- a newest version that is not durable at oldest suffices where it is alone
pub alone : (oldest : ℕ) (v : Version Change) (older : List (Version Change)) → is_by oldest v ≡ false → core oldest (v ∷ older) ≡ v ∷ [] → older ≡ []
alone oldest v older late reached =
    let rest : v ∷ core oldest older ≡ v ∷ [] = rw late at reached in
    let none : core oldest older ≡ [] = cc in
    core_none oldest older none

-- so it does of what is durable at stable
pub cut_core : (oldest stable : ℕ) (l : List (Version Change)) → StampsFit oldest stable → core oldest l ≡ option_to_list (head_of l) → core oldest (option_to_list (stable_one stable (head_of l))) ≡ core oldest (filter (is_stable stable) l)
cut_core oldest stable [] fit reached = refl
cut_core oldest stable (v ∷ older) fit reached = elim (cases_Bool (is_by oldest v)) [
  | inl low ↦ (let durable = by_stable oldest stable v fit low in rw (durable, low) refl)
  | inr late ↦ subst (λ (l : List (Version Change)). core oldest (option_to_list (stable_one stable (Some v))) ≡ core oldest (filter (is_stable stable) (v ∷ l))) (sym (alone oldest v older late reached))
      (ap (core oldest) (sym (one_stable stable (Some v))))
]
