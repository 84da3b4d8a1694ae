-- Which branch of a test gave a value.
use Rattle.std.proofs.Common.{◌≡◌, ◌∙◌, sym}
use Rattle.std.specs.Prelude.{Bool, true, false, if◌then◌else◌}
use Rattle.std.proofs.lemmas.Bool.{cond-true, cond-false}

pub then-is : {A : Type 0} (t : Bool) (x y z : A) → t ≡ true → (if t then x else y) ≡ z → x ≡ z
then-is t x y z here e = sym (cond-true t x y here) ∙ e

pub else-is : {A : Type 0} (t : Bool) (x y z : A) → t ≡ false → (if t then x else y) ≡ z → y ≡ z
else-is t x y z other e = sym (cond-false t x y other) ∙ e

pub then-from : {A : Type 0} (t : Bool) (x y z : A) → t ≡ true → x ≡ z → (if t then x else y) ≡ z
then-from t x y z here e = cond-true t x y here ∙ e

pub else-from : {A : Type 0} (t : Bool) (x y z : A) → t ≡ false → y ≡ z → (if t then x else y) ≡ z
else-from t x y z other e = cond-false t x y other ∙ e
