-- Known bytes that stay, and then stay, are consumed or grow.
use Rattle.std.proofs.Common.{◌∙◌, ◌++◌, ℕ, List, Option, Some, None, ap, refl, sym}
use Rattle.std.specs.Io.KnownBytes.{Appends, Consumes, Keeps}

pub keeps_itself : (o : Option (List ℕ)) → Keeps o o
keeps_itself None = tt
keeps_itself (Some xs) = refl

pub keeps_twice : (a b c : Option (List ℕ)) → Keeps a b → Keeps b c → Keeps a c
keeps_twice None b c first second = tt
keeps_twice (Some xs) None c first second = absurd first
keeps_twice (Some xs) (Some ys) None first second = absurd second
keeps_twice (Some xs) (Some ys) (Some zs) first second = second ∙ first

pub keeps_then_consumes : (a b c : Option (List ℕ)) (bs : List ℕ) → Keeps a b → Consumes b c bs → Consumes a c bs
keeps_then_consumes None b c bs first second = tt
keeps_then_consumes (Some xs) None c bs first second = absurd first
keeps_then_consumes (Some xs) (Some ys) None bs first second = absurd second
keeps_then_consumes (Some xs) (Some ys) (Some zs) bs first second = sym first ∙ second

pub keeps_then_appends : (a b c : Option (List ℕ)) (bs : List ℕ) → Keeps a b → Appends b c bs → Appends a c bs
keeps_then_appends None b c bs first second = tt
keeps_then_appends (Some xs) None c bs first second = absurd first
keeps_then_appends (Some xs) (Some ys) None bs first second = absurd second
keeps_then_appends (Some xs) (Some ys) (Some zs) bs first second = second ∙ ap (λ (l : List ℕ). l ++ bs) first
