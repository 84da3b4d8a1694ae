-- Lemmas on what a sink takes.
use Rattle.std.specs.Prelude.{◌≡◌, ℕ, List, [], ◌++◌, Option, Some, None, Result, Ok, Err, OnErr, refl}
use Rattle.std.proofs.Common.{sym, subst, ◌∙◌, ap, append_assoc, arith}
use Rattle.std.proofs.lemmas.List.{append-nil}
use Rattle.wt_io.specs.Streams.{Took, TookFront, TookPart}

-- a sink that stands still has taken nothing
pub took_none : (now : Option (List ℕ)) → Took now now []
took_none None = refl
took_none (Some all) = ap (λ (l : List ℕ). Some l) (sym (append-nil all))

-- two writes one after the other are a write of both
pub took_more : (first second third : Option (List ℕ)) (xs ys : List ℕ) → Took first second xs → Took second third ys → Took first third (xs ++ ys)
took_more None second third xs ys a b = then (subst (λ (o : Option (List ℕ)). Took o third ys) a b)
  where
    then : Took None third ys → third ≡ None
    then is = is
took_more (Some before) second third xs ys a b = then (subst (λ (o : Option (List ℕ)). Took o third ys) a b) ∙ ap (λ (l : List ℕ). Some l) (append_assoc before xs ys)
  where
    then : Took (Some (before ++ xs)) third ys → third ≡ Some ((before ++ xs) ++ ys)
    then is = is

-- a part of the bytes is a front of them
pub part_is_front : (before now : Option (List ℕ)) (bytes : List ℕ) → TookPart before now bytes → TookFront before now bytes
part_is_front before now bytes (n, short, took) = (n, omega (arith, short), took)

-- the same of what a call answers
pub part_is_front_where : {T E : Type 0} (result : Result T E) (before now : Option (List ℕ)) (bytes : List ℕ) → OnErr result (TookPart before now bytes) → OnErr result (TookFront before now bytes)
part_is_front_where (Ok x) before now bytes part = tt
part_is_front_where (Err e) before now bytes part = part_is_front before now bytes part
