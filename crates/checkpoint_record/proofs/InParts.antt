-- A record's body is read in four parts.
use Rattle.std.proofs.Common.{◌≡◌, ℕ, List, Option, Some, None, refl}
use Rattle.le_codec.specs.Fields.{◌>>=◌}
use Rattle.le_codec.specs.Combine.{then_at, as_at}
use Rattle.stored.specs.Reading.{record_at}
use Rattle.checkpoint_record.specs.Parts.{marks_at, history_at, body_at}

bind_assoc : {A B C : Type 0} (o : Option A) (f : A → Option B) (g : B → Option C) → ((o >>= f) >>= g) ≡ (o >>= λ a. f a >>= g)
bind_assoc (Some x) f g = refl
bind_assoc None f g = refl

pub record_in_parts : (count : ℕ) (bytes : List ℕ) → record_at count bytes ≡ body_at count bytes
unfolding record_at marks_at history_at then_at as_at
record_in_parts count bytes = simp bind_assoc
