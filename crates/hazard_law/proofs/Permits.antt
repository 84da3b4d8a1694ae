-- Each kind of step is one that the law of the words allows.
use Rattle.std.proofs.Common.{ℕ, inl, inr}
use Rattle.pool_law.specs.Whole.{Noted}
use Rattle.pool_law.specs.Obligations.{Allowed}
use Rattle.hazard_law.specs.Safety.{Turns, looks, publishes, validates, clears, locks_frame, scans, unlocks, frees, fills}
use Rattle.hazard_law.specs.Kinds.{publishing, clearing, looking, validating, locking, scanning, unlocking, freeing, filling}

module _ {N : Type 0} (turns : Noted N → ℕ → ℕ → ℕ → N → Type 0) where
  pub publishing_allowed : Allowed (Turns turns) (publishing turns)
  publishing_allowed v i m n after (k, w, f, p) = publishes w f k p.own.0 p.own.1 p.named p.beside p.then

  pub clearing_allowed : Allowed (Turns turns) (clearing turns)
  clearing_allowed v i m n after (k, w, p) = clears w k p.own.0 p.own.1 p.blank p.beside p.then

  pub looking_allowed : Allowed (Turns turns) (looking turns)
  looking_allowed v i m n after (k, p) = looks k p.same p.beside p.then

  pub validating_allowed : Allowed (Turns turns) (validating turns)
  validating_allowed v i m n after (inl (k, f, g, p)) = validates v.note.last_word f g k p.state.0 p.state.1 p.found p.same p.named p.beside p.then
  validating_allowed v i m n after (inr (other, p)) = looking_allowed v i m n after p

  pub locking_allowed : Allowed (Turns turns) (locking turns)
  locking_allowed v i m n after (inl (k, f, g, p)) = locks_frame f g k p.state.0 p.state.1 p.found p.now p.beside p.then
  locking_allowed v i m n after (inr p) = looking_allowed v i m n after p

  pub scanning_allowed : Allowed (Turns turns) (scanning turns)
  scanning_allowed v i m n after (inl (k, g, c, d, place, p)) = scans v.note.last_frame g c d place k p.lock p.range p.at p.same p.other p.count p.beside p.then
  scanning_allowed v i m n after (inr (named, p)) = looking_allowed v i m n after p

  pub unlocking_allowed : Allowed (Turns turns) (unlocking turns)
  unlocking_allowed v i m n after (k, f, g, c, p) = unlocks f g c k p.lock p.at p.now p.beside p.then

  pub freeing_allowed : Allowed (Turns turns) (freeing turns)
  freeing_allowed v i m n after (k, f, g, p) = frees f g k p.lock p.at p.now p.beside p.then

  pub filling_allowed : Allowed (Turns turns) (filling turns)
  filling_allowed v i m n after (k, f, g, p) = fills f g k p.state.0 p.state.1 p.found p.now p.beside p.then
