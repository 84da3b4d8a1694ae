-- What the refusal of an opening tells.
use Rattle.std.proofs.Common.{◌≡◌, ℕ, List, sym, subst, ◌∙◌, inl, inr}
use Rattle.wt_code.specs.declared.refusals.Refusal.{Refusal}
use Rattle.wt_code.specs.declared.refusals.Refusal.TheVariants.{Corrupt, DiskFault, NoMemory, Limit as Refusal_Limit}
use Rattle.wt_code.specs.declared.refusals.Limit.TheVariants.{Checkpoints, Tables}
use Rattle.engine_store.specs.Opened.{IsAtFault, OpenRefused}

-- the sums and the place that are told are those of what is at fault
told_of : (P : ℕ → ℕ → ℕ → Type 0) (r : Refusal) (at want found at' want' found' : ℕ) → r ≡ Corrupt at' want' found' → r ≡ Corrupt at want found → P at' want' found' → P at want found
told_of P r at want found at' want' found' is same there =
    let e : Corrupt at' want' found' ≡ Corrupt at want found = sym is ∙ same in
    let place : at' ≡ at = cc in
    let wanted : want' ≡ want = cc in
    let met : found' ≡ found = cc in
    subst (λ (x : ℕ). P x want found) place (subst (λ (x : ℕ). P at' x found) wanted (subst (λ (x : ℕ). P at' want' x) met there))

-- of damage it tells that of the device, or a leaf at fault
pub damage_of : (fault known : Type 0) (bytes : List ℕ) (r : Refusal) → OpenRefused fault known bytes r → (at want found : ℕ) → r ≡ Corrupt at want found → known → IsAtFault bytes at want found
damage_of fault known bytes r (inl (inl (is, rose))) at want found same k = let e : DiskFault ≡ Corrupt at want found = sym is ∙ same in absurd (cc)
damage_of fault known bytes r (inl (inr (inl is))) at want found same k = let e : NoMemory ≡ Corrupt at want found = sym is ∙ same in absurd (cc)
damage_of fault known bytes r (inl (inr (inr (at', want', found', is, damage)))) at want found same k = told_of (IsAtFault bytes) r at want found at' want' found' is same (damage k)
damage_of fault known bytes r (inr (inl (is, last))) at want found same k = let e : Refusal_Limit Checkpoints ≡ Corrupt at want found = sym is ∙ same in absurd (cc)
damage_of fault known bytes r (inr (inr (is, used, not_blank))) at want found same k = let e : Refusal_Limit Tables ≡ Corrupt at want found = sym is ∙ same in absurd (cc)

-- and of a fault that the disk counted it
pub fault_of : (fault known : Type 0) (bytes : List ℕ) (r : Refusal) → OpenRefused fault known bytes r → r ≡ DiskFault → fault
fault_of fault known bytes r (inl (inl (is, rose))) same = rose
fault_of fault known bytes r (inl (inr (inl is))) same = let e : NoMemory ≡ DiskFault = sym is ∙ same in absurd (cc)
fault_of fault known bytes r (inl (inr (inr (at, want, found, is, damage)))) same = let e : Corrupt at want found ≡ DiskFault = sym is ∙ same in absurd (cc)
fault_of fault known bytes r (inr (inl (is, last))) same = let e : Refusal_Limit Checkpoints ≡ DiskFault = sym is ∙ same in absurd (cc)
fault_of fault known bytes r (inr (inr (is, used, not_blank))) same = let e : Refusal_Limit Tables ≡ DiskFault = sym is ∙ same in absurd (cc)
