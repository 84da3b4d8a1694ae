-- A decision of Create needs the formats of the table of its name alone, and a number above all that were made.
use Rattle.std.proofs.Common.{◌≡◌, sym, refl, subst, ℕ, ◌≤◌, List, [], ◌∷◌, length, arith, inl, inr}
use Rattle.std.specs.Prelude.{max, Option, Some, None, option_map}
use Rattle.kv_model.specs.Holds.{Member}
use Rattle.kv_model.specs.History.{Table, Entry, Create, Commit, Prepare, Resolve, Undo, Rts, created}
use Rattle.kv_model.specs.Decisions.{create_decision}
use Rattle.kv_plain.specs.Decisions.{created_with}

pub created-with : (known : List Table) (table : Table) (old : Option Table) → created_with (length known) table (option_map (λ (t : Table). t.formats) old) ≡ create_decision known table old
created-with known table None = refl
created-with known table (Some old) = refl

module _ (older : List Entry) (one others : ℕ) (below : (t : Table) → Member t (created older) → t.number ≤ others) where
  in-older : (t : Table) → Member t (created older) → t.number ≤ max one others
  in-older t there = let h = below t there in omega arith

  above-both : (entry : Entry) → ((t : Table) → Member t (created (entry ∷ [])) → t.number ≤ one) → (t : Table) → Member t (created (entry ∷ older)) → t.number ≤ max one others
  above-both (Create u) first t (inl is) = let h = first t (inl is) in omega arith
  above-both (Create u) first t (inr there) = in-older t there
  above-both (Commit name writes) first t there = in-older t there
  above-both (Prepare name stamp) first t there = in-older t there
  above-both (Resolve name writes) first t there = in-older t there
  above-both (Undo name) first t there = in-older t there
  above-both (Rts stable) first t there = in-older t there

pub greatest-made : (entry : Entry) (older history : List Entry) (one others n : ℕ) → history ≡ entry ∷ older → ((t : Table) → Member t (created (entry ∷ [])) → t.number ≤ one) → ((t : Table) → Member t (created older) → t.number ≤ others)
    → n ≡ max one others → (t : Table) → Member t (created history) → t.number ≤ n
greatest-made entry older history one others n is first below most t there =
    subst (λ k. t.number ≤ k) (sym most) (above-both older one others below entry first t (subst (λ h. Member t (created h)) is there))
