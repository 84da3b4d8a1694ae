-- Chains that fit go on to fit.
use Rattle.std.proofs.Common.{◌≡◌, ◌≢◌, ℕ, true, false, List, [], ◌∷◌, sym, subst, inl, inr}
use Rattle.std.specs.Prelude.{bytes_eq}
use Rattle.std.proofs.lemmas.Bool.{both_ways, cases_Bool}
use Rattle.row_page.specs.Rows.{RowFits, key_most}
use Rattle.update_chain.specs.declared.update.Update.{Update}
use Rattle.update_chain.specs.Updates.{installed, is_named}
use Rattle.leaf_chains.specs.declared.slot.KeyChain.{KeyChain}
use Rattle.leaf_chains.specs.Slots.{chain_at, with_update}
use Rattle.leaf_chains.proofs.Changes.{key_self, same_key}
use Rattle.leaf_chains.proofs.Installs.{installs_change, installs_keep}
use Rattle.reconcile.specs.Cells.{cell_version}
use Rattle.reconcile.specs.Capture.{ChainFits, ChainsFit}

installed_fits : (key : List ℕ) (u : Update) (chain : List Update) → RowFits [] key_most (key, cell_version u.version) → ChainFits key chain → ChainFits key (installed u chain)
installed_fits key u [] new fit = (new, tt)
installed_fits key u (v ∷ older) new fit = elim (cases_Bool (is_named u.version.window.name v)) [
  | inl same ↦ rw same (new, fit.1)
  | inr other ↦ rw other (new, fit)
]

-- an install of what fits
pub install_fits : (key : List ℕ) (u : Update) (slots : List KeyChain) → RowFits [] key_most (key, cell_version u.version) → ChainsFit slots → ChainsFit (with_update key u slots)
install_fits key u slots new fit other = elim (cases_Bool (bytes_eq key other)) [
  | inl is ↦ subst (λ (k : List ℕ). ChainFits k (chain_at k (with_update key u slots))) (same_key key other is)
      (subst (ChainFits key) (sym (installs_change key u slots)) (installed_fits key u (chain_at key slots) new (fit key)))
  | inr isnt ↦ subst (ChainFits other) (sym (installs_keep key other u slots (apart isnt))) (fit other)
] where
  apart : bytes_eq key other ≡ false → other ≢ key
  apart isnt same = both_ways (bytes_eq key other) isnt (subst (λ (k : List ℕ). bytes_eq key k ≡ true) (sym same) (key_self key))
