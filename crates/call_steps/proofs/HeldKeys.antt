-- Of a key that a leaf names nowhere it holds nothing.
use Rattle.std.proofs.Common.{◌≡◌, ◌≢◌, ◌∙◌, ◌⊎◌, ℕ, List, [], ◌∷◌, map, Option, None, refl, sym, ap, inl, inr}
use Rattle.std.specs.Prelude.{bytes_eq, option_map}
use Rattle.std.specs.Option.{option_to_list}
use Rattle.std.proofs.lemmas.Bool.{cases_Bool}
use Rattle.kv_model.specs.Holds.{Member}
use Rattle.row_page.specs.Changes.{PageChange, version_in}
use Rattle.row_page.specs.Rows.{Row}
use Rattle.stamp.specs.declared.Version.{Version}
use Rattle.leaf_rows.specs.Rows.{version_at}
use Rattle.reconcile.specs.Shows.{shown_at}
use Rattle.update_chain.specs.declared.update.Update.{Update}
use Rattle.update_chain.proofs.Below.{member-append-left, member-append-right}
use Rattle.leaf_chains.specs.declared.slot.KeyChain.{KeyChain}
use Rattle.leaf_chains.specs.Slots.{chain_at}
use Rattle.leaf_chains.proofs.Changes.{same_key}
use Rattle.reconcile.specs.Held.{held_at}
use Rattle.leaf_frame.specs.Leaf.{HeldLeaf}
use Rattle.leaf_frame.specs.Near.{keys_in}
use Rattle.leaf_frame.specs.Next.{held_of}

abbrev slot_keys : List KeyChain → List (List ℕ)
slot_keys slots = map {A = KeyChain} (λ s. s.key) slots

abbrev row_keys : List Row → List (List ℕ)
row_keys rows = map {A = Row} (λ r. r.0) rows

chained : (key : List ℕ) (slots : List KeyChain) → Member key (slot_keys slots) ⊎ (chain_at key slots ≡ [])
chained key [] = inr refl
chained key (s ∷ slots) = elim (cases_Bool (bytes_eq s.key key)) [
  | inl t ↦ inl (inl (sym (same_key s.key key t)))
  | inr f ↦ rw f (elim (chained key slots) [ inl there ↦ inl (inr there) | inr none ↦ inr none ])
]

rowed : (key : List ℕ) (rows : List Row) → Member key (row_keys rows) ⊎ (version_at key rows ≡ None)
rowed key [] = inr refl
rowed key (r ∷ rows) = elim (cases_Bool (bytes_eq r.0 key)) [
  | inl t ↦ inl (inl (sym (same_key r.0 key t)))
  | inr f ↦ rw f (elim (rowed key rows) [ inl there ↦ inl (inr there) | inr none ↦ inr none ])
]

pub held_known : (key : List ℕ) (leaf : HeldLeaf) → held_at key leaf.page leaf.chains ≢ [] → Member key (keys_in leaf)
held_known key leaf held = elim (chained key leaf.chains) [
  | inl there ↦ member-append-left key (slot_keys leaf.chains) (row_keys leaf.page) there
  | inr bare ↦ elim (rowed key leaf.page) [
    | inl there ↦ member-append-right key (slot_keys leaf.chains) (row_keys leaf.page) there
    | inr none ↦ absurd (held
        (ap (λ (c : List Update). held_of c (shown_at key leaf.page)) bare
        ∙ ap (λ (o : Option (Version PageChange)). option_to_list (option_map version_in o)) none))
  ]
]
