-- The contract of an image over the lists of a leaf's key: the updates of its chain, then its cell, newest first.
use Rattle.std.proofs.Common.{◌≡◌, refl, sym, ◌∙◌, Bool, List, inl, inr, subst}
use Rattle.std.specs.Prelude.{Option, Some, None, find}
use Rattle.kv_model.specs.Holds.{Member, Descends, Picks}
use Rattle.kv_model.specs.Captures.{Reconciled, ReconciledLists}
use Rattle.kv_model.proofs.Newest.{find-member, find-none, find-newest}

pub reconciled-lists : {A : Type 0} (Below : A → A → Type 0) (live past : A → Bool) (held moved : List A) (cell : Option A)
    → Descends Below held → ReconciledLists Below live past held cell moved → Reconciled Below live past (λ x. Member x held) cell (λ x. Member x moved)
reconciled-lists {A} Below live past held moved cell d r = record {
  newest = subst (λ o. Picks Below (λ x. Member x held) live o) (sym r.cell_is) (picks (find live held) refl);
  moved = r.from;
  all = λ x there lives. elim (r.all x there lives) [ inl is ↦ inl (r.cell_is ∙ is) | inr rest ↦ inr rest ];
} where
  picks : (o : Option A) → find live held ≡ o → Picks Below (λ x. Member x held) live o
  picks None e = λ x there t. find-none live held e x there t
  picks (Some g) e = let m = find-member live held g e in record { held = m.0; passes = m.1; newest = find-newest Below live held g d e }
