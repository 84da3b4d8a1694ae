-- One key of a leaf that comes into a frame: what the history kept of it lies in the frame, below what its block has.
use Rattle.std.proofs.Common.{◌≡◌, ◌⊎◌, ℕ, refl, ap, sym, List, [], ◌∷◌, ◌++◌, map, inl, inr, subst}
use Rattle.std.specs.Prelude.{Option, Some, None}
use Rattle.std.specs.Option.{option_to_list}
use Rattle.item.specs.declared.Change.{Change}
use Rattle.stamp.specs.declared.Version.{Version}
use Rattle.kv_model.specs.Holds.{Descends, Member}
use Rattle.kv_model.specs.Machine.{Machine}
use Rattle.kv_model.specs.Ordered.{Older}
use Rattle.kv_model.specs.Pending.{InFrame, TopStands, Update as ModelUpdate, settled}
use Rattle.kv_model.specs.StoreLaws.{Held}
use Rattle.kv_model.proofs.Finishing.{member-append}
use Rattle.kv_model.proofs.ReconciledKeys.{frame-list, list-frame, member-cell}
use Rattle.update_chain.specs.EventLaws.{StandsFor}
use Rattle.update_chain.specs.Updates.{update_in}
use Rattle.update_chain.specs.declared.update.Update.{Update}
use Rattle.reconcile.specs.Held.{versions}

-- ---- a row, and records below it

in-cell : (cell : Option (Version Change)) (records : List (Version Change)) (v : Version Change) → cell ≡ Some v → Member v (option_to_list cell ++ records)
in-cell None records v is = absurd (cc)
in-cell (Some w) records v is = inl (let same : w ≡ v = cc in sym same)

in-records : (cell : Option (Version Change)) (records : List (Version Change)) (v : Version Change) → Member v records → Member v (option_to_list cell ++ records)
in-records None records v there = there
in-records (Some w) records v there = inr there

-- ---- a chain of unmarked updates

all-settled : (chain : List Update) → ((u : Update) → Member u chain → u.prepared ≡ 0) → map update_in chain ≡ map settled (versions chain)
all-settled [] unmarked = refl
all-settled (u ∷ older) unmarked = λ i. (record { version = u.version; prepared = unmarked u (inl refl) i }) ∷ all-settled older (λ x there. unmarked x (inr there)) i

-- none is held where nothing is
pub nothing-held : (chain : List Update) (row : Option (Version Change)) → versions chain ++ option_to_list row ≡ [] → (chain ≡ []) × (row ≡ None)
nothing-held [] None is = (refl, refl)
nothing-held [] (Some v) is = absurd (cc)
nothing-held (u ∷ older) row is = absurd (cc)

-- a leaf in no frame has no update on top and holds none in a chain
none-chained : (top : List ModelUpdate) (held : List (Version Change)) → [] ≡ top ++ map settled held → (top ≡ []) × (held ≡ [])
none-chained [] [] is = (refl, refl)
none-chained [] (v ∷ held) is = absurd (cc)
none-chained (u ∷ top) held is = absurd (cc)

-- ---- the key

-- as one list it has what it had, newest first
pub comes-back : (m : Machine) (table : ℕ) (key : List ℕ) (chain : List Update) (row cell : Option (Version Change)) (records : List (Version Change)) → versions chain ++ option_to_list row ≡ option_to_list cell ++ records
    → ((u : Update) → Member u chain → u.prepared ≡ 0) → Descends Older (option_to_list cell ++ records) → StandsFor m table key [] cell records → StandsFor m table key chain row []
comes-back m table key chain row cell records whole unmarked down k = record {
  top = [];
  held = versions chain;
  below = k.below;
  chained = all-settled chain unmarked;
  ordered = subst (Descends Older) (sym whole) down;
  topped = subst (λ (top : List ModelUpdate). TopStands m table key top k.below) none.0 k.topped;
  stores = record {
    kept = record {
      within = λ v there. k.stores.kept.within v (was v there);
      all = λ v member. elim (k.stores.kept.all v member) [ inl there ↦ inl (inl (now v there)) | inr covered ↦ inr covered ];
    };
    upper = λ v w framed member above. elim (k.stores.kept.all w member) [
      | inl there ↦ inl (now w there)
      | inr covered ↦ inr (record { by = covered.0; there = covered.1; above = covered.2; is_cover = covered.3 })
    ];
  };
  layered = λ v none_kept. absurd none_kept;
} where
  none : (k.top ≡ []) × (k.held ≡ [])
  none = none-chained k.top k.held k.chained

  was : (v : Version Change) → InFrame (versions chain) row v ⊎ Held [] v → InFrame k.held cell v ⊎ Held records v
  was v (inr none_kept) = absurd none_kept
  was v (inl there) = elim (member-append v (option_to_list cell) records (subst (Member v) whole (frame-list (versions chain) row v there))) [
    | inl at ↦ inl (inr (member-cell cell v at))
    | inr at ↦ inr at
  ]

  now : (v : Version Change) → InFrame k.held cell v ⊎ Held records v → InFrame (versions chain) row v
  now v there = list-frame (versions chain) row v (subst (Member v) (sym whole) (by there)) where
    by : InFrame k.held cell v ⊎ Held records v → Member v (option_to_list cell ++ records)
    by (inl (inl chained)) = absurd (subst (Member v) none.1 chained)
    by (inl (inr is)) = in-cell cell records v is
    by (inr kept) = in-records cell records v kept
