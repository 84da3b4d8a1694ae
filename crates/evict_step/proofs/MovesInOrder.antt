-- Of a key the newest version that is held and those that move, newest first.
use Rattle.std.proofs.Common.{Bool, List, [], ◌∷◌, ◌++◌, inl, inr}
use Rattle.std.specs.Prelude.{filter, find}
use Rattle.std.specs.Option.{option_to_list}
use Rattle.std.proofs.lemmas.Bool.{cases_Bool}
use Rattle.item.specs.declared.Change.{Change}
use Rattle.stamp.specs.declared.Version.{Version}
use Rattle.kv_model.specs.Holds.{Descends}
use Rattle.kv_model.specs.History.{down_to}
use Rattle.kv_model.specs.Ordered.{Older}
use Rattle.reconcile.specs.declared.live.Live.TheVariants.{All}
use Rattle.reconcile.specs.Held.{is_live, moved_of}
use Rattle.reconcile.proofs.Sifting.{down_member, filter_member}

filter-descends : {A : Type 0} (Below : A → A → Type 0) (p : A → Bool) (l : List A) → Descends Below l → Descends Below (filter p l)
filter-descends Below p [] down = tt
filter-descends Below p (y ∷ l) down = elim (cases_Bool (p y)) [
  | inl t ↦ rw t ((λ x there. down.0 x (filter_member p l x there).0), filter-descends Below p l down.1)
  | inr f ↦ rw f (filter-descends Below p l down.1)
]

down-descends : {A : Type 0} (Below : A → A → Type 0) (p : A → Bool) (l : List A) → Descends Below l → Descends Below (down_to p l)
down-descends Below p [] down = tt
down-descends Below p (y ∷ l) down = elim (cases_Bool (p y)) [
  | inl t ↦ rw t ((λ x none. absurd none), tt)
  | inr f ↦ rw f ((λ x there. down.0 x (down_member p l x there)), down-descends Below p l down.1)
]

pub newest-descends : (past : Version Change → Bool) (held : List (Version Change)) → Descends Older held → Descends Older (option_to_list (find (is_live All) held) ++ moved_of (is_live All) past held)
newest-descends past [] down = tt
newest-descends past (v ∷ older) down = elim (cases_Bool (past v)) [
  | inl is ↦ rw is ((λ x none. absurd none), tt)
  | inr isnt ↦ rw isnt (
    (λ x there. down.0 x (filter_member (is_live All) older x (down_member past (filter (is_live All) older) x there)).0),
    down-descends Older past (filter (is_live All) older) (filter-descends Older (is_live All) older down.1),
  )
]
