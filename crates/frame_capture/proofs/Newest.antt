-- What is captured of a chain over a row, where they stand for their key.
use Rattle.std.proofs.Common.{◌≡◌, ◌∙◌, ◌++◌, ℕ, true, List, [], ◌∷◌, map, Option, Some, None, refl, ap, sym, subst, inl, inr}
use Rattle.std.specs.Option.{option_to_list}
use Rattle.item.specs.declared.Change.{Change}
use Rattle.stamp.specs.declared.Version.{Version}
use Rattle.kv_model.specs.AgreementLaws.{head_of}
use Rattle.kv_model.specs.Holds.{Member, Descends}
use Rattle.kv_model.specs.Ordered.{Older}
use Rattle.kv_model.specs.History.{line}
use Rattle.kv_model.specs.Machine.{Machine}
use Rattle.kv_model.specs.Pending.{InFrame, KeyStands, TopStands, Update as ModelUpdate}
use Rattle.kv_model.specs.StoreLaws.{Held, or_else}
use Rattle.kv_model.proofs.Finishing.{line-committed}
use Rattle.kv_model.proofs.Ordering.{line-descends}
use Rattle.snapshot.specs.Sight.{Sight, is_seen}
use Rattle.update_chain.specs.declared.update.Update.{Update}
use Rattle.update_chain.specs.Updates.{unmarked_update, update_in}
use Rattle.update_chain.proofs.Meeting.{back}
use Rattle.leaf_chains.specs.Slots.{chain_at}
use Rattle.reconcile.specs.Shows.{shown_at}
use Rattle.reconcile.proofs.Newest.{back_all, back_parts, newest_held, top_unseen}
use Rattle.reconcile.proofs.Picking.{captured_below, captured_here}
use Rattle.frame_capture.specs.Capture.{captured_over, seen_row}
use Rattle.frame_capture.specs.Laws.{CapturedRowsAreNewest, CapturesAreNewest}

-- ---- the versions in a frame

-- those of the chain, and then that of the row
abbrev frame_of : List (Version Change) → Option (Version Change) → List (Version Change)
frame_of held row = held ++ option_to_list row

member_frame : (held : List (Version Change)) (row : Option (Version Change)) (v : Version Change) → Member v (frame_of held row) → InFrame held row v
member_frame [] None v there = absurd there
member_frame [] (Some w) v (inl same) = inr (ap (λ (x : Version Change). Some x) (sym same))
member_frame [] (Some w) v (inr none) = absurd none
member_frame (h ∷ held) row v (inl same) = inl (inl same)
member_frame (h ∷ held) row v (inr later) = elim (member_frame held row v later) [ inl there ↦ inl (inr there) | inr cell ↦ inr cell ]

frame_member : (held : List (Version Change)) (row : Option (Version Change)) (v : Version Change) → InFrame held row v → Member v (frame_of held row)
frame_member [] row v (inl there) = absurd there
frame_member [] row v (inr cell) = subst (λ (o : Option (Version Change)). Member v (option_to_list o)) (sym cell) (inl refl)
frame_member (h ∷ held) row v (inl there) = elim there [ inl same ↦ inl same | inr later ↦ inr (frame_member held row v (inl later)) ]
frame_member (h ∷ held) row v (inr cell) = inr (frame_member held row v (inr cell))

-- of versions that are seen the first is captured
held_over : (s : Sight) (held : List (Version Change)) (row : Option (Version Change)) → ((v : Version Change) → Member v (frame_of held row) → is_seen s v.window.name ≡ true) → captured_over s (map unmarked_update held) row ≡ head_of (frame_of held row)
held_over s [] None seen = refl
held_over s [] (Some v) seen = let is = seen v (inl refl) in rw is refl
held_over s (v ∷ older) row seen = ap (λ (o : Option (Version Change)). or_else o (seen_row s row)) (captured_here s (unmarked_update v) (map unmarked_update older) (seen v (inl refl)))

-- the newest is in the frame, since nothing covers it
below_frame : (m : Machine) (table : ℕ) (key : List ℕ) (chain : List ModelUpdate) (row : Option (Version Change)) → (k : KeyStands m table key chain row (Held [])) → Descends Older k.below → head_of (frame_of k.held row) ≡ head_of k.below
below_frame m table key chain row k down = newest_held (frame_of k.held row) k.below down k.ordered
    (λ v at. k.stores.kept.within v (inl (member_frame k.held row v at)))
    (λ v at. elim (k.stores.kept.all v at) [
      | inl one ↦ elim one [ inl frame ↦ inl (frame_member k.held row v frame) | inr none ↦ absurd none ]
      | inr covered ↦ inr (covered.0, covered.1, covered.2)
    ])

-- ---- the laws

pub captures-newest : CapturesAreNewest
captures-newest m table key chain row s valid none sees k = ap (λ (l : List Update). captured_over s l row) whole ∙ by_top k.top k.topped where
  whole : chain ≡ map back k.top ++ map unmarked_update k.held
  whole = sym (back_all chain) ∙ (ap (map back) k.chained ∙ back_parts k.top k.held)

  -- of the frame, where it has all that stands
  of_frame : line m.history table key ≡ k.below → captured_over s (map unmarked_update k.held) row ≡ head_of (line m.history table key)
  of_frame under =
      held_over s k.held row (λ v at.
      let there = line-committed m.history table key v (subst (λ (l : List (Version Change)). Member v l) (sym under) (k.stores.kept.within v (inl (member_frame k.held row v at)))) in
      sees.sees v.window.name (inl there) ∙ there)
      ∙ (below_frame m table key (map update_in chain) row k (subst (λ (l : List (Version Change)). Descends Older l) under (line-descends m.history valid.orderly table key)) ∙ ap head_of (sym under))

  by_top : (top : List ModelUpdate) → TopStands m table key top k.below → captured_over s (map back top ++ map unmarked_update k.held) row ≡ head_of (line m.history table key)
  by_top [] topped = of_frame topped.0
  by_top (u ∷ []) q =
      let t = top_unseen m table key s u k.below valid none sees q in
      ap (λ (o : Option (Version Change)). or_else o (seen_row s row)) (captured_below s (back u) (map unmarked_update k.held) t.unseen) ∙ of_frame t.under
  by_top (u ∷ (w ∷ more)) topped = absurd topped

pub captured-newest : CapturedRowsAreNewest
captured-newest m table leaf s rows valid none sees stands is key =
    sym (captures-newest m table key (chain_at key leaf.chains) (shown_at key leaf.page) s valid (λ r t wrote resolves. absurd (none r t wrote.0 resolves)) sees (stands key)) ∙ sym (is.shows key)
