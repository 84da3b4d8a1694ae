-- What a running checkpoint holds of a key, with what is gathered of it.
use Rattle.std.specs.Prelude.{◌≡◌, ℕ, true, List, [], ◌++◌, find, map, nat_le, Option, Some, refl}
use Rattle.std.specs.Option.{option_to_list}
use Rattle.std.proofs.Common.{inl, inr, sym, ◌∙◌, ap, subst}
use Rattle.std.proofs.lemmas.Bool.{and_parts, both_ways, leb-true}
use Rattle.std.proofs.lemmas.List.{append-nil}
use Rattle.item.specs.declared.Change.{Change}
use Rattle.stamp.specs.declared.Name.{Name}
use Rattle.stamp.specs.declared.Version.{Version}
use Rattle.kv_model.specs.Captures.{CapturedIn, ReconciledLists, is_in}
use Rattle.kv_model.specs.Droppable.{covers}
use Rattle.kv_model.specs.Holds.{Member}
use Rattle.kv_model.specs.History.{line}
use Rattle.kv_model.specs.Machine.{Checkpoint, Machine, name_of}
use Rattle.kv_model.specs.Ordered.{Older}
use Rattle.kv_model.specs.Pending.{HasEnded}
use Rattle.kv_model.specs.ReconcileLaws.{CaptureIsHeld, LeafIsHeld}
use Rattle.kv_model.specs.Reconciling.{PrefixHasEnded, held_in}
use Rattle.kv_model.specs.StoreLaws.{Held}
use Rattle.kv_model.specs.SweepLaws.{Added, AddsHold}
use Rattle.kv_model.specs.Valid.{Valid}
use Rattle.kv_model.proofs.Finishing.{line-committed}
use Rattle.snapshot.specs.Matters.{IsUnended}
use Rattle.snapshot.specs.Past.{IsPast, is_below}
use Rattle.snapshot.specs.Sight.{Sight, is_seen}
use Rattle.txn_table.specs.Checkpoints.{EndedIsSeen}
use Rattle.update_chain.specs.declared.update.Update.{Update}
use Rattle.update_chain.specs.Updates.{update_in}
use Rattle.update_chain.specs.EventLaws.{StandsFor}
use Rattle.reconcile.specs.Held.{is_past, moved_of, versions}
use Rattle.reconcile.specs.Laws.{KeysAreReconciled}
use Rattle.evict_step.proofs.HeldEnded.{held-ended, held-ordered, held-same, line-ended}
use Rattle.hist_gather.specs.Sources.{sees}

-- the laws on which it rests
pub record Laws : Type 0 where
  pub captures : CaptureIsHeld
  pub rests : LeafIsHeld
  pub adds : AddsHold
  pub reconciled : KeysAreReconciled

-- a name of this run and id
abbrev named : ℕ → ℕ → Name
named run id = record { run = run; id = id }

module _ (laws : Laws) (m : Machine) (c : Checkpoint) (valid : Valid m) (runs : m.checkpoint ≡ Some c) (ended : PrefixHasEnded m c) (table : ℕ) (key : List ℕ) where
  -- ---- of a leaf in a frame

  module _ (chain : List Update) (row : Option (Version Change)) (stands : StandsFor m table key chain row []) (s : Sight) (sight : EndedIsSeen m s) (pin : ℕ) (floor : Name) (past : IsPast m table key pin floor) where
    abbrev held : List (Version Change)
    held = versions chain ++ option_to_list row

    abbrev moved : List (Version Change)
    moved = moved_of (sees s) (is_past pin floor) held

    -- what the checkpoint captures had ended
    seen-line : (v : Version Change) → Member v (line m.history table key) → is_in m.history c.prefix v ≡ true → sees s v ≡ true
    seen-line v there is = sight.ended v.window.name (line-committed m.history table key v there) unended where
      unended : v.window.name.run ≡ m.run → IsUnended m v.window.name.id → ⊥
      unended run living =
          let own : v.window.name ≡ named m.run v.window.name.id = ap (λ (r : ℕ). named r v.window.name.id) run in
          ended table key v there is living.session living.transaction living.there (own ∙ ap (λ (i : ℕ). named m.run i) (sym living.same))

    ended-held : (v : Version Change) → Member v (held_in (map update_in chain) row) → sees s v ≡ true → HasEnded m v.window.name
    ended-held v there is = held-ended m table key chain row valid stands v (subst (λ (l : List (Version Change)). Member v l) (sym (held-same chain row)) there)
        (λ live. both_ways (is_seen s v.window.name) (sight.living.unseen v.window.name live) is)

    ended-line : (v : Version Change) → Member v (line m.history table key) → sees s v ≡ true → HasEnded m v.window.name
    ended-line v there is = line-ended m table key v valid there (λ live. both_ways (is_seen s v.window.name) (sight.living.unseen v.window.name live) is)

    covered : (v : Version Change) → Member v (line m.history table key) → is_past pin floor v ≡ true → covers m v ≡ true
    covered v there is = let both = and_parts (nat_le v.window.durable pin) (is_below v.window.name floor) is in past.cover v there (leb-true v.window.durable pin both.0) both.1

    reconciled : ReconciledLists Older (sees s) (is_past pin floor) (held_in (map update_in chain) row) (find (sees s) held) moved
    reconciled = subst (λ (l : List (Version Change)). ReconciledLists Older (sees s) (is_past pin floor) l (find (sees s) held) moved) (held-same chain row)
        (laws.reconciled (sees s) (is_past pin floor) held (held-ordered m table key chain row valid stands))

    pub frame-held : CapturedIn m c table key (find (sees s) held) (Held (moved ++ []))
    frame-held = laws.captures m c table key (sees s) (is_past pin floor) (map update_in chain) row (find (sees s) held) [] moved valid runs seen-line ended-held ended-line (λ v there. absurd there) covered reconciled stands

  -- ---- of one in none

  pub device-held : (row : Option (Version Change)) (records : List (Version Change)) → StandsFor m table key [] row records → CapturedIn m c table key row (Held (records ++ []))
  device-held row records stands = subst (λ (l : List (Version Change)). CapturedIn m c table key row (Held l)) (sym (append-nil records)) (laws.rests m c table key row records valid runs stands)

  -- with more versions that stand they are all the more
  pub wider-held : (cell : Option (Version Change)) (some more : List (Version Change)) → ((v : Version Change) → Member v some → Member v more) → ((v : Version Change) → Member v more → Member v (line m.history table key)) → CapturedIn m c table key cell (Held some)
      → CapturedIn m c table key cell (Held more)
  wider-held cell some more among within captured = record {
    cell_there = captured.cell_there;
    within = within;
    all = λ v there is. elim (captured.all v there is) [
      | inl either ↦ elim either [
        | inl own ↦ inl (inl own)
        | inr held ↦ inl (inr (among v held))
      ]
      | inr covered ↦ inr covered
    ];
    top = captured.top;
  }

  -- ---- in a set by names

  pub set-held : (cell : Option (Version Change)) (older later : List (Version Change)) → Added [] older later → CapturedIn m c table key cell (Held (older ++ [])) → CapturedIn m c table key cell (Held later)
  set-held cell older later added captured = laws.adds m c table key cell [] older later valid added captured
