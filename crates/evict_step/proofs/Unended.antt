-- A version that a leaf holds is of a transaction that has not ended exactly where a snapshot of what has ended does not see it.
use Rattle.std.proofs.Common.{◌≡◌, ◌≢◌, ◌≤◌, ◌<◌, ℕ, ap, sym, refl, ◌∙◌, List, [], ◌++◌, inl, inr, subst}
use Rattle.std.specs.Prelude.{Option, Some, None, Result, Ok, Err, true, false, IfOk, IfSome, MatchOption, option_and_then, option_map}
use Rattle.std.specs.Option.{option_to_list}
use Rattle.std.proofs.lemmas.Bool.{both_ways, cases_Bool, cases_eq}
use Rattle.std.proofs.lemmas.Option.{same_Some}
use Rattle.item.specs.declared.Change.{Change}
use Rattle.stamp.specs.declared.Name.{Name}
use Rattle.stamp.specs.declared.Version.{Version}
use Rattle.kv_model.specs.Holds.{Member}
use Rattle.kv_model.proofs.Finishing.{line-committed}
use Rattle.reconcile.specs.Shows.{shown_at}
use Rattle.snapshot.specs.Matters.{AreUnended, IsLive, IsUnended, SeesNoneLiving}
use Rattle.snapshot.specs.Sight.{Sight, is_listed, is_seen}
use Rattle.txn_table.specs.Checkpoints.{EndedIsSeen}
use Rattle.update_chain.specs.declared.update.Update.{Update}
use Rattle.update_chain.specs.EventLaws.{StandsFor}
use Rattle.update_chain.proofs.Below.{member-append-left}
use Rattle.leaf_chains.specs.Slots.{chain_at}
use Rattle.reconcile.specs.Held.{held_at, versions}
use Rattle.leaf_frame.specs.Leaf.{HeldLeaf}
use Rattle.leaf_frame.specs.Updates.{HasUpdate}
use Rattle.tree_dir.specs.declared.leaf.Framed.{Framed}
use Rattle.tree_dir.specs.declared.leaf.Leaf.{Leaf}
use Rattle.tree_dir.specs.Leaves.{leaf_named, leaf_under}
use Rattle.call_steps.specs.declared.frame.Frame.{Frame}
use Rattle.engine_world.specs.Leaves.{LeafInFrame, frame_in}
use Rattle.engine_world.specs.Stands.{Engine, Stands}
use Rattle.engine_world.specs.Worlds.{World}
use Rattle.engine_world.proofs.Emptying.{mine, mine-at}
use Rattle.engine_world.proofs.Homes.{lies-or-not}
use Rattle.engine.specs.Evictions.{MayBeEvicted}
use Rattle.engine.proofs.LeavesCome.{named-there}
use Rattle.evict_step.specs.Cuts.{AllHeldSeen, AllOfEnded, HoldsLeastUnseen, HoldsUnended, IsLeastUnended, IsOfUnended, TellsUnended, held_in}
use Rattle.evict_step.proofs.HeldEnded.{held-cases, held-ended}
use Rattle.evict_step.proofs.HeldSeen.{version-to}

-- ---- a leaf in a frame

-- the leaf of this id is there, in a frame that has it
pub record Sits (e : Engine) (id : ℕ) : Type 0 where
  pub leaf : Leaf
  pub there : leaf_named id e.hub.dir.leaves ≡ Some leaf
  pub framed : Framed
  pub placed : leaf.frame ≡ Some framed
  pub frame : Frame
  pub filled : frame_in e.pieces framed.frame ≡ Some frame

abbrev pub sits-may : (e : Engine) (id : ℕ) → MayBeEvicted e id → Sits e id
sits-may e id may = record { leaf = may.leaf; there = may.there; framed = may.framed; placed = may.placed; frame = may.frame; filled = may.filled }

-- what it holds there
pub sits-held : (e : Engine) (id : ℕ) (s : Sits e id) → held_in e id ≡ Some s.frame.leaf
sits-held e id s = ap (option_and_then (λ (framed : Framed). option_map (λ (f : Frame). f.leaf) (frame_in e.pieces framed.frame))) (ap (option_and_then (λ (l : Leaf). l.frame)) s.there ∙ s.placed)
    ∙ ap (option_map (λ (f : Frame). f.leaf)) s.filled

pub sits-where : (e : Engine) (id : ℕ) (held : HeldLeaf) → held_in e id ≡ Some held → (s : Sits e id) × (s.frame.leaf ≡ held)
sits-where e id held there = by-leaf (leaf_named id e.hub.dir.leaves) refl there where
  by-frame : (l : Leaf) → leaf_named id e.hub.dir.leaves ≡ Some l → (framed : Framed) → l.frame ≡ Some framed → (o : Option Frame) → frame_in e.pieces framed.frame ≡ o → option_map (λ (f : Frame). f.leaf) o ≡ Some held
      → (s : Sits e id) × (s.frame.leaf ≡ held)
  by-frame l named framed placed None filled is = absurd cc
  by-frame l named framed placed (Some f) filled is = (record { leaf = l; there = named; framed = framed; placed = placed; frame = f; filled = filled }, same_Some f.leaf held is)

  by-framed : (l : Leaf) → leaf_named id e.hub.dir.leaves ≡ Some l → (o : Option Framed) → l.frame ≡ o → option_and_then (λ (framed : Framed). option_map (λ (f : Frame). f.leaf) (frame_in e.pieces framed.frame)) o ≡ Some held
      → (s : Sits e id) × (s.frame.leaf ≡ held)
  by-framed l named None placed is = absurd cc
  by-framed l named (Some framed) placed is = by-frame l named framed placed (frame_in e.pieces framed.frame) refl is

  by-leaf : (o : Option Leaf) → leaf_named id e.hub.dir.leaves ≡ o → option_and_then (λ (framed : Framed). option_map (λ (f : Frame). f.leaf) (frame_in e.pieces framed.frame)) (option_and_then (λ (l : Leaf). l.frame) o) ≡ Some held
      → (s : Sits e id) × (s.frame.leaf ≡ held)
  by-leaf None named is = absurd cc
  by-leaf (Some l) named is = by-framed l named l.frame refl is

-- ---- what it holds

module _ (e : Engine) (id : ℕ) (s : Sits e id) (w : World) (st : Stands e w) where
  abbrev l : Leaf
  l = s.leaf

  abbrev f : Frame
  f = s.frame

  abbrev in_frame : LeafInFrame w.machine w.shelf w.records e.hub.dir.leaves e.pieces e.states l
  in_frame = mine e w l s.framed st (named-there id e.hub.dir.leaves l s.there) s.placed

  is : in_frame.laid.frame ≡ f
  is = same_Some in_frame.laid.frame f (sym in_frame.laid.there ∙ (ap (λ (g : Framed). frame_in e.pieces g.frame) (mine-at e w l s.framed st (named-there id e.hub.dir.leaves l s.there) s.placed) ∙ s.filled))

  pub keys-stand : (key : List ℕ) → leaf_under l.table key e.hub.dir.leaves ≡ Some l → StandsFor w.machine l.table key (chain_at key f.leaf.chains) (shown_at key f.leaf.page) []
  keys-stand key under = subst (λ (x : Frame). StandsFor w.machine l.table key (chain_at key x.leaf.chains) (shown_at key x.leaf.page) []) is (in_frame.keys key under)

  -- of other keys nothing is held
  pub none-held : (key : List ℕ) → leaf_under l.table key e.hub.dir.leaves ≢ Some l → held_at key f.leaf.page f.leaf.chains ≡ []
  none-held key outside = subst (λ (x : Frame). held_at key x.leaf.page x.leaf.chains ≡ []) is (let bare = in_frame.bare key outside in
      ap (λ (c : List Update). versions c ++ option_to_list (shown_at key in_frame.laid.frame.leaf.page)) bare.0 ∙ ap (λ (o : Option (Version Change)). [] ++ option_to_list o) bare.1)

  -- a key of which something is held lies in it
  lies : (key : List ℕ) (v : Version Change) → Member v (held_at key f.leaf.page f.leaf.chains) → leaf_under l.table key e.hub.dir.leaves ≡ Some l
  lies key v there = elim (lies-or-not e.hub.dir l key st.dir (named-there id e.hub.dir.leaves l s.there)) [
    | inl under ↦ under
    | inr outside ↦ absurd (subst (Member v) (none-held key outside) there)
  ]

  -- ---- what is not seen is of a transaction that has not ended

  id-is : (v : Version Change) → (live : IsLive w.machine v.window.name) → live.transaction.id ≡ v.window.name.id
  id-is v live = sym (ap (λ (n : Name). n.id) live.name)

  of-live : (v : Version Change) → IsLive w.machine v.window.name → (v.window.name.run ≡ w.machine.run) × IsUnended w.machine v.window.name.id
  of-live v live = (
    ap (λ (n : Name). n.run) live.name,
    record { session = live.session; transaction = live.transaction; there = live.there; drawn = subst (λ n. 0 < n) (id-is v live) live.drawn; same = id-is v live },
  )

  of-line : (k : Sight) → EndedIsSeen w.machine k → AreUnended w.machine k.list → (key : List ℕ) (v : Version Change) → Member v (held_at key f.leaf.page f.leaf.chains) → is_seen k v.window.name ≡ false
      → ((v.window.name.run ≡ w.machine.run → IsUnended w.machine v.window.name.id → ⊥) → is_seen k v.window.name ≡ true) → (v.window.name.run ≡ w.machine.run) × IsUnended w.machine v.window.name.id
  of-line k ended ids key v there unseen seen = elim (cases_eq v.window.name.run w.machine.run) [
    | inl run ↦ elim (cases_Bool (is_listed k.list v.window.name.id)) [
      | inl listed ↦ (run, ids.each v.window.name.id listed)
      | inr unlisted ↦ absurd (both_ways (is_seen k v.window.name) unseen (seen (λ same u. both_ways (is_listed k.list v.window.name.id) unlisted (ids.all v.window.name.id u))))
    ]
    | inr other ↦ absurd (both_ways (is_seen k v.window.name) unseen (seen (λ same u. other same)))
  ]

  unseen-of : (k : Sight) → EndedIsSeen w.machine k → AreUnended w.machine k.list → (key : List ℕ) (v : Version Change) → Member v (held_at key f.leaf.page f.leaf.chains) → is_seen k v.window.name ≡ false
      → (v.window.name.run ≡ w.machine.run) × IsUnended w.machine v.window.name.id
  unseen-of k ended ids key v there unseen = elim (held-cases w.machine l.table key (chain_at key f.leaf.chains) (shown_at key f.leaf.page) st.valid (keys-stand key (lies key v there)) v there) [
    | inl stands ↦ of-line k ended ids key v there unseen (ended.ended v.window.name (line-committed w.machine.history l.table key v stands))
    | inr live ↦ of-live v live
  ]

  -- ---- and what is of such a one is not seen

  unended-unseen : (k : Sight) → SeesNoneLiving w.machine k → (key : List ℕ) (v : Version Change) → Member v (held_at key f.leaf.page f.leaf.chains) → (by : ℕ) → v.window.name ≡ record { run = w.machine.run; id = by } → IsUnended w.machine by
      → is_seen k v.window.name ≡ false
  unended-unseen k living key v there by name u = elim (cases_Bool (is_seen k v.window.name)) [
    | inl seen ↦ absurd (held-ended w.machine l.table key (chain_at key f.leaf.chains) (shown_at key f.leaf.page) st.valid (keys-stand key (lies key v there)) v there
        (λ live. both_ways (is_seen k v.window.name) (living.unseen v.window.name live) seen) u.session u.transaction u.there (name ∙ ap (λ (n : ℕ). record { run = w.machine.run; id = n }) (sym u.same)))
    | inr unseen ↦ unseen
  ]

  name-is : (x : Name) (by : ℕ) → x.run ≡ w.machine.run → x.id ≡ by → x ≡ record { run = w.machine.run; id = by }
  name-is x by run same = ap (λ (r : ℕ). record { run = r; id = x.id }) run ∙ ap (λ (n : ℕ). record { run = w.machine.run; id = n }) same

  pub least-unended : (k : Sight) → EndedIsSeen w.machine k → AreUnended w.machine k.list → (by : ℕ) → HoldsLeastUnseen k f.leaf by → IsLeastUnended e w.machine id by
  least-unended k ended ids by x =
      let h = x.holds in
      let of = unseen-of k ended ids h.key h.version h.there h.unseen in
      record {
        holds = record {
          held = f.leaf;
          there = sits-held e id s;
          key = h.key;
          version = h.version;
          has = h.there;
          name = name-is h.version.window.name by of.0 h.is;
          unended = subst (λ n. IsUnended w.machine n) h.is of.1;
        };
        least = λ u other has name unended. subst (λ n. by ≤ n) (ap (λ (n : Name). n.id) name)
            (x.least u has (unended-unseen k ended.living has.0 u.version
            (member-append-left u.version (versions (chain_at has.0 f.leaf.chains)) (option_to_list (shown_at has.0 f.leaf.page)) (version-to (chain_at has.0 f.leaf.chains) u has.1)) other name unended));
      }

  pub none-unended : (k : Sight) → SeesNoneLiving w.machine k → AllHeldSeen k f.leaf → (by : ℕ) → HoldsUnended e w.machine id by → ⊥
  none-unended k living seen by h =
      let same = same_Some h.held f.leaf (sym h.there ∙ sits-held e id s) in
      let has = subst (λ (x : HeldLeaf). Member h.version (held_at h.key x.page x.chains)) same h.has in
      both_ways (is_seen k h.version.window.name) (unended-unseen k living h.key h.version has by h.name h.unended) (seen h.key h.version has)

-- ---- what is told

pub told-at : (e : Engine) (held : HeldLeaf) (k : Sight) (told : Option ℕ) → (told ≡ None → AllHeldSeen k held) → IfSome told (HoldsLeastUnseen k held) → ((w : World) → Stands e w → EndedIsSeen w.machine k × AreUnended w.machine k.list)
    → MatchOption told (AllOfEnded e held) (IsOfUnended e held)
told-at e held k None seen unseen ended = record { sight = k; seen = seen refl; living = λ w st. (ended w st).0.living }
told-at e held k (Some by) seen unseen ended = record { sight = k; unseen = unseen; ended = ended }

pub tells : (e : Engine) (id : ℕ) (held : HeldLeaf) → held_in e id ≡ Some held → (told : Option ℕ) → MatchOption told (AllOfEnded e held) (IsOfUnended e held) → TellsUnended e id told
tells e id held there None all = λ w st by h.
    let at = sits-where e id held there in
    none-unended e id at.0 w st all.sight (all.living w st) (subst (AllHeldSeen all.sight) (sym at.1) all.seen) by h
tells e id held there (Some by) of = λ w st.
    let at = sits-where e id held there in
    let ended = of.ended w st in
    least-unended e id at.0 w st of.sight ended.0 ended.1 by (subst (λ (x : HeldLeaf). HoldsLeastUnseen of.sight x by) (sym at.1) of.unseen)

pub tells-all : {E : Type 0} (e : Engine) (id : ℕ) (held : HeldLeaf) → held_in e id ≡ Some held → (told : Result (Option ℕ) E) → IfOk told (λ t. MatchOption t (AllOfEnded e held) (IsOfUnended e held)) → IfOk told (λ t. TellsUnended e id t)
tells-all e id held there (Ok told) of = tells e id held there told of
tells-all e id held there (Err error) of = tt
