-- A get whose table is named by its number is answered as the model says.
use Rattle.std.proofs.Common.{◌≡◌, ℕ, refl, ap, sym, ◌∙◌, List, [], inl, inr, subst}
use Rattle.std.specs.Prelude.{Some, None, slice_get}
use Rattle.std.proofs.lemmas.Option.{same_Some}
use Rattle.wt_code.specs.declared.answers.Answer.{Answer}
use Rattle.wt_code.specs.declared.answers.Answer.TheVariants as answers
use Rattle.wt_code.specs.declared.refusals.Refusal.{Refusal}
use Rattle.wt_code.specs.declared.refusals.Refusal.TheVariants as told
use Rattle.kv_model.specs.Calls.{GetKey}
use Rattle.kv_model.specs.Decisions.{Outcome, Done, Gives as ModelGives, Refused, FindKey, GetAnswer, decision}
use Rattle.kv_model.specs.History.{Table, named, tables}
use Rattle.kv_model.specs.Machine.{Machine, Transaction, Nothing}
use Rattle.kv_model.specs.Told.{Tells}
use Rattle.reconcile.specs.Shows.{shown_at}
use Rattle.tree_dir.specs.declared.leaf.Framed.{Framed}
use Rattle.tree_dir.specs.declared.leaf.Leaf.{Leaf}
use Rattle.tree_dir.specs.Leaves.{leaf_under}
use Rattle.tree_dir.specs.Ranges.{HasKey}
use Rattle.tree_dir.proofs.Parting.{under-has}
use Rattle.update_chain.specs.EventLaws.{StandsFor}
use Rattle.update_chain.specs.Updates.{Reply, Gives, IsRemoved, Conflicts, IsOlder}
use Rattle.leaf_chains.specs.Slots.{chain_at}
use Rattle.leaf_frame.specs.Looks.{read_at}
use Rattle.leaf_frame.specs.ReadLaws.{HeldReadsStand, ReplyStands}
use Rattle.call_steps.specs.declared.stage.KeyCall.TheVariants as key_call
use Rattle.call_steps.specs.State.{State}
use Rattle.engine_world.specs.Leaves.{LeafInFrame, frame_in}
use Rattle.engine_world.specs.Stands.{Engine, Stands}
use Rattle.engine_world.specs.Worlds.{World}
use Rattle.engine_world.proofs.Homes.{in-its-frame}
use Rattle.engine_world.proofs.Looking.{view-stands}
use Rattle.engine.specs.declared.got.Got.{Got}
use Rattle.engine.specs.declared.got.Got.TheVariants as got
use Rattle.engine.specs.Reads.{GivenAs, GotAs, IsNameOf, ReadsAt, ReadsIn, refused_first}
use Rattle.engine.specs.Whole.{MayCall}
use Rattle.engine.proofs.ReadStarts.{GoesOn, answered-so, goes-on, is-known, its-table, refused-call, table-found, table-missing}

-- what is not in the leaf reads as absent
pub older-absent : (m : Machine) (session : ℕ) (t : Transaction) (table : ℕ) (key : List ℕ) → ReplyStands m session t table key [] IsOlder → GetAnswer m session t table key (Refused told.NotFound)
older-absent m session t table key stands = stands None (λ x held. absurd held)

module _ (e : Engine) (w : World) (session : ℕ) (a : State) (st : Stands e w) (at : slice_get e.sessions session ≡ Some a) (name key : List ℕ) (table : ℕ) (of : IsNameOf (tables w.machine.history) table name) where
  -- refused before the leaf is sought
  pub get-refused : (r : Refusal) → refused_first e.hub a key ≡ Some r → MayCall w session (GetKey name key) (answers.Refused r) w
  get-refused r is = refused-call e w session a st at key_call.Get refl name key refl table r (GetKey name key) of is (λ decided. inl (Refused r, inl (r, Nothing, decided, refl, refl), refl))

  module _ (on : refused_first e.hub a key ≡ None) where
    abbrev Goes : Type 0
    Goes = GoesOn e w session a st at key_call.Get refl name key refl

    goes : Goes
    goes = goes-on e w session a st at key_call.Get refl name key refl table of on

    -- what is decided first is told
    pub get-missing : leaf_under table key e.hub.dir.leaves ≡ None → MayCall w session (GetKey name key) (answers.Refused told.NoTable) w
    get-missing bare = answered-so e w session a st at (GetKey name key) (answers.Refused told.NoTable) w goes.resting
        (inl (Refused told.NoTable, inl (told.NoTable, Nothing, table-missing e w session a st at key_call.Get refl name key refl table of goes bare, refl, refl), refl)) refl

    module _ (l : Leaf) (under : leaf_under table key e.hub.dir.leaves ≡ Some l) where
      found : decision w.machine session (FindKey name key) ≡ (Done, Nothing)
      found = table-found e w session a st at key_call.Get refl name key refl table l of goes under

      pub get-away : (bytes : List ℕ) → GotAs got.Away w session name key bytes
      get-away bytes = (goes.resting, found)

      -- what the look finds is told
      gets : (outcome : Outcome) (answer : Answer (List ℕ)) → GetAnswer w.machine session goes.transaction table key outcome → Tells outcome answer → MayCall w session (GetKey name key) answer w
      gets outcome answer is tells = answered-so e w session a st at (GetKey name key) answer w goes.resting
          (inl (
            outcome,
            inr (
              Nothing,
              goes.transaction,
              t.0,
              Nothing,
              found,
              record { transaction = goes.there; table_is = t.1 },
              (subst (λ n. GetAnswer w.machine session goes.transaction n key outcome) (sym t.2) is, refl),
              refl,
            ),
            tells,
          )) refl where
            t : (t : Table) × (named name (tables w.machine.history) ≡ Some t) × (t.number ≡ table)
            t = its-table e w session a st at key_call.Get refl name key refl table l of under

      -- by what the leaf gives
      tells-given : (given : Reply) → ReplyStands w.machine session goes.transaction table key [] given → (made : Got) (bytes : List ℕ) → GivenAs given made bytes → GotAs made w session name key bytes
      tells-given given stands made bytes gives = by given stands made gives where
        as-refused : (r s : Refusal) → r ≡ s → MayCall w session (GetKey name key) (answers.Refused s) w → MayCall w session (GetKey name key) (answers.Refused r) w
        as-refused r s same may = subst (λ x. MayCall w session (GetKey name key) (answers.Refused x) w) (sym same) may

        by : (given : Reply) → ReplyStands w.machine session goes.transaction table key [] given → (made : Got) → GivenAs given made bytes → GotAs made w session name key bytes
        by (Gives value) stands got.Found same = subst (λ v. MayCall w session (GetKey name key) (answers.Value v) w) (sym same) (gets (ModelGives value) (answers.Value value) stands refl)
        by (Gives value) stands (got.Refused r) same = as-refused r told.NoMemory same (answered-so e w session a st at (GetKey name key) (answers.Refused told.NoMemory) w goes.resting (inr (inl (refl, refl))) refl)
        by (Gives value) stands got.Away never = absurd never
        by IsRemoved stands got.Found never = absurd never
        by IsRemoved stands (got.Refused r) same = as-refused r told.NotFound same (gets (Refused told.NotFound) (answers.Refused told.NotFound) stands refl)
        by IsRemoved stands got.Away never = absurd never
        by (Conflicts id) stands got.Found never = absurd never
        by (Conflicts id) stands (got.Refused r) same = as-refused r (told.PrepareConflict id) same (gets (Refused (told.PrepareConflict id)) (answers.Refused (told.PrepareConflict id)) stands refl)
        by (Conflicts id) stands got.Away never = absurd never
        by IsOlder stands got.Found never = absurd never
        by IsOlder stands (got.Refused r) same = as-refused r told.NotFound same
            (gets (Refused told.NotFound) (answers.Refused told.NotFound) (older-absent w.machine session goes.transaction table key stands) refl)
        by IsOlder stands got.Away never = absurd never

      -- the leaf is in its frame, and was read there
      pub get-read : HeldReadsStand → (framed : Framed) (made : Got) (bytes : List ℕ) → l.frame ≡ Some framed → ReadsIn e session framed.frame key made bytes → GotAs made w session name key bytes
      get-read reads framed made bytes placed read = tells-given (read_at looked.view key lies.laid.frame.leaf) stands made bytes looked.gives where
        has : HasKey e.hub.dir table key l
        has = under-has e.hub.dir st.dir table key l under

        lies : LeafInFrame w.machine w.shelf w.records e.hub.dir.leaves e.pieces e.states l
        lies = in-its-frame w.machine w.shelf w.records e.hub.dir.leaves e.pieces e.states l framed placed (st.leaves l has.there)

        there : frame_in e.pieces framed.frame ≡ Some lies.laid.frame
        there = ap (λ (x : Framed). frame_in e.pieces x.frame) (same_Some framed lies.laid.framed (sym placed ∙ lies.laid.placed)) ∙ lies.laid.there

        looked : ReadsAt e session lies.laid.frame key made bytes
        looked = read lies.laid.frame there (is-known e w session a st at goes.transaction goes.there goes.running)

        stands : ReplyStands w.machine session goes.transaction table key [] (read_at looked.view key lies.laid.frame.leaf)
        stands = reads w.machine session goes.transaction looked.view table key (chain_at key lies.laid.frame.leaf.chains) (shown_at key lies.laid.frame.leaf.page) [] st.valid goes.there goes.running
            (view-stands e.hub w.machine session goes.transaction looked.view st.txns looked.lent goes.there)
            (subst (λ n. StandsFor w.machine n key (chain_at key lies.laid.frame.leaf.chains) (shown_at key lies.laid.frame.leaf.page) []) has.table
            (lies.keys key (ap (λ n. leaf_under n key e.hub.dir.leaves) has.table ∙ under)))
