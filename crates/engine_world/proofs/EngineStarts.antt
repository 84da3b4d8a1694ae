-- An engine that begins on a regular content stands for the machine that an opening makes of it.
use Rattle.std.proofs.Common.{◌≡◌, ℕ, refl, ap, sym, ◌∙◌, List, [], ◌∷◌, ◌++◌, length, inl, inr, subst, map, Bool}
use Rattle.std.specs.Prelude.{Option, Some, None, drop, option_map, slice_get}
use Rattle.std.specs.Option.{option_to_list}
use Rattle.std.proofs.lemmas.Option.{same_Some}
use Rattle.std.proofs.lemmas.List.{append-nil}
use Rattle.item.specs.declared.Change.{Change}
use Rattle.stamp.specs.declared.Version.{Version}
use Rattle.kv_model.specs.AgreementLaws.{head_of}
use Rattle.kv_model.specs.Content.{Content, base, descending, kept, placed_lt, start, table_lt}
use Rattle.kv_model.specs.Droppable.{covers}
use Rattle.kv_model.specs.Holds.{Descends, Stores}
use Rattle.kv_model.specs.History.{line}
use Rattle.kv_model.specs.Ordered.{Older}
use Rattle.kv_model.specs.Pending.{InFrame, KeyStands, settled}
use Rattle.kv_model.specs.ReconcileLaws.{FramesAlike}
use Rattle.kv_model.specs.Regular.{IsRegular}
use Rattle.kv_model.specs.StoreLaws.{Held}
use Rattle.kv_model.proofs.Finishing.{older-order, tables-base}
use Rattle.kv_model.proofs.Opening.{no-seat, start-valid}
use Rattle.kv_model.proofs.Ordering.{line-descends}
use Rattle.txn_table.specs.Stands.{TableStands}
use Rattle.txn_table.proofs.Starting.{new-stands}
use Rattle.reconcile.specs.Shows.{shown_at}
use Rattle.tree_dir.specs.declared.leaf.Leaf.{Leaf}
use Rattle.update_chain.specs.declared.update.Update.{Update}
use Rattle.update_chain.specs.EventLaws.{StandsFor}
use Rattle.update_chain.specs.Updates.{unmarked_update, update_in}
use Rattle.leaf_chains.specs.Slots.{chain_at}
use Rattle.wt_calls.specs.declared.system_call.SystemCall.{SystemCall}
use Rattle.wt_calls.specs.Calls.{system_call_in}
use Rattle.call_steps.specs.declared.frame.FramePiece.{FramePiece}
use Rattle.call_steps.specs.State.{State}
use Rattle.row_page.specs.Rows.{Row}
use Rattle.engine_world.specs.Leaves.{LeafStands}
use Rattle.engine_world.specs.Stands.{Engine}
use Rattle.engine_world.specs.Systems.{AreNewest, EnginesStart, IsFirstOf, LeafStarts}
use Rattle.engine_world.specs.Worlds.{Records}

-- ---- a key whose versions are in its chain and its row

settles : (l : List (Version Change)) → map update_in (map unmarked_update l) ≡ map settled l
settles [] = refl
settles (v ∷ l) = ap (λ rest. settled v ∷ rest) (settles l)

all-stored : (m : Version Change → Bool) (l : List (Version Change)) → Stores Older m l (InFrame l None) (Held [])
all-stored m l = record {
  kept = record {
    within = λ v there. elim there [
      | inl framed ↦ elim framed [ inl member ↦ member | inr cell ↦ let none : None ≡ Some v = cell in absurd (cc) ]
      | inr record_there ↦ absurd record_there
    ];
    all = λ v member. inl (inl (inl member));
  };
  upper = λ v w framed member below. inl (inl member);
}

-- all of them in the chain
in-chain : (c : Content) (table : ℕ) (key : List ℕ) → IsRegular c → KeyStands (start c) table key (map settled (line (base c) table key)) None (Held [])
in-chain c table key regular = record {
  top = [];
  held = line (base c) table key;
  below = line (base c) table key;
  chained = refl;
  ordered = subst (λ l. Descends Older l) (sym (append-nil (line (base c) table key))) (line-descends (base c) (start-valid c regular).orderly table key);
  topped = (refl, λ s t wrote. absurd (no-seat s t wrote.0));
  stores = all-stored (covers (start c)) (line (base c) table key);
  layered = λ v there. absurd there;
}

key-starts : FramesAlike → (c : Content) (table : ℕ) (key : List ℕ) (chain : List Update) (row : Option (Version Change)) → IsRegular c → IsFirstOf (line (base c) table key) chain row → StandsFor (start c) table key chain row []
key-starts alike c table key chain row regular first = subst (λ l. KeyStands (start c) table key l row (Held [])) (sym (ap (map update_in) first.chain_is ∙ settles first.above))
    (alike (start c) table key (line (base c) table key) first.above None row [] (λ v there passes s t at. absurd (no-seat s t at))
    (sym first.all ∙ sym (append-nil (line (base c) table key))) (in-chain c table key regular))

-- the newest on the device, and the older ones in the history
newest-stored : (m : Version Change → Bool) (x : Version Change) (xs : List (Version Change)) → Descends Older (x ∷ xs) → Stores Older m (x ∷ xs) (InFrame [] (Some x)) (Held xs)
newest-stored m x xs descends = record {
  kept = record {
    within = λ v there. elim there [
      | inl framed ↦ elim framed [ inl none ↦ absurd none | inr cell ↦ inl (sym (same_Some x v cell)) ]
      | inr older ↦ inr older
    ];
    all = λ v member. elim member [ inl is ↦ inl (inl (inr (ap (λ y. Some y) (sym is)))) | inr older ↦ inl (inr older) ];
  };
  upper = λ v w framed member below. elim framed [
    | inl none ↦ absurd none
    | inr cell ↦ elim member [
      | inl is ↦ inl (inr (ap (λ y. Some y) (sym is)))
      | inr older ↦ absurd (older-order.asym w x (descends.0 w older) (subst (λ y. Older y w) (sym (same_Some x v cell)) below))
    ]
  ];
}

on-device : (c : Content) (table : ℕ) (key : List ℕ) (l : List (Version Change)) → IsRegular c → line (base c) table key ≡ l → StandsFor (start c) table key [] (head_of l) (drop 1 l)
on-device c table key [] regular is = record {
  top = [];
  held = [];
  below = line (base c) table key;
  chained = refl;
  ordered = tt;
  topped = (refl, λ s t wrote. absurd (no-seat s t wrote.0));
  stores = subst (λ l. Stores Older (covers (start c)) l (InFrame [] None) (Held [])) (sym is) (all-stored (covers (start c)) []);
  layered = λ v there. absurd there;
}
on-device c table key (x ∷ xs) regular is =
    let descends : Descends Older (x ∷ xs) = subst (λ l. Descends Older l) is (line-descends (base c) (start-valid c regular).orderly table key) in record {
      top = [];
      held = [];
      below = line (base c) table key;
      chained = refl;
      ordered = ((λ y none. absurd none), tt);
      topped = (refl, λ s t wrote. absurd (no-seat s t wrote.0));
      stores = subst (λ l. Stores Older (covers (start c)) l (InFrame [] (Some x)) (Held xs)) (sym is) (newest-stored (covers (start c)) x xs descends);
      layered = λ v there. (x, inr refl, (λ s t at. absurd (no-seat s t at)), inr (descends.0 v there));
    }

newest-ordered : (l : List (Version Change)) → Descends Older l → Descends Older (option_to_list (head_of l) ++ drop 1 l)
newest-ordered [] descends = tt
newest-ordered (x ∷ xs) descends = descends

module _ (c : Content) (table : ℕ) (key : List ℕ) (row : Option (Version Change)) (older : List (Version Change)) (regular : IsRegular c) (are : AreNewest (line (base c) table key) row older) where
  device-starts : StandsFor (start c) table key [] row older
  device-starts = subst (λ r. StandsFor (start c) table key [] r older) (sym are.newest) (subst (λ l. StandsFor (start c) table key [] (head_of (line (base c) table key)) l) (sym are.others) (on-device c table key (line (base c) table key) regular refl))

  device-ordered : Descends Older (option_to_list row ++ older)
  device-ordered = subst (λ r. Descends Older (option_to_list r ++ older)) (sym are.newest) (subst (λ l. Descends Older (option_to_list (head_of (line (base c) table key)) ++ l)) (sym are.others)
      (newest-ordered (line (base c) table key) (line-descends (base c) (start-valid c regular).orderly table key)))

leaf-starts : FramesAlike → (c : Content) (shelf : ℕ → List Row) (records : Records) (leaves : List Leaf) (pieces : List FramePiece) (states : List ℕ) (l : Leaf) → IsRegular c → LeafStarts c shelf records leaves pieces states l → LeafStands (start c) shelf records leaves pieces states l
leaf-starts alike c shelf records leaves pieces states l regular (inl leaf) = inl (record {
  laid = leaf.laid;
  keys = λ key under. key-starts alike c l.table key (chain_at key leaf.laid.frame.leaf.chains) (shown_at key leaf.laid.frame.leaf.page) regular (leaf.keys key under);
  bare = leaf.bare;
  lies = leaf.lies;
  none = leaf.none;
})
leaf-starts alike c shelf records leaves pieces states l regular (inr leaf) = inr (record {
  none = leaf.none;
  keys = λ key under. device-starts c l.table key (shown_at key (shelf l.id)) (records l.id key) regular (leaf.keys key under);
  ordered = λ key under. device-ordered c l.table key (shown_at key (shelf l.id)) (records l.id key) regular (leaf.keys key under);
  bare = leaf.bare;
})

-- ---- nobody is at work

none-started : (calls : List (Option SystemCall)) → map (option_map system_call_in) (map (λ x. None) calls) ≡ map (λ x. None) calls
none-started [] = refl
none-started (call ∷ calls) = ap (λ rest. None ∷ rest) (none-started calls)

no-session : (e : Engine) (session : ℕ) (a : State) → e.sessions ≡ [] → slice_get e.sessions session ≡ Some a → ⊥
no-session e session a none there = let is : None ≡ Some a = sym (ap (λ (l : List State). slice_get l session) none) ∙ there in absurd (cc)

pub engines-start : FramesAlike → EnginesStart
engines-start alike c shelf records e regular b = record {
  valid = start-valid c regular;
  fault = b.fault;
  stamps = b.stamps;
  txns = subst (λ t. TableStands t (start c)) (sym b.txns) (new-stands c 0);
  catalog = b.catalog;
  made = b.tables ∙ sym (tables-base (descending table_lt c.tables) (descending placed_lt (kept c)));
  dir = b.dir;
  begun = b.begun;
  owned = b.owned;
  leaves = λ l there. leaf-starts alike c shelf records e.hub.dir.leaves e.pieces e.states l regular (b.leaves l there);
  unused = b.unused;
  frames = b.frames;
  count = ap length b.sessions;
  doings = sym (ap length b.sessions);
  doing = λ session a there. absurd (no-session e session a b.sessions there);
  sessions = λ session a there. absurd (no-session e session a b.sessions there);
  systems = ap (map (option_map system_call_in)) (sym b.systems) ∙ none-started e.systems;
  noticed = λ session a there. absurd (no-session e session a b.sessions there);
}
