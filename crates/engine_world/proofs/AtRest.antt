-- An engine whose sessions all rest: nobody has a transaction, so the newest version of a key stands for it alone.
use Rattle.std.proofs.Common.{◌≡◌, ◌≤◌, ℕ, refl, ap, sym, ◌∙◌, true, List, [], ◌∷◌, ◌++◌, get_or, inl, inr, subst, arith}
use Rattle.std.specs.Prelude.{Option, Some, None, IfSome, option_map}
use Rattle.std.specs.Option.{option_to_list}
use Rattle.std.proofs.lemmas.Option.{same_Some, slice_get-get_or}
use Rattle.item.specs.declared.Change.{Change}
use Rattle.stamp.specs.declared.Version.{Version}
use Rattle.kv_model.specs.AgreementLaws.{head_of}
use Rattle.kv_model.specs.Droppable.{covers}
use Rattle.kv_model.specs.History.{Write, line}
use Rattle.kv_model.specs.Holds.{Descends, Member, Stores}
use Rattle.kv_model.specs.Machine.{Machine, Transaction, of_some, transaction_of}
use Rattle.kv_model.specs.Ordered.{Older}
use Rattle.kv_model.specs.Pending.{InFrame, KeyStands}
use Rattle.kv_model.specs.StoreLaws.{Held}
use Rattle.kv_model.specs.Valid.{Valid}
use Rattle.kv_model.proofs.Ordering.{line-descends}
use Rattle.kv_model.proofs.Pins.{low-pin, parts-cover}
use Rattle.kv_model.proofs.Seats.{seat-inside}
use Rattle.tree_dir.specs.declared.leaf.Leaf.{Leaf}
use Rattle.tree_dir.specs.Leaves.{Directory}
use Rattle.txn_table.specs.SessionData.{phase_in}
use Rattle.call_steps.specs.declared.frame.FramePiece.{FramePiece}
use Rattle.call_steps.specs.declared.hub.Hub.{Hub}
use Rattle.call_steps.specs.State.{State, opened}
use Rattle.engine_world.specs.Doings.{doing_at, doing_in}
use Rattle.engine_world.specs.GivingWay.{IsIdle, RestsWhole}
use Rattle.engine_world.specs.Stages.{StageStands}
use Rattle.engine_world.specs.Stands.{Engine, SessionStands, Stands, writes_in}
use Rattle.engine_world.specs.Worlds.{World}
use Rattle.engine_world.proofs.OwnStates.{none-ends}

-- ---- nobody has a transaction

abbrev pub Nobody : Machine → Type 0
Nobody m = (s : ℕ) (t : Transaction) → transaction_of m s ≡ Some t → ⊥

pub nobody : (e : Engine) (w : World) → Stands e w → IsIdle e → Nobody w.machine
nobody e w st idle s t there =
    let inside = seat-inside w.machine.sessions s t there in
    let a = get_or e.sessions s opened in
    let at = slice_get-get_or e.sessions s opened (omega (arith, inside, st.count)) in
    let clash : None ≡ Some t.phase = sym (ap phase_in (idle s a at).phase) ∙ ((st.sessions s a at).phase ∙ ap (option_map (λ (x : Transaction). x.phase)) there) in absurd cc

pub no-transaction : (m : Machine) (s : ℕ) → Nobody m → transaction_of m s ≡ None
no-transaction m s none = by (transaction_of m s) refl where
  by : (o : Option Transaction) → transaction_of m s ≡ o → transaction_of m s ≡ None
  by None is = is
  by (Some t) is = absurd (none s t is)

-- ---- a session that rests stands over whatever leaves and frames

pub rests : (leaves made : List Leaf) (session : ℕ) (a : State) → RestsWhole a → doing_in leaves session a ≡ doing_in made session a
rests leaves made session a r = ap (λ s. doing_at s leaves session a) r.stage ∙ sym (ap (λ s. doing_at s made session a) r.stage)

pub rests-over : (m : Machine) (hub : Hub) (dir : Directory) (pieces later : List FramePiece) (session : ℕ) (a : State) → Nobody m → RestsWhole a → SessionStands m hub pieces session a → SessionStands m (record hub { dir = dir }) later session a
rests-over m hub dir pieces later session a none r st = record {
  phase = st.phase;
  seated = record { opened = st.seated.opened; phase = st.seated.phase };
  cursors = st.cursors;
  noted = record { noted = λ w wrote. absurd (nothing w wrote); wrote = λ k kept. let x = st.noted.wrote k kept in absurd (nothing x.0 x.1) };
  stage = subst (λ s. StageStands s m dir.leaves later session a) (sym r.stage) (none-ends m session (no-transaction m session none));
} where
  nothing : (w : Write) → Member w (writes_in m session) → ⊥
  nothing w wrote = absurd (subst (λ (o : Option Transaction). Member w (of_some [] (λ (t : Transaction). t.writes) o)) (no-transaction m session none) wrote)

-- ---- the newest version of a key

covers-here : (m : Machine) (v : Version Change) → Nobody m → m.checkpoint ≡ None → v.window.durable ≤ m.oldest → covers m v ≡ true
covers-here m v none free durable = parts-cover m v (record {
  low = low-pin m v.window.durable (record {
    oldest = durable;
    recorded = λ c runs. let clash : None ≡ Some c = sym free ∙ runs in absurd cc;
    reads = λ s t there some. absurd (none s t there);
  });
  seen = λ s t there. absurd (none s t there);
  captured = λ c runs. let clash : None ≡ Some c = sym free ∙ runs in absurd cc;
})

one-descends : (o : Option (Version Change)) → Descends Older (option_to_list o)
one-descends None = tt
one-descends (Some v) = (λ y none. absurd none, tt)

-- a row descends where the history keeps nothing below it
pub row-alone : (row : Option (Version Change)) (kept : List (Version Change)) → kept ≡ [] → Descends Older (option_to_list row ++ kept)
row-alone None kept none = subst (Descends Older) (sym none) tt
row-alone (Some v) kept none = subst (λ (l : List (Version Change)). Descends Older (v ∷ l)) (sym none) (λ y there. absurd there, tt)

newest-stored : (m : Machine) (l : List (Version Change)) → Nobody m → m.checkpoint ≡ None → Descends Older l → IfSome (head_of l) (λ v. v.window.durable ≤ m.oldest) → Stores Older (covers m) l (InFrame [] (head_of l)) (Held [])
newest-stored m [] none free down durable = record {
  kept = record {
    within = λ x there. elim there [
      | inl framed ↦ elim framed [ inl held ↦ absurd held | inr cell ↦ let clash : None ≡ Some x = cell in absurd cc ]
      | inr kept ↦ absurd kept
    ];
    all = λ x member. absurd member;
  };
  upper = λ x y framed member above. absurd member;
}
newest-stored m (v ∷ older) none free down durable = let cover = covers-here m v none free durable in record {
  kept = record {
    within = λ x there. elim there [
      | inl framed ↦ elim framed [ inl held ↦ absurd held | inr cell ↦ inl (sym (same_Some v x cell)) ]
      | inr kept ↦ absurd kept
    ];
    all = λ x member. elim member [
      | inl same ↦ inl (inl (inr (ap (λ (y : Version Change). Some y) (sym same))))
      | inr below ↦ inr (v, inl refl, down.0 x below, cover)
    ];
  };
  upper = λ x y framed member above. elim member [
    | inl same ↦ inl (inr (ap (λ (z : Version Change). Some z) (sym same)))
    | inr below ↦ inr (record { by = v; there = inl refl; above = down.0 y below; is_cover = cover })
  ];
}

-- it is the row of a leaf in no frame
pub newest-stands : (m : Machine) (table : ℕ) (key : List ℕ) (cell : Option (Version Change)) → Valid m → Nobody m → m.checkpoint ≡ None
    → head_of (line m.history table key) ≡ cell → IfSome cell (λ v. v.window.durable ≤ m.oldest) → KeyStands m table key [] cell (Held [])
newest-stands m table key cell valid none free is durable = subst (λ (o : Option (Version Change)). KeyStands m table key [] o (Held [])) is (record {
  top = [];
  held = [];
  below = line m.history table key;
  chained = refl;
  ordered = one-descends (head_of (line m.history table key));
  topped = (refl, λ s t wrote. absurd (none s t wrote.0));
  stores = newest-stored m (line m.history table key) none free (line-descends m.history valid.orderly table key) (subst (λ (o : Option (Version Change)). IfSome o (λ v. v.window.durable ≤ m.oldest)) (sym is) durable);
  layered = λ v there. absurd there;
})
