-- A read that is decided below what stands on top of a chain.
use Rattle.std.proofs.Common.{◌≡◌, ◌⊎◌, ◌≤◌, ℕ, refl, ap, sym, ◌∙◌, Bool, true, false, ◌&&◌, ◌||◌, List, [], ◌∷◌, ◌++◌, length, inl, inr, subst, map}
use Rattle.std.specs.Prelude.{find, Option, Some, None, option_map, ◌==◌, not, if◌then◌else◌}
use Rattle.std.specs.Option.{option_to_list, option_or}
use Rattle.std.proofs.lemmas.Bool.{both_ways, and_parts, and_from, eqb-true}
use Rattle.std.proofs.lemmas.List.Folds.{find-append}
use Rattle.item.specs.declared.Change.{Change}
use Rattle.item.specs.declared.Change.TheVariants.{Put, Remove}
use Rattle.stamp.specs.declared.Version.{Version}
use Rattle.stamp.specs.declared.View.{View}
use Rattle.kv_model.specs.Holds.{Member, Descends, Stores, Picks}
use Rattle.kv_model.specs.Ordered.{Older}
use Rattle.kv_model.specs.History.{line, admits, released, put_of, value}
use Rattle.kv_model.specs.Machine.{Machine, Transaction, Running, transaction_of, name_in}
use Rattle.kv_model.specs.Reads.{own_write, Meets, IsEnding, ReadAnswer, ReadAs, Value}
use Rattle.kv_model.specs.Valid.{Valid, PhaseStands}
use Rattle.kv_model.specs.Droppable.{covers}
use Rattle.kv_model.specs.StoreLaws.{Held}
use Rattle.kv_model.specs.Pending.{InFrame}
use Rattle.kv_model.proofs.Newest.{find-member, find-none, find-newest}
use Rattle.kv_model.proofs.FrameAndHistory.{frame-finds, history-finds}
use Rattle.kv_model.proofs.Covering.{covers-admitted}
use Rattle.kv_model.proofs.Living.{stores-covers}
use Rattle.kv_model.proofs.Finishing.{older-order}
use Rattle.kv_model.proofs.Snapshots.{line-released}
use Rattle.kv_model.proofs.Releases.{released-same, false-from}
use Rattle.update_chain.specs.Updates.{Conflicts, unmarked_update, is_own, reply_of, reply_to, read_of}
use Rattle.update_chain.specs.Answers.{ViewStands, is_admitted, content_of, GoesOn, ReplyStands}
use Rattle.update_chain.proofs.Picking.{reads-pick}

-- ---- frames: the chain's versions, then the cell

pub member-append-left : {A : Type 0} (x : A) (xs ys : List A) → Member x xs → Member x (xs ++ ys)
member-append-left x [] ys there = absurd there
member-append-left x (z ∷ xs) ys (inl same) = inl same
member-append-left x (z ∷ xs) ys (inr there) = inr (member-append-left x xs ys there)

pub member-append-right : {A : Type 0} (x : A) (xs ys : List A) → Member x ys → Member x (xs ++ ys)
member-append-right x [] ys there = there
member-append-right x (z ∷ xs) ys there = inr (member-append-right x xs ys there)

pub member-append : {A : Type 0} (x : A) (xs ys : List A) → Member x (xs ++ ys) → Member x xs ⊎ Member x ys
member-append x [] ys there = inr there
member-append x (z ∷ xs) ys (inl same) = inl (inl same)
member-append x (z ∷ xs) ys (inr there) = elim (member-append x xs ys there) [ inl one ↦ inl (inr one) | inr two ↦ inr two ]

abbrev pub frame_of : List (Version Change) → Option (Version Change) → List (Version Change)
frame_of held cell = held ++ option_to_list cell

pub in-list : (held : List (Version Change)) (cell : Option (Version Change)) (v : Version Change) → InFrame held cell v → Member v (frame_of held cell)
in-list held cell v (inl there) = member-append-left v held (option_to_list cell) there
in-list held cell v (inr is) = member-append-right v held (option_to_list cell) (subst (λ o. Member v (option_to_list o)) (sym is) (inl refl))

pub in-frame : (held : List (Version Change)) (cell : Option (Version Change)) (v : Version Change) → Member v (frame_of held cell) → InFrame held cell v
in-frame held cell v there = elim (member-append v held (option_to_list cell) there) [ inl one ↦ inl one | inr two ↦ inr (of-cell cell two) ] where
  of-cell : (cell : Option (Version Change)) → Member v (option_to_list cell) → cell ≡ Some v
  of-cell None there = absurd there
  of-cell (Some w) (inl same) = ap Some (sym same)
  of-cell (Some w) (inr there) = absurd there

pub stores-list : (covers : Version Change → Bool) (l held records : List (Version Change)) (cell : Option (Version Change)) → Stores Older covers l (InFrame held cell) (Held records) → Stores Older covers l (Held (frame_of held cell)) (Held records)
stores-list covers l held records cell s = record {
  kept = record {
    within = λ v there. elim there [ inl frame ↦ s.kept.within v (inl (in-frame held cell v frame)) | inr record_of ↦ s.kept.within v (inr record_of) ];
    all = λ v there. elim (s.kept.all v there) [
      | inl one ↦ elim one [ inl frame ↦ inl (inl (in-list held cell v frame)) | inr record_of ↦ inl (inr record_of) ]
      | inr covered ↦ inr covered
    ];
  };
  upper = λ x y frame there below. elim (s.upper x y (in-frame held cell x frame) there below) [ inl one ↦ inl (in-list held cell y one) | inr covered ↦ inr covered ];
}

-- what a store of a key, seen by a transaction, has to have: l is what stands
pub record Shown (m : Machine) (s : ℕ) (t : Transaction) (l frame records : List (Version Change)) : Type 0 where
  pub there : transaction_of m s ≡ Some t
  pub sorted : Descends Older l
  pub fits : (v : Version Change) → Member v l → v.window.commit ≤ v.window.durable
  pub ordered : Descends Older frame
  pub stores : Stores Older (covers m) l (Held frame) (Held records)

-- what covers is admitted
abbrev pub shown_covers : Machine → Transaction → Version Change → Bool
shown_covers m t v = covers m v && is_admitted m t v

shows : (m : Machine) (t : Transaction) (v : Version Change) → shown_covers m t v ≡ true → is_admitted m t v ≡ true
shows m t v is = (and_parts (covers m v) (is_admitted m t v) is).1

shown-stores : (m : Machine) (s : ℕ) (t : Transaction) (l frame records : List (Version Change)) → Shown m s t l frame records → Stores Older (shown_covers m t) l (Held frame) (Held records)
shown-stores m s t l frame records k = stores-covers Older (covers m) (shown_covers m t) l (Held frame) (Held records)
    (λ v at is. and_from (covers m v) (is_admitted m t v) is (covers-admitted m s t v k.there (k.fits v at) is)) k.stores

-- what the frame finds is the answer
pub frame-answers : (m : Machine) (s : ℕ) (t : Transaction) (l frame records : List (Version Change)) (v : Version Change) → Shown m s t l frame records → find (is_admitted m t) frame ≡ Some v → find (is_admitted m t) l ≡ Some v
frame-answers m s t l frame records v k is =
    frame-finds Older (shown_covers m t) (is_admitted m t) l (Held frame) (Held records) older-order (shows m t) k.sorted (shown-stores m s t l frame records k) v (record {
      held = (find-member (is_admitted m t) frame v is).0;
      passes = (find-member (is_admitted m t) frame v is).1;
      newest = find-newest Older (is_admitted m t) frame v k.ordered is;
    })

-- where it finds none, what the history finds is
pub history-answers : (m : Machine) (s : ℕ) (t : Transaction) (l frame records : List (Version Change)) (found : Option (Version Change)) → Shown m s t l frame records → find (is_admitted m t) frame ≡ None
    → Picks Older (Held records) (is_admitted m t) found → find (is_admitted m t) l ≡ found
history-answers m s t l frame records found k none picks =
    history-finds Older (shown_covers m t) (is_admitted m t) l (Held frame) (Held records) older-order (shows m t) k.sorted (shown-stores m s t l frame records k)
    (λ v at is. find-none (is_admitted m t) frame none v at is) found picks

-- ---- the committed versions of a chain

-- what a released version of a running transaction would be
pub own-unreleased : (m : Machine) (s : ℕ) (t : Transaction) (view : View) (v : Version Change) → Valid m → transaction_of m s ≡ Some t → t.phase ≡ Running → ViewStands m t view
    → released m.history (length m.history) v.window.name ≡ true → is_own view (unmarked_update v) ≡ false
own-unreleased m s t view v valid there running stands seen = false-from (is_own view (unmarked_update v)) (λ own.
    let p = and_parts (not (view.own == 0)) ((v.window.name.run == view.run) && (v.window.name.id == view.own)) own in
    let q = and_parts (v.window.name.run == view.run) (v.window.name.id == view.own) p.1 in
    both_ways (released m.history (length m.history) (name_in m.run t)) (subst (λ z. PhaseStands z m.history (name_in m.run t) t) running (valid.sessions.each s t there).phase)
    (released-same (name_in m.run t) v.window.name m.history (length m.history)
    (sym (eqb-true v.window.name.run view.run q.0 ∙ stands.sees.run)) (sym (eqb-true v.window.name.id view.own q.1 ∙ stands.own)) ∙ seen))

-- a read of committed versions of the key's line
pub settled-read : (m : Machine) (s : ℕ) (t : Transaction) (view : View) (table : ℕ) (key : List ℕ) (held : List (Version Change)) → Valid m → transaction_of m s ≡ Some t → t.phase ≡ Running → ViewStands m t view
    → ((v : Version Change) → Member v held → Member v (line m.history table key))
    → read_of view (map unmarked_update held) ≡ reply_to view (option_map unmarked_update (find (is_admitted m t) held))
settled-read m s t view table key held valid there running stands within =
    ap (reply_to view) (reads-pick m t.start view held stands.sees
    (λ v at. let seen = line-released m.history valid.orderly table key v (within v at) in (inl seen, own-unreleased m s t view v valid there running stands seen)))
    ∙ ap (λ read. reply_to view (option_map unmarked_update (find (admits m.history t.start read) held))) stands.read

-- the reply of a committed version is what it gives
settled-reply : (view : View) (v : Version Change) → reply_to view (Some (unmarked_update v)) ≡ reply_of v.change
settled-reply view v = by-own (is_own view (unmarked_update v)) where
  by-own : (b : Bool) → (if b || (0 == 0) then reply_of v.change else Conflicts v.window.name.id) ≡ reply_of v.change
  by-own true = refl
  by-own false = refl

pub change-stands : (m : Machine) (s : ℕ) (t : Transaction) (table : ℕ) (key : List ℕ) (cell : Option (Version Change)) (records : List (Version Change)) (c : Change)
    → ReadAnswer m s t table key (Value (put_of c)) → ReplyStands m s t table key cell records (reply_of c)
change-stands m s t table key cell records (Put value) a = a
change-stands m s t table key cell records Remove a = a

-- what decides a read below the top
pub record Rests (m : Machine) (s : ℕ) (t : Transaction) (table : ℕ) (key : List ℕ) (held below records : List (Version Change)) (cell : Option (Version Change)) : Type 0 where
  pub none_own : own_write t table key ≡ None
  pub ending : (other : ℕ) (x : Transaction) → Meets m s t table key other x → IsEnding x.phase
  pub same : find (is_admitted m t) (line m.history table key) ≡ find (is_admitted m t) below
  pub within : (v : Version Change) → Member v below → Member v (line m.history table key)
  pub shown : Shown m s t below (frame_of held cell) records

-- the answer is what the versions below give
answer-below : (m : Machine) (s : ℕ) (t : Transaction) (table : ℕ) (key : List ℕ) (held below records : List (Version Change)) (cell found : Option (Version Change)) → Rests m s t table key held below records cell
    → find (is_admitted m t) below ≡ found → ReadAnswer m s t table key (Value (content_of found))
answer-below m s t table key held below records cell found r is = subst (λ o. ReadAs o m s t table key (Value (content_of found))) (sym r.none_own)
    (sym (ap content_of (r.same ∙ is)), r.ending)

frame-held : (m : Machine) (t : Transaction) (held : List (Version Change)) (cell found : Option (Version Change)) → find (is_admitted m t) held ≡ found
    → find (is_admitted m t) (frame_of held cell) ≡ option_or found (find (is_admitted m t) (option_to_list cell))
frame-held m t held cell found is = find-append (is_admitted m t) held (option_to_list cell) ∙ ap (λ o. option_or o (find (is_admitted m t) (option_to_list cell))) is

cell-found : (m : Machine) (t : Transaction) (cell : Option (Version Change)) (v : Version Change) → cell ≡ Some v → is_admitted m t v ≡ true → find (is_admitted m t) (option_to_list cell) ≡ Some v
cell-found m t cell v is passes = ap (λ o. find (is_admitted m t) (option_to_list o)) is ∙ ap (λ b. if b then Some v else None) passes

cell-passed : (m : Machine) (t : Transaction) (cell : Option (Version Change)) → ((v : Version Change) → cell ≡ Some v → is_admitted m t v ≡ false) → find (is_admitted m t) (option_to_list cell) ≡ None
cell-passed m t None none = refl
cell-passed m t (Some v) none = ap (λ b. if b then Some v else None) (none v refl)

goes-on : (m : Machine) (s : ℕ) (t : Transaction) (table : ℕ) (key : List ℕ) (held below records : List (Version Change)) (cell : Option (Version Change)) → Rests m s t table key held below records cell
    → find (is_admitted m t) held ≡ None → GoesOn m s t table key cell records
goes-on m s t table key held below records cell r none = record {
  in_cell = λ v is passes. answer-below m s t table key held below records cell (Some v) r
      (frame-answers m s t below (frame_of held cell) records v r.shown (frame-held m t held cell None none ∙ cell-found m t cell v is passes));
  in_history = λ passed found picks. answer-below m s t table key held below records cell found r
      (history-answers m s t below (frame_of held cell) records found r.shown (frame-held m t held cell None none ∙ cell-passed m t cell passed) picks);
}

pub rests-stand : (m : Machine) (s : ℕ) (t : Transaction) (view : View) (table : ℕ) (key : List ℕ) (held below records : List (Version Change)) (cell : Option (Version Change)) → Valid m → t.phase ≡ Running → ViewStands m t view
    → Rests m s t table key held below records cell → ReplyStands m s t table key cell records (read_of view (map unmarked_update held))
rests-stand m s t view table key held below records cell valid running stands r = subst (ReplyStands m s t table key cell records)
    (sym (settled-read m s t view table key held valid r.shown.there running stands (λ v at. r.within v (r.shown.stores.kept.within v (inl (member-append-left v held (option_to_list cell) at))))))
    (by-found (find (is_admitted m t) held) refl) where
      by-found : (o : Option (Version Change)) → find (is_admitted m t) held ≡ o → ReplyStands m s t table key cell records (reply_to view (option_map unmarked_update o))
      by-found None is = goes-on m s t table key held below records cell r is
      by-found (Some v) is = subst (ReplyStands m s t table key cell records) (sym (settled-reply view v)) (change-stands m s t table key cell records v.change
          (answer-below m s t table key held below records cell (Some v) r (frame-answers m s t below (frame_of held cell) records v r.shown (frame-held m t held cell (Some v) is))))
