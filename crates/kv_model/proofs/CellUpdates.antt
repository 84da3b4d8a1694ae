-- A cell as the last update of its key's chain.
use Rattle.std.proofs.Common.{◌≡◌, ℕ, refl, ap, sym, ◌∙◌, List, [], ◌∷◌, ◌++◌, inl, inr, subst, map, append_assoc}
use Rattle.std.specs.Prelude.{Some, None}
use Rattle.item.specs.declared.Change.{Change}
use Rattle.stamp.specs.declared.Version.{Version}
use Rattle.kv_model.specs.Holds.{Descends}
use Rattle.kv_model.specs.Ordered.{Older}
use Rattle.kv_model.specs.Machine.{Machine}
use Rattle.kv_model.specs.Droppable.{covers}
use Rattle.kv_model.specs.Pending.{Update, settled, HasEnded, TopStands, InFrame}
use Rattle.kv_model.specs.ReconcileLaws.{CellsAreUpdates, UpdatesAreCells}
use Rattle.kv_model.specs.StoreLaws.{Held}
use Rattle.kv_model.proofs.ReconciledKeys.{frame-list, list-frame, stores-alike}

append-nil : {A : Type 0} (l : List A) → l ++ [] ≡ l
append-nil [] = refl
append-nil (x ∷ l) = ap (λ rest. x ∷ rest) (append-nil l)

settled-append : (held rest : List (Version Change)) → map settled (held ++ rest) ≡ map settled held ++ map settled rest
settled-append [] rest = refl
settled-append (v ∷ held) rest = ap (λ l. settled v ∷ l) (settled-append held rest)

-- ---- the same frame, with the cell as such or as the last of the versions

module _ (held : List (Version Change)) (v : Version Change) where
  abbrev longer : List (Version Change)
  longer = held ++ v ∷ []

  into : (w : Version Change) → InFrame held (Some v) w → InFrame longer None w
  into w at = inl (frame-list held (Some v) w at)

  out : (w : Version Change) → InFrame longer None w → InFrame held (Some v) w
  out w (inl at) = list-frame held (Some v) w at
  out w (inr none) = absurd (cc)

pub cells-are-updates : CellsAreUpdates
cells-are-updates m table key chain v records k = record {
  top = k.top;
  held = longer k.held v;
  below = k.below;
  chained = ap (λ l. l ++ settled v ∷ []) k.chained ∙ append_assoc k.top (map settled k.held) (settled v ∷ []) ∙ ap (λ l. k.top ++ l) (sym (settled-append k.held (v ∷ [])));
  ordered = subst (Descends Older) (sym (append-nil (longer k.held v))) k.ordered;
  topped = k.topped;
  stores = stores-alike Older (covers m) k.below (InFrame k.held (Some v)) (Held records) (InFrame (longer k.held v) None) (Held records) (into k.held v) (out k.held v) (λ w h. h) (λ w h. h) k.stores;
  layered = λ w h. let over = k.layered w h in (over.0, into k.held v over.0 over.1, over.2, over.3);
}

-- ---- the last update of a frame

abbrev first-version : Version Change → List Update → Version Change
first-version v [] = v
first-version v (u ∷ rest) = u.version

-- the last of settled versions
record LastOf (chain : List Update) (v : Version Change) (top : List Update) (held : List (Version Change)) : Type 0 where
  front : List (Version Change)
  held_is : held ≡ front ++ v ∷ []
  chain_is : chain ≡ top ++ map settled front

last-settled : (chain : List Update) (v : Version Change) (held : List (Version Change)) → chain ++ settled v ∷ [] ≡ map settled held → LastOf chain v [] held
last-settled [] v [] e = absurd (cc)
last-settled [] v (w ∷ []) e =
    let same : v ≡ w = ap (first-version v) e in
    record { front = []; held_is = ap (λ x. x ∷ []) (sym same); chain_is = refl }
last-settled [] v (w ∷ (x ∷ held)) e = absurd (cc)
last-settled (u ∷ chain) v [] e = absurd (cc)
last-settled (u ∷ chain) v (w ∷ held) e =
    let first : u ≡ settled w = cc in
    let rest : chain ++ settled v ∷ [] ≡ map settled held = cc in
    let last = last-settled chain v held rest in
    record {
      front = w ∷ last.front;
      held_is = ap (λ l. w ∷ l) last.held_is;
      chain_is = ap (λ l. u ∷ l) last.chain_is ∙ ap (λ x. x ∷ map settled last.front) first;
    }

last-of : (m : Machine) (table : ℕ) (key : List ℕ) (chain : List Update) (v : Version Change) (top : List Update) (held below : List (Version Change)) → TopStands m table key top below
    → (chain ≡ [] → HasEnded m v.window.name) → chain ++ settled v ∷ [] ≡ top ++ map settled held → LastOf chain v top held
last-of m table key chain v [] held below stands ended e = last-settled chain v held e
last-of m table key [] v (u ∷ []) held below stands ended e =
    let same : settled v ≡ u = cc in
    absurd (ended refl stands.session stands.transaction stands.there (ap (λ (x : Update). x.version.window.name) same ∙ stands.name))
last-of m table key (x ∷ chain) v (u ∷ []) held below stands ended e =
    let first : x ≡ u = cc in
    let rest : chain ++ settled v ∷ [] ≡ map settled held = cc in
    let last = last-settled chain v held rest in
    record {
      front = last.front;
      held_is = last.held_is;
      chain_is = ap (λ l. x ∷ l) last.chain_is ∙ ap (λ y. y ∷ map settled last.front) first;
    }
last-of m table key chain v (u ∷ (w ∷ rest)) held below stands ended e = absurd stands

pub updates-are-cells : UpdatesAreCells
updates-are-cells m table key chain v records ended k =
    let last = last-of m table key chain v k.top k.held k.below k.topped ended k.chained in
    let at = subst (λ l. (w : Version Change) → InFrame l None w → InFrame last.front (Some v) w) (sym last.held_is) (out last.front v) in
    let from = subst (λ l. (w : Version Change) → InFrame last.front (Some v) w → InFrame l None w) (sym last.held_is) (into last.front v) in
    record {
      top = k.top;
      held = last.front;
      below = k.below;
      chained = last.chain_is;
      ordered = subst (Descends Older) (append-nil k.held ∙ last.held_is) k.ordered;
      topped = k.topped;
      stores = stores-alike Older (covers m) k.below (InFrame k.held None) (Held records) (InFrame last.front (Some v)) (Held records) at from (λ w h. h) (λ w h. h) k.stores;
      layered = λ w h. let over = k.layered w h in (over.0, at over.0 over.1, over.2, over.3);
    }
