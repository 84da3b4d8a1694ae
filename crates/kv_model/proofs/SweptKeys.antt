-- A history that loses what is covered, or gets versions of the line.
use Rattle.std.proofs.Common.{◌≡◌, sym, ◌∙◌, Bool, false, List, [], ◌∷◌, ◌++◌, inl, inr, subst}
use Rattle.item.specs.declared.Change.{Change}
use Rattle.stamp.specs.declared.Version.{Version}
use Rattle.kv_model.specs.Holds.{Member, Descends, Stores}
use Rattle.kv_model.specs.Ordered.{Older, NameBelow}
use Rattle.kv_model.specs.History.{line, is_by}
use Rattle.kv_model.specs.Machine.{Machine}
use Rattle.kv_model.specs.Droppable.{covers}
use Rattle.kv_model.specs.Captures.{Either, In, is_in}
use Rattle.kv_model.specs.CaptureLaws.{KeptOf}
use Rattle.kv_model.specs.Pending.{InFrame}
use Rattle.kv_model.specs.Reconciling.{PastCovers}
use Rattle.kv_model.specs.Marks.{keeps_cell}
use Rattle.kv_model.specs.StoreLaws.{Held}
use Rattle.kv_model.specs.SweepLaws.{SweepsInHand, Swept, SweepsStand, SweepsKeepMarked, SweepsKeepCaptured, AddsStand, AddsHold, AddsKeepCaptured}
use Rattle.kv_model.proofs.Ordering.{line-descends}
use Rattle.kv_model.proofs.Finishing.{covers-checkpoint, older-order}
use Rattle.kv_model.proofs.Capturing.{captured-history}
use Rattle.kv_model.proofs.Living.{stores-moves}
use Rattle.kv_model.proofs.ReconciledKeys.{joined-into, joined-out, histories-alike, captured-alike, line-top}

-- ---- sweeps

swept-stores : (m : Machine) (past : Version Change → Bool) (l records later : List (Version Change)) (Frame : Version Change → Type 0) → PastCovers m past l → Swept past records later
    → Stores Older (covers m) l Frame (Held records) → Stores Older (covers m) l Frame (Held later)
swept-stores m past l records later Frame low swept s = stores-moves Older (covers m) l Frame (Held records) Frame (Held later) s (λ v f. f)
    (λ v h. s.kept.within v (inr (swept.fewer v h)))
    (λ v held. elim held [
      | inl f ↦ inl (inl f)
      | inr h ↦ elim (swept.lost v h) [
        | inl stays ↦ inl (inr stays)
        | inr w ↦ let at = s.kept.within w.0 (inr w.1) in inr (record { by = w.0; there = at; above = w.2; is_cover = low w.0 at w.3 })
      ]
    ])
    (λ v w f g below. inl g)

pub sweeps-in-hand : SweepsInHand
sweeps-in-hand past moved records later swept = record {
  fewer = λ v h. joined-into moved records v (elim (joined-out moved later v h) [ inl old ↦ inl (swept.fewer v old) | inr new ↦ inr new ]);
  lost = λ v h. elim (joined-out moved records v h) [
    | inl old ↦ elim (swept.lost v old) [
      | inl stays ↦ inl (joined-into moved later v (inl stays))
      | inr w ↦ inr (w.0, joined-into moved records w.0 (inl w.1), w.2, w.3)
    ]
    | inr new ↦ inl (joined-into moved later v (inr new))
  ];
}

pub sweeps-stand : SweepsStand
sweeps-stand m table key past chain cell records later valid low swept k = record {
  top = k.top;
  held = k.held;
  below = k.below;
  chained = k.chained;
  ordered = k.ordered;
  topped = k.topped;
  stores = swept-stores m past k.below records later (InFrame k.held cell) (λ v there is. low v (elim (line-top m table key k.top k.below k.topped) [ inl same ↦ subst (λ l. Member v l) (sym same) there | inr one ↦ subst (λ l. Member v l) (sym one.2) (inr there) ]) is) swept k.stores;
  layered = λ v h. k.layered v (swept.fewer v h);
}

pub sweeps-keep-marked : SweepsKeepMarked
sweeps-keep-marked m table key past mark cell records later low swept k = record {
  stores = swept-stores m past (line m.history table key) records later (KeptOf (keeps_cell mark) (In cell)) low swept k.stores;
  filtered = λ v h. k.filtered v (swept.fewer v h);
  layered = λ v h. k.layered v (swept.fewer v h);
  ended = k.ended;
  free = k.free;
  bound = k.bound;
}

pub sweeps-keep-captured : SweepsKeepCaptured
sweeps-keep-captured m c table key past image records later runs low swept k =
    captured-history Older (covers m) (is_in m.history c.prefix) (is_by c.oldest) (line m.history table key) image (Held records) (Held later)
    (λ v is. covers-checkpoint m c v runs is)
    (λ v h. k.within v (swept.fewer v h))
    (λ v h. elim (swept.lost v h) [
      | inl stays ↦ inl stays
      | inr w ↦ let at = k.within w.0 w.1 in inr (record { by = w.0; there = at; above = w.2; is_cover = low w.0 at w.3 })
    ]) k

-- ---- adds

-- in a sorted list a name stands once
one-name : (l : List (Version Change)) → Descends Older l → (v w : Version Change) → Member v l → Member w l → v.window.name ≡ w.window.name → v ≡ w
one-name [] d v w a b same = absurd a
one-name (x ∷ l) d v w (inl a) (inl b) same = a ∙ sym b
one-name (x ∷ l) d v w (inl a) (inr b) same = absurd (older-order.irrefl v (subst (λ n. NameBelow n v.window.name) (sym same) (subst (λ (z : Version Change). Older w z) (sym a) (d.0 w b))))
one-name (x ∷ l) d v w (inr a) (inl b) same = absurd (older-order.irrefl w (subst (λ n. NameBelow n w.window.name) same (subst (λ (z : Version Change). Older v z) (sym b) (d.0 v a))))
one-name (x ∷ l) d v w (inr a) (inr b) same = one-name l d.1 v w a b same

pub adds-stand : AddsStand
adds-stand m table key chain cell records moved later valid added k = histories-alike m table key chain cell (Held (moved ++ records)) (Held later) (λ v h. into v (joined-out moved records v h)) added.fewer k where
  descends : Descends Older k.below
  descends = let d = line-descends m.history valid.orderly table key in
      elim (line-top m table key k.top k.below k.topped) [ inl same ↦ subst (Descends Older) same d | inr one ↦ (subst (Descends Older) one.2 d).1 ]

  into : (v : Version Change) → Either (Held records) (Held moved) v → Member v later
  into v (inl old) = added.old v old
  into v (inr new) = let w = added.new v new in
      subst (λ (z : Version Change). Member z later) (one-name k.below descends w.0 v (k.stores.kept.within w.0 (inr (added.fewer w.0 w.1))) (k.stores.kept.within v (inr (joined-into moved records v (inr new)))) w.2) w.1

pub adds-hold : AddsHold
adds-hold m c table key image records moved later valid added k = captured-alike (is_in m.history c.prefix) (is_by c.oldest) (line m.history table key) image (Held (moved ++ records)) (Held later) (λ v h. into v (joined-out moved records v h)) added.fewer k where
  into : (v : Version Change) → Either (Held records) (Held moved) v → Member v later
  into v (inl old) = added.old v old
  into v (inr new) = let w = added.new v new in
      subst (λ (z : Version Change). Member z later) (one-name (line m.history table key) (line-descends m.history valid.orderly table key) w.0 v (k.within w.0 (added.fewer w.0 w.1)) (k.within v (joined-into moved records v (inr new))) w.2) w.1

pub adds-keep-captured : AddsKeepCaptured
adds-keep-captured m c table key image records later more within k = captured-history Older (λ v. false) (is_in m.history c.prefix) (is_by c.oldest) (line m.history table key) image (Held records) (Held later)
    (λ v is. absurd (cc)) within (λ v h. inl (more v h)) k
