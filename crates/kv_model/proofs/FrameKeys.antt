-- A key of a frame, at the events of others that are no write of it.
use Rattle.std.proofs.Common.{◌≡◌, ℕ, refl, ap, sym, ◌∙◌, true, false, List, [], ◌∷◌, ◌++◌, length, inl, inr, subst, map}
use Rattle.std.proofs.lemmas.Bool.{cases_Bool, both_ways}
use Rattle.item.specs.declared.Change.{Change}
use Rattle.stamp.specs.declared.Name.{Name}
use Rattle.stamp.specs.declared.Version.{Version}
use Rattle.kv_model.specs.Holds.{Member}
use Rattle.kv_model.specs.Ordered.{Older}
use Rattle.kv_model.specs.History.{line, version_of, released}
use Rattle.kv_model.specs.Machine.{Machine, Phase, Running, Failed, Prepared, Resolving, Leaving, Event, name_of, after, stamped}
use Rattle.kv_model.specs.Reads.{own_write, is_own, PreparedAt, OthersEnding}
use Rattle.kv_model.specs.Allowed.{Allowed}
use Rattle.kv_model.specs.Droppable.{covers}
use Rattle.kv_model.specs.Pending.{Update, settled, MarkStands, BelowStands, TopStands, IsTop, InFrame}
use Rattle.kv_model.specs.Elsewhere.{IsOfOthers, IsElsewhere, TouchesNone}
use Rattle.kv_model.specs.MarkLaws.{KeysGoOn}
use Rattle.kv_model.specs.StoreLaws.{Held}
use Rattle.kv_model.specs.Valid.{Valid, PhaseStands}
use Rattle.kv_model.proofs.Newest.{find-member}
use Rattle.kv_model.proofs.OwnWrites.{filter-unwritten, stamped-at}
use Rattle.kv_model.proofs.Pins.{covers-after}
use Rattle.kv_model.proofs.Living.{stores-covers}
use Rattle.kv_model.proofs.Onward.{session-was, session-stays, run-after, history-grew}
use Rattle.kv_model.proofs.ReconciledKeys.{line-top}
use Rattle.kv_model.proofs.MarkedKeys.{commits-busy, line-drawn, line-rests, free-rests, ended-rests}

-- ---- the key of an update on top

module _ (m : Machine) (event : Event) (table : ℕ) (key : List ℕ) (u : Update) (below : List (Version Change)) (valid : Valid m) (may : Allowed m event) (elsewhere : IsElsewhere table key event) (q : IsTop m table key u below) (others : IsOfOthers q.session event) where
  pub top-line : line (after m event).history table key ≡ line m.history table key
  top-line = elim (history-grew m event valid may) [
    | inl same ↦ ap (λ h. line h table key) same
    | inr more ↦ elim more [
      | inl quiet ↦ ap (λ h. line h table key) quiet.is ∙ quiet.lines table key
      | inr rest ↦ elim rest [
        | inl c ↦ ap (λ h. line h table key) c.is ∙ (c.lines table key ∙ elim (cases_Bool (is_own (own_write c.transaction table key))) [
          | inl own ↦ absurd (commits-busy c.transaction.phase c.commit c.durable c.may (q.alone c.session c.transaction (subst (IsOfOthers q.session) c.by others) (c.there, own)))
          | inr none ↦ ap (λ l. map (version_of (name_of m c.transaction)) l ++ line m.history table key)
              (stamped-at c.commit c.durable table key c.transaction.writes ∙ ap (stamped c.commit c.durable) (filter-unwritten table key c.transaction.writes ((valid.sessions.each c.session c.transaction c.there).single table key) none))
        ])
        | inr is ↦ absurd (subst (IsElsewhere table key) is elsewhere)
      ]
    ]
  ]

  top-alone : OthersEnding (after m event) q.session table key
  top-alone other x another wrote = elim (session-was m event table key valid may other x wrote.0) [
    | inl kin ↦ kin.2.ending (q.alone other kin.0 another (kin.1, ap is_own (sym kin.2.own) ∙ wrote.1))
    | inr new ↦ elim new [
      | inl fresh ↦ let none : is_own (own_write x table key) ≡ false = ap is_own fresh.own in absurd (both_ways (is_own (own_write x table key)) none wrote.1)
      | inr now ↦ absurd (now.2.here elsewhere)
    ]
  ]

  named : name_of m q.transaction ≡ name_of (after m event) q.transaction
  named = ap the_name (sym (run-after m event)) where
    the_name : ℕ → Name
    the_name run = record { run = run; id = q.transaction.id }

  -- a prepare in the history stays the one that released it
  prepared-on : (x : Name) (stamp : ℕ) → released m.history (length m.history) x ≡ true → PreparedAt m.history x stamp → PreparedAt (after m event).history x stamp
  prepared-on x stamp out at = elim (history-grew m event valid may) [
    | inl same ↦ subst (λ h. PreparedAt h x stamp) (sym same) at
    | inr more ↦ elim more [
      | inl quiet ↦ subst (λ h. PreparedAt h x stamp) (sym quiet.is) (inr (quiet.fresh x out, at))
      | inr rest ↦ elim rest [
        | inl c ↦ subst (λ h. PreparedAt h x stamp) (sym c.is) (inr (c.fresh x out, at))
        | inr is ↦ absurd (subst (IsElsewhere table key) is elsewhere)
      ]
    ]
  ]

  mark-on : (p : Phase) → MarkStands p m.history (name_of m q.transaction) u → PhaseStands p m.history (name_of m q.transaction) q.transaction → MarkStands p (after m event).history (name_of m q.transaction) u
  mark-on Running mark stands = tt
  mark-on Failed mark stands = tt
  mark-on Leaving mark stands = tt
  mark-on (Prepared stamp) mark stands = mark
  mark-on Resolving mark stands = (mark.0, prepared-on (name_of m q.transaction) u.prepared (stands.writes q.write (find-member _ q.transaction.writes q.write q.own).0) mark.1)

  pub top-on : IsTop (after m event) table key u below
  top-on = record {
    session = q.session;
    transaction = q.transaction;
    write = q.write;
    there = session-stays m event q.session may others ∙ q.there;
    own = q.own;
    name = q.name ∙ named;
    change = q.change;
    mark = subst (λ x. MarkStands q.transaction.phase (after m event).history x u) named (mark-on q.transaction.phase q.mark (valid.sessions.each q.session q.transaction q.there).phase);
    rest = subst (λ x. BelowStands q.transaction.phase x u (line (after m event).history table key) below) named
        (subst (λ l. BelowStands q.transaction.phase (name_of m q.transaction) u l below) (sym top-line) q.rest);
    alone = top-alone;
    above = q.above;
  }

tops-on : (m : Machine) (event : Event) (table : ℕ) (key : List ℕ) (top : List Update) (below : List (Version Change)) → Valid m → Allowed m event → IsElsewhere table key event → TouchesNone m top event
    → TopStands m table key top below → TopStands (after m event) table key top below
tops-on m event table key [] below valid may elsewhere touches stands = (line-rests m event table key valid may elsewhere stands.1 ∙ stands.0, free-rests m event table key valid may elsewhere stands.1)
tops-on m event table key (u ∷ []) below valid may elsewhere touches q = top-on m event table key u below valid may elsewhere q (touches u (inl refl) q.session q.transaction q.there q.name)
tops-on m event table key (u ∷ (w ∷ rest)) below valid may elsewhere touches stands = absurd stands

pub keys-go-on : KeysGoOn
keys-go-on m event table key chain cell records valid may elsewhere touches k = record {
  top = k.top;
  held = k.held;
  below = k.below;
  chained = k.chained;
  ordered = k.ordered;
  topped = tops-on m event table key k.top k.below valid may elsewhere (λ u at. touches u (subst (λ l. Member u l) (sym k.chained) (left k.top u at))) k.topped;
  stores = stores-covers Older (covers m) (covers (after m event)) k.below (InFrame k.held cell) (Held records) (λ v there is. covers-after m event table key v valid may (into v there) is) k.stores;
  layered = λ v h. let w = k.layered v h in
      (w.0, w.1, ended-rests m event w.0.window.name valid may (line-drawn m table key w.0 valid (into w.0 (k.stores.kept.within w.0 (inl w.1)))) w.2, w.3);
} where
  into : (v : Version Change) → Member v k.below → Member v (line m.history table key)
  into v at = elim (line-top m table key k.top k.below k.topped) [ inl same ↦ subst (λ l. Member v l) (sym same) at | inr one ↦ subst (λ l. Member v l) (sym one.2) (inr at) ]

  left : (top : List Update) (u : Update) → Member u top → Member u (top ++ map settled k.held)
  left [] u at = absurd at
  left (w ∷ top) u (inl same) = inl same
  left (w ∷ top) u (inr later) = inr (left top u later)
