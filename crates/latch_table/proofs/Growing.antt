-- One seat more.
use Rattle.std.proofs.Common.{◌≡◌, ◌≢◌, ℕ, zero, suc, ◌≤◌, false, List, [], ◌∷◌, ◌++◌, map, length, set, sym, ap, ◌∙◌, subst, ⊎_elim, arith, length-set}
use mathlib.Core.Option.{some, some-injective, some-ne-none}
use lib.ListN.{get_elem?}
use Rattle.std.proofs.lemmas.List.{length-append}
use Rattle.atomic_table.specs.Table.{Me}
use Rattle.atomic_table.proofs.Lists.{at_set, set_here, at_longer}
use Rattle.pool_law.specs.declared.part.Part.{Part}
use Rattle.latch_table.specs.declared.latched.Latched.{Latched}
use Rattle.latch_table.specs.declared.seat.Seat.{Seat}
use Rattle.latch_table.specs.declared.view.View.{View}
use Rattle.latch_table.specs.Rule.{maker, next_seat}
use Rattle.latch_table.specs.Seats.{Sits}
use Rattle.latch_table.specs.Tables.{shape_of, pieces_in}
use Rattle.latch_table.specs.Opening.{Grows, IsFresh}
use Rattle.latch_table.proofs.Keeps.{inside}
use Rattle.latch_table.proofs.Seating.{at_end}
use Rattle.std.proofs.Common.{replicate}
use Rattle.std.proofs.lemmas.List.{length-replicate}
use Rattle.atomic_table.specs.Seated.{TableId}
use Rattle.atomic_table.specs.declared.shared.Seat.{Seat as Raw}
use Rattle.pool_law.specs.declared.part.Part.TheVariants.{Gone}
use Rattle.latch_table.specs.Rule.{newcomer}
use Rattle.latch_table.specs.Seats.{vacated}

module _ {H F N : Type 0} (z : TableId) where
  sits_alike : (r r' : Raw (Part H F) (View H F N)) (ps : List (Part H F)) → r'.table_id ≡ r.table_id → r'.me.0.spent ≡ false → r'.me.0.held ≡ r.me.0.held → r'.me.1 ≡ r.me.1
      → Sits z r ps → Sits z r' ps
  sits_alike r r' ps t live held out s = record {
    table = t ∙ s.table;
    mine = live;
    away = out ∙ (s.away ∙ ap (λ (l : List (ℕ × Part H F)). map vacated l) (sym held));
    room = s.room;
    wide = s.wide;
    once = λ a b k p q h g. s.once a b k p q (ap (λ l. get_elem? l a) (sym held) ∙ h) (ap (λ l. get_elem? l b) (sym held) ∙ g);
    fit = λ a k p q h g. s.fit a k p q (ap (λ l. get_elem? l a) (sym held) ∙ h) g;
  }

  sits_fresh : (r : Raw (Part H F) (View H F N)) (ps : List (Part H F)) → r.table_id ≡ z → r.me.0.spent ≡ false → r.me.0.held ≡ [] → r.me.1 ≡ [] → length ps ≡ z.slots → z.slots ≤ z.words
      → Sits z r ps
  sits_fresh r ps t live held out room wide = record {
    table = t;
    mine = live;
    away = out ∙ ap (λ (l : List (ℕ × Part H F)). map vacated l) (sym held);
    room = room;
    wide = wide;
    once = λ a b k p q h g. absurd (some-ne-none (k, p) (sym h ∙ ap (λ l. get_elem? l a) held));
    fit = λ a k p q h g. absurd (some-ne-none (k, p) (sym h ∙ ap (λ l. get_elem? l a) held));
  }

module _ {L H F N : Type 0} (start : ℕ → N) (t : Latched L H F N) where
  abbrev S : Type 0
  S = Seat L H F N

  pub grows_more : (seats : List S) (first changed new : S) → get_elem? seats 0 ≡ some first → Grows start t seats
      → changed.number ≡ first.number → new.number ≡ length seats → changed.parts.items ≡ first.parts.items → changed.raw.table_id ≡ first.raw.table_id → changed.raw.id ≡ 0 → changed.raw.me ≡ (maker first.raw.me.0, first.raw.me.1)
      → new.raw.table_id ≡ first.raw.table_id → new.raw.me ≡ (next_seat start first.raw.me.0, []) → new.parts.items ≡ replicate (pieces_in t) Gone
      → Grows start t (set seats 0 changed ++ new ∷ [])
  grows_more seats first changed new at g num many ps e1 e2 e3 n1 n2 n3 =
      let old = g.fresh 0 first at in
      let sits = old.0 in
      let own = g.first first at in
      let long = length-set seats 0 changed in
      let me = λ (A : Type 0) (f : View H F N → A). ap (λ (m : Me (Part H F) (View H F N)). f m.0) e3 in
      let mine = λ (A : Type 0) (f : View H F N → A). ap (λ (m : Me (Part H F) (View H F N)). f m.0) n2 in
      let alike : Sits t.table.shared.table_id changed.raw first.parts.items =
      sits_alike t.table.shared.table_id first.raw changed.raw first.parts.items e1 (me _ (λ v. v.spent) ∙ sits.mine) (me _ (λ v. v.held)) (ap (λ (m : Me (Part H F) (View H F N)). m.1) e3) sits in
      let one : IsFresh start t 0 changed = (
        subst (λ (l : List (Part H F)). Sits t.table.shared.table_id changed.raw l) (sym ps) alike,
        me _ (λ v. v.seat) ∙ old.1,
        me _ (λ v. v.held) ∙ old.2,
        me _ (λ v. v.note) ∙ old.3,
        num ∙ (old.4 ∙ sym (me _ (λ v. v.seat))),
      ) in
      let last : IsFresh start t (length seats) new = (
        sits_fresh t.table.shared.table_id new.raw new.parts.items (n1 ∙ sits.table) (mine _ (λ v. v.spent)) (mine _ (λ v. v.held)) (ap (λ (m : Me (Part H F) (View H F N)). m.1) n2) (ap length n3 ∙ length-replicate (pieces_in t) Gone) sits.wide,
        mine _ (λ v. v.seat) ∙ own.1,
        mine _ (λ v. v.held),
        mine _ (λ v. v.note) ∙ ap start own.1,
        many ∙ sym (mine _ (λ v. v.seat) ∙ own.1),
      ) in
      record {
        fresh = λ j s e. ⊎_elim
            (λ (h : get_elem? (set seats 0 changed) j ≡ some s). ⊎_elim
            (λ (q : (j ≡ 0) × (changed ≡ s)). subst (λ (i : ℕ). IsFresh start t i s) (sym q.0) (subst (λ (u : S). IsFresh start t 0 u) q.1 one))
            (λ (q : (j ≢ 0) × (get_elem? seats j ≡ some s)). g.fresh j s q.1)
            (at_set seats 0 j changed s h))
            (λ (q : (j ≡ length (set seats 0 changed)) × (new ≡ s)). subst (λ (i : ℕ). IsFresh start t i s) (sym (q.0 ∙ long)) (subst (λ (u : S). IsFresh start t (length seats) u) q.1 last))
            (at_end (set seats 0 changed) new s j e);
        first = λ s e.
            let is : changed ≡ s = some-injective changed s (sym (at_longer (set seats 0 changed) (new ∷ []) 0 changed (set_here seats 0 changed (inside seats 0 first at))) ∙ e) in
            subst (λ (u : S). (u.raw.id ≡ 0) × (u.raw.me.0.made ≡ length (set seats 0 changed ++ new ∷ [])) × (u.raw.me.0.shape ≡ shape_of t)) is (
              e2,
              me _ (λ v. v.made) ∙ (let a = own.1 in let b = length-append (set seats 0 changed) (new ∷ []) in omega arith),
              me _ (λ v. v.shape) ∙ own.2,
            );
      }

  pub grows_one : (s : S) → s.number ≡ 0 → s.raw.table_id ≡ t.table.shared.table_id → s.raw.id ≡ 0 → s.raw.me ≡ (newcomer (start 0) (shape_of t) 0 1, []) → s.parts.items ≡ replicate (pieces_in t) Gone
      → pieces_in t ≤ t.table.shared.table_id.words → Grows start t (s ∷ [])
  grows_one s num e1 e2 e3 n3 wide =
      let me = λ (A : Type 0) (f : View H F N → A). ap (λ (m : Me (Part H F) (View H F N)). f m.0) e3 in
      let one : IsFresh start t 0 s = (
        sits_fresh t.table.shared.table_id s.raw s.parts.items e1 (me _ (λ v. v.spent)) (me _ (λ v. v.held)) (ap (λ (m : Me (Part H F) (View H F N)). m.1) e3) (ap length n3 ∙ length-replicate (pieces_in t) Gone) wide,
        me _ (λ v. v.seat),
        me _ (λ v. v.held),
        me _ (λ v. v.note),
        num ∙ sym (me _ (λ v. v.seat)),
      ) in
      record {
        fresh = λ j u e. only j u one e;
        first = λ u e. subst (λ (w : S). (w.raw.id ≡ 0) × (w.raw.me.0.made ≡ 1) × (w.raw.me.0.shape ≡ shape_of t)) (some-injective s u e) (e2, me _ (λ v. v.made), me _ (λ v. v.shape));
      } where
        only : (j : ℕ) (u : S) → IsFresh start t 0 s → get_elem? (s ∷ []) j ≡ some u → IsFresh start t j u
        only zero u one e = subst (λ (w : S). IsFresh start t 0 w) (some-injective s u e) one
        only (suc j) u one e = absurd (some-ne-none u (sym e))
