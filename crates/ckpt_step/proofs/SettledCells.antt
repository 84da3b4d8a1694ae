-- The cells of the books once a checkpoint is given up, and once it is settled.
use Rattle.std.specs.Prelude.{◌≡◌, ◌⊎◌, ℕ, ◌+◌, ◌*◌, ◌/◌, ◌==◌, Bool, true, false, List, [], ◌∷◌, ◌++◌, Option, if◌then◌else◌, refl}
use Rattle.std.specs.List.{fold}
use Rattle.std.proofs.Common.{inl, inr, sym, ◌∙◌, ap, subst, arith}
use Rattle.std.proofs.lemmas.Bool.{cases_Bool, eq-eqb, false≢true, ne_eqb}
use Rattle.std.proofs.lemmas.List.Sums.{fold-append}
use Rattle.block_mgr.specs.declared.cell.Cell.{Cell}
use Rattle.block_mgr.specs.Cells.{done_cell, dropped_cell, fresh, nothing}
use Rattle.block_mgr.specs.Open.{found_cell}
use Rattle.device_layout.specs.declared.addr.Addr.{Addr}
use Rattle.kv_model.specs.Holds.{Member}
use Rattle.stored.specs.Stored.{Stored}
use Rattle.ckpt_step.specs.Frees.{without, without_all, without_new, without_news}
use Rattle.ckpt_step.specs.Grounds.{AreLone, found_in, start_cell}
use Rattle.ckpt_step.specs.Halves.{AreApartFrom, AreOwn, IsFresh, IsOldBlock, body_cell, done_at, half_cell, held_cell, record_cell, settled_at, with_last}
use Rattle.ckpt_step.specs.Lives.{has_at}
use Rattle.ckpt_step.specs.declared.lives.Lone.{Lone}
use Rattle.ckpt_step.proofs.Cells.{Begins, OldCell, begins_or_not, old_cell, taken_cell, which, whole_units}
use Rattle.ckpt_step.proofs.Frees.{all_dead, all_last, all_stay, elsewhere, one_goes}
use Rattle.ckpt_step.proofs.Lones.{HasNoLone, StartCell, lone_cell, none_at, some_at, start_kind, which_lone}
use Rattle.ckpt_step.proofs.LonesMore.{has_some, of_none}

-- the addresses are blocks of before, and with the captured ones they are all of them but that of the record
pub record AreLeft (old : Option Stored) (lives : List Lone) (captured addrs : List Addr) : Type 0 where
  pub each : (a : Addr) → Member a addrs → IsOldBlock old lives a
  pub all : (u : ℕ) → (start_cell old lives u).is_live ≡ true → ((a : Addr) → Member a captured → Begins u a → ⊥) → (a : Addr) × Member a addrs × (a.offset ≡ 8192 + 4096 * u)

-- the record's block, or one that is captured
abbrev pub last_at : List Addr → Addr → ℕ → Cell
last_at captured a u = if a.offset == 8192 + 4096 * u then record_cell a else fold (with_last u) nothing captured

dropped_start : (c : Cell) → StartCell c → dropped_cell c ≡ c
dropped_start c (inl none) = rw none refl
dropped_start c (inr (inl (a, is))) = rw is refl
dropped_start c (inr (inr (n, last, is))) = rw is refl

-- ---- blocks of leaves that were written since

module _ (lives : List Lone) (u : ℕ) where
  -- one that stands at the unit stays
  one_stays : (c : Cell) (a : Addr) → has_at lives (8192 + 4096 * u) ≡ true → without_new lives u c a ≡ c
  one_stays c a has = elim (cases_Bool (has_at lives a.offset)) [
    | inl is ↦ rw is refl
    | inr isnt ↦ rw isnt (elsewhere u c a (λ at. false≢true (sym isnt ∙ (ap (has_at lives) at ∙ has))))
  ]

  -- any other goes as it would
  one_same : (c : Cell) (a : Addr) → has_at lives (8192 + 4096 * u) ≡ false → without_new lives u c a ≡ without u c a
  one_same c a none = elim (cases_Bool (has_at lives a.offset)) [
    | inr isnt ↦ rw isnt refl
    | inl is ↦ rw is (sym (elsewhere u c a (λ at. false≢true (sym none ∙ (ap (has_at lives) (sym at) ∙ is)))))
  ]

  all_there : (c : Cell) (addrs : List Addr) → has_at lives (8192 + 4096 * u) ≡ true → without_news lives u c addrs ≡ c
  all_there c [] has = refl
  all_there c (a ∷ addrs) has = ap (λ (d : Cell). without_news lives u d addrs) (one_stays c a has) ∙ all_there c addrs has

  all_same : (c : Cell) (addrs : List Addr) → has_at lives (8192 + 4096 * u) ≡ false → without_news lives u c addrs ≡ without_all u c addrs
  all_same c [] none = refl
  all_same c (a ∷ addrs) none = ap (λ (d : Cell). without_news lives u d addrs) (one_same c a none) ∙ all_same (without u c a) addrs none

-- ---- given up, and settled

module _ (old : Option Stored) (lives : List Lone) (captured : List Addr) (own : AreOwn old lives captured) (u : ℕ) where
  abbrev found : Cell
  found = start_cell old lives u

  -- a captured address that leads to the unit
  pub record OldHere (a : Addr) : Type 0 where
    pub units : ℕ
    pub is_last : Bool
    pub size : a.size ≡ 4096 * units
    pub cell : found ≡ held_cell units is_last

  pub record NewHere (a : Addr) : Type 0 where
    pub units : ℕ
    pub size : a.size ≡ 4096 * units
    pub none : found ≡ nothing

  pub owned : (a : Addr) → Member a captured → Begins u a → OldHere a ⊎ NewHere a
  owned a there at = elim (own a there) [
    | inl o ↦ inl (record { units = o.units; is_last = o.is_last; size = o.size; cell = subst (λ (v : ℕ). start_cell old lives v ≡ held_cell o.units o.is_last) (let same : o.unit ≡ u = omega (arith, at, o.offset) in same) o.cell })
    | inr n ↦ inr (record { units = n.units; size = n.size; none = subst (λ (v : ℕ). start_cell old lives v ≡ nothing) (let same : n.unit ≡ u = omega (arith, at, n.offset) in same) n.none })
  ]

  -- where none was written since, a block is one of the checkpoint
  last_here : has_at lives (8192 + 4096 * u) ≡ false → (n : ℕ) (last : Bool) → found ≡ held_cell n last → last ≡ true
  last_here none n last is = elim (which_lone u lives) [
    | inl one ↦ absurd (none_at lives (8192 + 4096 * u) none one.lone one.there one.at)
    | inr nobody ↦ by (old_cell u old) (sym (nobody.cell (found_cell (found_in old) u)) ∙ is)
  ]
    where
      by : OldCell (found_cell (found_in old) u) → found_cell (found_in old) u ≡ held_cell n last → last ≡ true
      by (inl none_there) same = absurd (false≢true (ap (λ (c : Cell). c.is_live) (sym none_there ∙ same)))
      by (inr (inl (a, record_there))) same = absurd (false≢true (ap (λ (c : Cell). c.is_live) (sym record_there ∙ same)))
      by (inr (inr (m, body))) same = ap (λ (c : Cell). c.is_last) (sym same ∙ body)

  stays : AreLone old lives → has_at lives (8192 + 4096 * u) ≡ true → dropped_cell (half_cell old lives captured u) ≡ found
  stays lone has = elim (which u captured) [
    | inr none ↦ ap dropped_cell (none.half found) ∙ dropped_start found (start_kind u old lives)
    | inl one ↦ elim (owned one.addr one.there one.at) [
      | inl o ↦
          let cell : half_cell old lives captured u ≡ taken_cell o.units o.is_last = one.half found ∙ rw (o.cell, o.size, whole_units o.units) refl in
          ap dropped_cell cell ∙ sym o.cell
      | inr n ↦
          let x = some_at lives (8192 + 4096 * u) has in
          absurd (false≢true (ap (λ (c : Cell). c.is_live) (sym n.none ∙ lone_cell old lives lone u x.0 x.1 x.2)))
    ]
  ]

  goes_back : has_at lives (8192 + 4096 * u) ≡ false → dropped_cell (without_all u (half_cell old lives captured u) captured) ≡ found
  goes_back nobody = elim (which u captured) [
    | inr none ↦
        ap (λ (c : Cell). dropped_cell (without_all u c captured)) (none.half found)
        ∙ (ap dropped_cell (all_stay u found captured (λ a there. elsewhere u found a (none.none a there))) ∙ dropped_start found (start_kind u old lives))
    | inl one ↦ elim (owned one.addr one.there one.at) [
      | inl o ↦
          let last = last_here nobody o.units o.is_last o.cell in
          let cell : half_cell old lives captured u ≡ taken_cell o.units true = one.half found ∙ rw (o.cell, last, o.size, whole_units o.units) refl in
          ap (λ (c : Cell). dropped_cell (without_all u c captured)) cell ∙ (ap dropped_cell (all_last u (taken_cell o.units true) captured refl) ∙ (ap (λ (b : Bool). held_cell o.units b) (sym last) ∙ sym o.cell))
      | inr n ↦
          let cell : half_cell old lives captured u ≡ taken_cell n.units false = one.half found ∙ rw (n.none, n.size, whole_units n.units) refl in
          ap (λ (c : Cell). dropped_cell (without_all u c captured)) cell ∙ (ap dropped_cell (one_goes u (taken_cell n.units false) captured one.addr one.there one.at refl refl n.size) ∙ sym n.none)
    ]
  ]

  pub given_up : AreLone old lives → dropped_cell (without_news lives u (half_cell old lives captured u) captured) ≡ found
  given_up lone = elim (cases_Bool (has_at lives (8192 + 4096 * u))) [
    | inl has ↦ ap dropped_cell (all_there lives u (half_cell old lives captured u) captured has) ∙ stays lone has
    | inr none ↦ ap dropped_cell (all_same lives u (half_cell old lives captured u) captured none) ∙ goes_back none
  ]

  module _ (was : List Addr) (are : AreLeft old lives captured was) where
    -- beside the record
    body_settled : without_all u (done_cell (half_cell old lives captured u)) was ≡ fold (with_last u) nothing captured
    body_settled = elim (which u captured) [
      | inl one ↦
          ap (λ (c : Cell). without_all u (done_cell c) was) (one.half found) ∙ (all_last u (body_cell (one.addr.size / 4096)) was refl ∙ sym (one.body nothing))
      | inr none ↦ ap (λ (c : Cell). without_all u (done_cell c) was) (none.half found) ∙ (goes none.none (start_kind u old lives) ∙ sym (none.body nothing))
    ]
      where
        goes : ((a : Addr) → Member a captured → Begins u a → ⊥) → StartCell found → without_all u (done_cell found) was ≡ nothing
        goes nobody (inl is) = ap (λ (c : Cell). without_all u (done_cell c) was) is ∙ all_dead u nothing was refl
        goes nobody (inr (inl (a, is))) = ap (λ (c : Cell). without_all u (done_cell c) was) is ∙ all_dead u nothing was refl
        goes nobody (inr (inr (n, last, is))) =
            let there = are.all u (ap (λ (c : Cell). c.is_live) is) nobody in
            let block = are.each there.0 there.1 in
            let unit : block.unit ≡ u = omega (arith, block.offset, there.2) in
            let cell : found ≡ held_cell block.units block.is_last = subst (λ (v : ℕ). start_cell old lives v ≡ held_cell block.units block.is_last) unit block.cell in
            let same : n ≡ block.units = ap (λ (c : Cell). c.units) (sym is ∙ cell) in
            ap (λ (c : Cell). without_all u (done_cell c) was) is ∙ one_goes u (fresh n) was there.0 there.1 there.2 refl refl (block.size ∙ ap (λ (k : ℕ). 4096 * k) (sym same))

    none_other : (a : Addr) → without_all u (done_at old lives captured a u) was ≡ last_at captured a u
    none_other a = elim (begins_or_not u a) [
      | inl at ↦
          let is = eq-eqb a.offset (8192 + 4096 * u) at in
          rw is (all_dead u (record_cell a) was refl)
      | inr far ↦
          let isnt = ne_eqb a.offset (8192 + 4096 * u) far in
          rw isnt body_settled
    ]

  -- where none stays that was written since
  no_other : (others : List Lone) (a : Addr) → HasNoLone u others → settled_at captured others a u ≡ last_at captured a u
  no_other others a none = elim (cases_Bool (a.offset == 8192 + 4096 * u)) [
    | inl is ↦ rw is refl
    | inr isnt ↦ rw isnt (none.cell (fold (with_last u) nothing captured))
  ]

  -- before: the blocks of the checkpoint before, but those of its trees that stay; since: those of the leaves that were written since, of which these others stay
  pub settled : (before since : List Addr) (others : List Lone) (a : Addr) → AreApartFrom old lives captured before others → IsFresh old lives captured a → AreLeft old lives captured (before ++ since) → without_news others u (without_all u (done_at old lives captured a u) before) since ≡ settled_at captured others a u
  settled before since others a from new are = elim (which_lone u others) [
    | inl one ↦ elim (which u captured) [
      | inl caught ↦ absurd (from.apart one.lone caught.addr one.there caught.there (caught.at ∙ sym one.at))
      | inr none ↦
          let size : ℕ = one.lone.addr.size / 4096 in
          let half : half_cell old lives captured u ≡ fresh size = none.half found ∙ lone_cell old lives from.lone u one.lone (from.among one.lone one.there) one.at in
          let far : a.offset ≡ 8192 + 4096 * u → ⊥ = λ at.
          let same : new.0 ≡ u = omega (arith, new.1, at) in
          false≢true (ap (λ (c : Cell). c.is_live) (sym (subst (λ (v : ℕ). half_cell old lives captured v ≡ nothing) same new.2) ∙ half)) in
          let isnt : (a.offset == 8192 + 4096 * u) ≡ false = ne_eqb a.offset (8192 + 4096 * u) far in
          let has : has_at others (8192 + 4096 * u) ≡ true = subst (λ (n : ℕ). has_at others n ≡ true) one.at (has_some others one.lone one.there) in
          let done : done_at old lives captured a u ≡ fresh size = rw isnt (ap done_cell half) in
          let last : settled_at captured others a u ≡ fresh size = rw isnt (one.cell (fold (with_last u) nothing captured)) in
          ap (λ (c : Cell). without_news others u (without_all u c before) since) done
          ∙ (ap (λ (c : Cell). without_news others u c since) (all_stay u (fresh size) before (λ b there. elsewhere u (fresh size) b (λ at. from.elsewhere one.lone b one.there there (at ∙ sym one.at))))
          ∙ (all_there others u (fresh size) since has ∙ sym last))
    ]
    | inr none ↦
        let cell : Cell = done_at old lives captured a u in
        all_same others u (without_all u cell before) since (of_none others (8192 + 4096 * u) none.none)
        ∙ (sym (fold-append {A = Addr} {B = Cell} (without u) cell before since)
        ∙ (none_other (before ++ since) are a ∙ sym (no_other others a none)))
  ]
