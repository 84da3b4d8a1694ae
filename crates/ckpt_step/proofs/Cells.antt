-- The cells of the books: while a checkpoint runs, and as an opening finds them.
use Rattle.std.specs.Prelude.{◌≡◌, ◌⊎◌, ℕ, ◌+◌, ◌*◌, ◌/◌, ◌==◌, Bool, true, false, List, [], ◌∷◌, map, Option, Some, None, refl}
use Rattle.std.specs.List.{fold}
use Rattle.std.proofs.Common.{inl, inr, ◌∙◌, ap, subst, arith}
use Rattle.std.proofs.lemmas.Bool.{cases_Bool, cases_eq, eq-eqb, ne_eqb}
use Rattle.block_mgr.specs.declared.cell.Cell.{Cell}
use Rattle.block_mgr.specs.Cells.{nothing}
use Rattle.block_mgr.specs.Open.{found_cell, with_found}
use Rattle.block_mgr.proofs.OpenLemmas.{here, elsewhere as found_elsewhere}
use Rattle.device_layout.specs.declared.addr.Addr.{Addr}
use Rattle.device_layout.specs.Slots.{addr_in}
use Rattle.kv_model.specs.Holds.{Member}
use Rattle.stored.specs.Blocks.{Block}
use Rattle.stored.specs.Stored.{Stored}
use Rattle.checkpoint_core.specs.Stands.{body_blocks}
use Rattle.device_leaf.specs.Damage.{record_found}
use Rattle.recover_open.specs.Damage.{found_there}
use Rattle.tree_write.specs.Captures.{with_addr, with_addrs}
use Rattle.ckpt_step.specs.Grounds.{found_in}
use Rattle.ckpt_step.specs.Halves.{body_cell, record_cell, with_last}

-- the block at an address begins at a unit
abbrev pub Begins : ℕ → Addr → Type 0
Begins u a = a.offset ≡ 8192 + 4096 * u

pub begins_or_not : (u : ℕ) (a : Addr) → Begins u a ⊎ (Begins u a → ⊥)
begins_or_not u a = cases_eq a.offset (8192 + 4096 * u)

pub whole_units : (n : ℕ) → (4096 * n) / 4096 ≡ n
whole_units n = omega arith

-- ---- the block that was captured last at a unit

-- a block that the running checkpoint has captured
abbrev pub taken_cell : ℕ → Bool → Cell
taken_cell n last = record { units = n; is_live = true; is_running = true; is_last = last; names = 0 }

module _ (u : ℕ) where
  captured_here : (c : Cell) (a : Addr) → Begins u a → with_addr u c a ≡ taken_cell (a.size / 4096) c.is_last
  captured_here c a at = rw (eq-eqb a.offset (8192 + 4096 * u) at) refl

  captured_far : (c : Cell) (a : Addr) → (Begins u a → ⊥) → with_addr u c a ≡ c
  captured_far c a far = rw (ne_eqb a.offset (8192 + 4096 * u) far) refl

  captured_last : (c : Cell) (a : Addr) → (with_addr u c a).is_last ≡ c.is_last
  captured_last c a = elim (cases_Bool (a.offset == 8192 + 4096 * u)) [ inl is ↦ rw is refl | inr isnt ↦ rw isnt refl ]

  last_here : (c : Cell) (a : Addr) → Begins u a → with_last u c a ≡ body_cell (a.size / 4096)
  last_here c a at = rw (eq-eqb a.offset (8192 + 4096 * u) at) refl

  last_far : (c : Cell) (a : Addr) → (Begins u a → ⊥) → with_last u c a ≡ c
  last_far c a far = rw (ne_eqb a.offset (8192 + 4096 * u) far) refl

  -- one of the addresses leads to the unit, and the last one is that of the cell
  pub record Leads (addrs : List Addr) : Type 0 where
    pub addr : Addr
    pub there : Member addr addrs
    pub at : Begins u addr
    pub half : (c : Cell) → with_addrs u c addrs ≡ taken_cell (addr.size / 4096) c.is_last
    pub body : (c : Cell) → fold (with_last u) c addrs ≡ body_cell (addr.size / 4096)

  pub record NoneLeads (addrs : List Addr) : Type 0 where
    pub none : (a : Addr) → Member a addrs → Begins u a → ⊥
    pub half : (c : Cell) → with_addrs u c addrs ≡ c
    pub body : (c : Cell) → fold (with_last u) c addrs ≡ c

  pub which : (addrs : List Addr) → Leads addrs ⊎ NoneLeads addrs
  which [] = inr (record { none = λ a there at. there; half = λ c. refl; body = λ c. refl })
  which (x ∷ addrs) = elim (which addrs) [
    | inl later ↦ inl (record {
      addr = later.addr;
      there = inr later.there;
      at = later.at;
      half = λ c. later.half (with_addr u c x) ∙ ap (λ (b : Bool). taken_cell (later.addr.size / 4096) b) (captured_last c x);
      body = λ c. later.body (with_last u c x);
    })
    | inr none ↦ elim (begins_or_not u x) [
      | inl at ↦ inl (record { addr = x; there = inl refl; at = at; half = λ c. none.half (with_addr u c x) ∙ captured_here c x at; body = λ c. none.body (with_last u c x) ∙ last_here c x at })
      | inr far ↦ inr (record {
        none = λ a there at. not_here none.none far a there at;
        half = λ c. none.half (with_addr u c x) ∙ captured_far c x far;
        body = λ c. none.body (with_last u c x) ∙ last_far c x far;
      })
    ]
  ]
    where
      not_here : ((a : Addr) → Member a addrs → Begins u a → ⊥) → (Begins u x → ⊥) → (a : Addr) → Member a (x ∷ addrs) → Begins u a → ⊥
      not_here none far a (inl same) at = far (subst (Begins u) same at)
      not_here none far a (inr later) at = none a later at

-- ---- the cells that an opening finds

-- the block of a record, another one, or none
abbrev pub OldCell : Cell → Type 0
OldCell c = (c ≡ nothing) ⊎ (((a : Addr) × (c ≡ record_cell a)) ⊎ ((n : ℕ) × (c ≡ body_cell n)))

module _ (u : ℕ) where
  -- one of the blocks begins at the unit, and the cell is that of the last one
  pub record Finds (c : Cell) (blocks : List Block) : Type 0 where
    pub block : Block
    pub there : Member block blocks
    pub at : Begins u block.place
    pub cell : fold (with_found u) c (map {A = Block} (λ b. found_there b.place) blocks) ≡ body_cell (block.place.size / 4096)

  pub record FindsNone (c : Cell) (blocks : List Block) : Type 0 where
    pub none : (b : Block) → Member b blocks → Begins u b.place → ⊥
    pub cell : fold (with_found u) c (map {A = Block} (λ b. found_there b.place) blocks) ≡ c

  found_here : (c : Cell) (b : Block) → c.names ≡ 0 → Begins u b.place → with_found u c (found_there b.place) ≡ body_cell (b.place.size / 4096)
  found_here c b names at = here u c (found_there b.place) at ∙ ap (λ (n : ℕ). let x : Cell = record { units = b.place.size / 4096; is_live = true; is_running = false; is_last = true; names = n } in x) (omega (arith, names))

  pub finds : (c : Cell) (blocks : List Block) → c.names ≡ 0 → Finds c blocks ⊎ FindsNone c blocks
  finds c [] names = inr (record { none = λ b there at. there; cell = refl })
  finds c (x ∷ blocks) names = elim (begins_or_not u x.place) [
    | inl at ↦
        let mine = found_here c x names at in
        elim (finds (with_found u c (found_there x.place)) blocks (ap (λ (d : Cell). d.names) mine)) [
          | inl later ↦ inl (record { block = later.block; there = inr later.there; at = later.at; cell = later.cell })
          | inr none ↦ inl (record { block = x; there = inl refl; at = at; cell = none.cell ∙ mine })
        ]
    | inr far ↦
        let passed = found_elsewhere u c (found_there x.place) far in
        elim (finds (with_found u c (found_there x.place)) blocks (ap (λ (d : Cell). d.names) passed ∙ names)) [
          | inl later ↦ inl (record { block = later.block; there = inr later.there; at = later.at; cell = later.cell })
          | inr none ↦ inr (record { none = λ b there at. not_here none.none far b there at; cell = none.cell ∙ passed })
        ]
  ]
    where
      not_here : ((b : Block) → Member b blocks → Begins u b.place → ⊥) → (Begins u x.place → ⊥) → (b : Block) → Member b (x ∷ blocks) → Begins u b.place → ⊥
      not_here none far b (inl same) at = far (subst (λ (y : Block). Begins u y.place) same at)
      not_here none far b (inr later) at = none b later at

  -- of the record alone
  pub start : Stored → Cell
  start s = with_found u nothing (record_found s.slot)

  pub start-record : (s : Stored) → Begins u (addr_in s.slot) → start s ≡ record_cell (addr_in s.slot)
  unfolding start
  start-record s at = here u nothing (record_found s.slot) at

  pub start-none : (s : Stored) → (Begins u (addr_in s.slot) → ⊥) → start s ≡ nothing
  unfolding start
  start-none s far = found_elsewhere u nothing (record_found s.slot) far

  start_either : (s : Stored) → (start s ≡ nothing) ⊎ (start s ≡ record_cell (addr_in s.slot))
  start_either s = elim (begins_or_not u (addr_in s.slot)) [ inl at ↦ inr (start-record s at) | inr far ↦ inl (start-none s far) ]

  start_names : (s : Stored) → (start s).names ≡ 0
  start_names s = elim (start_either s) [ inl is ↦ ap (λ (c : Cell). c.names) is | inr is ↦ ap (λ (c : Cell). c.names) is ]

  pub start_dead : (s : Stored) → (start s).is_live ≡ false
  start_dead s = elim (start_either s) [ inl is ↦ ap (λ (c : Cell). c.is_live) is | inr is ↦ ap (λ (c : Cell). c.is_live) is ]

  -- of a checkpoint
  pub found_of : (s : Stored) → Finds (start s) (body_blocks s) ⊎ FindsNone (start s) (body_blocks s)
  found_of s = finds (start s) (body_blocks s) (start_names s)

  pub found_is : (s : Stored) → found_cell (found_in (Some s)) u ≡ fold (with_found u) (start s) (map {A = Block} (λ b. found_there b.place) (body_blocks s))
  unfolding start
  found_is s = refl

  pub old_cell : (old : Option Stored) → OldCell (found_cell (found_in old) u)
  old_cell None = inl refl
  old_cell (Some s) = elim (found_of s) [
    | inl one ↦ inr (inr (one.block.place.size / 4096, found_is s ∙ one.cell))
    | inr none ↦ elim (start_either s) [
      | inl is ↦ inl (found_is s ∙ (none.cell ∙ is))
      | inr is ↦ inr (inl (addr_in s.slot, found_is s ∙ (none.cell ∙ is)))
    ]
  ]
