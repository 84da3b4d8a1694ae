-- What the books have once the live tree lets go of blocks.
use Rattle.std.specs.Prelude.{◌≡◌, ◌⊎◌, ℕ, ◌+◌, ◌*◌, ◌<◌, ◌==◌, ◌&&◌, not, Bool, true, false, List, [], ◌∷◌, length, cond, refl}
use Rattle.std.proofs.Common.{inl, inr, sym, ◌∙◌, ap, subst, arith}
use Rattle.std.proofs.lemmas.Bool.{cases_Bool, cases_lt, cases_eq, eqb-true, eq-eqb, false≢true}
use Rattle.std.proofs.lemmas.List.{get_or-set_same, get_or-set_other, get_or_past}
use Rattle.block_mgr.specs.declared.cell.Cell.{Cell}
use Rattle.block_mgr.specs.Cells.{cell_at, freed, kept, is_used, nothing}
use Rattle.block_mgr.specs.Blocks.{HasLast, HasLive, unit_of}
use Rattle.block_mgr.proofs.LiveLemmas.{unit_is}
use Rattle.device_layout.specs.declared.addr.Addr.{Addr}
use Rattle.kv_model.specs.Holds.{Member}
use Rattle.ckpt_step.specs.Frees.{without, without_all}

-- ---- one block

-- a block that is not at the unit
pub elsewhere : (u : ℕ) (c : Cell) (a : Addr) → (a.offset ≡ 8192 + 4096 * u → ⊥) → without u c a ≡ c
elsewhere u c a other = elim (cases_Bool (a.offset == 8192 + 4096 * u)) [
  | inl is ↦ absurd (other (eqb-true a.offset (8192 + 4096 * u) is))
  | inr isnt ↦ rw isnt refl
]

-- the block at the unit, which the last checkpoint has not
pub here_freed : (u : ℕ) (c : Cell) (a : Addr) → a.offset ≡ 8192 + 4096 * u → c.is_live ≡ true → c.is_last ≡ false → a.size ≡ 4096 * c.units → without u c a ≡ kept (record c { is_live = false })
here_freed u c a at live past size = rw (eq-eqb a.offset (8192 + 4096 * u) at, live, eq-eqb a.size (4096 * c.units) size, past) refl

-- a block that the live tree has not
pub here_dead : (u : ℕ) (c : Cell) (a : Addr) → c.is_live ≡ false → without u c a ≡ c
here_dead u c a dead = elim (cases_Bool (a.offset == 8192 + 4096 * u)) [
  | inl is ↦ rw (is, dead) refl
  | inr isnt ↦ rw isnt refl
]

-- one that the last checkpoint has
pub here_last : (u : ℕ) (c : Cell) (a : Addr) → c.is_last ≡ true → without u c a ≡ c
here_last u c a last = elim (cases_Bool (a.offset == 8192 + 4096 * u)) [
  | inr isnt ↦ rw isnt refl
  | inl is ↦ elim (cases_Bool (c.is_live && (a.size == 4096 * c.units))) [ inl both ↦ rw (is, both, last) refl | inr other ↦ rw (is, other) refl ]
]

-- one of another size
here_other : (u : ℕ) (c : Cell) (a : Addr) → (a.size ≡ 4096 * c.units → ⊥) → without u c a ≡ c
here_other u c a other = elim (cases_Bool (a.size == 4096 * c.units)) [
  | inl same ↦ absurd (other (eqb-true a.size (4096 * c.units) same))
  | inr differs ↦ elim (cases_Bool (a.offset == 8192 + 4096 * u)) [
    | inr isnt ↦ rw isnt refl
    | inl is ↦ elim (cases_Bool c.is_live) [ inl live ↦ rw (is, live, differs) refl | inr dead ↦ rw (is, dead) refl ]
  ]
]

-- it goes or stays
pub here_either : (u : ℕ) (c : Cell) (a : Addr) → (without u c a ≡ c) ⊎ (without u c a ≡ kept (record c { is_live = false }))
here_either u c a = elim (cases_Bool (a.offset == 8192 + 4096 * u)) [
  | inr isnt ↦ inl (rw isnt refl)
  | inl is ↦ elim (cases_Bool ((c.is_live && (a.size == 4096 * c.units)) && not c.is_last)) [
    | inl all ↦ inr (rw (is, all) refl)
    | inr other ↦ inl (rw (is, other) refl)
  ]
]

pub live_within : (cells : List Cell) (v : ℕ) → (cell_at cells v).is_live ≡ true → v < length cells
live_within cells v live = elim (cases_lt v (length cells)) [
  | inl lt ↦ lt
  | inr past ↦ absurd (false≢true (sym (ap (λ (c : Cell). c.is_live) (get_or_past cells v nothing past)) ∙ live))
]

-- what is made of the cells where a block is freed
pub freed_is : (cells : List Cell) (a : Addr) (u : ℕ) → HasLive cells a.offset a.size → (HasLast cells a.offset a.size → ⊥) → cell_at (freed cells (unit_of a.offset)) u ≡ without u (cell_at cells u) a
freed_is cells a u (v, at, size, live) past = subst (λ (k : ℕ). cell_at (freed cells k) u ≡ without u (cell_at cells u) a) (unit_is a.offset v at) (elim (cases_eq u v) [
  | inl same ↦
      subst (λ (k : ℕ). cell_at (freed cells v) k ≡ without k (cell_at cells k) a) (sym same)
      (get_or-set_same cells v (kept (record (cell_at cells v) { is_live = false })) nothing (live_within cells v live) ∙ sym (here_freed v (cell_at cells v) a at live not_last size))
  | inr other ↦
      get_or-set_other cells v u (kept (record (cell_at cells v) { is_live = false })) nothing other ∙ sym (elsewhere u (cell_at cells u) a (λ here. other (omega (arith, at, here))))
])
  where
    not_last : (cell_at cells v).is_last ≡ false
    not_last = elim (cases_Bool (cell_at cells v).is_last) [ inl last ↦ absurd (past (v, at, size, last)) | inr isnt ↦ isnt ]

-- and where it is not
pub not_freed : (cells : List Cell) (a : Addr) (u : ℕ) → (HasLive cells a.offset a.size → ⊥) ⊎ HasLast cells a.offset a.size → without u (cell_at cells u) a ≡ cell_at cells u
not_freed cells a u why = elim (cases_eq a.offset (8192 + 4096 * u)) [
  | inr far ↦ elsewhere u (cell_at cells u) a far
  | inl at ↦ elim (cases_eq a.size (4096 * (cell_at cells u).units)) [
    | inr differs ↦ here_other u (cell_at cells u) a differs
    | inl size ↦ elim why [
      | inl none ↦ elim (cases_Bool (cell_at cells u).is_live) [ inl live ↦ absurd (none (u, at, size, live)) | inr dead ↦ here_dead u (cell_at cells u) a dead ]
      | inr (v, also, sized, last) ↦
          let same : v ≡ u = omega (arith, at, also) in
          here_last u (cell_at cells u) a (subst (λ (k : ℕ). (cell_at cells k).is_last ≡ true) same last)
    ]
  ]
]

-- ---- all of them

kept_dead : (c : Cell) (b : Bool) → (cond b (record c { is_live = false }) nothing).is_live ≡ false
kept_dead c true = refl
kept_dead c false = refl

pub gone_dead : (c : Cell) → (kept (record c { is_live = false })).is_live ≡ false
gone_dead c = kept_dead c (is_used (record c { is_live = false }))

-- none goes
pub all_stay : (u : ℕ) (c : Cell) (addrs : List Addr) → ((a : Addr) → Member a addrs → without u c a ≡ c) → without_all u c addrs ≡ c
all_stay u c [] stays = refl
all_stay u c (a ∷ addrs) stays = ap (λ (d : Cell). without_all u d addrs) (stays a (inl refl)) ∙ all_stay u c addrs (λ x there. stays x (inr there))

pub all_dead : (u : ℕ) (c : Cell) (addrs : List Addr) → c.is_live ≡ false → without_all u c addrs ≡ c
all_dead u c addrs dead = all_stay u c addrs (λ a there. here_dead u c a dead)

pub all_last : (u : ℕ) (c : Cell) (addrs : List Addr) → c.is_last ≡ true → without_all u c addrs ≡ c
all_last u c addrs last = all_stay u c addrs (λ a there. here_last u c a last)

-- one goes
pub one_goes : (u : ℕ) (c : Cell) (addrs : List Addr) (a : Addr) → Member a addrs → a.offset ≡ 8192 + 4096 * u → c.is_live ≡ true → c.is_last ≡ false → a.size ≡ 4096 * c.units → without_all u c addrs ≡ kept (record c { is_live = false })
one_goes u c [] a there at live past size = absurd there
one_goes u c (x ∷ addrs) a (inl same) at live past size =
    ap (λ (d : Cell). without_all u d addrs) (subst (λ (y : Addr). without u c y ≡ kept (record c { is_live = false })) same (here_freed u c a at live past size))
    ∙ all_dead u (kept (record c { is_live = false })) addrs (gone_dead c)
one_goes u c (x ∷ addrs) a (inr later) at live past size = elim (here_either u c x) [
  | inl stays ↦ ap (λ (d : Cell). without_all u d addrs) stays ∙ one_goes u c addrs a later at live past size
  | inr goes ↦ ap (λ (d : Cell). without_all u d addrs) goes ∙ all_dead u (kept (record c { is_live = false })) addrs (gone_dead c)
]
