-- Books of which the live tree has only what some links lead to.
use Rattle.std.specs.Prelude.{◌≡◌, ℕ, zero, suc, ◌+◌, ◌*◌, ◌==◌, ◌||◌, Bool, true, false, List, [], ◌∷◌, cond, refl}
use Rattle.std.proofs.Common.{inl, inr, sym, ◌∙◌, ap, subst, arith}
use Rattle.std.proofs.lemmas.Bool.{cases_Bool, eq-eqb, eqb-true, false≢true, or_cases, or_left, or_right}
use Rattle.block_mgr.specs.declared.cell.Cell.{Cell}
use Rattle.block_mgr.specs.Blocks.{Books, HasLive}
use Rattle.block_mgr.specs.Cells.{cell_at, nothing}
use Rattle.device_layout.specs.declared.link.Link.{Link}
use Rattle.kv_model.specs.Holds.{Member}

-- one of the links leads to an offset
pub leads_to : List Link → ℕ → Bool
leads_to [] n = false
leads_to (link ∷ links) n = (link.addr.offset == n) || leads_to links n

led : (links : List Link) (n : ℕ) → leads_to links n ≡ true → (link : Link) × Member link links × (link.addr.offset ≡ n)
unfolding leads_to
led [] n is = absurd cc
led (link ∷ links) n is = elim (or_cases (link.addr.offset == n) (leads_to links n) is) [
  | inl here ↦ (link, inl refl, eqb-true link.addr.offset n here)
  | inr later ↦ let one = led links n later in (one.0, inr one.1, one.2)
]

leads : (links : List Link) (link : Link) → Member link links → leads_to links link.addr.offset ≡ true
unfolding leads_to
leads [] link there = absurd there
leads (x ∷ links) link (inl same) = or_left (x.addr.offset == link.addr.offset) (leads_to links link.addr.offset) (eq-eqb x.addr.offset link.addr.offset (ap (λ (l : Link). l.addr.offset) (sym same)))
leads (x ∷ links) link (inr later) = or_right (x.addr.offset == link.addr.offset) (leads_to links link.addr.offset) (leads links link later)

-- the cells at the units that the links lead to; k: the unit of the first
pub only : List Link → ℕ → List Cell → List Cell
only links k [] = []
only links k (c ∷ cells) = cond (leads_to links (8192 + 4096 * k)) c nothing ∷ only links (suc k) cells

only_led : (links : List Link) (k u : ℕ) (cells : List Cell) → leads_to links (8192 + 4096 * (k + u)) ≡ true → cell_at (only links k cells) u ≡ cell_at cells u
unfolding only
only_led links k u [] is = refl
only_led links k zero (c ∷ cells) is =
    let here : leads_to links (8192 + 4096 * k) ≡ true = subst (λ (n : ℕ). leads_to links (8192 + 4096 * n) ≡ true) (let e : k + 0 ≡ k = omega arith in e) is in
    rw here refl
only_led links k (suc u) (c ∷ cells) is = only_led links (suc k) u cells (subst (λ (n : ℕ). leads_to links (8192 + 4096 * n) ≡ true) (let e : k + suc u ≡ suc k + u = omega arith in e) is)

only_none : (links : List Link) (k u : ℕ) (cells : List Cell) → leads_to links (8192 + 4096 * (k + u)) ≡ false → cell_at (only links k cells) u ≡ nothing
unfolding only
only_none links k u [] is = refl
only_none links k zero (c ∷ cells) is =
    let here : leads_to links (8192 + 4096 * k) ≡ false = subst (λ (n : ℕ). leads_to links (8192 + 4096 * n) ≡ false) (let e : k + 0 ≡ k = omega arith in e) is in
    rw here refl
only_none links k (suc u) (c ∷ cells) is = only_none links (suc k) u cells (subst (λ (n : ℕ). leads_to links (8192 + 4096 * n) ≡ false) (let e : k + suc u ≡ suc k + u = omega arith in e) is)

-- of these books the live tree has only what the links lead to
pub only_books : List Link → Books → Books
only_books links books = record books { cells = only links 0 books.cells }

pub record IsLed (links : List Link) (books : Books) (n k : ℕ) : Type 0 where
  pub link : Link
  pub there : Member link links
  pub at : link.addr.offset ≡ n
  pub live : HasLive books.cells n k

pub only_live : (links : List Link) (books : Books) (n k : ℕ) → HasLive (only_books links books).cells n k → IsLed links books n k
unfolding only_books
only_live links books n k (u, offset, size, live) = elim (cases_Bool (leads_to links (8192 + 4096 * u))) [
  | inl is ↦
      let one = led links (8192 + 4096 * u) is in
      let same = only_led links 0 u books.cells (subst (λ (v : ℕ). leads_to links (8192 + 4096 * v) ≡ true) (let e : u ≡ 0 + u = omega arith in e) is) in
      record { link = one.0; there = one.1; at = one.2 ∙ sym offset; live = (u, offset, size ∙ ap (λ (c : Cell). 4096 * c.units) same, sym (ap (λ (c : Cell). c.is_live) same) ∙ live) }
  | inr isnt ↦
      let none = only_none links 0 u books.cells (subst (λ (v : ℕ). leads_to links (8192 + 4096 * v) ≡ false) (let e : u ≡ 0 + u = omega arith in e) isnt) in
      absurd (false≢true (sym (ap (λ (c : Cell). c.is_live) none) ∙ live))
]

pub live_only : (links : List Link) (books : Books) (link : Link) → Member link links → HasLive books.cells link.addr.offset link.addr.size → HasLive (only_books links books).cells link.addr.offset link.addr.size
unfolding only_books
live_only links books link there (u, offset, size, live) =
    let is : leads_to links (8192 + 4096 * (0 + u)) ≡ true = subst (λ (n : ℕ). leads_to links n ≡ true) (let e : link.addr.offset ≡ 8192 + 4096 * (0 + u) = omega (arith, offset) in e) (leads links link there) in
    let same = only_led links 0 u books.cells is in
    (u, offset, size ∙ ap (λ (c : Cell). 4096 * c.units) (sym same), ap (λ (c : Cell). c.is_live) same ∙ live)
