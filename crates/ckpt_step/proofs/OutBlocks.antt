-- The cells of the books while a leaf is written out.
use Rattle.std.specs.Prelude.{◌≡◌, ℕ, ◌+◌, ◌*◌, ◌/◌, false, List, [], ◌∷◌, Option, refl}
use Rattle.std.specs.List.{AllByRecursion}
use Rattle.std.proofs.Common.{inl, inr, sym, ◌∙◌, ap, subst, arith}
use Rattle.std.proofs.lemmas.Bool.{eq-eqb, ne_eqb, false≢true}
use Rattle.block_mgr.specs.declared.cell.Cell.{Cell}
use Rattle.block_mgr.specs.Blocks.{Books}
use Rattle.block_mgr.specs.Cells.{cell_at, fresh, nothing}
use Rattle.block_mgr.specs.Open.{found_cell}
use Rattle.device_layout.specs.declared.addr.Addr.{Addr}
use Rattle.kv_model.specs.Holds.{Member}
use Rattle.leaf_write.specs.Adds.{with_all_fresh, with_fresh}
use Rattle.stored.specs.Stored.{Stored}
use Rattle.stored.specs.TableTree.{Entry}
use Rattle.tree_dir.specs.declared.leaf.Leaf.{Leaf}
use Rattle.tree_write.specs.Captures.{AreDistinct, IsPlaced}
use Rattle.tree_write.specs.Drafts.{addrs_to}
use Rattle.ckpt_step.specs.Frees.{without, without_all}
use Rattle.ckpt_step.specs.Grounds.{AreLone, IsLone, found_in, start_cell}
use Rattle.ckpt_step.specs.Holding.{AreNewAt, gone_at}
use Rattle.ckpt_step.specs.Lives.{has_at}
use Rattle.ckpt_step.specs.declared.lives.Lone.{Lone}
use Rattle.ckpt_step.proofs.Cells.{Begins, begins_or_not, which}
use Rattle.ckpt_step.proofs.Frees.{all_stay, elsewhere, here_freed, one_goes}
use Rattle.ckpt_step.proofs.HeldLives.{AreMore, lone_as}
use Rattle.ckpt_step.proofs.Lones.{lone_cell, none_found_at, which_lone}
use Rattle.ckpt_step.proofs.LonesMore.{NoneAt, gone_distinct, gone_from, gone_keeps, gone_none, of_none}
use Rattle.ckpt_step.proofs.Members.{all_made, all_of, map_member}

-- ---- blocks that are added

fresh_here : (u : ℕ) (c : Cell) (a : Addr) → Begins u a → with_fresh u c a ≡ fresh (a.size / 4096)
fresh_here u c a at = rw (eq-eqb a.offset (8192 + 4096 * u) at) refl

fresh_far : (u : ℕ) (c : Cell) (a : Addr) → (Begins u a → ⊥) → with_fresh u c a ≡ c
fresh_far u c a far = rw (ne_eqb a.offset (8192 + 4096 * u) far) refl

-- none of them at the unit
pub fresh_none : (u : ℕ) (c : Cell) (addrs : List Addr) → ((a : Addr) → Member a addrs → Begins u a → ⊥) → with_all_fresh u c addrs ≡ c
fresh_none u c [] none = refl
fresh_none u c (a ∷ addrs) none = ap (λ (d : Cell). with_all_fresh u d addrs) (fresh_far u c a (none a (inl refl))) ∙ fresh_none u c addrs (λ x there. none x (inr there))

-- one of them
pub fresh_one : (u : ℕ) (c : Cell) (addrs : List Addr) (a : Addr) → AreDistinct addrs → Member a addrs → Begins u a → with_all_fresh u c addrs ≡ fresh (a.size / 4096)
fresh_one u c [] a distinct there at = absurd there
fresh_one u c (x ∷ addrs) a distinct (inl same) at =
    let here : Begins u x = ap (λ (y : Addr). y.offset) (sym same) ∙ at in
    ap (λ (d : Cell). with_all_fresh u d addrs) (fresh_here u c x here)
    ∙ (fresh_none u (fresh (x.size / 4096)) addrs (λ y there begins. all_of (λ (z : Addr). z.offset ≡ x.offset → ⊥) addrs y distinct.0 there (begins ∙ sym here)) ∙ ap (λ (y : Addr). fresh (y.size / 4096)) (sym same))
fresh_one u c (x ∷ addrs) a distinct (inr later) at = fresh_one u (with_fresh u c x) addrs a distinct.1 later at

-- where one was put there was nothing
module _ (old : Option Stored) (lives : List Lone) (lone : AreLone old lives) (books : Books) (cells : (u : ℕ) → cell_at books.cells u ≡ start_cell old lives u) where
  placed_none : (u : ℕ) (a : Addr) → IsPlaced books a → Begins u a → start_cell old lives u ≡ nothing
  placed_none u a placed at =
      let same : placed.unit ≡ u = (let offset = placed.offset in omega (arith, at, offset)) in
      sym (cells u) ∙ subst (λ (v : ℕ). cell_at books.cells v ≡ nothing) same placed.none

  -- and no block of a leaf that was written since
  pub placed_alone : (u : ℕ) (a : Addr) → IsPlaced books a → Begins u a → (x : Lone) → Member x lives → Begins u x.addr → ⊥
  placed_alone u a placed at x there begins = false≢true (ap (λ (c : Cell). c.is_live) (sym (placed_none u a placed at) ∙ lone_cell old lives lone u x there begins))

  placed_found : (u : ℕ) (a : Addr) → IsPlaced books a → Begins u a → found_cell (found_in old) u ≡ nothing
  placed_found u a placed at = elim (which_lone u lives) [
    | inl one ↦ absurd (placed_alone u a placed at one.lone one.there one.at)
    | inr none ↦ sym (none.cell (found_cell (found_in old) u)) ∙ placed_none u a placed at
  ]

  -- nor one of theirs
  pub placed_new : (entries : List Entry) → AllByRecursion (λ (a : Addr). IsPlaced books a) (addrs_to entries) → AreDistinct (addrs_to entries) → AreNewAt lives entries
  placed_new entries placed distinct = record { none = all_made (λ (e : Entry). has_at lives e.link.addr.offset ≡ false) entries (λ e there. of_none lives e.link.addr.offset (none e there)); distinct = distinct }
    where
      none : (e : Entry) → Member e entries → NoneAt lives e.link.addr.offset
      none e there x mine same =
          let at = all_of (λ (a : Addr). IsPlaced books a) (addrs_to entries) e.link.addr placed (map_member {A = Entry} {B = Addr} (λ y. y.link.addr) e entries there) in
          placed_alone at.unit e.link.addr at at.offset x mine (same ∙ at.offset)

  -- ---- once they are there

  module _ (next : List Lone) (news : List Leaf) (more : AreMore lives next news) (addrs : List Addr) (placed : AllByRecursion (λ (a : Addr). IsPlaced books a) addrs) (distinct : AreDistinct addrs) (of_new : (n : Leaf) → Member n news → Member n.entry.link.addr addrs) where
    pub lone_next : ((a : Addr) → Member a addrs → (n : Leaf) × Member n news × (n.entry.link.addr ≡ a)) → AreLone old next
    lone_next new_of = record {
      each = λ x there. elim (more.from x there) [
        | inl was ↦ lone.each x was
        | inr (n, own, same) ↦ subst (λ (y : Lone). IsLone old y) (sym same) (new_lone n own)
      ];
      distinct = more.distinct;
    }
      where
        new_lone : (n : Leaf) → Member n news → IsLone old (lone_as n)
        new_lone n own =
            let at = all_of (λ (a : Addr). IsPlaced books a) addrs n.entry.link.addr placed (of_new n own) in
            record { unit = at.unit; units = at.units; offset = at.offset; size = at.size; none = placed_found at.unit n.entry.link.addr at at.offset }

    pub cells_next : ((a : Addr) → Member a addrs → (n : Leaf) × Member n news × (n.entry.link.addr ≡ a)) → (u : ℕ) → with_all_fresh u (start_cell old lives u) addrs ≡ start_cell old next u
    cells_next new_of u = elim (which_lone u next) [
      | inl one ↦ elim (more.from one.lone one.there) [
        | inl was ↦
            fresh_none u (start_cell old lives u) addrs (λ a there at. placed_alone u a (all_of (λ (b : Addr). IsPlaced books b) addrs a placed there) at one.lone was one.at)
            ∙ (lone_cell old lives lone u one.lone was one.at ∙ sym (one.cell (found_cell (found_in old) u)))
        | inr (n, own, same) ↦
            let at : Begins u n.entry.link.addr = subst (λ (y : Lone). Begins u y.addr) same one.at in
            fresh_one u (start_cell old lives u) addrs n.entry.link.addr distinct (of_new n own) at
            ∙ (ap (λ (y : Lone). fresh (y.addr.size / 4096)) (sym same) ∙ sym (one.cell (found_cell (found_in old) u)))
      ]
      | inr nobody ↦
          fresh_none u (start_cell old lives u) addrs (λ a there at. (let n = new_of a there in nobody.none (lone_as n.0) (more.has n.0 n.1) (ap (λ (b : Addr). b.offset) n.2 ∙ at)))
          ∙ (none_there nobody.none ∙ sym (nobody.cell (found_cell (found_in old) u)))
    ]
      where
        none_there : ((x : Lone) → Member x next → Begins u x.addr → ⊥) → start_cell old lives u ≡ found_cell (found_in old) u
        none_there none = elim (which_lone u lives) [
          | inl one ↦ absurd (none one.lone (more.keeps one.lone one.there) one.at)
          | inr far ↦ far.cell (found_cell (found_in old) u)
        ]

  -- ---- and not any more

  pub cells_back : (addrs : List Addr) → AllByRecursion (λ (a : Addr). IsPlaced books a) addrs → AreDistinct addrs → (u : ℕ) → without_all u (with_all_fresh u (cell_at books.cells u) addrs) addrs ≡ cell_at books.cells u
  cells_back addrs placed distinct u = elim (which u addrs) [
    | inr none ↦
        let same = fresh_none u (cell_at books.cells u) addrs none.none in
        ap (λ (c : Cell). without_all u c addrs) same ∙ all_stay u (cell_at books.cells u) addrs (λ a there. elsewhere u (cell_at books.cells u) a (none.none a there))
    | inl one ↦
        let at = all_of (λ (b : Addr). IsPlaced books b) addrs one.addr placed one.there in
        let size = at.size in
        let whole : one.addr.size ≡ 4096 * (one.addr.size / 4096) = omega (arith, size) in
        let here : cell_at books.cells u ≡ nothing = (let same : at.unit ≡ u = (let offset = at.offset in let begins = one.at in omega (arith, begins, offset)) in subst (λ (v : ℕ). cell_at books.cells v ≡ nothing) same at.none) in
        ap (λ (c : Cell). without_all u c addrs) (fresh_one u (cell_at books.cells u) addrs one.addr distinct one.there one.at)
        ∙ (one_goes u (fresh (one.addr.size / 4096)) addrs one.addr one.there one.at refl refl whole ∙ sym here)
  ]

-- ---- one goes

-- a block of a leaf that is let go of
pub cells_less : (old : Option Stored) (lives : List Lone) → AreLone old lives → (x : Lone) → Member x lives → (u : ℕ) → without u (start_cell old lives u) x.addr ≡ start_cell old (gone_at lives x.addr.offset) u
cells_less old lives lone x there u = elim (begins_or_not u x.addr) [
  | inl at ↦
      let own = lone.each x there in
      let size = own.size in
      let whole : x.addr.size ≡ 4096 * (x.addr.size / 4096) = omega (arith, size) in
      ap (λ (c : Cell). without u c x.addr) (lone_cell old lives lone u x there at)
      ∙ (here_freed u (fresh (x.addr.size / 4096)) x.addr at refl refl whole
      ∙ (sym (none_found_at old lives lone u x there at) ∙ sym (none_here at)))
  | inr far ↦ elsewhere u (start_cell old lives u) x.addr far ∙ same far
]
  where
    none_here : Begins u x.addr → start_cell old (gone_at lives x.addr.offset) u ≡ found_cell (found_in old) u
    none_here at = elim (which_lone u (gone_at lives x.addr.offset)) [
      | inl one ↦ absurd (gone_none x.addr.offset lives lone.distinct one.lone one.there (one.at ∙ sym at))
      | inr none ↦ none.cell (found_cell (found_in old) u)
    ]

    same : (Begins u x.addr → ⊥) → start_cell old lives u ≡ start_cell old (gone_at lives x.addr.offset) u
    same far = elim (which_lone u (gone_at lives x.addr.offset)) [
      | inl one ↦ lone_cell old lives lone u one.lone (gone_from x.addr.offset lives one.lone one.there) one.at ∙ sym (one.cell (found_cell (found_in old) u))
      | inr none ↦ elim (which_lone u lives) [
        | inl here ↦ absurd (none.none here.lone (gone_keeps x.addr.offset lives here.lone here.there (λ met. far (sym met ∙ here.at))) here.at)
        | inr nobody ↦ nobody.cell (found_cell (found_in old) u) ∙ sym (none.cell (found_cell (found_in old) u))
      ]
    ]

pub lone_less : (old : Option Stored) (lives : List Lone) (offset : ℕ) → AreLone old lives → AreLone old (gone_at lives offset)
lone_less old lives offset lone = record { each = λ x there. lone.each x (gone_from offset lives x there); distinct = gone_distinct offset lives lone.distinct }
