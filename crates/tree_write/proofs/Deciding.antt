-- Whether a device has a leaf of given rows, and what of leaves is written.
use Rattle.std.specs.Prelude.{◌≡◌, ◌≢◌, ◌⊎◌, ℕ, ◌+◌, ◌≤◌, ◌%◌, List, [], ◌∷◌, length, Some, None, refl}
use Rattle.std.proofs.Common.{inl, inr, sym, ◌∙◌, ap, arith}
use Rattle.std.proofs.lemmas.Bool.{cases_eq, cases_lt, eq-eqb}
use Rattle.block_sum.specs.Sum.{sum_of}
use Rattle.le_codec.specs.Images.{block_size}
use Rattle.disk_model.specs.Ranges.{range}
use Rattle.block_mgr.specs.Places.{IsPlace, IsThere}
use Rattle.device_layout.specs.declared.addr.Addr.{Addr}
use Rattle.device_layout.specs.declared.link.Link.{Link}
use Rattle.stamp.specs.declared.name.Name.{Name}
use Rattle.row_page.specs.Rows.{IsPage, Row, image}
use Rattle.row_page.specs.Greatest.{durables_of, greatest_in, most_in, names_of}
use Rattle.leaf_rows.specs.Rows.{image_length}
use Rattle.reconcile.specs.declared.image.Image.{Image}
use Rattle.stored.specs.Blocks.{IsAddressed, IsAt}
use Rattle.stored.specs.Links.{SaysOf}
use Rattle.device_leaf.specs.Leaves.{LeafIs}
use Rattle.device_leaf.proofs.Leaves.{block_at, leaf_bytes, leaf_of_page, leaf_there, length_block, page_there, place_is}
use Rattle.tree_write.specs.Sizes.{WritesLeaves, first_link, links_behind}
use Rattle.tree_write.specs.Steps.{AreSpelled}
use Rattle.tree_write.proofs.LeafKeys.{low_some}

abbrev Known : Type 0 → Type 0
Known A = A ⊎ (A → ⊥)

both : {A B : Type 0} → Known A → Known B → Known (A × B)
both (inl a) (inl b) = inl (a, b)
both (inl a) (inr none) = inr (λ is. none is.1)
both (inr none) b = inr (λ is. none is.0)

through : {A B : Type 0} → (A → B) → (B → A) → Known A → Known B
through to from (inl a) = inl (to a)
through to from (inr none) = inr (λ b. none (from b))

same_number : (x y : ℕ) → Known (x ≡ y)
same_number x y = cases_eq x y

not_above : (x y : ℕ) → Known (x ≤ y)
not_above x y = elim (cases_lt y x) [ inl more ↦ inr (λ le. omega (arith, more, le)) | inr le ↦ inl (omega (arith, le)) ]

same_bytes : (x y : List ℕ) → Known (x ≡ y)
same_bytes [] [] = inl refl
same_bytes [] (b ∷ y) = inr (λ same. none same)
  where
    none : [] ≡ b ∷ y → ⊥
    none same = cc
same_bytes (a ∷ x) [] = inr (λ same. none same)
  where
    none : a ∷ x ≡ [] → ⊥
    none same = cc
same_bytes (a ∷ x) (b ∷ y) = through (λ is. together is.0 is.1) (λ same. (first same, rest same)) (both (same_number a b) (same_bytes x y))
  where
    together : a ≡ b → x ≡ y → a ∷ x ≡ b ∷ y
    together one other = ap (λ (n : ℕ). n ∷ x) one ∙ ap (λ (l : List ℕ). b ∷ l) other

    first : a ∷ x ≡ b ∷ y → a ≡ b
    first same = cc

    rest : a ∷ x ≡ b ∷ y → x ≡ y
    rest same = cc

name_is : (x y : Name) → x.run ≡ y.run → x.id ≡ y.id → x ≡ y
name_is x y run id =
    let made : ℕ → ℕ → Name = λ r i. record { run = r; id = i } in
    ap (λ (r : ℕ). made r x.id) run ∙ ap (λ (i : ℕ). made y.run i) id

same_name : (x y : Name) → Known (x ≡ y)
same_name x y = through (λ is. name_is x y is.0 is.1) (λ same. (ap (λ (n : Name). n.run) same, ap (λ (n : Name). n.id) same)) (both (same_number x.run y.run) (same_number x.id y.id))

says_known : (link : Link) (rows : List Row) → Known (SaysOf link (names_of rows) (durables_of rows))
says_known link rows = through (λ is. record { greatest = is.0; durable = is.1 }) (λ says. (says.greatest, says.durable)) (both (same_name link.greatest (greatest_in (names_of rows))) (same_number link.durable (most_in (durables_of rows))))

place_known : (a : Addr) → Known (IsPlace a)
place_known a = through (λ is. record { behind = is.0; unit = is.1.0; some = is.1.1.0; whole = is.1.1.1.0; most = is.1.1.1.1 }) (λ place. (place.behind, (place.unit, (place.some, (place.whole, place.most)))))
    (both (not_above 8192 a.offset) (both (same_number (a.offset % 4096) 0) (both (not_above 4096 a.size) (both (same_number (a.size % 4096) 0) (not_above a.size 1048576)))))

there_known : (bytes : List ℕ) (a : Addr) → Known (IsThere bytes a)
there_known bytes a = through (λ is. record { place = is.0; within = is.1.0; sum = is.1.1 }) (λ there. (there.place, (there.within, there.sum)))
    (both (place_known a) (both (not_above (a.offset + a.size) (length bytes)) (same_number (sum_of (range bytes a.offset a.size)) a.sum)))

pub page_size : (block : List ℕ) (rows : List Row) → IsPage block rows → length block ≡ block_size (length (image rows))
page_size block rows page = ap length page.spelled ∙ length_block (image rows)

-- what stands where the link of a leaf leads
pub leaf_stands : (bytes block : List ℕ) (link : Link) (rows : List Row) → rows ≢ [] → IsPage block rows → LeafIs bytes link rows → IsThere bytes link.addr × (block ≡ range bytes link.addr.offset link.addr.size)
leaf_stands bytes block link rows some page leaf = (
  record { place = place_is (block_at link rows) (leaf_bytes rows) there.0; within = there.1.within; sum = ap sum_of there.1.is ∙ sym there.0.sum },
  page.spelled ∙ sym (page_there bytes (range bytes link.addr.offset link.addr.size) link rows stored refl leaf).page.spelled,
)
  where
    stored : link.addr.offset ≡ 0 → ⊥
    stored zero = some (leaf.bears.empty (eq-eqb link.addr.offset 0 zero)).1

    there : IsAddressed (block_at link rows) × IsAt bytes (block_at link rows)
    there = leaf_there bytes link rows stored leaf

-- the link says the greatest of the rows, and leads to their page
pub leaf_from : (bytes block : List ℕ) (link : Link) (rows : List Row) → IsPage block rows → SaysOf link (names_of rows) (durables_of rows) → IsThere bytes link.addr → block ≡ range bytes link.addr.offset link.addr.size → length block ≡ link.addr.size → LeafIs bytes link rows
leaf_from bytes block link rows page says there is size = leaf_of_page bytes block link rows (λ zero. omega (arith, zero, there.place.behind)) there is size (record { page = page; says = says })

leaf_known : (bytes block : List ℕ) (link : Link) (rows : List Row) → rows ≢ [] → IsPage block rows → Known (LeafIs bytes link rows)
leaf_known bytes block link rows some page = through (λ is. leaf_from bytes block link rows page is.0 is.1.0 is.1.1.0 is.1.1.1) (λ leaf. parts leaf)
    (both (says_known link rows) (both (there_known bytes link.addr) (both (same_bytes block (range bytes link.addr.offset link.addr.size)) (same_number (length block) link.addr.size))))
  where
    parts : LeafIs bytes link rows → SaysOf link (names_of rows) (durables_of rows) × (IsThere bytes link.addr × ((block ≡ range bytes link.addr.offset link.addr.size) × (length block ≡ link.addr.size)))
    parts leaf =
        let stands = leaf_stands bytes block link rows some page leaf in
        let stored : link.addr.offset ≡ 0 → ⊥ = λ zero. some (leaf.bears.empty (eq-eqb link.addr.offset 0 zero)).1 in
        let there = leaf_there bytes link rows stored leaf in
        (leaf.bears.says, (stands.0, (stands.1, page_size block rows page ∙ sym there.0.size)))

pub some_rows : (rows : List Row) → 1 ≤ length rows → rows ≢ []
some_rows [] some is = absurd (omega (arith, some))
some_rows (r ∷ rows) some is = absurd (clash is)
  where
    clash : r ∷ rows ≡ [] → ⊥
    clash same = cc

-- what is written of leaves that images spell
pub writes_of : (bytes : List ℕ) (was : List Link) (images : List Image) (leaves : List (List Row)) → AreSpelled images leaves → (sizes : List ℕ) × WritesLeaves bytes was leaves sizes
writes_of bytes was images [] spelled = ([], refl)
writes_of bytes was [] (rows ∷ leaves) spelled = absurd spelled
writes_of bytes was (i ∷ images) (rows ∷ leaves) spelled =
    let rest = writes_of bytes (links_behind was) images leaves spelled.1 in
    let some = some_rows rows (low_some i.low rows spelled.0.low) in
    elim (leaf_known bytes i.block.items (first_link was) rows some spelled.0.page) [
      | inl leaf ↦ (rest.0, (None, rest.0, inr leaf, rest.1, refl))
      | inr none ↦ (block_size (image_length rows) ∷ rest.0, (Some (block_size (image_length rows)), rest.0, (some, none, refl), rest.1, refl))
    ]
