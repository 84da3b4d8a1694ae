-- Leaves of before by place, and leaves behind others.
use Rattle.std.specs.Prelude.{◌≡◌, ◌⊎◌, ℕ, suc, ◌≤◌, ◌==◌, List, [], ◌∷◌, ◌++◌, length, Option, Some, None, refl}
use Rattle.std.specs.Option.{option_to_list}
use Rattle.std.specs.List.{AllByRecursion}
use Rattle.std.proofs.Common.{inl, inr, sym, ◌∙◌, ap, subst, arith, append_assoc}
use Rattle.std.proofs.lemmas.Bool.{cases_Bool, cases_eq}
use Rattle.disk_model.specs.Crash.{Keeps}
use Rattle.extent_list.specs.Space.{Space, end_of}
use Rattle.block_mgr.specs.declared.cell.Cell.{Cell}
use Rattle.block_mgr.specs.Blocks.{Books, Has, HasLive}
use Rattle.block_mgr.specs.Cells.{AreUnits}
use Rattle.device_layout.specs.declared.link.Link.{Link}
use Rattle.row_page.specs.Rows.{Row}
use Rattle.stored.specs.Blocks.{Block}
use Rattle.stored.specs.Links.{nowhere}
use Rattle.stored.specs.Tree.{AllBear, leaf_blocks}
use Rattle.stored.specs.TableTree.{Entry, table_kind}
use Rattle.tree_write.specs.Drafts.{AreLiveLeaves, aligned, or_empty}
use Rattle.tree_write.specs.Sizes.{WritesLeaf, WritesLeaves, first_link, links_behind}
use Rattle.tree_write.specs.Steps.{leaf_block}
use Rattle.tree_write.specs.Writes.{AreOwn, IsLiveLeaf, KeepSame, LeadApart}
use Rattle.tree_write.proofs.Still.{leaf_later, writes_before}

-- ---- leaves of before, as many as there are leaves

pub aligned_length : (was : List Link) (leaves : List (List Row)) → length (aligned was leaves) ≡ length leaves
aligned_length was [] = refl
aligned_length was (rows ∷ leaves) = ap (λ (n : ℕ). suc n) (aligned_length (links_behind was) leaves)

pub aligned_same : (was : List Link) (leaves : List (List Row)) → length was ≡ length leaves → aligned was leaves ≡ was
aligned_same [] [] long = refl
aligned_same [] (rows ∷ leaves) long = absurd (omega (arith, long))
aligned_same (link ∷ was) [] long = absurd (omega (arith, long))
aligned_same (link ∷ was) (rows ∷ leaves) long = ap (λ (l : List Link). link ∷ l) (aligned_same was leaves (omega (arith, long)))

pub first_live : (first : Books) (was : List Link) → AreLiveLeaves first was → IsLiveLeaf first (first_link was)
first_live first [] live = inl refl
first_live first (link ∷ was) live = live.0

pub behind_live : (first : Books) (was : List Link) → AreLiveLeaves first was → AreLiveLeaves first (links_behind was)
behind_live first [] live = tt
behind_live first (link ∷ was) live = live.1

pub aligned_live : (first : Books) (was : List Link) (leaves : List (List Row)) → AreLiveLeaves first was → AreLiveLeaves first (aligned was leaves)
aligned_live first was [] live = tt
aligned_live first was (rows ∷ leaves) live = (first_live first was live, aligned_live first (links_behind was) leaves (behind_live first was live))

pub writes_aligned : (bytes : List ℕ) (was : List Link) (leaves : List (List Row)) (sizes : List ℕ) → WritesLeaves bytes was leaves sizes → WritesLeaves bytes (aligned was leaves) leaves sizes
writes_aligned bytes was [] sizes writes = writes
writes_aligned bytes was (rows ∷ leaves) sizes (size, rest, one, others, is) = (size, rest, one, writes_aligned bytes (links_behind was) leaves rest others, is)

pub own_aligned : (books : Books) (was links : List Link) (leaves : List (List Row)) → length links ≡ length leaves → AreOwn books was links → AreOwn books (aligned was leaves) links
own_aligned books was [] leaves long own = tt
own_aligned books was (link ∷ links) [] long own = absurd (omega (arith, long))
own_aligned books was (link ∷ links) (rows ∷ leaves) long own = (own.0, own_aligned books (links_behind was) links leaves (omega (arith, long)) own.1)

pub same_aligned : (bytes : List ℕ) (was links : List Link) (leaves : List (List Row)) → KeepSame bytes was links leaves → KeepSame bytes (aligned was leaves) links leaves
same_aligned bytes was [] leaves same = tt
same_aligned bytes was (link ∷ links) [] same = tt
same_aligned bytes was (link ∷ links) (rows ∷ leaves) same = (same.0, same_aligned bytes (links_behind was) links leaves same.1)

-- ---- and back

none_writes : (bytes : List ℕ) (link other : Link) (size : Option ℕ) → WritesLeaf bytes link [] size → WritesLeaf bytes other [] size
none_writes bytes link other None writes = inl refl
none_writes bytes link other (Some size) writes = absurd (writes.0 refl)

pub writes_back : (bytes : List ℕ) (was : List Link) (leaves : List (List Row)) (sizes : List ℕ) → WritesLeaves bytes (aligned was leaves) leaves sizes → WritesLeaves bytes was leaves sizes
writes_back bytes was [] sizes writes = writes
writes_back bytes was (rows ∷ leaves) sizes (size, rest, one, others, is) = (size, rest, one, writes_back bytes (links_behind was) leaves rest others, is)

-- of a tree's leaves
pub tree_writes_back : (bytes : List ℕ) (was : List Link) (leaves : List (List Row)) (sizes : List ℕ) → WritesLeaves bytes (aligned was leaves) (or_empty leaves) sizes → WritesLeaves bytes was (or_empty leaves) sizes
tree_writes_back bytes was [] sizes (size, rest, one, others, is) = (size, rest, none_writes bytes nowhere (first_link was) size one, others, is)
tree_writes_back bytes was (rows ∷ leaves) sizes writes = writes_back bytes was (rows ∷ leaves) sizes writes

own_of_none : (books : Books) (was links : List Link) → AreOwn books [] links → AreOwn books was links
own_of_none books was [] own = tt
own_of_none books was (link ∷ links) own = (
  elim own.0 [ inl none ↦ inl none | inr (inl none) ↦ inl none | inr (inr placed) ↦ inr (inr placed) ],
  own_of_none books (links_behind was) links own.1,
)

pub own_back : (books : Books) (was links : List Link) (leaves : List (List Row)) → AreOwn books (aligned was leaves) links → AreOwn books was links
own_back books was [] leaves own = tt
own_back books was (link ∷ links) [] own = own_of_none books was (link ∷ links) own
own_back books was (link ∷ links) (rows ∷ leaves) own = (own.0, own_back books (links_behind was) links leaves own.1)

same_back : (bytes : List ℕ) (was links : List Link) (leaves : List (List Row)) → KeepSame bytes (aligned was leaves) links leaves → KeepSame bytes was links leaves
same_back bytes was [] leaves same = tt
same_back bytes was (link ∷ links) [] same = tt
same_back bytes was (link ∷ links) (rows ∷ leaves) same = (same.0, same_back bytes (links_behind was) links leaves same.1)

pub tree_same_back : (bytes : List ℕ) (was links : List Link) (leaves : List (List Row)) → KeepSame bytes (aligned was leaves) links (or_empty leaves) → KeepSame bytes was links (or_empty leaves)
tree_same_back bytes was [] leaves same = tt
tree_same_back bytes was (link ∷ links) [] same = ((λ some leaf. absurd (some refl)), rest (links_behind was) links)
  where
    rest : (was links : List Link) → KeepSame bytes was links []
    rest was [] = tt
    rest was (other ∷ links) = tt
tree_same_back bytes was (link ∷ links) (rows ∷ leaves) same = same_back bytes was (link ∷ links) (rows ∷ leaves) same

-- ---- apart

apart_one : (link : Link) (was : List Link) (leaves : List (List Row)) → (link.addr.offset ≡ 0 → ⊥) → AllByRecursion (λ (x : Link). x.addr.offset ≡ link.addr.offset → ⊥) was → AllByRecursion (λ (x : Link). x.addr.offset ≡ link.addr.offset → ⊥) (aligned was leaves)
apart_one link was [] some far = tt
apart_one link [] (rows ∷ leaves) some far = ((λ same. some (sym same)), apart_one link [] leaves some tt)
apart_one link (other ∷ was) (rows ∷ leaves) some far = (far.0, apart_one link was leaves some far.1)

pub aligned_apart : (was : List Link) (leaves : List (List Row)) → LeadApart was → LeadApart (aligned was leaves)
aligned_apart was [] apart = tt
aligned_apart [] (rows ∷ leaves) apart = (inl refl, aligned_apart [] leaves tt)
aligned_apart (link ∷ was) (rows ∷ leaves) apart = (
  elim (cases_eq link.addr.offset 0) [
    | inl zero ↦ inl zero
    | inr some ↦ elim apart.0 [ inl zero ↦ inl zero | inr far ↦ inr (apart_one link was leaves some far) ]
  ],
  aligned_apart was leaves apart.1,
)

-- ---- leaves behind others

pub writes_both : (bytes : List ℕ) (was more : List Link) (leaves others : List (List Row)) (sizes rest : List ℕ) → length was ≡ length leaves → WritesLeaves bytes was leaves sizes → WritesLeaves bytes more others rest → WritesLeaves bytes (was ++ more) (leaves ++ others) (sizes ++ rest)
writes_both bytes [] more [] others sizes rest long writes also = subst (λ (l : List ℕ). WritesLeaves bytes more others (l ++ rest)) (sym writes) also
writes_both bytes [] more (rows ∷ leaves) others sizes rest long writes also = absurd (omega (arith, long))
writes_both bytes (link ∷ was) more [] others sizes rest long writes also = absurd (omega (arith, long))
writes_both bytes (link ∷ was) more (rows ∷ leaves) others sizes rest long (size, behind, one, writes, is) also = (
  size,
  behind ++ rest,
  one,
  writes_both bytes was more leaves others behind rest (omega (arith, long)) writes also,
  ap (λ (l : List ℕ). l ++ rest) is ∙ append_assoc (option_to_list size) behind rest,
)

pub own_both : (books : Books) (was more links others : List Link) → length was ≡ length links → AreOwn books was links → AreOwn books more others → AreOwn books (was ++ more) (links ++ others)
own_both books [] more [] others long own also = also
own_both books [] more (link ∷ links) others long own also = absurd (omega (arith, long))
own_both books (w ∷ was) more [] others long own also = absurd (omega (arith, long))
own_both books (w ∷ was) more (link ∷ links) others long own also = (own.0, own_both books was more links others (omega (arith, long)) own.1 also)

pub same_both : (bytes : List ℕ) (was more links others : List Link) (leaves rest : List (List Row)) → length was ≡ length links → length links ≡ length leaves → KeepSame bytes was links leaves → KeepSame bytes more others rest → KeepSame bytes (was ++ more) (links ++ others) (leaves ++ rest)
same_both bytes [] more [] others [] rest long many same also = also
same_both bytes [] more [] others (rows ∷ leaves) rest long many same also = absurd (omega (arith, many))
same_both bytes [] more (link ∷ links) others leaves rest long many same also = absurd (omega (arith, long))
same_both bytes (w ∷ was) more [] others leaves rest long many same also = absurd (omega (arith, long))
same_both bytes (w ∷ was) more (link ∷ links) others [] rest long many same also = absurd (omega (arith, many))
same_both bytes (w ∷ was) more (link ∷ links) others (rows ∷ leaves) rest long many same also = (same.0, same_both bytes was more links others leaves rest (omega (arith, long)) (omega (arith, many)) same.1 also)

pub live_both : (first : Books) (was more : List Link) → AreLiveLeaves first was → AreLiveLeaves first more → AreLiveLeaves first (was ++ more)
live_both first [] more live also = also
live_both first (link ∷ was) more live also = (live.0, live_both first was more live.1 also)

pub bear_both : (es fs : List Entry) (leaves others : List (List Row)) → AllBear table_kind es leaves → AllBear table_kind fs others → AllBear table_kind (es ++ fs) (leaves ++ others)
bear_both [] fs [] others bear also = also
bear_both [] fs (rows ∷ leaves) others bear also = absurd bear
bear_both (e ∷ es) fs [] others bear also = absurd bear
bear_both (e ∷ es) fs (rows ∷ leaves) others bear also = (bear.0, bear_both es fs leaves others bear.1 also)

pub bear_length : (es : List Entry) (leaves : List (List Row)) → AllBear table_kind es leaves → length es ≡ length leaves
bear_length [] [] bear = refl
bear_length [] (rows ∷ leaves) bear = absurd bear
bear_length (e ∷ es) [] bear = absurd bear
bear_length (e ∷ es) (rows ∷ leaves) bear = ap (λ (n : ℕ). suc n) (bear_length es leaves bear.1)

pub blocks_both : (es fs : List Entry) (leaves others : List (List Row)) → AllBear table_kind es leaves → leaf_blocks table_kind (es ++ fs) (leaves ++ others) ≡ leaf_blocks table_kind es leaves ++ leaf_blocks table_kind fs others
blocks_both [] fs [] others bear = refl
blocks_both [] fs (rows ∷ leaves) others bear = absurd bear
blocks_both (e ∷ es) fs [] others bear = absurd bear
blocks_both (e ∷ es) fs (rows ∷ leaves) others bear = elim (cases_Bool (e.link.addr.offset == 0)) [
  | inl is ↦ rw is (blocks_both es fs leaves others bear.1)
  | inr isnt ↦ rw isnt (ap (λ (l : List Block). leaf_block e.link rows ∷ l) (blocks_both es fs leaves others bear.1))
]

-- ---- leaves of before, at two moments

module _ (cells : List Cell) (space : Space) (bytes later : List ℕ) (units : AreUnits cells space) (within : end_of space ≤ length bytes) (keeps : Keeps (Has cells) bytes later) (first : Books) (used : (at n : ℕ) → HasLive first.cells at n → Has cells at n) where
  used_leaf : (link : Link) → IsLiveLeaf first link → (link.addr.offset ≡ 0) ⊎ Has cells link.addr.offset link.addr.size
  used_leaf link live = elim live [ inl none ↦ inl none | inr has ↦ inr (used link.addr.offset link.addr.size has) ]

  -- what is written of them later is what would have been before
  pub writes_sooner : (was : List Link) (leaves : List (List Row)) (sizes : List ℕ) → AreLiveLeaves first was → WritesLeaves later was leaves sizes → WritesLeaves bytes was leaves sizes
  writes_sooner was [] sizes live writes = writes
  writes_sooner was (rows ∷ leaves) sizes live (size, rest, one, others, is) = (
    size,
    rest,
    writes_before cells space bytes later (first_link was) units within keeps rows size (used_leaf (first_link was) (first_live first was live)) one,
    writes_sooner (links_behind was) leaves rest (behind_live first was live) others,
    is,
  )

  -- and what keeps its place later would have kept it before
  pub same_sooner : (was links : List Link) (leaves : List (List Row)) → AreLiveLeaves first was → KeepSame later was links leaves → KeepSame bytes was links leaves
  same_sooner was [] leaves live same = tt
  same_sooner was (link ∷ links) [] live same = tt
  same_sooner was (link ∷ links) (rows ∷ leaves) live same = (
    (λ some leaf. same.0 some (leaf_later cells space bytes later (first_link was) units within keeps rows (used_leaf (first_link was) (first_live first was live)) leaf)),
    same_sooner (links_behind was) links leaves (behind_live first was live) same.1,
  )
