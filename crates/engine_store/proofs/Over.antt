-- One more place of a tree, and one more table with its entries.
use Rattle.std.proofs.Common.{◌≡◌, ◌+◌, ◌<◌, ◌≤◌, ℕ, List, [], ◌∷◌, ◌++◌, length, get_or, reverse, take, sym, subst, arith}
use Rattle.std.proofs.lemmas.List.{append-nil, append_assoc, take_all}
use Rattle.checkpoint_record.proofs.Lists.{take_step}
use Rattle.stored.specs.Records.{Root, TableRoot}
use Rattle.tree_open.specs.declared.place.TreePlace.{TreePlace}
use Rattle.tree_open.specs.declared.place.Upper.{Upper}
use Rattle.engine_start.specs.declared.table_entries.TableEntries.{TableEntries}
use Rattle.engine_start.proofs.Inserting.{reverse_last}
use Rattle.engine_store.specs.Places.{AreOver, IsOver}
use Rattle.engine_store.specs.Tables.{AreWithEntries, IsWithEntries}

-- ---- places

over_push : (ps : List TreePlace) (ts : List TableRoot) (us : List Upper) (p : TreePlace) (t : TableRoot) (u : Upper) → AreOver ps ts us → IsOver p t.root u → AreOver (ps ++ p ∷ []) (ts ++ t ∷ []) (us ++ u ∷ [])
over_push [] [] [] p t u over is = (is, tt)
over_push [] [] (y ∷ us) p t u over is = absurd over
over_push [] (x ∷ ts) us p t u over is = absurd over
over_push (q ∷ ps) [] us p t u over is = absurd over
over_push (q ∷ ps) (x ∷ ts) [] p t u over is = absurd over
over_push (q ∷ ps) (x ∷ ts) (y ∷ us) p t u over is = (over.0, over_push ps ts us p t u over.1 is)

pub over_more : (ts : List TableRoot) (us : List Upper) (i : ℕ) (ps all : List TreePlace) (p : TreePlace) (t : TableRoot) (root : Root) (u : Upper) → i < length ts → i < length us → t ≡ get_or ts i t → u ≡ get_or us i u → root ≡ t.root → AreOver ps (take i ts) (take i us) → IsOver p root u → all ≡ ps ++ p ∷ []
    → AreOver all (take (i + 1) ts) (take (i + 1) us)
over_more ts us i ps all p t root u lt within is at same over one added =
    subst (λ (l : List TreePlace). AreOver l (take (i + 1) ts) (take (i + 1) us)) (sym added)
    (subst (λ (l : List TableRoot). AreOver (ps ++ p ∷ []) l (take (i + 1) us)) (sym (take_step ts i t lt is))
    (subst (λ (l : List Upper). AreOver (ps ++ p ∷ []) (take i ts ++ t ∷ []) l) (sym (take_step us i u within at))
    (over_push ps (take i ts) (take i us) p t u over (subst (λ (r : Root). IsOver p r u) same one))))

pub over_all : (ts : List TableRoot) (us : List Upper) (i : ℕ) (ps : List TreePlace) → length us ≡ length ts → length ts ≤ i → AreOver ps (take i ts) (take i us) → AreOver ps ts us
over_all ts us i ps same past over =
    subst (λ (l : List TableRoot). AreOver ps l us) (take_all i ts past) (subst (λ (l : List Upper). AreOver ps (take i ts) l) (take_all i us (omega (arith, same, past))) over)

-- ---- tables

with_push : (xs : List TableEntries) (ts : List TableRoot) (us : List Upper) (x : TableEntries) (t : TableRoot) (u : Upper) → AreWithEntries xs ts us → IsWithEntries x t u → AreWithEntries (xs ++ x ∷ []) (ts ++ t ∷ []) (us ++ u ∷ [])
with_push [] [] [] x t u with is = (is, tt)
with_push [] [] (y ∷ us) x t u with is = absurd with
with_push [] (z ∷ ts) us x t u with is = absurd with
with_push (w ∷ xs) [] us x t u with is = absurd with
with_push (w ∷ xs) (z ∷ ts) [] x t u with is = absurd with
with_push (w ∷ xs) (z ∷ ts) (y ∷ us) x t u with is = (with.0, with_push xs ts us x t u with.1 is)

-- whatever goes before those that are done, the last one first, is all with them
abbrev pub IsRest : List TableEntries → List TableRoot → List Upper → List TableRoot → List Upper → Type 0
IsRest done ts us tables uppers = (front : List TableEntries) → AreWithEntries front ts us → AreWithEntries (front ++ reverse done) tables uppers

pub rest_first : (ts : List TableRoot) (us : List Upper) (done : List TableEntries) → done ≡ [] → IsRest done ts us ts us
rest_first ts us done none front with = subst (λ (l : List TableEntries). AreWithEntries (front ++ reverse l) ts us) (sym none) (subst (λ (l : List TableEntries). AreWithEntries l ts us) (sym (append-nil front)) with)

pub rest_more : (done all : List TableEntries) (x : TableEntries) (ts now tables : List TableRoot) (us left uppers : List Upper) (t : TableRoot) (u : Upper) → now ≡ ts ++ t ∷ [] → left ≡ us ++ u ∷ [] → IsWithEntries x t u → all ≡ done ++ x ∷ [] → IsRest done now left tables uppers → IsRest all ts us tables uppers
rest_more done all x ts now tables us left uppers t u last also is added rest front with =
    subst (λ (l : List TableEntries). AreWithEntries (front ++ reverse l) tables uppers) (sym added)
    (subst (λ (l : List TableEntries). AreWithEntries (front ++ l) tables uppers) (sym (reverse_last done x))
    (subst (λ (l : List TableEntries). AreWithEntries l tables uppers) (append_assoc front (x ∷ []) (reverse done))
    (rest (front ++ x ∷ []) (subst (λ (l : List TableRoot). AreWithEntries (front ++ x ∷ []) l left) (sym last) (subst (λ (l : List Upper). AreWithEntries (front ++ x ∷ []) (ts ++ t ∷ []) l) (sym also) (with_push front ts us x t u with is))))))

pub rest_all : (done all : List TableEntries) (ts tables : List TableRoot) (us uppers : List Upper) → ts ≡ [] → us ≡ [] → all ≡ reverse done → IsRest done ts us tables uppers → AreWithEntries all tables uppers
rest_all done all ts tables us uppers none also is rest =
    subst (λ (l : List TableEntries). AreWithEntries l tables uppers) (sym is)
    (rest [] (subst (λ (l : List TableRoot). AreWithEntries [] l us) (sym none) (subst (λ (l : List Upper). AreWithEntries [] [] l) (sym also) tt)))
