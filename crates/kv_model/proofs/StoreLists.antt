-- The laws of stores and captures, over lists of versions.
use Rattle.std.proofs.Common.{ℕ, ◌≡◌, refl, ap, sym, ◌∙◌, Bool, true, ◌&&◌, List, [], ◌∷◌, inl, inr, subst, arith}
use Rattle.std.proofs.lemmas.Bool.{cases_Bool, and_parts, and_from}
use Rattle.std.specs.Prelude.{length, find, Option, Some, None}
use Rattle.item.specs.declared.Change.{Change}
use Rattle.stamp.specs.declared.Name.{Name}
use Rattle.stamp.specs.declared.Version.{Version}
use Rattle.kv_model.specs.Holds.{Member, Stores}
use Rattle.kv_model.specs.Ordered.{Older, NameBelow, IsOrderly}
use Rattle.kv_model.specs.History.{Entry, admits, line, reads_at, released, down_to, is_by}
use Rattle.kv_model.specs.Droppable.{covers}
use Rattle.kv_model.specs.Refusals.{newest_durable}
use Rattle.kv_model.specs.StoreLaws.{StoresAnswer, EvictionKeepsStores, CaptureKeepsStores, RollbackKeepsStores, Held, or_else}
use Rattle.kv_model.specs.CaptureLaws.{CaptureHolds, EntriesKeepCaptures, HistoriesKeepCaptures, FinishAgrees, FinishIsLayered, OpeningStores, CleaningStores}
use Rattle.kv_model.specs.AgreementLaws.{AgreementReads, AgreementHeads, AgreementRefuses, AgreementOrders, may_now, head_of}
use Rattle.kv_model.proofs.Newest.{find-member, find-none, find-newest}
use Rattle.kv_model.proofs.FrameAndHistory.{frame-finds, history-finds}
use Rattle.kv_model.proofs.Covering.{covers-admitted}
use Rattle.kv_model.proofs.ReconciledLists.{reconciled-lists}
use Rattle.kv_model.proofs.StoreSteps.{evict-stands, capture-stands, rts-stands, key-captured-entry}
use Rattle.kv_model.proofs.Capturing.{captured-from, captured-history, captured-layered}
use Rattle.kv_model.proofs.Living.{opened-stands, cleaned-stands, stores-covers}
use Rattle.kv_model.proofs.Finishing.{older-order, finish-agrees}
use Rattle.kv_model.proofs.Snapshots.{line-released}
use Rattle.kv_model.proofs.Droppables.{line-stamps}
use Rattle.kv_model.proofs.Agrees.{IsSettled, agree-reads}

pub older-trans : (x y z : Version Change) → Older x y → Older y z → Older x z
older-trans x y z a b = names x.window.name y.window.name z.window.name a b where
  names : (x y z : Name) → NameBelow x y → NameBelow y z → NameBelow x z
  names x y z (inl a) (inl b) = inl (omega arith)
  names x y z (inl a) (inr b) = inl (let e = b.0 in omega arith)
  names x y z (inr a) (inl b) = inl (let e = a.0 in omega arith)
  names x y z (inr a) (inr b) = inr (a.0 ∙ b.0, let e = a.1 in let f = b.1 in omega arith)

-- ---- stores

pub stores-answer : StoresAnswer
stores-answer m s t l held records second there d fits e stores picks = by-frame (find p held) refl where
  p : Version Change → Bool
  p = admits m.history t.start t.read

  both-ways : Version Change → Bool
  both-ways v = covers m v && admits m.history t.start t.read v

  shows : (v : Version Change) → both-ways v ≡ true → p v ≡ true
  shows v is = (and_parts (covers m v) (admits m.history t.start t.read v) is).1

  stands : Stores Older both-ways l (Held held) (Held records)
  stands = stores-covers Older (covers m) both-ways l (Held held) (Held records)
      (λ v at is. and_from (covers m v) (admits m.history t.start t.read v) is (covers-admitted m s t v there (fits v at) is)) stores

  by-frame : (o : Option (Version Change)) → find p held ≡ o → or_else (find p held) second ≡ find p l
  by-frame None is = subst (λ o. or_else o second ≡ find p l) (sym is)
      (sym (history-finds Older both-ways p l (Held held) (Held records) older-order shows d stands (λ v at sees. find-none p held is v at sees) second picks))
  by-frame (Some v) is = subst (λ o. or_else o second ≡ find p l) (sym is)
      (sym (frame-finds Older both-ways p l (Held held) (Held records) older-order shows d stands v (record {
        held = (find-member p held v is).0;
        passes = (find-member p held v is).1;
        newest = find-newest Older p held v e is;
      })))

pub eviction-keeps : EvictionKeepsStores
eviction-keeps covers ended past l held records moved cell d stores layered done low r =
    evict-stands Older covers ended past l (Held held) (Held records) cell (Held moved) older-order older-trans stores layered done low
    (reconciled-lists Older ended past held moved cell d r)

pub capture-keeps : CaptureKeepsStores
capture-keeps covers ended live past l held records moved cell d stores layered done r =
    capture-stands Older covers ended live past l (Held held) (Held records) cell (Held moved) older-trans stores layered done
    (reconciled-lists Older live past held moved cell d r)

pub rollback-keeps : RollbackKeepsStores
rollback-keeps covers keeps l held records back d low stores comes = rts-stands Older covers keeps l (Held held) (Held records) back older-order d low stores comes

-- ---- captures

pub capture-holds : CaptureHolds
capture-holds covers ended live past seen low l held records moved cell d e stores layered done was shows older r =
    captured-from Older covers ended live past seen low l (Held held) (Held records) cell (Held moved) older-order older-trans d stores layered done was shows older
    (reconciled-lists Older live past held moved cell e r)

pub entries-keep : EntriesKeepCaptures
entries-keep entry news start oldest table key cell records may c = key-captured-entry entry news start oldest table key cell (Held records) may c

pub histories-keep : HistoriesKeepCaptures
histories-keep covers seen low l records later cell shows into out c = captured-history Older covers seen low l cell (Held records) (Held later) shows into out c

pub finish-holds : FinishAgrees
finish-holds news start oldest stable content cells records orderly follow stamps captured d is =
    finish-agrees news start oldest stable content cells (λ table key. Held (records table key)) orderly follow stamps captured d is

pub finish-layered : FinishIsLayered
finish-layered seen low stable l records cell c = captured-layered Older seen low stable l cell (Held records) c

pub opening-stores : OpeningStores
opening-stores covers keep l records cell is layered = opened-stands Older covers keep l cell (Held records) older-order is layered

pub cleaning-stores : CleaningStores
cleaning-stores covers keep ended l records cell new stores layered keeps done cleaned =
    cleaned-stands Older covers keep ended l cell new (Held records) older-order stores layered keeps done cleaned

-- ---- agreement

settled-by : (history : List Entry) → IsOrderly history → IsSettled history
settled-by history orderly = record {
  released = line-released history orderly;
  stamps = line-stamps history orderly;
}

pub agreement-reads : AgreementReads
agreement-reads history other oldest read one two late agree = agree-reads history other oldest read (settled-by history one) (settled-by other two) late agree

head-core : (p : Version Change → Bool) (l : List (Version Change)) → head_of (down_to p l) ≡ head_of l
head-core p [] = refl
head-core p (v ∷ older) = elim (cases_Bool (p v)) [ inl is ↦ rw is refl | inr isnt ↦ rw isnt refl ]

pub agreement-heads : AgreementHeads
agreement-heads history other oldest agree table key =
    sym (head-core (is_by oldest) (line history table key)) ∙ (ap head_of (agree.cores table key) ∙ head-core (is_by oldest) (line other table key))

-- of a version that was released the read stamp alone decides
abbrev reads_head : ℕ → Option (Version Change) → Bool
reads_head read None = true
reads_head read (Some v) = reads_at read v.window.commit

may-head : (history : List Entry) (read : ℕ) (l : List (Version Change)) → ((v : Version Change) → Member v l → released history (length history) v.window.name ≡ true) → may_now history read l ≡ reads_head read (head_of l)
may-head history read [] out = refl
may-head history read (v ∷ older) out = rw (out v (inl refl)) refl

pub agreement-refuses : AgreementRefuses
agreement-refuses history other oldest read one two agree table key =
    may-head history read (line history table key) (line-released history one table key)
    ∙ (ap (reads_head read) (agreement-heads history other oldest agree table key)
    ∙ sym (may-head other read (line other table key) (line-released other two table key)))

durable-core : (p : Version Change → Bool) (l : List (Version Change)) → newest_durable (down_to p l) ≡ newest_durable l
durable-core p [] = refl
durable-core p (v ∷ older) = elim (cases_Bool (p v)) [ inl is ↦ rw is refl | inr isnt ↦ rw isnt refl ]

pub agreement-orders : AgreementOrders
agreement-orders history other oldest agree table key =
    sym (durable-core (is_by oldest) (line history table key)) ∙ (ap newest_durable (agree.cores table key) ∙ durable-core (is_by oldest) (line other table key))
