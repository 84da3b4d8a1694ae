-- What worlds the lists of what is kept stand for.
use Rattle.std.specs.Prelude.{◌≡◌, ℕ, ◌==◌, List, [], Result, Ok, Err, if◌then◌else◌, refl}
use Rattle.std.proofs.Common.{inl, inr, sym, ◌∙◌, subst}
use Rattle.std.proofs.lemmas.Bool.{cases_Bool}
use Rattle.reconcile.specs.declared.image.Moved.{Moved}
use Rattle.call_turns.proofs.Walks.{named-is}
use Rattle.engine.proofs.LeavesCome.{named-there}
use Rattle.engine.specs.Evictions.{MayBeEvicted}
use Rattle.engine_world.specs.Stands.{Engine, Stands}
use Rattle.engine_world.specs.Worlds.{World}
use Rattle.wt_code.specs.declared.refusals.Refusal.{Refusal}
use Rattle.evict_step.specs.Kept.{KeepsAt, KeepsThese, Lists, list_of}
use Rattle.evict_step.proofs.Again.{kept_nowhere}
use Rattle.ckpt_step.specs.declared.evicting.Evicted.{Evicted}
use Rattle.ckpt_step.specs.declared.evicting.Evicted.TheVariants.{Done, Parted, Emptied, Stays, Unresolved, Empty}
use Rattle.ckpt_step.specs.Evicts.{KeepsStill}
use Rattle.ckpt_step.proofs.Members.{none_some}

-- the history keeps nothing of a leaf that may be evicted
pub none_framed : (e : Engine) (w : World) (id : ℕ) → Stands e w → MayBeEvicted e id → (key : List ℕ) → w.records id key ≡ []
none_framed e w id stands may key = elim (stands.leaves may.leaf (named-there id e.hub.dir.leaves may.leaf may.there)) [
  | inl frame ↦ subst (λ (n : ℕ). w.records n key ≡ []) (named-is id e.hub.dir.leaves may.leaf may.there) (frame.none key)
  | inr device ↦ absurd (none_some (sym device.none ∙ may.placed))
]

-- where nothing is kept of it any more, what is kept is still so
pub keeps_none : (e : Engine) (w : World) (id : ℕ) (before lists : Lists) → Stands e w → MayBeEvicted e id → KeepsAt before lists id [] → KeepsThese w before → KeepsThese w lists
keeps_none e w id before lists stands may at keeps = kept_nowhere w before lists id keeps (none_framed e w id stands may) at

-- what was kept of it goes again
pub kept_back : (e : Engine) (w : World) (id : ℕ) (before mid lists : Lists) (moved : List Moved) → Stands e w → MayBeEvicted e id → KeepsAt before mid id moved → KeepsAt mid lists id [] → KeepsThese w before → KeepsThese w lists
kept_back e w id before mid lists moved stands may one two keeps = keeps_none e w id before lists stands may both keeps
  where
    both : KeepsAt before lists id []
    both leaf = two leaf ∙ elim (cases_Bool (leaf == id)) [
      | inl is ↦ rw is refl
      | inr isnt ↦ (let was : (if leaf == id then moved else list_of before leaf) ≡ list_of before leaf = rw isnt refl in let mid_is : list_of mid leaf ≡ list_of before leaf = one leaf ∙ was in rw isnt mid_is)
    ]

-- whatever the answer
pub still_so : (w : World) (lists : Lists) (result : Result Evicted Refusal) → KeepsThese w lists → KeepsStill w lists result
still_so w lists (Ok Done) keeps = tt
still_so w lists (Ok Parted) keeps = tt
still_so w lists (Ok Emptied) keeps = keeps
still_so w lists (Ok (Stays why)) keeps = keeps
still_so w lists (Ok (Unresolved by)) keeps = keeps
still_so w lists (Ok Empty) keeps = keeps
still_so w lists (Err r) keeps = keeps
