-- What an opening anew finds, and what it leaves of what holds between two calls.
use Rattle.std.proofs.Common.{◌≡◌, ℕ, List, [], ◌∷◌, refl, sym, subst, inl, inr, arith}
use Rattle.failure.specs.Counts.{Rose}
use Rattle.disk_model.specs.Crash.{Each, LeavesOnly, Looked}
use Rattle.disk_model.specs.declared.disk.Disk.{Ghosts}
use Rattle.wt_code.specs.declared.refusals.Refusal.{Refusal}
use Rattle.kv_model.specs.Content.{Content, OpensAs, start}
use Rattle.kv_model.specs.Holds.{Member}
use Rattle.kv_model.specs.Machine.{Completed}
use Rattle.stored.specs.Stored.{Stored, Reads, IsBlank, IsOn}
use Rattle.stored.proofs.Device.{one_content}
use Rattle.device_leaf.specs.Closings.{content_was}
use Rattle.recover_open.proofs.Devices.{whole_damage_no_content}
use Rattle.engine_world.specs.Worlds.{World}
use Rattle.ckpt_step.specs.Floors.{AreLivesOn}
use Rattle.engine_store.specs.declared.store.Store.{Store}
use Rattle.engine_store.specs.Answers.{RefusesReopening}
use Rattle.engine_store.specs.Devices.{Installed, IsUsedUp, device_of, may_open_to}
use Rattle.engine_store.specs.Held.{IsHeldIn, NotReopened, Reopens}
use Rattle.engine_store.specs.Images.{OpensToAny, OpensToLast, OpensToOne}
use Rattle.engine_store.specs.Keeping.{begun_with}
use Rattle.engine_store.specs.Opened.{IsAtFault, IsOpened, LacksNumbers, OpenRefused}
use Rattle.engine_store.proofs.Backed.{stands_looked}
use Rattle.engine_store.proofs.Contents.{start_opens, still_reads}
use Rattle.engine_store.proofs.Installing.{past_later, stays_on}
use Rattle.engine_store.proofs.NoLives.{none_on}
use Rattle.engine_store.proofs.OtherRecords.{held_kept}
use Rattle.engine_store.proofs.Refusing.{spoilt_no_content}
use Rattle.engine_store.proofs.UnderWayStill.{none_runs}

-- ---- a device that was only looked at

module _ {D : Type 0} (g : Ghosts D) (start_disk before after : D) (looked : Looked g before after) (image : g.may_leave before (g.seen before)) (s : Store) (w : World) (first : Completed) (made : List Installed) (held : IsHeldIn g start_disk s before w first made) where
  images_looked : Each (g.may_leave after) (OpensToAny (may_open_to (first ∷ []) made))
  images_looked c left = held.images c (looked.images c left)

  ever_looked : LeavesOnly g start_disk after (OpensToOne first made)
  ever_looked = record {
    later = omega (arith, held.ever.later, looked.later);
    each = λ c left. held.ever.each c (looked.since (g.moment start_disk) c held.ever.later left);
    before = λ t c le left. held.ever.before t c le (looked.since t c (omega (arith, le, held.ever.later)) left);
  }

  -- the same engine goes on
  held_looked : IsHeldIn g start_disk s after w first made
  held_looked = record {
    stands = held.stands;
    running = held.running;
    kept = held.kept;
    bare = held.bare;
    on = λ up. let on = held.on up in record {
      old = on.old;
      on = stands_looked (g.seen before) (g.seen after) (g.may_leave before) (g.may_leave after) s.engine.hub s.ground on.old looked.content looked.images on.on;
      follows = on.follows;
      since = subst (λ (l : List ℕ). AreLivesOn l s.engine.hub s.ground w) (sym looked.content) on.since;
      opens = on.opens;
      one = on.one;
    };
    images = images_looked;
    last = last_looked held.last;
    ever = ever_looked;
    stays = stays_on (g.left_since before) (g.left_since after) (g.moment before) (λ c. ⊥) (λ t c le left. inl (looked.since t c le left)) (first ∷ []) made (λ c none. absurd none) held.past held.stays;
    past = past_later made (g.moment before) (g.moment after) looked.later held.past;
  }
    where
      last_looked : OpensToLast (g.may_leave before) first w.machine.completed made → OpensToLast (g.may_leave after) first w.machine.completed made
      last_looked (inl (content, each, opens)) = inl (content, ((λ c left. each.0 c (looked.images c left)), each.1), opens)
      last_looked (inr (pending, there, each)) = inr (pending, there, images_looked)

  -- ---- it is opened anew

  module _ (s' : Store) (is : IsOpened (g.seen after) (g.may_leave after) s') where
    abbrev content : Content
    content = content_was is.old

    reads : Reads (g.seen before) content
    reads = subst (λ (l : List ℕ). Reads l content) looked.content (still_reads is.old (g.seen after) is.on.stands.seen_has)

    one : (k : Completed) × Member k (may_open_to (first ∷ []) made) × OpensAs content k
    one = from_any (held.images (g.seen before) image)
      where
        from_any : OpensToAny (may_open_to (first ∷ []) made) (g.seen before) → (k : Completed) × Member k (may_open_to (first ∷ []) made) × OpensAs content k
        from_any (k, there, (other, read, opens)) = (k, there, subst (λ (x : Content). OpensAs x k) (one_content (g.seen before) other content read reads) opens)

    opens : OpensAs content (start content).completed
    opens = start_opens content one.2.layered

    last_reopened : OpensToLast (g.may_leave before) first w.machine.completed made → OpensToLast (g.may_leave after) first (start content).completed made
    last_reopened (inl (other, each, opened)) =
        let same : other ≡ content = one_content (g.seen before) other content (each.0 (g.seen before) image) reads in
        inl (content, ((λ c left. subst (λ (x : Content). Reads c x) same (each.0 c (looked.images c left))), one.2.layered), opens)
    last_reopened (inr (pending, there, each)) = inr (pending, there, images_looked)

    held_reopened : IsHeldIn g start_disk s' after (begun_with content is.shelf s') first made
    held_reopened = record {
      stands = is.world;
      running = none_runs s'.ground s'.running (start content) is.running refl;
      kept = λ leaf key. refl;
      bare = is.bare;
      on = λ up. record { old = is.old; on = is.on; follows = is.follows; since = none_on (g.seen after) s'.engine.hub s'.ground (begun_with content is.shelf s') is.none; opens = opens; one = one };
      images = images_looked;
      last = last_reopened held.last;
      ever = ever_looked;
      stays = held_looked.stays;
      past = held_looked.past;
    }

    pub reopened : Reopens g start_disk w first made s s' before after
    reopened = record {
      content = content;
      reads = reads;
      one = one;
      later = record { faults = looked.count; moment = looked.later };
      seen = looked.content;
      capacity = looked.capacity;
      shelf = is.shelf;
      held = held_kept g start_disk after s' (begun_with content is.shelf s') first made held_reopened;
      none = is.none;
    }

  -- ---- it is not

  used_up : (content : Content) → Reads (g.seen before) content → ((s : Stored) → IsOn (g.seen before) s → LacksNumbers s.kept) → (IsBlank (g.seen before) → ⊥) → IsUsedUp (g.seen before)
  used_up had (inl blank) used not_blank = absurd (not_blank blank.0)
  used_up had (inr (s, on, same)) used not_blank = (s, on, used s on)

  -- a device that reads is not damaged, and none of its leaves is at fault
  none_damaged : (content : Content) → Reads (g.seen before) content → (at want found : ℕ) → IsAtFault (g.seen before) at want found → ⊥
  none_damaged had read at want found (inl damage) = whole_damage_no_content (g.seen before) at want found had damage read
  none_damaged had read at want found (inr spoilt) = spoilt_no_content (g.seen before) at want found had spoilt read

  why_not : (known : Type 0) → known → (content : Content) → Reads (g.seen before) content → (r : Refusal) → OpenRefused (Rose (g.faults before) (g.faults after)) known (g.seen before) r → RefusesReopening (device_of g before) (device_of g after) r
  why_not known k had read r (inl (inl disk)) = inl disk
  why_not known k had read r (inl (inr (inl none))) = inr (inl none)
  why_not known k had read r (inl (inr (inr (at, want, found, is, damage)))) = absurd (none_damaged had read at want found (damage k))
  why_not known k had read r (inr (inl (is, last))) = inr (inr (inr (is, last k)))
  why_not known k had read r (inr (inr (is, used, not_blank))) = inr (inr (inl (is, used_up had read (used k) (not_blank k))))

  pub not_reopened : (known : Type 0) → known → (s' : Store) → s' ≡ s → (r : Refusal) → OpenRefused (Rose (g.faults before) (g.faults after)) known (g.seen before) r → NotReopened g start_disk w first made s s' before after r
  not_reopened known k s' same r why = record {
    why = let any = held.images (g.seen before) image in why_not known k any.2.0 any.2.1 r why;
    later = record { faults = looked.count; moment = looked.later };
    seen = looked.content;
    capacity = looked.capacity;
    held = held_kept g start_disk after s' w first made (subst (λ (x : Store). IsHeldIn g start_disk x after w first made) (sym same) held_looked);
    none = λ none. subst (λ (x : Store). x.ground.lives ≡ []) (sym same) none;
  }
