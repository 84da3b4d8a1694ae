-- A keeper after each call.
use Rattle.std.proofs.Common.{◌≡◌, ◌≢◌, ℕ, ◌+◌, ◌<◌, ◌≤◌, [], length, sym, refl, ap, ◌∙◌, subst, inl, inr, arith}
use Rattle.pool_law.specs.Keeping.{Own, finds_own, turns_own}
use Rattle.pool_law.specs.Whole.{Noted, noted}
use Rattle.pool_law.proofs.Keepers.{may_read, may_write, other_after, own_after}
use Rattle.latch_table.specs.declared.latched.Latched.{Latched}
use Rattle.latch_table.specs.declared.seat.Seat.{Seat}
use Rattle.latch_table.specs.Tables.{SamePieces, SameSeat, IsSeatOf, knows, note_of, number_of_seat, taken}
use Rattle.latch_table.proofs.Lent.{here}
use Rattle.hazard_law.specs.declared.known.Hazards.{Hazards}
use Rattle.hazard_law.specs.declared.known.Lock.TheVariants.{Locks}
use Rattle.hazard_law.specs.Safety.{HasLock, inner, with_lock, with_note}
use Rattle.hazard_law.specs.Words.{filled, hazard_place, locked, naming}
use Rattle.hazard_table.specs.Asks.{MayPin}
use Rattle.hazard_table.specs.Leaves.{LocksFrame, Opens, PinsFrame, Publishes, Scans, Unpins, Validates, own_word, word_of_session}
use Rattle.hazard_table.specs.Sessions.{IsSession}
use Rattle.hazard_table.specs.declared.answers.Pinning.{Pinning}
use Rattle.hazard_table.specs.declared.answers.Locking.{Locking}
use Rattle.hazard_table.specs.declared.answers.Scanning.{Scanning}
use Rattle.hazard_table.specs.declared.answers.Pinning.TheVariants.{Pinned, Again}
use Rattle.hazard_table.specs.declared.answers.Locking.TheVariants.{Locked, Again as NotLocked}
use Rattle.hazard_table.specs.declared.answers.Scanning.TheVariants.{Clear, Pinned as Named}
use Rattle.pool_trials.specs.Trials.{HasOwnLocked, IsKeeper, IsLocked, LocksOwn}

abbrev F2 : Noted Own → ℕ → ℕ → Type 0
F2 = finds_own 2

abbrev T2 : Noted Own → ℕ → ℕ → ℕ → Own → Type 0
T2 = turns_own 2

module _ {A : Type 0} (t : Latched A ℕ ℕ (Hazards Own)) (s : Seat A ℕ ℕ (Hazards Own)) (word : ℕ) (k : IsKeeper t s word) where
  pub own_frame : (f : ℕ) → f ≡ number_of_seat s → f ≡ (note_of s).note.0
  own_frame f e = e ∙ sym (ap (λ (y : Own). y.0) k.note)

  pub not_own : (f : ℕ) → f ≢ number_of_seat s → f ≢ (note_of s).note.0
  not_own f ne e = ne (e ∙ ap (λ (y : Own). y.0) k.note)

  pub few : number_of_seat s < 2
  few = let r = k.session.range in let n = k.seats in omega arith

  frames_of : (note_of s).shape.frames ≡ 2
  frames_of = ap (λ z. z.frames) k.session.shape ∙ k.frames

  pub seats_of : (note_of s).shape.seats ≡ 2
  seats_of = ap (λ z. z.seats) k.session.shape ∙ k.seats

  pub behind : (w : ℕ) → 2 ≤ own_word (knows s) w
  behind w = let e = frames_of in omega arith

  far : (j w : ℕ) → word_of_session (knows s) j w ≢ (note_of s).note.0
  far j w e = let a = frames_of in let b = few in let c : (note_of s).note.0 ≡ number_of_seat s = ap (λ (y : Own). y.0) k.note in omega arith

  pub far_own : (w : ℕ) → own_word (knows s) w ≢ (note_of s).note.0
  far_own w e = far (note_of s).seat w e

  pub in_locks : (f : ℕ) → f ≡ number_of_seat s → f < length (note_of s).locks
  in_locks f e = let a = k.session.locks in let b = few in let c = k.frames in omega arith

  module _ (u : Seat A ℕ ℕ (Hazards Own)) (session : IsSession t u) (same : SamePieces s u) where
    pub after : (w : ℕ) → (note_of u).note ≡ (number_of_seat s, w) → IsKeeper t u w
    after w e = record {
      session = session;
      idle = same.0 ∙ k.idle;
      note = e ∙ (λ i. (sym same.2.0 i, w));
      frames = k.frames;
      seats = k.seats;
    }

    -- a step on the own word
    pub after_own : (f m n : ℕ) (h : Own) (b : Hazards Own) → f ≡ number_of_seat s → T2 (inner (knows s)) f m n h → note_of u ≡ b → b.note ≡ h → IsKeeper t u n
    after_own f m n h b e turned is mine = after n (ap (λ (z : Hazards Own). z.note) is ∙ (mine ∙ (own_after 2 (inner (knows s)) f m n h (own_frame f e) turned ∙ (λ i. (e i, n)))))

    -- a step on another
    pub after_other : (i m n : ℕ) (h : Own) (b : Hazards Own) → i ≢ (note_of s).note.0 → T2 (inner (knows s)) i m n h → note_of u ≡ b → b.note ≡ h → IsKeeper t u word
    after_other i m n h b ne turned is mine = after word (ap (λ (z : Hazards Own). z.note) is ∙ (mine ∙ (other_after 2 (inner (knows s)) i m n h ne turned ∙ k.note)))

    locks_here : (f g c : ℕ) (h : Own) → f ≡ number_of_seat s → note_of u ≡ with_lock (note_of s) h f (Locks g c) → HasOwnLocked u g c
    locks_here f g c h e is = (
      subst (λ (j : ℕ). HasLock (note_of u) j (Locks g c)) (e ∙ sym same.2.0)
          (subst (λ (z : Hazards Own). HasLock z f (Locks g c)) (sym is) (here (note_of s).locks f (Locks g c) (in_locks f e))),
      ap (λ (z : Hazards Own). z.last_frame) is ∙ (e ∙ sym same.2.0),
    )

    pub locked_keeper : (f g : ℕ) → f ≡ number_of_seat s → LocksFrame T2 (knows s) (note_of u) f g Locked → IsKeeper t u (locked g)
    locked_keeper f g e (h, turned, is) = after_own f (filled g) (locked g) h _ e turned is refl

    pub locked_has : (f g : ℕ) → f ≡ number_of_seat s → LocksFrame T2 (knows s) (note_of u) f g Locked → HasOwnLocked u g 0
    locked_has f g e (h, turned, is) = locks_here f g 0 h e is

    pub not_locked_keeper : (f g seen : ℕ) → f ≡ number_of_seat s → LocksFrame T2 (knows s) (note_of u) f g (NotLocked seen) → IsKeeper t u seen
    not_locked_keeper f g seen e (ne, (h, turned, is)) = after_own f seen seen h _ e turned is refl

    pub opened_keeper : (f m n : ℕ) → f ≡ number_of_seat s → Opens T2 (knows s) (note_of u) f m n → IsKeeper t u n
    opened_keeper f m n e (h, turned, is) = after_own f m n h _ e turned is refl

    pub clear_keeper : (j w f g c : ℕ) → Scans T2 (knows s) (note_of u) j w f g c Clear → IsKeeper t u word
    clear_keeper j w f g c (m, d, ne, count, (h, turned, is)) = after_other (word_of_session (knows s) j w) m m h _ (far j w) turned is refl

    pub clear_has : (j w f g c : ℕ) → f ≡ number_of_seat s → c ≡ hazard_place j w → Scans T2 (knows s) (note_of u) j w f g c Clear → HasOwnLocked u g (c + 1)
    clear_has j w f g c e at (m, d, ne, inl (place, more), (h, turned, is)) =
        let n : d ≡ c + 1 = omega arith in subst (λ (x : ℕ). HasOwnLocked u g x) n (locks_here f g d h e is)
    clear_has j w f g c e at (m, d, ne, inr (place, more), rest) = absurd (place (sym at))

    pub clear_locked : (j w f g c : ℕ) → f ≡ number_of_seat s → Scans T2 (knows s) (note_of u) j w f g c Clear → IsLocked u g
    clear_locked j w f g c e (m, d, ne, count, (h, turned, is)) = (d, locks_here f g d h e is)

    pub published_keeper : (w f : ℕ) → Publishes T2 (knows s) (note_of u) w f → IsKeeper t u word
    published_keeper w f (m, (h, turned, is)) = after_other (own_word (knows s) w) m (naming f) h _ (far_own w) turned is refl

    pub validated_keeper : (w f g : ℕ) (r : Pinning) → f ≢ number_of_seat s → Validates T2 (knows s) (note_of u) w f g r → IsKeeper t u word
    validated_keeper w f g Pinned ne (h, turned, is) = after_other f (filled g) (filled g) h _ (not_own f ne) turned is refl
    validated_keeper w f g (Again seen) ne (no_pin, inl (h, turned, is)) = after_other f seen seen h _ (not_own f ne) turned is refl
    validated_keeper w f g (Again seen) ne (no_pin, inr (e, at, (h, turned, is))) = after_other f seen seen h _ (not_own f ne) turned is refl

    pub locks_own : (f g : ℕ) (r : Locking) → f ≡ number_of_seat s → LocksFrame T2 (knows s) (note_of u) f g r → LocksOwn t u g r
    locks_own f g Locked e p = (locked_keeper f g e p, locked_has f g e p)
    locks_own f g (NotLocked seen) e p = not_locked_keeper f g seen e p

    pub named_keeper : (j w f g c x : ℕ) → Scans T2 (knows s) (note_of u) j w f g c (Named x) → IsKeeper t u word
    named_keeper j w f g c x (is_j, (h, turned, is)) = after_other (word_of_session (knows s) j w) (naming f) (naming f) h _ (far j w) turned is refl

    pub named_has : (j w f g c x : ℕ) → HasOwnLocked s g c → Scans T2 (knows s) (note_of u) j w f g c (Named x) → HasOwnLocked u g c
    named_has j w f g c x l (is_j, (h, turned, is)) = (
      subst (λ (i : ℕ). HasLock (note_of u) i (Locks g c)) (sym same.2.0) (subst (λ (z : Hazards Own). HasLock z (number_of_seat s) (Locks g c)) (sym is) l.0),
      ap (λ (z : Hazards Own). z.last_frame) is ∙ (l.1 ∙ sym same.2.0),
    )

    pub unpinned_keeper : (w : ℕ) → Unpins T2 (knows s) (note_of u) w → IsKeeper t u word
    unpinned_keeper w (m, (h, turned, is)) = after_other (own_word (knows s) w) m 0 h _ (far_own w) turned is refl

    named_note : (w m n : ℕ) (h : Own) → T2 (inner (knows s)) (own_word (knows s) w) m n h → h ≡ (note_of s).note
    named_note w m n h turned = other_after 2 (inner (knows s)) (own_word (knows s) w) m n h (far_own w) turned

    read_note : (f m n : ℕ) (h l : Own) → f ≢ number_of_seat s → h ≡ (note_of s).note → T2 (noted h (knows s).held) f m n l → l ≡ (note_of s).note
    read_note f m n h l ne e turned = other_after 2 (noted h (knows s).held) f m n l (λ z. not_own f ne (z ∙ ap (λ (y : Own). y.0) e)) turned ∙ e

    pub pinned_keeper : (w f g : ℕ) → f ≢ number_of_seat s → PinsFrame T2 (knows s) (note_of u) w f g Pinned → IsKeeper t u word
    pinned_keeper w f g ne (m, h, l, named, read, is) =
        after word (ap (λ (z : Hazards Own). z.note) is ∙ (read_note f (filled g) (filled g) h l ne (named_note w m (naming f) h named) read ∙ k.note))

    pub not_pinned_keeper : (w f g seen : ℕ) → f ≢ number_of_seat s → PinsFrame T2 (knows s) (note_of u) w f g (Again seen) → IsKeeper t u word
    not_pinned_keeper w f g seen ne (no_pin, (m, p, h, l, e, named, read, blank, is)) =
        let l_is = read_note f seen seen h l ne (named_note w m (naming f) h named) read in
        after word (ap (λ (z : Hazards Own). z.note) is
        ∙ (other_after 2 (noted l (knows s).held) (own_word (knows s) w) p 0 e (λ z. far_own w (z ∙ ap (λ (y : Own). y.0) l_is)) blank ∙ (l_is ∙ k.note)))

    pub pin_keeper : (w f g : ℕ) (r : Pinning) → f ≢ number_of_seat s → PinsFrame T2 (knows s) (note_of u) w f g r → IsKeeper t u word
    pin_keeper w f g Pinned ne p = pinned_keeper w f g ne p
    pin_keeper w f g (Again seen) ne p = not_pinned_keeper w f g seen ne p

    pub scan_keeper : (j w f g c : ℕ) (r : Scanning) → f ≡ number_of_seat s → HasOwnLocked s g c → Scans T2 (knows s) (note_of u) j w f g c r → IsKeeper t u word × IsLocked u g
    scan_keeper j w f g c Clear e l p = (clear_keeper j w f g c p, clear_locked j w f g c e p)
    scan_keeper j w f g c (Named x) e l p = (named_keeper j w f g c x p, (c, named_has j w f g c x l p))

  pub may_pin : (w f : ℕ) → MayPin F2 T2 (inner (knows s)) (own_word (knows s) w) f
  may_pin w f = record {
    publish = may_write 2 (inner (knows s)) (own_word (knows s) w) (λ r. naming f) (behind w);
    validate = λ m h turned. may_read 2 (noted h (knows s).held) f;
    clear = λ m r h l turned read. may_write 2 (noted l (knows s).held) (own_word (knows s) w) (λ r. 0) (behind w);
  }

  -- a seat with the same note, number and pieces is one still
  pub same_keeper : (u : Seat A ℕ ℕ (Hazards Own)) → IsSeatOf t u → taken u ≡ [] → SameSeat s u → note_of u ≡ note_of s → IsKeeper t u word
  same_keeper u seat idle number e =
      let i = k.session in record {
        session = record {
          seat = seat;
          numbered = number.1 ∙ (i.numbered ∙ sym number.0);
          own = ap (λ (z : Hazards Own). z.seat) e ∙ (i.own ∙ sym number.0);
          shape = ap (λ (z : Hazards Own). z.shape) e ∙ i.shape;
          range = (let r = i.range in let n = number.0 in omega arith);
          marks = ap (λ (z : Hazards Own). length z.marks) e ∙ i.marks;
          locks = ap (λ (z : Hazards Own). length z.locks) e ∙ i.locks;
        };
        idle = idle;
        note = ap (λ (z : Hazards Own). z.note) e ∙ (k.note ∙ (λ j. (sym number.0 j, word)));
        frames = k.frames;
        seats = k.seats;
      }

pub same_seat : {L H F N : Type 0} (a b c : Seat L H F N) → SameSeat a b → SameSeat b c → SameSeat a c
same_seat a b c p q = (q.0 ∙ p.0, q.1 ∙ p.1)

-- what a seat's note is after a latch and after a put that tell nothing
pub told_same : (v : Noted (Hazards Own)) (h : Hazards Own) → h.note ≡ v.note.note → h ≡ with_note v.note h.note → h ≡ v.note
told_same v h e d = d ∙ ap (λ (n : Own). with_note v.note n) e
