-- What an eviction and a capture leave of a key that stands.
use Rattle.std.proofs.Common.{◌≡◌, ◌⊎◌, ℕ, refl, ap, sym, ◌∙◌, Bool, true, List, [], ◌∷◌, ◌++◌, inl, inr, subst, map}
use Rattle.std.specs.Prelude.{Option, Some, None}
use Rattle.std.specs.Option.{option_to_list}
use Rattle.item.specs.declared.Change.{Change}
use Rattle.stamp.specs.declared.Name.{Name}
use Rattle.stamp.specs.declared.Version.{Version}
use Rattle.kv_model.specs.Holds.{Member, Descends, Stores}
use Rattle.kv_model.specs.Ordered.{Older}
use Rattle.kv_model.specs.History.{line, committed, is_by}
use Rattle.kv_model.specs.Machine.{Machine, Phase, Running, Failed, Prepared, Resolving, Leaving, name_of}
use Rattle.kv_model.specs.Captures.{UpTo, Either, In, Layered, Reconciled, ReconciledLists, Captured, is_in}
use Rattle.kv_model.specs.Droppable.{covers}
use Rattle.kv_model.specs.Pending.{Update, settled, HasEnded, BelowStands, TopStands, InFrame, KeyStands}
use Rattle.kv_model.specs.Reconciling.{held_in, each_one}
use Rattle.kv_model.specs.ReconcileLaws.{EvictionStands, CaptureStands, CaptureIsHeld, FramesAlike}
use Rattle.kv_model.specs.StoreLaws.{Held}
use Rattle.kv_model.proofs.Newest.{find-member}
use Rattle.kv_model.proofs.Living.{stores-moves}
use Rattle.kv_model.proofs.StoreLists.{eviction-keeps, older-trans}
use Rattle.kv_model.proofs.ReconciledLists.{reconciled-lists}
use Rattle.kv_model.proofs.Capturing.{captured-from, captured-commit, reconciled-settled}
use Rattle.kv_model.proofs.Ordering.{line-descends}
use Rattle.kv_model.proofs.Releases.{false-from}
use Rattle.kv_model.proofs.Finishing.{member-append, covers-checkpoint, older-order}

-- ---- a frame as a list

member-left : {A : Type 0} (x : A) (l rest : List A) → Member x l → Member x (l ++ rest)
member-left x [] rest there = absurd there
member-left x (y ∷ ys) rest (inl same) = inl same
member-left x (y ∷ ys) rest (inr later) = inr (member-left x ys rest later)

member-right : {A : Type 0} (x : A) (l rest : List A) → Member x rest → Member x (l ++ rest)
member-right x [] rest there = there
member-right x (y ∷ ys) rest there = inr (member-right x ys rest there)

pub cell-member : (cell : Option (Version Change)) (v : Version Change) → cell ≡ Some v → Member v (option_to_list cell)
cell-member None v is = absurd (cc)
cell-member (Some w) v is = inl (let same : w ≡ v = cc in sym same)

pub member-cell : (cell : Option (Version Change)) (v : Version Change) → Member v (option_to_list cell) → cell ≡ Some v
member-cell None v there = absurd there
member-cell (Some w) v (inl same) = ap Some (sym same)
member-cell (Some w) v (inr none) = absurd none

pub frame-list : (held : List (Version Change)) (cell : Option (Version Change)) (v : Version Change) → InFrame held cell v → Member v (held ++ option_to_list cell)
frame-list held cell v (inl there) = member-left v held (option_to_list cell) there
frame-list held cell v (inr is) = member-right v held (option_to_list cell) (cell-member cell v is)

pub list-frame : (held : List (Version Change)) (cell : Option (Version Change)) (v : Version Change) → Member v (held ++ option_to_list cell) → InFrame held cell v
list-frame held cell v there = elim (member-append v held (option_to_list cell) there) [ inl at ↦ inl at | inr at ↦ inr (member-cell cell v at) ]

-- stores of the same versions
pub stores-alike : {A : Type 0} (Below : A → A → Type 0) (covers : A → Bool) (l : List A) (Frame History Frame' History' : A → Type 0)
    → ((x : A) → Frame x → Frame' x) → ((x : A) → Frame' x → Frame x) → ((x : A) → History x → History' x) → ((x : A) → History' x → History x)
    → Stores Below covers l Frame History → Stores Below covers l Frame' History'
stores-alike Below covers l Frame History Frame' History' one two three four s = record {
  kept = record {
    within = λ x held. elim held [ inl f ↦ s.kept.within x (inl (two x f)) | inr h ↦ s.kept.within x (inr (four x h)) ];
    all = λ x there. elim (s.kept.all x there) [ inl held ↦ elim held [ inl f ↦ inl (inl (one x f)) | inr h ↦ inl (inr (three x h)) ] | inr c ↦ inr c ];
  };
  upper = λ x y f there below. elim (s.upper x y (two x f) there below) [ inl held ↦ inl (one y held) | inr c ↦ inr c ];
}

-- one history, with versions beside it or in one list
pub joined-into : (moved records : List (Version Change)) (v : Version Change) → Either (Held records) (Held moved) v → Member v (moved ++ records)
joined-into moved records v (inl old) = member-right v moved records old
joined-into moved records v (inr new) = member-left v moved records new

pub joined-out : (moved records : List (Version Change)) (v : Version Change) → Member v (moved ++ records) → Either (Held records) (Held moved) v
joined-out moved records v there = elim (member-append v moved records there) [ inl new ↦ inr new | inr old ↦ inl old ]

-- a key whose history is said in another way
pub histories-alike : (m : Machine) (table : ℕ) (key : List ℕ) (chain : List Update) (cell : Option (Version Change)) (History Other : Version Change → Type 0)
    → ((v : Version Change) → History v → Other v) → ((v : Version Change) → Other v → History v) → KeyStands m table key chain cell History → KeyStands m table key chain cell Other
histories-alike m table key chain cell History Other into out k = record {
  top = k.top;
  held = k.held;
  below = k.below;
  chained = k.chained;
  ordered = k.ordered;
  topped = k.topped;
  stores = stores-alike Older (covers m) k.below (InFrame k.held cell) History (InFrame k.held cell) Other (λ v f. f) (λ v f. f) into out k.stores;
  layered = λ v h. k.layered v (out v h);
}

pub captured-alike : (seen low : Version Change → Bool) (l : List (Version Change)) (cell : Option (Version Change)) (History Other : Version Change → Type 0)
    → ((v : Version Change) → History v → Other v) → ((v : Version Change) → Other v → History v) → Captured Older seen low l cell History → Captured Older seen low l cell Other
captured-alike seen low l cell History Other into out k = record {
  cell_there = k.cell_there;
  within = λ v h. k.within v (out v h);
  all = λ v there sees. elim (k.all v there sees) [ inl held ↦ inl (elim held [ inl is ↦ inl is | inr h ↦ inr (into v h) ]) | inr covered ↦ inr covered ];
  top = k.top;
}

-- ---- a chain without an update on top

pub settled-versions : (held : List (Version Change)) → map {A = Update} (λ u. u.version) (map settled held) ≡ held
settled-versions [] = refl
settled-versions (v ∷ held) = ap (λ l. v ∷ l) (settled-versions held)

-- an update of an ended transaction is not on top
pub no-top : (m : Machine) (table : ℕ) (key : List ℕ) (chain top : List Update) (held below : List (Version Change)) → chain ≡ top ++ map settled held → TopStands m table key top below
    → ((u : Update) → Member u chain → HasEnded m u.version.window.name) → top ≡ []
no-top m table key chain [] held below is stands ended = refl
no-top m table key chain (u ∷ []) held below is stands ended = absurd (ended u (subst (λ l. Member u l) (sym is) (inl refl)) stands.session stands.transaction stands.there stands.name)
no-top m table key chain (u ∷ (v ∷ rest)) held below is stands ended = absurd stands

versions-there : (chain : List Update) (u : Update) → Member u chain → Member u.version (map {A = Update} (λ u. u.version) chain)
versions-there [] u there = absurd there
versions-there (w ∷ chain) u (inl same) = inl (ap (λ (x : Update). x.version) same)
versions-there (w ∷ chain) u (inr later) = inr (versions-there chain u later)

pub chain-held : (chain : List Update) (cell : Option (Version Change)) (u : Update) → Member u chain → Member u.version (held_in chain cell)
chain-held chain cell u there = member-left u.version (map {A = Update} (λ u. u.version) chain) (option_to_list cell) (versions-there chain u there)

pub plain-held : (chain top : List Update) (held : List (Version Change)) (cell : Option (Version Change)) → chain ≡ top ++ map settled held → top ≡ [] → held_in chain cell ≡ held ++ option_to_list cell
plain-held chain top held cell is none =
    ap (λ l. map {A = Update} (λ u. u.version) l ++ option_to_list cell) (is ∙ ap (λ t. t ++ map settled held) none)
    ∙ ap (λ l. l ++ option_to_list cell) (settled-versions held)

-- a cell alone descends
pub one-descends : (cell : Option (Version Change)) → Descends Older (option_to_list cell)
one-descends None = tt
one-descends (Some v) = ((λ y there. absurd there), tt)

-- a leaf in no frame: the cell alone
pub resting-key : (m : Machine) (table : ℕ) (key : List ℕ) (cell : Option (Version Change)) (History : Version Change → Type 0)
    → TopStands m table key [] (line m.history table key) → Stores Older (covers m) (line m.history table key) (In cell) History
    → ((v : Version Change) → History v → (w : Version Change) × In cell w × HasEnded m w.window.name × UpTo Older v w)
    → KeyStands m table key [] cell History
resting-key m table key cell History topped stores layered = record {
  top = [];
  held = [];
  below = line m.history table key;
  chained = refl;
  ordered = one-descends cell;
  topped = topped;
  stores = stores-alike Older (covers m) (line m.history table key) (In cell) History (InFrame [] cell) History (λ x is. inr is) (λ x f. elim f [ inl none ↦ absurd none | inr is ↦ is ]) (λ x h. h) (λ x h. h) stores;
  layered = λ v h. let w = layered v h in (w.0, inr w.1, w.2, w.3);
}

-- it does not matter whether the frame holds a version in the chain or as the cell
pub frames-alike : FramesAlike
frames-alike m table key held later_held cell later_cell records ended same k = record {
  top = [];
  held = later_held;
  below = k.below;
  chained = refl;
  ordered = subst (Descends Older) (sym list) k.ordered;
  topped = subst (λ t. TopStands m table key t k.below) none k.topped;
  stores = stores-alike Older (covers m) k.below (InFrame k.held cell) (Held records) (InFrame later_held later_cell) (Held records) into out (λ x h. h) (λ x h. h) k.stores;
  layered = λ v h. let w = k.layered v h in (w.0, into w.0 w.1, w.2, w.3);
} where
  none : k.top ≡ []
  none = no-top m table key (map settled held) k.top k.held k.below k.chained k.topped
      (λ u there. ended u.version (member-left u.version held (option_to_list cell) (subst (λ l. Member u.version l) (settled-versions held) (versions-there (map settled held) u there))) refl)

  list : later_held ++ option_to_list later_cell ≡ k.held ++ option_to_list cell
  list = same ∙ (ap (λ l. l ++ option_to_list cell) (sym (settled-versions held)) ∙ plain-held (map settled held) k.top k.held cell k.chained none)

  into : (v : Version Change) → InFrame k.held cell v → InFrame later_held later_cell v
  into v f = list-frame later_held later_cell v (subst (λ l. Member v l) (sym list) (frame-list k.held cell v f))

  out : (v : Version Change) → InFrame later_held later_cell v → InFrame k.held cell v
  out v f = list-frame k.held cell v (subst (λ l. Member v l) list (frame-list later_held later_cell v f))

-- ---- an eviction

pub eviction-stands : EvictionStands
eviction-stands m table key past chain cell image records moved low ended r k = histories-alike m table key [] image (Either (Held records) (Held moved)) (Held (moved ++ records)) (joined-into moved records) (joined-out moved records) (resting-key m table key image (Either (Held records) (Held moved)) (subst (λ l. TopStands m table key [] l) line-is topped)
    (subst (λ l. Stores Older (covers m) l (In image) (Either (Held records) (Held moved))) line-is after.0)
    (λ v h. let w = after.1 v h in (w.0, w.1, ended w.0 (subst (λ l. Member w.0 l) (sym same) (picked w.0 w.1)) refl, w.3))) where
      none : k.top ≡ []
      none = no-top m table key chain k.top k.held k.below k.chained k.topped (λ u there. ended u.version (member-left u.version (map {A = Update} (λ u. u.version) chain) (option_to_list cell) (versions-there chain u there)) refl)

      topped : TopStands m table key [] k.below
      topped = subst (λ t. TopStands m table key t k.below) none k.topped

      line-is : k.below ≡ line m.history table key
      line-is = sym topped.0

      same : held_in chain cell ≡ k.held ++ option_to_list cell
      same = plain-held chain k.top k.held cell k.chained none

      reconciled : ReconciledLists Older each_one past (k.held ++ option_to_list cell) image moved
      reconciled = subst (λ l. ReconciledLists Older each_one past l image moved) same r

      picked : (w : Version Change) → In image w → Member w (k.held ++ option_to_list cell)
      picked w is = (find-member each_one (k.held ++ option_to_list cell) w (sym reconciled.cell_is ∙ is)).0

      after : Stores Older (covers m) k.below (In image) (Either (Held records) (Held moved)) × Layered Older each_one (In image) (Either (Held records) (Held moved))
      after = eviction-keeps (covers m) each_one past k.below (k.held ++ option_to_list cell) records moved image k.ordered
          (stores-alike Older (covers m) k.below (InFrame k.held cell) (Held records) (Held (k.held ++ option_to_list cell)) (Held records) (frame-list k.held cell) (list-frame k.held cell) (λ x h. h) (λ x h. h) k.stores)
          (λ x h. let w = k.layered x h in (w.0, frame-list k.held cell w.0 w.1, refl, w.3))
          (λ v there. refl)
          (λ v there is. low v (subst (λ l. Member v l) line-is there) is)
          reconciled

-- ---- a capture

-- what the frame holds of an ended transaction lies below the top
pub below-top : (m : Machine) (table : ℕ) (key : List ℕ) (chain top : List Update) (held below : List (Version Change)) (cell : Option (Version Change)) → chain ≡ top ++ map settled held → TopStands m table key top below
    → (v : Version Change) → Member v (held_in chain cell) → HasEnded m v.window.name → InFrame held cell v
below-top m table key chain top held below cell is stands v there ended = elim (member-append v (map {A = Update} (λ u. u.version) chain) (option_to_list cell) there) [
  | inl at ↦ by-top top stands (subst (λ l. Member v (map {A = Update} (λ u. u.version) l)) is at)
  | inr at ↦ inr (member-cell cell v at)
] where
  by-top : (top : List Update) → TopStands m table key top below → Member v (map {A = Update} (λ u. u.version) (top ++ map settled held)) → InFrame held cell v
  by-top [] stands at = inl (subst (λ l. Member v l) (settled-versions held) at)
  by-top (u ∷ []) stands (inl same) = absurd (ended stands.session stands.transaction stands.there (ap (λ (x : Version Change). x.window.name) same ∙ stands.name))
  by-top (u ∷ []) stands (inr later) = inl (subst (λ l. Member v l) (settled-versions held) later)
  by-top (u ∷ (w ∷ rest)) stands at = absurd stands

pub capture-stands : CaptureStands
capture-stands m table key live past chain cell image records moved ended r k = histories-alike m table key chain cell (Either (Held records) (Held moved)) (Held (moved ++ records)) (joined-into moved records) (joined-out moved records) (record {
  top = k.top;
  held = k.held;
  below = k.below;
  chained = k.chained;
  ordered = k.ordered;
  topped = k.topped;
  stores = stores-moves Older (covers m) k.below (InFrame k.held cell) (Held records) (InFrame k.held cell) (Either (Held records) (Held moved)) k.stores (λ x f. f)
      (λ x h. elim h [ inl old ↦ k.stores.kept.within x (inr old) | inr new ↦ k.stores.kept.within x (inl (there x new)) ])
      (λ x held. elim held [ inl f ↦ inl (inl f) | inr h ↦ inl (inr (inl h)) ])
      (λ x y f g below. inl g);
  layered = λ v h. elim h [ inl old ↦ k.layered v old | inr new ↦ (v, there v new, done v new, inl refl) ];
}) where
  done : (v : Version Change) → Member v moved → HasEnded m v.window.name
  done v new = ended v (r.from v new).0 (r.from v new).1

  there : (v : Version Change) → Member v moved → InFrame k.held cell v
  there v new = below-top m table key chain k.top k.held k.below cell k.chained k.topped v (r.from v new).0 (done v new)

-- what stands is what lies below the top, or one version of its name more
pub line-below : (p : Phase) (name : Name) (u : Update) (stands below : List (Version Change)) → BelowStands p name u stands below
    → (stands ≡ below) ⊎ ((v : Version Change) × (v.window.name ≡ name) × (stands ≡ v ∷ below))
line-below Running name u stands below rest = inl rest
line-below Failed name u stands below rest = inl rest
line-below Leaving name u stands below rest = inl rest
line-below (Prepared stamp) name u stands below rest = inl rest
line-below Resolving name u stands below (inl same) = inl same.0
line-below Resolving name u stands below (inr one) = inr (one.0, one.1.0, one.2)

-- what stands is what lies below, or one version more, of a transaction that has not ended
pub line-top : (m : Machine) (table : ℕ) (key : List ℕ) (top : List Update) (below : List (Version Change)) → TopStands m table key top below
    → (line m.history table key ≡ below) ⊎ ((v : Version Change) × (HasEnded m v.window.name → ⊥) × (line m.history table key ≡ v ∷ below))
line-top m table key [] below stands = inl stands.0
line-top m table key (u ∷ []) below stands = elim (line-below stands.transaction.phase (name_of m stands.transaction) u (line m.history table key) below stands.rest) [
  | inl same ↦ inl same
  | inr one ↦ inr (one.0, (λ ended. ended stands.session stands.transaction stands.there one.1), one.2)
]
line-top m table key (u ∷ (w ∷ rest)) below stands = absurd stands

-- the frame's list descends, the top with it
pub held-descends : (m : Machine) (table : ℕ) (key : List ℕ) (chain top : List Update) (held below : List (Version Change)) (cell : Option (Version Change)) → chain ≡ top ++ map settled held → TopStands m table key top below
    → Descends Older (held ++ option_to_list cell) → ((v : Version Change) → InFrame held cell v → Member v below) → Descends Older (held_in chain cell)
held-descends m table key chain [] held below cell is stands d there = subst (Descends Older) (sym (plain-held chain [] held cell is refl)) d
held-descends m table key chain (u ∷ []) held below cell is stands d there =
    subst (λ l. Descends Older (map {A = Update} (λ u. u.version) l ++ option_to_list cell)) (sym is)
    (subst (λ l. Descends Older (u.version ∷ (l ++ option_to_list cell))) (sym (settled-versions held))
    ((λ y at. stands.above y (there y (list-frame held cell y at))), d))
held-descends m table key chain (u ∷ (w ∷ rest)) held below cell is stands d there = absurd stands

pub capture-is-held : CaptureIsHeld
capture-is-held m c table key live past chain cell image records moved valid runs shows ended living under low r k =
    captured-alike (is_in m.history c.prefix) (is_by c.oldest) (line m.history table key) image (Either (Held records) (Held moved)) (Held (moved ++ records)) (joined-into moved records) (joined-out moved records) (by-line (line-top m table key k.top k.below k.topped)) where
      seen : Version Change → Bool
      seen v = committed m.history c.prefix v.window.name

      oldest : Version Change → Bool
      oldest v = is_by c.oldest v

      Frame : Version Change → Type 0
      Frame v = InFrame k.held cell v

      settles : (v : Version Change) → Member v (held_in chain cell) → live v ≡ true → Frame v
      settles v at is = below-top m table key chain k.top k.held k.below cell k.chained k.topped v at (ended v at is)

      chains : (v : Version Change) → Frame v → Member v (held_in chain cell)
      chains v f = subst (λ l. Member v (map {A = Update} (λ u. u.version) l ++ option_to_list cell)) (sym k.chained) (in-top k.top (frame-list k.held cell v f)) where
        in-top : (top : List Update) → Member v (k.held ++ option_to_list cell) → Member v (map {A = Update} (λ u. u.version) (top ++ map settled k.held) ++ option_to_list cell)
        in-top [] at = subst (λ l. Member v (l ++ option_to_list cell)) (sym (settled-versions k.held)) at
        in-top (u ∷ rest) at = inr (in-top rest at)

      reconciled : Reconciled Older live past Frame image (Held moved)
      reconciled = reconciled-settled Older live past (Held (held_in chain cell)) Frame image (Held moved) chains settles
          (reconciled-lists Older live past (held_in chain cell) moved image
          (held-descends m table key chain k.top k.held k.below cell k.chained k.topped k.ordered (λ v f. k.stores.kept.within v (inl f))) r)

      into : (v : Version Change) → Member v k.below → Member v (line m.history table key)
      into v at = elim (line-top m table key k.top k.below k.topped) [ inl same ↦ subst (λ l. Member v l) (sym same) at | inr one ↦ subst (λ l. Member v l) (sym one.2) (inr at) ]

      descends : Descends Older k.below
      descends = let d = line-descends m.history valid.orderly table key in
          elim (line-top m table key k.top k.below k.topped) [ inl same ↦ subst (Descends Older) same d | inr one ↦ (subst (Descends Older) one.2 d).1 ]

      held : Captured Older seen oldest k.below image (Either (Held records) (Held moved))
      held = captured-from Older (covers m) live live past seen oldest k.below Frame (Held records) image (Held moved) older-order older-trans descends k.stores
          (λ v h. let w = under v h in (w.0, settles w.0 w.1 w.2, w.2, w.3))
          (λ v is. is)
          (λ v at sees. shows v (into v at) sees)
          (λ v is. covers-checkpoint m c v runs is)
          (λ v at is. low v (into v at) is)
          reconciled

      by-line : (line m.history table key ≡ k.below) ⊎ ((v : Version Change) × (HasEnded m v.window.name → ⊥) × (line m.history table key ≡ v ∷ k.below))
          → Captured Older seen oldest (line m.history table key) image (Either (Held records) (Held moved))
      by-line (inl same) = subst (λ l. Captured Older seen oldest l image (Either (Held records) (Held moved))) (sym same) held
      by-line (inr one) = subst (λ l. Captured Older seen oldest l image (Either (Held records) (Held moved))) (sym one.2)
          (captured-commit Older seen oldest k.below image (Either (Held records) (Held moved)) one.0
          (false-from (seen one.0) (λ sees. let at : Member one.0 (line m.history table key) = subst (λ l. Member one.0 l) (sym one.2) (inl refl) in one.1 (living one.0 at (shows one.0 at sees)))) held)
