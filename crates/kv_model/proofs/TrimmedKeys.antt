-- A chain that loses what a newer update of it covers.
use Rattle.std.proofs.Common.{◌≡◌, ◌⊎◌, refl, ap, sym, ◌∙◌, Bool, true, List, [], ◌∷◌, ◌++◌, inl, inr, subst, map}
use Rattle.std.specs.Prelude.{filter}
use Rattle.std.specs.Option.{option_to_list}
use Rattle.std.proofs.lemmas.Bool.{cases_Bool}
use Rattle.std.proofs.lemmas.List.Elements.{filter-append}
use Rattle.item.specs.declared.Change.{Change}
use Rattle.stamp.specs.declared.Version.{Version}
use Rattle.kv_model.specs.Holds.{Member, Descends, Covered}
use Rattle.kv_model.specs.Ordered.{Older}
use Rattle.kv_model.specs.History.{line}
use Rattle.kv_model.specs.Droppable.{covers}
use Rattle.kv_model.specs.Captures.{UpTo}
use Rattle.kv_model.specs.Pending.{Update, settled, HasEnded, TopStands, InFrame}
use Rattle.kv_model.specs.Reconciling.{held_in}
use Rattle.kv_model.specs.StoreLaws.{Held}
use Rattle.kv_model.specs.SweepLaws.{TrimsStand, TrimsLieUnder}
use Rattle.kv_model.proofs.Capturing.{member-out, member-into}
use Rattle.kv_model.proofs.Finishing.{member-append, covers-checkpoint, older-order}
use Rattle.kv_model.proofs.Living.{stores-moves}
use Rattle.kv_model.proofs.StoreLists.{older-trans}
use Rattle.kv_model.proofs.ReconciledKeys.{chain-held, below-top, line-top}

filter-settled : (keep : Update → Bool) (held : List (Version Change)) → filter keep (map settled held) ≡ map settled (filter (λ v. keep (settled v)) held)
filter-settled keep [] = refl
filter-settled keep (v ∷ held) = elim (cases_Bool (keep (settled v))) [
  | inl is ↦ rw is (ap (λ l. settled v ∷ l) (filter-settled keep held))
  | inr isnt ↦ rw isnt (filter-settled keep held)
]

descends-part : (keep : Version Change → Bool) (held rest : List (Version Change)) → Descends Older (held ++ rest) → Descends Older (filter keep held ++ rest)
descends-part keep [] rest d = d
descends-part keep (v ∷ held) rest d = elim (cases_Bool (keep v)) [
  | inl is ↦ rw is ((λ y at. d.0 y (wider held y at)), descends-part keep held rest d.1)
  | inr isnt ↦ rw isnt (descends-part keep held rest d.1)
] where
  wider : (held : List (Version Change)) (y : Version Change) → Member y (filter keep held ++ rest) → Member y (held ++ rest)
  wider [] y at = at
  wider (w ∷ held) y at = elim (cases_Bool (keep w)) [
    | inl is ↦ elim (rw is at at) [ inl same ↦ inl same | inr later ↦ inr (wider held y later) ]
    | inr isnt ↦ inr (wider held y (rw isnt at at))
  ]

settled-from : (held : List (Version Change)) (u : Update) → Member u (map settled held) → Member u.version held × (u ≡ settled u.version)
settled-from [] u at = absurd at
settled-from (v ∷ held) u (inl same) = (inl (ap (λ (x : Update). x.version) same), same ∙ ap (λ (x : Update). settled x.version) (sym same))
settled-from (v ∷ held) u (inr later) = let o = settled-from held u later in (inr o.0, o.1)

settled-into : (held : List (Version Change)) (v : Version Change) → Member v held → Member (settled v) (map settled held)
settled-into [] v at = absurd at
settled-into (w ∷ held) v (inl same) = inl (ap settled same)
settled-into (w ∷ held) v (inr later) = inr (settled-into held v later)

right : (top rest : List Update) (u : Update) → Member u rest → Member u (top ++ rest)
right [] rest u at = at
right (w ∷ top) rest u at = inr (right top rest u at)

pub trims-stand : TrimsStand
trims-stand m table key past chain later cell records low ended t k = record {
  top = k.top;
  held = kept;
  below = k.below;
  chained = t.is_filter ∙ (ap (filter t.keep) k.chained ∙ (filter-append t.keep k.top (map settled k.held)
      ∙ (ap (λ l. l ++ filter t.keep (map settled k.held)) (whole k.top k.chained k.topped) ∙ ap (λ l. k.top ++ l) (filter-settled t.keep k.held))));
  ordered = descends-part stays k.held (option_to_list cell) k.ordered;
  topped = k.topped;
  stores = stores-moves Older (covers m) k.below (InFrame k.held cell) (Held records) (InFrame kept cell) (Held records) k.stores
      (λ v f. fewer v f)
      (λ v h. k.stores.kept.within v (inr h))
      (λ v held. elim held [ inl f ↦ elim (out v f) [ inl at ↦ inl (inl at) | inr w ↦ inr (cover v w) ] | inr h ↦ inl (inr h) ])
      (λ v w f g below. elim (out w g) [ inl at ↦ inl at | inr x ↦ inr (cover w x) ]);
  layered = λ v h. let w = k.layered v h in elim (out w.0 w.1) [
    | inl at ↦ (w.0, at, w.2, w.3)
    | inr x ↦ (x.0, inl x.1, x.4, inr (above v w.0 x.0 w.3 x.2))
  ];
} where
  stays : Version Change → Bool
  stays v = t.keep (settled v)

  kept : List (Version Change)
  kept = filter stays k.held

  fewer : (v : Version Change) → InFrame kept cell v → InFrame k.held cell v
  fewer v (inl at) = inl (member-out stays k.held v at).0
  fewer v (inr is) = inr is

  above : (v w x : Version Change) → UpTo Older v w → Older w x → Older v x
  above v w x (inl same) older = subst (λ (z : Version Change). Older z x) (sym same) older
  above v w x (inr less) older = older-trans v w x less older

  into : (v : Version Change) → Member v k.below → Member v (line m.history table key)
  into v at = elim (line-top m table key k.top k.below k.topped) [ inl same ↦ subst (λ l. Member v l) (sym same) at | inr one ↦ subst (λ l. Member v l) (sym one.2) (inr at) ]

  -- nothing of the chain is above the top
  whole : (top : List Update) → chain ≡ top ++ map settled k.held → TopStands m table key top k.below → filter t.keep top ≡ top
  whole [] is stands = refl
  whole (u ∷ (w ∷ rest)) is stands = absurd stands
  whole (u ∷ []) is stands = elim (cases_Bool (t.keep u)) [
    | inl kept_one ↦ rw kept_one refl
    | inr isnt ↦ let w = t.lost u (subst (λ l. Member u l) (sym is) (inl refl)) isnt in elim (subst (λ l. Member w.0 l) is w.1) [
      | inl same ↦ absurd (older-order.irrefl u.version (subst (λ (z : Update). Older u.version z.version) same w.3))
      | inr at ↦ absurd (older-order.asym u.version w.0.version w.3 (stands.above w.0.version (k.stores.kept.within w.0.version (inl (inl (settled-from k.held w.0 at).0)))))
    ]
  ]

  -- what is lost lies below one that stays, is past and has ended
  Passed : Version Change → Type 0
  Passed v = (w : Version Change) × Member w kept × Older v w × (past w ≡ true) × HasEnded m w.window.name

  out : (v : Version Change) → InFrame k.held cell v → InFrame kept cell v ⊎ Passed v
  out v (inr is) = inl (inr is)
  out v (inl at) = elim (cases_Bool (stays v)) [
    | inl is ↦ inl (inl (member-into stays k.held v at is))
    | inr isnt ↦ let w = t.lost (settled v) (subst (λ l. Member (settled v) l) (sym k.chained) (right k.top (map settled k.held) (settled v) (settled-into k.held v at))) isnt in
        let done = ended w.0.version (chain-held chain cell w.0 w.1) w.4 in
        let s = settled-below k.top k.topped w.0 (subst (λ l. Member w.0 l) k.chained w.1) done in
        inr (w.0.version, member-into stays k.held w.0.version s.0 (subst (λ (z : Update). t.keep z ≡ true) s.1 w.2), w.3, w.4, done)
  ] where
    settled-below : (top : List Update) → TopStands m table key top k.below → (w : Update) → Member w (top ++ map settled k.held) → HasEnded m w.version.window.name → Member w.version k.held × (w ≡ settled w.version)
    settled-below [] stands w at done = settled-from k.held w at
    settled-below (u ∷ []) stands w (inl same) done = absurd (done stands.session stands.transaction stands.there (ap (λ (z : Update). z.version.window.name) same ∙ stands.name))
    settled-below (u ∷ []) stands w (inr at) done = settled-from k.held w at
    settled-below (u ∷ (x ∷ rest)) stands w at done = absurd stands

  cover : (v : Version Change) → Passed v → Covered Older (covers m) k.below v
  cover v w = let at = k.stores.kept.within w.0 (inl (inl (member-out stays k.held w.0 w.1).0)) in
      record { by = w.0; there = at; above = w.2; is_cover = low w.0 (into w.0 at) w.3 }

-- ---- what records lie under

version-from : (chain : List Update) (v : Version Change) → Member v (map {A = Update} (λ u. u.version) chain) → (u : Update) × Member u chain × (v ≡ u.version)
version-from [] v at = absurd at
version-from (u ∷ chain) v (inl same) = (u, inl refl, same)
version-from (u ∷ chain) v (inr later) = let o = version-from chain v later in (o.0, inr o.1, o.2)

pub trims-lie-under : TrimsLieUnder
trims-lie-under m c table key live past chain later cell records runs shows low ended t k under v h = let w = under v h in
    elim (member-append w.0 (map {A = Update} (λ u. u.version) chain) (option_to_list cell) w.1) [
      | inl at ↦ let u = version-from chain w.0 at in elim (cases_Bool (t.keep u.0)) [
        | inl stays ↦ (w.0, subst (λ (z : Version Change). Member z (held_in later cell)) (sym u.2) (comes u.0 u.1 stays), w.2, w.3)
        | inr lost ↦ let x = t.lost u.0 u.1 lost in
            (x.0.version, comes x.0 x.1 x.2, alive x.0 x.1 x.4, inr (above v w.0 x.0.version w.3 (subst (λ (z : Version Change). Older z x.0.version) (sym u.2) x.3)))
      ]
      | inr at ↦ (w.0, beside (map {A = Update} (λ u. u.version) later) w.0 at, w.2, w.3)
    ] where
      comes : (u : Update) → Member u chain → t.keep u ≡ true → Member u.version (held_in later cell)
      comes u at is = chain-held later cell u (subst (λ l. Member u l) (sym t.is_filter) (member-into t.keep chain u at is))

      beside : (l : List (Version Change)) (w : Version Change) → Member w (option_to_list cell) → Member w (l ++ option_to_list cell)
      beside [] w at = at
      beside (x ∷ l) w at = inr (beside l w at)

      above : (v w x : Version Change) → UpTo Older v w → Older w x → Older v x
      above v w x (inl same) older = subst (λ (z : Version Change). Older z x) (sym same) older
      above v w x (inr less) older = older-trans v w x less older

      into : (v : Version Change) → Member v k.below → Member v (line m.history table key)
      into v at = elim (line-top m table key k.top k.below k.topped) [ inl same ↦ subst (λ l. Member v l) (sym same) at | inr one ↦ subst (λ l. Member v l) (sym one.2) (inr at) ]

      -- what is past is in the checkpoint's prefix
      alive : (u : Update) → Member u chain → past u.version ≡ true → live u.version ≡ true
      alive u at is = let f = below-top m table key chain k.top k.held k.below cell k.chained k.topped u.version (chain-held chain cell u at) (ended u.version (chain-held chain cell u at) is) in
          let there = into u.version (k.stores.kept.within u.version (inl f)) in
          shows u.version there (covers-checkpoint m c u.version runs (low u.version there is)).0
