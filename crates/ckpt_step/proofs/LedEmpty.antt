-- A leaf without keys left its frame without a block.
use Rattle.std.specs.Prelude.{◌≡◌, ◌≢◌, ℕ, ◌==◌, ◌++◌, Bool, true, false, List, [], ◌∷◌, Option, Some, None, if◌then◌else◌, refl}
use Rattle.std.specs.List.{Contains, find}
use Rattle.std.specs.Option.{option_to_list}
use Rattle.std.proofs.Common.{inl, inr, sym, ◌∙◌, ap, subst}
use Rattle.std.proofs.lemmas.Bool.{cases_eq, eq-eqb, ne_eqb}
use Rattle.call_steps.specs.declared.hub.Hub.{Hub}
use Rattle.call_turns.proofs.Walks.{named-is}
use Rattle.device_layout.specs.declared.link.Link.{Link}
use Rattle.disk_model.specs.declared.disk.Disk.{Ghosts}
use Rattle.engine.proofs.LeavesCome.{named-there}
use Rattle.engine.specs.declared.running_checkpoint.RunningCheckpoint.{RunningCheckpoint}
use Rattle.engine.specs.Evictions.{HasBeenEvicted}
use Rattle.engine.specs.Running.{RunsAs}
use Rattle.engine_world.proofs.Homes.{same-id}
use Rattle.engine_world.specs.Evicting.{IsEvictedTo, evicted, held_of, led_out, with_rows}
use Rattle.engine_world.specs.GoingOut.{with_again}
use Rattle.engine_world.specs.Stands.{Engine, Stands}
use Rattle.engine_world.specs.Worlds.{World, with_records}
use Rattle.evict_step.specs.Cuts.{AreCut}
use Rattle.item.specs.declared.Change.{Change}
use Rattle.kv_model.specs.Captures.{ReconciledLists}
use Rattle.kv_model.specs.Holds.{Descends, Member}
use Rattle.kv_model.specs.Ordered.{Older}
use Rattle.kv_model.specs.Reconciling.{each_one}
use Rattle.reconcile.specs.declared.image.Moved.{Moved}
use Rattle.reconcile.specs.Moving.{versions_in}
use Rattle.row_page.specs.Rows.{Row}
use Rattle.reconcile.specs.Shows.{shown_at}
use Rattle.stamp.specs.declared.Version.{Version}
use Rattle.stored.specs.Stored.{Stored}
use Rattle.tree_dir.specs.declared.leaf.Framed.{Framed}
use Rattle.tree_dir.specs.declared.leaf.Leaf.{Leaf}
use Rattle.tree_dir.specs.Leaves.{changed, in_frame, leaf_named}
use Rattle.ckpt_step.specs.declared.ground.Ground.{Ground}
use Rattle.ckpt_step.specs.Evicts.{LeftEmpty}
use Rattle.ckpt_step.specs.EvictSteps.{HasLeftEmpty, IsRowless}
use Rattle.ckpt_step.specs.Floors.{AreLivesOn, Follows}
use Rattle.ckpt_step.specs.Grounds.{StandsOn}
use Rattle.ckpt_step.specs.Parts.{has_rows}
use Rattle.ckpt_step.specs.Rooms.{known_in}
use Rattle.ckpt_step.specs.Stays.{let_go}
use Rattle.ckpt_step.specs.WritesOut.{NotWritten}
use Rattle.ckpt_step.proofs.EmptyLeaves.{follows_empty, lives_empty, stands_empty}
use Rattle.ckpt_step.proofs.KeptGround.{stands_kept}
use Rattle.ckpt_step.proofs.LedSteps.{may_same}
use Rattle.ckpt_step.proofs.Members.{none_some, some_same}
use Rattle.ckpt_step.proofs.TableLeaves.{contains_of}

-- ---- versions

-- where there is no newest one there is none
none_held : (held : List (Version Change)) → None ≡ find each_one held → held ≡ []
none_held [] none = refl
none_held (v ∷ held) none = absurd (none_some none)

no_member : (vs : List (Version Change)) → ((v : Version Change) → Member v vs → ⊥) → vs ≡ []
no_member [] none = refl
no_member (v ∷ vs) none = absurd (none v (inl refl))

-- nor does one move
none_moves : (past : Version Change → Bool) (held moved : List (Version Change)) → ReconciledLists Older each_one past held None moved → moved ≡ []
none_moves past held moved made = no_member moved (λ v there. subst (λ (vs : List (Version Change)). Member v vs) (none_held held made.cell_is) (made.from v there).0)

-- ---- the leaf

module _ {D : Type 0} (g : Ghosts D) (old : Option Stored) (w : World) (e e' : Engine) (stand stand' : Ground) (id : ℕ) (disk : D) (stands : Stands e w) (running : Option RunningCheckpoint) (runs : RunsAs w.machine running) (n : NotWritten g old w stand stand e e id disk disk) (moved : List Moved) (cut : AreCut e running id [] moved) (x : HasLeftEmpty e e' stand stand' id) where
  abbrev l : Leaf
  l = cut.may.leaf

  id_is : l.id ≡ id
  id_is = named-is id e.hub.dir.leaves l cut.may.there

  there : Contains e.hub.dir.leaves l
  there = named-there id e.hub.dir.leaves l cut.may.there

  named : leaf_named l.id e.hub.dir.leaves ≡ Some l
  named = ap (λ (k : ℕ). leaf_named k e.hub.dir.leaves) id_is ∙ cut.may.there

  leaf_is : x.out.may.leaf ≡ l
  leaf_is = some_same (sym x.out.may.there ∙ cut.may.there)

  rowless : IsRowless stand e.hub l
  rowless = subst (λ (y : Leaf). IsRowless stand e.hub y) leaf_is x.rowless

  led : x.link ≡ l.entry.link
  led = x.led ∙ ap (λ (y : Leaf). y.entry.link) leaf_is

  -- by the leaf as it was cut
  out : HasBeenEvicted e e' id x.link
  out = record { may = cut.may; is = x.out.is ∙ ap (λ (f : Framed). evicted e id x.link f.frame) (may_same e id x.out.may cut.may) }

  -- ---- the world

  was_to : IsEvictedTo w.machine e.hub.dir.leaves l cut.may.frame [] (λ key. versions_in key moved)
  was_to = subst (λ (rows : List Row). IsEvictedTo w.machine e.hub.dir.leaves l cut.may.frame rows (λ key. versions_in key moved)) cut.are (cut.evicted w stands runs)

  to : IsEvictedTo w.machine e.hub.dir.leaves l cut.may.frame [] (λ key. [])
  to = record {
    past = was_to.past;
    covers = was_to.covers;
    ended = was_to.ended;
    made = λ key under. subst (λ (vs : List (Version Change)). ReconciledLists Older each_one was_to.past (held_of cut.may.frame key) (shown_at key []) vs) (none_moves was_to.past (held_of cut.may.frame key) (versions_in key moved) (was_to.made key under)) (was_to.made key under);
    ordered = λ key under. subst (λ (vs : List (Version Change)). Descends Older (option_to_list (shown_at key []) ++ vs)) (none_moves was_to.past (held_of cut.may.frame key) (versions_in key moved) (was_to.made key under)) (was_to.ordered key under);
    bare = λ key away. ((was_to.bare key away).0, refl);
  }

  abbrev v : World
  v = with_records id (λ key. []) (with_rows id [] (with_again e cut.may.framed.frame w))

  here : v.shelf l.id ≡ []
  here = let is : (l.id == id) ≡ true = eq-eqb l.id id id_is in rw is refl

  still : (other : ℕ) → other ≢ l.id → v.shelf other ≡ w.shelf other
  still other differ = let isnt : (other == id) ≡ false = ne_eqb other id (λ met. differ (met ∙ sym id_is)) in rw isnt refl

  -- ---- the directory

  -- led where it led it is the same leaf
  led_same : (some : List Leaf) → ((y : Leaf) → Member y some → Contains e.hub.dir.leaves y) → changed l.id (led_out l.entry.link) some ≡ changed l.id (in_frame None) some
  led_same [] within = refl
  led_same (y ∷ some) within = elim (cases_eq y.id l.id) [
    | inl same ↦
        let is : y ≡ l = same-id e.hub.dir y l stands.dir (within y (inl refl)) there same in
        let one : led_out l.entry.link y ≡ in_frame None y = ap (led_out l.entry.link) is ∙ ap (in_frame None) (sym is) in
        ap (λ (z : Leaf). (if y.id == l.id then z else y) ∷ changed l.id (led_out l.entry.link) some) one
        ∙ ap (λ (rest : List Leaf). (if y.id == l.id then in_frame None y else y) ∷ rest) (led_same some (λ z later. within z (inr later)))
    | inr other ↦ (let isnt : (y.id == l.id) ≡ false = ne_eqb y.id l.id other in rw isnt (ap (λ (rest : List Leaf). y ∷ rest) (led_same some (λ z later. within z (inr later)))))
  ]

  hub_is : e'.hub ≡ let_go e.hub l.id
  hub_is =
      ap (λ (y : Engine). y.hub) out.is
      ∙ (ap (λ (k : ℕ). let h : Hub = record e.hub { dir = record e.hub.dir { leaves = changed k (led_out x.link) e.hub.dir.leaves } } in h) (sym id_is)
      ∙ (ap (λ (link : Link). let h : Hub = record e.hub { dir = record e.hub.dir { leaves = changed l.id (led_out link) e.hub.dir.leaves } } in h) led
      ∙ ap (λ (leaves : List Leaf). let h : Hub = record e.hub { dir = record e.hub.dir { leaves = leaves } } in h) (led_same e.hub.dir.leaves (λ y among. contains_of e.hub.dir.leaves y among))))

  -- ---- the ground

  gone : known_in stand'.parts l.id ≡ None
  gone = ap (λ (k : ℕ). known_in stand'.parts k) id_is ∙ x.gone

  others : (other : ℕ) → other ≢ l.id → known_in stand'.parts other ≡ known_in stand.parts other
  others other differ = x.others other (λ met. differ (met ∙ sym id_is))

  follows_shelf : Follows old (let_go e.hub l.id) (record stand { parts = stand'.parts }) (record w { shelf = v.shelf })
  follows_shelf = follows_empty e.hub l stands.dir named stand stand'.parts old w v.shelf gone others rowless.part rowless.link rowless.dead here still n.follows

  follows_then : Follows old (let_go e.hub l.id) (record stand { parts = stand'.parts }) v
  follows_then = record { respects = follows_shelf.respects; leaf = follows_shelf.leaf; since = follows_shelf.since }

  pub left_empty : LeftEmpty g old w stand stand' e e' id disk disk
  unfolding out
  left_empty = record {
    none = record { running = running; runs = runs; moved = moved; cut = cut };
    link = x.link;
    out = out;
    led = led;
    rowless = ap has_rows led ∙ rowless.link;
    left = n.left;
    stands = x.stands cut.may w [] (λ key. []) stands to;
    on = subst (λ (s : Ground). StandsOn (g.seen disk) (g.may_leave disk) e'.hub s old) (sym x.same) (stands_kept (g.seen disk) (g.may_leave disk) e'.hub (record stand { parts = stand'.parts }) old stand'.kept (subst (λ (hub : Hub). StandsOn (g.seen disk) (g.may_leave disk) hub (record stand { parts = stand'.parts }) old) (sym hub_is)
        (stands_empty (g.seen disk) (g.may_leave disk) e.hub l stands.dir named stand stand'.parts old gone others rowless.part rowless.link rowless.dead rowless.placed n.on)));
    follows = subst (λ (s : Ground). Follows old e'.hub s v) (sym x.same) (subst (λ (hub : Hub). Follows old hub (record stand { parts = stand'.parts }) v) (sym hub_is) follows_then);
    since = subst (λ (s : Ground). AreLivesOn (g.seen disk) e'.hub s v) (sym x.same) (subst (λ (hub : Hub). AreLivesOn (g.seen disk) hub (record stand { parts = stand'.parts }) v) (sym hub_is)
        (lives_empty (g.seen disk) e.hub l stands.dir named stand stand'.parts w v.shelf gone others rowless.part rowless.link rowless.dead here still n.since));
    kept = x.kept;
    forgets = x.gone;
  }

-- ---- it stayed

pub stayed_same : {D : Type 0} (g : Ghosts D) (old : Option Stored) (w : World) (e e' : Engine) (stand stand' : Ground) (id : ℕ) (disk : D) → e' ≡ e → stand' ≡ stand → NotWritten g old w stand stand e e id disk disk → NotWritten g old w stand stand' e e' id disk disk
stayed_same {D} g old w e e' stand stand' id disk engine ground n =
    subst (λ (s : Ground). NotWritten g old w stand s e e' id disk disk) (sym ground) (subst (λ (x : Engine). NotWritten g old w stand stand e x id disk disk) (sym engine) n)
