-- The checkpoint on which the next one stands.
use Rattle.std.specs.Prelude.{◌≡◌, ℕ, ◌+◌, ◌*◌, ◌/◌, ◌<◌, ◌≤◌, ◌==◌, Bool, false, List, [], cond, length, take, Option, Some, slice_get, refl}
use Rattle.std.specs.List.{flat_map, fold}
use Rattle.std.proofs.Common.{inl, inr, sym, ◌∙◌, ap, subst, arith}
use Rattle.std.proofs.Math.Path.{fun_ext}
use Rattle.std.proofs.lemmas.Bool.{cases_Bool, cases_eq, eq-eqb, ne_eqb, false≢true}
use Rattle.std.proofs.lemmas.Option.{slice_get_within}
use Rattle.disk_model.specs.Crash.{Each}
use Rattle.extent_list.specs.Space.{end_of}
use Rattle.block_mgr.specs.declared.cell.Cell.{Cell}
use Rattle.block_mgr.specs.Blocks.{Books, Has}
use Rattle.block_mgr.specs.Cells.{AreUnits, cell_at, is_used, nothing}
use Rattle.block_mgr.specs.Open.{found_cell}
use Rattle.device_layout.specs.declared.addr.Addr.{Addr}
use Rattle.device_layout.specs.Slots.{slot_at}
use Rattle.kv_model.specs.Holds.{Member}
use Rattle.kv_model.specs.History.{Table}
use Rattle.catalog.specs.Known.{NumbersAscend, by_name}
use Rattle.catalog.proofs.InOrder.{order_keeps}
use Rattle.stored.specs.Blocks.{Block}
use Rattle.stored.specs.Records.{Record}
use Rattle.stored.specs.Stored.{Stored, IsOn, tables_blocks}
use Rattle.stored.specs.HistoryTree.{HistoryTree}
use Rattle.stored.specs.TableTree.{TableTree}
use Rattle.checkpoint_core.specs.Stands.{AreInUse, body_blocks}
use Rattle.tree_open.specs.declared.place.TreePlace.{TreePlace}
use Rattle.ckpt_step.specs.declared.ground.Ground.{Ground}
use Rattle.call_steps.specs.declared.hub.Hub.{Hub}
use Rattle.tree_dir.specs.declared.leaf.Leaf.{Leaf}
use Rattle.tree_dir.specs.Leaves.{IsDirectory}
use Rattle.ckpt_step.specs.Grounds.{AreLedTo, AreLone, AreSince, AreWritten, HasRoots, StandsOn, found_in, start_cell}
use Rattle.ckpt_step.specs.Lives.{AreOfOthers, with_lives}
use Rattle.ckpt_step.specs.Parts.{AreOfTables, IsParted, with_parts}
use Rattle.ckpt_step.specs.Rooms.{Written, known_in}
use Rattle.ckpt_step.specs.declared.lives.Lone.{Lone}
use Rattle.ckpt_step.specs.declared.parts.LeafPart.{LeafPart}
use Rattle.ckpt_step.specs.Halves.{AreApartFrom, AreParted, body_cell, half_cell, made_blocks, older_blocks, record_cell, settled_at, with_last}
use Rattle.ckpt_step.specs.Records.{trees_by_name}
use Rattle.ckpt_step.specs.Runs.{IsDone, made_of}
use Rattle.ckpt_step.specs.Sizes.{KeepsLeaves}
use Rattle.ckpt_step.specs.Trees.{addrs_of, trees_blocks}
use Rattle.ckpt_step.proofs.Cells.{Begins, found_is, found_of, start-none, start-record, which}
use Rattle.ckpt_step.proofs.FirstOnes.{take_length}
use Rattle.ckpt_step.proofs.FirstTables.{taken_get}
use Rattle.ckpt_step.proofs.Lones.{HasNoLone, lone_cell, which_lone}
use Rattle.ckpt_step.proofs.OthersStay.{led_still, since_still, written_still}
use Rattle.ckpt_step.proofs.SettledCells.{last_at}
use Rattle.ckpt_step.proofs.PlacedTrees.{addr_block, block_addr}
use Rattle.ckpt_step.proofs.Made.{all_blocks, made_roots, table_blocks, tables_are}
use Rattle.ckpt_step.proofs.Members.{all_made, all_of, flat_member, in_back, in_either, in_front, map_member, member_flat, member_map}

-- a tree that has the parts of all leaves of its table has those of the ones that were not written since
pub parted_more : (lives : List Lone) (leaves : List Leaf) (table : ℕ) (written : Written) (place : TreePlace) (tree : TableTree) → IsParted [] leaves table written place tree → IsParted lives leaves table written place tree
parted_more lives leaves table written place tree parted = record {
  joined = λ none. parted.joined (λ l there its. refl);
  among = λ l there its dead. parted.among l there its refl;
  parts = λ l there its dead. parted.parts l there its refl;
}

-- each table that has a place is one of the first
pub keeps_all : (bytes : List ℕ) (known : List Table) (few : ℕ) (leaves : List Leaf) (had : Written) (s : Stored) (places : List TreePlace) (written : Written) → length places ≡ few → KeepsLeaves bytes (take few known) leaves had s places written → KeepsLeaves bytes known leaves had s places written
keeps_all bytes known few leaves had s places written many keeps i t place tree l at stands has there its =
    let low : i < few = omega (arith, many, slice_get_within places i place stands) in
    keeps i t place tree l (taken_get few known i t at low) stands has there its

-- ---- once the checkpoint is settled

-- others: the leaves that were written since that stay
module _ (seen : List ℕ) (books : Books) (old : Option Stored) (lives others : List Lone) (known : List Table) (next : ℕ) (ascend : NumbersAscend 1 known next) (places : List TreePlace) (trees : List TableTree) (history : HistoryTree) (stand captured before : List Addr) (count : length places ≡ length known) (r : Record) (a : Addr)
    (done : IsDone seen books old lives known places trees history stand captured r a) (stay : AreApartFrom old lives captured before others) (cells : List Cell) (settled : (u : ℕ) → cell_at cells u ≡ settled_at captured others a u) where
  abbrev new : Stored
  new = made_of r known trees history a

  abbrev older : List Block
  older = older_blocks r.history history

  abbrev made : List Block
  made = made_blocks places trees r.history history

  abbrev own : Table → List Block
  own t = table_blocks known next ascend places trees count done.bytes done.there t

  all : trees_blocks places trees ≡ flat_map own known
  all = all_blocks known next ascend places trees count done.bytes done.there

  tables : tables_blocks r.tables (trees_by_name known trees) ≡ flat_map own (by_name known)
  tables = tables_are known next ascend places trees count done.bytes done.there r history a done.tables

  -- by name and by place there are the same blocks
  to_name : (b : Block) → Member b made → Member b (body_blocks new)
  to_name b there = elim (in_either (trees_blocks places trees) older b there) [
    | inr its ↦ in_back (tables_blocks r.tables (trees_by_name known trees)) older b its
    | inl of_tree ↦
        let t = member_flat own known b (subst (λ (l : List Block). Member b l) all of_tree) in
        in_front (tables_blocks r.tables (trees_by_name known trees)) older b (subst (λ (l : List Block). Member b l) (sym tables) (flat_member own t.0 (by_name known) b ((order_keeps known t.0).1 t.1) t.2))
  ]

  from_name : (b : Block) → Member b (body_blocks new) → Member b made
  from_name b there = elim (in_either (tables_blocks r.tables (trees_by_name known trees)) older b there) [
    | inr its ↦ in_back (trees_blocks places trees) older b its
    | inl of_tree ↦
        let t = member_flat own (by_name known) b (subst (λ (l : List Block). Member b l) tables of_tree) in
        in_front (trees_blocks places trees) older b (subst (λ (l : List Block). Member b l) (sym all) (flat_member own t.0 known b ((order_keeps known t.0).0 t.1) t.2))
  ]

  -- a captured address is that of one of them
  record IsCaught (x : Addr) : Type 0 where
    block : Block
    there : Member block made
    place : x ≡ block.place

  caught : (x : Addr) → Member x captured → IsCaught x
  caught x there = elim (in_either (addrs_of places) stand x ((done.listed x).0 there)) [
    | inl of_tree ↦ let b = addr_block done.bytes places trees x done.there of_tree in record { block = b.0; there = in_front (trees_blocks places trees) older b.0 b.1; place = b.2 }
    | inr its ↦ let b = member_map {A = Block} (λ y. y.place) x older (subst (λ (l : List Addr). Member x l) done.stand_is its) in record { block = b.0; there = in_back (trees_blocks places trees) older b.0 b.1; place = b.2 }
  ]

  uncaught : (b : Block) → Member b made → Member b.place captured
  uncaught b there = (done.listed b.place).1 (elim (in_either (trees_blocks places trees) older b there) [
    | inl of_tree ↦ in_front (addrs_of places) stand b.place (block_addr done.bytes places trees b done.there of_tree)
    | inr its ↦ in_back (addrs_of places) stand b.place (subst (λ (l : List Addr). Member b.place l) (sym done.stand_is) (map_member {A = Block} (λ y. y.place) b older its))
  ])

  half_has : (b : Block) → Member b made → Has done.half b.place.offset b.place.size
  half_has b there = all_of (λ (x : Block). Has done.half x.place.offset x.place.size) made b done.half_use there

  -- two that begin at one unit have one size
  sizes : (u : ℕ) (b c : Block) → Member b made → Member c made → Begins u b.place → Begins u c.place → b.place.size ≡ c.place.size
  sizes u b c there also hit hits =
      let one = half_has b there in
      let two = half_has c also in
      let same : one.0 ≡ two.0 = omega (arith, one.1, two.1, hit, hits) in
      one.2 ∙ (ap (λ (k : ℕ). 4096 * (cell_at done.half k).units) same ∙ sym two.2)

  -- and none begins where the record does
  apart : (u : ℕ) (x : Addr) → a.offset ≡ 8192 + 4096 * u → Member x captured → Begins u x → ⊥
  apart u x here there hit =
      let same : done.fresh.0 ≡ u = omega (arith, done.fresh.1, here) in
      let none : half_cell old lives captured u ≡ nothing = subst (λ (k : ℕ). half_cell old lives captured k ≡ nothing) same done.fresh.2 in
      elim (which u captured) [
        | inl one ↦ false≢true (sym (ap (λ (c : Cell). c.is_live) (sym (one.half (start_cell old lives u)) ∙ none)))
        | inr far ↦ far.none x there hit
      ]

  found_same : (u : ℕ) → last_at captured a u ≡ found_cell (found_in (Some new)) u
  found_same u = elim (cases_eq a.offset (8192 + 4096 * u)) [
    | inl hit ↦
        let is = eq-eqb a.offset (8192 + 4096 * u) hit in
        ap (λ (b : Bool). cond b (record_cell a) (fold (with_last u) nothing captured)) is ∙ sym (found_is u new ∙ elim (found_of u new) [
          | inr none ↦ none.cell ∙ start-record u new hit
          | inl one ↦ absurd (apart u one.block.place hit (uncaught one.block (from_name one.block one.there)) one.at)
        ])
    | inr far ↦
        let isnt = ne_eqb a.offset (8192 + 4096 * u) far in
        ap (λ (b : Bool). cond b (record_cell a) (fold (with_last u) nothing captured)) isnt ∙ elim (which u captured) [
          | inl one ↦
              let b = caught one.addr one.there in
              let at : Begins u b.block.place = subst (λ (x : Addr). Begins u x) b.place one.at in
              one.body nothing ∙ sym (found_is u new ∙ elim (found_of u new) [
                | inr none ↦ absurd (none.none b.block (to_name b.block b.there) at)
                | inl other ↦ other.cell ∙ ap (λ (n : ℕ). body_cell (n / 4096)) (sizes u other.block b.block (from_name other.block other.there) b.there other.at at ∙ ap (λ (x : Addr). x.size) (sym b.place))
              ])
          | inr none ↦ none.body nothing ∙ sym (found_is u new ∙ elim (found_of u new) [
            | inr nobody ↦ nobody.cell ∙ start-none u new far
            | inl one ↦ absurd (none.none one.block.place (uncaught one.block (from_name one.block one.there)) one.at)
          ])
        ]
  ]

  -- none that stays begins where the record does, nor where a captured block does
  far_record : (u : ℕ) (x : Lone) → a.offset ≡ 8192 + 4096 * u → Member x others → Begins u x.addr → ⊥
  far_record u x here mine at =
      let same : done.fresh.0 ≡ u = omega (arith, done.fresh.1, here) in
      let none : half_cell old lives captured u ≡ nothing = subst (λ (k : ℕ). half_cell old lives captured k ≡ nothing) same done.fresh.2 in
      elim (which u captured) [
        | inl caught ↦ stay.apart x caught.addr mine caught.there (caught.at ∙ sym at)
        | inr nobody ↦ false≢true (ap (λ (c : Cell). c.is_live) (sym none ∙ (nobody.half (start_cell old lives u) ∙ lone_cell old lives stay.lone u x (stay.among x mine) at)))
      ]

  -- with them the cells are these
  settled_with : (u : ℕ) → settled_at captured others a u ≡ with_lives u (last_at captured a u) others
  settled_with u = elim (cases_eq a.offset (8192 + 4096 * u)) [
    | inl hit ↦ elim (which_lone u others) [
      | inl one ↦ absurd (far_record u one.lone hit one.there one.at)
      | inr none ↦ no_other others a none ∙ sym (none.cell (last_at captured a u))
    ]
    | inr far ↦ (let isnt : (a.offset == 8192 + 4096 * u) ≡ false = ne_eqb a.offset (8192 + 4096 * u) far in rw isnt refl)
  ]
    where
      no_other : (others : List Lone) (b : Addr) → HasNoLone u others → settled_at captured others b u ≡ last_at captured b u
      no_other others b none = elim (cases_Bool (b.offset == 8192 + 4096 * u)) [
        | inl is ↦ rw is refl
        | inr isnt ↦ rw isnt (none.cell (fold (with_last u) nothing captured))
      ]

  lone_new : AreLone (Some new) others
  lone_new = record {
    each = λ x there.
        let own = stay.lone.each x (stay.among x there) in
        record { unit = own.unit; units = own.units; offset = own.offset; size = own.size; none = sym (found_same own.unit) ∙ none_last own.unit x there own.offset };
    distinct = stay.distinct;
  }
    where
      none_last : (u : ℕ) (x : Lone) → Member x others → Begins u x.addr → last_at captured a u ≡ nothing
      none_last u x there at =
          let isnt : (a.offset == 8192 + 4096 * u) ≡ false = ne_eqb a.offset (8192 + 4096 * u) (λ here. far_record u x here there at) in
          elim (which u captured) [
            | inl caught ↦ absurd (stay.apart x caught.addr there caught.there (caught.at ∙ sym at))
            | inr none ↦ rw isnt (none.body nothing)
          ]

  block_has : (b : Block) → Member b made → Has cells b.place.offset b.place.size
  block_has b there =
      let one = half_has b there in
      let u : ℕ = one.0 in
      let isnt : (a.offset == 8192 + 4096 * u) ≡ false = ne_eqb a.offset (8192 + 4096 * u) (λ here. apart u b.place here (uncaught b there) one.1) in
      let alone : with_lives u (fold (with_last u) nothing captured) others ≡ fold (with_last u) nothing captured = elim (which_lone u others) [
        | inl lone ↦ absurd (stay.apart lone.lone b.place lone.there (uncaught b there) (one.1 ∙ sym lone.at))
        | inr none ↦ none.cell (fold (with_last u) nothing captured)
      ] in
      let is : cell_at cells u ≡ fold (with_last u) nothing captured = settled u ∙ rw isnt alone in
      elim (which u captured) [
        | inr none ↦ absurd (none.none b.place (uncaught b there) one.1)
        | inl last ↦
            let c = caught last.addr last.there in
            let cell : cell_at cells u ≡ body_cell (last.addr.size / 4096) = is ∙ last.body nothing in
            let size : b.place.size ≡ last.addr.size = sizes u b c.block there c.there one.1 (subst (λ (x : Addr). Begins u x) c.place last.at) ∙ ap (λ (x : Addr). x.size) (sym c.place) in
            (u, one.1, (let units : (cell_at cells u).units ≡ last.addr.size / 4096 = ap (λ (x : Cell). x.units) cell in omega (arith, one.2, size, units)), ap is_used cell)
      ]

  record_has : Has cells a.offset a.size
  record_has =
      let u : ℕ = done.fresh.0 in
      let is : cell_at cells u ≡ record_cell a = settled u ∙ (let here = eq-eqb a.offset (8192 + 4096 * u) done.fresh.1 in rw here refl) in
      (u, done.fresh.1, done.sized ∙ ap (λ (c : Cell). 4096 * c.units) (sym is), ap is_used is)

  body_use : AreInUse cells (body_blocks new)
  body_use =
      all_made (λ (b : Block). Has cells b.place.offset b.place.size) (body_blocks new) (λ b there. block_has b (from_name b there))

  -- The ground is that of the new checkpoint. few: how many tables it has; was: where the trees of the one before stand.
  pub new_ground : (images : List ℕ → Type 0) (hub : Hub) (had : Written) (more : List LeafPart) (g : Ground) (few : ℕ) (was : List TreePlace) → NumbersAscend 1 hub.tables.tables hub.tables.next → known ≡ take few hub.tables.tables → few ≤ length hub.tables.tables → length was ≤ few → IsDirectory hub.dir → AreParted known hub.dir.leaves (with_parts had more) places trees → AreOfTables known hub.dir.leaves more
      → AreOfOthers known hub.dir.leaves lives others → AreWritten hub.tables.tables lives hub.dir had was → AreSince old lives hub.dir had → AreLedTo hub.tables.tables lives hub.dir.leaves → Each images (λ c. IsOn c new) → g.place.blocks.cells ≡ cells → AreUnits g.place.blocks.cells g.place.blocks.space → g.place.blocks.is_held ≡ false → end_of g.place.blocks.space ≡ end_of books.space
      → g.number ≡ r.sequence → g.place.slot ≡ Some (slot_at r.sequence a) → g.trees.items ≡ places → g.history.items ≡ stand → ((leaf : ℕ) → known_in g.parts leaf ≡ with_parts had more leaf) → g.lives ≡ others → StandsOn seen images hub g (Some new)
  new_ground images hub had more g few was numbers firsts within_known fewer is parted of are written since led each same units idle end number slot_is trees_are history_is parts_are lives_are = record {
    stands = record {
      seen_has = done.on;
      images_have = λ _. each;
      in_use = subst (λ (l : List Cell). Has l a.offset a.size × AreInUse l (body_blocks new)) (sym same) (record_has, body_use);
    };
    number = number;
    slot = slot_is;
    cells = λ u. ap (λ (l : List Cell). cell_at l u) same ∙ (settled u ∙ (settled_with u ∙ (ap (λ (c : Cell). with_lives u c others) (found_same u) ∙ ap (λ (x : List Lone). start_cell (Some new) x u) (sym lives_are))));
    units = units;
    idle = idle;
    long = done.on.long;
    within = omega (arith, end, done.within);
    roots = from (λ ps x y. HasRoots tables y hub.dir.leaves x ps new) roots;
    history = history_is ∙ done.stand_is;
    written = from (λ ps x y. AreWritten tables y hub.dir x ps) (written_still hub.dir is known lives others since.lone.distinct are had more of tables hub.tables.next few was places numbers firsts fewer many written);
    since = from (λ ps x y. AreSince (Some new) y hub.dir x) (since_still hub.dir is known lives others since.lone.distinct are had more of old (Some new) lone_new since);
    led = from (λ ps x y. AreLedTo tables y hub.dir.leaves) (led_still hub.dir is known lives others since.lone.distinct are tables led);
  } where
    tables : List Table
    tables = hub.tables.tables

    many : length places ≡ few
    many = count ∙ (ap (λ (l : List Table). length l) firsts ∙ take_length few hub.tables.tables within_known)

    roots : HasRoots hub.tables.tables others hub.dir.leaves (with_parts had more) places new
    roots =
        let own = made_roots known next ascend places trees count done.bytes done.there r history a done.tables hub.dir.leaves (with_parts had more) parted in
        record {
          few = omega (arith, many, within_known);
          count = own.count;
          trees = λ i t p at stands.
              let low : i < few = omega (arith, many, slice_get_within places i p stands) in
              let one = own.trees i t p (subst (λ (l : List Table). slice_get l i ≡ Some t) (sym firsts) (taken_get few hub.tables.tables i t at low)) stands in
              (one.0, one.1, parted_more others hub.dir.leaves t.number (with_parts had more) p one.0 one.2);
        }

    from : (P : List TreePlace → Written → List Lone → Type 0) → P places (with_parts had more) others → P g.trees.items (known_in g.parts) g.lives
    from P made =
        subst (λ (y : List Lone). P g.trees.items (known_in g.parts) y) (sym lives_are)
        (subst (λ (l : List TreePlace). P l (known_in g.parts) others) (sym trees_are) (subst (λ (x : Written). P places x others) (sym (fun_ext parts_are)) made))
