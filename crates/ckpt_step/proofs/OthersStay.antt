-- Leaves of other tables that were written since stay as they are, as a checkpoint is completed.
use Rattle.std.specs.Prelude.{◌≡◌, ℕ, ◌+◌, ◌*◌, ◌≤◌, true, false, List, [], ◌∷◌, length, take, Option, None, Some, slice_get, refl}
use Rattle.std.specs.List.{Contains}
use Rattle.std.proofs.Common.{inl, inr, sym, ◌∙◌, ap, subst, arith}
use Rattle.std.proofs.lemmas.Bool.{cases_Bool, cases_lt, false≢true}
use Rattle.std.proofs.lemmas.Option.{slice_get_within}
use Rattle.block_mgr.specs.declared.cell.Cell.{Cell}
use Rattle.block_mgr.specs.Cells.{nothing}
use Rattle.block_mgr.specs.Open.{found_cell}
use Rattle.catalog.specs.Known.{NumbersAscend}
use Rattle.device_layout.specs.declared.addr.Addr.{Addr}
use Rattle.engine_world.proofs.Homes.{same-id}
use Rattle.kv_model.specs.History.{Table}
use Rattle.kv_model.specs.Holds.{Member}
use Rattle.stored.specs.Stored.{Stored}
use Rattle.stored.specs.TableTree.{Entry}
use Rattle.tree_dir.specs.declared.leaf.Leaf.{Leaf}
use Rattle.tree_dir.specs.Leaves.{Directory, IsDirectory, leaves_of}
use Rattle.tree_open.specs.declared.place.TreePlace.{TreePlace}
use Rattle.tree_write.specs.Captures.{AreDistinct}
use Rattle.tree_write.specs.Steps.{links_in}
use Rattle.tree_write.specs.Writes.{LeadApart}
use Rattle.ckpt_step.specs.Grounds.{AreLedTo, AreLone, AreSince, AreWritten, found_in}
use Rattle.ckpt_step.specs.Halves.{AreApartFrom, IsNewBlock}
use Rattle.ckpt_step.specs.Holding.{lone_as}
use Rattle.ckpt_step.specs.Lives.{AreOfOthers, IsOfOther, NoneOfOthers, addrs_in, is_live}
use Rattle.ckpt_step.specs.Parts.{AreOfTables, parts_of, with_parts}
use Rattle.ckpt_step.specs.Rooms.{Written}
use Rattle.ckpt_step.specs.declared.lives.Lone.{Lone}
use Rattle.ckpt_step.specs.declared.parts.LeafPart.{LeafPart}
use Rattle.ckpt_step.proofs.ByPlace.{place_one}
use Rattle.ckpt_step.proofs.FirstOnes.{take_get}
use Rattle.ckpt_step.proofs.GoingLeaves.{of_there}
use Rattle.ckpt_step.proofs.Lones.{live_as, which_lone}
use Rattle.ckpt_step.proofs.Members.{all_made, get_member, get_within, member_at, none_some}
use Rattle.ckpt_step.proofs.NewParts.{later_none, of_tables}
use Rattle.ckpt_step.proofs.OldTrees.{IsBody}
use Rattle.ckpt_step.proofs.OutLives.{live_by}
use Rattle.ckpt_step.proofs.TableLeaves.{contains_of, in_table, member_of}
use Rattle.ckpt_step.proofs.WithParts.{NoneOf, in_alike, parts_alike, with_none}

-- a block that is new begins where none of theirs does
pub new_apart : (old : Option Stored) (lives : List Lone) (l : Leaf) (a : Addr) → is_live lives l ≡ true → IsNewBlock old lives a → a.offset ≡ l.entry.link.addr.offset → ⊥
new_apart old lives l a live new same =
    let x = live_as lives l live in
    let at : x.lone.addr.offset ≡ 8192 + 4096 * new.unit = x.at ∙ (sym same ∙ new.offset) in
    elim (which_lone new.unit lives) [
      | inl one ↦ false≢true (ap (λ (c : Cell). c.is_live) (sym new.none ∙ one.cell (found_cell (found_in old) new.unit)))
      | inr none ↦ none.none x.lone x.there at
    ]

-- nor does a block of the checkpoint before
pub body_apart : (old : Option Stored) (lives : List Lone) (x : Lone) (a : Addr) → AreLone old lives → Member x lives → IsBody old a → a.offset ≡ x.addr.offset → ⊥
body_apart old lives x a lone there body same =
    let own = lone.each x there in
    let unit : own.unit ≡ body.unit = omega (arith, own.offset, body.offset, same) in
    false≢true (ap (λ (c : Cell). c.is_live) (sym (subst (λ (v : ℕ). found_cell (found_in old) v ≡ nothing) unit own.none) ∙ body.cell))

lone_is : (x : Lone) (l : Leaf) → x.leaf ≡ l.id → x.addr ≡ l.entry.link.addr → x ≡ lone_as l
lone_is x l id addr = ap (λ (n : ℕ). let v : Lone = record { leaf = n; addr = x.addr } in v) id ∙ ap (λ (a : Addr). let v : Lone = record { leaf = l.id; addr = a } in v) addr

-- the same where the tables are the same, in whatever order
pub others_then : (first begun : List Table) (leaves : List Leaf) (lives others : List Lone) → ((t : Table) → Member t first → Member t begun) → ((t : Table) → Member t begun → Member t first) → AreOfOthers first leaves lives others → AreOfOthers begun leaves lives others
others_then first begun leaves lives others into back are = record {
  each = λ x there. let one = are.each x there in (one.0, (one.1.0, one.1.1, one.1.2, one.1.3, (λ t mine same. one.1.4 t (back t mine) same)));
  all = λ l there other live. are.all l there (λ t mine same. other t (into t mine) same) live;
  distinct = are.distinct;
}

-- ---- over a directory

-- first: the tables that the checkpoint has
module _ (d : Directory) (is : IsDirectory d) (first : List Table) (lives others : List Lone) (distinct : AreDistinct (addrs_in lives)) (are : AreOfOthers first d.leaves lives others) where
  -- a leaf that is one of those that stay
  pub record IsStaying (l : Leaf) : Type 0 where
    pub other : IsOfOther first l
    pub there : Member (lone_as l) others
    pub mine : Member (lone_as l) lives
    pub live : is_live lives l ≡ true

  pub staying : (l : Leaf) → Contains d.leaves l → is_live others l ≡ true → IsStaying l
  staying l there live =
      let x = live_as others l live in
      let one = are.each x.lone x.there in
      let m = one.1.0 in
      let same : m ≡ l = same-id d m l is one.1.1 there (one.1.2 ∙ x.id) in
      let lone : x.lone ≡ lone_as l = lone_is x.lone l x.id (sym one.1.3 ∙ ap (λ (y : Leaf). y.entry.link.addr) same) in
      let mine : Member (lone_as l) lives = subst (λ (y : Lone). Member y lives) lone one.0 in
      record {
        other = subst (λ (y : Leaf). IsOfOther first y) same one.1.4;
        there = subst (λ (y : Lone). Member y others) lone x.there;
        mine = mine;
        live = live_by lives (lone_as l) l distinct mine refl refl;
      }

  -- their blocks are none that are captured, nor of the checkpoint before
  pub are_apart : (old : Option Stored) (captured before : List Addr) → AreLone old lives → NoneOfOthers first d.leaves lives captured → ((a : Addr) → Member a before → IsBody old a) → AreApartFrom old lives captured before others
  are_apart old captured before lone none bodies = record {
    lone = lone;
    among = λ x there. (are.each x there).0;
    distinct = are.distinct distinct;
    apart = λ x a there caught same.
        let one = are.each x there in
        let l = one.1.0 in
        let at : x.addr.offset ≡ l.entry.link.addr.offset = ap (λ (b : Addr). b.offset) (sym one.1.3) in
        none l one.1.1 (live_by lives x l distinct one.0 at (sym one.1.2)) one.1.4 a caught (same ∙ at);
    elsewhere = λ x a there own same. body_apart old lives x a lone (are.each x there).0 (bodies a own) same;
  }

  pub led_still : (known : List Table) → AreLedTo known lives d.leaves → AreLedTo known others d.leaves
  led_still known led x there = led x (are.each x there).0

  -- ---- what is written of leaves

  module _ (had : Written) (more : List LeafPart) (of : AreOfTables first d.leaves more) where
    -- none of it is of such a leaf
    none_of : (l : Leaf) → Contains d.leaves l → IsOfOther first l → (some : List LeafPart) → AreOfTables first d.leaves some → NoneOf l.id some
    none_of l there other [] of_some = tt
    none_of l there other (p ∷ some) of_some = (
      (λ same.
          let t = of_some.0.1 in
          let m = of_some.0.3.0 in
          let one : m ≡ l = same-id d m l is (of_there t.number d.leaves m of_some.0.3.1) there (of_some.0.3.2 ∙ same) in
          let table : m.table ≡ t.number = (in_table t.number d.leaves m (member_of (leaves_of t.number d.leaves) m of_some.0.3.1)).1 in
          other t (get_member first of_some.0.0 t of_some.0.2) (ap (λ (y : Leaf). y.table) (sym one) ∙ table)),
      none_of l there other some of_some.1,
    )

    pub unwritten : (l : Leaf) → Contains d.leaves l → IsOfOther first l → with_parts had more l.id ≡ had l.id
    unwritten l there other = with_none had more l.id (none_of l there other more of)

    -- the leaves of its table are all as they were
    table_unwritten : (l : Leaf) → IsOfOther first l → parts_of (with_parts had more) (leaves_of l.table d.leaves) ≡ parts_of had (leaves_of l.table d.leaves)
    table_unwritten l other = parts_alike (with_parts had more) had (leaves_of l.table d.leaves) (all_made (λ (m : Leaf). with_parts had more m.id ≡ had m.id) (leaves_of l.table d.leaves) (λ m mine.
        let own = in_table l.table d.leaves m mine in
        unwritten m (contains_of d.leaves m own.0) (λ t among same. other t among (sym own.1 ∙ same))))

    pub since_still : (old next : Option Stored) → AreLone next others → AreSince old lives d had → AreSince next others d (with_parts had more)
    since_still old next lone since = record {
      lone = lone;
      given = λ x there. since.given x (are.each x there).0;
      leaf = λ l there live.
          let own = staying l there live in
          record { there = own.there; none = unwritten l there own.other ∙ (since.leaf l there own.live).none };
      apart = λ l there live.
          let own = staying l there live in
          subst (λ (es : List Entry). LeadApart (links_in es)) (sym (table_unwritten l own.other)) (since.apart l there own.live);
    }

    -- of a table without a place nothing is written
    pub written_still : (known : List Table) (next count : ℕ) (was places : List TreePlace) → NumbersAscend 1 known next → first ≡ take count known → length was ≤ count → length places ≡ count → AreWritten known lives d had was → AreWritten known others d (with_parts had more) places
    written_still known next count was places ascend firsts few many written = record {
      later = λ id late. with_none had more id (later_none d more id is (of_tables first d.leaves more of) late) ∙ written.later id late;
      made_since = λ i t l at none there its dead.
          let past : count ≤ i = behind i none in
          let other : IsOfOther first l = λ u mine same.
          let j = member_at u (take count known) (subst (λ (ts : List Table). Member u ts) firsts mine) in
          let two = take_get count known j.0 u j.1 in
          let met = place_one 1 known next i j.0 t u ascend at two.0 (sym its ∙ same) in
          omega (arith, met, past, two.1) in
          let was_dead : is_live lives l ≡ false = elim (cases_Bool (is_live lives l)) [
            | inr isnt ↦ isnt
            | inl live ↦ absurd (false≢true (sym dead ∙ are.all l there other live))
          ] in
          let own = written.made_since i t l at (none_at i (omega (arith, few, past))) there its was_dead in
          (in_alike (with_parts had more) had l (unwritten l there other) ∙ own.0, own.1);
    }
      where
        behind : (i : ℕ) → slice_get places i ≡ None → count ≤ i
        behind i none = elim (cases_lt i count) [
          | inr past ↦ past
          | inl low ↦ (let p = get_within places i (omega (arith, low, many)) in absurd (none_some (sym none ∙ p.1)))
        ]

        none_at : (i : ℕ) → length was ≤ i → slice_get was i ≡ None
        none_at i past = by (slice_get was i) refl
          where
            by : (o : Option TreePlace) → slice_get was i ≡ o → slice_get was i ≡ None
            by None is_none = is_none
            by (Some p) some = absurd (let low = slice_get_within was i p some in omega (arith, low, past))
