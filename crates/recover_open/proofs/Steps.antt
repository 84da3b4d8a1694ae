-- The steps of a recovery.
use Rattle.std.specs.Prelude.{◌≡◌, ◌≢◌, ◌⊎◌, ℕ, ◌+◌, ◌<◌, ◌≤◌, List, [], ◌∷◌, ◌++◌, length, map, take, false, Option, Some, None, refl}
use Rattle.std.proofs.Common.{inl, inr, sym, ◌∙◌, ap, subst, arith, get_or}
use Rattle.std.proofs.lemmas.Bool.{false≢true}
use Rattle.std.proofs.lemmas.List.{length-map, map_push, take_all}
use Rattle.extent_list.specs.Space.{Space, IsFree, end_of as space_end}
use Rattle.device_layout.specs.declared.addr.Addr.{Addr}
use Rattle.device_layout.specs.declared.slot.Slot.{Slot}
use Rattle.device_layout.specs.Slots.{addr_in}
use Rattle.turtle.specs.Slots.{Chooses, IsCorruptAt}
use Rattle.block_mgr.specs.declared.found.Found.{Found}
use Rattle.block_mgr.specs.Blocks.{Books}
use Rattle.block_mgr.specs.Places.{Spoils}
use Rattle.block_mgr.specs.Open.{AreStored, found_at}
use Rattle.row_page.specs.Rows.{Row}
use Rattle.le_codec.specs.Images.{block_of}
use Rattle.stored.specs.Records.{Root, TableRoot, Record, record_image, IsRecord}
use Rattle.stored.specs.TableTree.{Entry, TableTree}
use Rattle.wt_code.specs.declared.refusals.Refusal.{Refusal}
use Rattle.wt_code.specs.declared.refusals.Refusal.TheVariants.{DiskFault, Corrupt}
use Rattle.checkpoint_record.proofs.Lists.{take_step}
use Rattle.device_leaf.specs.Damage.{IsChosen}
use Rattle.device_leaf.specs.Openings.{Serves, last_number}
use Rattle.device_leaf.proofs.Opens.{IsRecordBlock, no_blank}
use Rattle.recover_open.specs.declared.opening.Kept.{Kept}
use Rattle.recover_open.specs.declared.opening.Recovered.{Recovered}
use Rattle.tree_open.specs.declared.place.TreePlace.{TreePlace}
use Rattle.tree_open.specs.declared.place.Upper.{Upper}
use Rattle.device_leaf.specs.declared.place.Place.{Place}
use Rattle.wt_code.specs.declared.refusals.Refusal.TheVariants.{Limit as Refusal_Limit}
use Rattle.wt_code.specs.declared.refusals.Limit.TheVariants.{Checkpoints, Image}
use Rattle.tree_open.specs.Trees.{InnerIs, HasTree, IsPlaceOf}
use Rattle.tree_open.specs.Damage.{Refused, InnerSpoils}
use Rattle.tree_open.proofs.Steps.{refused_more}
use Rattle.recover_open.specs.declared.surveying.Above.{Above}
use Rattle.recover_open.specs.declared.surveying.Surveyed.{Surveyed}
use Rattle.recover_open.specs.Bare.{IsBare, HaveTrees, HaveUppers, AllClimb, ArePlaces, bare_stored, kept_of, tree_rows}
use Rattle.recover_open.specs.Leaves.{TreeIs}
use Rattle.recover_open.specs.Damage.{Names, HasNoRecord, IsAmong, CannotStand, IsDamage, RecordSpoils, LeavesSpoil, TreeSpoils, blocks_found, uppers_found}
use Rattle.recover_open.specs.Recoveries.{Counts, KeepsNone, KeepsOr, IsRecovered, InForm, RecoveryRefused, TreesAre, TreesRefused, IsAssembled, placed_roots, table_roots}
use Rattle.recover_open.specs.Surveys.{Surveys, SurveysOr, IsSurveyed, AboveInForm, InFormAbove, SurveyRefused, IsSound, IsRecordOf, RecordRefused, RefusesBlocks, IsPutTogether, IsBlankSurvey}
use Rattle.recover_open.proofs.UpperPlaces.{uppers_are}
use Rattle.recover_open.proofs.Devices.{same_record, run_read, not_bare, serves}

-- ---- the record

pub recorded : (bytes block : List ℕ) (slot : Slot) (r : Record) → IsRecordBlock bytes slot block → IsRecordOf slot block r → Names bytes slot r
recorded bytes block slot r is of = record { chosen = is.chosen; there = is.there; is_record = of.own.is_record; is = sym is.is ∙ of.is; sequence = of.own.sequence }

-- a record of another sequence is the only one of its block
pub other_sequence : (slot : Slot) (block : List ℕ) (r : Record) → IsRecord r → block ≡ block_of (record_image r) → r.sequence ≢ slot.sequence → HasNoRecord slot block
other_sequence slot block r is spelled other q also same too = other (ap (λ (x : Record). x.sequence) (same_record block r q is also spelled too) ∙ same)

pub record_refused : (fault known : Type 0) (bytes block : List ℕ) (slot : Slot) (r : Refusal) → RecordRefused slot block r → (known → IsRecordBlock bytes slot block) → Refused fault known (RecordSpoils bytes) r
record_refused fault known bytes block slot r (inl none) there = inr (inl none)
record_refused fault known bytes block slot r (inr (is, none)) there =
    inr (inr (
      slot.offset,
      slot.sum,
      slot.sum,
      is,
      λ k. record { slot = slot; chosen = (there k).chosen; place = refl; sum = refl; why = inr (refl, subst (λ (l : List ℕ). HasNoRecord slot l) (there k).is none) },
    ))

-- a survey is refused for a record at fault, and for one that is not bare
pub at_fault : (fault known : Type 0) (bytes : List ℕ) (r : Refusal) → Refused fault known (RecordSpoils bytes) r → SurveyRefused fault known bytes r
at_fault fault known bytes r (inl failed) = inl failed
at_fault fault known bytes r (inr (inl none)) = inr (inl none)
at_fault fault known bytes r (inr (inr (at, want, found, is, why))) = inr (inr (inr (at, want, found, is, λ k. inr (inl (why k)))))

pub has_history : (fault known : Type 0) (bytes : List ℕ) (slot : Slot) (r : Record) (e : Refusal) → e ≡ Refusal_Limit Image → (known → Names bytes slot r) → (IsBare r → ⊥) → SurveyRefused fault known bytes e
has_history fault known bytes slot r e is names none =
    inr (inr (inl (
      is,
      (λ k s on bare. not_bare bytes slot r (names k).chosen (names k).is_record (names k).is none s on bare),
      λ k blank. no_blank bytes slot (names k).chosen blank,
    )))

-- ---- no run may follow

most_run : (q : Record) → IsRecord q → last_number ≤ q.run → q.run ≡ last_number
most_run q is last = omega (arith, last, is.run.1, is.sequence)

pub last_run : (fault known : Type 0) (bytes : List ℕ) (place : Place) (a : Above) → (known → Surveys bytes place a) → last_number ≤ a.record.run → (r : Refusal) → r ≡ Refusal_Limit Checkpoints → RecoveryRefused fault known bytes r
last_run fault known bytes place a surveyed last r is = inr (inr (inl (
  is,
  λ k content reads.
      let names = (surveyed k).names in
      run_read bytes (surveyed k).slot a.record names.chosen names.is_record names.is content reads ∙ most_run a.record names.is_record last,
)))

pub record_spoilt : (bytes : List ℕ) (slot : Slot) (a : Addr) (found : ℕ) → a ≡ addr_in slot → IsChosen bytes slot → Spoils bytes a found → RecordSpoils bytes a.offset a.sum found
record_spoilt bytes slot a found is chosen spoils = record {
  slot = slot;
  chosen = chosen;
  place = ap (λ (x : Addr). x.offset) is;
  sum = ap (λ (x : Addr). x.sum) is;
  why = inl (subst (λ (x : Addr). Spoils bytes x found) is spoils);
}

-- ---- the trees

have_push : (bytes : List ℕ) (tables : List TableRoot) (trees : List TableTree) (t : TableRoot) (tree : TableTree) → HaveTrees bytes tables trees → HasTree bytes t.root tree → HaveTrees bytes (tables ++ t ∷ []) (trees ++ tree ∷ [])
have_push bytes [] [] t tree have is = (is, tt)
have_push bytes [] (other ∷ trees) t tree have is = absurd have
have_push bytes (u ∷ tables) [] t tree have is = absurd have
have_push bytes (u ∷ tables) (other ∷ trees) t tree have is = (have.0, have_push bytes tables trees t tree have.1 is)

places_push : (ps : List TreePlace) (tables : List TableRoot) (trees : List TableTree) (p : TreePlace) (t : TableRoot) (tree : TableTree) → ArePlaces ps tables trees → p.root ≡ t.root → IsPlaceOf p tree → ArePlaces (ps ++ p ∷ []) (tables ++ t ∷ []) (trees ++ tree ∷ [])
places_push [] [] [] p t tree are root is = (root, is, tt)
places_push [] [] (other ∷ trees) p t tree are root is = absurd are
places_push [] (u ∷ tables) trees p t tree are root is = absurd are
places_push (q ∷ ps) [] trees p t tree are root is = absurd are
places_push (q ∷ ps) (u ∷ tables) [] p t tree are root is = absurd are
places_push (q ∷ ps) (u ∷ tables) (other ∷ trees) p t tree are root is = (are.0, are.1, places_push ps tables trees p t tree are.2 root is)

pub trees_none : (bytes : List ℕ) (tables : List TableRoot) (ps : List TreePlace) (leaves : List (List Row)) → ps ≡ [] → leaves ≡ [] → TreesAre bytes (take 0 tables) ps leaves
trees_none bytes tables ps leaves none also = record { trees = []; have = tt; stand = subst (λ (l : List TreePlace). ArePlaces l [] []) (sym none) tt; rows_are = also }

pub trees_more : (bytes : List ℕ) (tables : List TableRoot) (i : ℕ) (t : TableRoot) (root : Root) (ps all : List TreePlace) (leaves every : List (List Row)) (p : TreePlace) (rows : List Row) → i < length tables → t ≡ get_or tables i t → root ≡ t.root → TreesAre bytes (take i tables) ps leaves
    → TreeIs bytes root p rows → all ≡ ps ++ p ∷ [] → every ≡ leaves ++ rows ∷ [] → TreesAre bytes (take (i + 1) tables) all every
trees_more bytes tables i t root ps all leaves every p rows lt is same are tree added also =
    let step : take (i + 1) tables ≡ take i tables ++ t ∷ [] = take_step tables i t lt is in
    record {
      trees = are.trees ++ tree.tree ∷ [];
      have = subst (λ (l : List TableRoot). HaveTrees bytes l (are.trees ++ tree.tree ∷ [])) (sym step) (have_push bytes (take i tables) are.trees t tree.tree are.have (subst (λ (x : Root). HasTree bytes x tree.tree) same tree.has));
      stand = subst (λ (l : List TreePlace). ArePlaces l (take (i + 1) tables) (are.trees ++ tree.tree ∷ [])) (sym added)
          (subst (λ (l : List TableRoot). ArePlaces (ps ++ p ∷ []) l (are.trees ++ tree.tree ∷ [])) (sym step) (places_push ps (take i tables) are.trees p t tree.tree are.stand (tree.is_root ∙ same) tree.place));
      rows_are = also ∙ ap (λ (l : List (List Row)). l ++ rows ∷ []) are.rows_are ∙ ap (λ (r : List Row). map tree_rows are.trees ++ r ∷ []) tree.rows_are ∙ sym (map_push tree_rows are.trees tree.tree);
    }

pub trees_whole : (bytes : List ℕ) (tables : List TableRoot) (i : ℕ) (ps : List TreePlace) (leaves : List (List Row)) → length tables ≤ i → TreesAre bytes (take i tables) ps leaves → TreesAre bytes tables ps leaves
trees_whole bytes tables i ps leaves le are = subst (λ (l : List TableRoot). TreesAre bytes l ps leaves) (take_all i tables le) are

-- the roots of the places
pub roots_more : (tables : List TableRoot) (i : ℕ) (t : TableRoot) (root : Root) (ps all : List TreePlace) (p : TreePlace) → i < length tables → t ≡ get_or tables i t → root ≡ t.root → placed_roots ps ≡ table_roots (take i tables) → p.root ≡ root → all ≡ ps ++ p ∷ []
    → placed_roots all ≡ table_roots (take (i + 1) tables)
roots_more tables i t root ps all p lt is same were placed added =
    ap placed_roots added
    ∙ map_push {X = TreePlace} (λ q. q.root) ps p
    ∙ ap (λ (l : List Root). l ++ p.root ∷ []) were
    ∙ ap (λ (r : Root). table_roots (take i tables) ++ r ∷ []) (placed ∙ same)
    ∙ sym (map_push {X = TableRoot} (λ u. u.root) (take i tables) t)
    ∙ ap table_roots (sym (take_step tables i t lt is))

-- what is refused of a tree that is read later
pub tree_later : (fault later known still : Type 0) (bytes now : List ℕ) (tables : List TableRoot) (t : TableRoot) (root : Root) (r : Refusal) → IsAmong tables t → root ≡ t.root → Refused later still (TreeSpoils now root) r → (later → fault) → (known → still) → now ≡ bytes → TreesRefused fault known bytes tables r
tree_later fault later known still bytes now tables t root r among is refused more k same =
    inr (
      t,
      among,
      refused_more later fault still known (TreeSpoils now root) (TreeSpoils bytes t.root) r more k
          (λ at want found h spoils. subst (λ (x : Root). TreeSpoils bytes x at want found) is (subst (λ (l : List ℕ). TreeSpoils l root at want found) same spoils)) refused,
    )

pub trees_refused : (fault later known still : Type 0) (bytes now : List ℕ) (tables : List TableRoot) (r : Refusal) → TreesRefused later still now tables r → (later → fault) → (known → still) → now ≡ bytes
    → (known → (t : TableRoot) → IsAmong tables t → (at want found : ℕ) → TreeSpoils bytes t.root at want found → IsDamage bytes at want found) → SurveyRefused fault known bytes r
trees_refused fault later known still bytes now tables r (inl none) more k same bad = inr (inl none)
trees_refused fault later known still bytes now tables r (inr (t, among, inl failed)) more k same bad = inl (failed.0, more failed.1)
trees_refused fault later known still bytes now tables r (inr (t, among, inr (inl none))) more k same bad = inr (inl none)
trees_refused fault later known still bytes now tables r (inr (t, among, inr (inr (at, want, found, is, spoils)))) more k same bad =
    inr (inr (inr (at, want, found, is, λ h. bad h t among at want found (subst (λ (l : List ℕ). TreeSpoils l t.root at want found) same (spoils (k h))))))

-- a recovery is refused for what a survey is
pub survey_refused : (fault known : Type 0) (bytes : List ℕ) (r : Refusal) → SurveyRefused fault known bytes r → RecoveryRefused fault known bytes r
survey_refused fault known bytes r (inl failed) = inl failed
survey_refused fault known bytes r (inr (inl none)) = inr (inl none)
survey_refused fault known bytes r (inr (inr (inl wide))) = inr (inr (inr (inl wide)))
survey_refused fault known bytes r (inr (inr (inr damage))) = inr (inr (inr (inr damage)))

pub survey_further : (fault later : Type 0) (h k : Type 0) (bytes : List ℕ) (r : Refusal) → SurveyRefused later k bytes r → (later → fault) → (h → k) → SurveyRefused fault h bytes r
survey_further fault later h k bytes r (inl failed) more known = inl (failed.0, more failed.1)
survey_further fault later h k bytes r (inr (inl none)) more known = inr (inl none)
survey_further fault later h k bytes r (inr (inr (inl (is, why, shut)))) more known = inr (inr (inl (is, (λ x. why (known x)), λ x. shut (known x))))
survey_further fault later h k bytes r (inr (inr (inr (at, want, found, is, why)))) more known = inr (inr (inr (at, want, found, is, λ x. why (known x))))

-- ---- one tree

pub inner_refused : (fault known : Type 0) (bytes : List ℕ) (root : Root) (r : Refusal) → Refused fault known (InnerSpoils bytes root) r → Refused fault known (TreeSpoils bytes root) r
inner_refused fault known bytes root r refused = refused_more fault fault known known (InnerSpoils bytes root) (TreeSpoils bytes root) r (λ h. h) (λ h. h) (λ at want found h spoils. inl spoils) refused

pub leaves_refused : (fault later known still : Type 0) (bytes now : List ℕ) (root : Root) (es read : List Entry) (addrs : List Addr) (r : Refusal) → Refused later still (LeavesSpoil now read) r → (later → fault) → (known → still) → now ≡ bytes → read ≡ es → (known → InnerIs bytes root es addrs)
    → Refused fault known (TreeSpoils bytes root) r
leaves_refused fault later known still bytes now root es read addrs r refused more k same is inner =
    refused_more later fault still known (LeavesSpoil now read) (TreeSpoils bytes root) r more k
    (λ at want found h spoils. inr (record {
      es = es;
      addrs = addrs;
      inner = inner h;
      leaves = subst (λ (l : List Entry). LeavesSpoil bytes l at want found) is (subst (λ (l : List ℕ). LeavesSpoil l read at want found) same spoils);
    })) refused

-- ---- the books

pub blocks_refused : (fault known : Type 0) (bytes : List ℕ) (slot : Slot) (names : Record) (uppers : List Upper) (len : ℕ) (r : Refusal) → RefusesBlocks (uppers_found slot uppers) len r → (known → len ≡ length bytes) → (known → Names bytes slot names) → IsBare names
    → (known → HaveUppers bytes names.tables uppers) → SurveyRefused fault known bytes r
blocks_refused fault known bytes slot names uppers len r (inl none) long there bare have = inr (inl none)
blocks_refused fault known bytes slot names uppers len r (inr (i, within, is, why)) long there bare have =
    let f = found_at (uppers_found slot uppers) i in
    inr (inr (inr (
      f.addr.offset,
      f.addr.sum,
      f.addr.sum,
      is,
      λ k. inr (inr (inr (record {
        slot = slot;
        names = names;
        there = there k;
        bare = bare;
        uppers = uppers;
        have = have k;
        index = i;
        within = within;
        place = refl;
        sum = refl;
        same = refl;
        why = subst (λ n. CannotStand (uppers_found slot uppers) n i) (long k) why;
      }))),
    )))

-- ---- what was recovered

-- the rows that are kept, tree by tree
kept_rows : (r : Record) (trees : List TableTree) → map (kept_of r) (map tree_rows trees) ≡ map {A = TableTree} (λ t. kept_of r (tree_rows t)) trees
kept_rows r [] = refl
kept_rows r (t ∷ trees) = ap (λ (l : List (List Row)). kept_of r (tree_rows t) ∷ l) (kept_rows r trees)

pub recovered_is : (bytes : List ℕ) (place : Place) (a : Above) (ps : List TreePlace) (leaves : List (List Row)) (o : Recovered) → Surveys bytes place a → a.record.run < last_number → TreesAre bytes a.record.tables ps leaves → IsAssembled place a.record ps leaves o → IsRecovered bytes o
recovered_is bytes place a ps leaves o surveyed run are made = subst (λ (k : Option Kept). KeepsOr bytes o.place k) (sym made.is) (record {
  slot = slot;
  trees = trees;
  serves = subst (λ (q : Record). Serves bytes o.place (Some (bare_stored slot q trees))) (sym made.names) (subst (λ (p : Place). Serves bytes p (Some (bare_stored slot r trees))) (sym made.place) there);
  books = subst (λ (q : Record). Counts (blocks_found slot q.tables trees) o.place.blocks) (sym made.names) (subst (λ (p : Place). Counts (blocks_found slot r.tables trees) p.blocks) (sym made.place) counted);
  kept = made.rows_are ∙ ap (λ (l : List (List Row)). map (kept_of r) l) are.rows_are ∙ kept_rows r trees ∙ ap (λ (q : Record). map {A = TableTree} (λ t. kept_of q (tree_rows t)) trees) (sym made.names);
  places = subst (λ (l : List TreePlace). ArePlaces l made.kept.record.tables trees) (sym made.places) (subst (λ (q : Record). ArePlaces ps q.tables trees) (sym made.names) are.stand);
  bare = subst (λ (q : Record). IsBare q) (sym made.names) surveyed.bare;
  run = subst (λ (q : Record). q.run < last_number) (sym made.names) run;
  sequence = ap (λ (q : Record). q.sequence) made.names ∙ surveyed.names.sequence;
})
  where
    slot : Slot
    slot = surveyed.slot

    r : Record
    r = a.record

    trees : List TableTree
    trees = are.trees

    same : uppers_found slot a.uppers.items ≡ blocks_found slot r.tables trees
    same = uppers_are bytes slot r.tables a.uppers.items trees surveyed.have are.have

    counted : Counts (blocks_found slot r.tables trees) place.blocks
    counted = subst (λ (l : List Found). Counts l place.blocks) same surveyed.books

    there : Serves bytes place (Some (bare_stored slot r trees))
    there = serves bytes slot r trees surveyed.names surveyed.bare are.have (subst (λ (l : List Found). AreStored l (length bytes)) same surveyed.stored) place surveyed.stands surveyed.unsynced counted.has

pub kept_in_form : (place : Place) (a : Above) (ps : List TreePlace) (leaves : List (List Row)) (o : Recovered) → AboveInForm a → a.record.run < last_number → length leaves ≡ length a.record.tables → placed_roots ps ≡ table_roots a.record.tables → IsAssembled place a.record ps leaves o → InForm o.kept
kept_in_form place a ps leaves o form run count roots made = subst (λ (k : Option Kept). InForm k) (sym made.is) (record {
  is_record = subst (λ (q : Record). IsRecord q) (sym made.names) form.is_record;
  bare = subst (λ (q : Record). IsBare q) (sym made.names) form.bare;
  run = subst (λ (q : Record). q.run < last_number) (sym made.names) run;
  roots = ap placed_roots made.places ∙ roots ∙ ap (λ (q : Record). table_roots q.tables) (sym made.names);
  count = ap length made.rows_are ∙ length-map leaves (kept_of a.record) ∙ count ∙ ap (λ (q : Record). length q.tables) (sym made.names);
  leaves = leaves;
  kept = made.rows_are ∙ ap (λ (q : Record). map (kept_of q) leaves) (sym made.names);
})

-- ---- what was surveyed

pub surveyed_is : (bytes : List ℕ) (slot : Slot) (r : Record) (uppers : List Upper) (books : Books) (o : Surveyed) → Names bytes slot r → IsSound slot r → HaveUppers bytes r.tables uppers → AreStored (uppers_found slot uppers) (length bytes) → books.is_synced ≡ false → Counts (uppers_found slot uppers) books
    → IsPutTogether slot r uppers books o → IsSurveyed bytes o
surveyed_is bytes slot r uppers books o names sound have stored fresh counts made = subst (λ (k : Option Above). SurveysOr bytes o.place k) (sym made.is) (record {
  slot = slot;
  stands = made.slot_is;
  names = subst (λ (q : Record). Names bytes slot q) (sym made.names) names;
  bare = subst (λ (q : Record). IsBare q) (sym made.names) sound.bare;
  have = subst (λ (l : List Upper). HaveUppers bytes made.above.record.tables l) (sym made.uppers_are) (subst (λ (q : Record). HaveUppers bytes q.tables uppers) (sym made.names) have);
  stored = subst (λ (l : List Upper). AreStored (uppers_found slot l) (length bytes)) (sym made.uppers_are) stored;
  books = subst (λ (l : List Upper). Counts (uppers_found slot l) o.place.blocks) (sym made.uppers_are) (subst (λ (b : Books). Counts (uppers_found slot uppers) b) (sym made.blocks_are) counts);
  unsynced = ap (λ (b : Books). b.is_synced) made.blocks_are ∙ fresh;
})

pub above_in_form : (slot : Slot) (r : Record) (uppers : List Upper) (books : Books) (o : Surveyed) → IsSound slot r → AllClimb uppers → length uppers ≡ length r.tables → IsPutTogether slot r uppers books o → InFormAbove o.above
above_in_form slot r uppers books o sound climb count made = subst (λ (k : Option Above). InFormAbove k) (sym made.is) (record {
  is_record = subst (λ (q : Record). IsRecord q) (sym made.names) sound.is_record;
  bare = subst (λ (q : Record). IsBare q) (sym made.names) sound.bare;
  climb = subst (λ (l : List Upper). AllClimb l) (sym made.uppers_are) climb;
  count = ap (λ (l : List Upper). length l) made.uppers_are ∙ count ∙ ap (λ (q : Record). length q.tables) (sym made.names);
})

pub blank_in_form : (o : Surveyed) → IsBlankSurvey o → InFormAbove o.above
blank_in_form o none = subst (λ (k : Option Above). InFormAbove k) (sym none.none) tt

pub nothing_kept : (bytes : List ℕ) (o : Surveyed) → IsBlankSurvey o → 8192 ≤ length bytes → Chooses bytes None → KeepsNone bytes o.place
nothing_kept bytes o none long shut = record {
  serves = record {
    still = record { long = long; shut = shut };
    slot = none.slot;
    unsynced = none.unsynced;
    in_use = tt;
    space = record {
      end_is = ap space_end none.space;
      free = λ b free. absurd (false≢true (subst (λ (x : Space). IsFree x b) none.space free).1);
      rest = λ b low high away. absurd (omega (arith, ap space_end none.space, low, high));
    };
    within = omega (arith, ap space_end none.space, long);
  };
  books = none.books;
}

pub nothing_is : (bytes : List ℕ) (o : Surveyed) → IsBlankSurvey o → 8192 ≤ length bytes → Chooses bytes None → IsSurveyed bytes o
nothing_is bytes o none long shut = subst (λ (k : Option Above). SurveysOr bytes o.place k) (sym none.none) (nothing_kept bytes o none long shut)

-- a slot at fault
pub slot_refused : (fault known : Type 0) (bytes : List ℕ) (r : Refusal) → ((r ≡ DiskFault) × fault) ⊎ ((at : ℕ) × (r ≡ Corrupt at 0 0)) → (known → (r ≡ DiskFault) ⊎ ((at : ℕ) × IsCorruptAt bytes at × (r ≡ Corrupt at 0 0))) → SurveyRefused fault known bytes r
slot_refused fault known bytes r (inl failed) why = inl failed
slot_refused fault known bytes r (inr (at, is)) why = inr (inr (inr (
  at,
  0,
  0,
  is,
  λ k. elim (why k) [
    | inl failed ↦ absurd (no_fault (sym failed ∙ is))
    | inr (place, corrupt, same) ↦ inl (record { corrupt = subst (λ (m : ℕ). IsCorruptAt bytes m) (one_place place at (sym same ∙ is)) corrupt; sums = (refl, refl) })
  ],
)))
  where
    one_place : (x y : ℕ) → Corrupt x 0 0 ≡ Corrupt y 0 0 → x ≡ y
    one_place x y same = cc

    no_fault : DiskFault ≡ Corrupt at 0 0 → ⊥
    no_fault same = cc

pub refused_further : (fault later : Type 0) (h k : Type 0) (bytes : List ℕ) (r : Refusal) → RecoveryRefused later k bytes r → (later → fault) → (h → k) → RecoveryRefused fault h bytes r
refused_further fault later h k bytes r (inl failed) more known = inl (failed.0, more failed.1)
refused_further fault later h k bytes r (inr (inl none)) more known = inr (inl none)
refused_further fault later h k bytes r (inr (inr (inl (is, why)))) more known = inr (inr (inl (is, λ x. why (known x))))
refused_further fault later h k bytes r (inr (inr (inr (inl (is, why, shut))))) more known = inr (inr (inr (inl (is, (λ x. why (known x)), λ x. shut (known x)))))
refused_further fault later h k bytes r (inr (inr (inr (inr (at, want, found, is, why))))) more known = inr (inr (inr (inr (at, want, found, is, λ x. why (known x)))))
