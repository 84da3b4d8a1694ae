-- What is made of a survey, and of one leaf, step by step.
use Rattle.std.specs.Prelude.{◌≡◌, ◌⊎◌, ℕ, suc, ◌≤◌, List, [], ◌∷◌, drop, slice_get, Option, Some, None, option_and_then, option_map}
use Rattle.wt_code.specs.declared.refusals.Refusal.{Refusal}
use Rattle.wt_code.specs.declared.refusals.Refusal.TheVariants.{Limit as Refusal_Limit}
use Rattle.wt_code.specs.declared.refusals.Limit.TheVariants.{Checkpoints, Tables}
use Rattle.kv_model.specs.History.{put_of}
use Rattle.stamp.specs.declared.version.Version.{Version}
use Rattle.row_page.specs.Changes.{PageChange, version_in}
use Rattle.row_page.specs.Rows.{Row}
use Rattle.reconcile.specs.Shows.{shown_at}
use Rattle.leaf_rows.specs.declared.marks.Marks.{Marks}
use Rattle.leaf_rows.specs.Rows.{version_at}
use Rattle.stored.specs.TableTree.{Entry, first_key}
use Rattle.stored.specs.Records.{Record}
use Rattle.inner_page.specs.Children.{IsUnderKey}
use Rattle.device_leaf.specs.Openings.{last_number}
use Rattle.device_leaf.specs.declared.place.Place.{Place}
use Rattle.recover_open.specs.declared.wholes.Whole.{Whole}
use Rattle.recover_open.specs.Surveys.{IsOfDisk}
use Rattle.recover_open.specs.Wholes.{SurveysWhole}
use Rattle.recover_open.specs.Damage.{EntrySpoils}
use Rattle.leaf_frame.specs.Leaf.{HeldLeaf}
use Rattle.leaf_load.specs.Loads.{IsLoaded}
use Rattle.device_read.specs.Merging.{later_of}
use Rattle.device_read.specs.Readers.{Held, IsReaderOf}
use Rattle.device_read.specs.Refusals.{HasNumbers, LacksNumbers}

-- why no engine could begin with this record
abbrev pub RefusesNumbers : Record → Refusal → Type 0
RefusesNumbers r refusal = ((refusal ≡ Refusal_Limit Checkpoints) × (last_number ≤ r.run)) ⊎ ((refusal ≡ Refusal_Limit Tables) × LacksNumbers r)

-- Why what a survey finds is not opened: a fault of the disk, want of memory, or that the numbers of its record are used up.
abbrev pub RefusesSurveyed : List ℕ → Refusal → Type 0
RefusesSurveyed bytes r = IsOfDisk r ⊎ ((place : Place) × (w : Whole) × SurveysWhole bytes place w × RefusesNumbers w.record r)

-- a reader may be opened on it, unless the numbers are used up
abbrev pub CanOpen : List ℕ → Type 0
CanOpen bytes = (h : Held) × IsReaderOf bytes h

-- the numbers of the record that a survey finds are not used up
abbrev pub HasNumbersAbove : List ℕ → Type 0
HasNumbersAbove bytes = (place : Place) (w : Whole) → SurveysWhole bytes place w → HasNumbers w.record

-- the device has the leaf of the i-th entry, and this was loaded of it
pub record IsLeafAt (bytes : List ℕ) (es : List Entry) (i : ℕ) (marks : Marks) (ids : List ℕ) (leaf : HeldLeaf) : Type 0 where
  pub entry : Entry
  pub is : slice_get es i ≡ Some entry
  pub loaded : IsLoaded bytes entry (first_key (drop (suc i) es)) marks ids leaf

-- no such leaf is where the i-th entry leads
pub record LeafSpoilsAt (bytes : List ℕ) (es : List Entry) (i at want found : ℕ) : Type 0 where
  pub entry : Entry
  pub is : slice_get es i ≡ Some entry
  pub spoils : EntrySpoils bytes entry (first_key (drop (suc i) es)) at want found

-- no such leaf is where the entry leads below which the key stands
abbrev pub KeySpoilsAt : List ℕ → List Entry → List ℕ → (at want found : ℕ) → Type 0
KeySpoilsAt bytes es key at want found = (i : ℕ) × IsUnderKey es key i × LeafSpoilsAt bytes es i at want found

-- the value that these rows give a key, None where they have none
abbrev pub value_shown : List ℕ → List Row → Option (List ℕ)
value_shown key rows = option_and_then (λ v. put_of v.change) (shown_at key rows)

-- the same with a record of the key beside them, where there is one: the later version tells
abbrev pub value_with : List ℕ → List Row → Option (Version PageChange) → Option (List ℕ)
value_with key rows newest = option_and_then (λ v. put_of v.change) (option_map version_in (later_of (version_at key rows) newest))

-- This is the value of the key, of the leaf below whose entry it stands and this record of it. Where there is no entry, there is none.
abbrev pub IsValueOf : List ℕ → List Entry → List ℕ → Marks → List ℕ → Option (Version PageChange) → Option (List ℕ) → Type 0
IsValueOf bytes [] key marks ids newest v = v ≡ None
IsValueOf bytes (e ∷ es) key marks ids newest v = (i : ℕ) × (leaf : HeldLeaf) × IsUnderKey (e ∷ es) key i × IsLeafAt bytes (e ∷ es) i marks ids leaf × (v ≡ value_with key leaf.page newest)
