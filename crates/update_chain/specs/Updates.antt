-- A chain as the list of its updates, newest first: what each call makes of it, and what a read of it answers.
use Rattle.std.specs.Prelude.{ℕ, Bool, true, false, ◌&&◌, ◌||◌, ◌==◌, not, nat_le, List, [], ◌∷◌, find, filter, Option, Some, None, if◌then◌else◌}
use Rattle.item.specs.declared.Change.{Change}
use Rattle.item.specs.declared.Change.TheVariants.{Put, Remove}
use Rattle.stamp.specs.declared.Name.{Name}
use Rattle.stamp.specs.declared.Version.{Version}
use Rattle.stamp.specs.declared.View.{View}
use Rattle.kv_model.specs.History.{name_eq, reads_at, down_to, is_stable}
use Rattle.kv_model.specs.Pending.{Update as ModelUpdate}
use Rattle.snapshot.specs.Past.{is_below}
use Rattle.snapshot.specs.Sight.{is_seen, sight_of}
use Rattle.update_chain.specs.declared.update.Update.{Update}

-- the model's update
abbrev pub update_in : Update → ModelUpdate
update_in u = record { version = u.version; prepared = u.prepared }

-- a committed version in a chain
abbrev pub unmarked_update : Version Change → Update
unmarked_update v = record { version = v; prepared = 0 }

abbrev pub is_named : Name → Update → Bool
is_named name u = name_eq u.version.window.name name

-- the newest update, where it is of this name, is changed
abbrev pub front_changed : Name → (Update → Update) → List Update → List Update
front_changed name change [] = []
front_changed name change (u ∷ older) = (if is_named name u then change u else u) ∷ older

-- the update on top, in place of an earlier one of its own name
abbrev pub installed : Update → List Update → List Update
installed u [] = u ∷ []
installed u (v ∷ older) = if is_named u.version.window.name v then u ∷ older else u ∷ (v ∷ older)

-- the newest update is of this name
abbrev pub is_led_by : Name → List Update → Bool
is_led_by name [] = false
is_led_by name (u ∷ older) = is_named name u

-- committed at these stamps; the mark goes
abbrev pub stamped : ℕ → ℕ → Update → Update
stamped commit durable u = record {
  version = record { window = record { name = u.version.window.name; commit = commit; durable = durable }; change = u.version.change };
  prepared = 0;
}

abbrev pub marked : ℕ → Update → Update
marked prepare u = record { version = u.version; prepared = prepare }

-- without the newest update, where it is of this name
abbrev pub undone : Name → List Update → List Update
undone name [] = []
undone name (u ∷ older) = if is_named name u then older else u ∷ older

-- ---- reads

abbrev pub is_own : View → Update → Bool
is_own view u = not (view.own == 0) && (u.version.window.name.run == view.run && (u.version.window.name.id == view.own))

-- the stamp that a read stamp has to admit: where it is marked, that of its prepare
abbrev pub stamp_at : Update → ℕ
stamp_at u = if u.prepared == 0 then u.version.window.commit else u.prepared

-- the own update, or one that is seen and whose stamp is admitted
abbrev pub decides : View → Update → Bool
decides view u = is_own view u || (is_seen (sight_of view) u.version.window.name && reads_at view.read (stamp_at u))

-- what a read of a chain answers
pub data Reply : Type 0 where
  Gives : (value : List ℕ) → Reply
  IsRemoved : Reply
  -- with the update of this id, which is prepared
  Conflicts : (id : ℕ) → Reply
  -- nothing here is admitted; there may be older versions elsewhere
  IsOlder : Reply

abbrev pub reply_of : Change → Reply
reply_of (Put value) = Gives value
reply_of Remove = IsRemoved

abbrev pub reply_by : View → Update → Reply
reply_by view u = if is_own view u || (u.prepared == 0) then reply_of u.version.change else Conflicts u.version.window.name.id

abbrev pub reply_to : View → Option Update → Reply
reply_to view None = IsOlder
reply_to view (Some u) = reply_by view u

-- the newest update that decides
abbrev pub read_of : View → List Update → Reply
read_of view chain = reply_to view (find (decides view) chain)

-- ---- trims

-- what is older is out of reach: committed, durable at the pin, and seen by every snapshot
abbrev pub covers_at : ℕ → Name → Update → Bool
covers_at pin floor u = (u.prepared == 0) && (nat_le u.version.window.durable pin && is_below u.version.window.name floor)

-- down to the newest update that covers, or all
abbrev pub trimmed : ℕ → Name → List Update → List Update
trimmed pin floor chain = down_to (covers_at pin floor) chain

-- ---- rollbacks to stable

-- what is durable at the stable stamp, where there is one
abbrev pub rolled_back : ℕ → List Update → List Update
rolled_back stable chain = filter (λ u. is_stable stable u.version) chain

-- the newest update stays, where there is one
abbrev pub does_front_stay : ℕ → Option Update → Bool
does_front_stay stable None = true
does_front_stay stable (Some u) = is_stable stable u.version
