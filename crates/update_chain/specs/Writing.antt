-- Whether a write of a key may be accepted, by the newest update that a frame has of it.
use Rattle.std.specs.Prelude.{◌≡◌, ℕ, Bool, ◌&&◌, ◌||◌, ◌==◌, List, [], ◌∷◌, Option, Some, None, map, if◌then◌else◌}
use Rattle.item.specs.declared.Change.{Change}
use Rattle.stamp.specs.declared.Version.{Version}
use Rattle.stamp.specs.declared.View.{View}
use Rattle.kv_model.specs.History.{reads_at, put_of}
use Rattle.kv_model.specs.Machine.{Machine, Transaction, Running, transaction_of}
use Rattle.kv_model.specs.Reads.{MayWrite, MustNotWrite, present}
use Rattle.kv_model.specs.Valid.{Valid}
use Rattle.kv_model.specs.Pending.{KeyStands}
use Rattle.kv_model.specs.StoreLaws.{Held}
use Rattle.snapshot.specs.Sight.{is_seen, sight_of}
use Rattle.update_chain.specs.declared.look.Judgement.{Judgement}
use Rattle.update_chain.specs.declared.look.Judgement.TheVariants.{Allowed, Refused}
use Rattle.update_chain.specs.declared.update.Update.{Update}
use Rattle.update_chain.specs.Updates.{update_in, unmarked_update, is_own}
use Rattle.update_chain.specs.Answers.{ViewStands}

-- the own update, or one that is not marked, seen and admitted
abbrev pub may_follow_by : View → Update → Bool
may_follow_by view u = is_own view u || ((u.prepared == 0) && (is_seen (sight_of view) u.version.window.name && reads_at view.read u.version.window.commit))

-- the newest that a frame has
abbrev pub newest_of : List Update → Option (Version Change) → Option Update
newest_of [] None = None
newest_of [] (Some v) = Some (unmarked_update v)
newest_of (u ∷ older) cell = Some u

-- a write that an update lets follow it, or refuses
abbrev pub judgement_by : View → Update → Judgement
judgement_by view u = if may_follow_by view u then Allowed else Refused u.version.window.name

abbrev pub judgement_to : View → Option Update → Judgement
judgement_to view None = Allowed
judgement_to view (Some u) = judgement_by view u

-- by the newest update of a chain
abbrev pub judgement_of : View → List Update → Judgement
judgement_of view chain = judgement_to view (newest_of chain None)

-- what the judgement of a write says of the model's
abbrev pub JudgementStands : Machine → ℕ → Transaction → ℕ → List ℕ → Judgement → Type 0
JudgementStands m s t table key Allowed = MayWrite m s t table key
JudgementStands m s t table key (Refused name) = MustNotWrite m s t table key name

-- the newest update of a chain that stands for its key, or the cell under an empty chain, decides a write as the model does
abbrev pub WritesStand : Type 0
WritesStand = (m : Machine) (s : ℕ) (t : Transaction) (view : View) (table : ℕ) (key : List ℕ) (chain : List Update) (cell : Option (Version Change)) (records : List (Version Change))
    → Valid m → transaction_of m s ≡ Some t → t.phase ≡ Running → ViewStands m t view → KeyStands m table key (map update_in chain) cell (Held records)
    → JudgementStands m s t table key (judgement_to view (newest_of chain cell))

-- what the newest update gives
abbrev pub found_in : Option Update → Option (List ℕ)
found_in None = None
found_in (Some u) = put_of u.version.change

-- where the write is allowed, it finds at the key what that update gives
abbrev pub WritesFind : Type 0
WritesFind = (m : Machine) (s : ℕ) (t : Transaction) (view : View) (table : ℕ) (key : List ℕ) (chain : List Update) (cell : Option (Version Change)) (records : List (Version Change))
    → Valid m → transaction_of m s ≡ Some t → t.phase ≡ Running → ViewStands m t view → KeyStands m table key (map update_in chain) cell (Held records)
    → judgement_to view (newest_of chain cell) ≡ Allowed → present m t table key ≡ found_in (newest_of chain cell)
