-- The grammar of a script's line: which words ask for what. Words are parted by single spaces.
use Rattle.std.specs.Prelude.{◌≡◌, ℕ, zero, suc, ◌+◌, ◌<◌, ◌≤◌, Bool, true, ◌&&◌, ◌||◌, nat_le, List, [], ◌∷◌, ◌++◌, length, Option, Some, None, codes}
use Rattle.std.specs.Fmt.{decimal}
use Rattle.std.specs.Str.Parse.{digits_value}
use Rattle.item.specs.declared.formats.Format.{Format}
use Rattle.item.specs.declared.formats.Format.TheVariants.{S, U}
use Rattle.wt_calls.specs.declared.demand.Demand.TheVariants.{Anything, Vacant, Occupied}
use Rattle.wt_calls.specs.declared.way.Way.TheVariants.{Up, Down}
use Rattle.wt_calls.specs.declared.session_call.SessionCall.{SessionCall}
use Rattle.wt_calls.specs.declared.session_call.SessionCall.TheVariants.{Begin, Get, Put, Remove, Seek, Step, Reset, Prepare, Commit, Rollback}
use Rattle.wt_calls.specs.declared.system_call.SystemCall.{SystemCall}
use Rattle.wt_calls.specs.declared.system_call.SystemCall.TheVariants.{Create, SetStamps, RollbackToStable, StartCheckpoint, StepCheckpoint, FinishCheckpoint, Evict, Close as CloseCall}
use Rattle.wt_calls.specs.declared.call.Call.{Call}
use Rattle.wt_calls.specs.declared.call.Call.TheVariants.{Session as OfSession, System as OfSystem}
use Rattle.script_text.specs.Words.{words_of, all_words}
use Rattle.script_text.specs.Items.{item_of}
use Rattle.script_text.specs.declared.parse.TheConstants.{LINE_MAX}
use Rattle.script_text.specs.declared.line.Actor.{Actor}
use Rattle.script_text.specs.declared.line.Actor.TheVariants.{Session, System}
use Rattle.script_text.specs.declared.line.Control.{Control as Asked}
use Rattle.script_text.specs.declared.line.Control.TheVariants.{Checkpoint, Close, Crash, Frames}
use Rattle.script_text.specs.declared.line.Line.{Line}
use Rattle.script_text.specs.declared.line.Line.TheVariants.{Whole, Start, Step as StepLine, Finish, Control}

-- ---- words

-- an item, escaped; a backslash and a hyphen alone are the empty item
abbrev pub IsItem : List ℕ → List ℕ → Type 0
IsItem item word = item_of word ≡ Some item

-- a digit, or a letter from a to f
abbrev pub is_hex : ℕ → Bool
is_hex b = (nat_le 48 b && nat_le b 57) || (nat_le 97 b && nat_le b 102)

abbrev pub are_hex : List ℕ → Bool
are_hex [] = true
are_hex (b ∷ digits) = is_hex b && are_hex digits

-- 1 to 16 lower-case hexadecimal digits that write the stamp
pub record IsStamp (stamp : ℕ) (digits : List ℕ) : Type 0 where
  pub some : 0 < length digits
  pub short : length digits ≤ 16
  pub lower : are_hex digits ≡ true
  pub value : digits_value 16 digits ≡ stamp

-- a name, and a stamp behind it
abbrev pub IsNamed : List ℕ → ℕ → List ℕ → Type 0
IsNamed name stamp word = (digits : List ℕ) × IsStamp stamp digits × (word ≡ name ++ digits)

-- one such word for a stamp that is given, none for one that is not
abbrev pub Names : List ℕ → Option ℕ → List (List ℕ) → Type 0
Names name None words = words ≡ []
Names name (Some stamp) words = (word : List ℕ) × IsNamed name stamp word × (words ≡ word ∷ [])

-- c0 to c3
abbrev pub IsCursor : ℕ → List ℕ → Type 0
IsCursor cursor word = (cursor < 4) × (word ≡ codes "c" ++ decimal cursor)

abbrev pub IsFormat : Format → List ℕ → Type 0
IsFormat S word = word ≡ codes "S"
IsFormat U word = word ≡ codes "u"

-- s1 to s999; sys, sys2, sys3 and sys4
abbrev pub IsActor : Actor → List ℕ → Type 0
IsActor (Session n) word = (n < 999) × (word ≡ codes "s" ++ decimal (n + 1))
IsActor (System zero) word = word ≡ codes "sys"
IsActor (System (suc n)) word = (n < 3) × (word ≡ codes "sys" ++ decimal (n + 2))

-- ---- calls, by the words behind the actor's

abbrev pub SpellsSession : SessionCall → List (List ℕ) → Type 0
SpellsSession (Begin None) words = words ≡ codes "begin" ∷ []
SpellsSession (Begin (Some stamp)) words = (word : List ℕ) × IsNamed (codes "read=") stamp word × (words ≡ codes "begin" ∷ word ∷ [])
SpellsSession (Get table key) words = (k : List ℕ) × IsItem key k × (words ≡ codes "get" ∷ table ∷ k ∷ [])
SpellsSession (Put table key value Anything) words = (k v : List ℕ) × IsItem key k × IsItem value v × (words ≡ codes "put" ∷ table ∷ k ∷ v ∷ [])
SpellsSession (Put table key value Vacant) words = (k v : List ℕ) × IsItem key k × IsItem value v × (words ≡ codes "insert" ∷ table ∷ k ∷ v ∷ [])
SpellsSession (Put table key value Occupied) words = ⊥
SpellsSession (Remove table key) words = (k : List ℕ) × IsItem key k × (words ≡ codes "remove" ∷ table ∷ k ∷ [])
SpellsSession (Seek cursor table key) words = (c k : List ℕ) × IsCursor cursor c × IsItem key k × (words ≡ codes "seek" ∷ c ∷ table ∷ k ∷ [])
SpellsSession (Step cursor table Up) words = (c : List ℕ) × IsCursor cursor c × (words ≡ codes "next" ∷ c ∷ table ∷ [])
SpellsSession (Step cursor table Down) words = (c : List ℕ) × IsCursor cursor c × (words ≡ codes "prev" ∷ c ∷ table ∷ [])
SpellsSession (Reset cursor) words = (c : List ℕ) × IsCursor cursor c × (words ≡ codes "reset" ∷ c ∷ [])
SpellsSession (Prepare stamp) words = (digits : List ℕ) × IsStamp stamp digits × (words ≡ codes "prepare" ∷ digits ∷ [])
SpellsSession (Commit commit durable) words =
    (first second : List (List ℕ)) × Names (codes "commit=") commit first × Names (codes "durable=") durable second × (words ≡ codes "commit" ∷ (first ++ second))
SpellsSession Rollback words = words ≡ codes "rollback" ∷ []

abbrev pub SpellsSystem : SystemCall → List (List ℕ) → Type 0
SpellsSystem (Create table formats) words = (k v : List ℕ) × IsFormat formats.key k × IsFormat formats.value v × (words ≡ codes "create" ∷ table ∷ k ∷ v ∷ [])
SpellsSystem (SetStamps None None) words = ⊥
SpellsSystem (SetStamps oldest stable) words =
    (first second : List (List ℕ)) × Names (codes "oldest=") oldest first × Names (codes "stable=") stable second × (words ≡ codes "set" ∷ (first ++ second))
SpellsSystem RollbackToStable words = words ≡ codes "rts" ∷ []
SpellsSystem StartCheckpoint words = words ≡ codes "ckpt-start" ∷ []
SpellsSystem StepCheckpoint words = words ≡ codes "ckpt-step" ∷ []
SpellsSystem FinishCheckpoint words = words ≡ codes "ckpt-finish" ∷ []
SpellsSystem (Evict table key) words = (k : List ℕ) × IsItem key k × (words ≡ codes "evict" ∷ table ∷ k ∷ [])
SpellsSystem CloseCall words = ⊥

abbrev pub SpellsAsked : Asked → List (List ℕ) → Type 0
SpellsAsked Checkpoint words = words ≡ codes "ckpt" ∷ []
SpellsAsked Close words = words ≡ codes "close" ∷ []
SpellsAsked Crash words = words ≡ codes "crash" ∷ []
SpellsAsked (Frames frames) words = (4 ≤ frames) × (frames ≤ 1024) × (words ≡ codes "frames" ∷ decimal frames ∷ [])

-- ---- lines

-- an actor's word, and the words of a call behind it
abbrev pub SpellsCall : Call → List ℕ → List (List ℕ) → Type 0
SpellsCall (OfSession n call) actor words = IsActor (Session n) actor × SpellsSession call words
SpellsCall (OfSystem n call) actor words = IsActor (System n) actor × SpellsSystem call words

abbrev pub Spells : Line → List (List ℕ) → Type 0
Spells (Whole call) words = (actor : List ℕ) × (behind : List (List ℕ)) × SpellsCall call actor behind × (words ≡ actor ∷ behind)
Spells (Start call) words = (actor : List ℕ) × (behind : List (List ℕ)) × SpellsCall call actor behind × (words ≡ (actor ++ codes "!") ∷ behind)
Spells (StepLine who) words = (actor : List ℕ) × IsActor who actor × (words ≡ (actor ++ codes ".") ∷ [])
Spells (Finish who) words = (actor : List ℕ) × IsActor who actor × (words ≡ (actor ++ codes "..") ∷ [])
Spells (Control asked) words = (behind : List (List ℕ)) × SpellsAsked asked behind × (words ≡ codes "sys" ∷ behind)

-- the bytes of a line, without its newline, ask for this
pub record IsLine (bytes : List ℕ) (line : Line) : Type 0 where
  pub short : length bytes ≤ LINE_MAX
  pub parted : all_words (words_of bytes) ≡ true
  pub spelled : Spells line (words_of bytes)
