-- What a crash may leave of a disk in memory, by the calls that it has had.
use Rattle.std.specs.Prelude.{◌≡◌, ◌⊎◌, ◌++◌, ℕ, ◌≤◌, List, [], ◌∷◌, length, take, Option, None, Some, Bool, false, ◌==◌, ◌||◌, nat_le, if◌then◌else◌}
use Rattle.std.specs.List.{list_any}
use Rattle.failure.specs.Counts.{count_after}
use Rattle.disk_model.specs.Disk.{put, Torn, Elapses}
use Rattle.disk_model.specs.declared.call.Look.{Look}
use Rattle.disk_model.specs.declared.call.Call.{Call}
use Rattle.disk_model.specs.declared.call.Call.TheVariants.{Wrote, Missed, Synced, Looked}

-- the content after a call
abbrev pub content_after : List ℕ → Call → List ℕ
content_after content (Wrote at bytes) = put content at bytes.items
content_after content (Missed at bytes) = content
content_after content Synced = content
content_after content (Looked look) = content

-- what a crash may leave after a call
abbrev pub images_after : List ℕ → (List ℕ → Type 0) → Call → List ℕ → Type 0
images_after content images (Wrote at bytes) c = (d : List ℕ) × images d × Torn at (length bytes.items) d c
images_after content images (Missed at bytes) c = (d : List ℕ) × images d × Torn at (length bytes.items) d c
images_after content images Synced c = c ≡ content
images_after content images (Looked look) c = images c

-- the content after the calls
abbrev pub content_of : List ℕ → List Call → List ℕ
content_of content [] = content
content_of content (call ∷ calls) = content_of (content_after content call) calls

-- what a crash may leave after the calls
abbrev pub images_of : List ℕ → (List ℕ → Type 0) → List Call → List ℕ → Type 0
images_of content images [] = images
images_of content images (call ∷ calls) = images_of (content_after content call) (images_after content images call) calls

-- what a crash may leave of a disk that had this content, all of it synced, before the calls
abbrev pub MayLeave : List ℕ → List Call → List ℕ → Type 0
MayLeave first calls = images_of first (λ c. c ≡ first) calls

-- what a crash at some moment since t might have left
abbrev pub LeftSince : List ℕ → List Call → ℕ → List ℕ → Type 0
LeftSince first calls t c = (k : ℕ) × (t ≤ k) × (k ≤ length calls) × MayLeave first (take k calls) c

-- the call was taken down, or there was no room for it
abbrev pub Grew : List Call → Call → List Call → Type 0
Grew calls call later = (later ≡ calls) ⊎ (later ≡ calls ++ call ∷ [])

-- what a crash may make of a call, from one image to the next
abbrev pub Leaves : List ℕ → Call → List ℕ → List ℕ → Type 0
Leaves content (Wrote at bytes) old new = Torn at (length bytes.items) old new
Leaves content (Missed at bytes) old new = Torn at (length bytes.items) old new
Leaves content Synced old new = new ≡ content
Leaves content (Looked look) old new = new ≡ old

-- a disk in memory: what it had at first, the calls since, the numbers of those that fail, and its counts
pub record Medium : Type 0 where
  pub first : List ℕ
  pub calls : List Call
  pub failing : List ℕ
  -- the number from which on each call fails
  pub stop : Option ℕ
  pub made : ℕ
  pub faults : ℕ
  pub capacity : ℕ
  -- the place that it was told
  pub home : Option (List ℕ)

-- one that had no call
abbrev pub fresh : List ℕ → ℕ → List ℕ → Medium
fresh content capacity failing = record { first = content; calls = []; failing = failing; stop = None; made = 0; faults = 0; capacity = capacity; home = None }

-- a call of this number is past the stop
abbrev pub is_stopped : Option ℕ → ℕ → Bool
is_stopped None number = false
is_stopped (Some first) number = nat_le first number

-- whether the next call fails: its number is listed, or past the stop
abbrev pub fails : Medium → Bool
fails m = list_any (λ n. n == m.made) m.failing || is_stopped m.stop m.made

-- one call more was made; what is to fail stays
pub record Turned (old new : Medium) : Type 0 where
  pub made : new.made ≡ count_after old.made
  pub failing : new.failing ≡ old.failing
  pub stop : new.stop ≡ old.stop

-- what was made of a call that looks, by whether it was to fail
abbrev pub look_of : Bool → Look → Look → Call
look_of failed done not_done = Looked (if failed then not_done else done)

-- what a read gives
abbrev pub content : Medium → List ℕ
content m = content_of m.first m.calls

-- what a crash may leave
abbrev pub May : Medium → List ℕ → Type 0
May m = MayLeave m.first m.calls

-- time went on by one call
abbrev pub Time : Medium → Medium → Type 0
Time old new = Elapses (length old.calls) (length new.calls) (LeftSince old.first old.calls) (LeftSince new.first new.calls) (May new)

-- the same, but for the counts of calls and faults
pub record Same (old new : Medium) : Type 0 where
  pub first : new.first ≡ old.first
  pub calls : new.calls ≡ old.calls
  pub capacity : new.capacity ≡ old.capacity
  pub home : new.home ≡ old.home

-- the same, but for this call and the counts
pub record Went (old : Medium) (call : Call) (new : Medium) : Type 0 where
  pub first : new.first ≡ old.first
  pub grew : Grew old.calls call new.calls
  pub capacity : new.capacity ≡ old.capacity
  pub home : new.home ≡ old.home
