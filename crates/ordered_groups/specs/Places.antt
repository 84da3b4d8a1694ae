-- Where an entry lies, and where one may be put.
use Rattle.std.specs.Prelude.{◌≡◌, ◌≢◌, ℕ, ◌+◌, ◌-◌, ◌<◌, ◌≤◌, List, ◌++◌, length, take, drop, MatchResult}
use Rattle.std.specs.List.{HoldsAt, AllWithin, insert}
use denote.Param.Members.{Shared}
use Rattle.std.specs.List.Sorted.{IsNonDecreasingBy, IsPartitionPoint}
use Rattle.std.specs.Ordering.{ordering_index}
use Rattle.std.specs.declared.cmp.Ordering.{Ordering}
use Rattle.std.specs.declared.cmp.Ordering.TheVariants.{Less, Equal, Greater}
use Rattle.std.specs.declared.result.Result.{Result}
use Rattle.ordered_groups.specs.declared.Place.{Place}
use Rattle.ordered_groups.specs.Groups.{before, entries, group_at, AreSound, replaced}

-- how many entries lie before the place
abbrev pub rank : {T : Type 0} → List (List T) → Place → ℕ
rank gs p = before gs p.group + p.at

-- an entry lies there
abbrev pub IsPlace : {T : Type 0} → List (List T) → Place → Type 0
IsPlace gs p = p.at < length (group_at gs p.group)

-- an entry may be put there
abbrev pub IsGap : {T : Type 0} → List (List T) → Place → Type 0
IsGap gs p = (p.group ≤ length gs) × (p.at ≤ length (group_at gs p.group))

-- an entry lies there, behind r others
abbrev pub IsAt : {T : Type 0} → List (List T) → ℕ → Place → Type 0
IsAt gs r p = IsPlace gs p × (rank gs p ≡ r)

-- x is the entry there
abbrev pub IsEntryAt : {T : Type 0} → List (List T) → Place → T → Type 0
IsEntryAt gs p x = HoldsAt (λ y. x ≡ y) (entries gs) (rank gs p)

-- along the list ord goes from `Less` over `Equal` to `Greater`
abbrev pub Rises : {T : Type 0} → (T → Ordering) → List T → Type 0
Rises ord xs = IsNonDecreasingBy (λ y. ordering_index (ord y)) xs

-- where ord rises, it parts the list at n into the `Less` and the `Greater`
abbrev pub PartsAt : {T : Type 0} → (T → Ordering) → List T → ℕ → Type 0
PartsAt ord xs n = Rises ord xs → IsPartitionPoint (λ y. ord y ≡ Less) (λ y. ord y ≡ Greater) xs n

-- what a search by ord answers: an entry that is `Equal`, or, where ord rises, the place between the `Less` and the `Greater`
abbrev pub Finds : {T : Type 0} → (T → Ordering) → List (List T) → Result Place Place → Type 0
Finds ord gs r = MatchResult r (λ p. HoldsAt (λ y. ord y ≡ Equal) (entries gs) (rank gs p)) (λ p. PartsAt ord (entries gs) (rank gs p))

-- each call of f answers what ord gives
abbrev pub Answers : {F T : Type 0} → Shared F (T × Unit {0}) Ordering → F → (T → Ordering) → Type 0
Answers {F} {T} g f ord = (x : T) (r : Ordering) → g.post f (x, tt) r → r ≡ ord x

-- ord is `Less` at the first n entries
abbrev pub BelowUpTo : {T : Type 0} → (T → Ordering) → List T → ℕ → Type 0
BelowUpTo ord xs n = AllWithin (λ y. ord y ≡ Less) xs 0 n

-- where ord rises, so it is
abbrev pub BelowAlong : {T : Type 0} → (T → Ordering) → List T → ℕ → Type 0
BelowAlong ord xs n = Rises ord xs → BelowUpTo ord xs n

-- it is not `Less` at the entry at n, unless that is the last
abbrev pub NotBelowAt : {T : Type 0} → (T → Ordering) → List T → ℕ → Type 0
NotBelowAt ord xs n = n + 1 < length xs → HoldsAt (λ y. ord y ≢ Less) xs n

-- it is not `Less` at the last entry of the group at g, where there is that group
abbrev pub EndsNotBelow : {T : Type 0} → (T → Ordering) → List (List T) → ℕ → Type 0
EndsNotBelow ord gs g = g < length gs → HoldsAt (λ y. ord y ≢ Less) (group_at gs g) (length (group_at gs g) - 1)

-- the list after x was put before the place, and where x lies then
pub record IsPut {T : Type 0} (old : List (List T)) (place : Place) (x : T) (new : List (List T)) (p : Place) : Type 0 where
  pub after : entries new ≡ insert (entries old) (rank old place) x
  pub place_in : IsPlace new p
  pub rank_is : rank new p ≡ rank old place

-- the list after news were put in the place of one entry, and where the first of them lies then
pub record IsReplaced {T : Type 0} (old : List (List T)) (place : Place) (news : List T) (new : List (List T)) (p : Place) : Type 0 where
  pub after : entries new ≡ replaced (entries old) (rank old place) (rank old place + 1) news
  pub place_in : IsPlace new p
  pub rank_is : rank new p ≡ rank old place

-- the groups after the one at g gave way to others that hold xs, and where the entry of xs at `at` lies then
pub record IsStored {T : Type 0} (old : List (List T)) (g : ℕ) (at : ℕ) (xs : List T) (new : List (List T)) (p : Place) : Type 0 where
  pub sound : AreSound 256 new
  pub after : entries new ≡ entries (take g old) ++ (xs ++ entries (drop (g + 1) old))
  pub place_in : IsPlace new p
  pub rank_is : rank new p ≡ before old g + at
