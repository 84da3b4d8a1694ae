-- The stamp rules, each a list of checks in the order of refusals, over the two stamps that bound the history; 0 is an unset one.
use Rattle.std.specs.Prelude.{ℕ, Bool, false, not, ◌&&◌, ◌||◌, ◌==◌, nat_lt, nat_le, max, List, [], ◌∷◌, Option, Some, None, if◌then◌else◌}
use Rattle.item.specs.declared.Change.{Change}
use Rattle.stamp.specs.declared.Version.{Version}
use Rattle.wt_code.specs.declared.refusals.Invalid.{Invalid}
use Rattle.wt_code.specs.declared.refusals.Invalid.TheVariants.{ZeroStamp, BeforeOldest, NotAfterStable, OldestAfterStable, NoCommitStamp, DurableGiven, BeforePrepare, DurableBeforeCommit, Order, NoStampAfterStamp}
use Rattle.kv_model.specs.History.{Write, line}
use Rattle.kv_model.specs.Machine.{Machine}

-- the first check that holds
abbrev pub first_of : {A : Type 0} → List (Bool × A) → Option A
first_of [] = None
first_of (check ∷ later) = if check.0 then Some check.1 else first_of later

-- a stamp that is given, and zero
abbrev pub is_zero : Option ℕ → Bool
is_zero None = false
is_zero (Some n) = n == 0

abbrev pub stamp_of : Option ℕ → ℕ
stamp_of None = 0
stamp_of (Some n) = n

-- a stamp, or the other where there is none
abbrev pub or_stamp : ℕ → ℕ → ℕ
or_stamp stamp other = if stamp == 0 then other else stamp

abbrev pub newest_durable : List (Version Change) → ℕ
newest_durable [] = 0
newest_durable (v ∷ older) = v.window.durable

-- the greatest durable stamp of a newest version below one of the writes
abbrev pub durable_below : Machine → List Write → ℕ
durable_below m [] = 0
durable_below m (w ∷ writes) = max (newest_durable (line m.history w.table w.key)) (durable_below m writes)

-- of a read stamp
abbrev pub begin_rules : (oldest : ℕ) (read : Option ℕ) → List (Bool × Invalid)
begin_rules oldest read = let r = stamp_of read in
    (is_zero read, ZeroStamp) ∷ (not (r == 0) && nat_lt r oldest, BeforeOldest r oldest) ∷ []

abbrev pub prepare_rules : (stable prepare : ℕ) → List (Bool × Invalid)
prepare_rules stable prepare = (prepare == 0, ZeroStamp) ∷ (nat_le prepare stable, NotAfterStable prepare stable) ∷ []

-- after a durable stamp that is later than oldest, a commit stamp is not absent and not before it; prev: the greatest durable stamp below the writes
abbrev pub order_rule : (oldest commit prev : ℕ) → List (Bool × Invalid)
order_rule oldest commit prev =
    (nat_lt oldest prev && (commit == 0), NoStampAfterStamp prev)
    ∷ (nat_lt oldest prev && nat_lt commit prev, Order commit prev) ∷ []

-- of a transaction that is not prepared
abbrev pub commit_rules : (oldest stable : ℕ) (commit durable : Option ℕ) (prev : ℕ) → List (Bool × Invalid)
commit_rules oldest stable commit durable prev = let c = stamp_of commit in
    (is_zero commit || is_zero durable, ZeroStamp)
    ∷ (not (stamp_of durable == 0), DurableGiven)
    ∷ (not (c == 0) && nat_lt c oldest, BeforeOldest c oldest)
    ∷ (not (c == 0) && nat_le c stable, NotAfterStable c stable)
    ∷ order_rule oldest c prev

-- of a prepared transaction; the durable stamp, where none is given, is the commit stamp
abbrev pub resolve_rules : (oldest stable prepare : ℕ) (commit durable : Option ℕ) (prev : ℕ) → List (Bool × Invalid)
resolve_rules oldest stable prepare commit durable prev = let c = stamp_of commit in let d = or_stamp (stamp_of durable) c in
    (is_zero commit || is_zero durable, ZeroStamp)
    ∷ (c == 0, NoCommitStamp)
    ∷ (nat_lt c prepare, BeforePrepare c prepare)
    ∷ (nat_lt d c, DurableBeforeCommit d c)
    ∷ (nat_lt d oldest, BeforeOldest d oldest)
    ∷ (nat_le d stable, NotAfterStable d stable)
    ∷ order_rule oldest c prev

-- of stamps that are given to raise the two: neither falls, and oldest is not later than stable where both are set
abbrev pub set_rules : (oldest stable : ℕ) (given_oldest given_stable : Option ℕ) → List (Bool × Invalid)
set_rules oldest stable given_oldest given_stable = let o = max oldest (stamp_of given_oldest) in let s = max stable (stamp_of given_stable) in
    (is_zero given_oldest || is_zero given_stable, ZeroStamp)
    ∷ (not (o == 0) && (not (s == 0) && nat_lt s o), OldestAfterStable o s) ∷ []
