-- How many transactions have not ended.
use Rattle.std.proofs.Common.{◌≡◌, ◌≤◌, ◌+◌, ℕ, List, [], ◌∷◌, length, refl, arith}
use Rattle.std.specs.Prelude.{Option, Some, None, fold}
use Rattle.std.specs.List.{filter_map}
use Rattle.snapshot.specs.Sight.{with_id}
use Rattle.snapshot.proofs.Listed.{with-length}
use Rattle.txn_table.specs.SessionData.{SessionData, unended_id}
use Rattle.txn_table.specs.Tabled.{Table, unended}

folded_few : (more ids : List ℕ) → length (fold with_id ids more) ≤ length ids + length more
folded_few [] ids = omega arith
folded_few (id ∷ more) ids = omega (arith, folded_few more (with_id ids id), with-length ids id)

filtered_few : (x : SessionData) (states : List SessionData) (o : Option ℕ) → unended_id x ≡ o → length (filter_map unended_id states) ≤ length states → length (filter_map unended_id (x ∷ states)) ≤ length (x ∷ states)
filtered_few x states None is few = rw is (omega (arith, few))
filtered_few x states (Some id) is few = rw is (omega (arith, few))

some_few : (states : List SessionData) → length (filter_map unended_id states) ≤ length states
some_few [] = omega arith
some_few (x ∷ states) = filtered_few x states (unended_id x) refl (some_few states)

-- at most one in each session
pub unended_few : (t : Table) → length (unended t) ≤ length t.sessions
unended_few t = omega (arith, folded_few (filter_map unended_id t.sessions) [], some_few t.sessions)
