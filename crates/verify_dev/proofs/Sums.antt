-- The leaves of trees, tree by tree.
use Rattle.std.proofs.Common.{◌≡◌, ℕ, ◌+◌, ◌<◌, ◌≤◌, List, [], ◌∷◌, ◌++◌, length, take, get_or, None, sym, ap, subst, arith}
use Rattle.std.proofs.lemmas.List.{take_all}
use Rattle.row_page.specs.Rows.{Row}
use Rattle.stored.specs.Tree.{join}
use Rattle.checkpoint_record.proofs.Lists.{take_step}
use Rattle.tree_open.specs.declared.place.Upper.{Upper}
use Rattle.tree_open.specs.Trees.{leaf_addrs}
use Rattle.recover_open.specs.declared.check.Tally.{Tally}
use Rattle.recover_open.specs.Leaves.{AreLeaves}
use Rattle.recover_open.specs.Tallies.{IsTallied}
use Rattle.verify_dev.specs.Leaves.{HaveLeaves, AreAllTallied, IsSum, stored_below, rows_below}

have_push : (bytes : List ℕ) (uppers : List Upper) (all : List (List (List Row))) (u : Upper) (leaves : List (List Row)) → HaveLeaves bytes uppers all → AreLeaves bytes u.entries.items None leaves → HaveLeaves bytes (uppers ++ u ∷ []) (all ++ leaves ∷ [])
have_push bytes [] [] u leaves have are = (are, tt)
have_push bytes [] (other ∷ all) u leaves have are = absurd have
have_push bytes (x ∷ uppers) [] u leaves have are = absurd have
have_push bytes (x ∷ uppers) (other ∷ all) u leaves have are = (have.0, have_push bytes uppers all u leaves have.1 are)

stored_push : (uppers : List Upper) (u : Upper) → stored_below (uppers ++ u ∷ []) ≡ stored_below uppers + length (leaf_addrs u.entries.items)
stored_push [] u = omega arith
stored_push (x ∷ uppers) u = omega (arith, stored_push uppers u)

rows_push : (all : List (List (List Row))) (leaves : List (List Row)) → rows_below (all ++ leaves ∷ []) ≡ rows_below all + length (join leaves)
rows_push [] leaves = omega arith
rows_push (x ∷ all) leaves = omega (arith, rows_push all leaves)

pub none_tallied : (bytes : List ℕ) (uppers : List Upper) (t : Tally) → t.leaves ≡ 0 → t.versions ≡ 0 → AreAllTallied bytes (take 0 uppers) t
none_tallied bytes uppers t none also = record { all = []; have = tt; stored = none; versions = also }

pub tallied_more : (bytes : List ℕ) (uppers : List Upper) (i : ℕ) (u : Upper) (t own more : Tally) → i < length uppers → u ≡ get_or uppers i u → AreAllTallied bytes (take i uppers) t → IsTallied bytes u.entries.items own → IsSum t own more → AreAllTallied bytes (take (i + 1) uppers) more
tallied_more bytes uppers i u t own more lt is was here sums =
    let step : take (i + 1) uppers ≡ take i uppers ++ u ∷ [] = take_step uppers i u lt is in
    record {
      all = was.all ++ here.leaves ∷ [];
      have = subst (λ (l : List Upper). HaveLeaves bytes l (was.all ++ here.leaves ∷ [])) (sym step) (have_push bytes (take i uppers) was.all u here.leaves was.have here.are);
      stored = omega (arith, sums.0, was.stored, here.stored, ap stored_below step, stored_push (take i uppers) u);
      versions = omega (arith, sums.1, was.versions, here.versions, rows_push was.all here.leaves);
    }

pub tallied_whole : (bytes : List ℕ) (uppers : List Upper) (i : ℕ) (t : Tally) → length uppers ≤ i → AreAllTallied bytes (take i uppers) t → AreAllTallied bytes uppers t
tallied_whole bytes uppers i t le was = subst (λ (l : List Upper). AreAllTallied bytes l t) (take_all i uppers le) was
