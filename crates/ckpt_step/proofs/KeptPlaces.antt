-- Links by place: as many as their leaves, and those that keep their blocks.
use Rattle.std.specs.Prelude.{◌≡◌, ℕ, suc, List, [], ◌∷◌, ◌++◌, length, refl}
use Rattle.std.proofs.Common.{ap, arith}
use Rattle.device_layout.specs.declared.link.Link.{Link}
use Rattle.row_page.specs.Rows.{Row}
use Rattle.stored.specs.TableTree.{Entry}
use Rattle.tree_write.specs.Drafts.{HasLeaves, aligned}
use Rattle.tree_write.specs.Sizes.{links_behind}
use Rattle.tree_write.specs.Steps.{links_in}
use Rattle.tree_write.specs.Writes.{KeepSame}

pub kept_long : (bytes : List ℕ) (es : List Entry) (kept : List (List Row)) → HasLeaves bytes es kept → length (links_in es) ≡ length kept
kept_long bytes [] [] has = refl
kept_long bytes [] (rows ∷ kept) has = absurd has
kept_long bytes (e ∷ es) [] has = absurd has
kept_long bytes (e ∷ es) (rows ∷ kept) has = ap (λ (n : ℕ). suc n) (kept_long bytes es kept has.1)

pub links_long : (es : List Entry) → length (links_in es) ≡ length es
links_long [] = refl
links_long (e ∷ es) = ap (λ (n : ℕ). suc n) (links_long es)

-- what keeps its place behind others keeps it
pub same_behind : (bytes : List ℕ) (was more links others : List Link) (leaves rest : List (List Row)) → length was ≡ length links → length links ≡ length leaves → KeepSame bytes (was ++ more) (links ++ others) (leaves ++ rest) → KeepSame bytes more others rest
same_behind bytes [] more [] others [] rest long many same = same
same_behind bytes [] more [] others (rows ∷ leaves) rest long many same = absurd (omega (arith, many))
same_behind bytes [] more (link ∷ links) others leaves rest long many same = absurd (omega (arith, long))
same_behind bytes (w ∷ was) more [] others leaves rest long many same = absurd (omega (arith, long))
same_behind bytes (w ∷ was) more (link ∷ links) others [] rest long many same = absurd (omega (arith, many))
same_behind bytes (w ∷ was) more (link ∷ links) others (rows ∷ leaves) rest long many same = same_behind bytes was more links others leaves rest (omega (arith, long)) (omega (arith, many)) same.1

pub same_unaligned : (bytes : List ℕ) (was links : List Link) (leaves : List (List Row)) → KeepSame bytes (aligned was leaves) links leaves → KeepSame bytes was links leaves
same_unaligned bytes was [] leaves same = tt
same_unaligned bytes was (link ∷ links) [] same = tt
same_unaligned bytes was (link ∷ links) (rows ∷ leaves) same = (same.0, same_unaligned bytes (links_behind was) links leaves same.1)
