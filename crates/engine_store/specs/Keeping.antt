-- What a store keeps of leaves that are in no frame, and the world in which the history has that.
use Rattle.std.specs.Prelude.{◌≡◌, ℕ, List}
use Rattle.kv_model.specs.Content.{Content}
use Rattle.row_page.specs.Rows.{Row}
use Rattle.engine_world.specs.Systems.{first_world}
use Rattle.engine_world.specs.Worlds.{World}
use Rattle.evict_step.specs.Kept.{Lists, older_in}
use Rattle.ckpt_step.specs.declared.ground.Ground.{Ground}
use Rattle.engine_store.specs.declared.store.Store.{Store}

-- the world in which the history has these versions but for those that are rows of the blocks, whatever it had
abbrev pub with_kept : Lists → World → World
with_kept lists w = record w { records = older_in w.shelf lists }

-- the world with which a content begins, with these rows in the blocks, in which the history has what the store keeps
abbrev pub begun_with : Content → (ℕ → List Row) → Store → World
begun_with c shelf s = first_world c shelf (older_in shelf s.ground.kept) s.engine

-- only what is kept may differ
abbrev pub IsSameButKept : Ground → Ground → Type 0
IsSameButKept g g' = g' ≡ record g { kept = g'.kept }
