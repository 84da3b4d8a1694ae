-- As what a device opens that has a checkpoint which nobody ran beside.
use Rattle.std.proofs.Common.{◌≡◌, ◌∙◌, ℕ, true, List, [], ◌∷◌, reverse, Option, refl, sym, ap, subst, inl, inr, arith}
use Rattle.item.specs.declared.Change.{Change}
use Rattle.stamp.specs.declared.Name.{Name}
use Rattle.stamp.specs.declared.Version.{Version}
use Rattle.kv_model.specs.Captures.{CapturedIn}
use Rattle.kv_model.specs.Content.{Content, OpensAs}
use Rattle.kv_model.specs.Holds.{Member}
use Rattle.kv_model.specs.History.{Table, has_table, tables}
use Rattle.kv_model.specs.Machine.{Checkpoint, CheckpointStart, Machine, after}
use Rattle.kv_model.specs.Regular.{IsRegular}
use Rattle.kv_model.specs.StoreLaws.{Held}
use Rattle.kv_model.specs.Valid.{Valid, ValidCheckpoint}
use Rattle.kv_model.proofs.Finishing.{first-start}
use Rattle.catalog.specs.Known.{by_name}
use Rattle.snapshot.specs.Matters.{MattersToCheckpoints}
use Rattle.stored.specs.HistoryTree.{HistoryRecord}
use Rattle.stored.specs.Stored.{Stored, Reads, content_of, tables_of}
use Rattle.stored.specs.TableTree.{TableTree}
use Rattle.stored.specs.Tree.{join}
use Rattle.ckpt_content.specs.Checkpoints.{AreRowsOf, IsCheckpointOf, records_at}
use Rattle.ckpt_content.specs.Finished.{AreTakenOf, IsFinishOf, tables_then}
use Rattle.ckpt_content.specs.Laws.{CheckpointsOpen, ReadCheckpointsOpen, checkpointed}
use Rattle.ckpt_content.specs.Older.{HaveOlder, checkpoint_now}
use Rattle.ckpt_content.proofs.FinishesOpen.{finishes_open}
use Rattle.ckpt_content.proofs.Tables.{known_there}

-- a checkpoint that starts is valid
begun : (m : Machine) → Valid m → Valid (after m CheckpointStart)
begun m v = record {
  run = v.run;
  next = v.next;
  orderly = v.orderly;
  names = v.names;
  stamps = v.stamps;
  sessions = v.sessions;
  checkpoint = λ c runs. let same : checkpoint_now m ≡ c = cc in subst (λ (k : Checkpoint). ValidCheckpoint m.history m.oldest m.stable k) same (record {
    news = [];
    start = m.history;
    whole = refl;
    prefix = refl;
    follow = tt;
    oldest = omega arith;
    stable = omega arith;
    stamps = v.stamps;
  });
  cursors = v.cursors;
}

-- all tables stood as it started
all_then : (m : Machine) → tables_then m (checkpoint_now m) ≡ tables m.history
all_then m = ap tables (first-start [] m.history)

-- newest rows are taken, with records that have the older versions
rows_taken : (m : Machine) (records : List HistoryRecord) → HaveOlder m (λ table key. records_at table key records) → (known : List Table) (trees : List TableTree) → ((t : Table) → Member t known → Member t (tables m.history)) → AreRowsOf m known trees
    → AreTakenOf (after m CheckpointStart) (checkpoint_now m) records known trees
rows_taken m records older [] [] there are = tt
rows_taken m records older [] (tree ∷ trees) there are = absurd are
rows_taken m records older (t ∷ known) [] there are = absurd are
rows_taken m records older (t ∷ known) (tree ∷ trees) there are = (
  record {
    fit = are.0.fit;
    captured = λ key. subst (λ (o : Option (Version Change)). CapturedIn m (checkpoint_now m) t.number key o (Held (records_at t.number key records))) (are.0.newest key) (older t (there t (inl refl)) key);
  },
  rows_taken m records older known trees (λ u at. there u (inr at)) are.1,
)

module _ (m : Machine) (number : ℕ) (s : Stored) (valid : Valid m) (regular : IsRegular (content_of s)) (is : IsCheckpointOf m number s) where
  live_then : (x : Name) → MattersToCheckpoints (after m CheckpointStart) x → MattersToCheckpoints m x
  live_then x (inl committed) = inl committed
  live_then x (inr live) = inr (record { session = live.session; transaction = live.transaction; there = live.there; drawn = live.drawn; name = live.name; counts = live.counts })

  finish : IsFinishOf (after m CheckpointStart) (checkpoint_now m) number s
  finish = record {
    names = record {
      sequence = is.names.sequence;
      run = is.names.run;
      oldest = is.names.oldest;
      stable = is.names.stable;
      sees = record { run = is.names.sees.run; order = is.names.sees.order; drawn = is.names.sees.drawn; within = is.names.sees.within; sees = λ x matters. is.names.sees.sees x (live_then x matters) };
      tables_are = is.names.tables_are ∙ ap (λ (l : List Table). by_name (reverse l)) (sym (all_then m));
    };
    rows = rows_taken m (join s.history.leaves) is.history.older (tables_of s.kept.tables) s.trees (known_there m.history (tables_of s.kept.tables) is.names.tables_are) is.rows;
    known = λ r there. subst (λ (l : List Table). has_table l r.table ≡ true) (sym (all_then m)) (is.history.known r there);
  }

  opens : OpensAs (content_of s) (checkpointed m).completed
  opens = finishes_open (after m CheckpointStart) (checkpoint_now m) number s (begun m valid) refl regular finish

pub checkpoints_open : CheckpointsOpen
checkpoints_open m number s valid regular is = opens m number s valid regular is

pub read_checkpoints_open : ((bytes : List ℕ) (c : Content) → Reads bytes c → IsRegular c) → ReadCheckpointsOpen
read_checkpoints_open law bytes m number s valid on is = opens m number s valid (law bytes (content_of s) (inr (s, on, refl))) is
