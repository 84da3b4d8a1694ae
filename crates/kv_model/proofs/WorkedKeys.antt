-- One key through an eviction, rollbacks to stable and openings, on short runs written out.
use Rattle.std.proofs.Common.{◌≡◌, ◌≤◌, ℕ, refl, ap, sym, ◌∙◌, subst, inl, inr, zero, suc, Bool, true, false, List, [], ◌∷◌, arith, map}
use Rattle.std.specs.Prelude.{Some, None, filter, option_and_then, bytes_eq, ◌==◌}
use Rattle.std.proofs.lemmas.Bool.{cases_Bool, both_ways, or_left, and_left}
use Rattle.item.specs.declared.Change.{Change}
use Rattle.item.specs.declared.Change.TheVariants.{Put}
use Rattle.item.specs.declared.Format.TheVariants.{U}
use Rattle.stamp.specs.declared.Name.{Name}
use Rattle.stamp.specs.declared.Version.{Version}
use Rattle.kv_model.specs.Holds.{Descends, Picks}
use Rattle.kv_model.specs.Ordered.{Older}
use Rattle.kv_model.specs.History.{Table, Placed, admits, line, is_stable, put_of, value, is_by, is_at, has_table, committed}
use Rattle.kv_model.specs.Machine.{Machine, Transaction, BeginAt, SetStamps, RollbackToStable, transaction_of, name_of, after, begun, CheckpointStart, Checkpoint, finished}
use Rattle.kv_model.specs.Reads.{own_write, is_own, Meets}
use Rattle.kv_model.specs.Allowed.{Allowed}
use Rattle.kv_model.specs.Captures.{ReconciledLists, Cleaned, Captured, CapturedIn, is_in}
use Rattle.kv_model.specs.Content.{Content, start, kept, OpensAs, sees_name}
use Rattle.kv_model.specs.Pending.{settled, InFrame, KeyStands}
use Rattle.kv_model.specs.Reconciling.{held_in, each_one}
use Rattle.kv_model.specs.Marks.{MarkedStands, no_mark, recorded_mark, rolled, keeps_cell, is_clean}
use Rattle.kv_model.specs.StableLaws.{RolledBack}
use Rattle.kv_model.specs.OpeningLaws.{cell_of, kept_records_of, Finishes, records_of}
use Rattle.kv_model.specs.StoreLaws.{Held}
use Rattle.kv_model.specs.Valid.{Valid}
use Rattle.kv_model.specs.Regular.{IsRegular}
use Rattle.kv_model.proofs.WorkedRows.{run, a, stamped}
use Rattle.kv_model.proofs.ReconciledKeys.{eviction-stands}
use Rattle.kv_model.proofs.SweptKeys.{adds-stand}
use Rattle.kv_model.proofs.MarkedKeys.{leaves-go-on, marked-loads}
use Rattle.kv_model.proofs.RolledKeys.{leaf-rolls-back}
use Rattle.kv_model.proofs.TwoMoments.{reads-in-two-moments, pins-begin}
use Rattle.kv_model.proofs.FinishedKeys.{finish-opens}
use Rattle.kv_model.proofs.ContentKeys.{starts-stand}

-- a version of run 1
abbrev made : ℕ → ℕ → ℕ → ℕ → Version Change
made id commit durable v = record { window = record { name = record { run = 1; id = id }; commit = commit; durable = durable }; change = Put (v ∷ []) }

abbrev eight : Version Change
eight = made 1 10 10 8

abbrev nine : Version Change
nine = made 2 20 20 9

-- a = 8 at 10, a = 9 at 20: both in the chain
nobody : (s : ℕ) (t : Transaction) → transaction_of stamped s ≡ Some t → ⊥
nobody zero t e = absurd (cc)
nobody (suc zero) t e = absurd (cc)
nobody (suc (suc zero)) t e = absurd (cc)
nobody (suc (suc (suc zero))) t e = absurd (cc)
nobody (suc (suc (suc (suc s)))) t e = absurd (cc)

in-order : Descends Older (nine ∷ eight ∷ [])
in-order = ((λ y at. elim at [ inl same ↦ subst (λ (z : Version Change). Older z nine) (sym same) (inr (refl, (omega arith))) | inr none ↦ absurd none ]), ((λ y at. absurd at), tt))

chained : KeyStands stamped 1 a (map settled (nine ∷ eight ∷ [])) None (Held [])
chained = record {
  top = [];
  held = nine ∷ eight ∷ [];
  below = nine ∷ eight ∷ [];
  chained = refl;
  ordered = in-order;
  topped = (refl, λ s t wrote. absurd (nobody s t wrote.0));
  stores = record {
    kept = record {
      within = λ v held. elim held [ inl f ↦ elim f [ inl at ↦ at | inr is ↦ absurd (cc) ] | inr h ↦ absurd h ];
      all = λ v there. inl (inl (inl there));
    };
    upper = λ v w f there below. inl (inl there);
  };
  layered = λ v h. absurd h;
}

-- nothing is past
abbrev never : Version Change → Bool
never v = false

-- an eviction: the newest becomes the cell, the other one goes to the history
reconciled : ReconciledLists Older each_one never (held_in (map settled (nine ∷ eight ∷ [])) None) (Some nine) (eight ∷ [])
reconciled = record {
  cell_is = refl;
  from = λ v at. elim at [ inl same ↦ (inr (inl same), refl) | inr none ↦ absurd none ];
  all = λ v at lives. elim at [ inl same ↦ inl (ap Some (sym same)) | inr later ↦ elim later [ inl same ↦ inr (inl (inl same)) | inr none ↦ absurd none ] ];
}

evicted : Valid stamped → KeyStands stamped 1 a [] (Some nine) (Held (eight ∷ []))
evicted valid = adds-stand stamped 1 a [] (Some nine) [] (eight ∷ []) (eight ∷ []) valid
    (record { fewer = λ v at. at; old = λ v at. absurd at; new = λ v at. (v, at, refl) })
    (eviction-stands stamped 1 a never (map settled (nine ∷ eight ∷ [])) None (Some nine) [] (eight ∷ [])
    (λ v there is. absurd (cc)) (λ v at is s t there. absurd (nobody s t there)) reconciled chained)

newest-eight : (keeps : Version Change → Bool) → keeps eight ≡ true → Picks Older (Held (eight ∷ [])) keeps (Some eight)
newest-eight keeps is = record { held = inl refl; passes = is; newest = λ y at t. elim at [ inl same ↦ inl same | inr none ↦ absurd none ] }

-- a read at 10 passes over the cell, and what the history gives is its value
abbrev reader : Transaction
reader = begun stamped 10

abbrev reading : Machine
reading = after stamped (BeginAt 3 10)

alone : (s : ℕ) (t : Transaction) → transaction_of reading s ≡ Some t → (s ≡ 3) × (reader ≡ t)
alone zero t e = absurd (cc)
alone (suc zero) t e = absurd (cc)
alone (suc (suc zero)) t e = absurd (cc)
alone (suc (suc (suc zero))) t e = (refl, (cc))
alone (suc (suc (suc (suc s)))) t e = absurd (cc)

below-nine : Older nine eight → ⊥
below-nine (inl less) = omega arith
below-nine (inr less) = let low = less.1 in omega arith

not-itself : Older nine nine → ⊥
not-itself (inl less) = omega arith
not-itself (inr less) = let low = less.1 in omega arith

in-cell : (v : Version Change) → InFrame [] (Some nine) v → nine ≡ v
in-cell v (inl none) = absurd none
in-cell v (inr is) = cc

resting : KeyStands reading 1 a [] (Some nine) (Held (eight ∷ []))
resting = record {
  top = [];
  held = [];
  below = nine ∷ eight ∷ [];
  chained = refl;
  ordered = ((λ y at. absurd at), tt);
  topped = (refl, λ s t wrote. let t_is = (alone s t wrote.0).1 in let none : false ≡ true = subst (λ (z : Transaction). is_own (own_write z 1 a) ≡ true) (sym t_is) wrote.1 in absurd (cc));
  stores = record {
    kept = record {
      within = λ v held. elim held [ inl f ↦ inl (sym (in-cell v f)) | inr h ↦ inr h ];
      all = λ v there. inl (elim there [ inl same ↦ inl (inr (ap Some (sym same))) | inr h ↦ inr h ]);
    };
    upper = λ v w f there below. let above = subst (λ (z : Version Change). Older z w) (sym (in-cell v f)) below in elim there [
      | inl same ↦ absurd (not-itself (subst (λ (z : Version Change). Older nine z) same above))
      | inr later ↦ elim later [ inl same ↦ absurd (below-nine (subst (λ (z : Version Change). Older nine z) same above)) | inr none ↦ absurd none ]
    ];
  };
  layered = λ v h. (
    nine,
    inr refl,
    (λ s t there named. let t_is = (alone s t there).1 in let id : 2 ≡ 0 = ap (λ (n : Name). n.id) (subst (λ (z : Transaction). nine.window.name ≡ name_of reading z) (sym t_is) named) in omega arith),
    inr (in-order.0 v h),
  );
}

nobody-met : (other : ℕ) (x : Transaction) → Meets reading 3 reader 1 a other x → ⊥
nobody-met other x m = m.another (alone other x m.writer.0).0

reads-eight : Valid reading → option_and_then (λ v. put_of v.change) (Some eight) ≡ value reading.history reader.start 10 1 a
unfolding resting
reads-eight valid = reads-in-two-moments reading [] 3 reader 1 a [] [] (Some nine) (Some nine) (eight ∷ []) (eight ∷ []) (Some eight) valid refl tt tt resting
    (record {
      unwritten = refl;
      none = λ v f. subst (λ (z : Version Change). admits reading.history reader.start 10 z ≡ false) (in-cell v f) refl;
      ending = λ other x m. absurd (nobody-met other x m);
      unmet = λ u at. absurd at;
    }) resting (pins-begin (line reading.history 1 a) (nine ∷ eight ∷ []) [] (Some nine)) (newest-eight (admits reading.history reader.start 10) refl)

value-eight : value reading.history reader.start 10 1 a ≡ Some (8 ∷ [])
value-eight = refl

-- a rollback to stable at 10 of the leaf in no frame marks it, and a load brings 8 back
abbrev at_ten : Machine
at_ten = after stamped (SetStamps 0 10)

bounded : filter (is_stable 10) (eight ∷ []) ≡ eight ∷ []
bounded = refl

hidden : keeps_cell (rolled 10 no_mark) nine ≡ false
hidden = refl

first-decides : rolled 15 (rolled 10 no_mark) ≡ rolled 10 no_mark
first-decides = refl

cleans : Cleaned Older (keeps_cell (rolled 10 no_mark)) (Some nine) (Held (eight ∷ [])) (Some eight)
cleans = inr (refl, newest-eight (keeps_cell (rolled 10 no_mark)) refl)

marked : Valid stamped → Valid at_ten → Allowed at_ten RollbackToStable → MarkedStands (after at_ten RollbackToStable) 1 a (rolled 10 no_mark) (Some nine) (Held (eight ∷ []))
marked valid later may = leaf-rolls-back at_ten 1 a (Some nine) (eight ∷ []) later may
    (leaves-go-on stamped (SetStamps 0 10) 1 a (Some nine) (eight ∷ []) valid (inr (omega arith)) tt (evicted valid))

loaded : Valid stamped → Valid at_ten → Allowed at_ten RollbackToStable → KeyStands (after at_ten RollbackToStable) 1 a [] (Some eight) (Held (eight ∷ []))
loaded valid later may = marked-loads (after at_ten RollbackToStable) 1 a (rolled 10 no_mark) (Some nine) (Some eight) (eight ∷ []) cleans (marked valid later may)

-- in a frame: 9 goes, 8 stays
stays-in-chain : RolledBack (is_stable 10) (map settled (nine ∷ eight ∷ [])) None [] (map settled (eight ∷ [])) None
stays-in-chain = record { held = eight ∷ []; plain = refl; frame_is = inl ((eight, inr (inl refl), refl), refl) }

-- and where 9 alone is in the frame, 8 comes back from the history
comes-back : RolledBack (is_stable 10) [] (Some nine) (eight ∷ []) [] (Some eight)
comes-back = record {
  held = [];
  plain = refl;
  frame_is = inr (
    (λ v at is. elim at [ inl same ↦ (let no : is_stable 10 nine ≡ true = subst (λ (z : Version Change). is_stable 10 z ≡ true) same is in absurd (cc)) | inr none ↦ absurd none ]),
    (Some eight, newest-eight (is_stable 10) refl, refl),
  );
}

-- ---- openings

abbrev the_table : Table
the_table = record { number = 1; name = 116 ∷ []; formats = record { key = U; value = U } }

abbrev put_at : List ℕ → Version Change → Placed
put_at key v = record { table = 1; key = key; version = v }

-- 9 at 20 in the cell, 8 at 10 in the history, stable 10
abbrev newer_cell : Content
newer_cell = record { run = 1; oldest = 0; stable = 10; snapshot = record { min = 3; max = 3; ids = [] }; tables = the_table ∷ []; cells = put_at a nine ∷ []; records = put_at a eight ∷ [] }

newer-cell : cell_of newer_cell 1 a ≡ Some nine
newer-cell = refl

newer-records : kept_records_of newer_cell 1 a ≡ eight ∷ []
newer-records = refl

newer-cleans : Cleaned Older (keeps_cell (recorded_mark newer_cell)) (cell_of newer_cell 1 a) (Held (kept_records_of newer_cell 1 a)) (Some eight)
newer-cleans = inr (refl, newest-eight (keeps_cell (recorded_mark newer_cell)) refl)

-- such a leaf is not clean, by its greatest name and durable stamp; at stable 20 it is
newer-marked : is_clean (recorded_mark newer_cell) nine.window.name 20 ≡ false
newer-marked = refl

clean-at-20 : is_clean (recorded_mark (record newer_cell { stable = 20 })) nine.window.name 20 ≡ true
clean-at-20 = refl

-- an id that the snapshot sees, but not below all that ran, does not tell that a leaf is clean
clean-by-min : is_clean (recorded_mark (record newer_cell { stable = 0; snapshot = record { min = 1; max = 3; ids = 1 ∷ [] } })) nine.window.name 20 ≡ false
clean-by-min = refl

-- committed at 10, durable at 30, stable 20: nothing is left
abbrev half : Version Change
half = made 1 10 30 1

abbrev half_cell : Content
half_cell = record newer_cell { stable = 20; cells = put_at a half ∷ []; records = [] }

half-cleans : Cleaned Older (keeps_cell (recorded_mark half_cell)) (cell_of half_cell 1 a) (Held (kept_records_of half_cell 1 a)) None
half-cleans = inr (refl, λ v at is. at)

-- a was captured with 1 and b, later, with 2 that is too new: both were moved to the history
abbrev b : List ℕ
b = 98 ∷ []

abbrev two_leaves : Content
two_leaves = record newer_cell { stable = 0; cells = put_at a (made 1 0 0 1) ∷ put_at b (made 3 0 0 2) ∷ []; records = put_at a (made 1 0 0 1) ∷ put_at b (made 2 0 0 1) ∷ [] }

two-kept : kept two_leaves ≡ put_at a (made 1 0 0 1) ∷ put_at b (made 2 0 0 1) ∷ []
two-kept = refl

two-hidden : keeps_cell (recorded_mark two_leaves) (made 3 0 0 2) ≡ false
two-hidden = refl

two-records : kept_records_of two_leaves 1 b ≡ made 2 0 0 1 ∷ []
two-records = refl

-- ---- a checkpoint at stable 10, from its start to what it opens to

abbrev started : Machine
started = run stamped (SetStamps 0 10 ∷ CheckpointStart ∷ [])

abbrev the_checkpoint : Checkpoint
the_checkpoint = record { prefix = 3; oldest = 0; stable = 10 }

-- nine in the image and eight in the history hold for it
held-both : Captured Older (is_in started.history 3) (is_by 0) (nine ∷ eight ∷ []) (Some nine) (Held (eight ∷ []))
held-both = record {
  cell_there = λ v is. inl (let same : nine ≡ v = cc in sym same);
  within = λ v h. inr h;
  all = λ v there sees. inl (elim there [ inl same ↦ inl (ap Some (sym same)) | inr h ↦ inr h ]);
  top = λ v there sees. (nine, refl, elim there [ inl same ↦ inl same | inr h ↦ inr (in-order.0 v h) ]);
}

held-none : Captured Older (is_in started.history 3) (is_by 0) [] None (Held [])
held-none = record {
  cell_there = λ v is. absurd (cc);
  within = λ v h. h;
  all = λ v there sees. absurd there;
  top = λ v there sees. absurd there;
}

held-key : (table : ℕ) (key : List ℕ) → CapturedIn started the_checkpoint table key (cell_of newer_cell table key) (Held (records_of newer_cell table key))
held-key table key = elim (cases_Bool (is_at table key (put_at a nine))) [ inl is ↦ rw is held-both | inr isnt ↦ rw isnt held-none ]

elsewhere : (table : ℕ) (key : List ℕ) → has_table newer_cell.tables table ≡ false → is_at table key (put_at a nine) ≡ false
elsewhere table key none = elim (cases_Bool (1 == table)) [
  | inl here ↦ absurd (both_ways (has_table newer_cell.tables table) none (or_left (1 == table) false here))
  | inr other ↦ and_left (1 == table) (bytes_eq a key) other
]

finishes : Finishes started the_checkpoint newer_cell
finishes = record {
  oldest = refl;
  stable = refl;
  tables = refl;
  sees = λ p of. elim of [
    | inl cell ↦ elim cell [ inl same ↦ subst (λ (z : Placed). sees_name 1 newer_cell.snapshot z.version.window.name ≡ committed started.history 3 z.version.window.name) (sym same) refl | inr none ↦ absurd none ]
    | inr old ↦ elim old [ inl same ↦ subst (λ (z : Placed). sees_name 1 newer_cell.snapshot z.version.window.name ≡ committed started.history 3 z.version.window.name) (sym same) refl | inr none ↦ absurd none ]
  ];
  captured = λ table key has. held-key table key;
  no_cell = λ table key none. rw (elsewhere table key none) refl;
  within = λ table key none v at. absurd (rw (elsewhere table key none) at at);
}

opens : Valid started → IsRegular newer_cell → OpensAs newer_cell (finished started the_checkpoint).completed
opens valid r = finish-opens started the_checkpoint newer_cell valid refl r finishes

regular : IsRegular newer_cell
regular = record {
  numbers = ((λ t there. absurd there), tt);
  names = λ t u here there same. elim here [ inl one ↦ elim there [ inl two ↦ ap (λ (z : Table). z.number) (one ∙ sym two) | inr none ↦ absurd none ] | inr none ↦ absurd none ];
  cells = ((λ p there. absurd there), tt);
  records = ((λ p there. absurd there), tt);
  stamps = λ p of. elim of [
    | inl cell ↦ elim cell [ inl same ↦ subst (λ (z : Placed). z.version.window.commit ≤ z.version.window.durable) (sym same) (omega arith) | inr none ↦ absurd none ]
    | inr old ↦ elim old [ inl same ↦ subst (λ (z : Placed). z.version.window.commit ≤ z.version.window.durable) (sym same) (omega arith) | inr none ↦ absurd none ]
  ];
  fit = inr (omega arith);
}

-- what the checkpoint completes has eight alone
completed-eight : line (finished started the_checkpoint).completed.content 1 a ≡ eight ∷ []
completed-eight = refl

-- and an opening, with the load after it, gives a frame that holds eight
reopened : Valid started → KeyStands (start newer_cell) 1 a [] (Some eight) (Held (eight ∷ []))
reopened valid = marked-loads (start newer_cell) 1 a (recorded_mark newer_cell) (Some nine) (Some eight) (eight ∷ []) newer-cleans (starts-stand newer_cell 1 a regular (opens valid regular).layered refl)
