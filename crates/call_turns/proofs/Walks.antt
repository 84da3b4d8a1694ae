-- How many leaves are left to a walk, and how many steps to a call at a leaf.
use Rattle.std.proofs.Common.{◌≡◌, ◌≢◌, ◌≤◌, ◌<◌, ◌+◌, ◌*◌, ◌^◌, ℕ, suc, refl, ap, sym, ◌∙◌, List, [], ◌∷◌, length, inl, inr, subst, arith}
use Rattle.std.specs.Prelude.{◌==◌, Option, Some, None, option_map}
use Rattle.std.specs.List.{AllPairs, Contains}
use Rattle.std.proofs.lemmas.Bool.{cases_Bool, cases_eq, eq-eqb, eqb-true, ne_eqb}
use Rattle.std.proofs.lemmas.Option.{same_Some}
use Rattle.kv_model.specs.Rows.{Way, Up, Down}
use Rattle.wt_calls.specs.Calls.{way_in}
use Rattle.tree_dir.specs.declared.leaf.Framed.{Framed}
use Rattle.tree_dir.specs.declared.leaf.Leaf.{Leaf}
use Rattle.tree_dir.specs.Leaves.{Directory, IsDirectory, leaf_ahead, leaf_behind, leaf_named, of_table}
use Rattle.tree_dir.proofs.Members.{head-in, later}
use Rattle.tree_dir.proofs.Parting.{ids-name, last-ends, under-has}
use Rattle.call_steps.specs.declared.stage.KeyCall.{KeyCall}
use Rattle.call_steps.specs.declared.stage.KeyCall.TheVariants as key_call
use Rattle.call_steps.specs.declared.stage.Stage.{Stage}
use Rattle.call_steps.specs.declared.stage.Target.{Target}
use Rattle.call_steps.specs.State.{State}
use Rattle.call_steps.specs.Tables.{filled, leaf_on, leaf_sought, next_for, stage_by, stage_for}
use Rattle.call_turns.specs.Turns.{all_ahead, all_behind, fill_turns, find_turns, further, leaves_left, leaves_on, turns_at}

-- no two leaves have one id
abbrev pub Once : List Leaf → Type 0
Once leaves = AllPairs (λ a b. a.id ≢ b.id) leaves

once-tail : (a : Leaf) (leaves : List Leaf) → Once (a ∷ leaves) → Once leaves
once-tail a leaves once i j d lt within = once (suc i) (suc j) d (omega (arith, lt)) (omega (arith, within))

-- the first leaf has the id of no other
once-head : (a : Leaf) (leaves : List Leaf) (b : Leaf) → Once (a ∷ leaves) → Contains leaves b → a.id ≢ b.id
once-head a leaves b once c e = once 0 (suc c.0) b (omega arith) (omega (arith, c.1)) (e ∙ ap (λ (x : Leaf). x.id) (sym c.2))

is-of-table : (table : ℕ) (b n : Leaf) → of_table table b ≡ Some n → b ≡ n
is-of-table table b n e = elim (cases_Bool (b.table == table)) [
  | inl is ↦ same_Some b n (rw is at e)
  | inr isnt ↦ let none : None ≡ Some n = rw isnt at e in absurd cc
]

-- ---- at most all of them

few-behind : (id : ℕ) (leaves : List Leaf) → length (all_behind id leaves) ≤ length leaves
few-behind id [] = omega arith
few-behind id (l ∷ leaves) = elim (cases_Bool (l.id == id)) [
  | inl is ↦ rw is (omega arith)
  | inr isnt ↦ rw isnt (let less = few-behind id leaves in omega (arith, less))
]

few-ahead : (id : ℕ) (leaves : List Leaf) → length (all_ahead id leaves) ≤ length leaves
few-ahead id [] = omega arith
few-ahead id (l ∷ leaves) = elim (cases_Bool (l.id == id)) [
  | inl is ↦ rw is (omega arith)
  | inr isnt ↦ rw isnt (let less = few-ahead id leaves in omega (arith, less))
]

leaves-few : (way : Way) (id : ℕ) (leaves : List Leaf) → leaves_on way id leaves ≤ length leaves
leaves-few Up id leaves = few-behind id leaves
leaves-few Down id leaves = few-ahead id leaves

left-few : (call : KeyCall) (id : ℕ) (leaves : List Leaf) → leaves_left call id leaves ≤ length leaves
left-few (key_call.Step cursor way) id leaves = leaves-few (way_in way) id leaves
left-few call id leaves = omega arith

-- ---- the next leaf is there

behind-there : (id : ℕ) (leaves : List Leaf) (n : Leaf) → leaf_behind id leaves ≡ Some n → Contains leaves n
behind-there id [] n e = absurd cc
behind-there id (a ∷ []) n e = absurd cc
behind-there id (a ∷ b ∷ leaves) n e = elim (cases_Bool (a.id == id)) [
  | inl is ↦ subst (Contains (a ∷ b ∷ leaves)) (is-of-table a.table b n (rw is at e)) (later a b (b ∷ leaves) (head-in b leaves))
  | inr isnt ↦ later a n (b ∷ leaves) (behind-there id (b ∷ leaves) n (rw isnt at e))
]

-- the leaf before one is there, and so is one of the id
record IsAhead (id : ℕ) (leaves : List Leaf) (n : Leaf) : Type 0 where
  there : Contains leaves n
  next : Leaf
  of : next.id ≡ id
  next_there : Contains leaves next

ahead-there : (id : ℕ) (leaves : List Leaf) (n : Leaf) → leaf_ahead id leaves ≡ Some n → IsAhead id leaves n
ahead-there id [] n e = absurd cc
ahead-there id (a ∷ []) n e = absurd cc
ahead-there id (a ∷ b ∷ leaves) n e = elim (cases_Bool (b.id == id)) [
  | inl is ↦ record {
    there = subst (Contains (a ∷ b ∷ leaves)) (is-of-table b.table a n (rw is at e)) (head-in a (b ∷ leaves));
    next = b;
    of = eqb-true b.id id is;
    next_there = later a b (b ∷ leaves) (head-in b leaves);
  }
  | inr isnt ↦ let more = ahead-there id (b ∷ leaves) n (rw isnt at e) in record {
    there = later a n (b ∷ leaves) more.there;
    next = more.next;
    of = more.of;
    next_there = later a more.next (b ∷ leaves) more.next_there;
  }
]

on-there : (way : Way) (id : ℕ) (leaves : List Leaf) (n : Leaf) → leaf_on way id leaves ≡ Some n → Contains leaves n
on-there Up id leaves n e = behind-there id leaves n e
on-there Down id leaves n e = (ahead-there id leaves n e).there

pub next-there : (call : KeyCall) (id : ℕ) (leaves : List Leaf) (n : Leaf) → next_for call id leaves ≡ Some n → Contains leaves n
next-there (key_call.Step cursor way) id leaves n e = on-there (way_in way) id leaves n e
next-there call id leaves n e = absurd cc

pub sought-there : (d : Directory) (table : ℕ) (key : Option (List ℕ)) (l : Leaf) → IsDirectory d → leaf_sought d.leaves table key ≡ Some l → Contains d.leaves l
sought-there d table None l is e = (last-ends d is table l e).0
sought-there d table (Some key) l is e = (under-has d is table key l e).there

-- a leaf that is found by its id has it
pub named-is : (id : ℕ) (leaves : List Leaf) (l : Leaf) → leaf_named id leaves ≡ Some l → l.id ≡ id
named-is id [] l e = absurd cc
named-is id (a ∷ leaves) l e = elim (cases_Bool (a.id == id)) [
  | inl is ↦ let same : a ≡ l = same_Some a l (rw is at e) in ap (λ (x : Leaf). x.id) (sym same) ∙ eqb-true a.id id is
  | inr isnt ↦ named-is id leaves l (rw isnt at e)
]

-- ---- one less at the next leaf

less-behind : (id : ℕ) (leaves : List Leaf) (n : Leaf) → Once leaves → leaf_behind id leaves ≡ Some n → length (all_behind id leaves) ≡ suc (length (all_behind n.id leaves))
less-behind id [] n once e = absurd cc
less-behind id (a ∷ []) n once e = absurd cc
less-behind id (a ∷ b ∷ leaves) n once e = elim (cases_eq a.id id) [
  | inl is ↦ let here : b ≡ n = is-of-table a.table b n (rw (eq-eqb a.id id is) at e) in
      let apart : a.id ≢ b.id = once-head a (b ∷ leaves) b once (head-in b leaves) in
      let first : all_behind id (a ∷ b ∷ leaves) ≡ b ∷ leaves = rw (eq-eqb a.id id is) refl in
      let second : all_behind b.id (a ∷ b ∷ leaves) ≡ leaves = rw (ne_eqb a.id b.id apart, eq-eqb b.id b.id refl) refl in
      ap length first ∙ ap suc (sym (ap length (ap (λ (x : Leaf). all_behind x.id (a ∷ b ∷ leaves)) (sym here) ∙ second)))
  | inr other ↦ let rest : leaf_behind id (b ∷ leaves) ≡ Some n = rw (ne_eqb a.id id other) at e in
      let apart : a.id ≢ n.id = once-head a (b ∷ leaves) n once (behind-there id (b ∷ leaves) n rest) in
      let first : all_behind id (a ∷ b ∷ leaves) ≡ all_behind id (b ∷ leaves) = rw (ne_eqb a.id id other) refl in
      let second : all_behind n.id (a ∷ b ∷ leaves) ≡ all_behind n.id (b ∷ leaves) = rw (ne_eqb a.id n.id apart) refl in
      ap length first ∙ (less-behind id (b ∷ leaves) n (once-tail a (b ∷ leaves) once) rest ∙ ap suc (sym (ap length second)))
]

less-ahead : (id : ℕ) (leaves : List Leaf) (n : Leaf) → Once leaves → leaf_ahead id leaves ≡ Some n → length (all_ahead id leaves) ≡ suc (length (all_ahead n.id leaves))
less-ahead id [] n once e = absurd cc
less-ahead id (a ∷ []) n once e = absurd cc
less-ahead id (a ∷ b ∷ leaves) n once e = elim (cases_eq b.id id) [
  | inl is ↦ let here : a ≡ n = is-of-table b.table a n (rw (eq-eqb b.id id is) at e) in
      let apart : a.id ≢ id = λ same. once-head a (b ∷ leaves) b once (head-in b leaves) (same ∙ sym is) in
      let first : all_ahead id (a ∷ b ∷ leaves) ≡ a ∷ [] = rw (ne_eqb a.id id apart, eq-eqb b.id id is) refl in
      let second : all_ahead a.id (a ∷ b ∷ leaves) ≡ [] = rw (eq-eqb a.id a.id refl) refl in
      ap length first ∙ ap suc (sym (ap length (ap (λ (x : Leaf). all_ahead x.id (a ∷ b ∷ leaves)) (sym here) ∙ second)))
  | inr other ↦ let rest : leaf_ahead id (b ∷ leaves) ≡ Some n = rw (ne_eqb b.id id other) at e in
      let more = ahead-there id (b ∷ leaves) n rest in
      let id_apart : a.id ≢ id = λ same. once-head a (b ∷ leaves) more.next once more.next_there (same ∙ sym more.of) in
      let n_apart : a.id ≢ n.id = once-head a (b ∷ leaves) n once more.there in
      let first : all_ahead id (a ∷ b ∷ leaves) ≡ a ∷ all_ahead id (b ∷ leaves) = rw (ne_eqb a.id id id_apart) refl in
      let second : all_ahead n.id (a ∷ b ∷ leaves) ≡ a ∷ all_ahead n.id (b ∷ leaves) = rw (ne_eqb a.id n.id n_apart) refl in
      ap length first ∙ (ap suc (less-ahead id (b ∷ leaves) n (once-tail a (b ∷ leaves) once) rest) ∙ ap suc (sym (ap length second)))
]

less-on : (way : Way) (id : ℕ) (leaves : List Leaf) (n : Leaf) → Once leaves → leaf_on way id leaves ≡ Some n → leaves_on way id leaves ≡ suc (leaves_on way n.id leaves)
less-on Up id leaves n once e = less-behind id leaves n once e
less-on Down id leaves n once e = less-ahead id leaves n once e

pub left-less : (call : KeyCall) (id : ℕ) (leaves : List Leaf) (n : Leaf) → Once leaves → next_for call id leaves ≡ Some n → leaves_left call id leaves ≡ suc (leaves_left call n.id leaves)
left-less (key_call.Step cursor way) id leaves n once e = less-on (way_in way) id leaves n once e
left-less call id leaves n once e = absurd cc

-- ---- a call at a leaf that is there

-- where a leaf is in this frame
abbrev pub target_at : Leaf → Framed → Target
target_at l f = record { table = l.table; leaf = l.id; frame = f.frame; word = filled f.generation }

-- the stage of a call at a leaf that would be in this frame, if in any
abbrev pub stage_in : KeyCall → Leaf → Option Framed → Stage
stage_in call l framed = stage_by call l (option_map (target_at l) framed)

-- at most as many as where it waits for the leaf
at-leaf : (call : KeyCall) (d : Directory) (l : Leaf) (a : State) (framed : Option Framed) → IsDirectory d → Contains d.leaves l → turns_at (stage_in call l framed) d.leaves a ≤ 7 + further call l.id d.leaves
at-leaf call d l a None is there = subst (λ (o : Option Leaf). fill_turns o call l.id d.leaves ≤ 7 + further call l.id d.leaves) (sym (ids-name d is l there)) (omega arith)
at-leaf call d l a (Some f) is there = omega arith

bounded : (n k most : ℕ) → n ≤ 7 + 5 * k → k ≤ most → most ≤ 2 ^ 28 → n < 8 + 5 * 2 ^ 28
bounded n k most at few less = omega (arith, at, few, less)

-- a search for the leaf takes more
pub found-less : (call : KeyCall) (d : Directory) (l : Leaf) (a : State) → IsDirectory d → Contains d.leaves l → turns_at (stage_for call l) d.leaves a < find_turns
found-less call d l a is there = bounded (turns_at (stage_for call l) d.leaves a) (leaves_left call l.id d.leaves) (length d.leaves) (at-leaf call d l a l.frame is there) (left-few call l.id d.leaves) is.few

-- so does the leaf before it
pub next-less : (call : KeyCall) (d : Directory) (id : ℕ) (n : Leaf) (a : State) → IsDirectory d → next_for call id d.leaves ≡ Some n → turns_at (stage_for call n) d.leaves a < 3 + further call id d.leaves
next-less call d id n a is e = let at = at-leaf call d n a n.frame is (next-there call id d.leaves n e) in let less = left-less call id d.leaves n is.once e in omega (arith, at, less)
