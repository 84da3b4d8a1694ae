-- A walk over any number of words: above, those behind a subcommand's name are handed on; in the
-- subcommand, those behind the table add up as items.
use Rattle.std.proofs.Common.{◌≡◌, ◌∙◌, ◌++◌, ◌<◌, ◌==◌, ℕ, ap, ap₂, sym, refl, true, false, List, [], ◌∷◌, Option, Some, None, codes, append-nil, append_assoc, arith, ne_eqb, le-ltb, Bool}
use Rattle.std.proofs.lemmas.List.Sums.{fold-append}
use Rattle.std.specs.Prelude.{fold, find, is_some, option_map, nat_lt}
use Rattle.std.specs.Option.{option_map_or}
use Rattle.clap.specs.Lexer.{usize_max}
use Rattle.clap.specs.Kinds.{Kinds, or_else, range_kinds, values_kinds}
use Rattle.clap.specs.Walk.{Held, Names, Row, Rule, Text, Walk, answers_to, finished, idle, nothing_held, positional, settled, stop_after, walk, walk_from, walked}
use Rattle.clap.specs.Faults.{built_fault, check_fault, defaults_fault, entered_fault, level_fault, settle_fault, turn_fault, walk_fault}
use Rattle.clap.specs.Simple.{App, Shape, entered, label_of, names_of, rows_at}
use Rattle.clap.specs.declared.builder.value_parser.ValueParser.TheVariants as vp
use Rattle.wt_line.specs.Plain.{EachWord}

nothing_else : (ks : Kinds) → or_else ks [] ≡ ks
nothing_else [] = refl
nothing_else (k ∷ ks) = refl

-- ---- above the subcommand

-- the name of a subcommand was met, and these words behind it
abbrev pub at_command : Text → List Text → Walk
at_command name seen = record {
  held = nothing_held;
  waiting = idle;
  position = 1;
  is_trailing = false;
  stopped = Some (name, seen);
}

handed_on : (c : List Rule) (names : Names) (name : Text) (seen words : List Text)
    → fold (walked c names) (at_command name seen) words ≡ at_command name (seen ++ words)
unfolding walked
handed_on c names name seen [] = ap (at_command name) (sym (append-nil seen))
handed_on c names name seen (w ∷ ws) =
    handed_on c names name (seen ++ w ∷ []) ws ∙ ap (at_command name) (append_assoc seen (w ∷ []) ws)

unjudged : (s : Shape) (names : Names) (name : Text) (seen words : List Text) → walk_fault s names (at_command name seen) words ≡ []
unfolding walked walk_fault
unjudged s names name seen [] = refl
unjudged s names name seen (w ∷ ws) = unjudged s names name (seen ++ w ∷ []) ws

-- the command enters this subcommand at its name, and nothing is amiss above
pub record Enters (a : App) (name : Text) (s : Shape) : Type 0 where
  pub met : walked a.top.rules (names_of a) (walk_from nothing_held) name ≡ at_command name []
  pub unfaulted : turn_fault a.top (names_of a) (walk_from nothing_held) name ≡ []
  pub found : find (λ t. answers_to name (label_of t)) a.subs ≡ Some s
  pub settles : settle_fault a.top.rules a.top.args_override_self nothing_held ≡ []
  pub defaults : defaults_fault (settled a.top.rules nothing_held).rows a.top.rules ≡ []
  pub checks : check_fault a.top (finished a.top.rules nothing_held) true ≡ []

walked_above : (a : App) (name : Text) (s : Shape) (rest : List Text) → Enters a name s
    → walk a.top.rules (names_of a) nothing_held (name ∷ rest) ≡ at_command name rest
walked_above a name s rest enters =
    ap (λ (w : Walk). fold (walked a.top.rules (names_of a)) w rest) enters.met ∙ handed_on a.top.rules (names_of a) name [] rest

judged_above : (a : App) (name : Text) (s : Shape) (rest : List Text) → Enters a name s
    → walk_fault a.top (names_of a) (walk_from nothing_held) (name ∷ rest) ≡ []
unfolding walk_fault
judged_above a name s rest enters =
    ap₂ or_else enters.unfaulted (ap (λ (w : Walk). walk_fault a.top (names_of a) w rest) enters.met ∙ unjudged a.top (names_of a) name [] rest)

-- the faults are those of the subcommand
pub fault_below : (a : App) (name : Text) (s : Shape) (rest : List Text) → Enters a name s
    → built_fault a nothing_held (name ∷ rest) ≡ level_fault s [] nothing_held rest false []
fault_below a name s rest enters =
    ap₂ whole (walked_above a name s rest enters) (judged_above a name s rest enters)
    ∙ ap met enters.found
    ∙ ap (λ (ks : Kinds). or_else below ks) (ap₂ or_else enters.settles (ap₂ or_else enters.defaults enters.checks))
    ∙ nothing_else below
  where
    below : Kinds
    below = level_fault s [] nothing_held rest false []

    met : Option Shape → Kinds
    met o = or_else (option_map_or (λ t. level_fault t [] nothing_held rest false []) o [])
        (or_else (settle_fault a.top.rules a.top.args_override_self nothing_held)
        (or_else (defaults_fault (settled a.top.rules nothing_held).rows a.top.rules)
        (check_fault a.top (finished a.top.rules nothing_held) (is_some (option_map (λ t. rows_at t rest) o)))))

    whole : Walk → Kinds → Kinds
    whole w ks = or_else ks (or_else (entered_fault a w.stopped)
        (or_else (settle_fault a.top.rules a.top.args_override_self w.held)
        (or_else (defaults_fault (settled a.top.rules w.held).rows a.top.rules)
        (check_fault a.top (finished a.top.rules w.held) (is_some (entered a w.stopped))))))

-- the matches are those of the subcommand
pub entered_below : (a : App) (name : Text) (s : Shape) (rest : List Text) → Enters a name s
    → entered a (stop_after a.top.rules (names_of a) (name ∷ rest)) ≡ Some (rows_at s rest)
entered_below a name s rest enters =
    ap (λ (w : Walk). entered a w.stopped) (walked_above a name s rest enters)
    ∙ ap (option_map (λ t. rows_at t rest)) enters.found

-- ---- in the subcommand

-- between two of the items, behind `--` or not
abbrev pub at_items : Bool → List Row → List Text → Walk
at_items trails rows vals = record {
  held = record { rows = rows; pending = Some (codes "items", vals); skip = 0 };
  waiting = positional;
  position = 2;
  is_trailing = trails;
  stopped = None;
}

-- a word of this kind is one item more
pub record TakesItems (s : Shape) (trails : Bool) (P : Text → Type 0) : Type 0 where
  pub more : (rows : List Row) (vals : List Text) (word : Text) → P word
      → walked s.rules [] (at_items trails rows vals) word ≡ at_items trails rows (vals ++ word ∷ [])
  pub unfaulted : (rows : List Row) (vals : List Text) (word : Text) → P word
      → turn_fault s [] (at_items trails rows vals) word ≡ []

all_taken : (s : Shape) (trails : Bool) (P : Text → Type 0) → TakesItems s trails P → (rows : List Row) (vals words : List Text) → EachWord P words
    → fold (walked s.rules []) (at_items trails rows vals) words ≡ at_items trails rows (vals ++ words)
all_taken s trails P takes rows vals [] h = ap (at_items trails rows) (sym (append-nil vals))
all_taken s trails P takes rows vals (w ∷ ws) h =
    ap (λ (v : Walk). fold (walked s.rules []) v ws) (takes.more rows vals w h.0)
    ∙ all_taken s trails P takes rows (vals ++ w ∷ []) ws h.1
    ∙ ap (at_items trails rows) (append_assoc vals (w ∷ []) ws)

all_unfaulted : (s : Shape) (trails : Bool) (P : Text → Type 0) → TakesItems s trails P → (rows : List Row) (vals words : List Text) → EachWord P words
    → walk_fault s [] (at_items trails rows vals) words ≡ []
unfolding walk_fault
all_unfaulted s trails P takes rows vals [] h = refl
all_unfaulted s trails P takes rows vals (w ∷ ws) h =
    ap₂ or_else (takes.unfaulted rows vals w h.0)
    (ap (λ (v : Walk). walk_fault s [] v ws) (takes.more rows vals w h.0) ∙ all_unfaulted s trails P takes rows (vals ++ w ∷ []) ws h.1)

in_turn : (xs ys zs : Kinds) → or_else (or_else xs ys) zs ≡ or_else xs (or_else ys zs)
in_turn [] ys zs = refl
in_turn (k ∷ ks) ys zs = refl

unfaulted_by_parts : (s : Shape) (w : Walk) (xs ys : List Text) → walk_fault s [] w (xs ++ ys)
    ≡ or_else (walk_fault s [] w xs) (walk_fault s [] (fold (walked s.rules []) w xs) ys)
unfolding walk_fault
unfaulted_by_parts s w [] ys = refl
unfaulted_by_parts s w (x ∷ xs) ys =
    ap (or_else (turn_fault s [] w x)) (unfaulted_by_parts s (walked s.rules [] w x) xs ys)
    ∙ sym (in_turn (turn_fault s [] w x) (walk_fault s [] (walked s.rules [] w x) xs)
    (walk_fault s [] (fold (walked s.rules []) (walked s.rules [] w x) xs) ys))

-- the words that lead to the first item
pub record Leads (s : Shape) (trails : Bool) (lead : List Text) (rows : List Row) (first : Text) : Type 0 where
  pub walks : fold (walked s.rules []) (walk_from nothing_held) lead ≡ at_items trails rows (first ∷ [])
  pub unfaulted : walk_fault s [] (walk_from nothing_held) lead ≡ []

pub walked_to_items : (s : Shape) (trails : Bool) (P : Text → Type 0) (lead : List Text) (rows : List Row) (first : Text) (rest : List Text)
    → Leads s trails lead rows first → TakesItems s trails P → EachWord P rest
    → walk s.rules [] nothing_held (lead ++ rest) ≡ at_items trails rows (first ∷ rest)
walked_to_items s trails P lead rows first rest leads takes fit =
    fold-append (walked s.rules []) (walk_from nothing_held) lead rest
    ∙ ap (λ (w : Walk). fold (walked s.rules []) w rest) leads.walks
    ∙ all_taken s trails P takes rows (first ∷ []) rest fit

pub unfaulted_to_items : (s : Shape) (trails : Bool) (P : Text → Type 0) (lead : List Text) (rows : List Row) (first : Text) (rest : List Text)
    → Leads s trails lead rows first → TakesItems s trails P → EachWord P rest
    → walk_fault s [] (walk_from nothing_held) (lead ++ rest) ≡ []
unfaulted_to_items s trails P lead rows first rest leads takes fit =
    unfaulted_by_parts s (walk_from nothing_held) lead rest
    ∙ ap₂ or_else leads.unfaulted (ap (λ (w : Walk). walk_fault s [] w rest) leads.walks
    ∙ all_unfaulted s trails P takes rows (first ∷ []) rest fit)

-- what is amiss once the words are read
abbrev pub end_fault : Shape → Held → Kinds
end_fault s h = or_else (settle_fault s.rules s.args_override_self h)
    (or_else (defaults_fault (settled s.rules h).rows s.rules) (check_fault s (finished s.rules h) false))

pub level_passes : (s : Shape) (words : List Text) (w : Walk) → walk s.rules [] nothing_held words ≡ w
    → walk_fault s [] (walk_from nothing_held) words ≡ [] → end_fault s w.held ≡ []
    → level_fault s [] nothing_held words false [] ≡ []
level_passes s words w walk_is unfaulted ends =
    ap₂ (λ (v : Walk) (ks : Kinds). or_else ks (end_fault s v.held)) walk_is unfaulted ∙ ends

-- a use of one value or more
pub in_range : (n : ℕ) → 0 < n → n < 18446744073709551616 → range_kinds 1 usize_max n ≡ []
in_range n some fits =
    let zero : (n == 0) ≡ false = ne_eqb n 0 (λ e. absurd (omega (arith, e))) in
    let few : nat_lt n 1 ≡ false = le-ltb n 1 (omega arith) in
    let many : nat_lt usize_max n ≡ false = le-ltb usize_max n (omega arith) in
    rw (zero, few, many) refl

pub all_pass : (vs : List Text) → values_kinds false vp.String vs ≡ []
all_pass [] = refl
all_pass (v ∷ vs) = all_pass vs
