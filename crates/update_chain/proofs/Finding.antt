-- What an allowed write finds at its key.
use Rattle.std.proofs.Common.{◌≡◌, refl, ap, sym, ◌∙◌, true, ◌&&◌, ◌||◌, List, [], ◌∷◌, ◌++◌, inl, inr, subst, map}
use Rattle.std.specs.Prelude.{Some, None, ◌==◌, if◌then◌else◌}
use Rattle.std.proofs.lemmas.Bool.{cases_Bool, and_parts, or_cases, or_left, or_right}
use Rattle.item.specs.declared.Change.{Change}
use Rattle.item.specs.declared.Change.TheVariants.{Put, Remove}
use Rattle.stamp.specs.declared.Version.{Version}
use Rattle.stamp.specs.declared.View.{View}
use Rattle.kv_model.specs.History.{put_of, reads_at}
use Rattle.kv_model.specs.Reads.{present}
use Rattle.kv_model.specs.Pending.{Update as ModelUpdate, settled as model_settled, InFrame}
use Rattle.kv_model.proofs.Snapshots.{line-released}
use Rattle.snapshot.specs.Sight.{is_seen, sight_of}
use Rattle.update_chain.specs.declared.look.Judgement.TheVariants.{Allowed, Refused}
use Rattle.update_chain.specs.declared.update.Update.{Update}
use Rattle.update_chain.specs.Updates.{unmarked_update, is_own, stamp_at, Conflicts, reply_of, read_of}
use Rattle.update_chain.specs.Answers.{ReplyStands, is_admitted}
use Rattle.update_chain.specs.Writing.{may_follow_by, judgement_by, WritesFind}
use Rattle.update_chain.proofs.Below.{own-unreleased}
use Rattle.update_chain.proofs.Framing.{reads-are-present, views-admit}
use Rattle.update_chain.proofs.Reading.{read-here, reads-stand}
use Rattle.update_chain.proofs.Tops.{frame-stands}

-- an update that allows the write may be followed
follows : (view : View) (u : Update) → judgement_by view u ≡ Allowed → may_follow_by view u ≡ true
follows view u allowed = elim (cases_Bool (may_follow_by view u)) [
  | inl is ↦ is
  | inr isnt ↦ let e : Refused u.version.window.name ≡ Allowed = sym (ap (λ b. if b then Allowed else Refused u.version.window.name) isnt) ∙ allowed in absurd (cc)
]

-- a read ends there, and gives its change
gives : (view : View) (u : Update) (older : List Update) → may_follow_by view u ≡ true → read_of view (u ∷ older) ≡ reply_of u.version.change
gives view u older may = elim (or_cases (is_own view u) ((u.prepared == 0) && (is_seen (sight_of view) u.version.window.name && reads_at view.read u.version.window.commit)) may) [
  | inl own ↦ read-here view u older (or_left (is_own view u) (is_seen (sight_of view) u.version.window.name && reads_at view.read (stamp_at u)) own)
      ∙ ap (λ b. if b then reply_of u.version.change else Conflicts u.version.window.name.id) (or_left (is_own view u) (u.prepared == 0) own)
  | inr other ↦
      let parts = and_parts (u.prepared == 0) (is_seen (sight_of view) u.version.window.name && reads_at view.read u.version.window.commit) other in
      let stamp : stamp_at u ≡ u.version.window.commit = ap (λ b. if b then u.version.window.commit else u.prepared) parts.0 in
      read-here view u older (or_right (is_own view u) (is_seen (sight_of view) u.version.window.name && reads_at view.read (stamp_at u))
      (ap (λ n. is_seen (sight_of view) u.version.window.name && reads_at view.read n) stamp ∙ parts.1))
      ∙ ap (λ b. if b then reply_of u.version.change else Conflicts u.version.window.name.id) (or_right (is_own view u) (u.prepared == 0) parts.0)
]

-- nothing is held where the chain is empty
none-held : (top : List ModelUpdate) (held : List (Version Change)) → [] ≡ top ++ map model_settled held → held ≡ []
none-held [] [] e = refl
none-held [] (v ∷ held) e = absurd (cc)
none-held (x ∷ top) held e = absurd (cc)

pub writes-find : WritesFind
writes-find m s t view table key (u ∷ older) cell records valid there running stands k allowed =
    by-change u.version.change (subst (ReplyStands m s t table key cell records) (gives view u older (follows view u allowed)) (reads-stand m s t view table key (u ∷ older) cell records valid there running stands k).answers) where
      by-change : (c : Change) → ReplyStands m s t table key cell records (reply_of c) → present m t table key ≡ put_of c
      by-change (Put value) answer = sym (reads-are-present m s t table key (Some value) answer)
      by-change Remove answer = sym (reads-are-present m s t table key None answer)
writes-find m s t view table key [] (Some v) records valid there running stands k allowed =
    let member = frame-stands m table key [] (Some v) _ k v (inr refl) in
    let released = line-released m.history valid.orderly table key v member in
    let other = own-unreleased m s t view v valid there running stands released in
    let may = follows view (unmarked_update v) allowed in
    let admitted : is_admitted m t v ≡ true = sym (views-admit m t view table key v valid stands member)
    ∙ (sym (ap (λ b. b || (is_seen (sight_of view) v.window.name && reads_at view.read v.window.commit)) other) ∙ may) in
    sym (reads-are-present m s t table key (put_of v.change) ((reads-stand m s t view table key [] (Some v) records valid there running stands k).answers.in_cell v refl admitted))
writes-find m s t view table key [] None records valid there running stands k allowed =
    sym (reads-are-present m s t table key None ((reads-stand m s t view table key [] None records valid there running stands k).answers.in_history (λ v e. absurd (cc)) None
    (λ v at is. nothing k.held (none-held k.top k.held k.chained) (k.layered v at).0 (k.layered v at).1))) where
      nothing : (held : List (Version Change)) → held ≡ [] → (w : Version Change) → InFrame held None w → ⊥
      nothing [] e w (inl at) = at
      nothing [] e w (inr is) = absurd (cc)
      nothing (x ∷ held) e w at = absurd (cc)
