-- Room for the entries of leaves that are written.
use Rattle.std.specs.Prelude.{◌≡◌, ℕ, ◌+◌, ◌<◌, ◌==◌, true, List, [], ◌∷◌, ◌++◌, length, take, Option, Some, if◌then◌else◌}
use Rattle.std.proofs.Common.{◌∙◌, ap, get_or, subst, sym}
use Rattle.std.proofs.lemmas.List.{take_more}
use Rattle.stored.specs.TableTree.{Entry}
use Rattle.ckpt_step.specs.Parts.{HaveRoom, with_parts}
use Rattle.ckpt_step.specs.Rooms.{Rooms, Written, has_room}
use Rattle.ckpt_step.specs.declared.parts.LeafPart.{LeafPart}
use Rattle.ckpt_step.proofs.WithParts.{with_both}

-- room that was there stays
pub room_kept : (rooms next : Rooms) (xs : List LeafPart) → ((id : ℕ) → has_room rooms id ≡ true → has_room next id ≡ true) → HaveRoom rooms xs → HaveRoom next xs
room_kept rooms next [] kept room = tt
room_kept rooms next (p ∷ xs) kept room = (kept p.leaf room.0, room_kept rooms next xs kept room.1)

-- and room for one more
pub room_more : (rooms : Rooms) (xs : List LeafPart) (p : LeafPart) → HaveRoom rooms xs → has_room rooms p.leaf ≡ true → HaveRoom rooms (xs ++ p ∷ [])
room_more rooms [] p room own = (own, tt)
room_more rooms (x ∷ xs) p room own = (room.0, room_more rooms xs p room.1 own)

-- of those that are gone through one by one
pub room_step : (rooms : Rooms) (xs : List LeafPart) (i : ℕ) (p : LeafPart) → i < length xs → p ≡ get_or xs i p → HaveRoom rooms (take i xs) → has_room rooms p.leaf ≡ true → HaveRoom rooms (take (i + 1) xs)
room_step rooms xs i p lt is room own = subst (λ (l : List LeafPart). HaveRoom rooms l) (sym (take_more xs i p lt ∙ ap (λ (q : LeafPart). take i xs ++ q ∷ []) (sym is))) (room_more rooms (take i xs) p room own)

-- there is room for each
pub room_at : (rooms : Rooms) (front : List LeafPart) (p : LeafPart) (rest : List LeafPart) → HaveRoom rooms (front ++ p ∷ rest) → has_room rooms p.leaf ≡ true
room_at rooms [] p rest room = room.0
room_at rooms (x ∷ front) p rest room = room_at rooms front p rest room.1

-- what is written behind others
pub put_more : (had now next : Written) (front : List LeafPart) (p : LeafPart) → ((id : ℕ) → next id ≡ (if id == p.leaf then Some p.entries.items else now id)) → ((id : ℕ) → now id ≡ with_parts had front id) → (id : ℕ) → next id ≡ with_parts had (front ++ p ∷ []) id
put_more had now next front p put was id = put id ∙ (ap (λ (o : Option (List Entry)). if id == p.leaf then Some p.entries.items else o) (was id) ∙ sym (with_both had front (p ∷ []) id))
