-- The page that an entry leads to.
use Rattle.std.proofs.Common.{◌≡◌, ℕ, zero, suc, ◌+◌, ◌-◌, ◌≤◌, Bool, true, IsTrue, List, [], ◌∷◌, length, Option, Some, None, refl, sym, ◌∙◌, ap, subst, inl, inr, arith}
use Rattle.std.specs.List.{flat_map, slice_get}
use Rattle.std.proofs.lemmas.List.{length-take, length-drop}
use Rattle.block_sum.specs.Sum.{sum_of}
use Rattle.le_codec.specs.Images.{padded, block_size, first_format}
use Rattle.le_codec.proofs.Heads.{length-framed}
use Rattle.disk_model.specs.Ranges.{range}
use Rattle.failure.specs.Counts.{Rose}
use Rattle.wt_code.specs.declared.refusals.Refusal.{Refusal}
use Rattle.device_layout.specs.declared.addr.Addr.{Addr}
use Rattle.block_mgr.specs.Places.{IsThere, Spoils}
use Rattle.block_mgr.specs.Reads.{IsBlock, IsSpoilt, IsRefused}
use Rattle.stored.specs.Blocks.{IsAt}
use Rattle.stored.specs.HistoryTree.{HistoryEntry, Mark, HistoryClimbs, is_before, history_entry_text, history_inner_image}
use Rattle.inner_page.proofs.MarkOrder.{before_trans}
use Rattle.inner_page.specs.Pages.{IsHistoryPage}
use Rattle.inner_page.proofs.HistoryPages.{one_history_page}
use Rattle.device_leaf.proofs.Leaves.{there_not_spoilt, length_block}
use Rattle.hist_open.specs.Pages.{PageIs, NoPage, IsPageOf, Suits, Stays, page_block}
use Rattle.hist_open.specs.Damage.{PageSpoils, RefusesPage}
use Rattle.tree_open.specs.Damage.{Refused}

image_length : (level : ℕ) (p : List HistoryEntry) → length (history_inner_image level p) ≡ 16 + length (flat_map history_entry_text p)
image_length level p = length-framed 4 first_format (length p) level (flat_map history_entry_text p)

pub image_bytes : (level : ℕ) (p : List HistoryEntry) → 16 ≤ length (history_inner_image level p)
image_bytes level p = omega (arith, image_length level p)

unit_size : (n : ℕ) → 16 ≤ n → n ≤ 4096 → block_size n ≡ 4096
unit_size n low high = omega (arith, low, high)

-- an inner page has one unit
pub page_size : (bytes : List ℕ) (level : ℕ) (e : HistoryEntry) (next : Option Mark) (p : List HistoryEntry) → PageIs bytes level e next p → e.link.addr.size ≡ 4096
page_size bytes level e next p is =
    is.addressed.size ∙ unit_size (length (history_inner_image level p)) (image_bytes level p) (omega (arith, image_length level p, is.leads.page.size))

spoilt_no_page : (bytes : List ℕ) (level : ℕ) (e : HistoryEntry) (next : Option Mark) (found : ℕ) → Spoils bytes e.link.addr found → NoPage bytes level e next
spoilt_no_page bytes level e next found spoils p is =
    there_not_spoilt bytes (page_block level e p) found (image_bytes level p) is.addressed is.holds spoils

pub sum_spoils : (bytes : List ℕ) (level : ℕ) (e : HistoryEntry) (next : Option Mark) (found : ℕ) → Spoils bytes e.link.addr found → PageSpoils bytes level e next e.link.addr.offset e.link.addr.sum found
sum_spoils bytes level e next found spoils = record { none = spoilt_no_page bytes level e next found spoils; place = refl; sum = refl; why = inl spoils }

pub same_sum : (bytes : List ℕ) (level : ℕ) (e : HistoryEntry) (next : Option Mark) → NoPage bytes level e next → PageSpoils bytes level e next e.link.addr.offset e.link.addr.sum e.link.addr.sum
same_sum bytes level e next none = record { none = none; place = refl; sum = refl; why = inr refl }

-- its block is that of the page
pub page_there : (bytes block : List ℕ) (level : ℕ) (e : HistoryEntry) (next : Option Mark) (p : List HistoryEntry) → block ≡ range bytes e.link.addr.offset e.link.addr.size → PageIs bytes level e next p → IsPageOf block level e next p
page_there bytes block level e next p block_is is = record {
  page = record { admitted = is.leads.page; spelled = block_is ∙ is.holds.is ∙ ap (λ k. padded (history_inner_image level p) k) is.addressed.size };
  suits = record { begins = is.leads.begins; stays = is.stays; says = is.leads.says };
}

pub range_length : (bytes : List ℕ) (at n : ℕ) → at + n ≤ length bytes → length (range bytes at n) ≡ n
range_length bytes at n le = simp (length-take, length-drop) (omega (arith, le))

-- a block of such a page that stands where the entry leads is that page
pub page_stands : (bytes block : List ℕ) (level : ℕ) (e : HistoryEntry) (next : Option Mark) (p : List HistoryEntry) → IsThere bytes e.link.addr → block ≡ range bytes e.link.addr.offset e.link.addr.size → IsPageOf block level e next p → PageIs bytes level e next p
page_stands bytes block level e next p there block_is of =
    let size : length block ≡ e.link.addr.size = ap length block_is ∙ range_length bytes e.link.addr.offset e.link.addr.size there.within in
    let sizes : e.link.addr.size ≡ block_size (length (history_inner_image level p)) = sym size ∙ ap length of.page.spelled ∙ length_block (history_inner_image level p) in
    let at : IsAt bytes (page_block level e p) = record { within = there.within; is = sym block_is ∙ of.page.spelled ∙ ap (λ k. padded (history_inner_image level p) k) (sym sizes) } in
    record {
      leads = record { page = of.page.admitted; begins = of.suits.begins; says = of.suits.says };
      stays = of.suits.stays;
      addressed = record {
        low = there.place.behind;
        unit = there.place.unit;
        size = sizes;
        most = there.place.most;
        sum = sym there.sum ∙ ap sum_of at.is;
      };
      holds = at;
    }

-- there is one such page at most
pub one_page : (bytes : List ℕ) (level : ℕ) (e : HistoryEntry) (next : Option Mark) (p q : List HistoryEntry) → PageIs bytes level e next p → PageIs bytes level e next q → p ≡ q
one_page bytes level e next p q is other =
    let block : List ℕ = range bytes e.link.addr.offset e.link.addr.size in
    (one_history_page block level level p q (page_there bytes block level e next p refl is).page (page_there bytes block level e next q refl other).page).1

-- ---- records before a bound

pub stays_none : (p : List HistoryEntry) → Stays None p
stays_none [] = tt
stays_none (x ∷ p) = (refl, stays_none p)

-- the record of the last entry
abbrev pub last_mark : List HistoryEntry → Option Mark
last_mark [] = None
last_mark (x ∷ []) = Some x.least
last_mark (x ∷ y ∷ p) = last_mark (y ∷ p)

-- of records that climb, all are before a bound that is behind the last one
pub stays_last : (next mark : Mark) (p : List HistoryEntry) → HistoryClimbs p → last_mark p ≡ Some mark → is_before mark next ≡ true → Stays (Some next) p
stays_last next mark [] climbs is below = tt
stays_last next mark (x ∷ []) climbs is below = let same : x.least ≡ mark = cc in (ap (λ k. is_before k next) same ∙ below, tt)
stays_last next mark (x ∷ y ∷ p) climbs is below =
    let rest : Stays (Some next) (y ∷ p) = stays_last next mark (y ∷ p) climbs.1 is below in
    (before_trans x.least y.least next climbs.0 rest.0, rest)

pub last_stays : (next mark : Mark) (p : List HistoryEntry) → Stays (Some next) p → last_mark p ≡ Some mark → is_before mark next ≡ true
last_stays next mark [] stays is = cc
last_stays next mark (x ∷ []) stays is = let same : x.least ≡ mark = cc in ap (λ k. is_before k next) (sym same) ∙ stays.0
last_stays next mark (x ∷ y ∷ p) stays is = last_stays next mark (y ∷ p) stays.1 is

-- an element is the last one
last_at : (p : List HistoryEntry) (end : HistoryEntry) (n : ℕ) → length p ≡ suc n → Some end ≡ slice_get p n → last_mark p ≡ Some end.least
last_at [] end n long is = cc
last_at (x ∷ []) end zero long is = let same : end ≡ x = cc in ap (λ (e : HistoryEntry). Some e.least) (sym same)
last_at (x ∷ []) end (suc n) long is = cc
last_at (x ∷ y ∷ p) end zero long is = absurd (omega (arith, long))
last_at (x ∷ y ∷ p) end (suc n) long is = last_at (y ∷ p) end n (omega (arith, long)) is

-- the last record tells whether all are before
pub end_tells : (next mark : Mark) (p : List HistoryEntry) (end : HistoryEntry) (b : Bool) → HistoryClimbs p → Some end ≡ slice_get p (length p - 1) → mark ≡ end.least → b ≡ is_before mark next → (IsTrue b → Stays (Some next) p) × (Stays (Some next) p → IsTrue b)
end_tells next mark [] end b climbs is same told = let none : ⊥ = cc in absurd none
end_tells next mark (x ∷ p) end b climbs is same told =
    let at : Some end ≡ slice_get (x ∷ p) (length p) = subst (λ (n : ℕ). Some end ≡ slice_get (x ∷ p) n) (omega arith) is in
    let mark_is : last_mark (x ∷ p) ≡ Some end.least = last_at (x ∷ p) end (length p) refl at in
    let below : b ≡ is_before end.least next = told ∙ ap (λ (k : Mark). is_before k next) same in
    (λ yes. stays_last next end.least (x ∷ p) climbs mark_is (sym below ∙ yes), λ stays. below ∙ last_stays next end.least (x ∷ p) stays mark_is)

-- ---- what a page's block answers

-- a page that was found is the only one there can be
pub only_page : (block : List ℕ) (level n : ℕ) (e : HistoryEntry) (next : Option Mark) (p q : List HistoryEntry) → IsHistoryPage block n q → IsPageOf block level e next p → (level ≡ n) × Suits e next q
only_page block level n e next p q found of =
    let one = one_history_page block level n p q of.page found in
    (one.0, subst (λ (l : List HistoryEntry). Suits e next l) one.1 of.suits)

pub page_read : (bytes block buffer : List ℕ) (level : ℕ) (e : HistoryEntry) (next : Option Mark) (a : Addr) (p : List HistoryEntry) → a ≡ e.link.addr → block ≡ buffer → IsBlock bytes a buffer → IsPageOf block level e next p → PageIs bytes level e next p
page_read bytes block buffer level e next a p same is there of =
    let here : IsBlock bytes e.link.addr buffer = subst (λ (x : Addr). IsBlock bytes x buffer) same there in
    page_stands bytes block level e next p here.0 (is ∙ here.1) of

pub page_refused : (fault known : Type 0) (bytes block buffer : List ℕ) (level : ℕ) (e : HistoryEntry) (next : Option Mark) (a : Addr) (r : Refusal) → a ≡ e.link.addr → block ≡ buffer → (known → IsBlock bytes a buffer) → RefusesPage block level e next r → Refused fault known (PageSpoils bytes level e next) r
page_refused fault known bytes block buffer level e next a r same is there (inl none) = inr (inl none)
page_refused fault known bytes block buffer level e next a r same is there (inr (refuses, none)) =
    inr (inr (e.link.addr.offset, e.link.addr.sum, e.link.addr.sum, refuses, λ h. same_sum bytes level e next (λ p page. none p (page_there bytes block level e next p (is ∙ (subst (λ (x : Addr). IsBlock bytes x buffer) same (there h)).1) page))))

refused_here : (known : Type 0) (bytes : List ℕ) (old new level : ℕ) (e : HistoryEntry) (next : Option Mark) (r : Refusal) → (known → (offset want found : ℕ) → IsSpoilt bytes e.link.addr offset want found r) → IsRefused e.link.addr old new r → Refused (Rose old new) known (PageSpoils bytes level e next) r
refused_here known bytes old new level e next r why (inl none) = inr (inl none)
refused_here known bytes old new level e next r why (inr (inl fault)) = inl fault
refused_here known bytes old new level e next r why (inr (inr (found, is))) =
    inr (inr (e.link.addr.offset, e.link.addr.sum, found, is, λ h. sum_spoils bytes level e next found (why h e.link.addr.offset e.link.addr.sum found is).2))

pub read_refused : (known : Type 0) (bytes : List ℕ) (old new level : ℕ) (e : HistoryEntry) (next : Option Mark) (a : Addr) (r : Refusal) → a ≡ e.link.addr → (known → (offset want found : ℕ) → IsSpoilt bytes a offset want found r) → IsRefused a old new r → Refused (Rose old new) known (PageSpoils bytes level e next) r
read_refused known bytes old new level e next a r same why refused =
    refused_here known bytes old new level e next r (subst (λ (x : Addr). known → (offset want found : ℕ) → IsSpoilt bytes x offset want found r) same why) (subst (λ (x : Addr). IsRefused x old new r) same refused)
