-- What the header of a page may say.
use Rattle.std.proofs.Common.{◌≡◌, ℕ, ◌*◌, ◌≤◌, true}
use Rattle.std.specs.Prelude.{◌&&◌, nat_le}
use Rattle.std.proofs.lemmas.Bool.{and_parts, and_from, leb-true, le-leb}
use Rattle.limits.specs.declared.TheConstants.{LEVELS_MAX}
use Rattle.inner_page.specs.Pages.{page_fits}

pub record PageFits (least level count len : ℕ) : Type 0 where
  pub low : 1 ≤ level
  pub high : level ≤ 60
  pub some : 1 ≤ count
  pub room : least * count ≤ len
  pub most : len ≤ 4080

pub fits_true : (least level count len : ℕ) → page_fits least level count len ≡ true → PageFits least level count len
fits_true least level count len e =
    let a = and_parts ((nat_le 1 level && nat_le level LEVELS_MAX) && nat_le 1 count) (nat_le (least * count) len && nat_le len 4080) e in
    let b = and_parts (nat_le 1 level && nat_le level LEVELS_MAX) (nat_le 1 count) a.0 in
    let c = and_parts (nat_le 1 level) (nat_le level LEVELS_MAX) b.0 in
    let d = and_parts (nat_le (least * count) len) (nat_le len 4080) a.1 in
    record { low = leb-true 1 level c.0; high = leb-true level LEVELS_MAX c.1; some = leb-true 1 count b.1; room = leb-true (least * count) len d.0; most = leb-true len 4080 d.1 }

pub fits_are : (least level count len : ℕ) → PageFits least level count len → page_fits least level count len ≡ true
fits_are least level count len h =
    and_from ((nat_le 1 level && nat_le level LEVELS_MAX) && nat_le 1 count) (nat_le (least * count) len && nat_le len 4080)
    (and_from (nat_le 1 level && nat_le level LEVELS_MAX) (nat_le 1 count)
    (and_from (nat_le 1 level) (nat_le level LEVELS_MAX) (le-leb 1 level h.low) (le-leb level LEVELS_MAX h.high)) (le-leb 1 count h.some))
    (and_from (nat_le (least * count) len) (nat_le len 4080) (le-leb (least * count) len h.room) (le-leb len 4080 h.most))
