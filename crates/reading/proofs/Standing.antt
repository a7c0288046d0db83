-- What stands at a place of a report, test by test: a whole record lies within the report, so each place reached does, and none
-- lies before the one it was reached from.
-- Assumes nothing.
use mathlib.Core.Path.{◌≡◌, refl}
use mathlib.Core.Logic.{◌⊎◌, inl, inr}
use mathlib.Core.Bool.{Bool, true, false, cond, ◌&&◌, and-eq-true_iff}
use mathlib.Core.List.{List}
use Prim.Native.Nat.{ℕ, zero, suc, ◌+◌, ◌-◌, ◌≤◌, ◌<◌}
use native.Mathlib.Nat.{eq-or-lt_of_le}
use native.Mathlib.Numerals.{add-one}
use native.Mathlib.Omega.{arith}
use lib.Dec.{eqb, leb}
use lib.ListN.{length, get_or}
use borrow.Author.Tests.{le-leb, leb-true, eqb-true}
use Rattle.reading.specs.Reading.{number_at, whole_at, stamp_here, count_at, past_count, stamp_place, stamp_at}

-- both tests hold where their conjunction does
pub both : (a b : Bool) → a && b ≡ true → (a ≡ true) × (b ≡ true)
both a b = (and-eq-true_iff a b).0

module _ (report : List ℕ) (p : ℕ) where
  -- ---- a whole record

  pub whole_kind : (kind size : ℕ) → p ≤ length report → size ≤ length report - p → whole_at kind size report p ≡ eqb (get_or report p 0) kind
  unfolding whole_at
  whole_kind kind size h l = let k : p + size ≤ length report = omega arith in rw (le-leb _ _ k)

  pub whole_fits : (kind size : ℕ) → whole_at kind size report p ≡ true → p + size ≤ length report
  unfolding whole_at
  whole_fits kind size e = leb-true _ _ (both _ _ e).0

  -- it begins with its kind
  pub whole_begins : (kind size : ℕ) → whole_at kind size report p ≡ true → get_or report p 0 ≡ kind
  unfolding whole_at
  whole_begins kind size e = eqb-true _ _ (both (leb (p + size) (length report)) _ e).1

  -- ---- a count

  pub stamp_none : (k : ℕ) → whole_at 0x22 4 report p ≡ false → stamp_here report p k ≡ false
  unfolding stamp_here
  stamp_none k e = rw e

  pub stamp_node : (k : ℕ) → whole_at 0x22 4 report p ≡ true → stamp_here report p k ≡ eqb (get_or report (p + 1) 0) k
  unfolding stamp_here
  stamp_node k e = rw e

  -- one that stands there is a whole record of its node
  pub stamp_there : (k : ℕ) → stamp_here report p k ≡ true → (whole_at 0x22 4 report p ≡ true) × (get_or report (p + 1) 0 ≡ k)
  unfolding stamp_here
  stamp_there k e = let (whole, node) = both _ _ e in (whole, eqb-true _ _ node)

  pub stamp_fits_lem : (k : ℕ) → stamp_here report p k ≡ true → p + 4 ≤ length report
  stamp_fits_lem k e = whole_fits 0x22 4 (stamp_there k e).0

  pub count_there : (k : ℕ) → stamp_here report p k ≡ true → count_at report p k ≡ number_at report (p + 2)
  unfolding count_at
  count_there k e = rw e

  pub count_missing : (k : ℕ) → stamp_here report p k ≡ false → count_at report p k ≡ 0
  unfolding count_at
  count_missing k e = rw e

  pub past_there : (k : ℕ) → stamp_here report p k ≡ true → past_count report p k ≡ p + 4
  unfolding past_count
  past_there k e = rw e

  pub past_missing : (k : ℕ) → stamp_here report p k ≡ false → past_count report p k ≡ p
  unfolding past_count
  past_missing k e = rw e

  pub past_inside : (k : ℕ) → p ≤ length report → past_count report p k ≤ length report
  unfolding past_count
  past_inside k h = go _ refl
    where
      go : (b : Bool) → stamp_here report p k ≡ b → cond b (p + 4) p ≤ length report
      go true e = stamp_fits_lem k e
      go false e = h

  -- the place past a count does not lie before it
  past_on : (k : ℕ) → p ≤ past_count report p k
  unfolding past_count
  past_on k = go (stamp_here report p k)
    where
      go : (b : Bool) → p ≤ cond b (p + 4) p
      go true = omega arith
      go false = omega arith

  -- a count above 0 stands there, and takes four bytes
  count_takes : (k : ℕ) → 0 < count_at report p k → past_count report p k ≡ p + 4
  count_takes k h = go _ refl
    where
      go : (b : Bool) → stamp_here report p k ≡ b → past_count report p k ≡ p + 4
      go true e = past_there k e
      go false e = absurd (omega (arith, count_missing k e))

-- the place past no counts, and past one more
pub place_none : (report : List ℕ) (p : ℕ) → p ≡ stamp_place report p 0
unfolding stamp_place
place_none report p = refl

pub place_more : (report : List ℕ) (p k q : ℕ) → q ≡ stamp_place report p k → past_count report q k ≡ stamp_place report p (k + 1)
unfolding stamp_place
place_more report p k q e = rw (add-one k, e)

-- the place past a stamp lies within the report
pub stamp_inside : (report : List ℕ) (p k : ℕ) → p ≤ length report → stamp_place report p k ≤ length report
unfolding stamp_place
stamp_inside report p zero h = h
stamp_inside report p (suc k) h = past_inside report (stamp_place report p k) k (stamp_inside report p k h)

-- and not before the stamp's start
place_on : (report : List ℕ) (p k : ℕ) → p ≤ stamp_place report p k
unfolding stamp_place
place_on report p zero = omega arith
place_on report p (suc k) = omega (arith, place_on report p k, past_on report (stamp_place report p k) k)

-- a stamp with a count above 0 of a node below n has four bytes or more
pub stamp_takes : (report : List ℕ) (p k n : ℕ) → 0 < stamp_at report p k → k < n → p + 4 ≤ stamp_place report p n
unfolding stamp_place stamp_at
stamp_takes report p k zero h l = absurd (omega arith)
stamp_takes report p k (suc n) h l = go (λ m. stamp_takes report p k n h m) (eq-or-lt_of_le (omega arith))
  where
    go : (k < n → p + 4 ≤ stamp_place report p n) → (k ≡ n) ⊎ (k < n) → p + 4 ≤ past_count report (stamp_place report p n) n
    go earlier (inl e) = rw (← e) (omega (arith, place_on report p k, count_takes report (stamp_place report p k) k h))
    go earlier (inr m) = omega (arith, earlier m, past_on report (stamp_place report p n) n)
