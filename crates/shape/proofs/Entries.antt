-- A number, a record of four bytes, the head of a group and a row of predecessors, test by test: what fits has passed them all, and
-- one that holds leaves the question to the others.
-- Assumes nothing.
use mathlib.Core.Path.{◌≡◌, refl, sym, ap}
use mathlib.Core.Bool.{Bool, true, false, cond}
use mathlib.Core.List.{List}
use Prim.Native.Nat.{ℕ, zero, suc, ◌+◌, ◌-◌, ◌≤◌, ◌<◌}
use native.Mathlib.Omega.{arith}
use lib.ListN.{length}
use borrow.Author.Tests.{le-leb, leb-true, lt-ltb, ltb-true}
use Rattle.std.specs.Prelude.{None, Some}
use Rattle.std.proofs.lemmas.Option.{cond_some, none-some}
use Rattle.reading.specs.Reading.{node_at, number_here, whole_at}
use Rattle.reading.proofs.Standing.{both, whole_fits}
use Rattle.shape.specs.declared.Mark.{Mark}
use Rattle.shape.specs.Shape.{in_range, entry_fits, causes_fit, mark_here, mark_fits, head_fits}

-- what is given only where a test is passed, and is not given, tells that it is not passed
pub not_given : {A : Type 0} (b : Bool) (x : A) → None ≡ cond b (Some x) None → b ≡ false
not_given true x told = absurd (none-some _ told)
not_given false x told = refl

-- ---- a number

-- from 1 to 4,096 it is in range
pub range_fits : (c : ℕ) → 0 < c → c ≤ 4096 → in_range c ≡ true
unfolding in_range
range_fits c some most = let from : 1 ≤ c = omega arith in rw (le-leb 1 c from, le-leb c 4096 most)

-- and nowhere else
pub range_within : {c : ℕ} → in_range c ≡ true → (0 < c) × (c ≤ 4096)
unfolding in_range
range_within e = let (some, most) = both _ _ e in (leb-true _ _ some, leb-true _ _ most)

-- ---- a record

-- its number decides, if it is whole and of an ascending node below 32
pub entry_number : (kind : ℕ) (report : List ℕ) (p low : ℕ) → whole_at kind 4 report p ≡ true → low ≤ node_at report p → node_at report p < 32
    → entry_fits kind report p low ≡ in_range (number_here report p)
unfolding entry_fits
entry_number kind report p low e l h = rw (e, le-leb _ _ l, lt-ltb _ _ h)

-- what a record that fits has
pub record Entry (kind : ℕ) (report : List ℕ) (p low : ℕ) : Type 0 where
  pub whole : whole_at kind 4 report p ≡ true
  pub inside : p + 4 ≤ length report
  pub ascends : low ≤ node_at report p
  pub below : node_at report p < 32
  pub some : 0 < number_here report p
  pub most : number_here report p ≤ 4096

-- the tests that it has passed give it
pub entry_there : {kind : ℕ} {report : List ℕ} {p low : ℕ} → entry_fits kind report p low ≡ true → Entry kind report p low
unfolding entry_fits
entry_there {kind} {report} {p} e =
    let (front, number) = both _ _ e in
    let (start, below) = both _ _ front in
    let (whole, ascends) = both _ _ start in
    let (some, most) = range_within number in
    record {
      whole = whole;
      inside = whole_fits report p kind 4 whole;
      ascends = leb-true _ _ ascends;
      below = ltb-true _ _ below;
      some = some;
      most = most;
    }

-- what is told of a record that fits: it fits, and its node and its number are those that stand there
pub entry_given : (kind : ℕ) (report : List ℕ) (p low : ℕ) {m : Mark} → Some m ≡ cond (entry_fits kind report p low) (Some (mark_here report p)) None
    → (entry_fits kind report p low ≡ true) × Entry kind report p low × (m.node.0 ≡ node_at report p) × (m.number.0 ≡ number_here report p)
unfolding mark_here
entry_given kind report p low told =
    let (fits, same) = cond_some _ _ _ (sym told) in
    (fits, entry_there fits, ap (λ (x : Mark). x.node.0) (sym same), ap (λ (x : Mark). x.number.0) (sym same))

-- ---- the head of a group

-- the number of a mark decides, if its node is below 32
pub mark_low : (m : Mark) → m.node.0 < 32 → mark_fits m ≡ in_range m.number.0
unfolding mark_fits
mark_low m h = rw (lt-ltb _ _ h)

-- the mark of a whole head decides
pub head_mark : (report : List ℕ) (p : ℕ) → whole_at 0x21 5 report p ≡ true → head_fits report p ≡ mark_fits (mark_here report p)
unfolding head_fits
head_mark report p e = rw e

-- what a head that fits has
pub record Head (report : List ℕ) (p : ℕ) : Type 0 where
  pub whole : whole_at 0x21 5 report p ≡ true
  pub inside : p + 5 ≤ length report
  pub below : node_at report p < 32
  pub some : 0 < number_here report p
  pub most : number_here report p ≤ 4096

-- the tests that it has passed give it
pub head_there : {report : List ℕ} {p : ℕ} → head_fits report p ≡ true → Head report p
unfolding head_fits mark_fits mark_here
head_there {report} {p} e =
    let (whole, mark) = both _ _ e in
    let (below, number) = both _ _ mark in
    let (some, most) = range_within number in
    record { whole = whole; inside = whole_fits report p 0x21 5 whole; below = ltb-true _ _ below; some = some; most = most }

-- ---- the direct predecessors

module _ (report : List ℕ) (p low : ℕ) where
  -- none are looked for
  pub causes_none : causes_fit report p low 0 ≡ true
  unfolding causes_fit
  causes_none = refl

  -- the first does not fit
  pub causes_stop : (d : ℕ) → 0 < d → entry_fits 0x23 report p low ≡ false → causes_fit report p low d ≡ false
  unfolding causes_fit
  causes_stop zero h e = absurd (omega arith)
  causes_stop (suc d) h e = rw e

  -- the first fits, and those behind it decide
  pub causes_next : (d : ℕ) → 0 < d → entry_fits 0x23 report p low ≡ true
      → causes_fit report p low d ≡ causes_fit report (p + 4) (node_at report p + 1) (d - 1)
  unfolding causes_fit
  causes_next zero h e = absurd (omega arith)
  causes_next (suc d) h e =
      let one : suc d - 1 ≡ d = omega arith in
      let next : suc (node_at report p) ≡ node_at report p + 1 = omega arith in
      rw (e, one, next)

-- what those that fit have: the first, and the others behind it
pub causes_there : (report : List ℕ) (p low d : ℕ) → causes_fit report p low (suc d) ≡ true
    → Entry 0x23 report p low × (causes_fit report (p + 4) (suc (node_at report p)) d ≡ true)
unfolding causes_fit
causes_there report p low d e = let (first, rest) = both _ _ e in (entry_there first, rest)
