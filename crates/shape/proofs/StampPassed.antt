-- The stamp of a group, passed record by record: the place that is reached is the one past the counts of the nodes below `low`,
-- since no record stands there for the nodes between.
-- Assumes nothing.
use mathlib.Core.Path.{◌≡◌, refl, sym, ◌∙◌, ap}
use mathlib.Core.Bool.{Bool, true, false, ◌&&◌, and-true, and-false}
use mathlib.Core.List.{List}
use Prim.Native.Nat.{ℕ, zero, suc, ◌+◌, ◌-◌, ◌≤◌, ◌<◌}
use native.Mathlib.Nat.{add-zero}
use native.Mathlib.Numerals.{add-one}
use native.Mathlib.Decide.{dec_lt}
use native.Mathlib.Omega.{arith}
use lib.Dec.{eqb}
use lib.ListN.{length, get_or, get_or-eq_default}
use borrow.Author.Tests.{eq-eqb, ne_eqb}
use Rattle.reading.specs.Reading.{node_at, number_here, number_at, whole_at, stamp_here, count_at, stamp_place, stamp_at}
use Rattle.reading.proofs.Standing.{whole_kind, whole_begins, stamp_none, stamp_node, count_there, count_missing, past_there, past_missing}
use Rattle.shape.specs.Shape.{in_range, entry_fits, stamp_fits, stamp_ends}
use Rattle.shape.proofs.Entries.{range_fits, entry_number, entry_there}

module _ (report : List ℕ) (p : ℕ) where
  -- ---- one node

  -- a node without a record: the place stays, the stamp still fits, the count is 0
  missing : (k q : ℕ) → q ≡ stamp_place report p k → stamp_here report q k ≡ false
      → (q ≡ stamp_place report p (suc k)) × (stamp_fits report p (suc k) ≡ stamp_fits report p k) × (stamp_at report p k ≡ 0)
  unfolding stamp_place stamp_fits stamp_at
  missing k q e h =
      let here : stamp_here report (stamp_place report p k) k ≡ false = rw (← e) h in
      (e ∙ sym (past_missing report (stamp_place report p k) k here), rw (here, and-true), count_missing report (stamp_place report p k) k here)

  -- a node with a record: the place is past it, the stamp fits if the count is in range, the count is the record's number
  there : (k q : ℕ) → q ≡ stamp_place report p k → stamp_here report q k ≡ true
      → (q + 4 ≡ stamp_place report p (suc k)) × (stamp_fits report p (suc k) ≡ stamp_fits report p k && in_range (number_here report q)) × (stamp_at report p k ≡ number_here report q)
  unfolding stamp_place stamp_fits stamp_at
  there k q e h =
      let here : stamp_here report (stamp_place report p k) k ≡ true = rw (← e) h in
      let count : count_at report (stamp_place report p k) k ≡ number_here report q = count_there report (stamp_place report p k) k here ∙ ap (λ (x : ℕ). number_at report (x + 2)) (sym e) in
      (ap (λ (x : ℕ). x + 4) e ∙ sym (past_there report (stamp_place report p k) k here), rw (here, count) refl, count)

  -- so with nodes without a record, one after the other
  skipped : (d k q : ℕ) → q ≡ stamp_place report p k → ((j : ℕ) → k ≤ j → j < k + d → stamp_here report q j ≡ false)
      → (q ≡ stamp_place report p (k + d)) × (stamp_fits report p (k + d) ≡ stamp_fits report p k) × ((j : ℕ) → k ≤ j → j < k + d → stamp_at report p j ≡ 0)
  skipped zero k q e h = rw (add-zero k) (e, refl, λ j l u. absurd (omega arith))
  skipped (suc d) k q e h =
      let (place, fits, count) = missing k q e (h k (omega arith) (omega arith)) in
      let next : k + suc d ≡ suc k + d = omega arith in
      let (places, all, counts) = skipped d (suc k) q place (λ j l u. h j (omega arith) (omega arith)) in
      rw next (places, all ∙ fits, λ j l u. go j l u count counts (dec_lt k j))
    where
      go : (j : ℕ) → k ≤ j → j < suc k + d → stamp_at report p k ≡ 0 → ((j : ℕ) → suc k ≤ j → j < suc k + d → stamp_at report p j ≡ 0) → Dec (k < j) → stamp_at report p j ≡ 0
      go j l u count counts (yes o) = counts j o u
      go j l u count counts (no o) = let here : j ≡ k = omega arith in rw here count

  -- a stamp that does not fit below a node does not fit in all
  fits_never : (d k : ℕ) → stamp_fits report p k ≡ false → stamp_fits report p (k + d) ≡ false
  unfolding stamp_fits
  fits_never zero k e = rw (add-zero k) e
  fits_never (suc d) k e = let next : k + suc d ≡ suc (k + d) = omega arith in rw (next, fits_never d k e)

-- ---- the record at the place reached

-- it is the count of its own node, and of no other
record_own : (report : List ℕ) (q : ℕ) → whole_at 0x22 4 report q ≡ true → stamp_here report q (node_at report q) ≡ true
record_own report q e = stamp_node report q (node_at report q) e ∙ eq-eqb (node_at report q) (node_at report q) refl

record_other : (report : List ℕ) (q k : ℕ) → ¬ (node_at report q ≡ k) → stamp_here report q k ≡ false
record_other report q k h = go _ refl
  where
    go : (b : Bool) → whole_at 0x22 4 report q ≡ b → stamp_here report q k ≡ false
    go true e = stamp_node report q k e ∙ ne_eqb _ _ h
    go false e = stamp_none report q k e

-- no 0x22 stands there
kind_other : (report : List ℕ) (q : ℕ) → whole_at 0x22 1 report q ≡ false → eqb (get_or report q 0) 0x22 ≡ false
kind_other report q e = go (dec_lt q (length report))
  where
    go : Dec (q < length report) → eqb (get_or report q 0) 0x22 ≡ false
    go (yes l) = sym (whole_kind report q 0x22 1 (omega arith) (omega arith)) ∙ e
    go (no l) = rw (get_or-eq_default report 0 {n = q} (omega arith))

-- and so no record
kind_whole : (report : List ℕ) (q size : ℕ) → whole_at 0x22 1 report q ≡ false → whole_at 0x22 size report q ≡ false
unfolding whole_at
kind_whole report q size e = rw (kind_other report q e, and-false)

-- ---- the loop over the records

-- The counts of the nodes below `low` are passed and fit; `own` is the count of `node` if it is among them, else 0.
pub record Passed (report : List ℕ) (p node place low own : ℕ) : Type 0 where
  pub inside : place ≤ length report
  pub few : low ≤ 32
  pub reached : place ≡ stamp_place report p low
  pub fitting : stamp_fits report p low ≡ true
  pub own_passed : node < low → own ≡ stamp_at report p node
  pub own_ahead : low ≤ node → own ≡ 0

module _ {report : List ℕ} {p node : ℕ} where
  -- before the first record
  pub passed_none : p ≤ length report → Passed report p node p 0 0
  unfolding stamp_place stamp_fits
  passed_none h =
      record { inside = h; few = omega arith; reached = refl; fitting = refl; own_passed = λ l. absurd (omega arith); own_ahead = λ l. refl }

  module _ {place low own : ℕ} (h : Passed report p node place low own) where
    -- the nodes from `low` on that are below the record's own, or below 32 if the record is none's
    ahead : (k : ℕ) → low ≤ k → ((j : ℕ) → low ≤ j → j < k → stamp_here report place j ≡ false)
        → (place ≡ stamp_place report p k) × (stamp_fits report p k ≡ true) × ((j : ℕ) → low ≤ j → j < k → stamp_at report p j ≡ 0)
    ahead k l none =
        let sum : low + (k - low) ≡ k = omega arith in
        let (reached, fits, counts) = rw sum at (skipped report p (k - low) low place h.reached (λ j o u. none j o (omega arith))) in
        (reached, fits ∙ h.fitting, counts)

    -- one record further
    pub passed_more : entry_fits 0x22 report place low ≡ true → (own' : ℕ) → (node_at report place ≡ node → own' ≡ number_here report place)
        → (¬ (node_at report place ≡ node) → own' ≡ own) → Passed report p node (place + 4) (node_at report place + 1) own'
    passed_more e own' same other =
        let k = node_at report place in
        let x = entry_there e in
        let (reached, fits, counts) = ahead k x.ascends (λ j l u. record_other report place j (omega arith)) in
        let (next, fit, count) = there report p k place reached (record_own report place x.whole) in
        record {
          inside = x.inside;
          few = omega arith;
          reached = rw (add-one k) next;
          fitting = rw (add-one k, fit, fits) (range_fits _ x.some x.most);
          own_passed = λ l. go l counts count (dec_lt node low) (dec_lt node k);
          own_ahead = λ l. other (omega arith) ∙ h.own_ahead (omega arith);
        }
      where
        go : node < node_at report place + 1 → ((j : ℕ) → low ≤ j → j < node_at report place → stamp_at report p j ≡ 0)
            → stamp_at report p (node_at report place) ≡ number_here report place → Dec (node < low) → Dec (node < node_at report place) → own' ≡ stamp_at report p node
        go l counts count (yes o) (yes u) = other (omega arith) ∙ h.own_passed o
        go l counts count (no o) (yes u) = other (omega arith) ∙ h.own_ahead (omega arith) ∙ sym (counts node (omega arith) u)
        go l counts count d (no u) = let here : node_at report place ≡ node = omega arith in same here ∙ sym count ∙ ap (stamp_at report p) here

    -- no record is left: the whole stamp is passed, and it fits
    pub passed_all : whole_at 0x22 1 report place ≡ false → node < 32
        → (stamp_fits report p 32 ≡ true) × (stamp_ends report (stamp_place report p 32) ≡ true) × (stamp_place report p 32 ≡ place) × (stamp_at report p node ≡ own)
    unfolding stamp_ends
    passed_all e few =
        let (reached, fits, counts) = ahead 32 h.few (λ j l u. stamp_none report place j (kind_whole report place 4 e)) in
        (fits, rw (← reached, kind_other report place e), sym reached, go counts (dec_lt node low))
      where
        go : ((j : ℕ) → low ≤ j → j < 32 → stamp_at report p j ≡ 0) → Dec (node < low) → stamp_at report p node ≡ own
        go counts (yes l) = sym (h.own_passed l)
        go counts (no l) = counts node (omega arith) few ∙ sym (h.own_ahead (omega arith))

    -- a record that breaks a rule: the stamp does not fit, or a 0x22 is left behind it
    pub passed_broken : whole_at 0x22 1 report place ≡ true → entry_fits 0x22 report place low ≡ false
        → stamp_fits report p 32 && stamp_ends report (stamp_place report p 32) ≡ false
    unfolding stamp_ends
    passed_broken kind e = go _ refl (dec_lt (node_at report place) low) (dec_lt (node_at report place) 32)
      where
        -- no node ahead has the record, so its 0x22 is left
        left_over : ((j : ℕ) → low ≤ j → j < 32 → stamp_here report place j ≡ false) → stamp_fits report p 32 && stamp_ends report (stamp_place report p 32) ≡ false
        left_over none = let (reached, fits, counts) = ahead 32 h.few none in rw (fits, ← reached, whole_begins report place 0x22 1 kind)

        -- its own node has it, with a number that is not in range
        unfit : whole_at 0x22 4 report place ≡ true → low ≤ node_at report place → node_at report place < 32
            → stamp_fits report p 32 && stamp_ends report (stamp_place report p 32) ≡ false
        unfit whole ascends below =
            let k = node_at report place in
            let (reached, fits, counts) = ahead k ascends (λ j l u. record_other report place j (omega arith)) in
            let (next, fit, count) = there report p k place reached (record_own report place whole) in
            let out : in_range (number_here report place) ≡ false = sym (entry_number 0x22 report place low whole ascends below) ∙ e in
            let bad : stamp_fits report p (suc k) ≡ false = fit ∙ rw (fits, out) in
            let sum : suc k + (32 - suc k) ≡ 32 = omega arith in
            rw (rw sum at (fits_never report p (32 - suc k) (suc k) bad))

        go : (b : Bool) → whole_at 0x22 4 report place ≡ b → Dec (node_at report place < low) → Dec (node_at report place < 32)
            → stamp_fits report p 32 && stamp_ends report (stamp_place report p 32) ≡ false
        go false whole l u = left_over (λ j m n. stamp_none report place j whole)
        go true whole (yes l) u = left_over (λ j m n. record_other report place j (omega arith))
        go true whole (no l) (yes u) = unfit whole (omega arith) u
        go true whole (no l) (no u) = left_over (λ j m n. record_other report place j (omega arith))
