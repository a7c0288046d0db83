-- Where a mark's group stands among the first groups of a report, turn by turn, and why a number above all of its node so far is new.
-- Assumes nothing.
use mathlib.Core.Path.{◌≡◌, refl, sym, ◌∙◌, ap, ap₂}
use mathlib.Core.Logic.{◌⊎◌, inl, inr}
use mathlib.Core.Bool.{Bool, true, false}
use mathlib.Core.List.{List}
use Prim.Native.Nat.{ℕ, zero, suc, ◌+◌, ◌≤◌, ◌<◌}
use native.Mathlib.Nat.{eq-or-lt_of_le}
use native.Mathlib.Decide.{ℕ_discrete}
use native.Mathlib.Omega.{arith}
use lib.Dec.{eqb, ltb}
use lib.ListN.{length, get_or, set, length-set}
use lib.Seq.{get_or-set_same, get_or-set_other}
use borrow.Author.Tests.{eq-eqb, eqb-true, le-ltb, lt-ltb}
use Rattle.std.specs.Prelude.{None, Some, Ok}
use Rattle.std.specs.Bool.{then_some}
use Rattle.std.specs.Option.{option_or}
use Rattle.std.proofs.lemmas.Option.{some_pair_parts}
use Rattle.reading.proofs.Standing.{both}
use Rattle.shape.specs.declared.Mark.{Mark}
use Rattle.reading.specs.Reading.{node_at, number_here}
use Rattle.shape.specs.Shape.{group_fits, mark_here, group_seen}
use Rattle.shape.proofs.FittingGroup.{group_parts}
use Rattle.shape.proofs.GroupSeen.{seen_fits}
use Rattle.checking.specs.WellFormed.{same_mark, group_place, place_among, AllGood}
use Rattle.checking.specs.Surveyed.{place_found}
use Rattle.checking.specs.Greatest.{Greatest}
use Rattle.checking.proofs.Walked.{good_parts, good_inside}

-- ---- two marks

-- on one node the number decides
pub mark_number : (e f : Mark) → e.node.0 ≡ f.node.0 → same_mark e f ≡ eqb e.number.0 f.number.0
unfolding same_mark
mark_number e f h = rw (eq-eqb _ _ h)

-- marks that are one have one node and one number
pub mark_one_lem : (e f : Mark) → same_mark e f ≡ true → (e.node.0 ≡ f.node.0) × (e.number.0 ≡ f.number.0)
unfolding same_mark
mark_one_lem e f h = let (node, number) = both _ _ h in (eqb-true _ _ node, eqb-true _ _ number)

-- so they are equal,
mark_equal : (e f : Mark) → same_mark e f ≡ true → e ≡ f
mark_equal e f h =
    let (node, number) = mark_one_lem e f h in
    ap₂ (λ (i c : ℕ). record { node = record { 0 = i }; number = record { 0 = c } }) node number

-- and equal marks are one
mark_same : (e f : Mark) → e ≡ f → same_mark e f ≡ true
unfolding same_mark
mark_same e f h = rw (h, eq-eqb f.node.0 _ refl, eq-eqb f.number.0 _ refl)

module _ (report : List ℕ) where
  -- ---- the place of a mark's group

  module _ (e : Mark) where
    pub among_here : (m : ℕ) → same_mark (mark_here report (group_place report m)) e ≡ true → place_among report (suc m) e ≡ group_place report m
    unfolding place_among
    among_here m h = rw h

    pub among_earlier : (m : ℕ) → same_mark (mark_here report (group_place report m)) e ≡ false → place_among report (suc m) e ≡ place_among report m e
    unfolding place_among
    among_earlier m h = rw h

    -- a group that has it among the first k has it among the first m
    among_more : (k m : ℕ) → k ≤ m → AllGood report m → place_among report k e < length report → place_among report m e < length report
    among_more k zero l all h = let same : k ≡ 0 = omega arith in rw same at h
    among_more k (suc m) l all h = go (λ l. among_more k m l (λ j u. all j (omega arith)) h) (eq-or-lt_of_le l)
      where
        here : (b : Bool) → same_mark (mark_here report (group_place report m)) e ≡ b → place_among report m e < length report → place_among report (suc m) e < length report
        here true same u = let (long, inside) = good_inside report m (all m (omega arith)) in rw (among_here m same) (omega arith)
        here false other u = rw (among_earlier m other) u

        go : (k ≤ m → place_among report m e < length report) → (k ≡ suc m) ⊎ (k < suc m) → place_among report (suc m) e < length report
        go before (inl same) = rw same at h
        go before (inr u) = here _ refl (before (omega arith))

    -- a group of it is found
    pub among_found : (m j : ℕ) → AllGood report m → j < m → same_mark (mark_here report (group_place report j)) e ≡ true → place_among report m e < length report
    among_found m j all l same =
        let (long, inside) = good_inside report j (all j l) in
        among_more (suc j) m l all (rw (among_here j same) (omega arith))

    -- a group that has it lies within the report
    pub among_long : (m : ℕ) → AllGood report m → place_among report m e < length report → place_among report m e + 9 ≤ length report
    unfolding place_among
    among_long zero all h = absurd (omega arith)
    among_long (suc m) all h = go (among_long m (λ j l. all j (omega arith))) _ refl
      where
        go : (place_among report m e < length report → place_among report m e + 9 ≤ length report)
            → (b : Bool) → same_mark (mark_here report (group_place report m)) e ≡ b → place_among report (suc m) e + 9 ≤ length report
        go before true here = let (long, inside) = good_inside report m (all m (omega arith)) in rw (among_here m here) (omega arith)
        go before false earlier = rw (among_earlier m earlier) (before (rw (among_earlier m earlier) at h))

    -- none has it if none is of it
    pub among_none : (m : ℕ) → ((j : ℕ) → j < m → same_mark (mark_here report (group_place report j)) e ≡ false) → place_among report m e ≡ length report
    unfolding place_among
    among_none zero h = refl
    among_none (suc m) h = rw (h m (omega arith)) (among_none m (λ j l. h j (omega arith)))

    -- a place where it is found is that of a group of it
    pub among_some : (m : ℕ) → place_among report m e < length report
        → (j : ℕ) × (j < m) × (place_among report m e ≡ group_place report j) × (mark_here report (group_place report j) ≡ e)
    unfolding place_among
    among_some zero h = absurd (omega arith)
    among_some (suc m) h = go (among_some m) _ refl
      where
        go : (place_among report m e < length report → (j : ℕ) × (j < m) × (place_among report m e ≡ group_place report j) × (mark_here report (group_place report j) ≡ e))
            → (b : Bool) → same_mark (mark_here report (group_place report m)) e ≡ b
            → (j : ℕ) × (j < suc m) × (place_among report (suc m) e ≡ group_place report j) × (mark_here report (group_place report j) ≡ e)
        go before true here = (m, omega arith, among_here m here, mark_equal _ _ here)
        go before false earlier =
            let (j, l, there, is) = before (rw (among_earlier m earlier) at h) in
            (j, omega arith, among_earlier m earlier ∙ there, is)

    -- and a good group of it is the one found, since no other is of the same mark
    pub among_at : (m j : ℕ) → AllGood report m → j < m → mark_here report (group_place report j) ≡ e → place_among report m e ≡ group_place report j
    among_at zero j all l is = absurd (omega arith)
    among_at (suc m) j all l is = go (λ k. among_at m j (λ i h. all i (omega arith)) k is) (eq-or-lt_of_le (omega arith))
      where
        here : (b : Bool) → same_mark (mark_here report (group_place report m)) e ≡ b → place_among report m e ≡ group_place report j → place_among report (suc m) e ≡ group_place report j
        here true same there =
            let (long, inside) = good_inside report j (all j l) in
            let new : length report ≤ place_among report m e = rw (mark_equal _ _ same) at (good_parts report m (all m (omega arith))).2 in
            absurd (omega arith)
        here false other there = among_earlier m other ∙ there

        go : (j < m → place_among report m e ≡ group_place report j) → (j ≡ m) ⊎ (j < m) → place_among report (suc m) e ≡ group_place report j
        go before (inl same) = rw (same, among_here m (mark_same _ _ (rw same at is)))
        go before (inr k) = here _ refl (before k)

    -- ---- the place that is found

    -- one within the report
    pub found_inside : (m : ℕ) → place_among report m e < length report → place_found report m e ≡ Some (place_among report m e)
    unfolding place_found
    found_inside m h = rw (lt-ltb _ _ h)

    -- else none, as in no groups
    pub found_nowhere : (m : ℕ) → length report ≤ place_among report m e → place_found report m e ≡ None
    unfolding place_found
    found_nowhere m h = rw (le-ltb _ _ h)

    pub found_none : place_found report 0 e ≡ None
    unfolding place_among
    found_none = found_nowhere 0 (omega arith)

    -- one group more: its own place, if it is of the mark
    pub found_more : (m : ℕ) → group_place report m < length report
        → place_found report (suc m) e ≡ option_or (then_some (same_mark (mark_here report (group_place report m)) e) (group_place report m)) (place_found report m e)
    unfolding place_found place_among
    found_more m inside = go _ refl
      where
        go : (b : Bool) → same_mark (mark_here report (group_place report m)) e ≡ b
            → place_found report (suc m) e ≡ option_or (then_some (same_mark (mark_here report (group_place report m)) e) (group_place report m)) (place_found report m e)
        go true here = rw (here, lt-ltb _ _ inside)
        go false other = rw other

    -- ---- a search from the front

    -- none of the first k groups has it, and the place behind them is reached
    pub record Unfound (m k at : ℕ) : Type 0 where
      pub few : k ≤ m
      pub reached : at ≡ group_place report k
      pub none : place_among report k e ≡ length report

    pub unfound_none : (m : ℕ) → Unfound m 0 0
    unfolding group_place place_among
    unfound_none m = record { few = omega arith; reached = refl; none = refl }

    module _ {m k at : ℕ} (u : Unfound m k at) where
      module _ (all : AllGood report m) (l : k < m) where
        -- the next group is good
        pub unfound_seen : group_seen report at ≡ Ok (Some (mark_here report (group_place report k), group_place report (suc k)))
        unfolding group_place
        unfound_seen = rw u.reached (seen_fits report (group_place report k) (good_parts report k (all k l)).1)

        module _ {mark : Mark} {past : ℕ} (told : group_seen report at ≡ Ok (Some (mark, past))) where
          -- what is told of it
          told_next : (mark_here report (group_place report k) ≡ mark) × (group_place report (suc k) ≡ past)
          told_next = some_pair_parts _ _ _ _ (cc unfound_seen)

          -- it has the mark
          pub unfound_here : same_mark mark e ≡ true → true ≡ ltb (place_among report m e) (length report)
          unfound_here same = sym (lt-ltb _ _ (among_found m k all l (rw told_next.0 same)))

          -- or it has not
          pub unfound_more : same_mark mark e ≡ false → Unfound m (suc k) past
          unfound_more other =
              record { few = l; reached = sym told_next.1; none = among_earlier k (rw told_next.0 other) ∙ u.none }

  -- ---- the greatest numbers

  -- before the first group, whatever the table holds
  pub greatest_none : (table : List ℕ) → length table ≡ 32 → Greatest report 0 table
  greatest_none table h = record { nodes = h; covers = λ j l. absurd (omega arith) }

  module _ {m : ℕ} {table : List ℕ} (g : Greatest report m table) where
    -- a number above the greatest of its node has no group yet
    greatest_new : (e : Mark) → get_or table e.node.0 0 < e.number.0 → place_among report m e ≡ length report
    unfolding mark_here
    greatest_new e h = among_none e m (λ j l. go j l _ refl)
      where
        go : (j : ℕ) → j < m → (b : Bool) → same_mark (mark_here report (group_place report j)) e ≡ b → same_mark (mark_here report (group_place report j)) e ≡ false
        go j l false other = other
        go j l true same =
            let (node, number) = mark_one_lem _ e same in
            let most : number_here report (group_place report j) ≤ get_or table e.node.0 0 = rw (← node) (g.covers j l) in
            absurd (omega arith)

    -- it becomes the greatest
    greatest_raised : (i c : ℕ) → i < 32 → node_at report (group_place report m) ≡ i → number_here report (group_place report m) ≡ c → get_or table i 0 < c
        → Greatest report (suc m) (set table i c)
    greatest_raised i c few node number h =
        record { nodes = length-set table i c ∙ g.nodes; covers = λ j l. go j (eq-or-lt_of_le (omega arith)) }
      where
        inside : i < length table
        inside = omega arith

        old : (j : ℕ) → j < m → Dec (node_at report (group_place report j) ≡ i) → number_here report (group_place report j) ≤ get_or (set table i c) (node_at report (group_place report j)) 0
        old j l (yes same) = let most : number_here report (group_place report j) ≤ get_or table i 0 = rw (← same) (g.covers j l) in rw (same, get_or-set_same table i c 0 inside) (omega arith)
        old j l (no other) = rw (get_or-set_other table i (node_at report (group_place report j)) c 0 other) (g.covers j l)

        go : (j : ℕ) → (j ≡ m) ⊎ (j < m) → number_here report (group_place report j) ≤ get_or (set table i c) (node_at report (group_place report j)) 0
        go j (inl here) = rw (here, node, number, get_or-set_same table i c 0 inside) (omega arith)
        go j (inr l) = old j l (ℕ_discrete (node_at report (group_place report j)) i)

    -- or another stays the greatest
    greatest_kept : number_here report (group_place report m) ≤ get_or table (node_at report (group_place report m)) 0 → Greatest report (suc m) table
    greatest_kept h = record { nodes = g.nodes; covers = λ j l. go j (eq-or-lt_of_le (omega arith)) }
      where
        go : (j : ℕ) → (j ≡ m) ⊎ (j < m) → number_here report (group_place report j) ≤ get_or table (node_at report (group_place report j)) 0
        go j (inl here) = rw here h
        go j (inr l) = g.covers j l

    -- ---- the mark of the next group

    module _ (e : Mark) (fits : group_fits report (group_place report m) ≡ true) (is : e ≡ mark_here report (group_place report m)) where
      named : (e.node.0 ≡ node_at report (group_place report m)) × (e.number.0 ≡ number_here report (group_place report m))
      unfolding mark_here
      named = (ap (λ (x : Mark). x.node.0) is, ap (λ (x : Mark). x.number.0) is)

      -- its node has a place in the table
      pub node_listed : e.node.0 < length table
      node_listed = omega (arith, named.0, (group_parts fits).head.below)

      -- its number is above all of its node, so that it is new and becomes the greatest
      pub mark_new : get_or table e.node.0 0 < e.number.0 → false ≡ ltb (place_among report m e) (length report)
      mark_new h = let none : length report ≤ place_among report m e = omega (arith, greatest_new e h) in sym (le-ltb _ _ none)

      pub mark_raised : get_or table e.node.0 0 < e.number.0 → Greatest report (suc m) (set table e.node.0 e.number.0)
      mark_raised h = greatest_raised e.node.0 e.number.0 (omega (arith, node_listed)) (sym named.0) (sym named.1) h

      -- or it is not
      pub mark_below : e.number.0 ≤ get_or table e.node.0 0 → Greatest report (suc m) table
      mark_below h = greatest_kept (rw (← named.0, ← named.1) h)

-- all of it
pub ruleset next_mark = (node_listed, mark_new, mark_raised, mark_below)
