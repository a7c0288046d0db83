-- What the table of 01's rows says of every run that keeps the promise: each row's run answers, lays its report and compares as it says.
-- Assumes nothing.
use mathlib.Core.Path.{◌≡◌, refl, sym, ◌∙◌, ap, subst}
use mathlib.Core.Bool.{true, cond}
use mathlib.Core.List.{List, [], ◌∷◌, map, Memᴰ}
use Prim.Native.Nat.{ℕ, ◌≤◌}
use native.Mathlib.Decide.{ℕ_discrete}
use lib.Dec.{eqb}
use lib.ListN.{length}
use borrow.Author.Tests.{eq-eqb, ne_eqb}
use Rattle.room.specs.declared.Mode.{Mode}
use Rattle.room.specs.declared.Mode.TheVariants.{Full, Short}
use Rattle.groups.specs.Groups.{laid}
use Rattle.passes.specs.declared.Tally.{Tally}
use Rattle.report.specs.declared.Answer.{Answer}
use Rattle.report.specs.Run.{ending, number_of, place_of, totals_of, Ran}
use Rattle.demands.specs.Demands.{Roomy}
use Rattle.demands.proofs.Refusals.{laid_front}
use Rattle.demands.proofs.Seen.{Seen, reported, seen, Suits, least, seen_suits, seen_fits, seen_run, bytes_reported}
use Rattle.comparing.specs.Compare.{compared}
use Rattle.comparisons.specs.OwnReport.{own_report}
use Rattle.comparisons.proofs.Cases.{Pair, Case, cases, expected, told, wanted, cases_hold}

-- lists that two functions make the same have elements that they make the same
map_same : {A B : Type 0} (f g : A → B) (xs : List A) → map f xs ≡ map g xs → {x : A} → Memᴰ x xs → f x ≡ g x
map_same {A = A} {B = B} f g [] h m = elim m [ ]
map_same f g (y ∷ ys) h (Memᴰ.head e) = rw e (cc)
map_same f g (y ∷ ys) h (Memᴰ.tail m) = map_same f g ys (cc) m

case_holds : (mode : Mode) {c : Case} → Memᴰ c cases → seen mode c.log c.room ≡ expected mode c
case_holds Full m = map_same (λ c. seen Full c.log c.room) (expected Full) cases cases_hold.0 m
case_holds Short m = map_same (λ c. seen Short c.log c.room) (expected Short) cases cases_hold.1 m

-- Every run of a row's log in that mode, in work rooms that are large enough and a report room of the row's size, answers with the
-- row's number, place and totals, lays the row's report over the front of the report room, and leaves the rest of it.
pub cases_run : {mode : Mode} {c : Case} {counts words mail report counts' words' mail' report' : List ℕ} {r : Answer}
    → Memᴰ c cases → Roomy counts words mail → length report ≡ c.room
    → Ran mode c.log counts words mail report counts' words' mail' report' r
    → (number_of r ≡ (expected mode c).number) × (place_of r ≡ (expected mode c).place) × (totals_of r ≡ (expected mode c).totals)
    × (report' ≡ laid 0 (expected mode c).report report)
cases_run {mode} m roomy size ran = rw (← case_holds mode m, ← size) (seen_run roomy ran)

-- ---- comparing in the report that a run left

pair_holds : (mode : Mode) {c : Case} {x : Pair} → Memᴰ c cases → Memᴰ x c.pairs
    → compared (seen mode c.log c.room).report x.first x.second ≡ x.answer
pair_holds mode {c} m n =
    map_same (λ x. compared (seen mode c.log c.room).report x.first x.second) (λ x. x.answer) c.pairs (go mode) n
  where
    go : (mode : Mode) → told mode c ≡ wanted c
    go Full = map_same (told Full) wanted cases cases_hold.2 m
    go Short = map_same (told Short) wanted cases cases_hold.3 m

-- In the report that an accepted run of a row's log left, comparing the row's marks says what the row says.
pub cases_compared : {mode : Mode} {c : Case} {x : Pair} {counts words mail report counts' words' mail' report' : List ℕ} {r : Answer}
    → Memᴰ c cases → Memᴰ x c.pairs → Roomy counts words mail → length report ≡ c.room
    → Ran mode c.log counts words mail report counts' words' mail' report' r → number_of r ≡ 0
    → compared (own_report r report') x.first x.second ≡ x.answer
cases_compared {mode} {c} {report = report} {report' = report'} {r = r} m n roomy size ran here =
    let e = ending c.log true (length report) in
    let (number, place, totals, laid-there) = seen_run roomy ran in
    let bytes : (totals_of r).bytes ≡ length (reported e) = ap (λ (t : Tally). t.bytes) totals ∙ bytes_reported mode c.log e (sym number ∙ here) in
    let left : own_report r report' ≡ reported e = rw (bytes, laid-there) (laid_front (reported e) report) in
    rw (left, size) (pair_holds mode m n)

-- ---- in every report room that suits a row

-- the least report room that will do for an accepted row, the row's room for any other
abbrev pub tight_room : Mode → Case → ℕ
tight_room mode c = cond (eqb (expected mode c).number 0) (expected mode c).totals.bytes c.room

-- in every room that suits it is seen what the row says
case_suited : (mode : Mode) {c : Case} {size : ℕ} → Memᴰ c cases → Suits (expected mode c).number (tight_room mode c) size
    → seen mode c.log size ≡ expected mode c
case_suited mode {c} {size} m s = go (ℕ_discrete (expected mode c).number 0)
  where
    here : seen mode c.log c.room ≡ expected mode c
    here = case_holds mode m

    go : Dec ((expected mode c).number ≡ 0) → seen mode c.log size ≡ expected mode c
    go (yes e) =
        let tight : tight_room mode c ≡ (expected mode c).totals.bytes = rw (eq-eqb _ _ e) refl in
        let fits : (expected mode c).totals.bytes ≤ size = least (rw (tight, e) at s) in
        seen_fits mode c.log c.room (ap (λ (t : Seen). t.number) here ∙ e) (subst (λ (t : Seen). t.totals.bytes ≤ size) (sym here) fits) ∙ here
    go (no e) =
        let tight : tight_room mode c ≡ c.room = rw (ne_eqb _ _ e) refl in
        seen_suits mode c.log (subst (λ (t : Seen). Suits t.number c.room size) (sym here) (rw tight at s)) ∙ here

-- Every run of a row's log in that mode, in work rooms that are large enough and a report room that suits the row (on 0 of the report's
-- size or larger, on 13 of the row's size or smaller, on any other number of any size), answers with the row's number, place and totals,
-- lays the row's report over the front of the report room, and leaves the rest of it.
pub cases_run_suited : {mode : Mode} {c : Case} {counts words mail report counts' words' mail' report' : List ℕ} {r : Answer}
    → Memᴰ c cases → Roomy counts words mail → Suits (expected mode c).number (tight_room mode c) (length report)
    → Ran mode c.log counts words mail report counts' words' mail' report' r
    → (number_of r ≡ (expected mode c).number) × (place_of r ≡ (expected mode c).place) × (totals_of r ≡ (expected mode c).totals)
    × (report' ≡ laid 0 (expected mode c).report report)
cases_run_suited {mode} m roomy suits ran = rw (← case_suited mode m suits) (seen_run roomy ran)

-- a row whose marks are compared is accepted
pair_accepted : (mode : Mode) {c : Case} {x : Pair} → Memᴰ c cases → Memᴰ x c.pairs → (expected mode c).number ≡ 0
pair_accepted mode {c} m n = map_same (λ x. (expected mode c).number) (λ x. 0) c.pairs (go mode) n
  where
    go : (mode : Mode) → map (λ x. (expected mode c).number) c.pairs ≡ map (λ x. 0) c.pairs
    go Full = map_same (λ c. map (λ x. (expected Full c).number) c.pairs) (λ c. map (λ x. 0) c.pairs) cases refl m
    go Short = map_same (λ c. map (λ x. (expected Short c).number) c.pairs) (λ c. map (λ x. 0) c.pairs) cases refl m

-- In the report that a run of a row's log left, in such rooms, comparing the row's marks says what the row says.
pub cases_compared_suited : {mode : Mode} {c : Case} {x : Pair} {counts words mail report counts' words' mail' report' : List ℕ} {r : Answer}
    → Memᴰ c cases → Memᴰ x c.pairs → Roomy counts words mail → Suits (expected mode c).number (tight_room mode c) (length report)
    → Ran mode c.log counts words mail report counts' words' mail' report' r
    → compared (own_report r report') x.first x.second ≡ x.answer
cases_compared_suited {mode} {c} {x} {report = report} {report' = report'} {r = r} m n roomy suits ran =
    let e = ending c.log true (length report) in
    let (number, place, totals, laid-there) = seen_run roomy ran in
    let shown = case_suited mode m suits in
    let zero : (seen mode c.log (length report)).number ≡ 0 = ap (λ (s : Seen). s.number) shown ∙ pair_accepted mode m n in
    let bytes : (totals_of r).bytes ≡ length (reported e) = ap (λ (t : Tally). t.bytes) totals ∙ bytes_reported mode c.log e zero in
    let left : own_report r report' ≡ reported e = rw (bytes, laid-there) (laid_front (reported e) report) in
    let same : reported e ≡ (seen mode c.log c.room).report = ap (λ (s : Seen). s.report) (shown ∙ sym (case_holds mode m)) in
    rw (left, same) (pair_holds mode m n)
