-- What is seen of a run in work rooms that are large enough: its answer's number, place and totals and the report's bytes, as
-- the definitions give them; which report rooms show the same; and that every run that keeps the promise shows just that.
-- Assumes nothing.
use mathlib.Core.Path.{◌≡◌, refl, ◌∙◌, ap}
use mathlib.Core.Logic.{◌≢◌}
use mathlib.Core.Bool.{true, false}
use mathlib.Core.List.{List, [], ◌∷◌}
use Prim.Native.Nat.{ℕ, ◌<◌, ◌≤◌}
use native.Mathlib.Decide.{dec_le}
use native.Mathlib.Omega.{arith}
use lib.Dec.{leb}
use lib.ListN.{length}
use borrow.Author.Tests.{le-leb, lt-leb}
use Rattle.verdict.specs.Verdict.{Verdict, refused, accepted, verdict}
use Rattle.room.specs.declared.Mode.{Mode}
use Rattle.room.specs.Room.{fits}
use Rattle.groups.specs.Groups.{laid}
use Rattle.passes.specs.declared.Tally.{Tally}
use Rattle.report.specs.declared.Answer.{Answer}
use Rattle.passes.specs.Report.{report_of, tally_of}
use Rattle.report.specs.Run.{Ending, cramped, refusal, overlong, complete, settled, ending, answer_of, number_of, place_of, totals_of, report_after, Ran}
use Rattle.demands.specs.Demands.{Roomy}
use Rattle.demands.proofs.Endings.{roomy_fits}

-- what is seen of a run: its number, its place, its totals and the bytes of its report
pub record Seen : Type 0 where
  pub number : ℕ
  pub place : ℕ
  pub totals : Tally
  pub report : List ℕ

-- the report of a way to end
abbrev pub reported : Ending → List ℕ
reported cramped = []
reported (refusal x p) = []
reported (overlong n cut) = []
reported (complete n cut) = report_of n cut

-- what is seen of a run of the log, in work rooms that are large enough and a report room of so many bytes
abbrev pub seen : Mode → List ℕ → ℕ → Seen
seen mode log room =
    let e = ending log true room in
    let a = answer_of mode log e in
    record { number = number_of a; place = place_of a; totals = totals_of a; report = reported e }

-- the sizes of a report room that show what a room of so many bytes shows with this number: on 0 those that are no smaller, on 13
-- those that are no larger, on any other number all
pub data Suits : (number room size : ℕ) → Type 0 where
  suits_0 : {room size : ℕ} → room ≤ size → Suits 0 room size
  suits_13 : {room size : ℕ} → size ≤ room → Suits 13 room size
  suits_any : {number room size : ℕ} → number ≢ 0 → number ≢ 13 → Suits number room size

-- a room that suits a run is one in which it ends in the same way
pub least : {room size : ℕ} → Suits 0 room size → room ≤ size
least (suits_0 h) = h
least (suits_any a b) = absurd (a refl)

most : {room size : ℕ} → Suits 13 room size → size ≤ room
most (suits_13 h) = h
most (suits_any a b) = absurd (b refl)

settled_suits : (mode : Mode) (log : List ℕ) (v : Verdict) {room size : ℕ} → Suits (number_of (answer_of mode log (settled v room))) room size
    → settled v size ≡ settled v room
unfolding settled
settled_suits mode log (refused x p) s = refl
settled_suits mode log (accepted n cut) {room} {size} s = go (dec_le bytes room)
  where
    bytes : ℕ
    bytes = length (report_of n cut)

    go : Dec (bytes ≤ room) → settled (accepted n cut) size ≡ settled (accepted n cut) room
    go (yes h) =
        let fits : leb bytes room ≡ true = le-leb _ _ h in
        let k = least (rw fits at s) in
        let l : bytes ≤ size = omega arith in
        simp (fits, le-leb _ _ l)
    go (no h) =
        let long : room < bytes = omega arith in
        let fails : leb bytes room ≡ false = lt-leb _ _ long in
        let k = most (rw fails at s) in
        let l : size < bytes = omega arith in
        simp (fails, lt-leb _ _ l)

-- an accepted run ends in the same way in every room that its report fits
settled_fits : (mode : Mode) (log : List ℕ) (v : Verdict) (room : ℕ) {size : ℕ} → number_of (answer_of mode log (settled v room)) ≡ 0
    → (totals_of (answer_of mode log (settled v room))).bytes ≤ size → settled v size ≡ settled v room
unfolding settled tally_of
settled_fits mode log (refused x p) room zero large = refl
settled_fits mode log (accepted n cut) room {size} zero large = go (dec_le bytes room)
  where
    bytes : ℕ
    bytes = length (report_of n cut)

    go : Dec (bytes ≤ room) → settled (accepted n cut) size ≡ settled (accepted n cut) room
    go (yes h) =
        let fits : leb bytes room ≡ true = le-leb _ _ h in
        let l : bytes ≤ size = rw fits at large in
        simp (fits, le-leb _ _ l)
    go (no h) =
        let long : room < bytes = omega arith in
        let fails : leb bytes room ≡ false = lt-leb _ _ long in
        absurd (omega (arith, rw fails at zero))

-- what is seen in one room is seen in every room that suits it
pub seen_suits : (mode : Mode) (log : List ℕ) {room size : ℕ} → Suits (seen mode log room).number room size → seen mode log size ≡ seen mode log room
unfolding ending
seen_suits mode log s = rw (settled_suits mode log (verdict log) s) refl

-- what is seen of an accepted run is seen in every room that its report fits
pub seen_fits : (mode : Mode) (log : List ℕ) (room : ℕ) {size : ℕ} → (seen mode log room).number ≡ 0 → (seen mode log room).totals.bytes ≤ size
    → seen mode log size ≡ seen mode log room
unfolding ending
seen_fits mode log room zero large = rw (settled_fits mode log (verdict log) room zero large) refl

-- the report's bytes are laid over the front of the room
report_after_lem : (e : Ending) (room : List ℕ) → report_after e room ≡ laid 0 (reported e) room
report_after_lem cramped room = refl
report_after_lem (refusal x p) room = refl
report_after_lem (overlong n cut) room = refl
report_after_lem (complete n cut) room = refl

-- what is seen of a run is what the definitions give
pub seen_run : {mode : Mode} {log counts words mail report counts' words' mail' report' : List ℕ} {r : Answer} → Roomy counts words mail
    → Ran mode log counts words mail report counts' words' mail' report' r
    → (number_of r ≡ (seen mode log (length report)).number) × (place_of r ≡ (seen mode log (length report)).place)
    × (totals_of r ≡ (seen mode log (length report)).totals) × (report' ≡ laid 0 (seen mode log (length report)).report report)
seen_run {mode} {log} {counts} {words} {mail} {report} {r = r} roomy ran =
    let e = ending log true (length report) in
    let ends : ending log (fits counts words mail) (length report) ≡ e = rw (roomy_fits roomy) in
    let answer : r ≡ answer_of mode log e = ran.answer_is ∙ ap (answer_of mode log) ends in
    (ap number_of answer, ap place_of answer, ap totals_of answer, ran.report_is ∙ ap (λ (e : Ending). report_after e report) ends ∙ report_after_lem e report)

-- a run that is accepted says how many bytes its report has
pub bytes_reported : (mode : Mode) (log : List ℕ) (e : Ending) → number_of (answer_of mode log e) ≡ 0 → (totals_of (answer_of mode log e)).bytes ≡ length (reported e)
unfolding tally_of
bytes_reported mode log cramped h = refl
bytes_reported mode log (refusal x p) h = refl
bytes_reported mode log (overlong n cut) h = absurd (omega arith)
bytes_reported mode log (complete n cut) h = refl

-- ---- the least log with an arrow

-- two marks of one node: the second from the first
abbrev pub two_marks : List ℕ
two_marks = 0x10 ∷ 1 ∷ 0x12 ∷ 0 ∷ 0x12 ∷ 0 ∷ []

abbrev pub two_report : List ℕ
two_report =
    0x21 ∷ 0 ∷ 1 ∷ 0 ∷ 0 ∷ 0x22 ∷ 0 ∷ 1 ∷ 0
    ∷ 0x21 ∷ 0 ∷ 2 ∷ 0 ∷ 1 ∷ 0x22 ∷ 0 ∷ 2 ∷ 0 ∷ 0x23 ∷ 0 ∷ 1 ∷ 0 ∷ []
