-- 01's rows marked P: one table of logs, what a run of each answers and reports, in either mode, what each short message carries
-- and what comparing marks of the report says, computed over the definitions.
-- Assumes nothing.
use mathlib.Core.Path.{◌≡◌, refl}
use mathlib.Core.Bool.{true}
use mathlib.Core.List.{List, [], ◌∷◌, map}
use Prim.Native.Nat.{ℕ}
use Rattle.std.specs.Prelude.{Result, Ok}
use Rattle.order.specs.Flight.{without, in_flight}
use Rattle.logs.specs.Record.{whole_at, record_at, opening_of}
use Rattle.verdict.specs.Verdict.{rules, walk, verdict}
use Rattle.verdict.proofs.Cases.{log_a, log_b}
use Rattle.machine.specs.Machine.{put, start, marked, meet, take_count, take_flag, received, step, whole, full}
use Rattle.machine.specs.Short.{offer, brief, short, note, learn_columns}
use Rattle.machine.specs.Answer.{flagged, answer, answers, weight, entries, more, totals}
use Rattle.machine.proofs.Cases.{loads}
use Rattle.room.specs.declared.Mode.{Mode}
use Rattle.room.specs.declared.Mode.TheVariants.{Full, Short}
use Rattle.room.specs.Modes.{says}
use Rattle.groups.specs.Groups.{stamp_record, stamp_records, cause_records, group_of, groups_of}
use Rattle.passes.specs.Report.{report_of, tally_of, bytes_alone}
use Rattle.report.specs.Run.{Ending, cramped, refusal, overlong, complete, settled, ending}
use Rattle.demands.proofs.Seen.{Seen, seen, two_marks, two_report}
use Rattle.reading.specs.Reading.{stamp_here, count_at, past_count, stamp_place, stamp_at}
use Rattle.reading.specs.Reading as reading
use Rattle.shape.specs.declared.Mark.{Mark}
use Rattle.shape.specs.Shape.{in_range, entry_fits, stamp_fits, stamp_ends, causes_fit, mark_fits, head_fits, stamp_kept, causes_kept, group_fits, mark_here, past_group}
use Rattle.checking.specs.WellFormed.{same_mark, group_place, place_among, good_group}
use Rattle.checking.specs.Surveyed.{walked, checked, place_found}
use Rattle.comparing.specs.declared.Standing.{Standing}
use Rattle.comparing.specs.declared.Standing.TheVariants.{Apart}
use Rattle.comparing.specs.declared.Incomparable.{Incomparable}
use Rattle.comparing.specs.Compare.{exceeds, differs, ordered, compared_at, compared_in, compared}
use Rattle.text.proofs.Samples.{report_a}

-- ---- the table

-- two marks, and what comparing them says
pub record Pair : Type 0 where
  pub first : Mark
  pub second : Mark
  pub answer : Result Standing Incomparable

-- a log, the size of the report room, what is seen of its run with full and with short messages, how many entries each short
-- message carries, and marks of its report compared
pub record Case : Type 0 where
  pub log : List ℕ
  pub room : ℕ
  pub in_full : Seen
  pub in_short : Seen
  pub carried : List ℕ
  pub pairs : List Pair

abbrev pub expected : Mode → Case → Seen
expected Full c = c.in_full
expected Short c = c.in_short

-- a log that is refused with a number at a place; 13 gives the bytes that are needed
abbrev refuses : List ℕ → ℕ → ℕ → ℕ → ℕ → Case
refuses log room x p needed =
    let s : Seen = record { number = x; place = p; totals = bytes_alone needed; report = [] } in
    record { log = log; room = room; in_full = s; in_short = s; carried = []; pairs = [] }

-- A log that is accepted, in the program's report room: its length; its events, marks and sends; what full and what short messages
-- carry, these in all and each; its report, so many bytes; and marks of it compared.
abbrev compares : List ℕ → ℕ → (events marks sends full short : ℕ) → List ℕ → ℕ → List ℕ → List Pair → Case
compares log p e m s full short each b report pairs =
    record {
      log = log;
      room = 16384;
      in_full = record { number = 0; place = p; totals = record { events = e; marks = m; sends = s; carried = full; bytes = b }; report = report };
      in_short = record { number = 0; place = p; totals = record { events = e; marks = m; sends = s; carried = short; bytes = b }; report = report };
      carried = each;
      pairs = pairs;
    }

-- the same with no marks compared
abbrev accepts : List ℕ → ℕ → (events marks sends full short : ℕ) → List ℕ → ℕ → List ℕ → Case
accepts log p e m s full short each b report = compares log p e m s full short each b report []

-- the mark with this number of this node
abbrev named : ℕ → ℕ → Mark
named i c = record { node = record { 0 = i }; number = record { 0 = c } }

-- 0.1, 1.1 from 0.1, and 0.2, stamped 2 1, from 1.1 alone
abbrev report_b : List ℕ
report_b =
    0x21 ∷ 0 ∷ 1 ∷ 0 ∷ 0 ∷ 0x22 ∷ 0 ∷ 1 ∷ 0
    ∷ 0x21 ∷ 1 ∷ 1 ∷ 0 ∷ 1 ∷ 0x22 ∷ 0 ∷ 1 ∷ 0 ∷ 0x22 ∷ 1 ∷ 1 ∷ 0 ∷ 0x23 ∷ 0 ∷ 1 ∷ 0
    ∷ 0x21 ∷ 0 ∷ 2 ∷ 0 ∷ 1 ∷ 0x22 ∷ 0 ∷ 2 ∷ 0 ∷ 0x22 ∷ 1 ∷ 1 ∷ 0 ∷ 0x23 ∷ 1 ∷ 1 ∷ 0 ∷ []

-- two marks of two nodes, neither from the other
abbrev apart_report : List ℕ
apart_report =
    0x21 ∷ 0 ∷ 1 ∷ 0 ∷ 0 ∷ 0x22 ∷ 0 ∷ 1 ∷ 0
    ∷ 0x21 ∷ 1 ∷ 1 ∷ 0 ∷ 0 ∷ 0x22 ∷ 1 ∷ 1 ∷ 0 ∷ []

-- 01's rows, in its order
abbrev pub cases : List Case
cases =
    accepts (0x10 ∷ 1 ∷ []) 2 0 0 0 0 0 [] 0 []
    ∷ refuses [] 16384 2 0 0
    ∷ refuses (0x10 ∷ 0 ∷ []) 16384 3 1 0
    ∷ refuses (0x10 ∷ 0x21 ∷ []) 16384 3 1 0
    ∷ refuses (0x10 ∷ 2 ∷ 0x13 ∷ 0 ∷ 0 ∷ 1 ∷ 0 ∷ []) 16384 7 4 0
    ∷ refuses (0x10 ∷ 2 ∷ 0x13 ∷ 5 ∷ 5 ∷ 1 ∷ 0 ∷ []) 16384 6 3 0
    ∷ refuses (0x10 ∷ 2 ∷ 0x14 ∷ 1 ∷ 1 ∷ 0 ∷ []) 16384 10 4 0
    ∷ refuses (0x10 ∷ 2 ∷ 0x13 ∷ 0 ∷ 1 ∷ 1 ∷ 0 ∷ 0x13 ∷ 1 ∷ 0 ∷ 1 ∷ 0 ∷ []) 16384 8 10 0
    ∷ refuses (0x10 ∷ 3 ∷ 0x13 ∷ 0 ∷ 1 ∷ 1 ∷ 0 ∷ 0x14 ∷ 2 ∷ 1 ∷ 0 ∷ []) 16384 11 9 0
    ∷ accepts two_marks 6 2 2 0 0 0 [] 22 two_report
    ∷ accepts log_a 35 9 3 3 9 4 (1 ∷ 1 ∷ 2 ∷ []) 47 report_a
    ∷ refuses log_a 46 13 35 47
    ∷ accepts log_b 35 9 3 3 6 3 (1 ∷ 0 ∷ 2 ∷ []) 43 report_b
    ∷ compares (0x10 ∷ 2 ∷ 0x12 ∷ 0 ∷ 0x12 ∷ 1 ∷ []) 6 2 2 0 0 0 [] 18 apart_report
    (record { first = named 0 1; second = named 1 1; answer = Ok Apart } ∷ [])
    ∷ []

-- ---- the definitions give it

-- what comparing says of a row's marks in the report, and what it should
abbrev pub told : Mode → Case → List (Result Standing Incomparable)
told mode c = map (λ x. compared (seen mode c.log c.room).report x.first x.second) c.pairs

abbrev pub wanted : Case → List (Result Standing Incomparable)
wanted c = map (λ x. x.answer) c.pairs

-- how many entries each short message of a completed run carries
unfoldable pub each_carries : Ending → List ℕ
each_carries cramped = []
each_carries (refusal x p) = []
each_carries (overlong n cut) = []
each_carries (complete n cut) = loads n cut

-- every row of the table, with full and with short messages
pub cases_hold : (map (λ c. seen Full c.log c.room) cases ≡ map (expected Full) cases)
    × (map (λ c. seen Short c.log c.room) cases ≡ map (expected Short) cases)
    × (map (told Full) cases ≡ map wanted cases) × (map (told Short) cases ≡ map wanted cases)
    × (map (λ c. each_carries (ending c.log true c.room)) cases ≡ map (λ c. c.carried) cases)
unfolding each_carries loads compared_in compared_at ordered exceeds differs checked walked place_found good_group place_among group_place same_mark mark_here group_fits head_fits mark_fits stamp_kept causes_kept causes_fit stamp_fits stamp_ends entry_fits in_range past_group stamp_at stamp_place past_count count_at stamp_here reading.whole_at verdict walk rules record_at opening_of whole_at in_flight without settled ending tally_of report_of says answers answer flagged weight entries more totals full whole step start marked received meet take_count take_flag put short brief offer note learn_columns stamp_record stamp_records cause_records group_of groups_of
cases_hold = (refl, refl, refl, refl, refl)
