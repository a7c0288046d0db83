-- What the theorems about a run speak of, beyond its promise: 01's table of refusals, the marks of a log and its report, two runs
-- that agree, what lies in the mail, and a program.
-- Assumes nothing.
use Rattle.std.specs.Prelude.{◌≡◌, Bool, cond, ℕ, suc, ◌+◌, ◌*◌, ◌^◌, ◌<◌, ◌≤◌, length, get_or, take, Some, Ok}
use mathlib.Core.List.{List, [], ◌∷◌, ◌++◌, Memᴰ}
use Rattle.order.specs.Order.{Event, idle, mark, send, receipt}
use Rattle.logs.specs.declared.Cursor.{Cursor}
use Rattle.logs.specs.declared.Record.{Record}
use Rattle.logs.specs.Record.{record_at, opening_of}
use Rattle.verdict.specs.Verdict.{accepted}
use Rattle.verdict.specs.Table.{Refused, Row}
use Rattle.machine.specs.Answer as machine
use Rattle.machine.specs.Answer.{Right}
use Rattle.room.specs.declared.Mode.{Mode}
use Rattle.room.specs.declared.Mode.TheVariants.{Full, Short}
use Rattle.room.specs.Modes.{GoesAlong}
use Rattle.room.specs.Room.{barn, Holds}
use Rattle.groups.specs.Groups.{groups_of, laid}
use Rattle.report.specs.declared.Answer.{Answer}
use Rattle.report.specs.declared.Answer.TheVariants.{Accepted}
use Rattle.passes.specs.Report.{report_of, tally_of}
use Rattle.report.specs.Run.{number_of, place_of, totals_of, Ran}

-- ---- demand 1: the table

-- the work rooms are large enough
pub record Roomy (counts words mail : List ℕ) : Type 0 where
  pub counts_fit : 1024 ≤ length counts
  pub words_fit : 1056 ≤ length words
  pub mail_fits : 4480 ≤ length mail

-- 01's table of refusals: a run of the log, in these rooms and with a report room of so many bytes, is answered with this number
-- at this place.
pub data Answers (log counts words mail : List ℕ) (size : ℕ) : ℕ → ℕ → Type 0 where
  -- accepted, and the report fits
  answers_0 : {n : ℕ} {cut : List Event} → Roomy counts words mail → Row log (accepted n cut) → length (report_of n cut) ≤ size
      → Answers log counts words mail size 0 (length log)
  -- a work room is too small
  answers_1 : ¬ Roomy counts words mail → Answers log counts words mail size 1 0
  -- 2 to 12: the log is refused
  answers_log : {x q : ℕ} → Roomy counts words mail → Refused log x q → Answers log counts words mail size x q
  -- accepted, but the report is longer than its room
  answers_13 : {n : ℕ} {cut : List Event} → Roomy counts words mail → Row log (accepted n cut) → size < length (report_of n cut)
      → Answers log counts words mail size 13 (length log)

-- What a run leaves on 0: the log is accepted with these nodes and events, the totals are theirs, their report fills the front of
-- its room, what lies behind is as it was, and the work room holds the state after the last event.
pub record Completed
    (mode : Mode) (log : List ℕ) (n : ℕ) (cut : List Event) (report counts' words' mail' report' : List ℕ) (r : Answer) : Type 0 where
  pub accepted_is : Row log (accepted n cut)
  pub answer_is : r ≡ Accepted (length log) (tally_of mode n cut)
  pub report_fits : length (report_of n cut) ≤ length report
  pub report_laid : report' ≡ laid 0 (report_of n cut) report
  pub state_held : Holds n (barn mode cut) (take 1024 counts') (take 1056 words') (take 4480 mail')

-- the work rooms are the same as far as their fixed sizes reach
abbrev pub SameFronts : (counts words mail counts₂ words₂ mail₂ : List ℕ) → Type 0
SameFronts counts words mail counts₂ words₂ mail₂ =
    (take 1024 counts ≡ take 1024 counts₂) × (take 1056 words ≡ take 1056 words₂) × (take 4480 mail ≡ take 4480 mail₂)

-- ---- demand 2: the marks

-- the places of the marks of a cut, in log order
unfoldable pub marks_of : List Event → List ℕ
marks_of [] = []
marks_of (idle i ∷ past) = marks_of past
marks_of (mark i ∷ past) = marks_of past ++ (length past ∷ [])
marks_of (send i j m ∷ past) = marks_of past
marks_of (receipt j m ∷ past) = marks_of past

-- the lists are as long as each other, and their elements are related one by one
pub data Each {A B : Type 0} (R : A → B → Type 0) : List A → List B → Type 0 where
  each_nil : Each R [] []
  each_cons : {x : A} {y : B} {xs : List A} {ys : List B} → R x y → Each R xs ys → Each R (x ∷ xs) (y ∷ ys)

-- the bytes are the report of the cut, for n nodes: the groups of the right answers to its marks, one for each in log order
pub record Reports (n : ℕ) (cut : List Event) (bytes : List ℕ) : Type 0 where
  pub told : List machine.Answer
  pub right : Each (Right cut) (marks_of cut) told
  pub grouped : bytes ≡ groups_of n told

-- the answers say the same of a mark in a barn of n nodes: which mark it is, its stamp, and its direct predecessors
pub record SameAnswer (n : ℕ) (a b : machine.Answer) : Type 0 where
  pub node_same : a.node ≡ b.node
  pub stamp_same : (k : ℕ) → k < n → a.stamp k ≡ b.stamp k
  pub nearest_same : a.nearest ≡ b.nearest

-- the answer says of the mark at place p what the right answer says
abbrev pub ReadsRight : ℕ → List Event → ℕ → machine.Answer → Type 0
ReadsRight n cut p b = (a : machine.Answer) × Right cut p a × SameAnswer n a b

-- each element is less than all behind it
pub data Rising : List ℕ → Type 0 where
  rising_nil : Rising []
  rising_cons : {x : ℕ} {xs : List ℕ} → ((y : ℕ) → Memᴰ y xs → x < y) → Rising xs → Rising (x ∷ xs)

-- ---- demand 3: full and short messages

-- two answers are the same but for the entries that the messages carried
pub record SameButCarried (r s : Answer) : Type 0 where
  pub number_same : number_of r ≡ number_of s
  pub place_same : place_of r ≡ place_of s
  pub events_same : (totals_of r).events ≡ (totals_of s).events
  pub marks_same : (totals_of r).marks ≡ (totals_of s).marks
  pub sends_same : (totals_of r).sends ≡ (totals_of s).sends
  pub bytes_same : (totals_of r).bytes ≡ (totals_of s).bytes

-- after both runs every node holds the same counts and the same flags, and the report is the same
pub record SameArrows (counts words report counts₂ words₂ report₂ : List ℕ) (r s : Answer) : Type 0 where
  pub counts_same : take 1024 counts ≡ take 1024 counts₂
  pub flags_same : (i : ℕ) → i < 32 → get_or words i 0 ≡ get_or words₂ i 0
  pub report_same : take (totals_of r).bytes report ≡ take (totals_of s).bytes report₂

-- Every two runs of the log with these events, one full and one short, in work rooms that are large enough and report rooms that its
-- report fits: both are accepted, and they answer and leave the same but for what the messages carried.
pub record RunsAgree (log : List ℕ) (n : ℕ) (cut : List Event) : Type 0 where
  pub runs : {bytes counts words mail report counts' words' mail' report' : List ℕ} {r : Answer}
      {counts₂ words₂ mail₂ report₂ counts₂' words₂' mail₂' report₂' : List ℕ} {s : Answer}
      → Reports n cut bytes → Roomy counts words mail → length bytes ≤ length report → Roomy counts₂ words₂ mail₂ → length bytes ≤ length report₂
      → Ran Full log counts words mail report counts' words' mail' report' r
      → Ran Short log counts₂ words₂ mail₂ report₂ counts₂' words₂' mail₂' report₂' s
      → Completed Full log n cut report counts' words' mail' report' r
      × Completed Short log n cut report₂ counts₂' words₂' mail₂' report₂' s
      × SameButCarried r s × SameArrows counts' words' report' counts₂' words₂' report₂' r s

-- message number m from node i to node j lies in slot s of the mail
pub record Lies (mail : List ℕ) (s i j m : ℕ) : Type 0 where
  pub slot_few : s < 128
  pub sender_is : get_or mail (35 * s) 0 ≡ suc i
  pub destination_is : get_or mail (35 * s + 1) 0 ≡ j
  pub number_is : get_or mail (35 * s + 2) 0 ≡ m

-- the element of slot s for node k is that of count c with flag x: if c is above zero, the message there carries it
abbrev pub EntryAt : List ℕ → ℕ → ℕ → ℕ → Bool → Type 0
EntryAt mail s k c x = get_or mail (35 * s + 3 + k) 0 ≡ 2 * c + cond x 1 0

-- a count and its flag as an element of the mail
abbrev pub element_of : ℕ → Bool → ℕ
element_of count flag = 2 * count + cond flag 1 0

-- the element of slot s for node k
abbrev pub entry_at : List ℕ → ℕ → ℕ → ℕ
entry_at mail s k = get_or mail (35 * s + 3 + k) 0

-- the element for k of a message that i sends to j after the cut: that of the count and the flag that go along, and 0 if none does
pub data Element (mode : Mode) (past : List Event) (i j k : ℕ) : ℕ → Type 0 where
  element_carried : (c : ℕ) (x : Bool) → GoesAlong mode past i j k c x → Element mode past i j k (element_of c x)
  element_absent : ((c : ℕ) (x : Bool) → ¬ GoesAlong mode past i j k c x) → Element mode past i j k 0

-- slot s has message number m, which i sent to j at place p of the cut, with the letter of that very send, and is zero behind it
pub record Posted (mode : Mode) (n : ℕ) (cut : List Event) (mail : List ℕ) (s m i j p : ℕ) : Type 0 where
  pub lies : Lies mail s i j m
  pub later : List Event
  pub past : List Event
  pub sent_then : cut ≡ later ++ (send i j m ∷ past)
  pub place_is : p ≡ length past
  pub letter_is : (k : ℕ) → k < n → Element mode past i j k (entry_at mail s k)
  pub rest_zero : (k : ℕ) → n ≤ k → k < 32 → entry_at mail s k ≡ 0

-- ---- useless programs

-- the record of the log's first event ends just before place q
pub data FirstEnds (log : List ℕ) : ℕ → Type 0 where
  first_ends : {n : ℕ} {c d : Cursor} {r : Record} → opening_of log ≡ Ok (n, c) → record_at log c.at ≡ Ok (Some (r, d)) → FirstEnds log d.at

-- what a run is given, and what it leaves
pub record Input : Type 0 where
  pub mode : Mode
  pub log : List ℕ
  pub counts : List ℕ
  pub words : List ℕ
  pub mail : List ℕ
  pub report : List ℕ

pub record Result : Type 0 where
  pub counts : List ℕ
  pub words : List ℕ
  pub mail : List ℕ
  pub report : List ℕ
  pub answer : Answer

-- the same in a mode
abbrev pub in_mode : Mode → Input → Input
in_mode mode i = record { mode = mode; log = i.log; counts = i.counts; words = i.words; mail = i.mail; report = i.report }

-- the same, but the log is cut before place q
abbrev pub cut_at : ℕ → Input → Input
cut_at q i = record { mode = i.mode; log = take q i.log; counts = i.counts; words = i.words; mail = i.mail; report = i.report }

-- the elements are numbers of the slice's type; a run may be given no others
abbrev pub Below : ℕ → List ℕ → Type 0
Below bound xs = (p : ℕ) → get_or xs p 0 < bound

pub record Given (i : Input) : Type 0 where
  pub log_bytes : Below 256 i.log
  pub counts_numbers : Below (2 ^ 16) i.counts
  pub words_numbers : Below (2 ^ 32) i.words
  pub mail_numbers : Below (2 ^ 16) i.mail
  pub report_bytes : Below 256 i.report

-- a program, and that it keeps the promise of a run on all that it may be given
abbrev pub Program : Type 0
Program = Input → Result

abbrev pub Promised : Input → Result → Type 0
Promised i o =
    Ran i.mode i.log i.counts i.words i.mail i.report o.counts o.words o.mail o.report o.answer

abbrev pub Meets : Program → Type 0
Meets program = (i : Input) → Given i → Promised i (program i)
