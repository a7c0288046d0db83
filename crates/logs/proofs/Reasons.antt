-- Each reason has a number of its own in 01's table, so a refusal is fixed by its number and its place. By reading the number back.
-- Assumes nothing.
use mathlib.Core.Path.{◌≡◌, refl, sym, ◌∙◌, ap}
use mathlib.Core.Bool.{cond}
use Prim.Native.Nat.{ℕ}
use lib.Dec.{eqb}
use Rattle.logs.specs.declared.Reason.{Reason}
use Rattle.logs.specs.declared.Reason.TheVariants.{NoOpening, NodeCount, UnknownKind, CutShort, NoSuchNode, ToItself, NumberTaken, MailFull, NotInFlight, ToAnother, TooManyEvents}
use Rattle.logs.specs.declared.Refusal.{Refusal}
use Rattle.logs.specs.Record.{number_of, refusal}

-- the reason that has a number of the table
abbrev pub reason_of : ℕ → Reason
reason_of x =
    cond (eqb x 2) NoOpening
    (cond (eqb x 3) NodeCount
    (cond (eqb x 4) UnknownKind
    (cond (eqb x 5) CutShort
    (cond (eqb x 6) NoSuchNode
    (cond (eqb x 7) ToItself
    (cond (eqb x 8) NumberTaken
    (cond (eqb x 9) MailFull
    (cond (eqb x 10) NotInFlight
    (cond (eqb x 11) ToAnother TooManyEvents)))))))))

pub reason_number : (r : Reason) → reason_of (number_of r) ≡ r
reason_number NoOpening = refl
reason_number NodeCount = refl
reason_number UnknownKind = refl
reason_number CutShort = refl
reason_number NoSuchNode = refl
reason_number ToItself = refl
reason_number NumberTaken = refl
reason_number MailFull = refl
reason_number NotInFlight = refl
reason_number ToAnother = refl
reason_number TooManyEvents = refl

-- reasons with the same number are the same
pub number_same : {r s : Reason} → number_of r ≡ number_of s → r ≡ s
number_same {r} {s} e = sym (reason_number r) ∙ ap reason_of e ∙ reason_number s

-- refusals with the same reason and place are the same
pub refusal_same : {f g : Refusal} → f.reason ≡ g.reason → f.place ≡ g.place → f ≡ g
refusal_same {f} {g} e h = let same : refusal f.reason f.place ≡ refusal g.reason g.place = cc in same
