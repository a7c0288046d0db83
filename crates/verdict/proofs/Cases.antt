-- What 01's table of logs says of refusals, and that logs A and B are accepted with their events: one table of cases,
-- computed.
-- Assumes nothing.
use mathlib.Core.Path.{◌≡◌, refl}
use mathlib.Core.List.{List, [], ◌∷◌, map}
use Prim.Native.Nat.{ℕ}
use Rattle.order.specs.Order.{mark}
use Rattle.order.specs.Flight.{without, in_flight}
use Rattle.order.proofs.Samples.{cut_a, cut_b}
use Rattle.logs.specs.Record.{whole_at, record_at, opening_of}
use Rattle.verdict.specs.Verdict.{Verdict, refused, accepted, rules, walk, verdict}

-- a log and the verdict that 01 gives
pub record Case : Type 0 where
  pub log : List ℕ
  pub says : Verdict

abbrev case : List ℕ → Verdict → Case
case l v = record { log = l; says = v }

abbrev pub log_a : List ℕ
log_a = 0x10 ∷ 3 ∷ 0x12 ∷ 0 ∷ 0x13 ∷ 0 ∷ 1 ∷ 1 ∷ 0 ∷ 0x13 ∷ 0 ∷ 2 ∷ 2 ∷ 0 ∷ 0x14 ∷ 1 ∷ 1 ∷ 0 ∷ 0x12 ∷ 1 ∷ 0x13 ∷ 1 ∷ 2 ∷ 3 ∷ 0 ∷ 0x14 ∷ 2 ∷ 2 ∷ 0 ∷ 0x14 ∷ 2 ∷ 3 ∷ 0 ∷ 0x12 ∷ 2 ∷ []

abbrev pub log_b : List ℕ
log_b = 0x10 ∷ 2 ∷ 0x12 ∷ 0 ∷ 0x13 ∷ 0 ∷ 1 ∷ 1 ∷ 0 ∷ 0x14 ∷ 1 ∷ 1 ∷ 0 ∷ 0x13 ∷ 1 ∷ 0 ∷ 2 ∷ 0 ∷ 0x12 ∷ 1 ∷ 0x13 ∷ 1 ∷ 0 ∷ 3 ∷ 0 ∷ 0x14 ∷ 0 ∷ 3 ∷ 0 ∷ 0x12 ∷ 0 ∷ 0x14 ∷ 0 ∷ 2 ∷ 0 ∷ []

abbrev pub cases : List Case
cases =
    case (0x10 ∷ 1 ∷ []) (accepted 1 [])
    ∷ case [] (refused 2 0)
    ∷ case (0x10 ∷ 0 ∷ []) (refused 3 1)
    ∷ case (0x10 ∷ 0x21 ∷ []) (refused 3 1)
    ∷ case (0x10 ∷ 2 ∷ 0x13 ∷ 0 ∷ 0 ∷ 1 ∷ 0 ∷ []) (refused 7 4)
    ∷ case (0x10 ∷ 2 ∷ 0x13 ∷ 5 ∷ 5 ∷ 1 ∷ 0 ∷ []) (refused 6 3)
    ∷ case (0x10 ∷ 2 ∷ 0x14 ∷ 1 ∷ 1 ∷ 0 ∷ []) (refused 10 4)
    ∷ case (0x10 ∷ 2 ∷ 0x13 ∷ 0 ∷ 1 ∷ 1 ∷ 0 ∷ 0x13 ∷ 1 ∷ 0 ∷ 1 ∷ 0 ∷ []) (refused 8 10)
    ∷ case (0x10 ∷ 3 ∷ 0x13 ∷ 0 ∷ 1 ∷ 1 ∷ 0 ∷ 0x14 ∷ 2 ∷ 1 ∷ 0 ∷ []) (refused 11 9)
    ∷ case (0x10 ∷ 1 ∷ 0x12 ∷ 0 ∷ 0x12 ∷ 0 ∷ []) (accepted 1 (mark 0 ∷ mark 0 ∷ []))
    ∷ case log_a (accepted 3 cut_a)
    ∷ case log_b (accepted 2 cut_b)
    -- and of its table of refusals: a later 0x10, an unknown kind, a record cut short, a destination that is no node
    ∷ case (0x10 ∷ 1 ∷ 0x11 ∷ 0 ∷ 0x10 ∷ 1 ∷ []) (refused 4 4)
    ∷ case (0x10 ∷ 1 ∷ 0x16 ∷ []) (refused 4 2)
    ∷ case (0x10 ∷ 2 ∷ 0x13 ∷ 0 ∷ 1 ∷ 1 ∷ []) (refused 5 2)
    ∷ case (0x10 ∷ 2 ∷ 0x13 ∷ 0 ∷ 2 ∷ 1 ∷ 0 ∷ []) (refused 6 4)
    ∷ []

pub cases_hold : map (λ r. verdict r.log) cases ≡ map (λ (r : Case). r.says) cases
unfolding verdict walk rules record_at opening_of whole_at in_flight without
cases_hold = refl
