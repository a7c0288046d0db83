-- The report's bytes tell the answers: groups that have the same bytes say the same, since a group is read from the front
-- without doubt. So whatever is read out of a report is right.
-- Assumes nothing.
use mathlib.Core.Path.{◌≡◌, refl, sym, ◌∙◌, ap₂}
use mathlib.Core.Bool.{false≢true}
use mathlib.Core.List.{List, [], ◌∷◌, ◌++◌, append_assoc}
use Prim.Native.Nat.{ℕ, zero, suc, ◌/◌, ◌%◌, ◌<◌}
use native.Mathlib.Decide.{dec_lt}
use native.Mathlib.Omega.{arith}
use lib.ListN.{length, take}
use Rattle.order.specs.Order.{Event}
use Rattle.verdict.specs.Verdict.{accepted}
use Rattle.verdict.specs.Table.{Row}
use Rattle.verdict.proofs.Accepted.{row_lawful}
use Rattle.machine.specs.Machine.{full}
use Rattle.machine.specs.Answer.{Answer, answers, Right}
use Rattle.room.specs.declared.Mode.{Mode}
use Rattle.groups.specs.Groups.{four_bytes, stamp_record, stamp_records, cause_records, group_of, groups_of}
use Rattle.report.specs.declared.Answer as run
use Rattle.report.specs.Run.{number_of, totals_of, Ran}
use Rattle.demands.specs.Demands.{marks_of, Each, each_nil, each_cons, SameAnswer, ReadsRight}
use Rattle.demands.proofs.Refusals.{laid_front}
use Rattle.demands.proofs.ListedMarks.{answers_right}
use Rattle.demands.proofs.Arrows.{report_only}

-- ---- records

-- a record of four bytes tells its node and its number
four_same : {kind k c l d : ℕ} {rest more : List ℕ} → four_bytes kind k c ++ rest ≡ four_bytes kind l d ++ more → (k ≡ l) × (c ≡ d) × (rest ≡ more)
four_same {c = c} {d = d} h =
    let low : c % 256 ≡ d % 256 = cc in
    let high : c / 256 ≡ d / 256 = cc in
    (cc, omega arith, cc)

-- what does not begin with a 0x22 record of a node below n
abbrev Clear : ℕ → List ℕ → Type 0
Clear n bytes = (k : ℕ) (rest : List ℕ) → k < n → ¬ (bytes ≡ 0x22 ∷ k ∷ rest)

-- with the record of node n in front it does not begin with one of a lower node
clear_more : {n : ℕ} {bytes : List ℕ} → Clear (suc n) bytes → (c : ℕ) → Clear n (stamp_record n c ++ bytes)
unfolding stamp_record
clear_more clear zero k rest below h = clear k rest (omega arith) h
clear_more {n} clear (suc c) k rest below h = let same : n ≡ k = cc in omega arith

-- the record of node n, or that there is none, tells its count
stamp_tells : {n : ℕ} {bytes more : List ℕ} → Clear (suc n) bytes → Clear (suc n) more → (c d : ℕ) → stamp_record n c ++ bytes ≡ stamp_record n d ++ more
    → (c ≡ d) × (bytes ≡ more)
unfolding stamp_record
stamp_tells x y zero zero h = (refl, h)
stamp_tells {n} x y zero (suc d) h = absurd (x n _ (omega arith) h)
stamp_tells {n} x y (suc c) zero h = absurd (y n _ (omega arith) (sym h))
stamp_tells x y (suc c) (suc d) h = let (node, count, rest) = four_same h in (count, rest)

-- the records of a stamp tell it
stamps_tell : (n : ℕ) (f g : ℕ → ℕ) {bytes more : List ℕ} → Clear n bytes → Clear n more → stamp_records n f ++ bytes ≡ stamp_records n g ++ more
    → ((k : ℕ) → k < n → f k ≡ g k) × (bytes ≡ more)
unfolding stamp_records
stamps_tell zero f g x y h = (λ k below. absurd (omega arith), h)
stamps_tell (suc n) f g {bytes} {more} x y h =
    let front : stamp_records n f ++ (stamp_record n (f n) ++ bytes) ≡ stamp_records n g ++ (stamp_record n (g n) ++ more) =
    sym (append_assoc (stamp_records n f) (stamp_record n (f n)) bytes) ∙ h ∙ append_assoc (stamp_records n g) (stamp_record n (g n)) more in
    let (lower, rest) = stamps_tell n f g (clear_more x (f n)) (clear_more y (g n)) front in
    let (last, behind) = stamp_tells x y (f n) (g n) rest in
    (λ k below. go k below lower last (dec_lt k n), behind)
  where
    go : (k : ℕ) → k < suc n → ((k : ℕ) → k < n → f k ≡ g k) → f n ≡ g n → Dec (k < n) → f k ≡ g k
    go k below lower last (yes l) = lower k l
    go k below lower last (no l) = let here : k ≡ n = omega arith in rw here last

-- so many predecessors are told by their records
causes_tell : (xs ys : List (ℕ × ℕ)) {bytes more : List ℕ} → length xs ≡ length ys → cause_records xs ++ bytes ≡ cause_records ys ++ more → (xs ≡ ys) × (bytes ≡ more)
unfolding cause_records
causes_tell [] [] same h = (refl, h)
causes_tell [] (y ∷ ys) same h = absurd (omega arith)
causes_tell (x ∷ xs) [] same h = absurd (omega arith)
causes_tell (x ∷ xs) (y ∷ ys) same h =
    let (node, count, rest) = four_same h in
    let (others, behind) = causes_tell xs ys (omega arith) rest in
    let here : x ≡ y = ap₂ (λ k c. (k, c)) node count in
    (ap₂ ◌∷◌ here others, behind)

-- ---- groups

-- behind a stamp come predecessors and groups, which do not begin with 0x22
clear_groups : (n : ℕ) (xs : List (ℕ × ℕ)) (told : List Answer) → Clear n (cause_records xs ++ groups_of n told)
unfolding cause_records groups_of group_of
clear_groups n [] [] k rest below h = false≢true (cc)
clear_groups n [] (a ∷ told) k rest below h = let z : ◌≡◌ {A = ℕ} 0x21 0x22 = cc in omega arith
clear_groups n (x ∷ xs) told k rest below h = let z : ◌≡◌ {A = ℕ} 0x23 0x22 = cc in omega arith

-- stamp and predecessors are told
body_tells : (n : ℕ) (a b : Answer) (told said : List Answer) → a.node ≡ b.node → length a.nearest ≡ length b.nearest
    → (stamp_records n a.stamp ++ cause_records a.nearest) ++ groups_of n told ≡ (stamp_records n b.stamp ++ cause_records b.nearest) ++ groups_of n said
    → SameAnswer n a b × (groups_of n told ≡ groups_of n said)
body_tells n a b told said node many h =
    let (stamp, behind) = stamps_tell n a.stamp b.stamp (clear_groups n a.nearest told) (clear_groups n b.nearest said) (parted a told ∙ h ∙ sym (parted b said)) in
    let (nearest, rest) = causes_tell a.nearest b.nearest many behind in
    (record { node_same = node; stamp_same = stamp; nearest_same = nearest }, rest)
  where
    parted : (a : Answer) (told : List Answer) → stamp_records n a.stamp ++ (cause_records a.nearest ++ groups_of n told)
        ≡ (stamp_records n a.stamp ++ cause_records a.nearest) ++ groups_of n told
    parted a told = sym (append_assoc (stamp_records n a.stamp) (cause_records a.nearest) (groups_of n told))

-- the first group tells its answer
group_tells : (n : ℕ) (a b : Answer) (told said : List Answer) → group_of n a ++ groups_of n told ≡ group_of n b ++ groups_of n said
    → SameAnswer n a b × (groups_of n told ≡ groups_of n said)
unfolding group_of
group_tells n a b told said h = body_tells n a b told said (cc) (cc) (cc)

-- groups that have the same bytes say the same, one by one
pub groups_tell : (n : ℕ) (told said : List Answer) → groups_of n told ≡ groups_of n said → Each (SameAnswer n) told said
unfolding groups_of group_of
groups_tell n [] [] h = each_nil
groups_tell n [] (b ∷ said) h = absurd (false≢true (cc))
groups_tell n (a ∷ told) [] h = absurd (false≢true (cc))
groups_tell n (a ∷ told) (b ∷ said) h =
    let (same, rest) = group_tells n a b told said h in
    each_cons same (groups_tell n told said rest)

-- ---- the report

-- two steps in one
each_then : {cut : List Event} {n : ℕ} {places : List ℕ} {told said : List Answer} → Each (Right cut) places told → Each (SameAnswer n) told said
    → Each (ReadsRight n cut) places said
each_then each_nil each_nil = each_nil
each_then (each_cons {y = a} right more) (each_cons same rest) = each_cons (a, right, same) (each_then more rest)

-- Whatever answers a reader takes out of the report of an accepted log, if their groups are its bytes, they say of the log's marks,
-- in log order, what is right.
pub report_read : {mode : Mode} {log counts words mail report counts' words' mail' report' : List ℕ} {r : run.Answer}
    → Ran mode log counts words mail report counts' words' mail' report' r → number_of r ≡ 0
    → {n : ℕ} {cut : List Event} {said : List Answer} → Row log (accepted n cut) → take (totals_of r).bytes report' ≡ groups_of n said
    → Each (ReadsRight n cut) (marks_of cut) said
report_read {report = report} ran here {n} {cut} {said} row read =
    let told = answers n full cut in
    let each = answers_right (row_lawful row).sound in
    let (is, size) = report_only ran here row each in
    each_then each (groups_tell n told said (sym (rw (size, is) (laid_front (groups_of n told) report)) ∙ read))
