-- 01's promise (a) for whole programs: two that keep the promise of a run do the same, since its result is one.
-- Assumes nothing.
use mathlib.Core.Path.{◌≡◌}
use Rattle.report.proofs.OneResult.{ran_unique}
use Rattle.demands.specs.Demands.{Input, Result, Given, Program, Meets}

-- results are the same if their parts are
same_results : (a b : Result) → a.answer ≡ b.answer → a.counts ≡ b.counts → a.words ≡ b.words → a.mail ≡ b.mail → a.report ≡ b.report → a ≡ b
same_results a b answer counts words mail report = whole
  where
    whole : ◌≡◌ {A = Result}
        (record { counts = a.counts; words = a.words; mail = a.mail; report = a.report; answer = a.answer })
        (record { counts = b.counts; words = b.words; mail = b.mail; report = b.report; answer = b.answer })
    whole = rw (answer, counts, words, mail, report)

-- So two programs that keep the promise do the same on all that they may be given.
pub one_program : (program other : Program) → Meets program → Meets other → (i : Input) → Given i → program i ≡ other i
one_program program other meets too i given =
    let (answer, counts, words, mail, report) = ran_unique (meets i given) (too i given) in
    same_results (program i) (other i) answer counts words mail report
