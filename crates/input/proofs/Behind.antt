-- A read behind a front that was read before: the two together are what the reader lost.
-- Assumes nothing.
use Rattle.std.proofs.Common.{ℕ, ◌+◌, ◌≤◌, List, ◌++◌, length, take, ◌≡◌, sym, ap, ◌∙◌, subst, Option}
use Rattle.std.proofs.Math.Seq.{take-append-add}
use Rattle.std.proofs.lemmas.List.{take-append-le}
use Rattle.std.proofs.KnownBytes.{Consumes-trans}
use Rattle.std.specs.Io.KnownBytes.{Consumes}

-- a read of n bytes behind a front that was consumed before
pub read_behind : (a b c : Option (List ℕ)) (front part rest : List ℕ) (at n : ℕ) → length front ≡ at → n ≤ length part
    → Consumes a b front → Consumes b c (take n part) → Consumes a c (take (at + n) (front ++ (part ++ rest)))
read_behind a b c front part rest at n long fits before read =
    let joined : take (at + n) (front ++ (part ++ rest)) ≡ front ++ take n part =
    ap (λ k. take (k + n) (front ++ (part ++ rest))) (sym long) ∙ take-append-add front (part ++ rest) n
    ∙ ap (λ l. front ++ l) (take-append-le n part rest fits) in
    subst (Consumes a c) (sym joined) (Consumes-trans a b c front (take n part) before read)
