-- 01's text, computed: the last line of log A, and a refusal.
-- Assumes nothing.
use mathlib.Core.Path.{◌≡◌, refl}
use mathlib.Core.List.{List, [], ◌∷◌}
use Prim.Native.Nat.{ℕ}
use Rattle.words.specs.Words.{digits, decimal}
use Rattle.closing.specs.Closing.{ok_line, refused_line}

-- `ok 9 events 3 marks 3 sends 4 carried`
ok_text : List ℕ
ok_text =
    111 ∷ 107 ∷ 32 ∷ 57 ∷ 32 ∷ 101 ∷ 118 ∷ 101 ∷ 110 ∷ 116 ∷ 115 ∷ 32 ∷ 51
    ∷ 32 ∷ 109 ∷ 97 ∷ 114 ∷ 107 ∷ 115 ∷ 32 ∷ 51
    ∷ 32 ∷ 115 ∷ 101 ∷ 110 ∷ 100 ∷ 115 ∷ 32 ∷ 52 ∷ 32 ∷ 99 ∷ 97 ∷ 114 ∷ 114 ∷ 105 ∷ 101 ∷ 100 ∷ 10 ∷ []

ok_a : ok_line 9 3 3 4 ≡ ok_text
unfolding ok_text ok_line decimal digits
ok_a = refl

-- `refused 7 at 4`
refused : refused_line 7 4 ≡ 114 ∷ 101 ∷ 102 ∷ 117 ∷ 115 ∷ 101 ∷ 100 ∷ 32 ∷ 55 ∷ 32 ∷ 97 ∷ 116 ∷ 32 ∷ 52 ∷ 10 ∷ []
unfolding refused_line decimal digits
refused = refl
