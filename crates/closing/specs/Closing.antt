-- The line that ends the program's text (01, "Logs to try"). A word stands as the codes of its letters.
-- Assumes nothing.
use Rattle.std.specs.Prelude.{List, [], ◌∷◌, ◌++◌, ℕ}
use Rattle.words.specs.Words.{counted}

-- `ok 9 events 3 marks 3 sends 4 carried`
unfoldable pub ok_line : ℕ → ℕ → ℕ → ℕ → List ℕ
ok_line events marks sends carried =
    (111 ∷ 107 ∷ 32 ∷ [])  -- `ok `
    ++ counted events (32 ∷ 101 ∷ 118 ∷ 101 ∷ 110 ∷ 116 ∷ 115 ∷ 32 ∷ [])  -- ` events `
    ++ counted marks (32 ∷ 109 ∷ 97 ∷ 114 ∷ 107 ∷ 115 ∷ 32 ∷ [])  -- ` marks `
    ++ counted sends (32 ∷ 115 ∷ 101 ∷ 110 ∷ 100 ∷ 115 ∷ 32 ∷ [])  -- ` sends `
    ++ counted carried (32 ∷ 99 ∷ 97 ∷ 114 ∷ 114 ∷ 105 ∷ 101 ∷ 100 ∷ 10 ∷ [])  -- ` carried` and the line's end

-- `refused 7 at 4`
unfoldable pub refused_line : ℕ → ℕ → List ℕ
refused_line number place =
    (114 ∷ 101 ∷ 102 ∷ 117 ∷ 115 ∷ 101 ∷ 100 ∷ 32 ∷ [])  -- `refused `
    ++ counted number (32 ∷ 97 ∷ 116 ∷ 32 ∷ [])  -- ` at `
    ++ counted place (10 ∷ [])  -- the line's end

-- `too long`
abbrev pub too_long : List ℕ
too_long = 116 ∷ 111 ∷ 111 ∷ 32 ∷ 108 ∷ 111 ∷ 110 ∷ 103 ∷ 10 ∷ []
