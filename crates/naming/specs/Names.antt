-- The name of each number, as text for C: the codes of its letters, then a zero (01, "Refusal numbers").
-- Assumes nothing.
use Rattle.std.specs.Prelude.{◌≡◌, cond, List, [], ◌∷◌, ◌++◌, ℕ, eqb, length, get_or}
use Rattle.groups.specs.Groups.{written}

-- the names of 0 to 16, in their order
abbrev pub names : List (List ℕ)
names =
    (97 ∷ 99 ∷ 99 ∷ 101 ∷ 112 ∷ 116 ∷ 101 ∷ 100 ∷ [])  -- `accepted`
    ∷ (119 ∷ 111 ∷ 114 ∷ 107 ∷ 32 ∷ 114 ∷ 111 ∷ 111 ∷ 109 ∷ 32 ∷ 116 ∷ 111 ∷ 111 ∷ 32 ∷ 115 ∷ 109 ∷ 97 ∷ 108 ∷ 108 ∷ [])  -- `work room too small`
    ∷ (110 ∷ 111 ∷ 32 ∷ 119 ∷ 104 ∷ 111 ∷ 108 ∷ 101 ∷ 32 ∷ 48 ∷ 120 ∷ 49 ∷ 48 ∷ 32 ∷ 114 ∷ 101 ∷ 99 ∷ 111 ∷ 114 ∷ 100 ∷ 32 ∷ 97 ∷ 116 ∷ 32 ∷ 116 ∷ 104 ∷ 101 ∷ 32 ∷ 115 ∷ 116 ∷ 97 ∷ 114 ∷ 116 ∷ [])  -- `no whole 0x10 record at the start`
    ∷ (110 ∷ 111 ∷ 100 ∷ 101 ∷ 32 ∷ 99 ∷ 111 ∷ 117 ∷ 110 ∷ 116 ∷ 32 ∷ 48 ∷ 32 ∷ 111 ∷ 114 ∷ 32 ∷ 97 ∷ 98 ∷ 111 ∷ 118 ∷ 101 ∷ 32 ∷ 51 ∷ 50 ∷ [])  -- `node count 0 or above 32`
    ∷ (117 ∷ 110 ∷ 107 ∷ 110 ∷ 111 ∷ 119 ∷ 110 ∷ 32 ∷ 107 ∷ 105 ∷ 110 ∷ 100 ∷ 44 ∷ 32 ∷ 111 ∷ 114 ∷ 32 ∷ 97 ∷ 32 ∷ 108 ∷ 97 ∷ 116 ∷ 101 ∷ 114 ∷ 32 ∷ 48 ∷ 120 ∷ 49 ∷ 48 ∷ [])  -- `unknown kind, or a later 0x10`
    ∷ (114 ∷ 101 ∷ 99 ∷ 111 ∷ 114 ∷ 100 ∷ 32 ∷ 99 ∷ 117 ∷ 116 ∷ 32 ∷ 115 ∷ 104 ∷ 111 ∷ 114 ∷ 116 ∷ [])  -- `record cut short`
    ∷ (110 ∷ 111 ∷ 100 ∷ 101 ∷ 32 ∷ 111 ∷ 114 ∷ 32 ∷ 100 ∷ 101 ∷ 115 ∷ 116 ∷ 105 ∷ 110 ∷ 97 ∷ 116 ∷ 105 ∷ 111 ∷ 110 ∷ 32 ∷ 110 ∷ 111 ∷ 116 ∷ 32 ∷ 98 ∷ 101 ∷ 108 ∷ 111 ∷ 119 ∷ 32 ∷ 116 ∷ 104 ∷ 101 ∷ 32 ∷ 110 ∷ 111 ∷ 100 ∷ 101 ∷ 32 ∷ 99 ∷ 111 ∷ 117 ∷ 110 ∷ 116 ∷ [])  -- `node or destination not below the node count`
    ∷ (100 ∷ 101 ∷ 115 ∷ 116 ∷ 105 ∷ 110 ∷ 97 ∷ 116 ∷ 105 ∷ 111 ∷ 110 ∷ 32 ∷ 101 ∷ 113 ∷ 117 ∷ 97 ∷ 108 ∷ 115 ∷ 32 ∷ 115 ∷ 101 ∷ 110 ∷ 100 ∷ 101 ∷ 114 ∷ [])  -- `destination equals sender`
    ∷ (109 ∷ 101 ∷ 115 ∷ 115 ∷ 97 ∷ 103 ∷ 101 ∷ 32 ∷ 110 ∷ 117 ∷ 109 ∷ 98 ∷ 101 ∷ 114 ∷ 32 ∷ 105 ∷ 110 ∷ 32 ∷ 102 ∷ 108 ∷ 105 ∷ 103 ∷ 104 ∷ 116 ∷ 32 ∷ 97 ∷ 108 ∷ 114 ∷ 101 ∷ 97 ∷ 100 ∷ 121 ∷ [])  -- `message number in flight already`
    ∷ (49 ∷ 50 ∷ 56 ∷ 32 ∷ 109 ∷ 101 ∷ 115 ∷ 115 ∷ 97 ∷ 103 ∷ 101 ∷ 115 ∷ 32 ∷ 105 ∷ 110 ∷ 32 ∷ 102 ∷ 108 ∷ 105 ∷ 103 ∷ 104 ∷ 116 ∷ 32 ∷ 97 ∷ 108 ∷ 114 ∷ 101 ∷ 97 ∷ 100 ∷ 121 ∷ [])  -- `128 messages in flight already`
    ∷ (114 ∷ 101 ∷ 99 ∷ 101 ∷ 105 ∷ 112 ∷ 116 ∷ 32 ∷ 111 ∷ 102 ∷ 32 ∷ 97 ∷ 32 ∷ 110 ∷ 117 ∷ 109 ∷ 98 ∷ 101 ∷ 114 ∷ 32 ∷ 110 ∷ 111 ∷ 116 ∷ 32 ∷ 105 ∷ 110 ∷ 32 ∷ 102 ∷ 108 ∷ 105 ∷ 103 ∷ 104 ∷ 116 ∷ [])  -- `receipt of a number not in flight`
    ∷ (109 ∷ 101 ∷ 115 ∷ 115 ∷ 97 ∷ 103 ∷ 101 ∷ 32 ∷ 105 ∷ 110 ∷ 32 ∷ 102 ∷ 108 ∷ 105 ∷ 103 ∷ 104 ∷ 116 ∷ 32 ∷ 116 ∷ 111 ∷ 32 ∷ 97 ∷ 110 ∷ 111 ∷ 116 ∷ 104 ∷ 101 ∷ 114 ∷ 32 ∷ 110 ∷ 111 ∷ 100 ∷ 101 ∷ [])  -- `message in flight to another node`
    ∷ (97 ∷ 32 ∷ 52 ∷ 44 ∷ 48 ∷ 57 ∷ 55 ∷ 116 ∷ 104 ∷ 32 ∷ 101 ∷ 118 ∷ 101 ∷ 110 ∷ 116 ∷ [])  -- `a 4,097th event`
    ∷ (114 ∷ 101 ∷ 112 ∷ 111 ∷ 114 ∷ 116 ∷ 32 ∷ 114 ∷ 111 ∷ 111 ∷ 109 ∷ 32 ∷ 116 ∷ 111 ∷ 111 ∷ 32 ∷ 115 ∷ 109 ∷ 97 ∷ 108 ∷ 108 ∷ [])  -- `report room too small`
    ∷ (114 ∷ 101 ∷ 112 ∷ 111 ∷ 114 ∷ 116 ∷ 32 ∷ 110 ∷ 111 ∷ 116 ∷ 32 ∷ 119 ∷ 101 ∷ 108 ∷ 108 ∷ 32 ∷ 102 ∷ 111 ∷ 114 ∷ 109 ∷ 101 ∷ 100 ∷ [])  -- `report not well formed`
    ∷ (102 ∷ 105 ∷ 114 ∷ 115 ∷ 116 ∷ 32 ∷ 109 ∷ 97 ∷ 114 ∷ 107 ∷ 32 ∷ 97 ∷ 98 ∷ 115 ∷ 101 ∷ 110 ∷ 116 ∷ [])  -- `first mark absent`
    ∷ (115 ∷ 101 ∷ 99 ∷ 111 ∷ 110 ∷ 100 ∷ 32 ∷ 109 ∷ 97 ∷ 114 ∷ 107 ∷ 32 ∷ 97 ∷ 98 ∷ 115 ∷ 101 ∷ 110 ∷ 116 ∷ [])  -- `second mark absent`
    ∷ []

-- `unknown mode`
abbrev pub unknown_mode : List ℕ
unknown_mode = 117 ∷ 110 ∷ 107 ∷ 110 ∷ 111 ∷ 119 ∷ 110 ∷ 32 ∷ 109 ∷ 111 ∷ 100 ∷ 101 ∷ []

-- the name of a number; a number that has none has no letters
unfoldable pub name_of : ℕ → List ℕ
name_of number = cond (eqb number 255) unknown_mode (get_or names number [])

-- the name and the zero behind it are written to the front of a text that has space for both; another is as it was
pub record Named (name text text' : List ℕ) (letters : ℕ) : Type 0 where
  pub letters_are : letters ≡ length name
  pub text_is : text' ≡ written 0 (name ++ (0 ∷ [])) text
