-- 01's text, computed: the three lines of log A from the 47 bytes of its report, two reports that have no line, and two numbers.
-- Assumes nothing.
use mathlib.Core.Path.{◌≡◌, refl}
use mathlib.Core.List.{List, [], ◌∷◌}
use Prim.Native.Nat.{ℕ}
use Rattle.std.specs.Prelude.{Some, None, Ok, Err}
use Rattle.words.specs.Words.{digits, decimal}
use Rattle.reading.specs.Reading.{whole_at, stamp_here, count_at, past_count, stamp_place, stamp_at, causes_at, answer_at}
use Rattle.shape.specs.Shape.{in_range, entry_fits, stamp_fits, stamp_ends, causes_fit, mark_here, mark_fits, head_fits, stamp_kept, causes_kept, group_fits, past_group}
use Rattle.text.specs.Text.{name_text, stamp_text, causes_text, nearest_text, mark_part, stamp_part, from_part, line_of, written_line, line_at}

-- ---- numbers

nought : decimal 0 ≡ 48 ∷ []
unfolding decimal digits
nought = refl

many : decimal 4096 ≡ 52 ∷ 48 ∷ 57 ∷ 54 ∷ []
unfolding decimal digits
many = refl

-- ---- log A

-- its report, a group on each line: 0.1, 1.1 from 0.1, and 2.1 from 1.1 alone
abbrev pub report_a : List ℕ
report_a =
    0x21 ∷ 0 ∷ 1 ∷ 0 ∷ 0 ∷ 0x22 ∷ 0 ∷ 1 ∷ 0
    ∷ 0x21 ∷ 1 ∷ 1 ∷ 0 ∷ 1 ∷ 0x22 ∷ 0 ∷ 1 ∷ 0 ∷ 0x22 ∷ 1 ∷ 1 ∷ 0 ∷ 0x23 ∷ 0 ∷ 1 ∷ 0
    ∷ 0x21 ∷ 2 ∷ 1 ∷ 0 ∷ 1 ∷ 0x22 ∷ 0 ∷ 1 ∷ 0 ∷ 0x22 ∷ 1 ∷ 1 ∷ 0 ∷ 0x22 ∷ 2 ∷ 1 ∷ 0 ∷ 0x23 ∷ 1 ∷ 1 ∷ 0 ∷ []

-- `mark 0.1 stamp 1 0 0 from -`
first_text : List ℕ
first_text =
    109 ∷ 97 ∷ 114 ∷ 107 ∷ 32 ∷ 48 ∷ 46 ∷ 49
    ∷ 32 ∷ 115 ∷ 116 ∷ 97 ∷ 109 ∷ 112 ∷ 32 ∷ 49 ∷ 32 ∷ 48 ∷ 32 ∷ 48
    ∷ 32 ∷ 102 ∷ 114 ∷ 111 ∷ 109 ∷ 32 ∷ 45 ∷ 10 ∷ []

first_line : line_at 3 report_a 0 [] ≡ (Ok (Some (record { size = 28; past = 9 })), first_text)
unfolding first_text line_at written_line group_fits head_fits mark_fits mark_here stamp_kept causes_kept causes_fit stamp_fits stamp_ends entry_fits in_range past_group answer_at whole_at stamp_here count_at past_count stamp_place stamp_at causes_at line_of mark_part stamp_part from_part name_text stamp_text causes_text nearest_text decimal digits
first_line = refl

-- `mark 1.1 stamp 1 1 0 from 0.1`
second_text : List ℕ
second_text =
    109 ∷ 97 ∷ 114 ∷ 107 ∷ 32 ∷ 49 ∷ 46 ∷ 49
    ∷ 32 ∷ 115 ∷ 116 ∷ 97 ∷ 109 ∷ 112 ∷ 32 ∷ 49 ∷ 32 ∷ 49 ∷ 32 ∷ 48
    ∷ 32 ∷ 102 ∷ 114 ∷ 111 ∷ 109 ∷ 32 ∷ 48 ∷ 46 ∷ 49 ∷ 10 ∷ []

second_line : line_at 3 report_a 9 [] ≡ (Ok (Some (record { size = 30; past = 26 })), second_text)
unfolding second_text line_at written_line group_fits head_fits mark_fits mark_here stamp_kept causes_kept causes_fit stamp_fits stamp_ends entry_fits in_range past_group answer_at whole_at stamp_here count_at past_count stamp_place stamp_at causes_at line_of mark_part stamp_part from_part name_text stamp_text causes_text nearest_text decimal digits
second_line = refl

-- `mark 2.1 stamp 1 1 1 from 1.1`
third_text : List ℕ
third_text =
    109 ∷ 97 ∷ 114 ∷ 107 ∷ 32 ∷ 50 ∷ 46 ∷ 49
    ∷ 32 ∷ 115 ∷ 116 ∷ 97 ∷ 109 ∷ 112 ∷ 32 ∷ 49 ∷ 32 ∷ 49 ∷ 32 ∷ 49
    ∷ 32 ∷ 102 ∷ 114 ∷ 111 ∷ 109 ∷ 32 ∷ 49 ∷ 46 ∷ 49 ∷ 10 ∷ []

third_line : line_at 3 report_a 26 [] ≡ (Ok (Some (record { size = 30; past = 47 })), third_text)
unfolding third_text line_at written_line group_fits head_fits mark_fits mark_here stamp_kept causes_kept causes_fit stamp_fits stamp_ends entry_fits in_range past_group answer_at whole_at stamp_here count_at past_count stamp_place stamp_at causes_at line_of mark_part stamp_part from_part name_text stamp_text causes_text nearest_text decimal digits
third_line = refl

report_ends : line_at 3 report_a 47 [] ≡ (Ok None, [])
unfolding line_at
report_ends = refl

-- ---- no line

-- a group that is cut short
cut_short : line_at 3 (0x21 ∷ 0 ∷ 1 ∷ 0 ∷ 1 ∷ 0x22 ∷ 0 ∷ 1 ∷ 0 ∷ 0x23 ∷ 0 ∷ 1 ∷ []) 0 [] ≡ (Err (record {}), [])
unfolding line_at group_fits head_fits mark_fits mark_here stamp_kept causes_kept causes_fit stamp_fits stamp_ends entry_fits in_range whole_at stamp_here count_at past_count stamp_place stamp_at
cut_short = refl

-- one without the mark's own count
unstamped : line_at 3 (0x21 ∷ 0 ∷ 1 ∷ 0 ∷ 0 ∷ []) 0 [] ≡ (Err (record {}), [])
unfolding line_at group_fits head_fits mark_fits mark_here stamp_kept causes_kept causes_fit stamp_fits stamp_ends in_range whole_at stamp_here count_at past_count stamp_place stamp_at
unstamped = refl
