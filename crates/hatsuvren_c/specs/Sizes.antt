-- How large the work room is: the elements of each slice, and the bytes of all.
-- Assumes nothing.
use Rattle.std.specs.Prelude.{ℕ, ◌+◌, ◌*◌}

abbrev pub counts_length : ℕ
counts_length = 1024

abbrev pub words_length : ℕ
words_length = 1056

abbrev pub mail_length : ℕ
mail_length = 4480

-- counts and mail have two bytes an element, words four
abbrev pub rooms_bytes : ℕ
rooms_bytes = 2 * counts_length + 4 * words_length + 2 * mail_length
