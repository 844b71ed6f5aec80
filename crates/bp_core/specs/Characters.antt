-- Characters by name, as their Unicode numbers. Those below 80 hex are one byte in UTF-8 (RFC 3629,
-- section 3).
use Rattle.std.specs.Prelude.{ℕ, List, [], ◌∷◌}

-- the end of a line, U+000A
-- by ASCII; RFC 3629, section 3
abbrev pub newline : ℕ
newline = 10

-- the end of a page of text, U+000C
-- by ASCII; RFC 3629, section 3
abbrev pub form_feed : ℕ
form_feed = 12

-- U+000D
-- by ASCII; RFC 3629, section 3
abbrev pub carriage_return : ℕ
carriage_return = 13

-- U+0020
-- by ASCII; RFC 3629, section 3
abbrev pub space : ℕ
space = 32

-- U+002C
-- by ASCII; RFC 3629, section 3
abbrev pub comma : ℕ
comma = 44

-- U+002D
-- by ASCII; RFC 3629, section 3
abbrev pub hyphen : ℕ
hyphen = 45

-- U+002E
-- by ASCII; RFC 3629, section 3
abbrev pub full_stop : ℕ
full_stop = 46

-- U+002F
-- by ASCII; RFC 3629, section 3
abbrev pub solidus : ℕ
solidus = 47

-- U+0030
-- by ASCII; RFC 3629, section 3
abbrev pub digit_zero : ℕ
digit_zero = 48

-- U+0039
-- by ASCII; RFC 3629, section 3
abbrev pub digit_nine : ℕ
digit_nine = 57

-- U+003A
-- by ASCII; RFC 3629, section 3
abbrev pub colon : ℕ
colon = 58

-- U+0041
-- by ASCII; RFC 3629, section 3
abbrev pub letter_a : ℕ
letter_a = 65

-- U+005A
-- by ASCII; RFC 3629, section 3
abbrev pub letter_z : ℕ
letter_z = 90

-- U+005C
-- by ASCII; RFC 3629, section 3
abbrev pub reverse_solidus : ℕ
reverse_solidus = 92

-- U+005F
-- by ASCII; RFC 3629, section 3
abbrev pub low_line : ℕ
low_line = 95

-- the end of a line in the files that are written
-- by ASCII; RFC 3629, section 3
abbrev pub line_end : List ℕ
line_end = carriage_return ∷ newline ∷ []

-- the three characters of a DAT file (Concordance): the quote, what stands between two values, and
-- the sign for a newline
abbrev pub quote : ℕ
quote = 0xFE

-- between two values of a line of a DAT file, byte 14 hex
abbrev pub separator : ℕ
separator = 0x14

-- for a newline within a value of a DAT file, U+00AE
abbrev pub newline_sign : ℕ
newline_sign = 0xAE
