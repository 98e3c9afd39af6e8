-- The shapes of a token: a word, a number, a quoted text.
use Rattle.std.specs.Prelude.{ℕ, ◌+◌, ◌-◌, ◌*◌, Bool, not, ◌&&◌, List, [], ◌∷◌, length, ◌==◌, nat_le, slice_index}
use Rattle.std.specs.List.{list_all}
use Rattle.shelf.specs.Texts.{stretch}
use Rattle.script.specs.Tokens.{quote}

-- the bytes of words, of numbers and of quoted texts: a to z, 0 to 9, and 0x20 to 0x7E without the quote
abbrev pub letter : ℕ → Bool
letter byte = nat_le 97 byte && nat_le byte 122

abbrev pub digit : ℕ → Bool
digit byte = nat_le 48 byte && nat_le byte 57

abbrev pub plain : ℕ → Bool
plain byte = nat_le 0x20 byte && nat_le byte 0x7E && not (byte == quote)

abbrev pub all_of : (ℕ → Bool) → List ℕ → Bool
all_of class bytes = list_all class bytes

-- there are `low` to `high` bytes
abbrev pub counted : (low high : ℕ) → List ℕ → Bool
counted low high bytes = nat_le low (length bytes) && nat_le (length bytes) high

-- 1 to 8 lowercase letters
abbrev pub word : List ℕ → Bool
word bytes = counted 1 8 bytes && all_of letter bytes

-- 1 to 10 digits
abbrev pub number : List ℕ → Bool
number bytes = counted 1 10 bytes && all_of digit bytes

-- what stands between the first and the last byte
abbrev pub inner : List ℕ → List ℕ
inner bytes = stretch 1 (length bytes - 2) bytes

-- 1 to 256 plain bytes between two quotes
abbrev pub quoted : List ℕ → Bool
quoted bytes =
    counted 3 258 bytes && slice_index bytes 0 == quote && slice_index bytes (length bytes - 1) == quote && all_of plain (inner bytes)

-- the number that digits write behind those of the number n
abbrev pub value : (n : ℕ) → List ℕ → ℕ
value n [] = n
value n (digit ∷ digits) = value (n * 10 + (digit - 48)) digits
