-- What calls answer.
use Rattle.std.specs.Prelude.{ℕ, cond, ◌||◌, List, Some, None, Option, ◌==◌, nat_lt}

-- A call is refused by a row of the table of refusals, or it is accepted and tells something.
pub data Answer (A : Type 0) : Type 0 where
  refused : (row : ℕ) → Answer A
  accepted : A → Answer A

-- What an accepted call on the book tells: an edit the slots that it made, keep the number of the version and the slots made since
-- its draft was opened, read the bytes, find a place or none, shape the bytes, the height and the pieces of the version.
pub data BookTold : Type 0 where
  opened : BookTold
  edited : (made : ℕ) → BookTold
  kept : (number made : ℕ) → BookTold
  tossed : BookTold
  bytes : List ℕ → BookTold
  found : Option ℕ → BookTold
  shaped : (bytes height pieces : ℕ) → BookTold

-- Bring-up tells how many slots it added, summary a value.
pub data SheetTold (V : Type 0) : Type 0 where
  added : (slots : ℕ) → SheetTold V
  value : V → SheetTold V

pub data Told (V : Type 0) : Type 0 where
  by_book : BookTold → Told V
  by_sheet : SheetTold V → Told V
  elsewhere : Told V

-- the row that refuses the call, if one does
abbrev pub row_of : {A : Type 0} → Answer A → Option ℕ
row_of (refused row) = Some row
row_of (accepted told) = None

-- a call that a row refuses changes nothing
abbrev pub unless : {A S : Type 0} → (row : Option ℕ) (before : S) (after : A × S) → Answer A × S
unless None before after = (accepted after.0, after.1)
unless (Some row) before after = (refused row, before)

-- What strings decide of that: the number of a kept version, bytes, a place or none, and a length.
pub data PlainTold : Type 0 where
  done : PlainTold
  kept : (number : ℕ) → PlainTold
  bytes : List ℕ → PlainTold
  found : Option ℕ → PlainTold
  long : ℕ → PlainTold

abbrev pub plain_book_told : BookTold → PlainTold
plain_book_told opened = done
plain_book_told (edited made) = done
plain_book_told (BookTold.kept number made) = PlainTold.kept number
plain_book_told tossed = done
plain_book_told (BookTold.bytes string) = PlainTold.bytes string
plain_book_told (BookTold.found place) = PlainTold.found place
plain_book_told (shaped n height pieces) = long n

abbrev pub plain_told : {V : Type 0} → Told V → PlainTold
plain_told (by_book told) = plain_book_told told
plain_told (by_sheet told) = done
plain_told elsewhere = done

-- the part of an answer that strings decide
abbrev pub plain_answer : {V : Type 0} → Answer (Told V) → Answer PlainTold
plain_answer (refused row) = refused row
plain_answer (accepted told) = accepted (plain_told told)

-- the rows that slots, sheets and shelves decide: 12, and those above 14
abbrev pub fed_row : Option ℕ → Option ℕ
fed_row None = None
fed_row (Some row) = cond (row == 12 || nat_lt 14 row) (Some row) None

-- what the plain book is fed of the real book's answer
abbrev pub fed : {A : Type 0} → Answer A → Option ℕ
fed answer = fed_row (row_of answer)
