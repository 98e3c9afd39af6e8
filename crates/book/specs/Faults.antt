-- The faults of a book: the row of each, what it is made from, and what a call answers.
use Rattle.std.specs.Prelude.{ℕ, Ok, Err, Result}
use Rattle.shelf.specs.declared.rows.Layer.TheVariants.{Book}
use Rattle.shelf.specs.declared.rows.Row.{Row}
use Rattle.shelf.specs.declared.texts.CopyFault.{CopyFault}
use Rattle.shelf.specs.declared.texts.CopyFault.TheVariants as copy
use Rattle.model.specs.Answers.{Answer, refused, accepted, BookTold}
use Rattle.book.specs.declared.fault.BookFault.{BookFault}
use Rattle.book.specs.declared.fault.BookFault.TheVariants.{NotKept, DraftOpen, NoDraft, NoText, PastEnd, EmptyPiece, TooLong, NoRoom, AllKept, BadPattern, OtherTexts}
use Rattle.book.specs.declared.node.NoRoom as node

abbrev pub number : BookFault → ℕ
number NotKept = 5
number DraftOpen = 6
number NoDraft = 7
number NoText = 8
number PastEnd = 9
number EmptyPiece = 10
number TooLong = 11
number NoRoom = 12
number AllKept = 13
number BadPattern = 14
number OtherTexts = 17

-- each is printed as of the book
abbrev pub book_row : BookFault → Row
book_row fault = record { number = number fault; layer = Book }

abbrev pub of_copy : CopyFault → BookFault
of_copy copy.NoText = NoText
of_copy copy.PastEnd = PastEnd

abbrev pub of_room : node.NoRoom → BookFault
of_room fault = NoRoom

-- the answer of a call, by what it tells where it is accepted
abbrev pub answer : {A : Type 0} → (A → BookTold) → Result A BookFault → Answer BookTold
answer tell (Ok x) = accepted (tell x)
answer tell (Err fault) = refused (number fault)
