-- The faults of a sheet: the row of each, what it is made from, and what a call answers.
use Rattle.std.specs.Prelude.{Ok, Err, Result}
use Rattle.shelf.specs.declared.rows.Layer.TheVariants as layers
use Rattle.shelf.specs.declared.rows.Row.{Row}
use Rattle.shelf.specs.declared.texts.CopyFault.{CopyFault}
use Rattle.model.specs.Answers.{Answer, refused, accepted, SheetTold}
use Rattle.book.specs.declared.fault.BookFault.{BookFault}
use Rattle.book.specs.Faults as books
use Rattle.book.specs.Faults.{book_row}
use Rattle.sheet.specs.declared.fault.SheetFault.{SheetFault}
use Rattle.sheet.specs.declared.fault.SheetFault.TheVariants.{Book, Uncovered, TooShort}

-- a row of the book keeps its number and its layer
abbrev pub sheet_row : SheetFault → Row
sheet_row (Book fault) = book_row fault
sheet_row Uncovered = record { number = 15; layer = layers.Sheet }
sheet_row TooShort = record { number = 16; layer = layers.Sheet }

abbrev pub of_book : BookFault → SheetFault
of_book fault = Book fault

abbrev pub of_copy : CopyFault → SheetFault
of_copy fault = Book (books.of_copy fault)

-- the answer of a call, by what it tells where it is accepted
abbrev pub answer : {A V : Type 0} → (A → SheetTold V) → Result A SheetFault → Answer (SheetTold V)
answer tell (Ok x) = accepted (tell x)
answer tell (Err fault) = refused (sheet_row fault).number
