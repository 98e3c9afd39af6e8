-- What the calls and answers of the code stand for among those of the machine.
use Rattle.std.specs.Prelude.{ℕ, List, vec_items, Result}
use Rattle.shelf.specs.Texts.{stretch}
use Rattle.model.specs.Calls.{Edit, BookCall, open_version, edit}
use Rattle.model.specs.Calls as calls
use Rattle.model.specs.Answers.{Answer, accepted, BookTold}
use Rattle.model.specs.Answers.{SheetTold, Told, by_book, by_sheet}
use Rattle.model.specs.Runs.{mapped_answer}
use Rattle.ask.specs.Told.{shape_told}
use Rattle.book.specs.Faults as book
use Rattle.book.specs.declared.fault.BookFault.{BookFault}
use Rattle.sheet.specs.Faults as sheet
use Rattle.sheet.specs.declared.fault.SheetFault.{SheetFault}
use Rattle.replay.specs.declared.call.Answer as code
use Rattle.replay.specs.declared.call.Call.{Call}
use Rattle.replay.specs.declared.call.BookTold as books
use Rattle.replay.specs.declared.call.SheetTold as sheets
use Rattle.replay.specs.declared.call.Which.{Which}
use Rattle.replay.specs.declared.call.Which.TheVariants.{First, Second}
use Rattle.replay.specs.declared.call.Change.{Change}
use Rattle.replay.specs.declared.call.Question.{Question}
use Rattle.replay.specs.declared.call.SheetCall.{SheetCall}

abbrev pub change_call : Change → BookCall
change_call (Change.Open version) = open_version version
change_call (Change.PutPiece place text from len) = edit (calls.put_piece place text from len)
change_call (Change.PutVersion place version) = edit (calls.put_version place version)
change_call (Change.Cut from len) = edit (calls.cut from len)
change_call (Change.Crop from len) = edit (calls.crop from len)
change_call Change.Keep = calls.keep
change_call Change.Toss = calls.toss

-- `patterns` are the bytes that are handed with the calls, and `shown` are the lengths of the texts on the shelf
abbrev pub question_call : (patterns shown : List ℕ) → Question → BookCall
question_call patterns shown (Question.Read version from len) = calls.read version from len shown
question_call patterns shown (Question.Find version from start count) = calls.find version from (stretch start count patterns) shown
question_call patterns shown (Question.Shape version) = calls.shape version

abbrev pub sheet_call : (shown : List ℕ) → SheetCall → calls.SheetCall
sheet_call shown SheetCall.BringUp = calls.bring_up shown
sheet_call shown (SheetCall.Summary version from len) = calls.summary version from len shown

abbrev pub book_told : books.BookTold → BookTold
book_told books.BookTold.Opened = BookTold.opened
book_told (books.BookTold.Edited made) = BookTold.edited made
book_told (books.BookTold.Kept kept) = BookTold.kept kept.version kept.made
book_told books.BookTold.Tossed = BookTold.tossed
book_told (books.BookTold.Bytes bytes) = BookTold.bytes (vec_items bytes)
book_told (books.BookTold.Found place) = BookTold.found place
book_told (books.BookTold.Shaped shape) = shape_told shape

abbrev pub sheet_told : {V : Type 0} → sheets.SheetTold V → SheetTold V
sheet_told (sheets.SheetTold.Added slots) = SheetTold.added slots
sheet_told (sheets.SheetTold.Value x) = SheetTold.value x

abbrev pub book_answer : Result books.BookTold BookFault → Answer BookTold
book_answer res = book.answer book_told res

abbrev pub sheet_answer : {V : Type 0} → Result (sheets.SheetTold V) SheetFault → Answer (SheetTold V)
sheet_answer res = sheet.answer sheet_told res

-- A run is told once for each of the two sheets, for they serve two rules: `mine` is the sheet that it is told for.

-- a call on a sheet is one on sheet 0 of the rule in question, or one elsewhere
abbrev pub asked : (mine sheet : Which) → calls.SheetCall → calls.Call
asked First First c = calls.on_sheet 0 c
asked First Second c = calls.elsewhere
asked Second First c = calls.elsewhere
asked Second Second c = calls.on_sheet 0 c

-- `shown` has the lengths of the texts on each shelf
abbrev pub call_of : (patterns : List ℕ) (shown : Which → List ℕ) (mine : Which) → Call → calls.Call
call_of patterns shown mine (Call.Book change) = calls.on_book (change_call change)
call_of patterns shown mine (Call.Ask shelf question) = calls.on_book (question_call patterns (shown shelf) question)
call_of patterns shown mine (Call.Sheet sheet shelf call) = asked mine sheet (sheet_call (shown shelf) call)

-- the shelf that a call is handed; one that needs none counts as handed the first
abbrev pub shelf_of : Call → Which
shelf_of (Call.Book change) = First
shelf_of (Call.Ask shelf question) = shelf
shelf_of (Call.Sheet sheet shelf call) = shelf

-- what a call answers, told for the first sheet and for the second
abbrev pub first_answer : {P Q : Type 0} → code.Answer P Q → Answer (Told P)
first_answer (code.Answer.Book a) = mapped_answer by_book (book_answer a)
first_answer (code.Answer.First a) = mapped_answer by_sheet (sheet_answer a)
first_answer (code.Answer.Second a) = accepted Told.elsewhere

abbrev pub second_answer : {P Q : Type 0} → code.Answer P Q → Answer (Told Q)
second_answer (code.Answer.Book a) = mapped_answer by_book (book_answer a)
second_answer (code.Answer.First a) = accepted Told.elsewhere
second_answer (code.Answer.Second a) = mapped_answer by_sheet (sheet_answer a)
