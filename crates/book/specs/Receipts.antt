-- What the calls through a draft receipt answer.
use Rattle.std.specs.Prelude.{◌≡◌, ℕ, IfOk, IfErr, Ok, Err, Result}
use Rattle.model.specs.Answers.{Answer, refused, accepted, BookTold, edited, kept}
use Rattle.book.specs.declared.book.drafts.Kept.{Kept}
use Rattle.book.specs.declared.draft.Draft.{Draft}
use Rattle.book.specs.declared.fault.BookFault.{BookFault}
use Rattle.book.specs.Faults.{number}

-- an edit: how many slots were made, or the refusal
abbrev pub edit_answer : Result (Draft × ℕ) (Draft × BookFault) → Answer BookTold
edit_answer (Ok p) = accepted (edited p.1)
edit_answer (Err p) = refused (number p.1)

-- the next receipt, or the one that is handed back
abbrev pub receipt : Result (Draft × ℕ) (Draft × BookFault) → Draft
receipt (Ok p) = p.0
receipt (Err p) = p.0

-- a keep ends the receipt, unless it is refused
abbrev pub keep_answer : Result Kept (Draft × BookFault) → Answer BookTold
keep_answer (Ok k) = accepted (kept k.version k.made)
keep_answer (Err p) = refused (number p.1)

abbrev pub HandedBack : Draft → Result Kept (Draft × BookFault) → Type 0
HandedBack draft r = IfErr r (λ p. p.0 ≡ draft)

-- an opened draft's receipt holds the number of the version
abbrev pub Opened : (version : ℕ) → Result Draft BookFault → Type 0
Opened version r = IfOk r (λ draft. draft.version ≡ version)
