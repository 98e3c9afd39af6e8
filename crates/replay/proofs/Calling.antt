-- A call that is known by its variant, and an answer that is made of what the call gave.
use Rattle.std.specs.Result.{result_and}
use Rattle.std.proofs.Common.{◌≡◌, ℕ, List, Ok, Err, Result, MatchResult, IsOkAnd, sym, ap, ◌∙◌}
use Rattle.model.specs.Answers.{accepted}
use Rattle.model.specs.Book.{Book, book_step}
use Rattle.model.specs.Calls.{BookCall}
use Rattle.book.specs.Faults.{answer}
use Rattle.book.specs.declared.fault.BookFault.{BookFault}
use Rattle.replay.specs.declared.call.BookTold.{BookTold}
use Rattle.replay.specs.Calls.{book_told, book_answer}

-- what `map` makes of it
pub mapped : {A : Type 0} (tell : A → BookTold) (given : Result A BookFault) (told : Result BookTold BookFault) →
    MatchResult given (λ x. IsOkAnd told (λ t. t ≡ tell x)) (λ fault. told ≡ Err fault) → answer (λ x. book_told (tell x)) given ≡ book_answer told
mapped tell (Ok x) (Ok t) e = ap (λ t. accepted (book_told t)) (sym e)
mapped tell (Ok x) (Err fault) e = absurd e
mapped tell (Err fault) told e = ap book_answer (sym e)

-- what `and` makes of it
pub followed : {A : Type 0} (last : BookTold) (given : Result A BookFault) (told : Result BookTold BookFault) →
    told ≡ result_and given (Ok last) → answer (λ x. book_told last) given ≡ book_answer told
followed last (Ok x) told e = ap book_answer (sym e)
followed last (Err fault) told e = ap book_answer (sym e)

-- `to` says which call of the machine a call stands for
pub called : {C A : Type 0} (texts : List (List ℕ)) (before after : Book) (to : C → BookCall) {call here : C}
    (tell : A → BookTold) (given : Result A BookFault) (told : Result BookTold BookFault) → call ≡ here →
    answer (λ x. book_told (tell x)) given ≡ book_answer told → book_step texts before (to here) ≡ (answer (λ x. book_told (tell x)) given, after) →
    book_step texts before (to call) ≡ (book_answer told, after)
called texts before after to tell given told e f g = ap (λ c. book_step texts before (to c)) e ∙ g ∙ ap (λ a. (a, after)) f
