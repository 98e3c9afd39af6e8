-- What the calls of the code answer, and what they do with the output buffer.
use Rattle.std.specs.Prelude.{◌≡◌, ℕ, ◌≤◌, List, length, take, drop, Ok, Err, Result, MatchResult}
use Rattle.shelf.specs.declared.rows.Row.{Row}
use Rattle.book.specs.declared.fault.BookFault.{BookFault}
use Rattle.sheet.specs.declared.fault.SheetFault.{SheetFault}
use Rattle.sheet.specs.Faults.{of_book, sheet_row}
use Rattle.runner.specs.declared.output.Output.{Output}

-- bytes were written at the beginning of the same buffer, `n` of them, and those behind them stay
pub record Prints (bytes : List ℕ) (before after : Output) (n : ℕ) : Type 0 where
  pub fits : n ≤ length before.out.now
  pub front : take n after.out.now ≡ bytes
  pub behind : drop n after.out.now ≡ drop n before.out.now
  pub same : after.out.ghost_name ≡ before.out.ghost_name

-- the bytes that a call wrote, or the row that refuses it
abbrev pub wrote : {F G : Type 0} → (F → G) → Result ℕ F → (out' : List ℕ) → Result (List ℕ) G
wrote row (Ok n) out' = Ok (take n out')
wrote row (Err fault) out' = Err (row fault)

-- the bytes behind those that were written stay, and on a refusal the whole buffer does: `out` is the buffer before, `out'` after
abbrev pub RestStays : {F : Type 0} → Result ℕ F → (out out' : List ℕ) → Type 0
RestStays r out out' = MatchResult r (λ n. (n ≤ length out) × (drop n out' ≡ drop n out)) (λ _. out' ≡ out)

-- nothing is written for what is told
abbrev pub quieted : {A : Type 0} → Result A BookFault → Result ℕ SheetFault
quieted (Ok told) = Ok 0
quieted (Err fault) = Err (of_book fault)

-- A call wrote the bytes that `told` says, or was refused by its row, and what it leaves, `left`, is as `told` says;
-- the rest of the buffer stays, and it is the same buffer.
pub record Answered {S : Type 0} (told : Result (List ℕ) Row × S) (left : S) (r : Result ℕ SheetFault) (before after : Output) : Type 0 where
  pub step : told ≡ (wrote sheet_row r after.out.now, left)
  pub rest : RestStays r before.out.now after.out.now
  pub same : after.out.ghost_name ≡ before.out.ghost_name
