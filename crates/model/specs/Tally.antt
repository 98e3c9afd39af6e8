-- The slots that the answers of a run count.
use Rattle.std.specs.Prelude.{◌≡◌, ℕ, ◌+◌, List, [], ◌∷◌, length}
use Rattle.model.specs.Answers.{Answer, accepted, refused, BookTold, opened, edited, tossed, shaped, Told, by_book, by_sheet}
use Rattle.model.specs.Book.{Book, settled}

-- The slots that were made for kept versions, and those that the open draft has made.
pub record Tally : Type 0 where
  pub kept : ℕ
  pub drafted : ℕ

abbrev pub nothing : Tally
nothing = record { kept = 0; drafted = 0 }

-- an edit adds what it made; keep adds what it answers, which has to be all that the draft made; toss frees the draft's
abbrev pub tally_told : Tally → BookTold → Tally
tally_told n opened = n
tally_told n (edited made) = record { kept = n.kept; drafted = n.drafted + made }
tally_told n (BookTold.kept number made) = record { kept = n.kept + made; drafted = 0 }
tally_told n tossed = record { kept = n.kept; drafted = 0 }
tally_told n (BookTold.bytes string) = n
tally_told n (BookTold.found place) = n
tally_told n (shaped bytes height pieces) = n

abbrev pub tally : {V : Type 0} → Tally → List (Answer (Told V)) → Tally
tally n [] = n
tally n (refused row ∷ answers) = tally n answers
tally n (accepted (by_book told) ∷ answers) = tally (tally_told n told) answers
tally n (accepted (by_sheet told) ∷ answers) = tally n answers
tally n (accepted Told.elsewhere ∷ answers) = tally n answers

-- the slots in use are those counted, and the draft's come last
pub record Counted (n : Tally) (b : Book) : Type 0 where
  pub kept : settled b ≡ n.kept
  pub drafted : length b.slots ≡ n.kept + n.drafted
