-- What a list of calls on a real book and its two sheets comes to: the machine's run, and the law of kept versions.
use Rattle.std.specs.Prelude.{◌≡◌, ℕ, List, [], ◌∷◌, map, length}
use Rattle.model.specs.Answers.{Answer, Told}
use Rattle.model.specs.Book.{Book}
use Rattle.model.specs.Calls as calls
use Rattle.model.specs.Law.{answers, Strings, Trees, Summaries}
use Rattle.model.specs.Runs.{State, step, new}
use Rattle.model.specs.Sheet.{Rule, Sheet}
use Rattle.replay.specs.declared.call.Answer as code
use Rattle.replay.specs.declared.call.Call.{Call}
use Rattle.replay.specs.declared.call.Which.{Which}
use Rattle.replay.specs.declared.call.Which.TheVariants.{First, Second}
use Rattle.replay.specs.Calls.{call_of, shelf_of, first_answer, second_answer}
use Rattle.replay.specs.Handed.{Handed, run_handed}

-- the first of two, or the second
abbrev pub pick : {A : Type 0} → A → A → Which → A
pick x y First = x
pick x y Second = y

-- a book with the one sheet that a run is told for
abbrev pub state : {V : Type 0} → Book → Sheet V → State V
state b s = record { book = b; sheets = s ∷ [] }

-- `patterns` are the bytes that finds take their patterns from, and `texts` are those on the two shelves
module _ (patterns : List ℕ) (texts : Which → List (List ℕ)) where
  abbrev pub told_call : (mine : Which) → Call → calls.Call
  told_call mine call = call_of patterns (λ w. map length (texts w)) mine call

  abbrev pub handed : (mine : Which) → Call → Handed
  handed mine call = record { texts = texts (shelf_of call); call = told_call mine call }

  -- one call, told for each of the two sheets: its answer, and what it leaves
  pub record Performs {P Q : Type 0} (p : Rule P) (q : Rule Q) (b b' : Book) (s s' : Sheet P) (t t' : Sheet Q) (call : Call) (answer : code.Answer P Q) : Type 0 where
    pub first : step (texts (shelf_of call)) p (state b s) (told_call First call) ≡ (first_answer answer, state b' s')
    pub second : step (texts (shelf_of call)) q (state b t) (told_call Second call) ≡ (second_answer answer, state b' t')

  -- a list of calls, told for each of the two sheets: the answers, and what the calls leave
  pub record Runs {P Q : Type 0} (p : Rule P) (q : Rule Q) (b b' : Book) (s s' : Sheet P) (t t' : Sheet Q) (calls : List Call) (answers : List (code.Answer P Q)) : Type 0 where
    pub first : run_handed p (state b s) (map (handed First) calls) ≡ (map first_answer answers, state b' s')
    pub second : run_handed q (state b t) (map (handed Second) calls) ≡ (map second_answer answers, state b' t')

-- The law of kept versions for a run on a new book, which has `records` node records, and on a new sheet with a list of values:
-- the answers are the machine's, and what holds of the run by strings, by trees and by summaries.
pub record Lawful {V : Type 0} (texts : List (List ℕ)) (rule : Rule V) (records : ℕ) (values : List V) (calls : List calls.Call) (told : List (Answer (Told V))) : Type 0 where
  pub ran : told ≡ answers texts rule records (values ∷ []) calls
  pub strings : Strings texts rule records (values ∷ []) calls
  pub trees : Trees texts rule records (values ∷ []) calls
  pub summaries : Summaries texts rule records (values ∷ []) calls

-- The answers to calls on a new book and two new sheets of two rules. The book is opened on the first shelf.
pub record Replayed {P Q : Type 0} (patterns : List ℕ) (texts : Which → List (List ℕ)) (p : Rule P) (q : Rule Q) (records : ℕ) (xs : List P) (ys : List Q)
    (calls : List Call) (told : List (code.Answer P Q)) : Type 0 where
  -- they are those of the machine, told for each of the two sheets
  pub first : map first_answer told ≡ (run_handed p (new (texts First) records (xs ∷ [])) (map (handed patterns texts First) calls)).0
  pub second : map second_answer told ≡ (run_handed q (new (texts First) records (ys ∷ [])) (map (handed patterns texts Second) calls)).0
  -- where both shelves hold the texts that the book was opened on, the law holds for both rules
  pub first_law : texts Second ≡ texts First → Lawful (texts First) p records xs (map (told_call patterns texts First) calls) (map first_answer told)
  pub second_law : texts Second ≡ texts First → Lawful (texts First) q records ys (map (told_call patterns texts Second) calls) (map second_answer told)
