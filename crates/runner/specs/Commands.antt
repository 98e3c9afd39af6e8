-- What a command does: the call that it asks for, what is printed of the answer, and what is left.
use Rattle.std.specs.Prelude.{ℕ, List, map, length, Result}
use Rattle.shelf.specs.declared.rows.Row.{Row}
use Rattle.rule.specs.declared.brackets.Unmatched.{Unmatched}
use Rattle.rule.specs.Brackets.{unmatched, joined_unmatched}
use Rattle.rule.specs.Lines.{line_ends}
use Rattle.rule.specs.Rule.{saturating_sum}
use Rattle.model.specs.Answers.{Answer, refused, accepted, BookTold}
use Rattle.model.specs.Book.{Book, book_step}
use Rattle.model.specs.Calls.{BookCall, SheetCall, keep, bring_up}
use Rattle.model.specs.Sheet.{Rule, Sheet, sheet_step}
use Rattle.sheet.specs.Reading.{rule_of}
use Rattle.script.specs.declared.answer.Answer as answer
use Rattle.script.specs.declared.command.Command.{Command}
use Rattle.script.specs.Names.{with_name}
use Rattle.runner.specs.Requests.{Request, of_book, of_lines, of_pairs, keep_as, request}
use Rattle.runner.specs.Said.{book_said, sheet_said, lines_answer, pairs_answer, outcome}
use Rattle.runner.specs.State.{State}

-- the rules that the two sheets serve
abbrev pub lines_rule : Rule ℕ
lines_rule = rule_of line_ends saturating_sum

abbrev pub pairs_rule : Rule Unmatched
pairs_rule = rule_of unmatched joined_unmatched

module _ (texts : List (List ℕ)) where
  -- a sheet that is brought up, or as it was where that is refused
  abbrev pub brought_up : {V : Type 0} → Rule V → Book → Sheet V → Sheet V
  brought_up rule book sheet = (sheet_step texts rule book sheet (bring_up (map length texts))).1

  -- After a keep the new version has its name, and both sheets are brought up.
  abbrev pub named : State → (name : List ℕ) (version : ℕ) → State
  named s name version =
      record s {
        lines = brought_up lines_rule s.book s.lines;
        pairs = brought_up pairs_rule s.book s.pairs;
        names = with_name s.names name version;
      }

  -- `version` is the number of the next version
  abbrev pub after_keep : State → (name : List ℕ) (version : ℕ) → Answer BookTold → Book → State
  after_keep s name version (refused row) book = record s { book = book }
  after_keep s name version (accepted told) book = named (record s { book = book }) name version

  -- a call on the book: what is printed of its answer, and the book after it
  abbrev pub book_outcome : Book → BookCall → Result (List ℕ) Row × Book
  book_outcome b c = let r = book_step texts b c in (outcome book_said r.0, r.1)

  -- a call on a sheet, by the answer that is printed for a value
  abbrev pub sheet_outcome : {V : Type 0} → Rule V → (V → answer.Answer) → Book → Sheet V → SheetCall → Result (List ℕ) Row × Sheet V
  sheet_outcome rule answer_of b s c = let r = sheet_step texts rule b s c in (outcome (sheet_said answer_of) r.0, r.1)

  abbrev pub request_step : State → Request → Result (List ℕ) Row × State
  request_step s (of_book c) =
      let r = book_outcome s.book c in (r.0, record s { book = r.1 })
  request_step s (of_lines c) =
      let r = sheet_outcome lines_rule lines_answer s.book s.lines c in (r.0, record s { lines = r.1 })
  request_step s (of_pairs c) =
      let r = sheet_outcome pairs_rule pairs_answer s.book s.pairs c in (r.0, record s { pairs = r.1 })
  request_step s (keep_as name) =
      let r = book_step texts s.book keep in
      (outcome book_said r.0, after_keep s name (length s.book.kept) r.0 r.1)

  -- the bytes that a command prints, or the row that refuses it, and what it leaves
  abbrev pub command_step : (script : List ℕ) → State → Command → Result (List ℕ) Row × State
  command_step script s c = request_step s (request script (map length texts) c)
