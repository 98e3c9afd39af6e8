-- The slots in use are those that the answers count.
use Rattle.std.proofs.Common.{◌≡◌, ℕ, List, [], ◌∷◌, Some, None, Option, refl, ◌∙◌, arith, length-append, length-take}
use Rattle.tree.specs.Tree.{Tree}
use Rattle.model.specs.Calls.{BookCall, open_version, edit, keep, toss, read, find, shape, Call, on_book, on_sheet, elsewhere}
use Rattle.model.specs.Answers.{Answer, accepted, refused, Told, by_book, by_sheet}
use Rattle.model.specs.Plain.{Plain}
use Rattle.model.specs.Book.{Book, version, built, shape_of, book_effect}
use Rattle.model.specs.Sheet.{Rule}
use Rattle.model.specs.Runs.{State, step}
use Rattle.model.specs.Tally.{Tally, tally_told, tally, Counted}
use Rattle.model.proofs.Steps.{effect, by_row}
use Rattle.model.proofs.Pairing.{Paired, settled_le}

module _ (texts : List (List ℕ)) where
  call_counts : (b : Book) (p : Plain) → Paired texts b p → (n : Tally) → Counted n b → (c : BookCall) →
      Counted (tally_told n (book_effect texts b c).0) (book_effect texts b c).1
  call_counts b p h n k (open_version v) = record { kept = k.kept; drafted = k.drafted }
  call_counts b p h n k (edit e) = record { kept = k.kept; drafted = length-append b.slots (built b e).new ∙ omega arith }
  call_counts b p h n k keep =
      let le = settled_le texts b.slots b.draft h.drafted in
      record { kept = omega arith; drafted = omega arith }
  call_counts b p h n k toss =
      let le = settled_le texts b.slots b.draft h.drafted in
      record { kept = simp length-take (omega arith); drafted = simp length-take (omega arith) }
  call_counts b p h n k (read v i m shown) = k
  call_counts b p h n k (find v i pattern shown) = k
  call_counts b p h n k (shape v) = of (version b v)
    where
      of : (o : Option Tree) → Counted (tally_told n (shape_of o)) b
      of None = k
      of (Some t) = k

  module _ {V : Type 0} (rule : Rule V) where
    pub step_counts : (s : State V) (p : Plain) → Paired texts s.book p → (n : Tally) → Counted n s.book → (c : Call) →
        Counted (tally n ((step texts rule s c).0 ∷ [])) (step texts rule s c).1.book
    step_counts s p h n k c =
        by_row texts rule (λ o a. Counted (tally n (a.0 ∷ [])) a.1.book) s c (λ r. k) (λ t u. go c)
      where
        go : (c : Call) → Counted (tally n (accepted (effect texts rule s c).0 ∷ [])) (effect texts rule s c).1.book
        go (on_book c) = call_counts s.book p h n k c
        go (on_sheet j c) = k
        go elsewhere = k

pub tally_more : {V : Type 0} (n : Tally) (a : Answer (Told V)) (answers : List (Answer (Told V))) → tally n (a ∷ answers) ≡ tally (tally n (a ∷ [])) answers
tally_more n (refused row) answers = refl
tally_more n (accepted (by_book told)) answers = refl
tally_more n (accepted (by_sheet told)) answers = refl
tally_more n (accepted Told.elsewhere) answers = refl
