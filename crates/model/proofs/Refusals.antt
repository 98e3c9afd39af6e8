-- Both books refuse the same calls by the rows that strings decide.
use Rattle.std.proofs.Common.{◌≡◌, ℕ, ◌≤◌, true, leb, ◌↔◌, List, Some, None, Option, sym, refl, ap, ◌∙◌, inl, inr, ⊎_elim, arith}
use Rattle.std.specs.Option.{option_or}
use Rattle.std.specs.List.{AllByRecursion}
use Rattle.std.proofs.lemmas.Bool.{leb-true}
use Rattle.model.specs.Calls.{put_piece, put_version, cut, crop, open_version, edit, keep, toss, read, find, shape, bring_up, summary, Call, on_book, on_sheet, elsewhere}
use Rattle.model.specs.Answers.{refused, row_of, PlainTold, unless}
use Rattle.model.specs.Rows.{Lengths, first_row, plain_rows}
use Rattle.model.specs.Plain.{Plain, plain_lengths, plain_effect}
use Rattle.model.specs.Book.{lengths_of}
use Rattle.model.specs.Sheet.{Rule}
use Rattle.model.specs.Runs.{State, own_rows, step}
use Rattle.model.specs.Law.{PlainRow, RefusedByBoth}
use Rattle.model.proofs.Steps.{not_none, not_accepted, first_append, first_of, OwnRow, own_rows_are, row, row_is, by_row}
use Rattle.model.proofs.Pairing.{same_lengths}
use Rattle.model.proofs.Keeping.{Sound}

low : (r : ℕ) → leb 5 r ≡ true → leb r 11 ≡ true → PlainRow r
low r a b = inl (leb-true 5 r a, leb-true r 11 b)

plain_rows_are : (b : Lengths) (c : Call) → AllByRecursion (λ r. PlainRow r.0) (plain_rows b c)
plain_rows_are b (on_book (open_version v)) = (low 5 refl refl, (low 6 refl refl, tt))
plain_rows_are b (on_book (edit (put_piece p k i m))) =
    (low 7 refl refl, (low 8 refl refl, (low 9 refl refl, (low 10 refl refl, (low 11 refl refl, tt)))))
plain_rows_are b (on_book (edit (put_version p v))) = (low 5 refl refl, (low 7 refl refl, (low 9 refl refl, (low 11 refl refl, tt))))
plain_rows_are b (on_book (edit (cut i m))) = (low 7 refl refl, (low 9 refl refl, tt))
plain_rows_are b (on_book (edit (crop i m))) = (low 7 refl refl, (low 9 refl refl, tt))
plain_rows_are b (on_book keep) = (low 7 refl refl, (inr (inl refl), tt))
plain_rows_are b (on_book toss) = (low 7 refl refl, tt)
plain_rows_are b (on_book (read v i m shown)) = (low 5 refl refl, (low 9 refl refl, tt))
plain_rows_are b (on_book (find v i pattern shown)) = (low 5 refl refl, (low 9 refl refl, (inr (inr refl), tt)))
plain_rows_are b (on_book (shape v)) = (low 5 refl refl, tt)
plain_rows_are b (on_sheet k (bring_up shown)) = tt
plain_rows_are b (on_sheet k (summary v i m shown)) = (low 5 refl refl, (low 9 refl refl, tt))
plain_rows_are b elsewhere = tt

not_both : (r : ℕ) → OwnRow r → PlainRow r → ⊥
not_both r own plain =
    ⊎_elim (λ (p : (5 ≤ r) × (r ≤ 11)). ⊎_elim (λ e. omega arith) (λ l. omega arith) own)
    (λ q. ⊎_elim (λ (e : r ≡ 13). ⊎_elim (λ f. omega arith) (λ l. omega arith) own) (λ (e : r ≡ 14). ⊎_elim (λ f. omega arith) (λ l. omega arith) own) q) plain

module _ {V : Type 0} (texts : List (List ℕ)) (rule : Rule V) where
  refused_by : (s : State V) (c : Call) (r : ℕ) → row s c ≡ Some r → (step texts rule s c).0 ≡ refused r
  refused_by s c r e = by_row texts rule (λ o a. o ≡ Some r → a.0 ≡ refused r) s c (λ q f. cc) (λ t u f. not_none r f) e

  plain_refused : (o : Option ℕ) (r : ℕ) (p : Plain) (after : PlainTold × Plain) → o ≡ Some r ↔ (unless (option_or o None) p after).0 ≡ refused r
  plain_refused None r p after = (not_none r, λ e. not_accepted r after.0 (sym e))
  plain_refused (Some q) r p after = (λ e. cc, λ e. cc)

  -- the row that strings decide, if it refuses, is the call's row
  by_strings : (s : State V) (c : Call) (r : ℕ) → (row s c ≡ Some r) × PlainRow r ↔ first_row (plain_rows (lengths_of s.book) c) ≡ Some r
  by_strings s c r = (
    λ q. go plain refl (sym split ∙ q.0) q.1,
    λ e. (split ∙ ap (λ (o : Option ℕ). option_or o own) e, first_of PlainRow (plain_rows (lengths_of s.book) c) r (plain_rows_are (lengths_of s.book) c) e),
  )
    where
      plain : Option ℕ
      plain = first_row (plain_rows (lengths_of s.book) c)

      own : Option ℕ
      own = first_row (own_rows s c)

      split : row s c ≡ option_or plain own
      split = first_append (plain_rows (lengths_of s.book) c) (own_rows s c)

      go : (o : Option ℕ) → plain ≡ o → option_or o own ≡ Some r → PlainRow r → plain ≡ Some r
      go None e q w = absurd (not_both r (first_of OwnRow (own_rows s c) r (own_rows_are s c) q) w)
      go (Some f) e q w = e ∙ q

  pub refused_by_both : (s : State V) (p : Plain) → Sound texts rule s p → (c : Call) → RefusedByBoth texts rule s p c
  refused_by_both s p h c r =
      let same : first_row (plain_rows (lengths_of s.book) c) ≡ first_row (plain_rows (plain_lengths texts p) c) =
      ap (λ (l : Lengths). first_row (plain_rows l c)) (same_lengths texts s.book p h.books) in
      let there = plain_refused (first_row (plain_rows (plain_lengths texts p) c)) r p (plain_effect texts p c) in
      let here = by_strings s c r in (
        λ q. there.0 (sym same ∙ here.0 (sym (row_is texts rule s c) ∙ ap row_of q.0, q.1)),
        λ q. let b = here.1 (same ∙ there.1 q) in (refused_by s c r b.0, b.1),
      )
