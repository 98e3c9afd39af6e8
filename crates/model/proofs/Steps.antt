-- A step is one choice: the call's row refuses it, or it is carried out.
use Rattle.std.proofs.Common.{◌≡◌, ℕ, ◌<◌, Bool, true, false, cond, eqb, ltb, ◌⊎◌, List, [], ◌∷◌, ◌++◌, set, Some, None, Option, sym, refl, ap, ◌∙◌, subst, inl, inr, ⊎_elim, arith, lit<}
use Rattle.std.specs.Option.{option_or}
use Rattle.std.specs.List.{AllByRecursion}
use Rattle.std.proofs.lemmas.List.{set-get_or}
use Rattle.std.proofs.lemmas.Bool.{eq-eqb, lt-ltb, or_left, or_right}
use Rattle.model.specs.Calls.{open_version, edit, keep, toss, read, find, shape, bring_up, summary, Call, on_book, on_sheet, elsewhere}
use Rattle.model.specs.Answers.{Answer, refused, accepted, Told, by_book, by_sheet, row_of, unless, fed_row}
use Rattle.model.specs.Rows.{first_row, plain_rows}
use Rattle.model.specs.Book.{lengths_of, book_effect}
use Rattle.model.specs.Sheet.{Rule, Sheet, new_sheet, sheet_effect}
use Rattle.model.specs.Runs.{State, sheet, mapped_answer, own_rows, rows, step}
use Rattle.model.specs.Unchanged.{RefusalsChangeNothing}

-- Cases that are apart

pub not_none : {B : Type 0} (r : ℕ) → ◌≡◌ {A = Option ℕ} None (Some r) → B
not_none r e = let z : ◌≡◌ {A = ℕ} 0 1 = cc in absurd (omega arith)

pub not_accepted : {A B : Type 0} (r : ℕ) (x : A) → refused r ≡ accepted x → B
not_accepted r x e = let z : ◌≡◌ {A = ℕ} 0 1 = cc in absurd (omega arith)

-- Of the first row that fits

pub first_append : (xs ys : List (ℕ × Bool)) → first_row (xs ++ ys) ≡ option_or (first_row xs) (first_row ys)
first_append [] ys = refl
first_append (x ∷ xs) ys = go x.1 (first_append xs ys)
  where
    go : (t : Bool) → first_row (xs ++ ys) ≡ option_or (first_row xs) (first_row ys) →
        cond t (Some x.0) (first_row (xs ++ ys)) ≡ option_or (cond t (Some x.0) (first_row xs)) (first_row ys)
    go true e = refl
    go false e = e

-- no test passes
abbrev pub Passed : List (ℕ × Bool) → Type 0
Passed rows = AllByRecursion (λ r. r.1 ≡ false) rows

passed : (xs : List (ℕ × Bool)) → first_row xs ≡ None → Passed xs
passed [] e = tt
passed (x ∷ xs) e = go x.1 refl e (passed xs)
  where
    go : (t : Bool) → x.1 ≡ t → cond t (Some x.0) (first_row xs) ≡ None → (first_row xs ≡ None → Passed xs) → (x.1 ≡ false) × Passed xs
    go true q e h = not_none x.0 (sym e)
    go false q e h = (q, h e)

both_passed : (xs ys : List (ℕ × Bool)) → first_row (xs ++ ys) ≡ None → Passed xs × Passed ys
both_passed xs ys e = go (first_row xs) refl (sym (first_append xs ys) ∙ e)
  where
    go : (o : Option ℕ) → first_row xs ≡ o → option_or o (first_row ys) ≡ None → Passed xs × Passed ys
    go None q e = (passed xs q, passed ys e)
    go (Some r) q e = not_none r (sym e)

-- a row that is found is one of the list
pub first_of : (P : ℕ → Type 0) (xs : List (ℕ × Bool)) (r : ℕ) → AllByRecursion (λ x. P x.0) xs → first_row xs ≡ Some r → P r
first_of P [] r a e = not_none r e
first_of P (x ∷ xs) r a e = go x.1 e (first_of P xs r a.1)
  where
    go : (t : Bool) → cond t (Some x.0) (first_row xs) ≡ Some r → (first_row xs ≡ Some r → P r) → P r
    go true e h = let q : x.0 ≡ r = cc in subst P q a.0
    go false e h = h e

-- the rows that strings do not decide
abbrev pub OwnRow : ℕ → Type 0
OwnRow r = (r ≡ 12) ⊎ (14 < r)

pub own_rows_are : {V : Type 0} (s : State V) (c : Call) → AllByRecursion (λ r. OwnRow r.0) (own_rows s c)
own_rows_are s (on_book (open_version v)) = tt
own_rows_are s (on_book (edit e)) = (inl refl, tt)
own_rows_are s (on_book keep) = tt
own_rows_are s (on_book toss) = tt
own_rows_are s (on_book (read v i m shown)) = (inr (lit< tt), tt)
own_rows_are s (on_book (find v i pattern shown)) = (inr (lit< tt), tt)
own_rows_are s (on_book (shape v)) = tt
own_rows_are s (on_sheet k (bring_up shown)) = (inr (lit< tt), (inr (lit< tt), tt))
own_rows_are s (on_sheet k (summary v i m shown)) = (inr (lit< tt), (inr (lit< tt), tt))
own_rows_are s elsewhere = tt

-- they are fed to the plain book
own_fed : (r : ℕ) → OwnRow r → fed_row (Some r) ≡ Some r
own_fed r h = ap (λ (t : Bool). cond t (Some r) None)
    (⊎_elim (λ e. or_left (eqb r 12) (ltb 14 r) (eq-eqb r 12 e)) (λ l. or_right (eqb r 12) (ltb 14 r) (lt-ltb 14 r l)) h)

fed_first : {V : Type 0} (s : State V) (c : Call) (o : Option ℕ) → first_row (own_rows s c) ≡ o → fed_row o ≡ o
fed_first s c None e = refl
fed_first s c (Some r) e = own_fed r (first_of OwnRow (own_rows s c) r (own_rows_are s c) e)

-- the row that refuses a call, if one does
abbrev pub row : {V : Type 0} → State V → Call → Option ℕ
row s c = first_row (rows s c)

-- fed with what strings do not decide, the rows that lengths decide give the same row
pub row_fed : {V : Type 0} (s : State V) (c : Call) → option_or (first_row (plain_rows (lengths_of s.book) c)) (fed_row (row s c)) ≡ row s c
row_fed s c = ap (λ (o : Option ℕ). option_or plain (fed_row o)) split ∙ go plain ∙ sym split
  where
    plain : Option ℕ
    plain = first_row (plain_rows (lengths_of s.book) c)

    own : Option ℕ
    own = first_row (own_rows s c)

    split : row s c ≡ option_or plain own
    split = first_append (plain_rows (lengths_of s.book) c) (own_rows s c)

    go : (o : Option ℕ) → option_or o (fed_row (option_or o own)) ≡ option_or o own
    go None = fed_first s c own refl
    go (Some r) = refl

module _ {A S : Type 0} where
  pub unless_row : (o : Option ℕ) (before : S) (after : A × S) → row_of (unless o before after).0 ≡ o
  unless_row None before after = refl
  unless_row (Some r) before after = refl

  unless_before : (o : Option ℕ) (r : ℕ) (before : S) (after : A × S) → o ≡ Some r → (unless o before after).1 ≡ before
  unless_before None r before after e = not_none r e
  unless_before (Some q) r before after e = refl

module _ {V : Type 0} (texts : List (List ℕ)) (rule : Rule V) where
  -- what an accepted call tells and leaves
  abbrev pub effect : State V → Call → Told V × State V
  effect s (on_book c) = let r = book_effect texts s.book c in (by_book r.0, record { book = r.1; sheets = s.sheets })
  effect s (on_sheet k c) =
      let r = sheet_effect texts rule s.book (sheet s k) c in (by_sheet r.0, record { book = s.book; sheets = set s.sheets k r.1 })
  effect s elsewhere = (Told.elsewhere, s)

  pub step_is : (s : State V) (c : Call) → step texts rule s c ≡ unless (row s c) s (effect s c)
  step_is s (on_book c) = go (row s (on_book c))
    where
      go : (o : Option ℕ) →
          (mapped_answer by_book (unless o s.book (book_effect texts s.book c)).0, record { book = (unless o s.book (book_effect texts s.book c)).1; sheets = s.sheets })
          ≡ unless o s (effect s (on_book c))
      go None = refl
      go (Some r) = refl
  step_is s (on_sheet k c) = go (row s (on_sheet k c))
    where
      go : (o : Option ℕ) → (
        mapped_answer by_sheet (unless o (sheet s k) (sheet_effect texts rule s.book (sheet s k) c)).0,
        record { book = s.book; sheets = set s.sheets k (unless o (sheet s k) (sheet_effect texts rule s.book (sheet s k) c)).1 },
      )
          ≡ unless o s (effect s (on_sheet k c))
      go None = refl
      go (Some r) = ap (λ (x : List (Sheet V)). (refused r, record { book = s.book; sheets = x })) (set-get_or s.sheets k (new_sheet []))
  step_is s elsewhere = refl

  pub row_is : (s : State V) (c : Call) → row_of (step texts rule s c).0 ≡ row s c
  row_is s c = ap (λ (x : Answer (Told V) × State V). row_of x.0) (step_is s c) ∙ unless_row (row s c) s (effect s c)

  unchanged : (s : State V) (c : Call) (r : ℕ) → row s c ≡ Some r → (step texts rule s c).1 ≡ s
  unchanged s c r e = ap (λ (x : Answer (Told V) × State V). x.1) (step_is s c) ∙ unless_before (row s c) r s (effect s c) e

  -- a fact of the row and of what a step gives: of a refusal, and of the call carried out where no row fits
  pub by_row : (P : Option ℕ → Answer (Told V) × State V → Type 0) (s : State V) (c : Call) → ((r : ℕ) → P (Some r) (refused r, s)) →
      (Passed (plain_rows (lengths_of s.book) c) → Passed (own_rows s c) → P None (accepted (effect s c).0, (effect s c).1)) → P (row s c) (step texts rule s c)
  by_row P s c refuses performs = subst (P (row s c)) (sym (step_is s c)) (go (row s c) refl)
    where
      go : (o : Option ℕ) → row s c ≡ o → P o (unless o s (effect s c))
      go None e = let p = both_passed (plain_rows (lengths_of s.book) c) (own_rows s c) e in performs p.0 p.1
      go (Some r) e = refuses r

pub refusals_change_nothing : {V : Type 0} (rule : Rule V) → RefusalsChangeNothing rule
refusals_change_nothing rule texts s c r e = unchanged texts rule s c r (sym (row_is texts rule s c) ∙ ap row_of e)
