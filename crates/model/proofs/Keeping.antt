-- What every call keeps: the two books go together, and each sheet has the right values of the slots that it covers.
use Rattle.std.proofs.Common.{◌≡◌, ℕ, zero, suc, ◌+◌, ◌-◌, ◌≤◌, max, List, [], ◌∷◌, map, length, get_or, Option, sym, refl, ap, ◌∙◌, subst, ap₂, arith, length-take, get_or-take}
use Rattle.std.specs.Option.{option_or}
use Rattle.std.specs.List.{AllByRecursion}
use Rattle.std.proofs.ByRecursion.{All-set, All-weaker}
use Rattle.std.proofs.lemmas.Bool.{ltb-false}
use Rattle.rule.specs.Rule.{Joins}
use Rattle.tree.specs.Tree.{Tree, spell}
use Rattle.model.specs.Calls.{bring_up, summary, Call, on_book, on_sheet, elsewhere}
use Rattle.model.specs.Answers.{Answer, accepted, PlainTold, Told, unless, plain_told, plain_answer, fed, fed_row}
use Rattle.model.specs.Rows.{Lengths, first_row, plain_rows}
use Rattle.model.specs.Plain.{Plain, plain_new, plain_effect, plain_step, plain_run}
use Rattle.model.specs.Book.{settled, lengths_of, book_effect}
use Rattle.model.specs.Sheet.{Rule, Sheet, new_sheet, sheet_own_rows, sheet_effect}
use Rattle.model.specs.Runs.{State, sheet, own_rows, step, run, new}
use Rattle.model.proofs.Slots.{Extends, extends_length, get_or_extends}
use Rattle.model.proofs.Sheets.{leaf, Right, filled_right, length_filled}
use Rattle.model.proofs.Steps.{Passed, row, row_fed, effect, row_is, by_row}
use Rattle.model.proofs.Pairing.{firm, Paired, settled_le, same_lengths, firm_extends, book_follows, firm_stays}

module _ {V : Type 0} (texts : List (List ℕ)) (rule : Rule V) where
  -- the sheet has the right values of the slots that it covers, and covers none that a draft made
  pub record SheetSound (slots : List Tree) (t : Sheet V) : Type 0 where
    pub below : t.covered ≤ length slots
    pub long : t.covered ≤ length t.values
    pub right : Right texts rule slots t.values t.covered

  pub record Sound (s : State V) (p : Plain) : Type 0 where
    pub books : Paired texts s.book p
    pub sheets : AllByRecursion (SheetSound (firm s.book)) s.sheets

  new_sound_sheet : (slots : List Tree) (values : List V) → SheetSound slots (new_sheet values)
  new_sound_sheet slots values = record { below = omega arith; long = omega arith; right = λ i l. absurd (omega arith) }

  sheet_extends : (ts us : List Tree) (t : Sheet V) → Extends ts us → SheetSound ts t → SheetSound us t
  sheet_extends ts us t e h =
      let l = extends_length ts us e in
      let b = h.below in
      record {
        below = omega arith;
        long = h.long;
        right = λ i k. h.right i k ∙ ap (λ (x : Tree). rule.value (spell texts x)) (sym (get_or_extends ts us i leaf e (omega arith)));
      }

  sheet_at : (slots : List Tree) (ts : List (Sheet V)) (k : ℕ) → AllByRecursion (SheetSound slots) ts → SheetSound slots (get_or ts k (new_sheet []))
  sheet_at slots [] k a = new_sound_sheet slots []
  sheet_at slots (t ∷ ts) zero a = a.0
  sheet_at slots (t ∷ ts) (suc k) a = sheet_at slots ts k a.1

  pub sound_sheet : (s : State V) (p : Plain) → Sound s p → (k : ℕ) → SheetSound (firm s.book) (sheet s k)
  sound_sheet s p h k = sheet_at (firm s.book) s.sheets k h.sheets

  pub firm_long : (s : State V) (p : Plain) → Sound s p → length (firm s.book) ≡ settled s.book
  firm_long s p h =
      let le = settled_le texts s.book.slots s.book.draft h.books.drafted in
      length-take (settled s.book) s.book.slots ∙ omega arith

  all_new : (slots : List Tree) (values : List (List V)) → AllByRecursion (SheetSound slots) (map new_sheet values)
  all_new slots [] = tt
  all_new slots (v ∷ vs) = (new_sound_sheet slots v, all_new slots vs)

  pub new_sound : (records : ℕ) (sheets : List (List V)) → Sound (new texts records sheets) plain_new
  new_sound records sheets = record {
    books = record {
      noted = refl;
      strings = refl;
      draft = refl;
      slots = record { grows = tt; sound = tt };
      whole = (tt, tt);
      drafted = tt;
      in_room = omega arith;
      few = omega arith;
    };
    sheets = all_new [] sheets;
  }

  -- what the plain book does when it is fed with the real book's answer
  pub plain_step_is : (s : State V) (p : Plain) → Sound s p → (c : Call) →
      plain_step texts p c (fed (step texts rule s c).0) ≡ unless (row s c) p (plain_effect texts p c)
  plain_step_is s p h c =
      let fed_is : fed (step texts rule s c).0 ≡ fed_row (row s c) = ap fed_row (row_is texts rule s c) in
      let lengths = sym (same_lengths texts s.book p h.books) in
      ap (λ (o : Option ℕ). unless o p (plain_effect texts p c))
      (ap₂ (λ (l : Lengths) (f : Option ℕ). option_or (first_row (plain_rows l c)) f) lengths fed_is ∙ row_fed s c)

  -- the answer and the state of the one book go with those of the other
  abbrev pub Follows : Answer (Told V) × State V → Answer PlainTold × Plain → Type 0
  Follows a q = Sound a.1 q.1 × (plain_answer a.0 ≡ q.0)

  module _ (joins : Joins rule.value rule.joined) where
    -- the values that a bring-up fills in are right
    bring_up_sound : (s : State V) (p : Plain) → Sound s p → (k : ℕ) (shown : List ℕ) → Passed (sheet_own_rows s.book (sheet s k) (bring_up shown)) →
        SheetSound (firm s.book) (sheet_effect texts rule s.book (sheet s k) (bring_up shown)).1
    bring_up_sound s p h k shown u =
        let b = s.book in
        let t = sheet s k in
        let n = settled b in
        let le = settled_le texts b.slots b.draft h.books.drafted in
        let len = firm_long s p h in
        let fits = ltb-false (length t.values) n u.0 in
        let sound = sound_sheet s p h k in
        let below = sound.below in
        let sum : t.covered + (n - t.covered) ≡ n = omega arith in
        let most : max t.covered n ≡ n = omega arith in
        let before = sheet_extends (firm b) b.slots t (firm_extends texts b p h.books) sound in
        let after = filled_right texts rule joins b.slots t.values t.covered (n - t.covered) h.books.slots (omega arith) (omega arith) before.right in
        let long = length_filled texts rule joins b.slots t.values t.covered (n - t.covered) in
        record {
          below = omega arith;
          long = omega arith;
          right = λ i l. after i (omega arith) ∙ ap (λ (x : Tree). rule.value (spell texts x)) (sym (get_or-take n b.slots i leaf (omega arith)));
        }

    effect_follows : (s : State V) (p : Plain) → Sound s p → (c : Call) → Passed (plain_rows (lengths_of s.book) c) → Passed (own_rows s c) →
        Sound (effect texts rule s c).1 (plain_effect texts p c).1 × (plain_told (effect texts rule s c).0 ≡ (plain_effect texts p c).0)
    effect_follows s p h (on_book c) t u =
        let f = book_follows texts s.book p h.books c t u in
        let grow = λ (x : Sheet V). sheet_extends (firm s.book) (firm (book_effect texts s.book c).1) x (firm_stays texts s.book p h.books c) in (
          record {
            books = f.0;
            sheets = All-weaker (SheetSound (firm s.book)) (SheetSound (firm (book_effect texts s.book c).1)) grow s.sheets h.sheets;
          },
          f.1,
        )
    effect_follows s p h (on_sheet k (bring_up shown)) t u =
        let after = (sheet_effect texts rule s.book (sheet s k) (bring_up shown)).1 in (
          record { books = h.books; sheets = All-set (SheetSound (firm s.book)) s.sheets k after (bring_up_sound s p h k shown u) h.sheets },
          refl,
        )
    effect_follows s p h (on_sheet k (summary v i m shown)) t u =
        (record { books = h.books; sheets = All-set (SheetSound (firm s.book)) s.sheets k (sheet s k) (sound_sheet s p h k) h.sheets }, refl)
    effect_follows s p h elsewhere t u = (h, refl)

    pub step_follows : (s : State V) (p : Plain) → Sound s p → (c : Call) →
        Follows (step texts rule s c) (plain_step texts p c (fed (step texts rule s c).0))
    step_follows s p h c =
        subst (Follows (step texts rule s c)) (sym (plain_step_is s p h c))
        (by_row texts rule (λ o a. Follows a (unless o p (plain_effect texts p c))) s c (λ r. (h, refl))
        (λ t u. let f = effect_follows s p h c t u in (f.0, ap {B = Answer PlainTold} accepted f.1)))

    pub run_follows : (s : State V) (p : Plain) → Sound s p → (calls : List Call) →
        let real = run texts rule s calls in
        let plain = plain_run texts p calls (map fed real.0) in
        Sound real.1 plain.1 × (map plain_answer real.0 ≡ plain.0)
    run_follows s p h [] = (h, refl)
    run_follows s p h (c ∷ calls) =
        let f = step_follows s p h c in
        let r = run_follows (step texts rule s c).1 (plain_step texts p c (fed (step texts rule s c).0)).1 f.0 calls in
        (r.0, ap₂ {C = List (Answer PlainTold)} ◌∷◌ f.1 r.1)
