-- The law of kept versions.
use Rattle.std.proofs.Common.{◌≡◌, ℕ, ◌+◌, ◌-◌, ◌<◌, ◌≤◌, max, ◌↔◌, List, [], ◌∷◌, length, set, Some, None, Option, sym, refl, ap, ◌∙◌, subst, ⊎_elim, arith, length-set}
use Rattle.std.specs.List.{AllByRecursion}
use Rattle.std.proofs.lemmas.List.{get_or-set_same, get_or_past}
use Rattle.std.proofs.ByRecursion.{All-weaker, All-map}
use Rattle.std.proofs.lemmas.Bool.{ltb-false, not-false, cases_lt}
use Rattle.shelf.specs.Texts.{limit, stretch}
use Rattle.rule.specs.Rule.{Joins}
use Rattle.tree.specs.Tree.{Tree}
use Rattle.tree.specs.Edits.{spell_any, Fit}
use Rattle.tree.proofs.Edits.{fit_length}
use Rattle.tree.proofs.Fib.{fib_pieces}
use Rattle.tree.proofs.Facts.{low_42}
use Rattle.model.specs.Calls.{bring_up, summary, Call, on_sheet}
use Rattle.model.specs.Answers.{Answer, accepted, Told, by_sheet, SheetTold, fed}
use Rattle.model.specs.Rows.{version_length, sheet_rows}
use Rattle.model.specs.Plain.{Plain, plain_new, string, plain_step}
use Rattle.model.specs.Book.{version, settled, lengths_of}
use Rattle.model.specs.Sheet.{Rule, Sheet, new_sheet, covers, sheet_own_rows, version_value, sheet_effect}
use Rattle.model.specs.Runs.{State, new, sheet, step, run}
use Rattle.model.specs.Table.{Covered, Smallest, Table}
use Rattle.model.specs.Trees.{TreeBook, forgotten, AllowsRun}
use Rattle.model.specs.Tally.{Tally, nothing, tally, Counted}
use Rattle.model.specs.Law.{Low, EveryCall, RefusedBySmallest, RefusedByBoth, CoversAll, StaysCovered, TellsValue, KeptVersions, Law}
use Rattle.model.proofs.Slots.{covered_from, covered_more}
use Rattle.model.proofs.Sheets.{version_value_is}
use Rattle.model.proofs.Tables.{smallest, decides_covers}
use Rattle.model.proofs.Steps.{not_accepted, Passed, row_is, effect, by_row}
use Rattle.model.proofs.Pairing.{firm, string_at, version_whole, version_size}
use Rattle.model.proofs.Keeping.{Sound, sound_sheet, firm_long, new_sound, step_follows, run_follows}
use Rattle.model.proofs.Refusals.{refused_by_both}
use Rattle.model.proofs.Staying.{run_room, version_stays, step_covers}
use Rattle.model.proofs.Allowing.{step_allows}
use Rattle.model.proofs.Counting.{step_counts, tally_more}

covered_whole : (n : ℕ) (texts : List (List ℕ)) (slots : List Tree) (o : Option Tree) → length slots ≤ n → Fit texts limit slots o → Covered n o
covered_whole n texts slots None l w = tt
covered_whole n texts slots (Some t) l w = covered_from n slots t l w.1

covered_by_more : (m n : ℕ) (o : Option Tree) → m ≤ n → Covered m o → Covered n o
covered_by_more m n None l h = tt
covered_by_more m n (Some t) l h = covered_more m n t l h

whole_short : (texts : List (List ℕ)) (slots : List Tree) (o : Option Tree) → Fit texts limit slots o → length (spell_any texts o) ≤ limit
whole_short texts slots None w = omega arith
whole_short texts slots (Some t) w = let e = fit_length texts limit slots (Some t) w in let l = w.0.short in omega arith

whole_low : (texts : List (List ℕ)) (slots : List Tree) (o : Option Tree) → Fit texts limit slots o → Low o
whole_low texts slots None w = tt
whole_low texts slots (Some t) w = (w.0.balanced, fib_pieces t w.0.balanced, low_42 texts t w.0.balanced w.0.within w.0.short)

module _ {V : Type 0} (texts : List (List ℕ)) (rule : Rule V) (joins : Joins rule.value rule.joined) where
  every_call : (P : State V → Plain → Call → Type 0) → ((s : State V) (p : Plain) → Sound texts rule s p → (c : Call) → P s p c) →
      (s : State V) (p : Plain) → Sound texts rule s p → (calls : List Call) → EveryCall texts rule P s p calls
  every_call P each s p h [] = tt
  every_call P each s p h (c ∷ calls) =
      let next = (step_follows texts rule joins s p h c).0 in
      (each s p h c, every_call P each (step texts rule s c).1 (plain_step texts p c (fed (step texts rule s c).0)).1 next calls)

  refused_by_smallest : (s : State V) (p : Plain) → Sound texts rule s p → (c : Call) → RefusedBySmallest texts rule s p c
  refused_by_smallest s p h c = subst (Smallest (Table s c)) (sym (row_is texts rule s c)) (smallest s c)

  run_allows : (s : State V) (p : Plain) → Sound texts rule s p → (calls : List Call) (b : TreeBook) →
      AllowsRun (forgotten s.book) calls (run texts rule s calls).0 b ↔ b ≡ forgotten (run texts rule s calls).1.book
  run_allows s p h [] b = (λ e. e, λ e. e)
  run_allows s p h (c ∷ calls) b =
      let next = (step texts rule s c).1 in
      let answers = (run texts rule next calls).0 in
      let first = step_allows texts rule s p h.books c in
      let rest = run_allows next (plain_step texts p c (fed (step texts rule s c).0)).1 (step_follows texts rule joins s p h c).0 calls b in (
        λ q. rest.0 (subst (λ (x : TreeBook). AllowsRun x calls answers b) ((first q.0).0 q.1) q.2),
        λ e. (forgotten next.book, (first (forgotten next.book)).1 refl, rest.1 e),
      )

  run_counts : (s : State V) (p : Plain) → Sound texts rule s p → (n : Tally) → Counted n s.book → (calls : List Call) →
      Counted (tally n (run texts rule s calls).0) (run texts rule s calls).1.book
  run_counts s p h n k [] = k
  run_counts s p h n k (c ∷ calls) =
      let next = (step texts rule s c).1 in
      let m = tally n ((step texts rule s c).0 ∷ []) in
      subst (λ (x : Tally). Counted x (run texts rule next calls).1.book) (sym (tally_more n (step texts rule s c).0 (run texts rule next calls).0))
      (run_counts next (plain_step texts p c (fed (step texts rule s c).0)).1 (step_follows texts rule joins s p h c).0 m
      (step_counts texts rule s p h.books n k c) calls)

  stays_covered : (s : State V) (p : Plain) → Sound texts rule s p → (c : Call) → StaysCovered texts rule s p c
  stays_covered s p h c k v l covered =
      let next = (step texts rule s c).1 in
      subst (Covered (sheet next k).covered) (sym (version_stays texts rule s c v l))
      (covered_by_more (sheet s k).covered (sheet next k).covered (version s.book v) (step_covers texts rule s c k) covered)

  -- the sheet of a bring-up, or none with nothing to cover
  brought_up : (s : State V) (k : ℕ) (shown : List ℕ) → Passed (sheet_own_rows s.book (sheet s k) (bring_up shown)) →
      (sheet (effect texts rule s (on_sheet k (bring_up shown))).1 k).covered ≡ max (sheet s k).covered (settled s.book)
  brought_up s k shown u =
      let t = (sheet_effect texts rule s.book (sheet s k) (bring_up shown)).1 in
      ⊎_elim
      (λ (l : k < length s.sheets). ap (λ (x : Sheet V). x.covered) (get_or-set_same s.sheets k t (new_sheet []) l))
      (λ (l : length s.sheets ≤ k).
      let none : sheet s k ≡ new_sheet [] = get_or_past s.sheets k (new_sheet []) l in
      let fits = ltb-false (length (sheet s k).values) (settled s.book) u.0 in
      let long : length (sheet s k).values ≡ 0 = ap (λ (x : Sheet V). length x.values) none in
      let nothing : (sheet s k).covered ≡ 0 = ap (λ (x : Sheet V). x.covered) none in
      ap (λ (x : Sheet V). x.covered) (get_or_past (set s.sheets k t) k (new_sheet []) (simp length-set (omega arith))) ∙ omega arith)
      (cases_lt k (length s.sheets))

  covers_all : (s : State V) (p : Plain) → Sound texts rule s p → (c : Call) → CoversAll texts rule s p c
  covers_all s p h c k n shown is =
      subst (λ (x : Call). Brought x (step texts rule s x)) (sym is)
      (by_row texts rule (λ o a. Brought (on_sheet k (bring_up shown)) a) s (on_sheet k (bring_up shown))
      (λ r. not_accepted r (by_sheet (SheetTold.added n))) (λ t u q. covered u q))
    where
      Brought : Call → Answer (Told V) × State V → Type 0
      Brought x a =
          a.0 ≡ accepted (by_sheet (SheetTold.added n)) →
          ((sheet a.1 k).covered ≡ (sheet s k).covered + n) × AllByRecursion (Covered (sheet a.1 k).covered) a.1.book.kept

      covered : Passed (sheet_own_rows s.book (sheet s k) (bring_up shown)) →
          Brought (on_sheet k (bring_up shown)) (accepted (effect texts rule s (on_sheet k (bring_up shown))).0, (effect texts rule s (on_sheet k (bring_up shown))).1)
      covered u q =
          let count : settled s.book - (sheet s k).covered ≡ n = cc in
          let long = firm_long texts rule s p h in
          let all = brought_up s k shown u in
          let m = (sheet (effect texts rule s (on_sheet k (bring_up shown))).1 k).covered in (
            omega arith,
            All-weaker (Fit texts limit (firm s.book)) (Covered m)
                (λ o. covered_whole m texts (firm s.book) o (omega arith)) s.book.kept h.books.whole,
          )

  tells_value : (s : State V) (p : Plain) → Sound texts rule s p → (c : Call) → TellsValue texts rule s p c
  tells_value s p h c k v i m shown x is =
      subst (λ (y : Call). Tells (step texts rule s y)) (sym is)
      (by_row texts rule (λ o a. Tells a) s (on_sheet k (summary v i m shown))
      (λ r. not_accepted r (by_sheet (SheetTold.value x))) (λ t u q. value_is t u q))
    where
      Tells : Answer (Told V) × State V → Type 0
      Tells a = a.0 ≡ accepted (by_sheet (SheetTold.value x)) → x ≡ rule.value (stretch i m (string p v))

      value_is : Passed (sheet_rows (lengths_of s.book) (summary v i m shown)) → Passed (sheet_own_rows s.book (sheet s k) (summary v i m shown)) →
          Tells (accepted (effect texts rule s (on_sheet k (summary v i m shown))).0, s)
      value_is t u q =
          let b = s.book in
          let tree = version b v in
          let sound = sound_sheet texts rule s p h k in
          let long = version_size texts b p h.books v in
          let inside = ltb-false (version_length (lengths_of b) v) (i + m) t.1.0 in
          let covered = (decides_covers (sheet s k).covered tree).0 (not-false (covers (sheet s k).covered tree) u.0) in
          let told : version_value texts rule (sheet s k).values tree i m ≡ x = cc in
          sym told
          ∙ version_value_is texts rule joins (firm b) (sheet s k).values (sheet s k).covered tree i m sound.right
          (version_whole texts b p h.books v) covered (omega arith)
          ∙ ap (λ (y : List ℕ). rule.value (stretch i m y)) (string_at texts b p h.books v)

  pub kept_versions : (records : ℕ) (sheets : List (List V)) (calls : List Call) → KeptVersions texts rule records sheets calls
  kept_versions records sheets calls =
      let start = new texts records sheets in
      let begin = new_sound texts rule records sheets in
      let r = run_follows texts rule joins start plain_new begin calls in
      let end = (run texts rule start calls).1.book in
      let books = r.0.books in
      let each = λ (P : State V → Plain → Call → Type 0) (f : (s : State V) (p : Plain) → Sound texts rule s p → (c : Call) → P s p c).
      every_call P f start plain_new begin calls in
      record {
        strings = record {
          versions = books.strings;
          draft = books.draft;
          noted = books.noted;
          few = books.few;
          short = subst (AllByRecursion (λ x. length x ≤ limit)) books.strings
              (All-map (λ x. length x ≤ limit) (spell_any texts) end.kept
              (All-weaker (Fit texts limit (firm end)) (λ o. length (spell_any texts o) ≤ limit) (whole_short texts (firm end)) end.kept books.whole));
          alike = r.1;
          same_rows = each (RefusedByBoth texts rule) (refused_by_both texts rule);
          rows = each (RefusedBySmallest texts rule) refused_by_smallest;
        };
        trees = record {
          allowed = run_allows start plain_new begin calls;
          low = All-weaker (Fit texts limit (firm end)) Low (whole_low texts (firm end)) end.kept books.whole;
          in_room = books.in_room;
          room = run_room texts rule start calls;
          counted = run_counts start plain_new begin nothing (record { kept = refl; drafted = refl }) calls;
        };
        summaries = record {
          covers = each (CoversAll texts rule) covers_all;
          stays = each (StaysCovered texts rule) stays_covered;
          tells = each (TellsValue texts rule) tells_value;
        };
      }

pub law : {V : Type 0} (rule : Rule V) → Joins rule.value rule.joined → Law rule
law rule joins texts records sheets calls = kept_versions texts rule joins records sheets calls
