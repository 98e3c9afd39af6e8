-- A draft that is opened, edited and tossed leaves no trace.
use Rattle.std.proofs.Common.{◌≡◌, ℕ, cond, not, List, [], ◌∷◌, ◌++◌, map, length, take, is_some, Some, None, Option, sym, refl, ap, ◌∙◌, arith, take_all}
use Rattle.std.specs.Option.{option_map}
use Rattle.std.specs.List.{AllByRecursion}
use Rattle.tree.specs.Tree.{Tree}
use Rattle.tree.specs.Edits.{size_any}
use Rattle.model.specs.Calls.{BookCall, open_version, edit, keep, toss, read, find, shape, on_book}
use Rattle.model.specs.Book.{Draft, Book, settled_of, settled, built, with_draft}
use Rattle.model.specs.Sheet.{Rule}
use Rattle.model.specs.Runs.{State, step, run}
use Rattle.model.specs.Unchanged.{GoesOn, TossingUndoes}
use Rattle.model.proofs.Slots.{Extends, extends_refl, extends_append, extends_trans}
use Rattle.model.proofs.Steps.{not_none, row, effect, by_row}

-- c is b with more slots in use, all by a draft, and with that draft open, if any
record Over (b c : Book) : Type 0 where
  extends : Extends b.slots c.slots
  base : settled c ≡ length b.slots
  kept : c.kept ≡ b.kept
  lengths : c.lengths ≡ b.lengths
  room : c.room ≡ b.room

over_itself : (b : Book) → b.draft ≡ None → Over b b
over_itself b none = record {
  extends = extends_refl b.slots;
  base = ap (settled_of (length b.slots)) none;
  kept = refl;
  lengths = refl;
  room = refl;
}

-- with b's slots and no draft it is b
over_closed : (b c : Book) → Over b c → b.draft ≡ None → (slots : List Tree) → slots ≡ b.slots → with_draft c slots None ≡ b
over_closed b c o none slots e =
    λ i. record { slots = e i; kept = o.kept i; draft = sym none i; lengths = o.lengths i; room = o.room i }

module _ {V : Type 0} (texts : List (List ℕ)) (rule : Rule V) where
  module _ (s : State V) where
    record Undoable (t : State V) : Type 0 where
      book : Over s.book t.book
      sheets : t.sheets ≡ s.sheets

    goes_on : (t : State V) (c : BookCall) → Undoable t → GoesOn c → Undoable (step texts rule t (on_book c)).1
    goes_on t c u g = by_row texts rule (λ o a. Undoable a.1) t (on_book c) (λ r. u) (λ p q. go c g)
      where
        o : Over s.book t.book
        o = u.book

        go : (c : BookCall) → GoesOn c → Undoable (effect texts rule t (on_book c)).1
        go (open_version v) g = record {
          book = record { extends = o.extends; base = o.base; kept = o.kept; lengths = o.lengths; room = o.room };
          sheets = u.sheets;
        }
        go (edit e) g = record {
          book = record {
            extends = extends_trans s.book.slots t.book.slots (t.book.slots ++ (built t.book e).new) o.extends
                (extends_append t.book.slots (built t.book e).new);
            base = o.base;
            kept = o.kept;
            lengths = o.lengths;
            room = o.room;
          };
          sheets = u.sheets;
        }
        go keep g = absurd (g.0 refl)
        go toss g = absurd (g.1 refl)
        go (read v i m shown) g = u
        go (find v i pattern shown) g = u
        go (shape v) g = u

    module _ (none : s.book.draft ≡ None) where
      tossed : (t : State V) → Undoable t → (step texts rule t (on_book toss)).1 ≡ s
      tossed t u =
          by_row texts rule (λ o a. row t (on_book toss) ≡ o → a.1 ≡ s) t (on_book toss) (λ r e. refused_toss t.book.draft refl r e)
          (λ p q e. closed (take (settled t.book) t.book.slots) (ap (λ (n : ℕ). take n t.book.slots) u.book.base ∙ u.book.extends)) refl
        where
          closed : (slots : List Tree) → slots ≡ s.book.slots → record { book = with_draft t.book slots None; sheets = t.sheets } ≡ s
          closed slots e = let b = over_closed s.book t.book u.book none slots e in λ i. record { book = b i; sheets = u.sheets i }

          -- only where there was no draft to toss
          refused_toss : (d : Option Draft) → t.book.draft ≡ d → (r : ℕ) → row t (on_book toss) ≡ Some r → t ≡ s
          refused_toss None e r q =
              let long : length t.book.slots ≡ length s.book.slots = sym (ap (settled_of (length t.book.slots)) e) ∙ u.book.base in
              let all : t.book.slots ≡ s.book.slots = sym (take_all (length s.book.slots) t.book.slots (omega arith)) ∙ u.book.extends in
              ap (λ (x : Option Draft). record { book = with_draft t.book t.book.slots x; sheets = t.sheets }) e ∙ closed t.book.slots all
          refused_toss (Some d) e r q =
              let passes : row t (on_book toss) ≡ None = ap (λ (x : Option Draft). cond (not (is_some (option_map (λ y. size_any y.tree) x))) (Some 7) None) e in
              not_none r (sym passes ∙ q)

      between_tossed : (t : State V) → Undoable t → (between : List BookCall) → AllByRecursion GoesOn between →
          (run texts rule t (map on_book between ++ on_book toss ∷ [])).1 ≡ s
      between_tossed t u [] a = tossed t u
      between_tossed t u (c ∷ between) a = between_tossed (step texts rule t (on_book c)).1 (goes_on t c u a.0) between a.1

pub tossing_undoes : {V : Type 0} (rule : Rule V) → TossingUndoes rule
tossing_undoes rule texts s v between none a =
    between_tossed texts rule s none s (record { book = over_itself s.book none; sheets = refl }) (open_version v ∷ between) ((goes, ends), a)
  where
    goes : open_version v ≡ keep → ⊥
    goes e = let z : ◌≡◌ {A = ℕ} 0 1 = cc in omega arith

    ends : open_version v ≡ toss → ⊥
    ends e = let z : ◌≡◌ {A = ℕ} 0 1 = cc in omega arith
