-- Kept versions stay, and a sheet covers no less after a call than before.
use Rattle.std.proofs.Common.{◌≡◌, ℕ, ◌<◌, ◌≤◌, List, [], ◌∷◌, ◌++◌, length, get_or, take, set, Some, None, Option, sym, refl, ◌∙◌, subst, ⊎_elim, le_trans, arith}
use Rattle.std.proofs.lemmas.List.{get_or-set_same, get_or-set_other, get_or_past}
use Rattle.std.proofs.lemmas.Bool.{cases_eq, cases_lt}
use Rattle.tree.specs.Tree.{Tree}
use Rattle.model.specs.Calls.{open_version, edit, keep, toss, read, find, shape, SheetCall, bring_up, summary, Call, on_book, on_sheet, elsewhere}
use Rattle.model.specs.Book.{Draft, Book, version, tree_of, settled, built, with_draft}
use Rattle.model.specs.Sheet.{Rule, Sheet, new_sheet, sheet_effect}
use Rattle.model.specs.Runs.{State, sheet, step, run}
use Rattle.model.specs.Unchanged.{VersionsStay, CoverageStays}
use Rattle.model.proofs.Slots.{Extends, extends_refl, extends_append, extends_trans, get_or_extends}
use Rattle.model.proofs.Steps.{effect, by_row}

-- c has the versions of b, perhaps more, and as many slots
record Carries (b c : Book) : Type 0 where
  versions : Extends b.kept c.kept
  room : c.room ≡ b.room

redrafted : (b : Book) (slots : List Tree) (draft : Option Draft) → Carries b (with_draft b slots draft)
redrafted b slots draft = record { versions = extends_refl b.kept; room = refl }

module _ {V : Type 0} (texts : List (List ℕ)) (rule : Rule V) where
  effect_carries : (s : State V) (c : Call) → Carries s.book (effect texts rule s c).1.book
  effect_carries s c = go c
    where
      b : Book
      b = s.book

      go : (c : Call) → Carries s.book (effect texts rule s c).1.book
      go (on_book (open_version v)) = redrafted b b.slots (Some (record { tree = version b v; base = settled b }))
      go (on_book (edit e)) = redrafted b (b.slots ++ (built b e).new) (Some (record { tree = (built b e).tree; base = settled b }))
      go (on_book keep) = record { versions = extends_append b.kept (tree_of b.draft ∷ []); room = refl }
      go (on_book toss) = redrafted b (take (settled b) b.slots) None
      go (on_book (read v i m shown)) = redrafted b b.slots b.draft
      go (on_book (find v i pattern shown)) = redrafted b b.slots b.draft
      go (on_book (shape v)) = redrafted b b.slots b.draft
      go (on_sheet k c) = redrafted b b.slots b.draft
      go elsewhere = redrafted b b.slots b.draft

  step_carries : (s : State V) (c : Call) → Carries s.book (step texts rule s c).1.book
  step_carries s c =
      by_row texts rule (λ o a. Carries s.book a.1.book) s c (λ r. redrafted s.book s.book.slots s.book.draft) (λ t u. effect_carries s c)

  run_carries : (s : State V) (calls : List Call) → Carries s.book (run texts rule s calls).1.book
  run_carries s [] = redrafted s.book s.book.slots s.book.draft
  run_carries s (c ∷ calls) =
      let next = (step texts rule s c).1 in
      let one = step_carries s c in
      let more = run_carries next calls in
      record {
        versions = extends_trans s.book.kept next.book.kept (run texts rule next calls).1.book.kept one.versions more.versions;
        room = more.room ∙ one.room;
      }

  pub run_room : (s : State V) (calls : List Call) → (run texts rule s calls).1.book.room ≡ s.book.room
  run_room s calls = (run_carries s calls).room

  pub version_stays : (s : State V) (c : Call) (v : ℕ) → v < length s.book.kept → version (step texts rule s c).1.book v ≡ version s.book v
  version_stays s c v l = get_or_extends s.book.kept (step texts rule s c).1.book.kept v None (step_carries s c).versions l

  call_covers : (b : Book) (t : Sheet V) (c : SheetCall) → t.covered ≤ (sheet_effect texts rule b t c).1.covered
  call_covers b t (bring_up shown) = omega arith
  call_covers b t (summary v i m shown) = omega arith

  set_covers : (ts : List (Sheet V)) (k j : ℕ) (t : Sheet V) → (get_or ts j (new_sheet [])).covered ≤ t.covered →
      (get_or ts k (new_sheet [])).covered ≤ (get_or (set ts j t) k (new_sheet [])).covered
  set_covers ts k j t h =
      ⊎_elim
      (λ (e : k ≡ j). ⊎_elim
      (λ (l : j < length ts). subst (λ (x : ℕ). (get_or ts x (new_sheet [])).covered ≤ (get_or (set ts j t) x (new_sheet [])).covered) (sym e)
      (subst (λ (x : Sheet V). (get_or ts j (new_sheet [])).covered ≤ x.covered) (sym (get_or-set_same ts j t (new_sheet []) l)) h))
      (λ (l : length ts ≤ j). subst (λ (x : Sheet V). x.covered ≤ (get_or (set ts j t) k (new_sheet [])).covered) (sym (get_or_past ts k (new_sheet []) (omega arith))) (omega arith))
      (cases_lt j (length ts)))
      (λ (n : k ≡ j → ⊥). subst (λ (x : Sheet V). (get_or ts k (new_sheet [])).covered ≤ x.covered) (sym (get_or-set_other ts j k t (new_sheet []) n)) (omega arith))
      (cases_eq k j)

  effect_covers : (s : State V) (c : Call) (k : ℕ) → (sheet s k).covered ≤ (sheet (effect texts rule s c).1 k).covered
  effect_covers s (on_book c) k = omega arith
  effect_covers s (on_sheet j c) k =
      set_covers s.sheets k j (sheet_effect texts rule s.book (sheet s j) c).1 (call_covers s.book (sheet s j) c)
  effect_covers s elsewhere k = omega arith

  pub step_covers : (s : State V) (c : Call) (k : ℕ) → (sheet s k).covered ≤ (sheet (step texts rule s c).1 k).covered
  step_covers s c k =
      by_row texts rule (λ o a. (sheet s k).covered ≤ (sheet a.1 k).covered) s c (λ r. omega arith) (λ t u. effect_covers s c k)

  run_covers : (s : State V) (calls : List Call) (k : ℕ) → (sheet s k).covered ≤ (sheet (run texts rule s calls).1 k).covered
  run_covers s [] k = omega arith
  run_covers s (c ∷ calls) k = le_trans (step_covers s c k) (run_covers (step texts rule s c).1 calls k)

pub coverage_stays : {V : Type 0} (rule : Rule V) → CoverageStays rule
coverage_stays rule texts s calls k = run_covers texts rule s calls k

pub versions_stay : {V : Type 0} (rule : Rule V) → VersionsStay rule
versions_stay rule texts s calls = (run_carries texts rule s calls).versions
