-- The book without its slots is what the rules of trees allow for the same calls, and nothing else is.
use Rattle.std.proofs.Common.{◌≡◌, ℕ, ◌+◌, ◌-◌, ◌≤◌, false, ◌↔◌, List, [], ◌∷◌, ◌++◌, length, is_some, Some, None, Option, unwrap_or, sym, refl, ap, ◌∙◌, subst, ap₂, arith, length-append}
use lib.ListN.{length-map, get_or-map}
use Rattle.std.specs.Option.{option_map}
use Rattle.std.proofs.lemmas.List.{map_push}
use Rattle.std.proofs.lemmas.Bool.{ltb-false, or_parts, true≢false}
use Rattle.shelf.specs.Texts.{limit}
use Rattle.tree.specs.Tree.{Tree}
use Rattle.tree.specs.Edits.{size_any, Level, Fit}
use Rattle.tree.specs.Bare.{Bare, forget_any, PutAny}
use Rattle.tree.specs.Facts.{BareEdits, BareCounts}
use Rattle.tree.proofs.Bare.{follow_bare_rules}
use Rattle.model.specs.Calls.{Edit, put_piece, put_version, cut, crop, BookCall, open_version, edit, keep, toss, read, find, shape, Call, on_book, on_sheet, elsewhere}
use Rattle.model.specs.Answers.{accepted, BookTold, opened, edited, tossed, Told, by_book}
use Rattle.model.specs.Rows.{draft_length, past_draft, past_text, edit_rows, book_rows, plain_rows}
use Rattle.model.specs.Plain.{Plain}
use Rattle.tree.specs.Made.{put_any_made}
use Rattle.model.specs.Book.{Draft, Book, version, tree_of, settled_of, settled, lengths_of, built, made, book_effect}
use Rattle.model.specs.Sheet.{Rule}
use Rattle.model.specs.Runs.{State, step}
use Rattle.model.specs.Trees.{TreeBook, forgotten, TreeDraft, open_draft, tree, with_draft, shape_of, edit_made, EditsTo, AllowsBook, Allows}
use Rattle.model.proofs.Steps.{Passed, effect, by_row}
use Rattle.model.proofs.Shapes.{shape_forget}
use Rattle.model.proofs.Pairing.{firm, Paired, settled_le, draft_fit, draft_long, version_whole}

level : (texts : List (List ℕ)) (slots : List Tree) (o : Option Tree) → Fit texts limit slots o → Level o
level texts slots None w = tt
level texts slots (Some t) w = w.0.balanced

-- what is left is decided
only : {A : Type 0} (x y : A) → x ≡ y → (z : A) → z ≡ x ↔ z ≡ y
only x y e z = (λ p. p ∙ e, λ p. p ∙ sym e)

-- and so is what is told
told_and_left : {A B : Type 0} (told said : B) (x y : A) → told ≡ said → x ≡ y → (z : A) → (told ≡ said) × (z ≡ x) ↔ z ≡ y
told_and_left told said x y q e z = (λ p. p.1 ∙ e, λ p. (q, p ∙ sym e))

module _ (texts : List (List ℕ)) (b : Book) (p : Plain) (h : Paired texts b p) where
  abbrev now : TreeBook
  now = forgotten b

  draft_is : open_draft now ≡ record { tree = forget_any (tree_of b.draft); made = length b.slots - settled b }
  draft_is = go b.draft
    where
      bare : (tree : Option Tree) (base : ℕ) → TreeDraft
      bare tree base = record { tree = forget_any tree; made = length b.slots - base }

      go : (d : Option Draft) → unwrap_or {T = TreeDraft} (option_map (λ x. bare x.tree x.base) d) (record { tree = None; made = 0 })
          ≡ bare (tree_of d) (settled_of (length b.slots) d)
      go None = ap (λ (n : ℕ). record { tree = None; made = n }) (omega arith)
      go (Some d) = refl

  version_is : (v : ℕ) → tree now v ≡ forget_any (version b v)
  version_is v = get_or-map forget_any b.kept v None

  -- the rules that an edit follows and the slots that they take, and that they make nothing else
  abbrev Follows : Edit → Type 0
  Follows e =
      ((rules : EditsTo now e (forget_any (built b e).tree)) × (edit_made now e (forget_any (built b e).tree) rules ≡ made b e))
      × ((t : Option Bare) → EditsTo now e t → forget_any (built b e).tree ≡ t)

  follows : (e : Edit) → Passed (edit_rows (lengths_of b) e) → Follows e
  follows e passed = go e passed
    where
      balanced : Level (tree_of b.draft)
      balanced = level texts b.slots (tree_of b.draft) (draft_fit texts b p h)

      facts : BareEdits (length b.slots) (tree_of b.draft)
      facts = follow_bare_rules.1 (length b.slots) (tree_of b.draft) balanced

      counts : BareCounts (length b.slots) (tree_of b.draft)
      counts = follow_bare_rules.2 (length b.slots) (tree_of b.draft) balanced

      inside : (end : ℕ) → past_draft (lengths_of b) end ≡ false → end ≤ size_any (tree_of b.draft)
      inside end e = omega (arith, ltb-false (draft_length (lengths_of b)) end e, draft_long texts b.draft)

      go : (e : Edit) → Passed (edit_rows (lengths_of b) e) → Follows e
      go (put_piece q k i m) u =
          let le = inside q (or_parts (past_draft (lengths_of b) q) (past_text (lengths_of b) k (i + m)) u.1.1.0).0 in
          (rw draft_is (counts.puts_piece q k i m le), λ t rules. (facts.puts_piece q k i m le t).0 (rw draft_is at rules))
      go (put_version q v) u =
          let le = inside q u.1.1.0 in
          let x = version b v in
          let even = level texts (firm b) x (version_whole texts b p h v) in
          subst (λ (y : Option Bare). ((rules : PutAny (open_draft now).tree q y (forget_any (built b (put_version q v)).tree)) × (put_any_made rules ≡ made b (put_version q v)))
          × ((t : Option Bare) → PutAny (open_draft now).tree q y t → forget_any (built b (put_version q v)).tree ≡ t)) (sym (version_is v))
          (rw draft_is (counts.puts q x le even), λ t rules. (facts.puts q x le even t).0 (rw draft_is at rules))
      go (cut i m) u =
          let le = inside (i + m) u.1.0 in
          (rw draft_is (counts.cuts i m le), λ t rules. (facts.cuts i m le t).0 (rw draft_is at rules))
      go (crop i m) u =
          let le = inside (i + m) u.1.0 in
          (rw draft_is (counts.crops i m le), λ t rules. (facts.crops i m le t).0 (rw draft_is at rules))

  -- where no draft is open, all slots in use are settled
  settled_all : (d : Option Draft) → is_some (option_map (λ x. size_any x.tree) d) ≡ false → length b.slots - settled_of (length b.slots) d ≡ 0
  settled_all None e = omega arith
  settled_all (Some d) e = absurd (true≢false e)

  module _ (V : Type 0) where
    -- what an accepted call tells
    abbrev told : BookCall → Told V
    told c = by_book (book_effect texts b c).0

    book_allows : (c : BookCall) → Passed (book_rows (lengths_of b) c) → (after : TreeBook) →
        AllowsBook now c (told c) after ↔ after ≡ forgotten (book_effect texts b c).1
    book_allows (open_version v) t after =
        told_and_left (told (open_version v)) (by_book opened) (with_draft now (Some (record { tree = tree now v; made = 0 }))) (forgotten (book_effect texts b (open_version v)).1) refl
        (ap₂ (λ (x : Option Bare) (n : ℕ). with_draft now (Some (record { tree = x; made = n }))) (version_is v) (sym (settled_all b.draft t.1.0))) after
    book_allows (edit e) t after = (
      λ q. let same : made b e ≡ edit_made now e q.0 q.1 = edited_same q.2 in
          q.3 ∙ drafted q.0 (edit_made now e q.0 q.1) (sym (f.1 q.0 q.1)) (sym same),
      λ q. (
        forget_any (built b e).tree,
        f.0.0,
        ap (λ (n : ℕ). by_book (edited n)) (sym f.0.1),
        q ∙ sym (drafted (forget_any (built b e).tree) (edit_made now e (forget_any (built b e).tree) f.0.0) refl f.0.1),
      ),
    )
      where
        f : Follows e
        f = follows e t

        edited_same : {m n : ℕ} → ◌≡◌ {A = Told V} (by_book (edited m)) (by_book (edited n)) → m ≡ n
        edited_same q = cc

        drafted : (x : Option Bare) (n : ℕ) → x ≡ forget_any (built b e).tree → n ≡ made b e →
            with_draft now (Some (record { tree = x; made = (open_draft now).made + n })) ≡ forgotten (book_effect texts b (edit e)).1
        drafted x n p q =
            let le = settled_le texts b.slots b.draft h.drafted in
            let sum : (open_draft now).made + n ≡ length (b.slots ++ (built b e).new) - settled b =
            ap (λ (d : TreeDraft). d.made + n) draft_is ∙ simp length-append (omega arith) in
            ap₂ (λ (y : Option Bare) (k : ℕ). with_draft now (Some (record { tree = y; made = k }))) p sum
    book_allows keep t after =
        told_and_left (told keep) (by_book (BookTold.kept (length now.kept) (open_draft now).made))
        (record { kept = now.kept ++ (open_draft now).tree ∷ []; draft = None }) (forgotten (book_effect texts b keep).1)
        (ap₂ (λ (m n : ℕ). by_book (BookTold.kept m n)) (sym (length-map b.kept forget_any)) (sym (ap (λ (d : TreeDraft). d.made) draft_is)))
        (ap (λ (x : List (Option Bare)). record { kept = x; draft = None })
        (ap (λ (d : TreeDraft). now.kept ++ d.tree ∷ []) draft_is ∙ sym (map_push forget_any b.kept (tree_of b.draft)))) after
    book_allows toss t after = told_and_left (told toss) (by_book tossed) (with_draft now None) (with_draft now None) refl refl after
    book_allows (read v i m shown) t after = only now now refl after
    book_allows (find v i pattern shown) t after = only now now refl after
    book_allows (shape v) t after =
        told_and_left (told (shape v)) (by_book (shape_of (tree now v))) now now
        (ap (λ (x : BookTold). by_book x) (shape_forget (version b v) ∙ ap shape_of (sym (version_is v)))) refl after

module _ {V : Type 0} (texts : List (List ℕ)) (rule : Rule V) where
  pub step_allows : (s : State V) (p : Plain) → Paired texts s.book p → (c : Call) (after : TreeBook) →
      Allows (forgotten s.book) c (step texts rule s c).0 after ↔ after ≡ forgotten (step texts rule s c).1.book
  step_allows s p h c after =
      by_row texts rule (λ o a. Allows (forgotten s.book) c a.0 after ↔ after ≡ forgotten a.1.book) s c
      (λ r. only (forgotten s.book) (forgotten s.book) refl after) (λ t u. go c t)
    where
      go : (c : Call) → Passed (plain_rows (lengths_of s.book) c) →
          Allows (forgotten s.book) c (accepted (effect texts rule s c).0) after ↔ after ≡ forgotten (effect texts rule s c).1.book
      go (on_book c) t = book_allows texts s.book p h V c t after
      go (on_sheet k c) t = only (forgotten s.book) (forgotten s.book) refl after
      go elsewhere t = only (forgotten s.book) (forgotten s.book) refl after
