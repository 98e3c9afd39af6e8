-- The tests of the rows decide their conditions, so the smallest row that fits refuses.
use Rattle.std.proofs.Common.{◌≡◌, ℕ, ◌+◌, ◌≤◌, Bool, true, false, cond, not, ◌&&◌, eqb, ltb, leb, List, [], ◌∷◌, length, is_some, Some, None, Decides, Option, sym, refl, ap, inl, inr, lit<}
use Rattle.std.proofs.lemmas.Bool.{both_ways, leb-true, le-leb, true≢false}
use Rattle.std.proofs.lemmas.Bool.Decides.{Decides-eqb, Decides-ltb, Decides-or, Decides-not, Decides-and}
use Rattle.shelf.specs.Texts.{limit}
use Rattle.tree.specs.Tree.{Tree, piece, node}
use Rattle.model.specs.Calls.{Edit, put_piece, put_version, cut, crop, open_version, edit, keep, toss, read, find, shape, bring_up, summary, Call, on_book, on_sheet, elsewhere}
use Rattle.model.specs.Rows.{most_versions, longest_pattern, text_length, version_length, draft_length, not_kept, draft_open, no_draft, past_text, past_version, past_draft, too_long, no_pattern, first_row}
use Rattle.model.specs.Book.{Book, lengths_of, settled, made, free, same, version}
use Rattle.model.specs.Sheet.{covers_tree, covers}
use Rattle.model.specs.Runs.{State, sheet, rows}
use Rattle.model.specs.Table.{HasValue, NotKept, DraftOpen, NoDraft, PastText, PastVersion, PastDraft, TooLong, NoRoom, NoPattern, OtherTexts, CoveredTree, Covered, Table, Smallest, Ascending, Decide, TableFacts}

smallest_first : (tests : List (ℕ × Bool)) (conditions : List (ℕ × Type 0)) → Decide tests conditions → Smallest conditions (first_row tests)
smallest_first [] [] a = refl
smallest_first [] (c ∷ cs) a = absurd a
smallest_first (t ∷ ts) [] a = absurd a
smallest_first (t ∷ ts) (c ∷ cs) a = go t.1 refl (smallest_first ts cs a.2)
  where
    go : (x : Bool) → t.1 ≡ x → Smallest cs (first_row ts) → Smallest (c ∷ cs) (cond x (Some t.0) (first_row ts))
    go true e r = inl (a.1.0 e, ap {B = Option ℕ} Some a.0)
    go false e r = inr (λ h. both_ways t.1 e (a.1.1 h), r)

decides_leb : (a b : ℕ) → Decides (leb a b) (a ≤ b)
decides_leb a b = (leb-true a b, le-leb a b)

decides_some : {A : Type 0} (o : Option A) → Decides (is_some o) (HasValue o)
decides_some None = (λ e. true≢false (sym e), λ h. absurd h)
decides_some (Some x) = (λ e. tt, λ h. refl)

pub decides_same : (xs ys : List ℕ) → Decides (same xs ys) (xs ≡ ys)
decides_same [] [] = (λ e. refl, λ e. refl)
decides_same [] (y ∷ ys) = (λ e. absurd (true≢false (sym e)), λ e. cc)
decides_same (x ∷ xs) [] = (λ e. absurd (true≢false (sym e)), λ e. cc)
decides_same (x ∷ xs) (y ∷ ys) =
    let d = Decides-and (eqb x y) (same xs ys) (Decides-eqb x y) (decides_same xs ys) in
    (λ e. both (d.0 e), λ e. d.1 (heads e, tails e))
  where
    both : (x ≡ y) × (xs ≡ ys) → x ∷ xs ≡ y ∷ ys
    both p = let a = p.0 in let b = p.1 in cc

    heads : x ∷ xs ≡ y ∷ ys → x ≡ y
    heads e = cc

    tails : x ∷ xs ≡ y ∷ ys → xs ≡ ys
    tails e = cc

decides_tree : (n : ℕ) (t : Tree) → Decides (covers_tree n t) (CoveredTree n t)
decides_tree n (piece s k i m) = Decides-ltb s n
decides_tree n (node s l r) =
    let d = Decides-and (ltb s n) (covers_tree n l && covers_tree n r) (Decides-ltb s n)
    (Decides-and (covers_tree n l) (covers_tree n r) (decides_tree n l) (decides_tree n r)) in
    (λ e. ((d.0 e).0, (d.0 e).1.0, (d.0 e).1.1), λ h. d.1 (h.0, (h.1, h.2)))

pub decides_covers : (n : ℕ) (o : Option Tree) → Decides (covers n o) (Covered n o)
decides_covers n None = (λ e. tt, λ h. refl)
decides_covers n (Some t) = decides_tree n t

module _ (b : Book) where
  decides_kept : (v : ℕ) → Decides (not_kept (lengths_of b) v) (NotKept b v)
  decides_kept v = decides_leb (length (lengths_of b).versions) v

  decides_draft : Decides (draft_open (lengths_of b)) (DraftOpen b)
  decides_draft = decides_some (lengths_of b).draft

  decides_no_draft : Decides (no_draft (lengths_of b)) (NoDraft b)
  decides_no_draft = Decides-not (draft_open (lengths_of b)) decides_draft

  decides_past_draft : (end : ℕ) → Decides (past_draft (lengths_of b) end) (PastDraft b end)
  decides_past_draft end = Decides-ltb (draft_length (lengths_of b)) end

  decides_past_version : (v end : ℕ) → Decides (past_version (lengths_of b) v end) (PastVersion b v end)
  decides_past_version v end = Decides-ltb (version_length (lengths_of b) v) end

  decides_past_text : (k end : ℕ) → Decides (past_text (lengths_of b) k end) (PastText b k end)
  decides_past_text k end = Decides-ltb (text_length (lengths_of b) k) end

  decides_long : (more : ℕ) → Decides (too_long (lengths_of b) more) (TooLong b more)
  decides_long more = Decides-ltb limit (draft_length (lengths_of b) + more)

  decides_room : (e : Edit) → Decides (ltb (free b) (made b e)) (NoRoom b e)
  decides_room e = Decides-ltb (free b) (made b e)

  decides_texts : (shown : List ℕ) → Decides (not (same shown b.lengths)) (OtherTexts b shown)
  decides_texts shown = Decides-not (same shown b.lengths) (decides_same shown b.lengths)

decides_pattern : (pattern : List ℕ) → Decides (no_pattern pattern) (NoPattern pattern)
decides_pattern pattern =
    Decides-or (eqb (length pattern) 0) (ltb longest_pattern (length pattern)) (Decides-eqb (length pattern) 0) (Decides-ltb longest_pattern (length pattern))

decided : {V : Type 0} (s : State V) (c : Call) → Decide (rows s c) (Table s c)
decided s c = go c
  where
    b : Book
    b = s.book

    go : (c : Call) → Decide (rows s c) (Table s c)
    go (on_book (open_version v)) = (refl, decides_kept b v, (refl, decides_draft b, tt))
    go (on_book (edit (put_piece p k i m))) =
        let past = Decides-or (past_draft (lengths_of b) p) (past_text (lengths_of b) k (i + m)) (decides_past_draft b p) (decides_past_text b k (i + m)) in (
          refl,
          decides_no_draft b,
          (refl, decides_leb (length b.lengths) k, (refl, past, (refl, Decides-eqb m 0, (refl, decides_long b m, (refl, decides_room b (put_piece p k i m), tt))))),
        )
    go (on_book (edit (put_version p v))) = (
      refl,
      decides_kept b v,
      (refl, decides_no_draft b, (refl, decides_past_draft b p, (refl, decides_long b (version_length (lengths_of b) v), (refl, decides_room b (put_version p v), tt)))),
    )
    go (on_book (edit (cut i m))) = (refl, decides_no_draft b, (refl, decides_past_draft b (i + m), (refl, decides_room b (cut i m), tt)))
    go (on_book (edit (crop i m))) = (refl, decides_no_draft b, (refl, decides_past_draft b (i + m), (refl, decides_room b (crop i m), tt)))
    go (on_book keep) = (refl, decides_no_draft b, (refl, decides_leb most_versions (length (lengths_of b).versions), tt))
    go (on_book toss) = (refl, decides_no_draft b, tt)
    go (on_book (read v i m shown)) = (refl, decides_kept b v, (refl, decides_past_version b v (i + m), (refl, decides_texts b shown, tt)))
    go (on_book (find v i pattern shown)) =
        (refl, decides_kept b v, (refl, decides_past_version b v i, (refl, decides_pattern pattern, (refl, decides_texts b shown, tt))))
    go (on_book (shape v)) = (refl, decides_kept b v, tt)
    go (on_sheet k (bring_up shown)) = (refl, Decides-ltb (length (sheet s k).values) (settled b), (refl, decides_texts b shown, tt))
    go (on_sheet k (summary v i m shown)) =
        let n = (sheet s k).covered in
        let uncovered = Decides-not (covers n (version b v)) (decides_covers n (version b v)) in
        (refl, decides_kept b v, (refl, decides_past_version b v (i + m), (refl, uncovered, (refl, decides_texts b shown, tt))))
    go elsewhere = tt

ascending : {V : Type 0} (s : State V) (c : Call) → Ascending (Table s c)
ascending s (on_book (open_version v)) = (lit< tt, tt)
ascending s (on_book (edit (put_piece p k i m))) = (lit< tt, (lit< tt, (lit< tt, (lit< tt, (lit< tt, tt)))))
ascending s (on_book (edit (put_version p v))) = (lit< tt, (lit< tt, (lit< tt, (lit< tt, tt))))
ascending s (on_book (edit (cut i m))) = (lit< tt, (lit< tt, tt))
ascending s (on_book (edit (crop i m))) = (lit< tt, (lit< tt, tt))
ascending s (on_book keep) = (lit< tt, tt)
ascending s (on_book toss) = tt
ascending s (on_book (read v i m shown)) = (lit< tt, (lit< tt, tt))
ascending s (on_book (find v i pattern shown)) = (lit< tt, (lit< tt, (lit< tt, tt)))
ascending s (on_book (shape v)) = tt
ascending s (on_sheet k (bring_up shown)) = (lit< tt, tt)
ascending s (on_sheet k (summary v i m shown)) = (lit< tt, (lit< tt, (lit< tt, tt)))
ascending s elsewhere = tt

pub table_facts : {V : Type 0} → TableFacts V
table_facts = record { ascending = ascending; decided = decided }

pub smallest : {V : Type 0} (s : State V) (c : Call) → Smallest (Table s c) (first_row (rows s c))
smallest s c = smallest_first (rows s c) (Table s c) (decided s c)
