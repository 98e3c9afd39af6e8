-- What the shape of a version says of a read from it.
use Rattle.std.proofs.Common.{◌≡◌, ℕ, ◌+◌, ◌<◌, Bool, true, false, cond, List, map, length, get_or, Some, None, Option, refl, ap, ◌∙◌, arith}
use Rattle.std.proofs.lemmas.List.{get_or-map, length-map}
use Rattle.std.proofs.lemmas.Bool.{leb-false, lt-ltb}
use Rattle.tree.specs.Edits.{size_any}
use Rattle.tree.specs.Tree.{Tree}
use Rattle.model.specs.Answers.{Answer, refused, accepted, unless, BookTold}
use Rattle.model.specs.Book.{Book, version, lengths_of, shape_of, book_step}
use Rattle.model.specs.Calls as calls
use Rattle.model.specs.Rows.{not_kept, past_version}
use Rattle.ask.specs.declared.questions.Dimensions.{Dimensions}
use Rattle.ask.specs.Told.{shape_told}

module _ (b : Book) (told : BookTold) where
  -- a call that row 5 alone can refuse is refused by it, and so is any other call whose first row it is
  by_kept : (t : Bool) (rest : Option ℕ) (effect : BookTold × Book) (n : ℕ) →
      unless (cond t (Some 5) None) b (told, b) ≡ (refused n, b) → unless (cond t (Some 5) rest) b effect ≡ (refused n, b)
  by_kept true rest effect n e = e
  by_kept false rest effect n e =
      let f : accepted told ≡ refused n = ap (λ (r : Answer BookTold × Book). r.0) e in cc

  -- where it is accepted, the row does not fit
  accepts : (t : Bool) (x : BookTold) → unless (cond t (Some 5) None) b (told, b) ≡ (accepted x, b) → (t ≡ false) × (told ≡ x)
  accepts true x e =
      let f : refused 5 ≡ accepted x = ap (λ (r : Answer BookTold × Book). r.0) e in (cc, cc)
  accepts false x e = let f : accepted told ≡ accepted x = ap (λ (r : Answer BookTold × Book). r.0) e in (refl, cc)

module _ (texts : List (List ℕ)) (b : Book) (v : ℕ) where
  pub read_refused : (n : ℕ) → book_step texts b (calls.shape v) ≡ (refused n, b) → (from len : ℕ) (shown : List ℕ) →
      book_step texts b (calls.read v from len shown) ≡ (refused n, b)
  read_refused n e from len shown = by_kept b (shape_of (version b v)) (not_kept (lengths_of b) v) _ _ n e

  size_told : (t : Option Tree) (d : Dimensions) → shape_of t ≡ shape_told d → size_any t ≡ d.len
  size_told None d e = cc
  size_told (Some t) d e = cc

  pub read_past : (d : Dimensions) → book_step texts b (calls.shape v) ≡ (accepted (shape_told d), b) → (from len : ℕ) (shown : List ℕ) →
      d.len < len → book_step texts b (calls.read v from len shown) ≡ (refused 9, b)
  read_past d e from len shown h =
      let f = accepts b (shape_of (version b v)) (not_kept (lengths_of b) v) (shape_told d) e in
      let kept : v < length (map size_any b.kept) = leb-false (length (map size_any b.kept)) v f.0 in
      let long : get_or (map size_any b.kept) v 0 ≡ d.len =
      get_or-map size_any b.kept v None 0 (simp length-map at kept) ∙ size_told (version b v) d f.1 in
      let past : past_version (lengths_of b) v (from + len) ≡ true = lt-ltb (get_or (map size_any b.kept) v 0) (from + len) (omega arith) in
      rw (f.0, past) refl
