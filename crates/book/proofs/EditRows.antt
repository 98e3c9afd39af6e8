-- The rows of each edit, and the change of the tree that it makes.
use Rattle.std.proofs.Common.{◌≡◌, ℕ, ◌+◌, ◌<◌, ◌≤◌, true, false, cond, ◌||◌, eqb, leb, ◌⊎◌, List, length, get_or, Some, None, Option, Result, sym, ap, ◌∙◌, subst, ap₂, ⊎_elim, arith}
use Rattle.std.specs.List.{slice_get}
use Rattle.std.proofs.lemmas.Bool.{lt-leb, lt-ltb, le-ltb, eq-eqb, ne_eqb, or_left, or_right, or_from, cond-true, cond-false}
use Rattle.shelf.specs.Texts.{limit}
use Rattle.tree.specs.Tree as trees
use Rattle.tree.specs.Edits as rules
use Rattle.tree.specs.Edits.{size_any}
use Rattle.model.specs.Answers.{refused, BookTold}
use Rattle.model.specs.Book as model
use Rattle.model.specs.Book.{lengths_of, built}
use Rattle.model.specs.Calls.{Edit, put_piece, put_version, cut, crop, edit}
use Rattle.model.specs.Rows.{Lengths, first_row, edit_rows, past_draft, past_text, too_long}
use Rattle.book.specs.declared.contents.Contents.{Contents}
use Rattle.book.specs.declared.contents.OpenDraft.{OpenDraft}
use Rattle.book.specs.declared.fault.BookFault.{BookFault}
use Rattle.book.specs.declared.node.Change.{Change}
use Rattle.book.specs.declared.node.Change.TheVariants.{Piece, Tree, Cut, Crop}
use Rattle.book.specs.Records.{Store}
use Rattle.book.specs.Changing.{Root, any_in, changed}
use Rattle.book.specs.Contents.{noted, versions, Consistent}
use Rattle.book.specs.Faults.{number, answer}
use Rattle.book.specs.Judging.{PieceFits, Accepts}
use Rattle.book.specs.Tests.{consistent}
use Rattle.book.specs.View.{view_of, Steps, Fits, Redrafts}
use Rattle.book.proofs.Stores.{length_slots}
use Rattle.book.proofs.Shown.{drafting, version_kept, version_is, version_size, version_root}
use Rattle.book.proofs.Calls.{version_there, with_draft, steps_from}
use Rattle.book.proofs.Redrafting.{row_refuses, edit_steps}

-- the rows of an edit, where the draft has `n` bytes
module _ (texts versions : List ℕ) (n : ℕ) where
  abbrev lengths : Lengths
  lengths = record { texts = texts; versions = versions; draft = Some n }

  pub cut_passes : (from len : ℕ) → from + len ≤ n → first_row (edit_rows lengths (cut from len)) ≡ None
  cut_passes from len h = cond-false _ _ _ (le-ltb n (from + len) h)

  -- a piece
  module _ (place text from len : ℕ) where
    module _ (there : text < length texts) where
      text_there : first_row (edit_rows lengths (put_piece place text from len)) ≡ cond (past_draft lengths place || past_text lengths text (from + len)) (Some 9)
          (cond (eqb len 0) (Some 10) (cond (too_long lengths len) (Some 11) None))
      text_there = cond-false _ _ _ (lt-leb (length texts) text there)

      pub piece_past : (n < place) ⊎ (get_or texts text 0 < from + len) → first_row (edit_rows lengths (put_piece place text from len)) ≡ Some 9
      piece_past h = text_there ∙ cond-true _ _ _ (⊎_elim
          (λ (x : n < place). or_left (past_draft lengths place) (past_text lengths text (from + len)) (lt-ltb n place x))
          (λ (x : get_or texts text 0 < from + len). or_right (past_draft lengths place) (past_text lengths text (from + len)) (lt-ltb (get_or texts text 0) (from + len) x)) h)

      module _ (inside : place ≤ n) (whole : from + len ≤ get_or texts text 0) where
        in_text : first_row (edit_rows lengths (put_piece place text from len)) ≡ cond (eqb len 0) (Some 10) (cond (too_long lengths len) (Some 11) None)
        in_text = text_there ∙ cond-false _ _ _ (or_from _ _ (le-ltb n place inside) (le-ltb (get_or texts text 0) (from + len) whole))

        pub piece_empty : len ≡ 0 → first_row (edit_rows lengths (put_piece place text from len)) ≡ Some 10
        piece_empty h = in_text ∙ cond-true _ _ _ (eq-eqb len 0 h)

        pub piece_long : 0 < len → limit < n + len → first_row (edit_rows lengths (put_piece place text from len)) ≡ Some 11
        piece_long some h = in_text ∙ cond-false _ _ _ (ne_eqb len 0 (omega arith)) ∙ cond-true _ _ _ (lt-ltb limit (n + len) h)

        pub piece_passes : 0 < len → n + len ≤ limit → first_row (edit_rows lengths (put_piece place text from len)) ≡ None
        piece_passes some h = in_text ∙ cond-false _ _ _ (ne_eqb len 0 (omega arith)) ∙ cond-false _ _ _ (le-ltb limit (n + len) h)

  -- a version
  module _ (place v : ℕ) (there : leb (length versions) v ≡ false) where
    is_kept : first_row (edit_rows lengths (put_version place v)) ≡ cond (past_draft lengths place) (Some 9) (cond (too_long lengths (get_or versions v 0)) (Some 11) None)
    is_kept = cond-false _ _ _ there

    pub version_past : n < place → first_row (edit_rows lengths (put_version place v)) ≡ Some 9
    version_past h = is_kept ∙ cond-true _ _ _ (lt-ltb n place h)

    module _ (inside : place ≤ n) where
      pub version_long : limit < n + get_or versions v 0 → first_row (edit_rows lengths (put_version place v)) ≡ Some 11
      version_long h = is_kept ∙ cond-false _ _ _ (le-ltb n place inside) ∙ cond-true _ _ _ (lt-ltb limit (n + get_or versions v 0) h)

      pub version_passes : n + get_or versions v 0 ≤ limit → first_row (edit_rows lengths (put_version place v)) ≡ None
      version_passes h = is_kept ∙ cond-false _ _ _ (le-ltb n place inside) ∙ cond-false _ _ _ (le-ltb limit (n + get_or versions v 0) h)

-- a draft is open
pub record Begun (s : Store) (c : Contents) (d : OpenDraft) : Type 0 where
  pub begun : c.draft ≡ Some d
  pub whole : Consistent s (drafting c (Some d))

pub begins : (s : Store) (c : Contents) (d : OpenDraft) → c.draft ≡ Some d → consistent s c ≡ true → Begun s c d
begins s c d e t = record { begun = e; whole = with_draft c e t }

-- contents with their own draft
module _ (s : Store) (c : Contents) {o : Option OpenDraft} (is : c.draft ≡ o) (e : Edit) where
  pub rows_from : {row : Option ℕ} → first_row (edit_rows (lengths_of (view_of s (drafting c o))) e) ≡ row → first_row (edit_rows (lengths_of (view_of s c)) e) ≡ row
  rows_from {row} h = subst (λ (x : Option OpenDraft). first_row (edit_rows (lengths_of (view_of s (drafting c x))) e) ≡ row) (sym is) h

-- a version is put in where no draft is open
pub version_closed : {s : Store} {c : Contents} → Consistent s c → (place v : ℕ) (root : Option ℕ) → slice_get (versions c) v ≡ Some root → c.draft ≡ None →
    first_row (edit_rows (lengths_of (view_of s c)) (put_version place v)) ≡ Some 7
version_closed {s} {c} w place v root is e =
    rows_from s c e (put_version place v) (cond-false _ _ _ (version_there w v (version_kept w v root is)))

-- the open draft has `n` bytes
module _ {s : Store} {c : Contents} {d : OpenDraft} (g : Begun s c d) (n : ℕ) (long : n ≡ size_any (any_in s d.root)) where
  w : Consistent s (drafting c (Some d))
  w = g.whole

  abbrev b : model.Book
  b = view_of s (drafting c (Some d))

  pub rows_of : (e : Edit) {row : Option ℕ} → first_row (edit_rows (record { texts = noted c; versions = (lengths_of b).versions; draft = Some n }) e) ≡ row →
      first_row (edit_rows (lengths_of (view_of s c)) e) ≡ row
  rows_of e {row} h = rows_from s c g.begun e
      (subst (λ (m : ℕ). first_row (edit_rows (record { texts = noted c; versions = (lengths_of b).versions; draft = Some m }) e) ≡ row) long h)

  accepts : (e : Edit) (x : Change) → first_row (edit_rows (record { texts = noted c; versions = (lengths_of b).versions; draft = Some n }) e) ≡ None →
      Fits s c d.root x → built b e ≡ changed s d.root x → Accepts s c e d x
  accepts e x none fits is = record {
    begun = g.begun;
    passes = rows_of e none;
    fits = fits;
    built = subst (λ (o : Option OpenDraft). built (view_of s (drafting c o)) e ≡ changed s d.root x) (sym g.begun) is;
  }

  pub cut_accepted : (from len : ℕ) → from + len ≤ n → Accepts s c (cut from len) d (Cut from len)
  cut_accepted from len h =
      accepts (cut from len) (Cut from len) (cut_passes (noted c) (lengths_of b).versions n from len h) tt (ap (λ (m : ℕ). rules.cut m (any_in s d.root) from len) (length_slots w.ready))

  pub crop_accepted : (from len : ℕ) → from + len ≤ n → Accepts s c (crop from len) d (Crop from len)
  crop_accepted from len h =
      accepts (crop from len) (Crop from len) (cut_passes (noted c) (lengths_of b).versions n from len h) tt (ap (λ (m : ℕ). rules.crop m (any_in s d.root) from len) (length_slots w.ready))

  pub piece_accepted : (place text from len : ℕ) → PieceFits (noted c) n place text from len → Accepts s c (put_piece place text from len) d (Piece place text from len)
  piece_accepted place text from len f =
      let short = f.short in
      accepts (put_piece place text from len) (Piece place text from len) (piece_passes (noted c) (lengths_of b).versions n place text from len f.there f.inside f.whole f.some f.short)
      (f.some, f.there, f.whole, omega arith) (ap (λ (m : ℕ). rules.put_piece m (any_in s d.root) place text from len) (length_slots w.ready))

  module _ (place v : ℕ) (root : Option ℕ) (is : slice_get (versions c) v ≡ Some root) where
    kept : leb (length (lengths_of b).versions) v ≡ false
    kept = version_there w v (version_kept w v root is)

    pub version_root_there : Root s.used root
    version_root_there = version_root w v root is

    pub version_stops : n < place → first_row (edit_rows (lengths_of (view_of s c)) (put_version place v)) ≡ Some 9
    version_stops h = rows_of (put_version place v) (version_past (noted c) (lengths_of b).versions n place v kept h)

    module _ (inside : place ≤ n) (more : ℕ) (size_is : more ≡ size_any (any_in s root)) where
      pub version_stops_long : limit < n + more → first_row (edit_rows (lengths_of (view_of s c)) (put_version place v)) ≡ Some 11
      version_stops_long h = rows_of (put_version place v) (version_long (noted c) (lengths_of b).versions n place v kept inside (omega (arith, version_size w v root is)))

      pub version_accepted : n + more ≤ limit → Accepts s c (put_version place v) d (Tree place root)
      version_accepted h =
          accepts (put_version place v) (Tree place root) (version_passes (noted c) (lengths_of b).versions n place v kept inside (omega (arith, version_size w v root is)))
          (version_root_there, omega arith)
          (ap₂ (λ (m : ℕ) (t : Option trees.Tree). rules.put_any m (any_in s d.root) place t) (length_slots w.ready) (version_is w v root is))

-- what was judged
module _ {s : Store} {c : Contents} (e : Edit) (t : consistent s c ≡ true) where
  pub refuses : (fault : BookFault) → first_row (edit_rows (lengths_of (view_of s c)) e) ≡ Some (number fault) → Steps s c s c (edit e) (refused (number fault))
  refuses fault h = record { keeps = t; steps = row_refuses (view_of s c) e (number fault) h }

  pub does : {d : OpenDraft} {x : Change} → Accepts s c e d x → {s' : Store} {c' : Contents} (r : Result ℕ BookFault) →
      Redrafts s c d s' c' (changed s d.root x) r → Steps s c s' c' (edit e) (answer BookTold.edited r)
  does {d} {x} a {s'} {c'} r h =
      let w = with_draft c a.begun t in
      steps_from c a.begun
      (edit_steps c d w e (changed s d.root x)
      (subst (λ (o : Option OpenDraft). built (view_of s (drafting c o)) e ≡ changed s d.root x) a.begun a.built)
      (subst (λ (o : Option OpenDraft). first_row (edit_rows (lengths_of (view_of s (drafting c o))) e) ≡ None) a.begun a.passes) r
      (subst (λ (o : Option OpenDraft). Redrafts s (drafting c o) d s' c' (changed s d.root x) r) a.begun h))
