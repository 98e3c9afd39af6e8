-- The book and the plain book go together, call by call.
use Rattle.std.proofs.Common.{◌≡◌, ℕ, ◌+◌, ◌≤◌, ltb, List, [], ◌∷◌, ◌++◌, map, length, get_or, take, drop, Some, None, Option, unwrap_or, sym, refl, ap, ◌∙◌, subst, ap₂, arith, length-append, length-take}
use lib.ListN.{length-map, get_or-map}
use Rattle.std.specs.Option.{option_map}
use Rattle.std.specs.List.{AllByRecursion}
use Rattle.std.proofs.lemmas.List.{map_push}
use Rattle.std.proofs.ByRecursion.{All-push, All-weaker}
use Rattle.std.proofs.lemmas.Bool.{ltb-false, leb-false, eqb-false, or_parts}
use Rattle.shelf.specs.Texts.{limit, text, stretch}
use Rattle.tree.specs.Tree.{Tree}
use Rattle.tree.specs.Edits.{spell_any, size_any, Fit, Grown, Spells}
use Rattle.tree.specs.Facts.{EditFacts}
use Rattle.tree.proofs.Edits.{fit_length, grown_append, grown_take}
use Rattle.tree.proofs.Facts.{edits_spell}
use Rattle.model.specs.Calls.{Edit, put_piece, put_version, cut, crop, BookCall, open_version, edit, keep, toss, read, find, shape}
use Rattle.model.specs.Answers.{PlainTold, plain_book_told}
use Rattle.model.specs.Rows.{most_versions, text_length, draft_length, edit_rows, book_rows}
use Rattle.model.specs.Plain.{Plain, string, plain_lengths, first_place, plain_edit, plain_book_effect}
use Rattle.model.specs.Book.{Draft, Book, version, tree_of, lengths_of, settled_of, settled, built, made, free, book_own_rows, shape_of, book_effect}
use Rattle.model.proofs.Slots.{Extends, extends_refl, extends_append, extends_front, extends_take, fit_extends, fit_version}
use Rattle.model.proofs.Steps.{Passed}

-- the slots that no draft made
abbrev pub firm : Book → List Tree
firm b = take (settled b) b.slots

module _ (texts : List (List ℕ)) where
  abbrev pub Drafted : List Tree → Option Draft → Type 0
  Drafted slots None = Unit {0}
  Drafted slots (Some d) = Fit texts limit slots d.tree × (d.base ≤ length slots)

  abbrev pub draft_string : Option Draft → Option (List ℕ)
  draft_string draft = option_map (λ d. spell_any texts d.tree) draft

  -- the two books after the same calls
  pub record Paired (b : Book) (p : Plain) : Type 0 where
    pub noted : b.lengths ≡ map length texts
    pub strings : map (spell_any texts) b.kept ≡ p.strings
    pub draft : draft_string b.draft ≡ p.draft
    pub slots : Grown texts limit [] b.slots
    pub whole : AllByRecursion (Fit texts limit (firm b)) b.kept
    pub drafted : Drafted b.slots b.draft
    pub in_room : length b.slots ≤ b.room
    pub few : length b.kept ≤ most_versions

  pub settled_le : (slots : List Tree) (d : Option Draft) → Drafted slots d → settled_of (length slots) d ≤ length slots
  settled_le slots None h = omega arith
  settled_le slots (Some d) h = h.1

  draft_whole : (slots : List Tree) (d : Option Draft) → Drafted slots d → Fit texts limit slots (tree_of d)
  draft_whole slots None h = tt
  draft_whole slots (Some d) h = h.0

  draft_size : (slots : List Tree) (d : Option Draft) → Drafted slots d →
      option_map (λ x. size_any x.tree) d ≡ option_map length (draft_string d)
  draft_size slots None h = refl
  draft_size slots (Some d) h = ap {B = Option ℕ} Some (sym (fit_length texts limit slots d.tree h.0))

  pub draft_long : (d : Option Draft) → unwrap_or (option_map (λ x. size_any x.tree) d) 0 ≡ size_any (tree_of d)
  draft_long None = refl
  draft_long (Some d) = refl

  draft_spells : (d : Option Draft) → unwrap_or (draft_string d) [] ≡ spell_any texts (tree_of d)
  draft_spells None = refl
  draft_spells (Some d) = refl

  sizes : (slots : List Tree) (os : List (Option Tree)) → AllByRecursion (Fit texts limit slots) os → map size_any os ≡ map length (map (spell_any texts) os)
  sizes slots [] a = refl
  sizes slots (o ∷ os) a = ap₂ {C = List ℕ} ◌∷◌ (sym (fit_length texts limit slots o a.0)) (sizes slots os a.1)

  shape_plain : (slots : List Tree) (o : Option Tree) → Fit texts limit slots o → plain_book_told (shape_of o) ≡ PlainTold.long (length (spell_any texts o))
  shape_plain slots None w = refl
  shape_plain slots (Some t) w = ap {B = PlainTold} PlainTold.long (sym (fit_length texts limit slots (Some t) w))

  module _ (b : Book) (p : Plain) (h : Paired b p) where
    pub same_lengths : lengths_of b ≡ plain_lengths texts p
    same_lengths =
        let kept = sizes (firm b) b.kept h.whole ∙ ap (map length) h.strings in
        let drafts = draft_size b.slots b.draft h.drafted ∙ ap (option_map length) h.draft in
        λ i. record { texts = h.noted i; versions = kept i; draft = drafts i }

    pub string_at : (v : ℕ) → spell_any texts (version b v) ≡ string p v
    string_at v = sym (get_or-map (spell_any texts) b.kept v None) ∙ ap (λ (x : List (List ℕ)). get_or x v []) h.strings

    draft_at : spell_any texts (tree_of b.draft) ≡ unwrap_or p.draft []
    draft_at = sym (draft_spells b.draft) ∙ ap (λ (x : Option (List ℕ)). unwrap_or x []) h.draft

    pub firm_extends : Extends (firm b) b.slots
    firm_extends = extends_take (settled b) b.slots (settled_le b.slots b.draft h.drafted)

    pub version_whole : (v : ℕ) → Fit texts limit (firm b) (version b v)
    version_whole v = fit_version texts (firm b) b.kept v h.whole

    version_fit : (v : ℕ) → Fit texts limit b.slots (version b v)
    version_fit v = fit_extends texts (firm b) b.slots (version b v) firm_extends (version_whole v)

    pub version_size : (v : ℕ) → get_or (map size_any b.kept) v 0 ≡ length (spell_any texts (version b v))
    version_size v = get_or-map size_any b.kept v None ∙ sym (fit_length texts limit (firm b) (version b v) (version_whole v))

    pub draft_fit : Fit texts limit b.slots (tree_of b.draft)
    draft_fit = draft_whole b.slots b.draft h.drafted

    -- what an edit builds that no row refuses spells the edited string
    edit_spells : (e : Edit) → Passed (edit_rows (lengths_of b) e) →
        Spells texts limit b.slots (built b e) (plain_edit texts p e (unwrap_or p.draft []))
    edit_spells e passed = subst (λ (x : List ℕ). Spells texts limit b.slots (built b e) (plain_edit texts p e x)) draft_at (go e passed)
      where
        facts : EditFacts texts limit b.slots (tree_of b.draft)
        facts = edits_spell texts limit b.slots (tree_of b.draft) draft_fit

        long : draft_length (lengths_of b) ≡ size_any (tree_of b.draft)
        long = draft_long b.draft

        go : (e : Edit) → Passed (edit_rows (lengths_of b) e) →
            Spells texts limit b.slots (built b e) (plain_edit texts p e (spell_any texts (tree_of b.draft)))
        go (put_piece q k i m) t =
            let few : length b.lengths ≡ length texts = ap length h.noted ∙ length-map texts length in
            let size : text_length (lengths_of b) k ≡ length (text texts k) =
            ap (λ (x : List ℕ). get_or x k 0) h.noted ∙ get_or-map length texts k [] in
            let is_text = leb-false (length b.lengths) k t.1.0 in
            let inside = or_parts (ltb (draft_length (lengths_of b)) q) (ltb (text_length (lengths_of b) k) (i + m)) t.1.1.0 in
            let in_text = ltb-false (text_length (lengths_of b) k) (i + m) inside.1 in
            let some = eqb-false m 0 t.1.1.1.0 in
            let short = ltb-false limit (draft_length (lengths_of b) + m) t.1.1.1.1.0 in
            let l = long in
            facts.put_piece_spells q k i m (omega arith) (omega arith) (omega arith) (omega arith)
        go (put_version q v) t =
            let l = long in
            let size = version_size v in
            let same = fit_length texts limit b.slots (version b v) (version_fit v) in
            let short = ltb-false limit (draft_length (lengths_of b) + get_or (map size_any b.kept) v 0) t.1.1.1.0 in
            subst (λ (x : List ℕ). Spells texts limit b.slots (built b (put_version q v))
            (take q (spell_any texts (tree_of b.draft)) ++ x ++ drop q (spell_any texts (tree_of b.draft)))) (string_at v)
            (facts.put_spells q (version b v) (version_fit v) (omega arith))
        go (cut i m) t = facts.cut_spells i m
        go (crop i m) t = facts.crop_spells i m

    -- the book and the plain book after a call that no row refuses, and what strings tell of it
    abbrev GoesWith : BookCall → Type 0
    GoesWith c =
        Paired (book_effect texts b c).1 (plain_book_effect texts p c).1 × (plain_book_told (book_effect texts b c).0 ≡ (plain_book_effect texts p c).0)

    pub book_follows : (c : BookCall) → Passed (book_rows (lengths_of b) c) → Passed (book_own_rows b c) → GoesWith c
    book_follows (open_version v) t u = (
      record {
        noted = h.noted;
        strings = h.strings;
        draft = ap {B = Option (List ℕ)} Some (string_at v);
        slots = h.slots;
        whole = h.whole;
        drafted = (version_fit v, settled_le b.slots b.draft h.drafted);
        in_room = h.in_room;
        few = h.few;
      },
      refl,
    )
    book_follows (edit e) t u =
        let new = (built b e).new in
        let g = edit_spells e t in
        let le = settled_le b.slots b.draft h.drafted in
        let front : take (settled b) (b.slots ++ new) ≡ firm b = extends_front b.slots (b.slots ++ new) (settled b) (extends_append b.slots new) le in
        let longer = length-append b.slots new in
        let enough = ltb-false (free b) (made b e) u.0 in
        let room = h.in_room in (
          record {
            noted = h.noted;
            strings = h.strings;
            draft = ap {B = Option (List ℕ)} Some g.spells;
            slots = grown_append texts limit [] b.slots new h.slots g.grown;
            whole = subst (λ (x : List Tree). AllByRecursion (Fit texts limit x) b.kept) (sym front) h.whole;
            drafted = (g.fit, omega arith);
            in_room = omega arith;
            few = h.few;
          },
          refl,
        )
    book_follows keep t u =
        let grow = λ (o : Option Tree). fit_extends texts (firm b) b.slots o firm_extends in
        let now = All-push (Fit texts limit b.slots) b.kept (tree_of b.draft)
        (All-weaker (Fit texts limit (firm b)) (Fit texts limit b.slots) grow b.kept h.whole) draft_fit in
        let under = leb-false most_versions (length (map size_any b.kept)) t.1.0 in
        let count = length-map b.kept size_any in (
          record {
            noted = h.noted;
            strings = map_push (spell_any texts) b.kept (tree_of b.draft)
                ∙ ap₂ (λ (x : List (List ℕ)) (y : List ℕ). x ++ y ∷ []) h.strings draft_at;
            draft = refl;
            slots = h.slots;
            whole = subst (λ (x : List Tree). AllByRecursion (Fit texts limit x) (b.kept ++ tree_of b.draft ∷ [])) (sym (extends_refl b.slots)) now;
            drafted = tt;
            in_room = h.in_room;
            few = simp length-append (omega arith);
          },
          ap {B = PlainTold} PlainTold.kept (sym (length-map b.kept (spell_any texts)) ∙ ap length h.strings),
        )
    book_follows toss t u =
        let room = h.in_room in (
          record {
            noted = h.noted;
            strings = h.strings;
            draft = refl;
            slots = grown_take texts limit b.slots (settled b) h.slots;
            whole = subst (λ (x : List Tree). AllByRecursion (Fit texts limit x) b.kept) (sym (extends_refl (firm b))) h.whole;
            drafted = tt;
            in_room = simp length-take (omega arith);
            few = h.few;
          },
          refl,
        )
    book_follows (read v i m shown) t u = (h, ap {B = PlainTold} (λ (x : List ℕ). PlainTold.bytes (stretch i m x)) (string_at v))
    book_follows (find v i pattern shown) t u =
        (h, ap {B = PlainTold} (λ (x : List ℕ). PlainTold.found (first_place pattern i (drop i x))) (string_at v))
    book_follows (shape v) t u =
        (h, shape_plain (firm b) (version b v) (version_whole v) ∙ ap {B = PlainTold} (λ (x : List ℕ). PlainTold.long (length x)) (string_at v))

    -- the slots that no draft made stay
    pub firm_stays : (c : BookCall) → Extends (firm b) (firm (book_effect texts b c).1)
    firm_stays (open_version v) = extends_refl (firm b)
    firm_stays (edit e) =
        let new = (built b e).new in
        let le = settled_le b.slots b.draft h.drafted in
        let front : take (settled b) (b.slots ++ new) ≡ firm b = extends_front b.slots (b.slots ++ new) (settled b) (extends_append b.slots new) le in
        subst (Extends (firm b)) (sym front) (extends_refl (firm b))
    firm_stays keep = subst (Extends (firm b)) (sym (extends_refl b.slots)) firm_extends
    firm_stays toss = subst (Extends (firm b)) (sym (extends_refl (firm b))) (extends_refl (firm b))
    firm_stays (read v i m shown) = extends_refl (firm b)
    firm_stays (find v i pattern shown) = extends_refl (firm b)
    firm_stays (shape v) = extends_refl (firm b)
