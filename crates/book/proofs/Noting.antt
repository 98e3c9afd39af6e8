-- The noted lengths of the texts, and the contents of a new book.
use Rattle.std.proofs.Common.{◌≡◌, ℕ, suc, ◌<◌, ◌≤◌, Bool, true, false, not, eqb, List, [], ◌∷◌, map, length, get_or, Some, None, Option, sym, ap, ◌∙◌, ap₂, ⊎_elim, arith}
use Rattle.std.specs.Option.{option_eq}
use Rattle.std.specs.List.{AllByRecursion}
use Rattle.std.proofs.lemmas.List.{get_or-map}
use Rattle.std.proofs.lemmas.Bool.{lt-leb, cond-false, cases_Bool, true≢false}
use Rattle.std.proofs.lemmas.Bool.Decides.{eqb_tells}
use Rattle.shelf.specs.Answers.{text_length}
use Rattle.model.specs.Book.{new_book, same}
use Rattle.model.proofs.Tables.{decides_same}
use Rattle.book.specs.declared.contents.Contents.{Contents}
use Rattle.book.specs.declared.contents.OpenDraft.{OpenDraft}
use Rattle.book.specs.declared.node.Node.{Node}
use Rattle.book.specs.Records.{trees, grown, Sound, Store, room}
use Rattle.book.specs.Changing.{any_at}
use Rattle.book.specs.Contents.{noted}
use Rattle.book.specs.Opening.{First}
use Rattle.book.specs.Tests.{consistent}
use Rattle.book.specs.View.{draft_view, view_of}
use Rattle.book.proofs.Tested.{passes}

-- the answer of a shelf, and whether it is a number
module _ (ts : List (List ℕ)) (k n : ℕ) {o : Option ℕ} {other : Bool} (h : k < length ts) (e : o ≡ text_length ts k) (is : other ≡ not (option_eq eqb o (Some n))) where
  told : other ≡ not (eqb (get_or (map length ts) k 0) n)
  told = is ∙ ap (λ x. not (option_eq eqb x (Some n))) (e ∙ cond-false _ _ _ (lt-leb (length ts) k h) ∙ ap Some (sym (get_or-map length ts k [] 0 h)))

  pub same_length : other ≡ false → get_or (map length ts) k 0 ≡ n
  same_length f = ⊎_elim (λ p. p.1) (λ p. absurd (true≢false (ap not (sym p.0) ∙ sym told ∙ f))) (eqb_tells (get_or (map length ts) k 0) n)

  pub other_length : other ≡ true → get_or (map length ts) k 0 ≡ n → ⊥
  other_length t = ⊎_elim (λ p. absurd (true≢false (sym t ∙ told ∙ ap not p.0))) (λ p. p.1) (eqb_tells (get_or (map length ts) k 0) n)

pub short_texts : (most : ℕ) (ts : List (List ℕ)) → ((k : ℕ) → length (get_or ts k []) ≤ most) → AllByRecursion (λ n. n ≤ most) (map length ts)
short_texts most [] h = tt
short_texts most (t ∷ ts) h = (h 0, short_texts most ts (λ k. h (suc k)))

-- a new book
abbrev none_used : List Node → Store
none_used xs = record { records = xs; used = 0 }

pub new_consistent : (xs : List Node) (c : Contents) (lens : List ℕ) → First c lens → consistent (none_used xs) c ≡ true
unfolding Sound trees grown
new_consistent xs c lens f =
    passes (record { ready = record { within = omega arith; few = omega arith; sound = λ i h. absurd (omega arith) }; orderly = f.orderly; inside = tt })

pub new_shown : (xs : List Node) (c : Contents) (ts : List (List ℕ)) (lens : List ℕ) → First c lens → lens ≡ map length ts → view_of (none_used xs) c ≡ new_book ts (length xs)
unfolding trees grown
new_shown xs c ts lens f e =
    ap (λ (vs : List (Option ℕ)). record { slots = []; kept = map (any_at []) vs; draft = draft_view [] c.draft; lengths = noted c; room = room xs }) f.kept
    ∙ ap₂ (λ (o : Option OpenDraft) (ns : List ℕ). record { slots = []; kept = None ∷ []; draft = draft_view [] o; lengths = ns; room = room xs }) f.draft (f.lengths ∙ e)

-- whether two lists of lengths are the same
pub same_true : (xs ys : List ℕ) → xs ≡ ys → true ≡ same ys xs
same_true xs ys e = sym ((decides_same ys xs).1 (sym e))

pub same_false : (xs ys : List ℕ) → (xs ≡ ys → ⊥) → false ≡ same ys xs
same_false xs ys h = ⊎_elim (λ e. absurd (h (sym ((decides_same ys xs).0 e)))) (λ e. sym e) (cases_Bool (same ys xs))
