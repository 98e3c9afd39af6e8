-- What the changes of a tree write lies inside the texts, by their lengths.
use Rattle.std.proofs.Common.{◌≡◌, ℕ, suc, ◌+◌, ◌<◌, List, [], ◌∷◌, ◌++◌, map, length, get_or, replicate, Some, None, Option, sym, refl, ap, ◌∙◌, subst, ap₂, add-zero, zero-add, arith}
use Rattle.std.specs.List.{AllByRecursion}
use Rattle.std.proofs.ByRecursion.{All-weaker, All-get_or}
use Rattle.std.proofs.lemmas.List.{length-map, length_push, length-replicate, get_or-map}
use Rattle.shelf.specs.Texts.{limit}
use Rattle.tree.specs.Tree as trees
use Rattle.tree.specs.Tree.{piece, node, Within}
use Rattle.tree.specs.Stored.{Fresh, Grows}
use Rattle.tree.specs.Edits as rules
use Rattle.tree.specs.Edits.{Made, Fit, Spells}
use Rattle.tree.specs.Facts.{EditFacts}
use Rattle.tree.proofs.Facts.{edits_spell}
use Rattle.tree.proofs.Heap.{stored_at}
use Rattle.tree.proofs.Store.{grows_append}
use Rattle.book.specs.declared.contents.Contents.{Contents}
use Rattle.book.specs.declared.node.Change.{Change}
use Rattle.book.specs.declared.node.Change.TheVariants.{Piece, Tree, Cut, Crop}
use Rattle.book.specs.declared.node.Node.{Node}
use Rattle.book.specs.declared.node.Shape as shape
use Rattle.book.specs.declared.node.Shape.TheVariants.{Fork}
use Rattle.book.specs.Records as records
use Rattle.book.specs.Records.{no_tree, no_node, shaped, tree_at, Below, Sound, Store, in_use}
use Rattle.book.specs.Changing.{Root, any_in, changed}
use Rattle.book.specs.Contents.{noted, Inside, Consistent}
use Rattle.book.specs.View.{Fits}
use Rattle.book.proofs.Grown.{behind, grown_is}
use Rattle.book.proofs.Stores.{length_slots, stands_at}

-- the trees of sound records are written one behind the other
fresh_of : (ts : List trees.Tree) (m : ℕ) (x : shape.Shape) → Grows [] ts → Below (length ts) x → Fresh ts (shaped ts m x)
unfolding shaped
fresh_of ts m (shape.TheVariants.Piece k i) g b = refl
fresh_of ts m (Fork l r) g b = (refl, stored_at ts g l no_tree b.0, stored_at ts g r no_tree b.1)

grows_behind : (ts : List trees.Tree) (xs : List Node) → Grows [] ts → ((i : ℕ) → i < length xs → Below (length ts + i) (get_or xs i no_node).shape) → Grows ts (behind ts xs)
unfolding behind
grows_behind ts [] g b = tt
grows_behind ts (x ∷ xs) g b =
    let t = shaped ts x.len x.shape in
    let here : Below (length ts) x.shape = rw add-zero at (b 0 (omega arith)) in
    let f = fresh_of ts x.len x.shape g here in (
      f,
      grows_behind (ts ++ t ∷ []) xs (grows_append [] ts (t ∷ []) g (f, tt))
          (λ i h.
          let n = length_push ts t in
          let e : length ts + suc i ≡ length (ts ++ t ∷ []) + i = omega arith in
          rw e at (b (suc i) (omega arith))),
    )

pub sound_grows : (xs : List Node) → Sound xs → Grows [] (records.trees xs)
unfolding records.trees Sound
sound_grows xs s = rw (grown_is [] xs) (grows_behind [] xs tt (λ i h. rw zero-add (s i h).below))

-- texts of given lengths
abbrev blank : List ℕ → List (List ℕ)
blank lens = map (λ n. replicate {A = ℕ} n 0) lens

blank_lengths : (lens : List ℕ) → map length (blank lens) ≡ lens
blank_lengths [] = refl
blank_lengths (n ∷ lens) = ap₂ (λ (x : ℕ) (xs : List ℕ). x ∷ xs) (length-replicate n 0) (blank_lengths lens)

-- inside by the lengths, inside the texts
pub within_from : (texts : List (List ℕ)) (t : trees.Tree) → Inside (map length texts) t → Within texts t
within_from texts (piece s k i m) h =
    let l = length-map texts (length {A = ℕ}) in
    let lt : k < length texts = omega (arith, h.1) in
    let e = get_or-map (length {A = ℕ}) texts k [] 0 lt in (h.0, lt, omega (arith, h.2))
within_from texts (node s l r) h = (within_from texts l h.0, within_from texts r h.1)

inside_from : (texts : List (List ℕ)) (t : trees.Tree) → Within texts t → Inside (map length texts) t
inside_from texts (piece s k i m) h =
    let l = length-map texts (length {A = ℕ}) in
    let e = get_or-map (length {A = ℕ}) texts k [] 0 h.1 in (h.0, omega (arith, h.1), omega (arith, h.2))
inside_from texts (node s l r) h = (inside_from texts l h.0, inside_from texts r h.1)

module _ {s : Store} {c : Contents} (w : Consistent s c) where
  abbrev texts : List (List ℕ)
  texts = blank (noted c)

  abbrev slots : List trees.Tree
  slots = records.trees (in_use s)

  fit : (o : Option ℕ) → Root s.used o → Fit texts limit slots (any_in s o)
  unfolding tree_at
  fit None h = tt
  fit (Some i) h =
      let k = stands_at w.ready i h in
      let n = length_slots w.ready in
      let lt : i < length slots = omega arith in (
        record {
          balanced = k.balanced;
          within = within_from texts (get_or slots i no_tree)
              (subst (λ (l : List ℕ). Inside l (get_or slots i no_tree)) (sym (blank_lengths (noted c))) (All-get_or (Inside (noted c)) slots i no_tree lt w.inside));
          short = k.short;
        },
        stored_at slots (sound_grows (in_use s) w.ready.sound) i no_tree lt,
      )

  new_inside : (b : Made) {t : List ℕ} → Spells texts limit slots b t → AllByRecursion (Inside (noted c)) b.new
  new_inside b x = All-weaker (rules.Sound texts limit) (Inside (noted c))
      (λ t h. subst (λ (l : List ℕ). Inside l t) (blank_lengths (noted c)) (inside_from texts t h.within)) b.new x.grown.sound

  module _ (r : Option ℕ) (h : Root s.used r) where
    -- an edit of the rules, by the number of slots in use
    made_inside : (f : ℕ → Made) {t : List ℕ} → Spells texts limit slots (f (length slots)) t → AllByRecursion (Inside (noted c)) (f s.used).new
    made_inside f x = subst (λ (n : ℕ). AllByRecursion (Inside (noted c)) (f n).new) (length_slots w.ready) (new_inside (f (length slots)) x)

    spell : EditFacts texts limit slots (any_in s r)
    spell = edits_spell texts limit slots (any_in s r) (fit r h)

    pub changed_inside : (x : Change) → Fits s c r x → AllByRecursion (Inside (noted c)) (changed s r x).new
    changed_inside (Piece place text start len) f =
        let lt : text < length texts = rw (length-map (noted c) (λ n. replicate {A = ℕ} n 0)) f.1 in
        let e : length (get_or texts text []) ≡ get_or (noted c) text 0 =
        sym (get_or-map (length {A = ℕ}) texts text [] 0 lt) ∙ ap (λ (x : List ℕ). get_or x text 0) (blank_lengths (noted c)) in
        made_inside (λ n. rules.put_piece n (any_in s r) place text start len) (spell.put_piece_spells place text start len f.0 lt (omega (arith, f.2)) f.3)
    changed_inside (Tree place other) f =
        made_inside (λ n. rules.put_any n (any_in s r) place (any_in s other)) (spell.put_spells place (any_in s other) (fit other f.0) f.1)
    changed_inside (Cut from len) f = made_inside (λ n. rules.cut n (any_in s r) from len) (spell.cut_spells from len)
    changed_inside (Crop from len) f = made_inside (λ n. rules.crop n (any_in s r) from len) (spell.crop_spells from len)
