-- What a book shows, by its records and contents.
use Rattle.std.proofs.Common.{◌≡◌, ℕ, ◌<◌, ◌≤◌, List, [], ◌∷◌, ◌++◌, map, length, get_or, take, drop, Some, None, Option, sym, refl, ap, ◌∙◌, subst, arith}
use Rattle.std.specs.List.{AllByRecursion, slice_get}
use Rattle.std.proofs.ByRecursion.{All-get_or}
use Rattle.std.proofs.lemmas.Option.{slice_get_within, get_or_from_slice_get}
use Rattle.std.proofs.lemmas.List.{length-map, get_or-map, take_at, take-take, take-append-drop}
use Rattle.shelf.specs.Texts.{limit}
use Rattle.tree.specs.Tree.{Tree}
use Rattle.tree.specs.Edits.{size_any}
use Rattle.model.specs.Book.{lengths_of, version}
use Rattle.book.specs.declared.contents.Contents.{Contents}
use Rattle.book.specs.declared.contents.OpenDraft.{OpenDraft}
use Rattle.book.specs.Records.{trees, tree_at, Store, in_use, Ready}
use Rattle.book.specs.Building.{Wrote}
use Rattle.book.specs.Changing.{Root, any_in}
use Rattle.book.specs.Contents.{versions, settled, Drafted, Orderly, Consistent}
use Rattle.book.specs.View.{view_of}
use Rattle.book.proofs.Grown.{trees_append, front_at, sound_front}
use Rattle.book.proofs.Stores.{length_slots, length_in_use}
use Rattle.book.proofs.Roots.{any_stays}

-- the same contents with another draft
abbrev pub drafting : Contents → Option OpenDraft → Contents
drafting c o = record { draft = o; roots = c.roots; lens = c.lens }

-- contents stay orderly with another draft
pub orderly_with : {u u' : ℕ} (c : Contents) {o o' : Option OpenDraft} → Orderly u (drafting c o) → Drafted u' o' → AllByRecursion (Root (settled u' o')) (versions c) → Orderly u' (drafting c o')
orderly_with c w drafted rooted = record { few = w.few; short = w.short; most_kept = w.most_kept; drafted = drafted; rooted = rooted }

pub root_more : {u w : ℕ} (o : Option ℕ) → u ≤ w → Root u o → Root w o
root_more None l h = tt
root_more (Some i) l h = omega arith

pub settled_le : {u : ℕ} (o : Option OpenDraft) → Drafted u o → settled u o ≤ u
settled_le None p = omega arith
settled_le (Some d) p = p.1

-- the trees at older roots stay
pub roots_stay : {s s' : Store} {new : List Tree} → Ready s → Wrote s s' new → (vs : List (Option ℕ)) → AllByRecursion (Root s.used) vs → map (any_in s') vs ≡ map (any_in s) vs
roots_stay d w [] h = refl
roots_stay d w (v ∷ vs) h =
    let a = any_stays d w v h.0 in
    let b = roots_stay d w vs h.1 in cc

-- fewer slots in use
abbrev pub fewer : Store → ℕ → Store
fewer s n = record { records = s.records; used = n }

module _ {s : Store} (d : Ready s) (n : ℕ) (le : n ≤ s.used) where
  front : in_use s ≡ in_use (fewer s n) ++ drop n (in_use s)
  front = sym (take-append-drop n (in_use s)) ∙ ap (λ xs. xs ++ drop n (in_use s)) (take-take n s.used s.records le)

  pub fewer_ready : Ready (fewer s n)
  fewer_ready =
      let w = d.within in
      let f = d.few in
      record { within = omega arith; few = omega arith; sound = sound_front (in_use (fewer s n)) (drop n (in_use s)) (rw front at d.sound) }

  pub fewer_slots : take n (trees (in_use s)) ≡ trees (in_use (fewer s n))
  fewer_slots =
      ap (λ xs. take n (trees xs)) front ∙ ap (take n) (trees_append (in_use (fewer s n)) (drop n (in_use s)))
      ∙ take_at (trees (in_use (fewer s n))) _ n (length_slots fewer_ready)

  any_fewer : (o : Option ℕ) → Root n o → any_in s o ≡ any_in (fewer s n) o
  any_fewer None h = refl
  any_fewer (Some i) h =
      ap Some (ap (λ xs. tree_at xs i) front ∙ front_at (in_use (fewer s n)) (drop n (in_use s)) i (rw (length_in_use fewer_ready) h))

  pub roots_fewer : (vs : List (Option ℕ)) → AllByRecursion (Root n) vs → map (any_in s) vs ≡ map (any_in (fewer s n)) vs
  roots_fewer [] h = refl
  roots_fewer (v ∷ vs) h =
      let a = any_fewer v h.0 in
      let b = roots_fewer vs h.1 in cc

-- the length of a text
pub text_short : (lens : List ℕ) → AllByRecursion (λ n. n ≤ limit) lens → (k m : ℕ) → slice_get lens k ≡ Some m → m ≤ limit
text_short lens h k m is = subst (λ n. n ≤ limit) (get_or_from_slice_get lens k m 0 is) (All-get_or (λ n. n ≤ limit) lens k 0 (slice_get_within lens k m is) h)

module _ {s : Store} {c : Contents} (w : Consistent s c) where
  pub length_kept : length (view_of s c).kept ≡ length (versions c)
  length_kept = length-map (versions c) (any_in s)

  pub length_lengths : length (lengths_of (view_of s c)).versions ≡ length (versions c)
  length_lengths = length-map (view_of s c).kept size_any ∙ length_kept

  -- a kept version
  module _ (v : ℕ) (root : Option ℕ) (is : slice_get (versions c) v ≡ Some root) where
    pub version_kept : v < length (versions c)
    version_kept = slice_get_within (versions c) v root is

    root_is : get_or (versions c) v None ≡ root
    root_is = get_or_from_slice_get (versions c) v root None is

    pub version_is : version (view_of s c) v ≡ any_in s root
    version_is = get_or-map (any_in s) (versions c) v None None version_kept ∙ ap (any_in s) root_is

    pub version_size : get_or (lengths_of (view_of s c)).versions v 0 ≡ size_any (any_in s root)
    version_size =
        let n = length_kept in
        let h = version_kept in
        get_or-map size_any (view_of s c).kept v None 0 (omega arith) ∙ ap size_any version_is

    pub version_settled : Root (settled s.used c.draft) root
    version_settled =
        subst (Root (settled s.used c.draft)) root_is (All-get_or (Root (settled s.used c.draft)) (versions c) v None version_kept w.orderly.rooted)

    pub version_root : Root s.used root
    version_root = root_more root (settled_le c.draft w.orderly.drafted) version_settled
