-- The records that no draft made, and the roots of the kept versions among them.
use Rattle.std.proofs.Common.{◌≡◌, ℕ, ◌≤◌, List, length, get_or, take, Some, None, Ok, Err, Option, Result, sym, refl, ap, ◌∙◌, subst, arith}
use Rattle.std.specs.List.{AllByRecursion, slice_get}
use Rattle.std.proofs.ByRecursion.{All-take}
use Rattle.std.proofs.lemmas.List.{length-take-le, get_or-take}
use Rattle.model.specs.Book as model
use Rattle.model.specs.Book.{settled_of}
use Rattle.book.specs.declared.contents.Contents.{Contents}
use Rattle.book.specs.declared.contents.OpenDraft.{OpenDraft}
use Rattle.book.specs.declared.fault.BookFault.{BookFault}
use Rattle.book.specs.declared.fault.BookFault.TheVariants.{NotKept}
use Rattle.book.specs.declared.node.Node.{Node}
use Rattle.book.specs.Records.{no_tree, trees, tree_at, Store, in_use}
use Rattle.book.specs.Changing.{Root, any_at}
use Rattle.book.specs.Contents.{noted, versions, ItemOr, settled, Inside, Consistent}
use Rattle.book.specs.Access.{Settled, Rooted, RootAnswer}
use Rattle.book.specs.View.{draft_view, view_of}
use Rattle.book.proofs.Stores.{length_slots}
use Rattle.book.proofs.Shown.{settled_le, fewer_ready, fewer_slots, length_kept, version_kept, version_is, version_settled}

settled_is : (xs : List Node) (n u : ℕ) (o : Option OpenDraft) → n ≡ u → settled_of n (draft_view xs o) ≡ settled u o
settled_is xs n u None e = e
settled_is xs n u (Some d) e = refl

-- a tree among the first ones
any_take : (xs ys : List Node) (n : ℕ) (o : Option ℕ) → trees xs ≡ take n (trees ys) → Root n o → any_at ys o ≡ any_at xs o
unfolding tree_at
any_take xs ys n None e h = refl
any_take xs ys n (Some i) e h = ap Some (sym (ap (λ ts. get_or ts i no_tree) e ∙ get_or-take n (trees ys) i no_tree h))

module _ {s : Store} {c : Contents} (w : Consistent s c) where
  le : settled s.used c.draft ≤ s.used
  le = settled_le c.draft w.orderly.drafted

  same : model.settled (view_of s c) ≡ settled s.used c.draft
  same = settled_is (in_use s) (length (trees (in_use s))) s.used c.draft (length_slots w.ready)

  pub settled_within : settled s.used c.draft ≤ length s.records
  settled_within =
      let l = le in
      let m = w.ready.within in omega arith

  pub settled_records : Settled (view_of s c) (take (settled s.used c.draft) s.records)
  settled_records =
      let n = settled s.used c.draft in
      let t = fewer_slots w.ready (settled s.used c.draft) le in
      record {
        sound = (fewer_ready w.ready (settled s.used c.draft) le).sound;
        long = length-take-le (settled s.used c.draft) s.records settled_within ∙ sym same;
        trees_are = sym t ∙ ap (λ (k : ℕ). take k (trees (in_use s))) (sym same);
        inside = subst (AllByRecursion (Inside (noted c))) t (All-take (Inside (noted c)) (settled s.used c.draft) (trees (in_use s)) w.inside);
      }

  rooted_at : (v : ℕ) (root : Option ℕ) → slice_get (versions c) v ≡ Some root → Rooted (view_of s c) v root
  rooted_at v root is =
      let n = length_kept w in
      let h = version_kept w v root is in
      let held = subst (λ (k : ℕ). Root k root) (sym same) (version_settled w v root is) in
      record {
        kept = omega arith;
        held = held;
        tree = λ xs t. version_is w v root is ∙ any_take xs (in_use s) (model.settled (view_of s c)) root t.trees_are held;
      }

  pub root_answer : (v : ℕ) (r : Result (Option ℕ) BookFault) → ItemOr (versions c) v NotKept r → RootAnswer (view_of s c) v r
  root_answer v (Ok root) is = record { case = rooted_at v root is }
  root_answer v (Err fault) p = let n = length_kept w in record { case = (p.0, omega (arith, p.1)) }
