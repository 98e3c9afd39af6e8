-- The machine's step for the calls that open, keep and toss a draft.
use Rattle.std.proofs.Common.{◌≡◌, ℕ, ◌-◌, ◌<◌, ◌≤◌, Bool, true, false, cond, List, [], ◌∷◌, ◌++◌, map, length, is_some, Some, None, Option, sym, refl, ap, ◌∙◌, subst, ap₂, arith}
use Rattle.std.specs.List.{AllByRecursion, slice_get}
use Rattle.std.specs.Option.{option_map}
use Rattle.std.proofs.ByRecursion.{All-weaker, All-push, All-take}
use Rattle.std.proofs.lemmas.List.{length_push, map_push}
use Rattle.std.proofs.lemmas.Bool.{lt-leb, le-leb, true≢false}
use Rattle.arrayvec.specs.ArrayVec.{ArrayVec}
use Rattle.tree.specs.Tree.{Tree}
use Rattle.tree.specs.Edits.{size_any}
use Rattle.model.specs.Answers.{Answer, refused, accepted, unless, BookTold}
use Rattle.model.specs.Book as model
use Rattle.model.specs.Book.{book_step, lengths_of}
use Rattle.model.specs.Calls.{BookCall, open_version, keep, toss}
use Rattle.model.specs.Rows.{most_versions, not_kept}
use Rattle.book.specs.declared.contents.Contents.{Contents}
use Rattle.book.specs.declared.contents.OpenDraft.{OpenDraft}
use Rattle.book.specs.declared.node.Node.{Node}
use Rattle.book.specs.Records.{trees, Store, in_use, room}
use Rattle.book.specs.Changing.{Root, any_in}
use Rattle.book.specs.Contents.{noted, versions, Inside, Consistent}
use Rattle.book.specs.View.{draft_view, view_of, Steps}
use Rattle.book.proofs.Stores.{length_slots}
use Rattle.book.specs.Tests.{consistent}
use Rattle.book.proofs.Tested.{tested, passes}
use Rattle.book.proofs.Shown.{drafting, orderly_with, root_more, fewer, fewer_ready, fewer_slots, roots_fewer, length_kept, length_lengths, version_kept, version_is, version_root}

-- a row that fits refuses, and one that does not leaves it to the next
module _ {A S : Type 0} {t : Bool} (row : ℕ) (o : Option ℕ) (before : S) (after : A × S) where
  pub stop : t ≡ true → unless (cond t (Some row) o) before after ≡ (refused row, before)
  stop e = rw e

  pub pass : t ≡ false → unless (cond t (Some row) o) before after ≡ unless o before after
  pass e = rw e

drafted : (xs : List Node) (o : Option OpenDraft) → is_some o ≡ true → is_some (option_map (λ (d : model.Draft). size_any d.tree) (draft_view xs o)) ≡ true
drafted xs None e = absurd (true≢false (sym e))
drafted xs (Some d) e = refl

module _ {s : Store} {c : Contents} (w : Consistent s c) where
  pub version_there : (v : ℕ) → v < length (versions c) → not_kept (lengths_of (view_of s c)) v ≡ false
  version_there v h = let n = length_lengths w in lt-leb _ _ (omega arith)

  -- refusals to open a version
  pub open_not_kept : (v : ℕ) → length (versions c) ≤ v → (texts : List (List ℕ)) → book_step texts (view_of s c) (open_version v) ≡ (refused 5, view_of s c)
  open_not_kept v h texts =
      let n = length_lengths w in stop 5 _ _ _ (le-leb (length (lengths_of (view_of s c)).versions) v (omega arith))

  pub open_drafted : (v : ℕ) → v < length (versions c) → is_some c.draft ≡ true → (texts : List (List ℕ)) →
      book_step texts (view_of s c) (open_version v) ≡ (refused 6, view_of s c)
  open_drafted v h e texts = pass 5 _ _ _ (version_there v h) ∙ stop 6 _ _ _ (drafted (in_use s) c.draft e)

-- contents with their own draft
module _ {s : Store} (c : Contents) {o : Option OpenDraft} (e : c.draft ≡ o) where
  pub with_draft : consistent s c ≡ true → Consistent s (drafting c o)
  with_draft t = subst (λ (x : Option OpenDraft). Consistent s (drafting c x)) e (tested s c t)

  pub steps_from : {s' : Store} {c' : Contents} {call : BookCall} {answer : Answer BookTold} → Steps s (drafting c o) s' c' call answer → Steps s c s' c' call answer
  steps_from {s'} {c'} {call} {answer} g = subst (λ (x : Option OpenDraft). Steps s (drafting c x) s' c' call answer) (sym e) g

  pub refused_from : {call : BookCall} {answer : Answer BookTold} → Steps s (drafting c o) s (drafting c o) call answer → Steps s c s c call answer
  refused_from {call} {answer} g = subst (λ (x : Option OpenDraft). Steps s (drafting c x) s (drafting c x) call answer) (sym e) g

pub none_is : {A : Type 0} (o : Option A) → is_some o ≡ false → o ≡ None
none_is None e = refl
none_is (Some x) e = absurd (true≢false e)

-- no draft is open
module _ {s : Store} (c : Contents) (w : Consistent s (drafting c None)) where
  pub open_steps : (v : ℕ) (root : Option ℕ) → slice_get (versions c) v ≡ Some root →
      Steps s (drafting c None) s (drafting c (Some (record { root = root; base = s.used }))) (open_version v) (accepted BookTold.opened)
  open_steps v root is =
      let o = w.orderly in
      record {
        keeps = passes (record {
          ready = w.ready;
          orderly = orderly_with c o (version_root w v root is, omega arith) o.rooted;
          inside = w.inside;
        });
        steps = λ texts. pass 5 _ _ _ (version_there w v (version_kept w v root is))
            ∙ ap₂ (λ (x : Option Tree) (y : ℕ). (
              accepted BookTold.opened,
              record {
                slots = trees (in_use s);
                kept = (view_of s (drafting c None)).kept;
                draft = Some (record { tree = x; base = y });
                lengths = noted c;
                room = room s.records;
              },
            )) (version_is w v root is) (length_slots w.ready);
      }

-- a draft is open
module _ {s : Store} (c : Contents) (d : OpenDraft) (w : Consistent s (drafting c (Some d))) where
  abbrev b : model.Book
  b = view_of s (drafting c (Some d))

  pub keep_refused : most_versions ≤ length (versions c) → Steps s (drafting c (Some d)) s (drafting c (Some d)) keep (refused 13)
  keep_refused h =
      let n = length_lengths w in
      record { keeps = passes w; steps = λ texts. stop 13 _ _ _ (le-leb most_versions (length (lengths_of b).versions) (omega arith)) }

  pub keep_steps : length (versions c) < most_versions → (roots : ArrayVec (Option ℕ)) → roots.items ≡ versions c ++ d.root ∷ [] →
      Steps s (drafting c (Some d)) s (record { draft = None; roots = roots; lens = c.lens })
      keep (accepted (BookTold.kept (length (versions c)) (s.used - d.base)))
  keep_steps h roots more =
      let o = w.orderly in
      let l = length_push (versions c) d.root in
      let n = length_lengths w in
      record {
        keeps = passes (record {
          ready = w.ready;
          orderly = record {
            few = o.few;
            short = o.short;
            most_kept = rw more (omega arith);
            drafted = tt;
            rooted = rw more
                (All-push (Root s.used) (versions c) d.root (All-weaker (Root d.base) (Root s.used) (λ x. root_more x o.drafted.1) (versions c) o.rooted) o.drafted.0);
          };
          inside = w.inside;
        });
        steps = λ texts. pass 13 _ _ _ (lt-leb most_versions (length (lengths_of b).versions) (omega arith))
            ∙ ap₂ (λ (x : BookTold) (y : List (Option Tree)). (accepted x, record { slots = trees (in_use s); kept = y; draft = None; lengths = noted c; room = room s.records }))
            (ap₂ (λ (x y : ℕ). BookTold.kept x (y - d.base)) (length_kept w) (length_slots w.ready))
            (sym (map_push (any_in s) (versions c) d.root) ∙ ap (map (any_in s)) (sym more));
      }

  pub toss_steps : Steps s (drafting c (Some d)) (fewer s d.base) (drafting c None) toss (accepted BookTold.tossed)
  toss_steps =
      let o = w.orderly in
      let le = o.drafted.1 in
      let front = fewer_slots w.ready d.base le in
      record {
        keeps = passes (record {
          ready = fewer_ready w.ready d.base le;
          orderly = orderly_with c o tt o.rooted;
          inside = subst (AllByRecursion (Inside (noted c))) front (All-take (Inside (noted c)) d.base (trees (in_use s)) w.inside);
        });
        steps = λ texts. ap₂ (λ (x : List Tree) (y : List (Option Tree)). (accepted BookTold.tossed, record { slots = x; kept = y; draft = None; lengths = noted c; room = room s.records }))
            front (roots_fewer w.ready d.base le (versions c) o.rooted);
      }
