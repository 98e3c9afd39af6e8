-- A change of the draft's tree, on the records and in the machine.
use Rattle.std.proofs.Common.{◌≡◌, ℕ, ◌<◌, ◌≤◌, min, List, ◌++◌, map, length, take, Some, None, Ok, Err, Option, Result, sym, refl, ap, ◌∙◌, subst, ap₂, arith}
use Rattle.std.specs.Option.{option_or}
use Rattle.std.specs.List.{AllByRecursion}
use Rattle.std.proofs.ByRecursion.{All-append, All-get_or, All-weaker}
use Rattle.std.proofs.lemmas.Bool.{lt-ltb, le-ltb, cond-true, cond-false}
use Rattle.shelf.specs.Texts.{limit}
use Rattle.tree.specs.Tree as trees
use Rattle.tree.specs.Edits.{Made}
use Rattle.model.specs.Answers.{refused, accepted, unless, BookTold}
use Rattle.model.specs.Book as model
use Rattle.model.specs.Book.{book_step, book_effect, book_own_rows, lengths_of, built, made, free, with_draft}
use Rattle.model.specs.Calls.{Edit, edit}
use Rattle.model.specs.Rows.{most_slots, first_row, edit_rows}
use Rattle.model.proofs.Steps.{first_append}
use Rattle.book.specs.declared.contents.Contents.{Contents}
use Rattle.book.specs.declared.contents.OpenDraft.{OpenDraft}
use Rattle.book.specs.declared.fault.BookFault.{BookFault}
use Rattle.book.specs.declared.fault.BookFault.TheVariants.{NoRoom}
use Rattle.book.specs.declared.node.Change.{Change}
use Rattle.book.specs.declared.node.Change.TheVariants.{Piece, Tree, Cut, Crop}
use Rattle.book.specs.declared.node.Built.{Built}
use Rattle.book.specs.declared.node.Node.{Node}
use Rattle.book.specs.Records as records
use Rattle.book.specs.Records.{Sound, Store, in_use, room}
use Rattle.book.specs.Building.{Lacks}
use Rattle.book.specs.Changing.{Root, any_in, Has, Addable, Allowed, changed}
use Rattle.book.specs.Contents.{noted, versions, Inside, Orderly, Consistent}
use Rattle.book.specs.Faults.{number, answer}
use Rattle.book.specs.View.{shown, view_of, Steps, Fits, Redrafts}
use Rattle.book.proofs.Stores.{length_slots}
use Rattle.book.proofs.Insides.{changed_inside}
use Rattle.book.proofs.Tested.{passes}
use Rattle.book.proofs.Shown.{drafting, orderly_with, root_more, roots_stay}

-- the records
module _ {s : Store} (c : Contents) (d : OpenDraft) (w : Consistent s (drafting c (Some d))) where
  addable : (x : Change) → Fits s (drafting c (Some d)) d.root x → Addable s d.root x
  addable (Piece place text start len) f =
      (f.0, omega (arith, f.2, All-get_or (λ n. n ≤ limit) (noted c) text 0 f.1 w.orderly.short), f.3)
  addable (Tree place other) f = f
  addable (Cut from len) f = tt
  addable (Crop from len) f = tt

  module _ (x : Change) (f : Fits s (drafting c (Some d)) d.root x) where
    pub allowed : Allowed s d.root x
    allowed = record { ready = w.ready; root = w.orderly.drafted.0; addable = addable x f }

    pub redraft_done : {s' : Store} (q : Built (Option ℕ)) → Has s s' (changed s d.root x) q →
        Redrafts s (drafting c (Some d)) d s' (drafting c (Some (record { root = q.value; base = d.base }))) (changed s d.root x) (Ok q.made)
    redraft_done {s'} q has =
        let o = w.orderly in
        let wrote = has.wrote in
        let base = o.drafted.1 in
        let used = wrote.used in
        let within = wrote.ready.within in
        let few = wrote.ready.few in
        let len = wrote.len in
        let roots = roots_stay w.ready wrote (versions c) (All-weaker (Root d.base) (Root s.used) (λ r. root_more r o.drafted.1) (versions c) o.rooted) in
        record {
          keeps = passes (record {
            ready = wrote.ready;
            orderly = orderly_with c o (has.root, omega arith) o.rooted;
            inside = subst (AllByRecursion (Inside (noted c))) (sym wrote.trees)
                (All-append (Inside (noted c)) (records.trees (in_use s)) (changed s d.root x).new w.inside (changed_inside w d.root o.drafted.0 x f));
          });
          case = (
            has.made,
            omega arith,
            ap₂ (λ (ts : List trees.Tree) (vs : List (Option trees.Tree)). record {
              slots = ts;
              kept = vs;
              draft = Some (record { tree = any_in s' q.value; base = d.base });
              lengths = noted c;
              room = room s'.records;
            }) wrote.trees roots
                ∙ ap₂ (λ (t : Option trees.Tree) (n : ℕ). record {
                  slots = records.trees (in_use s) ++ (changed s d.root x).new;
                  kept = map (any_in s) (versions c);
                  draft = Some (record { tree = t; base = d.base });
                  lengths = noted c;
                  room = min n most_slots;
                }) has.tree wrote.len,
          );
        }

    pub redraft_fails : {s' : Store} → Lacks s s' (length (changed s d.root x).new) × (s'.used ≡ s.used) →
        Redrafts s (drafting c (Some d)) d s' (drafting c (Some d)) (changed s d.root x) (Err NoRoom)
    redraft_fails {s'} p =
        let l = p.0 in
        let same = p.1 in
        let within = w.ready.within in
        let few = w.ready.few in
        let len = l.len in
        let records_stay : in_use s' ≡ in_use s = ap (λ (n : ℕ). take n s'.records) same ∙ l.kept in
        record {
          keeps = passes (record {
            ready = record { within = omega arith; few = omega arith; sound = subst Sound (sym records_stay) w.ready.sound };
            orderly = subst (λ (n : ℕ). Orderly n (drafting c (Some d))) (sym same) w.orderly;
            inside = subst (λ (xs : List Node). AllByRecursion (Inside (noted c)) (records.trees xs)) (sym records_stay) w.inside;
          });
          case = (refl, l.full, ap₂ (λ (xs : List Node) (n : ℕ). shown xs (min n most_slots) (drafting c (Some d))) records_stay l.len);
        }

-- contents with their own draft
pub redrafts_from : {s : Store} (c : Contents) (d : OpenDraft) {s' : Store} {c' : Contents} {rule : Made} {r : Result ℕ BookFault} → c.draft ≡ Some d →
    Redrafts s (drafting c (Some d)) d s' c' rule r → Redrafts s c d s' c' rule r
redrafts_from {s} c d {s'} {c'} {rule} {r} e g = subst (λ (o : Option OpenDraft). Redrafts s (drafting c o) d s' c' rule r) (sym e) g

pub lacks_from : {s : Store} (c : Contents) (d : OpenDraft) {s' : Store} {rule : Made} {r : Result ℕ BookFault} → c.draft ≡ Some d →
    Redrafts s (drafting c (Some d)) d s' (drafting c (Some d)) rule r → Redrafts s c d s' c rule r
lacks_from {s} c d {s'} {rule} {r} e g = subst (λ (o : Option OpenDraft). Redrafts s (drafting c o) d s' (drafting c o) rule r) (sym e) g

-- the machine
module _ (b : model.Book) (e : Edit) where
  by_rows : (o : Option ℕ) → first_row (edit_rows (lengths_of b) e) ≡ o → (texts : List (List ℕ)) →
      book_step texts b (edit e) ≡ unless (option_or o (first_row (book_own_rows b (edit e)))) b (book_effect texts b (edit e))
  by_rows o is texts = ap (λ (x : Option ℕ). unless x b (book_effect texts b (edit e)))
      (first_append (edit_rows (lengths_of b) e) (book_own_rows b (edit e)) ∙ ap (λ (x : Option ℕ). option_or x (first_row (book_own_rows b (edit e)))) is)

  pub row_refuses : (row : ℕ) → first_row (edit_rows (lengths_of b) e) ≡ Some row → (texts : List (List ℕ)) → book_step texts b (edit e) ≡ (refused row, b)
  row_refuses row is texts = by_rows (Some row) is texts

  pub no_room : first_row (edit_rows (lengths_of b) e) ≡ None → free b < made b e → (texts : List (List ℕ)) → book_step texts b (edit e) ≡ (refused 12, b)
  no_room is h texts = by_rows None is texts ∙ ap (λ (x : Option ℕ). unless x b (book_effect texts b (edit e))) (cond-true _ _ _ (lt-ltb (free b) (made b e) h))

  pub room_enough : first_row (edit_rows (lengths_of b) e) ≡ None → made b e ≤ free b → (texts : List (List ℕ)) →
      book_step texts b (edit e) ≡ (accepted (book_effect texts b (edit e)).0, (book_effect texts b (edit e)).1)
  room_enough is h texts = by_rows None is texts ∙ ap (λ (x : Option ℕ). unless x b (book_effect texts b (edit e))) (cond-false _ _ _ (le-ltb (free b) (made b e) h))

-- both
module _ {s : Store} (c : Contents) (d : OpenDraft) (w : Consistent s (drafting c (Some d))) (e : Edit) where
  abbrev b : model.Book
  b = view_of s (drafting c (Some d))

  module _ (rule : Made) (is : built b e ≡ rule) (none : first_row (edit_rows (lengths_of b) e) ≡ None) where
    count : made b e ≡ length rule.new
    count = ap (λ (x : Made). length x.new) is

    pub edit_steps : {s' : Store} {c' : Contents} (r : Result ℕ BookFault) → Redrafts s (drafting c (Some d)) d s' c' rule r → Steps s (drafting c (Some d)) s' c' (edit e) (answer BookTold.edited r)
    edit_steps (Ok n) g =
        let slots = length_slots w.ready in
        let k = count in
        let fits = g.case.1 in
        record {
          keeps = g.keeps;
          steps = λ texts. room_enough b e none (omega arith) texts
              ∙ ap (λ (x : Made). (
                accepted (BookTold.edited (length x.new)),
                with_draft b (records.trees (in_use s) ++ x.new) (Some (record { tree = x.tree; base = d.base })),
              )) is
              ∙ ap₂ (λ (x : ℕ) (y : model.Book). (accepted (BookTold.edited x), y)) (sym g.case.0) (sym g.case.2);
        }
    edit_steps (Err fault) g =
        let slots = length_slots w.ready in
        let k = count in
        let few = w.ready.few in
        let within = w.ready.within in
        let lacks = g.case.1 in
        record {
          keeps = g.keeps;
          steps = λ texts. no_room b e none (omega arith) texts
              ∙ ap₂ (λ (x : BookFault) (y : model.Book). (refused (number x), y)) (sym g.case.0) (sym g.case.2);
        }
