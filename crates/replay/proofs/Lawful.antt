-- From the machine's run to the law of kept versions.
use Rattle.std.proofs.Common.{◌≡◌, ℕ, List, [], ◌∷◌, map, sym, refl, ap, ◌∙◌, ap₂}
use Rattle.rule.specs.Rule.{Joins}
use Rattle.model.specs.Answers.{Answer, Told}
use Rattle.model.specs.Book.{Book, new_book}
use Rattle.model.specs.Runs.{State, new}
use Rattle.model.specs.Sheet.{Rule, Sheet, new_sheet}
use Rattle.model.proofs.Law.{law}
use Rattle.replay.specs.declared.call.Answer as code
use Rattle.replay.specs.declared.call.Call.{Call}
use Rattle.replay.specs.declared.call.Which.{Which}
use Rattle.replay.specs.declared.call.Which.TheVariants.{First, Second}
use Rattle.replay.specs.Calls.{shelf_of, first_answer, second_answer}
use Rattle.replay.specs.Handed.{Handed, run_handed}
use Rattle.replay.specs.Replays.{state, told_call, handed, Runs, Lawful, Replayed}
use Rattle.replay.proofs.Handing.{same_texts}

module _ (patterns : List ℕ) (texts : Which → List (List ℕ)) where
  module _ (same : texts Second ≡ texts First) where
    either : (w : Which) → texts w ≡ texts First
    either First = refl
    either Second = same

    -- all calls are handed the same texts
    all_first : (mine : Which) (calls : List Call) →
        map (handed patterns texts mine) calls ≡ map (λ c. record { texts = texts First; call = c }) (map (told_call patterns texts mine) calls)
    all_first mine [] = refl
    all_first mine (c ∷ calls) =
        ap₂ (λ (h : Handed) (hs : List Handed). h ∷ hs)
        (ap (λ (t : List (List ℕ)). record { texts = t; call = told_call patterns texts mine c }) (either (shelf_of c))) (all_first mine calls)

    lawful : {V : Type 0} (rule : Rule V) → Joins rule.value rule.joined → (mine : Which) (records : ℕ) (values : List V) (calls : List Call) (told : List (Answer (Told V))) →
        told ≡ (run_handed rule (new (texts First) records (values ∷ [])) (map (handed patterns texts mine) calls)).0 →
        Lawful (texts First) rule records values (map (told_call patterns texts mine) calls) told
    lawful {V} rule joins mine records values calls told e =
        let start = new (texts First) records (values ∷ []) in
        let kept = law rule joins (texts First) records (values ∷ []) (map (told_call patterns texts mine) calls) in
        record {
          ran = e
              ∙ ap (λ (hs : List Handed). (run_handed rule start hs).0) (all_first mine calls)
              ∙ ap (λ (r : List (Answer (Told V)) × State V). r.0) (same_texts rule (texts First) start (map (told_call patterns texts mine) calls));
          strings = kept.strings;
          trees = kept.trees;
          summaries = kept.summaries;
        }

  -- the answers of a run from a new book and new sheets
  told_new : {V A : Type 0} (rule : Rule V) (tell : A → Answer (Told V)) (b : Book) (s : Sheet V) (end : State V) (records : ℕ) (values : List V) (calls : List Handed) (told : List A) →
      b ≡ new_book (texts First) records → s ≡ new_sheet values → run_handed rule (state b s) calls ≡ (map tell told, end) →
      map tell told ≡ (run_handed rule (new (texts First) records (values ∷ [])) calls).0
  told_new {V} rule tell b s end records values calls told e f r =
      sym (ap (λ (x : List (Answer (Told V)) × State V). x.0) r) ∙ ap (λ (x : State V). (run_handed rule x calls).0) (ap₂ state e f)

  pub replayed : {P Q : Type 0} (p : Rule P) (q : Rule Q) → Joins p.value p.joined → Joins q.value q.joined →
      (b b' : Book) (s s' : Sheet P) (t t' : Sheet Q) (records : ℕ) (xs : List P) (ys : List Q) (calls : List Call) (told : List (code.Answer P Q)) →
      b ≡ new_book (texts First) records → s ≡ new_sheet xs → t ≡ new_sheet ys →
      Runs patterns texts p q b b' s s' t t' calls told → Replayed patterns texts p q records xs ys calls told
  replayed p q joins_p joins_q b b' s s' t t' records xs ys calls told e f g r =
      let one = told_new p first_answer b s (state b' s') records xs (map (handed patterns texts First) calls) told e f r.first in
      let two = told_new q second_answer b t (state b' t') records ys (map (handed patterns texts Second) calls) told e g r.second in
      record {
        first = one;
        second = two;
        first_law = λ same. lawful same p joins_p First records xs calls (map first_answer told) one;
        second_law = λ same. lawful same q joins_q Second records ys calls (map second_answer told) two;
      }
