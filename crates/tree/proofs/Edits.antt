-- The edits of trees that are in order and stored: what they write is so too, and they spell what they should.
use Rattle.std.proofs.Common.{◌≡◌, ℕ, ◌+◌, ◌<◌, ◌≤◌, eqb, leb, List, [], ◌∷◌, ◌++◌, length, take, drop, Some, None, Option, sym, refl, ap, ◌∙◌, append_assoc, append-nil, arith, length-append, take-append-drop}
use Rattle.std.specs.List.{AllByRecursion}
use Rattle.std.proofs.lemmas.List.{take_all, drop_all, drop-drop}
use Rattle.std.proofs.ByRecursion.{All-append, All-take}
use Rattle.std.proofs.lemmas.Bool.{cond_both, leb-true, leb-false, eqb-true, eqb-false}
use Rattle.shelf.specs.Texts.{text, stretch}
use Rattle.tree.specs.Tree.{Tree, piece, size, Balanced, Within, spell}
use Rattle.tree.specs.Edits
use Rattle.tree.specs.Edits.{Made, Halves, Sound, Fit, Grown, Spells, spell_any, size_any, as_it_is}
use Rattle.tree.proofs.Shape.{joins, written}
use Rattle.tree.proofs.Balance.{even}
use Rattle.tree.proofs.Store.{stored_more, stored_last, grows_append, placed}
use Rattle.tree.proofs.Splits.{splits, split_even, split_placed}
use Rattle.tree.proofs.Measure.{join_size, join_small}
use Rattle.tree.proofs.Spell.{join_spell, join_within, split_small, split_front, split_within, split_sizes, length_spell}
use Rattle.tree.proofs.Heap.{grows_take}

-- the two parts of a split are in order and stored, and spell `x` and `y`
pub record SpellBoth (texts : List (List ℕ)) (limit : ℕ) (trees : List Tree) (h : Halves) (x y : List ℕ) : Type 0 where
  pub grown : Grown texts limit trees h.new
  pub left : Fit texts limit (trees ++ h.new) h.left
  pub right : Fit texts limit (trees ++ h.new) h.right
  pub spells_left : spell_any texts h.left ≡ x
  pub spells_right : spell_any texts h.right ≡ y

module _ (texts : List (List ℕ)) (limit : ℕ) where
  pub fit_more : (trees new : List Tree) (t : Option Tree) → Fit texts limit trees t → Fit texts limit (trees ++ new) t
  fit_more trees new None f = tt
  fit_more trees new (Some t) f = (f.0, stored_more trees new t f.1)

  pub fit_length : (trees : List Tree) (t : Option Tree) → Fit texts limit trees t → length (spell_any texts t) ≡ size_any t
  fit_length trees None f = refl
  fit_length trees (Some t) f = length_spell texts t f.0.within

  pub grown_append : (trees a b : List Tree) → Grown texts limit trees a → Grown texts limit (trees ++ a) b → Grown texts limit trees (a ++ b)
  grown_append trees a b g h = record { grows = grows_append trees a b g.grows h.grows; sound = All-append (Sound texts limit) a b g.sound h.sound }

  all_sound : (new : List Tree) → AllByRecursion Balanced new → AllByRecursion (Within texts) new → AllByRecursion (λ x. size x ≤ limit) new → AllByRecursion (Sound texts limit) new
  all_sound [] b w s = tt
  all_sound (t ∷ new) b w s = (record { balanced = b.0; within = w.0; short = s.0 }, all_sound new b.1 w.1 s.1)

  pub as_it_was : (trees : List Tree) (t : Option Tree) → Fit texts limit trees t → Spells texts limit trees (as_it_is t) (spell_any texts t)
  as_it_was trees t f = record { grown = record { grows = tt; sound = tt }; fit = fit_more trees [] t f; spells = refl }

  pub join_any : (trees : List Tree) (n : ℕ) (l r : Option Tree) → length trees ≡ n → Fit texts limit trees l → Fit texts limit trees r →
      size_any l + size_any r ≤ limit → Spells texts limit trees (Edits.join_any n l r) (spell_any texts l ++ spell_any texts r)
  join_any trees n None r e fl fr h = as_it_was trees r fr
  join_any trees n (Some l) None e fl fr h = rw append-nil (as_it_was trees (Some l) fl)
  join_any trees n (Some l) (Some r) e fl fr h =
      let j = joins n l r fl.0.balanced fr.0.balanced in
      let v = even j fl.0.balanced fr.0.balanced in
      let w = join_within texts (written j) fl.0.within fr.0.within in
      let p = placed (written j) trees e fl.1 fr.1 in
      record {
        grown = record { grows = p.grows; sound = all_sound _ v.all w.1 (join_small (written j) limit h) };
        fit = (record { balanced = v.result.balanced; within = w.0; short = omega (arith, join_size (written j)) }, p.stored);
        spells = join_spell texts (written j);
      }

  pub split_any : (trees : List Tree) (n : ℕ) (t : Option Tree) (p : ℕ) → length trees ≡ n → Fit texts limit trees t →
      SpellBoth texts limit trees (Edits.split_any n t p) (take p (spell_any texts t)) (drop p (spell_any texts t))
  split_any trees n None p e f =
      record { grown = record { grows = tt; sound = tt }; left = tt; right = tt; spells_left = sym (take_all p [] (omega arith)); spells_right = sym (drop_all p [] (omega arith)) }
  split_any trees n (Some t) p e f = cond_both (eqb p 0) _ _ (λ h. SpellBoth texts limit trees h (take p (spell texts t)) (drop p (spell texts t)))
      (λ q. let z = eqb-true p 0 q in record { grown = record { grows = tt; sound = tt }; left = tt; right = rw append-nil f; spells_left = rw z; spells_right = rw z })
      (λ q. let z = eqb-false p 0 q in cond_both (leb (size t) p) _ _ (λ h. SpellBoth texts limit trees h (take p (spell texts t)) (drop p (spell texts t)))
      (λ o. let big = leb-true (size t) p o in let len = length_spell texts t f.0.within in
      record { grown = record { grows = tt; sound = tt }; left = rw append-nil f; right = tt; spells_left = sym (take_all p _ (omega arith)); spells_right = sym (drop_all p _ (omega arith)) })
      (λ o. let s = splits n t p f.0.balanced (omega arith) (leb-false (size t) p o) in
      let v = split_even s f.0.balanced in
      let w = split_within texts s f.0.within in
      let b = split_placed s trees e f.1 in
      let c = split_front texts s f.0.within in
      let k = f.0.short in
      record {
        grown = record { grows = b.grows; sound = all_sound _ v.all w.2 (split_small s limit k) };
        left = (record { balanced = v.left; within = w.0; short = omega (arith, split_sizes s) }, b.left);
        right = (record { balanced = v.right; within = w.1; short = omega (arith, split_sizes s) }, b.right);
        spells_left = c.0;
        spells_right = c.1;
      }))

  -- one step behind another
  step : (trees a : List Tree) (b : Made) (s : List ℕ) → Grown texts limit trees a → Spells texts limit (trees ++ a) b s →
      Spells texts limit trees (record { new = a ++ b.new; tree = b.tree }) s
  step trees a b s g h = record { grown = grown_append trees a b.new g h.grown; fit = rw append_assoc at h.fit; spells = h.spells }

  -- the lengths add up
  both_sizes : (trees : List Tree) (t : Option Tree) (p : ℕ) (h : Halves) → Fit texts limit trees t →
      SpellBoth texts limit trees h (take p (spell_any texts t)) (drop p (spell_any texts t)) → size_any h.left + size_any h.right ≡ size_any t
  both_sizes trees t p h f b =
      let l = fit_length _ h.left b.left in
      let r = fit_length _ h.right b.right in
      let a = simp (length-append, ← b.spells_left, ← b.spells_right) at (ap length (take-append-drop p (spell_any texts t))) in
      omega (arith, a, fit_length trees t f)

  joined_size : (trees : List Tree) (l r : Option Tree) (b : Made) → Fit texts limit trees l → Fit texts limit trees r →
      Spells texts limit trees b (spell_any texts l ++ spell_any texts r) → size_any b.tree ≡ size_any l + size_any r
  joined_size trees l r b fl fr h =
      omega (arith, simp length-append at (ap length h.spells), fit_length trees l fl, fit_length trees r fr, fit_length _ b.tree h.fit)

  pub put : (trees : List Tree) (n : ℕ) (t : Option Tree) (p : ℕ) (x : Tree) → length trees ≡ n → Fit texts limit trees t → Fit texts limit trees (Some x) →
      size_any t + size x ≤ limit →
      Spells texts limit trees (Edits.put n t p x) (take p (spell_any texts t) ++ spell texts x ++ drop p (spell_any texts t))
  put trees n t p x e ft fx fits =
      let h = Edits.split_any n t p in
      let h' = split_any trees n t p e ft in
      let a = Edits.join_any (n + length h.new) h.left (Some x) in
      let e1 : length (trees ++ h.new) ≡ n + length h.new = simp length-append (omega arith) in
      let s1 = both_sizes trees t p h ft h' in
      let a' = join_any (trees ++ h.new) (n + length h.new) h.left (Some x) e1 h'.left (fit_more trees h.new (Some x) fx) (omega arith) in
      let s2 = joined_size (trees ++ h.new) h.left (Some x) a h'.left (fit_more trees h.new (Some x) fx) a' in
      let b = Edits.join_any (n + length h.new + length a.new) a.tree h.right in
      let b' = join_any (trees ++ h.new ++ a.new) (n + length h.new + length a.new) a.tree h.right (simp length-append (omega arith)) a'.fit
      (fit_more (trees ++ h.new) a.new h.right h'.right) (omega arith) in
      step trees h.new (record { new = a.new ++ b.new; tree = b.tree }) _ h'.grown
      (step (trees ++ h.new) a.new b _ a'.grown (record { grown = b'.grown; fit = b'.fit; spells = b'.spells ∙ cc (a'.spells, h'.spells_left, h'.spells_right) }))

  pub put_piece : (trees : List Tree) (n : ℕ) (t : Option Tree) (p k i m : ℕ) → length trees ≡ n → Fit texts limit trees t →
      0 < m → k < length texts → i + m ≤ length (text texts k) → size_any t + m ≤ limit →
      Spells texts limit trees (Edits.put_piece n t p k i m) (take p (spell_any texts t) ++ stretch i m (text texts k) ++ drop p (spell_any texts t))
  put_piece trees n t p k i m e ft h1 h2 h3 fits =
      let x = piece n k i m in
      let s : Sound texts limit x = record { balanced = tt; within = (h1, h2, h3); short = omega arith } in
      step trees (x ∷ []) (Edits.put (n + 1) t p x) _ (record { grows = (sym e, tt); sound = (s, tt) })
      (put (trees ++ x ∷ []) (n + 1) t p x (simp length-append (omega arith)) (fit_more trees (x ∷ []) t ft) (s, stored_last trees x (sym e)) fits)

  pub put_any : (trees : List Tree) (n : ℕ) (t : Option Tree) (p : ℕ) (x : Option Tree) → length trees ≡ n → Fit texts limit trees t → Fit texts limit trees x →
      size_any t + size_any x ≤ limit →
      Spells texts limit trees (Edits.put_any n t p x) (take p (spell_any texts t) ++ spell_any texts x ++ drop p (spell_any texts t))
  put_any trees n t p None e ft fx fits = rw (append-nil, take-append-drop) (as_it_was trees t ft)
  put_any trees n t p (Some x) e ft fx fits = put trees n t p x e ft fx fits

  pub crop : (trees : List Tree) (n : ℕ) (t : Option Tree) (p m : ℕ) → length trees ≡ n → Fit texts limit trees t →
      Spells texts limit trees (Edits.crop n t p m) (stretch p m (spell_any texts t))
  crop trees n t p m e ft =
      let h = Edits.split_any n t p in
      let h' = split_any trees n t p e ft in
      let k = Edits.split_any (n + length h.new) h.right m in
      let k' = split_any (trees ++ h.new) (n + length h.new) h.right m (simp length-append (omega arith)) h'.right in
      step trees h.new (record { new = k.new; tree = k.left }) _ h'.grown
      (record { grown = k'.grown; fit = k'.left; spells = cc (k'.spells_left, h'.spells_right) })

  fit_short : (trees : List Tree) (t : Option Tree) → Fit texts limit trees t → size_any t ≤ limit
  fit_short trees None f = omega arith
  fit_short trees (Some t) f = f.0.short

  pub cut : (trees : List Tree) (n : ℕ) (t : Option Tree) (p m : ℕ) → length trees ≡ n → Fit texts limit trees t →
      Spells texts limit trees (Edits.cut n t p m) (take p (spell_any texts t) ++ drop (p + m) (spell_any texts t))
  cut trees n t p m e ft =
      let h = Edits.split_any n t p in
      let h' = split_any trees n t p e ft in
      let k = Edits.split_any (n + length h.new) h.right m in
      let e1 : length (trees ++ h.new) ≡ n + length h.new = simp length-append (omega arith) in
      let k' = split_any (trees ++ h.new) (n + length h.new) h.right m e1 h'.right in
      let b = Edits.join_any (n + length h.new + length k.new) h.left k.right in
      let b' = join_any (trees ++ h.new ++ k.new) (n + length h.new + length k.new) h.left k.right (simp length-append (omega arith))
      (fit_more (trees ++ h.new) k.new h.left h'.left) k'.right
      (omega (arith, both_sizes trees t p h ft h', both_sizes (trees ++ h.new) h.right m k h'.right k', fit_short trees t ft)) in
      cond_both (eqb m 0) _ _ (λ y. Spells texts limit trees y (take p (spell_any texts t) ++ drop (p + m) (spell_any texts t)))
      (λ q. let z : p + m ≡ p = omega (arith, eqb-true m 0 q) in rw (z, take-append-drop) (as_it_was trees t ft))
      (λ q. step trees h.new (record { new = k.new ++ b.new; tree = b.tree }) _ h'.grown
      (step (trees ++ h.new) k.new b _ k'.grown
      (record { grown = b'.grown; fit = b'.fit; spells = b'.spells ∙ cc (h'.spells_left, k'.spells_right, h'.spells_right, drop-drop m p (spell_any texts t)) })))

  -- the first slots of a list written from nothing
  pub grown_take : (trees : List Tree) (n : ℕ) → Grown texts limit [] trees → Grown texts limit [] (take n trees)
  grown_take trees n g = record { grows = grows_take [] trees n g.grows; sound = All-take (Sound texts limit) n trees g.sound }
