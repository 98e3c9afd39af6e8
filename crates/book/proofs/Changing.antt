-- What the calls of a change ask and give.
use Rattle.std.proofs.Common.{◌≡◌, ℕ, ◌+◌, ◌<◌, ◌≤◌, ◌++◌, length, Some, Ok, Err, Option, Result, sym, refl, ap, ◌∙◌, subst, arith}
use Rattle.std.proofs.lemmas.List.{length-append}
use Rattle.std.proofs.lemmas.Bool.{cond-false, ne_eqb}
use Rattle.shelf.specs.Texts.{limit}
use Rattle.tree.specs.Tree.{Tree, piece, size}
use Rattle.tree.specs.Edits as rules
use Rattle.tree.specs.Edits.{size_any, join_any, split_any, put, put_piece, cut, crop}
use Rattle.book.specs.declared.node.Built.{Built}
use Rattle.book.specs.declared.node.NoRoom.{NoRoom}
use Rattle.book.specs.Records.{Store, Ready, tree_in}
use Rattle.book.specs.Building.{one, Made, Lacks}
use Rattle.book.specs.Changing.{Root, any_in, Two, Has, HasHalves, Gets}
use Rattle.book.proofs.Stores.{stays, more, lacks_later, lacks_more}
use Rattle.book.proofs.Roots.{any_stays, root_stays, any_short, halves_size, joined_size}

gets_as : {s s' : Store} {b c : rules.Made} {r : Result (Built (Option ℕ)) NoRoom} → b ≡ c → Gets s s' b r → Gets s s' c r
gets_as {s} {s'} {r = r} e g = subst (λ x. Gets s s' x r) e g

no_get : {s s' : Store} {b c : rules.Made} {m : ℕ} {e : NoRoom} → b ≡ c → m ≤ length b.new → Lacks s s' m → Gets s s' c (Err e)
no_get {b = b} f h l = gets_as f (record { case = lacks_more (length b.new) h l })

-- a split, and what is made of its parts
module _ {s : Store} (t : Option ℕ) (p : ℕ) (d : Ready s) (root : Root s.used t) {s₁ : Store} (q : Built (Option ℕ × Option ℕ)) (h : HasHalves s s₁ (split_any s.used (any_in s t) p) q) where
  abbrev H : rules.Halves
  H = split_any s.used (any_in s t) p

  -- put: the left part with the tree at slot `x`, and then the right part
  module _ (x : ℕ) (w : x < s.used) (short : size_any (any_in s t) + size (tree_in s x) ≤ limit) where
    same : tree_in s₁ x ≡ tree_in s x
    same = stays d h.wrote x w

    pub put_front : Two s₁ q.value.0 (Some x)
    put_front =
        let z = halves_size t p q d root h in
        let f = same in
        record { ready = h.wrote.ready; left = h.left_root; right = root_stays h.wrote (Some x) w; short = rw f (omega arith) }

    abbrev A : rules.Made
    A = join_any (s.used + length H.new) H.left (Some (tree_in s x))

    abbrev B : rules.Made
    B = join_any (s.used + length H.new + length A.new) A.tree H.right

    front_is : join_any s₁.used (any_in s₁ q.value.0) (any_in s₁ (Some x)) ≡ A
    front_is =
        let e = h.left in
        let f = same in
        let u = h.wrote.used in rw (e, f, u)

    pub put_fails₂ : {s₂ : Store} {er : NoRoom} → Lacks s₁ s₂ (length (join_any s₁.used (any_in s₁ q.value.0) (any_in s₁ (Some x))).new) →
        Gets s s₂ (put s.used (any_in s t) p (tree_in s x)) (Err er)
    put_fails₂ l = no_get refl (simp length-append (omega (arith, ap (λ b. length b.new) front_is))) (lacks_later h.wrote l)

    module _ {s₂ : Store} (f : Built (Option ℕ)) (k' : Has s₁ s₂ (join_any s₁.used (any_in s₁ q.value.0) (any_in s₁ (Some x))) f) where
      right_stays : any_in s₂ q.value.1 ≡ any_in s₁ q.value.1
      right_stays = any_stays h.wrote.ready k'.wrote q.value.1 h.right_root

      pub put_whole : Two s₂ f.value q.value.1
      put_whole =
          let z = halves_size t p q d root h in
          let y = joined_size q.value.0 (Some x) f k' in
          let g = same in
          let e = right_stays in
          let v : size (tree_in s₁ x) ≡ size (tree_in s x) = ap size same in
          record { ready = k'.wrote.ready; left = k'.root; right = root_stays k'.wrote q.value.1 h.right_root; short = rw e (omega arith) }

      k : Has s₁ s₂ A f
      k = subst (λ b. Has s₁ s₂ b f) front_is k'

      whole_is : join_any s₂.used (any_in s₂ f.value) (any_in s₂ q.value.1) ≡ B
      whole_is =
          let e = k.tree in
          let g = right_stays ∙ h.right in
          let u : s₂.used ≡ s.used + length H.new + length A.new = (let v = h.wrote.used in let w = k.wrote.used in omega arith) in
          rw (e, g, u)

      pub put_fails₃ : {s₃ : Store} {er : NoRoom} → Lacks s₂ s₃ (length (join_any s₂.used (any_in s₂ f.value) (any_in s₂ q.value.1)).new) →
          Gets s s₃ (put s.used (any_in s t) p (tree_in s x)) (Err er)
      put_fails₃ l = no_get refl (simp length-append (omega (arith, ap (λ b. length b.new) whole_is))) (lacks_later h.wrote (lacks_later k.wrote l))

      pub put_done : {s₃ : Store} (b : Built (Option ℕ)) → Has s₂ s₃ (join_any s₂.used (any_in s₂ f.value) (any_in s₂ q.value.1)) b →
          Gets s s₃ (put s.used (any_in s t) p (tree_in s x)) (Ok (record { value = b.value; made = q.made + f.made + b.made }))
      put_done {s₃} b n' =
          let n = subst (λ z. Has s₂ s₃ z b) whole_is n' in
          let e = h.made in
          let g = k.made in
          let i = n.made in
          record { case = record { wrote = more h.wrote (more k.wrote n.wrote); root = n.root; tree = n.tree; made = simp length-append (omega arith) } }

  -- cut and crop: the right part is split again
  module _ (m : ℕ) where
    abbrev K : rules.Halves
    K = split_any (s.used + length H.new) H.right m

    abbrev C : rules.Made
    C = join_any (s.used + length H.new + length K.new) H.left K.right

    inner_is : split_any s₁.used (any_in s₁ q.value.1) m ≡ K
    inner_is =
        let e = h.right in
        let u = h.wrote.used in rw (e, u)

    whole_cut : 0 < m → record { new = H.new ++ (K.new ++ C.new); tree = C.tree } ≡ cut s.used (any_in s t) p m
    whole_cut z = sym (cond-false _ _ _ (ne_eqb m 0 (omega arith)))

    pub cut_fails₂ : {s₂ : Store} {er : NoRoom} → 0 < m → Lacks s₁ s₂ (length (split_any s₁.used (any_in s₁ q.value.1) m).new) →
        Gets s s₂ (cut s.used (any_in s t) p m) (Err er)
    cut_fails₂ z l = no_get (whole_cut z) (simp length-append (omega (arith, ap (λ b. length b.new) inner_is))) (lacks_later h.wrote l)

    pub crop_fails₂ : {s₂ : Store} {er : NoRoom} → Lacks s₁ s₂ (length (split_any s₁.used (any_in s₁ q.value.1) m).new) →
        Gets s s₂ (crop s.used (any_in s t) p m) (Err er)
    crop_fails₂ l = no_get refl (simp length-append (omega (arith, ap (λ b. length b.new) inner_is))) (lacks_later h.wrote l)

    module _ {s₂ : Store} (i : Built (Option ℕ × Option ℕ)) (k' : HasHalves s₁ s₂ (split_any s₁.used (any_in s₁ q.value.1) m) i) where
      k₂ : HasHalves s₁ s₂ K i
      k₂ = subst (λ z. HasHalves s₁ s₂ z i) inner_is k'

      pub crop_done : Gets s s₂ (crop s.used (any_in s t) p m) (Ok (record { value = i.value.0; made = q.made + i.made }))
      crop_done =
          let e = h.made in
          let g = k₂.made in
          record { case = record { wrote = more h.wrote k₂.wrote; root = k₂.left_root; tree = k₂.left; made = simp length-append (omega arith) } }

      left_stays : any_in s₂ q.value.0 ≡ any_in s₁ q.value.0
      left_stays = any_stays h.wrote.ready k₂.wrote q.value.0 h.left_root

      pub cut_outer : Two s₂ q.value.0 i.value.1
      cut_outer =
          let y = halves_size t p q d root h in
          let z = halves_size q.value.1 m i h.wrote.ready h.right_root k' in
          let e = left_stays in
          let b = any_short d t root in
          record { ready = k₂.wrote.ready; left = root_stays k₂.wrote q.value.0 h.left_root; right = k₂.right_root; short = rw e (omega arith) }

      outer_is : join_any s₂.used (any_in s₂ q.value.0) (any_in s₂ i.value.1) ≡ C
      outer_is =
          let e = left_stays ∙ h.left in
          let g = k₂.right in
          let u : s₂.used ≡ s.used + length H.new + length K.new = (let v = h.wrote.used in let w = k₂.wrote.used in omega arith) in
          rw (e, g, u)

      pub cut_fails₃ : {s₃ : Store} {er : NoRoom} → 0 < m → Lacks s₂ s₃ (length (join_any s₂.used (any_in s₂ q.value.0) (any_in s₂ i.value.1)).new) →
          Gets s s₃ (cut s.used (any_in s t) p m) (Err er)
      cut_fails₃ z l =
          no_get (whole_cut z) (simp length-append (omega (arith, ap (λ b. length b.new) outer_is))) (lacks_later h.wrote (lacks_later k₂.wrote l))

      pub cut_done : {s₃ : Store} (b : Built (Option ℕ)) → 0 < m → Has s₂ s₃ (join_any s₂.used (any_in s₂ q.value.0) (any_in s₂ i.value.1)) b →
          Gets s s₃ (cut s.used (any_in s t) p m) (Ok (record { value = b.value; made = q.made + i.made + b.made }))
      cut_done {s₃} b z n' =
          let n = subst (λ x. Has s₂ s₃ x b) outer_is n' in
          let e = h.made in
          let g = k₂.made in
          let j = n.made in
          gets_as (whole_cut z)
          (record { case = record { wrote = more h.wrote (more k₂.wrote n.wrote); root = n.root; tree = n.tree; made = simp length-append (omega arith) } })

-- the first split fails
module _ {s : Store} (t : Option ℕ) (p : ℕ) {s₁ : Store} {er : NoRoom} (l : Lacks s s₁ (length (split_any s.used (any_in s t) p).new)) where
  pub put_fails : (x : Tree) → Gets s s₁ (put s.used (any_in s t) p x) (Err er)
  put_fails x = no_get refl (simp length-append (omega arith)) l

  pub cut_fails : (m : ℕ) → 0 < m → Gets s s₁ (cut s.used (any_in s t) p m) (Err er)
  cut_fails m z = no_get (sym (cond-false _ _ _ (ne_eqb m 0 (omega arith)))) (simp length-append (omega arith)) l

  pub crop_fails : (m : ℕ) → Gets s s₁ (crop s.used (any_in s t) p m) (Err er)
  crop_fails m = no_get refl (simp length-append (omega arith)) l

-- a new piece first
module _ {s : Store} (t : Option ℕ) (p k i m : ℕ) (d : Ready s) (root : Root s.used t) (short : size_any (any_in s t) + m ≤ limit)
    {s₁ : Store} (x : Built ℕ) (b : Made s s₁ (one (piece s.used k i m)) x) where
  pub leaf_two : Two s₁ t (Some x.value)
  leaf_two =
      let e = b.tree in
      let f = any_stays d b.wrote t root in
      record { ready = b.wrote.ready; left = root_stays b.wrote t root; right = b.slot; short = rw (e, f) short }

  put_is : put s₁.used (any_in s₁ t) p (tree_in s₁ x.value) ≡ put (s.used + 1) (any_in s t) p (piece s.used k i m)
  put_is =
      let e = b.tree in
      let f = any_stays d b.wrote t root in
      let u : s₁.used ≡ s.used + 1 = b.wrote.used in rw (e, f, u)

  pub leaf_fails : {s₂ : Store} {er : NoRoom} → Lacks s₁ s₂ (length (put s₁.used (any_in s₁ t) p (tree_in s₁ x.value)).new) →
      Gets s s₂ (put_piece s.used (any_in s t) p k i m) (Err er)
  leaf_fails l = no_get refl (omega (arith, ap (λ z. length z.new) put_is)) (lacks_later b.wrote l)

  pub leaf_done : {s₂ : Store} (w : Built (Option ℕ)) → Has s₁ s₂ (put s₁.used (any_in s₁ t) p (tree_in s₁ x.value)) w →
      Gets s s₂ (put_piece s.used (any_in s t) p k i m) (Ok (record { value = w.value; made = x.made + w.made }))
  leaf_done {s₂} w n' =
      let n = subst (λ z. Has s₁ s₂ z w) put_is n' in
      let e = b.made in
      let f = n.made in
      record { case = record { wrote = more b.wrote n.wrote; root = n.root; tree = n.tree; made = omega arith } }
