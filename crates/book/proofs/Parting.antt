-- What the calls of a split ask and give.
use Rattle.std.proofs.Common.{◌≡◌, ℕ, ◌+◌, ◌-◌, ◌<◌, ◌≤◌, length, get_or, Ok, Err, Result, sym, refl, ap, ◌∙◌, subst, arith}
use Rattle.std.proofs.lemmas.List.{length-append}
use Rattle.shelf.specs.Texts.{limit}
use Rattle.tree.specs.Tree.{piece, node, size}
use Rattle.tree.specs.Side.{left}
use Rattle.tree.specs.Rules as rules
use Rattle.tree.specs.Rules.{join, split, with_right, with_left}
use Rattle.tree.proofs.Spell.{split_sizes}
use Rattle.tree.proofs.Splits.{splits}
use Rattle.tree.proofs.Steps.{split_smaller, split_between, split_larger}
use Rattle.book.specs.declared.node.Built.{Built}
use Rattle.book.specs.declared.node.NoRoom.{NoRoom}
use Rattle.book.specs.declared.node.Shape.TheVariants.{Piece, Fork}
use Rattle.book.specs.Records.{no_node, Filled, Stands, Store, in_use, tree_in}
use Rattle.book.specs.Building.{one, Pair, Made, Lacks}
use Rattle.book.specs.Parting.{Inside, Parted, Splits}
use Rattle.book.proofs.Grown.{Reads}
use Rattle.book.proofs.Stores.{stands_at, reads_at, stays, more, more_used, nothing, lacks_later, lacks_more}
use Rattle.book.proofs.Forks.{Forks, forks_at}

splits_as : {s s' : Store} {p q : rules.Parts} {r : Result (Built (ℕ × ℕ)) NoRoom} → p ≡ q → Splits s s' p r → Splits s s' q r
splits_as {s} {s'} {r = r} e g = subst (λ x. Splits s s' x r) e g

no_split : {s s' : Store} {p q : rules.Parts} {m : ℕ} {e : NoRoom} → p ≡ q → m ≤ length p.new → Lacks s s' m → Splits s s' q (Err e)
no_split {p = p} f h l = splits_as f (record { case = lacks_more (length p.new) h l })

-- the sizes of the parts add up
sizes : {s : Store} (t p : ℕ) → Inside s t p → size (split s.used (tree_in s t) p).left + size (split s.used (tree_in s t) p).right ≡ size (tree_in s t)
sizes {s} t p d = split_sizes (splits s.used (tree_in s t) p (stands_at d.ready t d.slot).balanced d.above d.below)

module _ {s : Store} (t p : ℕ) (d : Inside s t p) where
  stands : Stands t (get_or s.records t no_node) (tree_in s t)
  stands = stands_at d.ready t d.slot

  -- a piece is cut in two
  module _ (k i : ℕ) (e : (get_or s.records t no_node).shape ≡ Piece k i) where
    is_piece : tree_in s t ≡ piece t k i (get_or s.records t no_node).len
    is_piece = subst (λ z. Reads (in_use s) t (get_or s.records t no_node).len z) e (reads_at d.ready t d.slot)

    pub piece_ends : (p < (get_or s.records t no_node).len) × (i + (get_or s.records t no_node).len ≤ limit)
    piece_ends =
        let k = stands in
        let b = d.below in
        (omega arith, (subst Filled is_piece stands.filled).1)

    halves : split s.used (piece t k i (get_or s.records t no_node).len) p ≡ split s.used (tree_in s t) p
    halves = ap (λ z. split s.used z p) (sym is_piece)

    pub piece_fails : {s₁ : Store} {er : NoRoom} → Lacks s s₁ 1 → Splits s s₁ (split s.used (tree_in s t) p) (Err er)
    piece_fails q = no_split halves (omega arith) q

    module _ {s₁ : Store} (x : Built ℕ) (m : Made s s₁ (one (piece s.used k i p)) x) where
      pub piece_fails₂ : {s₂ : Store} {er : NoRoom} → Lacks s₁ s₂ 1 → Splits s s₂ (split s.used (tree_in s t) p) (Err er)
      piece_fails₂ q = no_split halves (omega arith) (lacks_later m.wrote q)

      pub piece_done : {s₂ : Store} (y : Built ℕ) → Made s₁ s₂ (one (piece s₁.used k (i + p) ((get_or s.records t no_node).len - p))) y →
          Splits s s₂ (split s.used (tree_in s t) p) (Ok (record { value = (x.value, y.value); made = x.made + y.made }))
      piece_done {s₂} y m' =
          let u : s₁.used ≡ s.used + 1 = m.wrote.used in
          let n = subst (λ v. Made s₁ s₂ (one (piece v k (i + p) ((get_or s.records t no_node).len - p))) y) u m' in
          let le = more_used n.wrote in
          let sl = m.slot in
          let ex = m.made in
          let ey = n.made in
          splits_as halves (record {
            case = record {
              wrote = more m.wrote n.wrote;
              left_slot = omega arith;
              right_slot = n.slot;
              left = stays m.wrote.ready n.wrote x.value m.slot ∙ m.tree;
              right = n.tree;
              made = omega arith;
            };
          })

  -- a node is split on a side
  module _ (l r : ℕ) (e : (get_or s.records t no_node).shape ≡ Fork l r) where
    forks : Forks s left t l r
    forks = forks_at t l r d.ready d.slot e

    held : (l < s.used) × (r < s.used)
    held =
        let f = forks in
        let h = d.slot in (omega arith, omega arith)

    pub side_less : (l < t) × (r < t)
    side_less = (forks.first, forks.second)

    pub first_fits : l < s.used
    first_fits = held.0

    len_is : (get_or s.records l no_node).len ≡ size (tree_in s l)
    len_is = (stands_at d.ready l held.0).len

    halved : split s.used (node t (tree_in s l) (tree_in s r)) p ≡ split s.used (tree_in s t) p
    halved = ap (λ z. split s.used z p) (sym forks.tree)

    pub between_done : p ≡ (get_or s.records l no_node).len → Splits s s (split s.used (tree_in s t) p) (Ok (record { value = (l, r); made = 0 }))
    between_done h = splits_as (sym (split_between s.used t (tree_in s l) (tree_in s r) p (h ∙ len_is)) ∙ halved)
        (record { case = record { wrote = nothing d.ready; left_slot = held.0; right_slot = held.1; left = refl; right = refl; made = refl } })

    -- the two sizes of a node
    short : size (tree_in s l) + size (tree_in s r) ≤ limit
    short =
        let z = forks.size in
        let k = stands.short in omega arith

    module _ (h : p < (get_or s.records l no_node).len) where
      below : p < size (tree_in s l)
      below = omega (arith, len_is)

      pub left_inside : Inside s l p
      left_inside = record { ready = d.ready; slot = held.0; above = d.above; below = below }

      on_left : with_right (split s.used (tree_in s l) p) (join (s.used + length (split s.used (tree_in s l) p).new) (split s.used (tree_in s l) p).right (tree_in s r))
          ≡ split s.used (tree_in s t) p
      on_left = sym (split_smaller s.used t (tree_in s l) (tree_in s r) p below) ∙ halved

      pub left_fails : {s₁ : Store} {er : NoRoom} → Lacks s s₁ (length (split s.used (tree_in s l) p).new) → Splits s s₁ (split s.used (tree_in s t) p) (Err er)
      left_fails q = no_split on_left (simp length-append (omega arith)) q

      module _ {s₁ : Store} (q : Built (ℕ × ℕ)) (m : Parted s s₁ (split s.used (tree_in s l) p) q) where
        same_r : tree_in s₁ r ≡ tree_in s r
        same_r = stays d.ready m.wrote r held.1

        pub left_pair : Pair s₁ q.value.1 r
        left_pair =
            let z = sizes l p left_inside in
            let k = short in
            let x = m.right in
            let y = same_r in
            let le = more_used m.wrote in
            let hr = held.1 in
            record { ready = m.wrote.ready; left = m.right_slot; right = omega arith; short = rw (x, y) (omega arith) }

        joins_left : join s₁.used (tree_in s₁ q.value.1) (tree_in s₁ r)
            ≡ join (s.used + length (split s.used (tree_in s l) p).new) (split s.used (tree_in s l) p).right (tree_in s r)
        joins_left =
            let x = m.right in
            let y = same_r in
            let u = m.wrote.used in rw (x, y, u)

        pub left_fails₂ : {s₂ : Store} {er : NoRoom} → Lacks s₁ s₂ (length (join s₁.used (tree_in s₁ q.value.1) (tree_in s₁ r)).new) →
            Splits s s₂ (split s.used (tree_in s t) p) (Err er)
        left_fails₂ f = no_split on_left (simp length-append (omega (arith, ap (λ b. length b.new) joins_left))) (lacks_later m.wrote f)

        pub left_done : {s₂ : Store} (b : Built ℕ) → Made s₁ s₂ (join s₁.used (tree_in s₁ q.value.1) (tree_in s₁ r)) b →
            Splits s s₂ (split s.used (tree_in s t) p) (Ok (record { value = (q.value.0, b.value); made = q.made + b.made }))
        left_done {s₂} b m' =
            let n = subst (λ j. Made s₁ s₂ j b) joins_left m' in
            let le = more_used n.wrote in
            let sl = m.left_slot in
            let eq = m.made in
            let eb = n.made in
            splits_as on_left (record {
              case = record {
                wrote = more m.wrote n.wrote;
                left_slot = omega arith;
                right_slot = n.slot;
                left = stays m.wrote.ready n.wrote q.value.0 m.left_slot ∙ m.left;
                right = n.tree;
                made = simp length-append (omega arith);
              };
            })

    module _ (h : (get_or s.records l no_node).len < p) where
      abbrev rest : ℕ
      rest = p - (get_or s.records l no_node).len

      pub right_inside : Inside s r rest
      right_inside =
          let z = forks.size in
          let k = len_is in
          let b = d.below in
          record { ready = d.ready; slot = held.1; above = omega arith; below = omega arith }

      on_right : with_left (split s.used (tree_in s r) rest) (join (s.used + length (split s.used (tree_in s r) rest).new) (tree_in s l) (split s.used (tree_in s r) rest).left)
          ≡ split s.used (tree_in s t) p
      on_right = let k = len_is in rw k (sym (split_larger s.used t (tree_in s l) (tree_in s r) p (omega arith)) ∙ halved)

      pub right_fails : {s₁ : Store} {er : NoRoom} → Lacks s s₁ (length (split s.used (tree_in s r) rest).new) → Splits s s₁ (split s.used (tree_in s t) p) (Err er)
      right_fails q = no_split on_right (simp length-append (omega arith)) q

      module _ {s₁ : Store} (q : Built (ℕ × ℕ)) (m : Parted s s₁ (split s.used (tree_in s r) rest) q) where
        same_l : tree_in s₁ l ≡ tree_in s l
        same_l = stays d.ready m.wrote l held.0

        pub right_pair : Pair s₁ l q.value.0
        right_pair =
            let z = sizes r rest right_inside in
            let k = short in
            let x = m.left in
            let y = same_l in
            let le = more_used m.wrote in
            let hl = held.0 in
            record { ready = m.wrote.ready; left = omega arith; right = m.left_slot; short = rw (x, y) (omega arith) }

        joins_right : join s₁.used (tree_in s₁ l) (tree_in s₁ q.value.0)
            ≡ join (s.used + length (split s.used (tree_in s r) rest).new) (tree_in s l) (split s.used (tree_in s r) rest).left
        joins_right =
            let x = m.left in
            let y = same_l in
            let u = m.wrote.used in rw (x, y, u)

        pub right_fails₂ : {s₂ : Store} {er : NoRoom} → Lacks s₁ s₂ (length (join s₁.used (tree_in s₁ l) (tree_in s₁ q.value.0)).new) →
            Splits s s₂ (split s.used (tree_in s t) p) (Err er)
        right_fails₂ f = no_split on_right (simp length-append (omega (arith, ap (λ b. length b.new) joins_right))) (lacks_later m.wrote f)

        pub right_done : {s₂ : Store} (b : Built ℕ) → Made s₁ s₂ (join s₁.used (tree_in s₁ l) (tree_in s₁ q.value.0)) b →
            Splits s s₂ (split s.used (tree_in s t) p) (Ok (record { value = (b.value, q.value.1); made = q.made + b.made }))
        right_done {s₂} b m' =
            let n = subst (λ j. Made s₁ s₂ j b) joins_right m' in
            let le = more_used n.wrote in
            let sl = m.right_slot in
            let eq = m.made in
            let eb = n.made in
            splits_as on_right (record {
              case = record {
                wrote = more m.wrote n.wrote;
                left_slot = n.slot;
                right_slot = omega arith;
                left = n.tree;
                right = stays m.wrote.ready n.wrote q.value.1 m.right_slot ∙ m.right;
                made = simp length-append (omega arith);
              };
            })
