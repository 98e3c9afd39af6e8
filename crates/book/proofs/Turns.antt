-- What the calls of a turn ask and give.
use Rattle.std.proofs.Common.{◌≡◌, ℕ, ◌+◌, ◌<◌, ◌≤◌, get_or, Ok, Err, Result, sym, refl, ap, ◌∙◌, arith}
use Rattle.tree.specs.Tree.{Tree, node, height}
use Rattle.tree.specs.Side.{Side, left, right}
use Rattle.tree.specs.Rules.{then, write, plain, turn_once, turn_twice, lean}
use Rattle.tree.specs.Relations.{on}
use Rattle.tree.proofs.Sides.{height_on, size_on}
use Rattle.tree.proofs.Steps.{lean_plain, lean_once, lean_twice}
use Rattle.book.specs.declared.node.Built.{Built}
use Rattle.book.specs.declared.node.NoRoom.{NoRoom}
use Rattle.book.specs.Sides.{sides_of}
use Rattle.book.specs.Built.{in_turn}
use Rattle.book.specs.Records.{no_node, Store, tree_in}
use Rattle.book.specs.Building.{one, Level, Leaning, Four, four, Made, Lacks, Builds}
use Rattle.book.proofs.Stores.{stands_at, level_exchange, stays, more, more_used, lacks_later}
use Rattle.book.proofs.Forks.{Forks, forked, sides_held}
use Rattle.book.proofs.Builds.{made_then, builds_as, done, fails}

-- one node, and a node around it
pub one_plain : (side : Side) (n : ℕ) (a t : Tree) → one (on side n a t) ≡ write n (plain side a t)
one_plain left n a t = refl
one_plain right n a t = refl

once_is : (side : Side) (n : ℕ) (a c d : Tree) → then (one (on side n a c)) (one (on side (n + 1) (on side n a c) d)) ≡ write n (turn_once side a c d)
once_is left n a c d = refl
once_is right n a c d = refl

-- ((W X)(Y Z))
module _ {s : Store} (w x y z : ℕ) (p : Four s w x y z) {s₁ : Store} (b₁ : Built ℕ) (m₁ : Made s s₁ (one (node s.used (tree_in s w) (tree_in s x))) b₁) where
  was : (i : ℕ) → i < s.used → tree_in s₁ i ≡ tree_in s i
  was = stays p.first.pair.ready m₁.wrote

  pub four_second : Level s₁ y z
  four_second =
      let v = p.second.pair in
      let ey = was y v.left in
      let ez = was z v.right in
      let le = more_used m₁.wrote in
      let l = v.left in
      let r = v.right in
      record { pair = record { ready = m₁.wrote.ready; left = omega arith; right = omega arith; short = rw (ey, ez) v.short }; near = rw (ey, ez) p.second.near }

  pub four_fails₂ : {s₂ : Store} {er : NoRoom} → Lacks s₁ s₂ 1 → Builds s s₂ (write s.used (four s w x y z)) (Err er)
  four_fails₂ l = fails refl (omega arith) (lacks_later m₁.wrote l)

  module _ {s₂ : Store} (b₂ : Built ℕ) (m₂ : Made s₁ s₂ (one (node s₁.used (tree_in s₁ y) (tree_in s₁ z))) b₂) where
    second_is : one (node s₁.used (tree_in s₁ y) (tree_in s₁ z)) ≡ one (node (s.used + 1) (tree_in s y) (tree_in s z))
    second_is =
        let u = m₁.wrote.used in
        let ey = was y p.second.pair.left in
        let ez = was z p.second.pair.right in rw (ey, ez, u)

    first_tree : tree_in s₂ b₁.value ≡ node s.used (tree_in s w) (tree_in s x)
    first_tree = stays m₁.wrote.ready m₂.wrote b₁.value m₁.slot ∙ m₁.tree

    second_tree : tree_in s₂ b₂.value ≡ node (s.used + 1) (tree_in s y) (tree_in s z)
    second_tree = m₂.tree ∙ ap (λ b. b.tree) second_is

    pub four_top : Level s₂ b₁.value b₂.value
    four_top =
        let e = first_tree in
        let f = second_tree in
        let k = m₁.slot in
        let le = more_used m₂.wrote in
        let short = p.short in
        let near = p.near in
        record { pair = record { ready = m₂.wrote.ready; left = omega arith; right = m₂.slot; short = rw (e, f) short }; near = rw (e, f) (omega arith, omega arith) }

    pub four_fails₃ : {s₃ : Store} {er : NoRoom} → Lacks s₂ s₃ 1 → Builds s s₃ (write s.used (four s w x y z)) (Err er)
    four_fails₃ l = fails refl (omega arith) (lacks_later (more m₁.wrote m₂.wrote) l)

    pub four_done : {s₃ : Store} (b₃ : Built ℕ) → Made s₂ s₃ (one (node s₂.used (tree_in s₂ b₁.value) (tree_in s₂ b₂.value))) b₃ →
        Builds s s₃ (write s.used (four s w x y z)) (Ok (in_turn b₁ (in_turn b₂ b₃)))
    four_done b₃ m₃ =
        let e = first_tree in
        let f = second_tree in
        let ey = was y p.second.pair.left in
        let ez = was z p.second.pair.right in
        let u : s₁.used ≡ s.used + 1 = m₁.wrote.used in
        let v : s₂.used ≡ s.used + 1 + 1 = (let k = m₂.wrote.used in omega arith) in
        done (rw (e, f, ey, ez, v, u)) (made_then m₁ (made_then m₂ m₃))

-- A stays on the side, and T takes the other
module _ {s : Store} (side : Side) (a t : ℕ) (n : Leaning s a t) where
  height_of : (i : ℕ) → i < s.used → (get_or s.records i no_node).height ≡ height (tree_in s i)
  height_of i h = (stands_at n.pair.ready i h).height

  module _ (h : (get_or s.records t no_node).height ≤ (get_or s.records a no_node).height + 1) where
    level : height (tree_in s t) ≤ height (tree_in s a) + 1
    level = omega (arith, height_of a n.pair.left, height_of t n.pair.right)

    pub plain_level : Level s a t
    plain_level = record { pair = n.pair; near = (n.low, level) }

    pub plain_done : {s' : Store} {r : Result (Built ℕ) NoRoom} → Builds s s' (one (on side s.used (tree_in s a) (tree_in s t))) r →
        Builds s s' (write s.used (lean side (tree_in s a) (tree_in s t))) r
    plain_done g = builds_as (one_plain side s.used (tree_in s a) (tree_in s t) ∙ ap (write s.used) (sym (lean_plain side (tree_in s a) (tree_in s t) level))) g

  -- T is (C D) and too high
  module _ (o : ℕ × ℕ) (e : o ≡ sides_of side t (get_or s.records t no_node).shape) (h : (get_or s.records a no_node).height + 1 < (get_or s.records t no_node).height) where
    ft : Forks s side t o.0 o.1
    ft = forked side t o n.pair.ready n.pair.right (omega arith) e

    held : (o.0 < s.used) × (o.1 < s.used)
    held = sides_held side t o n.pair.ready n.pair.right e

    tall : height (tree_in s t) ≡ height (tree_in s a) + 2
    tall = let hi = n.high in omega (arith, height_of a n.pair.left, height_of t n.pair.right)

    high : height (tree_in s a) + 1 < height (on side t (tree_in s o.0) (tree_in s o.1))
    high = let q : height (tree_in s a) + 1 < height (tree_in s t) = omega (arith, tall) in rw ft.tree at q

    module _ (l : (get_or s.records o.0 no_node).height ≤ (get_or s.records o.1 no_node).height) where
      lower : height (tree_in s o.0) ≤ height (tree_in s o.1)
      lower = omega (arith, height_of o.0 held.0, height_of o.1 held.1)

      pub once_inner : Level s a o.0
      once_inner =
          let f = ft in
          let q = tall in
          let k = lower in
          let p = n.pair in
          let short = p.short in
          record { pair = record { ready = p.ready; left = p.left; right = held.0; short = omega arith }; near = (omega arith, omega arith) }

      turned_once : write s.used (turn_once side (tree_in s a) (tree_in s o.0) (tree_in s o.1)) ≡ write s.used (lean side (tree_in s a) (tree_in s t))
      turned_once =
          let tree = ft.tree in
          rw tree (ap (write s.used) (sym (lean_once side t (tree_in s a) (tree_in s o.0) (tree_in s o.1) high lower)))

      module _ {s₁ : Store} (b₁ : Built ℕ) (m₁ : Made s s₁ (one (on side s.used (tree_in s a) (tree_in s o.0))) b₁) where
        same_d : tree_in s₁ o.1 ≡ tree_in s o.1
        same_d = stays n.pair.ready m₁.wrote o.1 held.1

        pub once_outer : Level s₁ b₁.value o.1
        once_outer =
            let f = ft in
            let q = tall in
            let k = lower in
            let short = n.pair.short in
            let le = more_used m₁.wrote in
            let hd = held.1 in
            let x = m₁.tree in
            let y = same_d in
            let on_high = height_on side s.used (tree_in s a) (tree_in s o.0) in
            let on_size = size_on side s.used (tree_in s a) (tree_in s o.0) in
            record {
              pair = record { ready = m₁.wrote.ready; left = m₁.slot; right = omega arith; short = rw (x, y) (omega arith) };
              near = rw (x, y) (omega arith, omega arith);
            }

        pub once_fails : {s₂ : Store} {er : NoRoom} → Lacks s₁ s₂ 1 → Builds s s₂ (write s.used (lean side (tree_in s a) (tree_in s t))) (Err er)
        once_fails q = fails (once_is side s.used _ _ _ ∙ turned_once) (omega arith) (lacks_later m₁.wrote q)

        pub once_done : {s₂ : Store} (b₂ : Built ℕ) → Made s₁ s₂ (one (on side s₁.used (tree_in s₁ b₁.value) (tree_in s₁ o.1))) b₂ →
            Builds s s₂ (write s.used (lean side (tree_in s a) (tree_in s t))) (Ok (in_turn b₁ b₂))
        once_done b₂ m₂ =
            let x = m₁.tree in
            let y = same_d in
            let u : s₁.used ≡ s.used + 1 = m₁.wrote.used in
            done (rw (x, y, u) (once_is side s.used _ _ _ ∙ turned_once)) (made_then m₁ m₂)

    -- C is (E F) and higher than D
    module _ (i : ℕ × ℕ) (e' : i ≡ sides_of side o.0 (get_or s.records o.0 no_node).shape)
        (l : (get_or s.records o.1 no_node).height < (get_or s.records o.0 no_node).height) where
      fc : Forks s side o.0 i.0 i.1
      fc = forked side o.0 i n.pair.ready held.0 (omega arith) e'

      within : (i.0 < s.used) × (i.1 < s.used)
      within = sides_held side o.0 i n.pair.ready held.0 e'

      higher : height (tree_in s o.1) < height (tree_in s o.0)
      higher = omega (arith, height_of o.0 held.0, height_of o.1 held.1)

      pub four_left : Four s a i.0 i.1 o.1
      four_left =
          let f = ft in
          let g = fc in
          let q = tall in
          let k = higher in
          let p = n.pair in
          let short = p.short in
          record {
            first = record { pair = record { ready = p.ready; left = p.left; right = within.0; short = omega arith }; near = (omega arith, omega arith) };
            second = record { pair = record { ready = p.ready; left = within.1; right = held.1; short = omega arith }; near = (omega arith, omega arith) };
            near = (omega arith, omega arith);
            short = omega arith;
          }

      pub four_right : Four s o.1 i.1 i.0 a
      four_right =
          let f = four_left in
          let near = f.near in
          let short = f.short in
          record { first = level_exchange f.second; second = level_exchange f.first; near = (omega arith, omega arith); short = omega arith }

      turned_twice : write s.used (turn_twice side (tree_in s a) (tree_in s i.0) (tree_in s i.1) (tree_in s o.1)) ≡ write s.used (lean side (tree_in s a) (tree_in s t))
      turned_twice =
          let tree = ft.tree in
          let c_tree = fc.tree in
          let hi : height (tree_in s a) + 1 < height (on side t (on side o.0 (tree_in s i.0) (tree_in s i.1)) (tree_in s o.1)) = rw c_tree at high in
          let lo = higher in
          rw (tree, c_tree) (ap (write s.used) (sym (lean_twice side t o.0 (tree_in s a) (tree_in s i.0) (tree_in s i.1) (tree_in s o.1) hi (rw c_tree at lo))))

      pub twice_left : side ≡ left → {s' : Store} {r : Result (Built ℕ) NoRoom} →
          Builds s s' (write s.used (four s a i.0 i.1 o.1)) r →
          Builds s s' (write s.used (lean side (tree_in s a) (tree_in s t))) r
      twice_left is g = builds_as (ap (λ x. write s.used (turn_twice x (tree_in s a) (tree_in s i.0) (tree_in s i.1) (tree_in s o.1))) (sym is) ∙ turned_twice) g

      pub twice_right : side ≡ right → {s' : Store} {r : Result (Built ℕ) NoRoom} →
          Builds s s' (write s.used (four s o.1 i.1 i.0 a)) r →
          Builds s s' (write s.used (lean side (tree_in s a) (tree_in s t))) r
      twice_right is g = builds_as (ap (λ x. write s.used (turn_twice x (tree_in s a) (tree_in s i.0) (tree_in s i.1) (tree_in s o.1))) (sym is) ∙ turned_twice) g
