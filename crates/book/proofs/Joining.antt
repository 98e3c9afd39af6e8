-- What the calls of a join ask and give.
use Rattle.std.proofs.Common.{◌≡◌, ℕ, ◌+◌, ◌<◌, ◌≤◌, max, length, get_or, Some, None, Ok, Err, Result, sym, refl, ap, ◌∙◌, arith}
use Rattle.std.proofs.lemmas.List.{length-append}
use Rattle.shelf.specs.Texts.{limit}
use Rattle.tree.specs.Tree.{height, size}
use Rattle.tree.specs.Side as rules
use Rattle.tree.specs.Side.{left, right}
use Rattle.tree.specs.Rules.{write, then, lean, join}
use Rattle.tree.specs.Relations.{on}
use Rattle.tree.proofs.Balance.{even, Evenly}
use Rattle.tree.proofs.Shape.{joins, join_writes}
use Rattle.tree.proofs.Measure.{join_size}
use Rattle.tree.proofs.Steps.{join_on, join_level, join_lower}
use Rattle.book.specs.declared.node.Built.{Built}
use Rattle.book.specs.declared.node.NoRoom.{NoRoom}
use Rattle.book.specs.declared.node.Side.{Side}
use Rattle.book.specs.declared.node.Side.TheVariants.{Left, Right}
use Rattle.book.specs.Sides.{tree_side, ordered, sides_of}
use Rattle.book.specs.Built.{in_turn}
use Rattle.book.specs.Records.{no_node, Store, tree_in, Ready}
use Rattle.book.specs.Building.{one, Pair, Level, Leaning, Higher, Made, Lacks, Builds}
use Rattle.book.proofs.Heights.{low}
use Rattle.book.proofs.Stores.{stands_at, stays, more_used, lacks_later}
use Rattle.book.proofs.Forks.{Forks, forked, sides_held}
use Rattle.book.proofs.Builds.{made_then, builds_as, done, fails}

pub height_fits : {s : Store} → Ready s → (i : ℕ) → i < s.used → (get_or s.records i no_node).height < 255
height_fits d i h = let k = stands_at d i h in omega (arith, low _ k.balanced k.filled k.short)

-- neither side is much higher
module _ {s : Store} (l r : ℕ) (p : Pair s l r) (h : Higher (get_or s.records l no_node).height (get_or s.records r no_node).height None) where
  pub level_pair : Level s l r
  level_pair =
      let k = stands_at p.ready l p.left in
      let j = stands_at p.ready r p.right in record { pair = p; near = (omega arith, omega arith) }

  pub level_done : {s' : Store} {q : Result (Built ℕ) NoRoom} → Builds s s' (one (on left s.used (tree_in s l) (tree_in s r))) q →
      Builds s s' (join s.used (tree_in s l) (tree_in s r)) q
  level_done g = builds_as (sym (join_level left s.used (tree_in s l) (tree_in s r) level_pair.near.0 level_pair.near.1)) g

-- the higher tree and the lower one
record Apart (s : Store) (side : rules.Side) (l r high low : ℕ) : Type 0 where
  pub ready : Ready s
  pub high_slot : high < s.used
  pub low_slot : low < s.used
  pub slots : high + low ≡ l + r
  pub tall : height (tree_in s low) + 1 < height (tree_in s high)
  pub short : size (tree_in s high) + size (tree_in s low) ≤ limit
  pub joins : join s.used (tree_in s l) (tree_in s r) ≡ join_on side s.used (tree_in s high) (tree_in s low)

apart_of : (side : Side) {s : Store} (l r : ℕ) → Pair s l r → Higher (get_or s.records l no_node).height (get_or s.records r no_node).height (Some side) →
    Apart s (tree_side side) l r (ordered (tree_side side) l r).0 (ordered (tree_side side) l r).1
apart_of Left l r p h =
    let k = stands_at p.ready l p.left in
    let j = stands_at p.ready r p.right in
    record { ready = p.ready; high_slot = p.left; low_slot = p.right; slots = refl; tall = omega arith; short = p.short; joins = refl }
apart_of Right l r p h =
    let k = stands_at p.ready l p.left in
    let j = stands_at p.ready r p.right in
    let short = p.short in
    record { ready = p.ready; high_slot = p.right; low_slot = p.left; slots = omega arith; tall = omega arith; short = omega arith; joins = refl }

-- two slots in the order of left and right
record Paired (s : Store) (side : rules.Side) (b c x y : ℕ) : Type 0 where
  pub pair : Pair s x y
  pub slots : x + y ≡ b + c
  pub highest : max (height (tree_in s x)) (height (tree_in s y)) ≡ max (height (tree_in s b)) (height (tree_in s c))
  pub size : size (tree_in s x) + size (tree_in s y) ≡ size (tree_in s b) + size (tree_in s c)
  pub joins : join s.used (tree_in s x) (tree_in s y) ≡ join_on side s.used (tree_in s b) (tree_in s c)

paired_of : (side : rules.Side) {s : Store} (b c : ℕ) → Ready s → b < s.used → c < s.used → size (tree_in s b) + size (tree_in s c) ≤ limit →
    Paired s side b c (ordered side b c).0 (ordered side b c).1
paired_of left b c d hb hc short =
    record { pair = record { ready = d; left = hb; right = hc; short = short }; slots = refl; highest = refl; size = refl; joins = refl }
paired_of right b c d hb hc short = record {
  pair = record { ready = d; left = hc; right = hb; short = omega arith };
  slots = omega arith;
  highest = omega arith;
  size = omega arith;
  joins = refl;
}

-- the higher one is (A B), and X and Y are B and the lower one
module _ {s : Store} (side : Side) (l r : ℕ) (p : Pair s l r) (h : Higher (get_or s.records l no_node).height (get_or s.records r no_node).height (Some side))
    (o : ℕ × ℕ) (e : o ≡ ordered (tree_side side) l r) (ab : ℕ × ℕ) (f : ab ≡ sides_of (tree_side side) o.0 (get_or s.records o.0 no_node).shape)
    (xy : ℕ × ℕ) (g : xy ≡ ordered (tree_side side) ab.1 o.1) where
  apart : Apart s (tree_side side) l r o.0 o.1
  apart = rw e (apart_of side l r p h)

  forks : Forks s (tree_side side) o.0 ab.0 ab.1
  forks =
      let k = stands_at p.ready o.0 apart.high_slot in
      let t = apart.tall in forked (tree_side side) o.0 ab p.ready apart.high_slot (omega arith) f

  held : (ab.0 < s.used) × (ab.1 < s.used)
  held = sides_held (tree_side side) o.0 ab p.ready apart.high_slot f

  paired : Paired s (tree_side side) ab.1 o.1 xy.0 xy.1
  paired =
      let k = forks in
      let short = apart.short in rw g (paired_of (tree_side side) ab.1 o.1 p.ready held.1 apart.low_slot (omega arith))

  pub inner_pair : Pair s xy.0 xy.1
  inner_pair = paired.pair

  pub inner_less : xy.0 + xy.1 < l + r
  inner_less =
      let k = forks in
      let a = apart.slots in
      let b = paired.slots in omega arith

  joined : then (join s.used (tree_in s xy.0) (tree_in s xy.1))
      (write (s.used + length (join s.used (tree_in s xy.0) (tree_in s xy.1)).new)
      (lean (tree_side side) (tree_in s ab.0) (join s.used (tree_in s xy.0) (tree_in s xy.1)).tree))
      ≡ join s.used (tree_in s l) (tree_in s r)
  joined =
      let k = forks in
      let t = apart.tall in
      let up : height (tree_in s o.1) + 1 < height (on (tree_side side) o.0 (tree_in s ab.0) (tree_in s ab.1)) = rw forks.tree at t in
      let outer = apart.joins in
      let inner = paired.joins in
      let tree = forks.tree in
      let near = forks.near in
      rw (outer, inner, tree) (sym (join_lower (tree_side side) s.used o.0 (tree_in s ab.0) (tree_in s ab.1) (tree_in s o.1) up (omega arith)))

  pub inner_fails : {s₁ : Store} {er : NoRoom} → Lacks s s₁ (length (join s.used (tree_in s xy.0) (tree_in s xy.1)).new) →
      Builds s s₁ (join s.used (tree_in s l) (tree_in s r)) (Err er)
  inner_fails q = fails joined (simp length-append (omega arith)) q

  module _ {s₁ : Store} (t : Built ℕ) (m : Made s s₁ (join s.used (tree_in s xy.0) (tree_in s xy.1)) t) where
    same : tree_in s₁ ab.0 ≡ tree_in s ab.0
    same = stays p.ready m.wrote ab.0 held.0

    pub leaning : Leaning s₁ ab.0 t.value
    leaning =
        let k = forks in
        let a = apart in
        let b = paired in
        let kx = (stands_at p.ready xy.0 b.pair.left).balanced in
        let ky = (stands_at p.ready xy.1 b.pair.right).balanced in
        let v : Evenly (max (height (tree_in s xy.0)) (height (tree_in s xy.1))) (join s.used (tree_in s xy.0) (tree_in s xy.1))
        = even (joins s.used (tree_in s xy.0) (tree_in s xy.1) kx ky) kx ky in
        let z = join_size (join_writes s.used (tree_in s xy.0) (tree_in s xy.1)) in
        let lo = v.result.low in
        let hi = v.result.high in
        let x = same in
        let y = m.tree in
        let le = more_used m.wrote in
        let ha = held.0 in
        record {
          pair = record { ready = m.wrote.ready; left = omega arith; right = m.slot; short = rw (x, y) (omega arith) };
          low = rw (x, y) (omega arith);
          high = rw (x, y) (omega arith);
        }

    turned : write s₁.used (lean (tree_side side) (tree_in s₁ ab.0) (tree_in s₁ t.value))
        ≡ write (s.used + length (join s.used (tree_in s xy.0) (tree_in s xy.1)).new)
        (lean (tree_side side) (tree_in s ab.0) (join s.used (tree_in s xy.0) (tree_in s xy.1)).tree)
    turned =
        let x = same in
        let y = m.tree in
        let u = m.wrote.used in rw (x, y, u)

    pub top_fails : {s₂ : Store} {er : NoRoom} → Lacks s₁ s₂ (length (write s₁.used (lean (tree_side side) (tree_in s₁ ab.0) (tree_in s₁ t.value))).new) →
        Builds s s₂ (join s.used (tree_in s l) (tree_in s r)) (Err er)
    top_fails q = fails joined (simp length-append (omega (arith, ap (λ b. length b.new) turned))) (lacks_later m.wrote q)

    pub join_done : {s₂ : Store} (u : Built ℕ) → Made s₁ s₂ (write s₁.used (lean (tree_side side) (tree_in s₁ ab.0) (tree_in s₁ t.value))) u →
        Builds s s₂ (join s.used (tree_in s l) (tree_in s r)) (Ok (in_turn t u))
    join_done u n = done (ap (then (join s.used (tree_in s xy.0) (tree_in s xy.1))) turned ∙ joined) (made_then m n)
