-- The relations on trees with slots leave no choice.
use Rattle.std.proofs.Common.{◌≡◌, ℕ, ◌-◌, refl, ◌∙◌, arith}
use Rattle.tree.specs.Tree.{Tree, size, Balanced}
use Rattle.tree.specs.Side.{Side}
use Rattle.tree.specs.Rules.{Built, Parts, Brackets, lean, split}
use Rattle.tree.specs.Relations.{Leaned, Joined, Split}
use Rattle.tree.proofs.Sides.{height_on, balanced_parts}
use Rattle.tree.proofs.Splits.{split_even}
use Rattle.tree.proofs.Steps.{lean_plain, lean_once, lean_twice, join_on, join_level, join_lower, join_exchange, split_smaller, split_between, split_larger}

pub only_lean : {side : Side} {a t : Tree} {x : Brackets} → Leaned side a t x → lean side a t ≡ x
only_lean (Leaned.flat {side} {a} {t} o) = lean_plain side a t o
only_lean (Leaned.once {side} {a} s c d o p) = lean_once side s a c d o p
only_lean (Leaned.twice {side} {a} s u e f d o p) = lean_twice side s u a e f d o p

pub only_join : {side : Side} {n : ℕ} {x y : Tree} {b : Built} → Joined side n x y b → Balanced x → Balanced y → join_on side n x y ≡ b
only_join (Joined.level {side} {n} {x} {y} p q) bx by = join_level side n x y p q
only_join (Joined.lower {side} {n} {y} {t} {u} s a b p j k) bx by =
    let z = balanced_parts side s a b bx in
    let e = height_on side s a b in
    join_lower side n s a b y p (omega arith) ∙ rw (only_join j z.3 by, only_lean k)
only_join (Joined.exchange {side} {n} {x} {y} p j) bx by = join_exchange side n x y ∙ only_join j by bx

pub only_split : {n p : ℕ} {t : Tree} {q : Parts} → Split n t p q → Balanced t → split n t p ≡ q
only_split (Split.halve x y) bt = refl
only_split (Split.smaller {n} {s = u} {p} {l} {r} {q} {b} x s j) bt =
    split_smaller n u l r p x ∙ rw (only_split s bt.2, only_join j (split_even s bt.2).right bt.3)
only_split (Split.between {n} {s} {p} {l} {r} x) bt = split_between n s l r p x
only_split (Split.larger {n} {s = k} {p} {rest} {l} {r} {q} {b} x y s j) bt =
    let z : p - size l ≡ rest = omega arith in
    split_larger n k l r p (omega arith) ∙ rw (z, only_split s bt.3, only_join j bt.2 (split_even s bt.3).left)
