-- The relations on bare trees leave no choice.
use Rattle.std.proofs.Common.{◌≡◌, ℕ, Option, sym, refl, ap, ◌∙◌, arith}
use Rattle.tree.specs.Side.{Side, left, right}
use Rattle.tree.specs.Bare.{Bare, on, height, Leans, Joins, Splits, JoinAny, SplitAny, Put, PutAny, Cut, Crop}
use Rattle.tree.specs.Facts.{OneOutcome}

on_parts : (side : Side) {a b c d : Bare} → on side a b ≡ on side c d → (a ≡ c) × (b ≡ d)
on_parts left e = (cc, cc)
on_parts right e = (cc, cc)

pub one_lean : {side : Side} {a t u v : Bare} → Leans side a t u → Leans side a t v → u ≡ v
one_lean (Leans.plain x) (Leans.plain y) = refl
one_lean (Leans.plain x) (Leans.once c d y e o) = absurd (omega arith)
one_lean (Leans.plain x) (Leans.twice c d e f y h o k) = absurd (omega arith)
one_lean (Leans.once c d x e o) (Leans.plain y) = absurd (omega arith)
one_lean (Leans.once {side} c d x e o) (Leans.once c' d' x' e' o') = let z = on_parts side (sym e ∙ e') in cc
one_lean (Leans.once {side} c d x e o) (Leans.twice c' d' e1 f1 x' e' o' k) = let z = on_parts side (sym e ∙ e') in absurd (omega (arith, ap height z.0, ap height z.1))
one_lean (Leans.twice c d e1 f1 x e o k) (Leans.plain y) = absurd (omega arith)
one_lean (Leans.twice {side} c d e1 f1 x e o k) (Leans.once c' d' x' e' o') = let z = on_parts side (sym e ∙ e') in absurd (omega (arith, ap height z.0, ap height z.1))
one_lean (Leans.twice {side} c d e1 f1 x e o k) (Leans.twice c' d' e2 f2 x' e' o' k') =
    let z = on_parts side (sym e ∙ e') in
    let w = on_parts side (sym k ∙ z.0 ∙ k') in cc

pub one_join : {side : Side} {x y t u : Bare} → Joins side x y t → Joins side x y u → t ≡ u
one_join (Joins.level p q) (Joins.level p' q') = refl
one_join (Joins.level p q) (Joins.lower a b o e j k) = absurd (omega arith)
one_join (Joins.level p q) (Joins.exchange o j) = absurd (omega arith)
one_join (Joins.lower a b o e j k) (Joins.level p q) = absurd (omega arith)
one_join (Joins.lower {side} a b o e j k) (Joins.lower a' b' o' e' j' k') =
    let z = on_parts side (sym e ∙ e') in
    one_lean k (rw (← z.0, ← one_join j (rw (← z.1) at j')) at k')
one_join (Joins.lower a b o e j k) (Joins.exchange o' j') = absurd (omega arith)
one_join (Joins.exchange o j) (Joins.level p q) = absurd (omega arith)
one_join (Joins.exchange o j) (Joins.lower a b o' e j' k) = absurd (omega arith)
one_join (Joins.exchange o j) (Joins.exchange o' j') = one_join j j'

pub one_split : {t x y v w : Bare} {p : ℕ} → Splits t p x y → Splits t p v w → (x ≡ v) × (y ≡ w)
one_split (Splits.halve a b) (Splits.halve a' b') = (refl, refl)
one_split (Splits.smaller a s j) (Splits.smaller a' s' j') = let z = one_split s s' in (z.0, one_join j (rw (← z.1) at j'))
one_split (Splits.smaller a s j) (Splits.between e) = absurd (omega arith)
one_split (Splits.smaller a s j) (Splits.larger e o s' j') = absurd (omega arith)
one_split (Splits.between e) (Splits.smaller a s j) = absurd (omega arith)
one_split (Splits.between e) (Splits.between e') = (refl, refl)
one_split (Splits.between e) (Splits.larger e' o s j) = absurd (omega arith)
one_split (Splits.larger e o s j) (Splits.smaller a s' j') = absurd (omega arith)
one_split (Splits.larger e o s j) (Splits.between e') = absurd (omega arith)
one_split (Splits.larger {rest = u} e o s j) (Splits.larger {rest = u'} e' o' s' j') =
    let i : u' ≡ u = omega arith in
    let z = one_split s (rw i at s') in (one_join j (rw (← z.0) at j'), z.1)

pub one_join_any : {x y t u : Option Bare} → JoinAny x y t → JoinAny x y u → t ≡ u
one_join_any JoinAny.no_left JoinAny.no_left = refl
one_join_any JoinAny.no_right JoinAny.no_right = refl
one_join_any (JoinAny.both j) (JoinAny.both j') = let z = one_join j j' in cc

pub one_split_any : {t x y v w : Option Bare} {p : ℕ} → SplitAny t p x y → SplitAny t p v w → (x ≡ v) × (y ≡ w)
one_split_any SplitAny.nothing SplitAny.nothing = (refl, refl)
one_split_any (SplitAny.start e) (SplitAny.start e') = (refl, refl)
one_split_any (SplitAny.start e) (SplitAny.end o e') = absurd (omega arith)
one_split_any (SplitAny.start e) (SplitAny.inside o k s) = absurd (omega arith)
one_split_any (SplitAny.end o e) (SplitAny.start e') = absurd (omega arith)
one_split_any (SplitAny.end o e) (SplitAny.end o' e') = (refl, refl)
one_split_any (SplitAny.end o e) (SplitAny.inside o' k s) = absurd (omega arith)
one_split_any (SplitAny.inside o k s) (SplitAny.start e) = absurd (omega arith)
one_split_any (SplitAny.inside o k s) (SplitAny.end o' e) = absurd (omega arith)
one_split_any (SplitAny.inside o k s) (SplitAny.inside o' k' s') = let z = one_split s s' in (cc, cc)

pub one_put : {t u v : Option Bare} {p : ℕ} {x : Bare} → Put t p x u → Put t p x v → u ≡ v
one_put (Put.puts s a b) (Put.puts s' a' b') =
    let z = one_split_any s s' in
    one_join_any b (rw (← one_join_any a (rw (← z.0) at a'), ← z.1) at b')

pub one_put_any : {t x u v : Option Bare} {p : ℕ} → PutAny t p x u → PutAny t p x v → u ≡ v
one_put_any PutAny.nothing PutAny.nothing = refl
one_put_any (PutAny.some a) (PutAny.some b) = one_put a b

pub one_cut : {t u v : Option Bare} {p m : ℕ} → Cut t p m u → Cut t p m v → u ≡ v
one_cut (Cut.nothing e) (Cut.nothing e') = refl
one_cut (Cut.nothing e) (Cut.some o a b j) = absurd (omega arith)
one_cut (Cut.some o a b j) (Cut.nothing e) = absurd (omega arith)
one_cut (Cut.some o a b j) (Cut.some o' a' b' j') =
    let z = one_split_any a a' in
    let w = one_split_any b (rw (← z.1) at b') in
    one_join_any j (rw (← z.0, ← w.1) at j')

pub one_crop : {t u v : Option Bare} {p m : ℕ} → Crop t p m u → Crop t p m v → u ≡ v
one_crop (Crop.crops a b) (Crop.crops a' b') = let z = one_split_any a a' in (one_split_any b (rw (← z.1) at b')).0

pub one_outcome : OneOutcome
one_outcome = record {
  join = λ side x y t u. one_join;
  split = λ t x y v w p. one_split;
  join_any = λ x y t u. one_join_any;
  split_any = λ t x y v w p. one_split_any;
  put = λ t x u v p. one_put_any;
  cut = λ t u v p m. one_cut;
  crop = λ t u v p m. one_crop;
}
