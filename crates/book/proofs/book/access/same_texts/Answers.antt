use Rattle.std.proofs.Common.{◌≡◌, ℕ, map, length, get_or, sym, ap, ◌∙◌, arith}
use Rattle.std.proofs.lemmas.List.{take_all, length-map, take_more_same}
use Rattle.book.proofs.Noting.{same_length, other_length, same_true, same_false}
use Rattle.book.proofs.book.access.same_texts.Goals as goal

pub returns-then-count-lens : goal.returns-then-count-lens
returns-then-count-lens g c =
    let ts = g.S.Shelf.texts c.args.shelf.now in
    same_false c.args.lens.now (map length ts)
    (λ e. let n : length c.args.lens.now ≡ length (map (length {A = ℕ}) ts) = ap length e in
    c.if-count-lens.true (omega (arith, length-map ts (length {A = ℕ}))))

pub returns-then-ne : goal.returns-then-ne
returns-then-ne g c =
    let ts = g.S.Shelf.texts c.args.shelf.now in
    let k = c.loop-k.k in
    same_false c.args.lens.now (map length ts)
    (λ e. other_length ts k (get_or c.args.lens.now k 0) (omega arith) c.length.ensures c.ne.ensures c.if-ne.true (ap (λ x. get_or x k 0) (sym e)))

pub loop-k-preserved : goal.loop-k-preserved
loop-k-preserved g c =
    let ts = g.S.Shelf.texts c.args.shelf.now in
    let k = c.loop-k.k in
    take_more_same c.args.lens.now (map length ts) k 0 (omega arith) (omega (arith, length-map ts (length {A = ℕ}))) c.loop-k.invariant
    (sym (same_length ts k (get_or c.args.lens.now k 0) (omega arith) c.length.ensures c.ne.ensures c.if-ne.false))

pub returns : goal.returns
returns g c =
    let ts = g.S.Shelf.texts c.args.shelf.now in
    same_true c.args.lens.now (map length ts)
    (sym (take_all c.loop-k.k c.args.lens.now (omega arith)) ∙ c.loop-k.invariant
    ∙ take_all c.loop-k.k (map length ts) (omega (arith, length-map ts (length {A = ℕ}))))
