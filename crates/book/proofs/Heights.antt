-- A balanced tree of few bytes is low.
use Rattle.std.proofs.Common.{◌+◌, ◌<◌, ◌≤◌, ⊎_elim, arith, lit<}
use Rattle.std.proofs.lemmas.Bool.{cases_lt}
use Rattle.shelf.specs.Texts.{limit}
use Rattle.tree.specs.Tree.{Tree, piece, node, height, size, pieces, Balanced}
use Rattle.tree.specs.Fib.{fib}
use Rattle.tree.proofs.Fib.{fib_mono, fib_pieces}
use Rattle.book.specs.Records.{Filled}

pub pieces_size : (t : Tree) → Filled t → pieces t ≤ size t
pieces_size (piece s k i m) f = f.0
pieces_size (node s l r) f = omega (arith, pieces_size l f.0, pieces_size r f.1)

pub low : (t : Tree) → Balanced t → Filled t → size t ≤ limit → height t ≤ 42
low t b f h = ⊎_elim
    (λ (c : 42 < height t).
    let big : limit < fib 45 = lit< tt in
    absurd (omega (arith, fib_mono 45 (height t + 2) (omega arith), fib_pieces t b, pieces_size t f)))
    (λ c. c) (cases_lt 42 (height t))
