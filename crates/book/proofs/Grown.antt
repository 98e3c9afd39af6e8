-- The trees of a list of records.
use Rattle.std.proofs.Common.{◌≡◌, ℕ, zero, suc, ◌+◌, ◌<◌, List, [], ◌∷◌, ◌++◌, length, get_or, take, sym, refl, ap, ◌∙◌, append_assoc, add-zero, zero-add, arith, below_more}
use Rattle.std.proofs.lemmas.List.{length-append, length_push, length-take-le, get_or_push, get_or_append_left, get_or-take, take_at, append-nil, get_or_at}
use Rattle.tree.specs.Tree.{Tree, piece, node}
use Rattle.book.specs.declared.node.Node.{Node}
use Rattle.book.specs.declared.node.Shape.{Shape}
use Rattle.book.specs.declared.node.Shape.TheVariants.{Piece, Fork}
use Rattle.book.specs.Records.{no_tree, no_node, shaped, grown, trees, tree_at, Below, Stands, Sound}

-- the trees of further records stand behind the others
unfoldable pub behind : List Tree → List Node → List Tree
behind ts [] = []
behind ts (x ∷ xs) = shaped ts x.len x.shape ∷ behind (ts ++ shaped ts x.len x.shape ∷ []) xs

pub grown_is : (ts : List Tree) (xs : List Node) → grown ts xs ≡ ts ++ behind ts xs
unfolding grown behind
grown_is ts [] = sym (append-nil ts)
grown_is ts (x ∷ xs) =
    let t = shaped ts x.len x.shape in
    grown_is (ts ++ t ∷ []) xs ∙ append_assoc ts (t ∷ []) (behind (ts ++ t ∷ []) xs)

length_behind : (ts : List Tree) (xs : List Node) → length (behind ts xs) ≡ length xs
unfolding behind
length_behind ts [] = refl
length_behind ts (x ∷ xs) = ap suc (length_behind (ts ++ shaped ts x.len x.shape ∷ []) xs)

pub length_trees : (xs : List Node) → length (trees xs) ≡ length xs
unfolding trees
length_trees xs = ap length (grown_is [] xs) ∙ length_behind [] xs

grown_append : (ts : List Tree) (xs ys : List Node) → grown ts (xs ++ ys) ≡ grown (grown ts xs) ys
unfolding grown
grown_append ts [] ys = refl
grown_append ts (x ∷ xs) ys = grown_append (ts ++ shaped ts x.len x.shape ∷ []) xs ys

-- the trees of the first records are the first trees
pub trees_append : (xs ys : List Node) → trees (xs ++ ys) ≡ trees xs ++ behind (trees xs) ys
unfolding trees
trees_append xs ys = grown_append [] xs ys ∙ grown_is (grown [] xs) ys

pub trees_push : (xs : List Node) (x : Node) → trees (xs ++ x ∷ []) ≡ trees xs ++ shaped (trees xs) x.len x.shape ∷ []
unfolding behind
trees_push xs x = trees_append xs (x ∷ [])

pub front_at : (xs ys : List Node) (i : ℕ) → i < length xs → tree_at (xs ++ ys) i ≡ tree_at xs i
unfolding tree_at
front_at xs ys i h =
    ap (λ ts. get_or ts i no_tree) (trees_append xs ys) ∙ get_or_append_left (trees xs) (behind (trees xs) ys) no_tree i (rw length_trees h)

-- a slot's tree is made of its record and the trees before it
behind_read : (ts : List Tree) (xs : List Node) (i : ℕ) → i < length xs →
    get_or (ts ++ behind ts xs) (length ts + i) no_tree ≡ shaped (take (length ts + i) (ts ++ behind ts xs)) (get_or xs i no_node).len (get_or xs i no_node).shape
unfolding behind
behind_read ts [] i h = absurd (omega arith)
behind_read ts (x ∷ xs) zero h =
    let t = shaped ts x.len x.shape in
    let m = behind (ts ++ t ∷ []) xs in
    rw (add-zero (length ts), get_or_at ts t m no_tree (length ts) refl, take_at ts (t ∷ m) (length ts) refl)
behind_read ts (x ∷ xs) (suc i) h =
    let t = shaped ts x.len x.shape in
    let g = behind_read (ts ++ t ∷ []) xs i (omega arith) in
    let f = length_push ts t in
    let e : length (ts ++ t ∷ []) + i ≡ length ts + suc i = omega arith in
    let a : (ts ++ t ∷ []) ++ behind (ts ++ t ∷ []) xs ≡ ts ++ t ∷ behind (ts ++ t ∷ []) xs = append_assoc ts (t ∷ []) (behind (ts ++ t ∷ []) xs) in
    rw (e, a) at g

-- what a slot's record says of its tree
abbrev pub Reads : List Node → ℕ → (len : ℕ) → Shape → Type 0
Reads xs i m (Piece k s) = tree_at xs i ≡ piece i k s m
Reads xs i m (Fork l r) = tree_at xs i ≡ node i (tree_at xs l) (tree_at xs r)

reads_of : (xs : List Node) (i m : ℕ) (s : Shape) → i < length xs → Below i s → tree_at xs i ≡ shaped (take i (trees xs)) m s → Reads xs i m s
unfolding shaped tree_at
reads_of xs i m (Piece k s) h b e = e ∙ ap (λ n. piece n k s m) (length-take-le i (trees xs) (rw length_trees (omega arith)))
reads_of xs i m (Fork l r) h b e =
    let f = length-take-le i (trees xs) (rw length_trees (omega arith)) in
    let g = get_or-take i (trees xs) l no_tree b.0 in
    let k = get_or-take i (trees xs) r no_tree b.1 in cc

pub reads : (xs : List Node) (i : ℕ) → i < length xs → Below i (get_or xs i no_node).shape → Reads xs i (get_or xs i no_node).len (get_or xs i no_node).shape
unfolding trees tree_at
reads xs i h b =
    reads_of xs i (get_or xs i no_node).len (get_or xs i no_node).shape h b (rw (grown_is [] xs) (rw zero-add at (behind_read [] xs i h)))

-- one more record
pub sound_push : (xs : List Node) (x : Node) → Sound xs → Stands (length xs) x (shaped (trees xs) x.len x.shape) → Sound (xs ++ x ∷ [])
unfolding Sound tree_at
sound_push xs x s k i h =
    below_more (λ j. Stands j (get_or (xs ++ x ∷ []) j no_node) (get_or (trees (xs ++ x ∷ [])) j no_tree)) (length xs)
    (λ j l.
    let lt : j < length (trees xs) = rw length_trees l in
    rw (get_or_append_left, trees_push, get_or_append_left) (s j l))
    (rw (
      get_or_push xs x no_node (length xs) refl,
      trees_push,
      get_or_push (trees xs) (shaped (trees xs) x.len x.shape) no_tree (length xs) (length_trees xs),
    ) k)
    i (rw length_push at h)

-- fewer records
pub sound_front : (xs ys : List Node) → Sound (xs ++ ys) → Sound xs
unfolding Sound
sound_front xs ys s i h =
    let n = length-append xs ys in
    let k = s i (omega arith) in
    rw (front_at xs ys i h, get_or_append_left xs ys no_node i h) at k
