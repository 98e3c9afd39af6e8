-- What writing a record does to the trees in use.
use Rattle.std.proofs.Common.{◌≡◌, ℕ, ◌+◌, ◌<◌, ◌≤◌, max, List, [], ◌∷◌, ◌++◌, length, get_or, take, sym, refl, ap, ◌∙◌, subst, append_assoc, add-zero, arith}
use Rattle.std.proofs.lemmas.List.{length-append, length-take-le, get_or_push, get_or_append_left, get_or-take, take-take, take_more_set, take-set, length-set, append-nil}
use Rattle.shelf.specs.Texts.{limit}
use Rattle.tree.specs.Tree.{Tree, piece, node}
use Rattle.tree.specs.Side.{Side, left, right, pick}
use Rattle.tree.specs.Relations.{on}
use Rattle.book.specs.declared.node.Built.{Built}
use Rattle.book.specs.declared.node.Node.{Node}
use Rattle.book.specs.declared.node.Shape.TheVariants.{Piece, Fork}
use Rattle.book.specs.Sides.{ordered}
use Rattle.book.specs.Records.{no_tree, no_node, shaped, trees, tree_at, Below, Stands, Sound, Store, in_use, room, Ready, tree_in}
use Rattle.book.specs.Building.{one, Level, Added, Wrote, Made, Lacks}
use Rattle.book.proofs.Grown.{length_trees, trees_push, Reads, reads, sound_push}

pub length_in_use : {s : Store} → Ready s → length (in_use s) ≡ s.used
length_in_use {s} d = length-take-le s.used s.records d.within

pub length_slots : {s : Store} → Ready s → length (trees (in_use s)) ≡ s.used
length_slots {s} d = length_trees (in_use s) ∙ length_in_use d

-- what the record in a slot in use says
pub stands_at : {s : Store} → Ready s → (i : ℕ) → i < s.used → Stands i (get_or s.records i no_node) (tree_in s i)
unfolding Sound
stands_at {s} d i h =
    let lt : i < length (in_use s) = rw (length_in_use d) h in
    rw get_or-take at (d.sound i lt)

pub reads_at : {s : Store} → Ready s → (i : ℕ) → i < s.used → Reads (in_use s) i (get_or s.records i no_node).len (get_or s.records i no_node).shape
reads_at {s} d i h =
    let e : get_or (in_use s) i no_node ≡ get_or s.records i no_node = get_or-take s.used s.records i no_node h in
    let lt : i < length (in_use s) = rw (length_in_use d) h in
    subst (λ (x : Node). Reads (in_use s) i x.len x.shape) e
    (reads (in_use s) i lt (subst (λ (x : Node). Below i x.shape) (sym e) (stands_at d i h).below))

-- one more record
wrote_one : {s s' : Store} (x : Node) {b : Built ℕ} (t : Tree) → Ready s → Added s s' x b →
    shaped (trees (in_use s)) x.len x.shape ≡ t → Stands s.used x t → Made s s' (one t) b
unfolding tree_at
wrote_one {s} {s'} x {b} t d a e k =
    let n : length (in_use s) ≡ s.used = length_in_use d in
    let free = a.free in
    let within = d.within in
    let f : in_use s' ≡ in_use s ++ x ∷ [] = rw (a.used, a.records) (take_more_set s.records s.used x (omega arith)) in
    let g : trees (in_use s') ≡ trees (in_use s) ++ t ∷ [] = rw (f, trees_push, e) in
    let len : length s'.records ≡ length s.records = ap length a.records ∙ length-set s.records s.used x in
    let used = a.used in
    let slot = a.slot in
    record {
      wrote = record {
        len = len;
        used = used;
        ready = record { within = omega arith; few = omega arith; sound = rw f (sound_push (in_use s) x d.sound (rw (n, e) k)) };
        kept = rw a.records (take-set s.records s.used x);
        trees = g;
      };
      slot = omega arith;
      tree = rw (slot, g, get_or_push (trees (in_use s)) t no_tree s.used (length_slots d));
      made = a.made;
    }

pub no_more : {s s' : Store} → (s'.records ≡ s.records) × (room s.records ≤ s.used) → Lacks s s' 1
no_more {s} e = let f = e.1 in record { len = ap length e.0; kept = ap (take s.used) e.0; full = omega arith }

pub leaf_made : {s s' : Store} (k i m : ℕ) {b : Built ℕ} → Ready s → 0 < m → i + m ≤ limit →
    Added s s' (record { len = m; height = 0; pieces = 1; shape = Piece k i }) b → Made s s' (one (piece s.used k i m)) b
unfolding shaped
leaf_made {s} k i m d some ends a = wrote_one _ (piece s.used k i m) d a (ap (λ j. piece j k i m) (length_slots d))
    (record { below = tt; len = refl; height = refl; pieces = refl; balanced = tt; filled = (some, ends); short = omega arith })

node_made : {s s' : Store} (l r m : ℕ) {b : Built ℕ} → Level s l r → m ≡ max (get_or s.records l no_node).height (get_or s.records r no_node).height →
    (len pieces : ℕ) → len ≡ (get_or s.records l no_node).len + (get_or s.records r no_node).len →
    pieces ≡ (get_or s.records l no_node).pieces + (get_or s.records r no_node).pieces →
    Added s s' (record { len = len; height = m + 1; pieces = pieces; shape = Fork l r }) b → Made s s' (one (node s.used (tree_in s l) (tree_in s r))) b
unfolding shaped tree_at
node_made {s} l r m v e len pieces el ep a =
    let p = v.pair in
    let k = stands_at p.ready l p.left in
    let j = stands_at p.ready r p.right in
    wrote_one _ (node s.used (tree_in s l) (tree_in s r)) p.ready a (ap (λ i. node i (tree_in s l) (tree_in s r)) (length_slots p.ready))
    (record {
      below = (p.left, p.right);
      len = omega arith;
      height = omega arith;
      pieces = omega arith;
      balanced = (v.near.0, v.near.1, k.balanced, j.balanced);
      filled = (k.filled, j.filled);
      short = p.short;
    })

pub level_exchange : {s : Store} {l r : ℕ} → Level s l r → Level s r l
level_exchange v =
    let p = v.pair in
    let short = p.short in
    record { pair = record { ready = p.ready; left = p.right; right = p.left; short = omega arith }; near = (v.near.1, v.near.0) }

-- a node, seen from either side
fork_at : (side : Side) {s s' : Store} (x y m : ℕ) {b : Built ℕ} → Level s x y → m ≡ max (get_or s.records x no_node).height (get_or s.records y no_node).height →
    Added s s' (record {
      len = (get_or s.records x no_node).len + (get_or s.records y no_node).len;
      height = m + 1;
      pieces = (get_or s.records x no_node).pieces + (get_or s.records y no_node).pieces;
      shape = Fork (pick side x y) (pick side y x);
    }) b → Made s s' (one (on side s.used (tree_in s x) (tree_in s y))) b
fork_at left x y m v e a = node_made x y m v e _ _ refl refl a
fork_at right x y m v e a = node_made y x m (level_exchange v) (omega arith) _ _ (omega arith) (omega arith) a

pub fork_made : (side : Side) {s s' : Store} (x y m : ℕ) (o : ℕ × ℕ) {b : Built ℕ} → Level s x y →
    m ≡ max (get_or s.records x no_node).height (get_or s.records y no_node).height → o ≡ ordered side x y →
    Added s s' (record {
      len = (get_or s.records x no_node).len + (get_or s.records y no_node).len;
      height = m + 1;
      pieces = (get_or s.records x no_node).pieces + (get_or s.records y no_node).pieces;
      shape = Fork o.0 o.1;
    }) b → Made s s' (one (on side s.used (tree_in s x) (tree_in s y))) b
fork_made side x y m o v e p a = fork_at side x y m v e (rw p at a)

-- the trees in use before stay
pub stays : {s s' : Store} {new : List Tree} → Ready s → Wrote s s' new → (i : ℕ) → i < s.used → tree_in s' i ≡ tree_in s i
unfolding tree_at
stays {s} {s'} {new} d w i h =
    ap (λ ts. get_or ts i no_tree) w.trees ∙ get_or_append_left (trees (in_use s)) new no_tree i (rw (length_slots d) h)

pub more_used : {s s' : Store} {new : List Tree} → Wrote s s' new → s.used ≤ s'.used
more_used w = let e = w.used in omega arith

-- what is as it was later is as it was
still : {s s' : Store} {new : List Tree} (s'' : Store) → Wrote s s' new → take s'.used s''.records ≡ in_use s' → take s.used s''.records ≡ in_use s
still {s} {s'} s'' w e =
    let le = more_used w in
    sym (take-take s.used s'.used s''.records le) ∙ ap (take s.used) e ∙ take-take s.used s'.used s'.records le ∙ w.kept

pub more : {s s' s'' : Store} {new new' : List Tree} → Wrote s s' new → Wrote s' s'' new' → Wrote s s'' (new ++ new')
more {s} {s'} {s''} {new} {new'} w v =
    let a = length-append new new' in
    let b = w.used in
    let c = v.used in
    record {
      len = v.len ∙ w.len;
      used = omega arith;
      ready = v.ready;
      kept = still s'' w v.kept;
      trees = v.trees ∙ ap (λ ts. ts ++ new') w.trees ∙ append_assoc (trees (in_use s)) new new';
    }

pub nothing : {s : Store} → Ready s → Wrote s s []
nothing {s} d = record { len = refl; used = sym (add-zero s.used); ready = d; kept = refl; trees = sym (append-nil (trees (in_use s))) }

pub lacks_later : {s s' s'' : Store} {new : List Tree} {m : ℕ} → Wrote s s' new → Lacks s' s'' m → Lacks s s'' (length new + m)
lacks_later {s} {s'} {s''} w l =
    let b = w.used in
    let n = w.len in
    let f = l.full in
    record { len = l.len ∙ w.len; kept = still s'' w l.kept; full = omega arith }

pub lacks_more : {s s' : Store} {m : ℕ} (n : ℕ) → m ≤ n → Lacks s s' m → Lacks s s' n
lacks_more n h l = let f = l.full in record { len = l.len; kept = l.kept; full = omega arith }
