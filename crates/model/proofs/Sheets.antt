-- The values of a sheet are right, and so is what a summary tells.
use Rattle.std.proofs.Common.{◌≡◌, ℕ, zero, suc, ◌+◌, ◌-◌, ◌<◌, ◌≤◌, true, cond, ◌&&◌, eqb, leb, List, [], ◌++◌, length, get_or, take, drop, set, Some, None, Option, sym, refl, ap, ◌∙◌, ap₂, ⊎_elim, arith, length-append, length-drop, length-set, length-take, take_all, get_or-set_other, get_or-take, get_or-set_same, drop-drop}
use lib.Seq.{drop-nil}
use Rattle.std.proofs.ByRecursion.{All-get_or}
use Rattle.std.proofs.lemmas.Bool.{cond_both, eqb-true, leb-true, leb-false, and_parts, cases_eq}
use Rattle.tree.specs.Tree.{Tree, piece, node, slot, size, Within, spell}
use Rattle.tree.specs.Stored.{Stored, Fresh}
use Rattle.shelf.specs.Texts.{limit, stretch, text}
use Rattle.rule.specs.Rule.{Joins}
use Rattle.model.specs.Sheet.{Rule, value_at, tree_value, filled, stretch_value, version_value}
use Rattle.model.specs.Table.{CoveredTree, Covered}
use Rattle.model.proofs.Strings.{inside, stretch_left, stretch_right, stretch_both}
use Rattle.tree.specs.Edits.{Sound, Fit, Grown, spell_any}
use Rattle.tree.proofs.Heap.{fresh_at, held}
use Rattle.tree.proofs.Spell.{length_spell}

abbrev pub leaf : Tree
leaf = piece 0 0 0 0

module _ {V : Type 0} (texts : List (List ℕ)) (rule : Rule V) where
  -- the first n values are those of the trees at the first n slots
  abbrev pub Right : List Tree → List V → ℕ → Type 0
  Right ts vs n = (i : ℕ) → i < n → value_at texts rule vs i ≡ rule.value (spell texts (get_or ts i leaf))

  module _ (joins : Joins rule.value rule.joined) where
    -- of a tree at the next slot, over the values so far
    value_right : (ts : List Tree) (vs : List V) (n : ℕ) (t : Tree) → Right ts vs n → Fresh (take n ts) t → Within texts t → size t ≤ limit →
        tree_value texts rule vs t ≡ rule.value (spell texts t)
    value_right ts vs n (piece s k i m) right f w le = refl
    value_right ts vs n (node s l r) right f w le =
        let x = side l f.1 in
        let y = side r f.2 in
        let a = length_spell texts l w.0 in
        let b = length_spell texts r w.1 in
        ap₂ rule.joined x y ∙ joins (spell texts l) (spell texts r) (omega arith)
      where
        side : (u : Tree) → Stored (take n ts) u → value_at texts rule vs (slot u) ≡ rule.value (spell texts u)
        side u st =
            let at = held (take n ts) u st in
            let lt : slot u < n = omega (arith, at.0, length-take n ts) in
            right (slot u) lt ∙ ap (λ (x : Tree). rule.value (spell texts x)) (sym (get_or-take n ts (slot u) leaf lt) ∙ at.1 leaf)

    right_more : (ts : List Tree) (vs : List V) (n : ℕ) (v : V) → n < length vs → Right ts vs n → v ≡ rule.value (spell texts (get_or ts n leaf)) →
        Right ts (set vs n v) (suc n)
    right_more ts vs n v h right e i l =
        ⊎_elim
        (λ (q : i ≡ n). rw q (get_or-set_same vs n v (rule.value []) h ∙ e))
        (λ (q : i ≡ n → ⊥). get_or-set_other vs n i v (rule.value []) q ∙ right i (omega arith))
        (cases_eq i n)

    pub filled_right : (ts : List Tree) (vs : List V) (n count : ℕ) → Grown texts limit [] ts → n + count ≤ length ts → n + count ≤ length vs → Right ts vs n →
        Right ts (filled texts rule ts vs n count) (n + count)
    filled_right ts vs n zero s h k right i l = right i (omega arith)
    filled_right ts vs n (suc count) s h k right i l =
        let t = get_or ts n leaf in
        let in_ts : n < length ts = omega arith in
        let in_vs : n < length vs = omega arith in
        let e = value_right ts vs n t right (fresh_at [] ts s.grows n leaf in_ts)
        (All-get_or (Sound texts limit) ts n leaf in_ts s.sound).within (All-get_or (Sound texts limit) ts n leaf in_ts s.sound).short in
        let l' : i < suc n + count = omega arith in
        filled_right ts (set vs n (tree_value texts rule vs t)) (suc n) count s (omega arith)
        (rw length-set (omega arith)) (right_more ts vs n (tree_value texts rule vs t) in_vs right e) i l'

    pub length_filled : (ts : List Tree) (vs : List V) (n count : ℕ) → length (filled texts rule ts vs n count) ≡ length vs
    length_filled ts vs n zero = refl
    length_filled ts vs n (suc count) =
        length_filled ts (set vs n (tree_value texts rule vs (get_or ts n leaf))) (suc n) count ∙ length-set vs n (tree_value texts rule vs (get_or ts n leaf))

    -- a node, from its sides
    stretch_node : (vs : List V) (s : ℕ) (l r : Tree) (f n : ℕ) → value_at texts rule vs s ≡ rule.value (spell texts l ++ spell texts r) →
        ((f n : ℕ) → f + n ≤ size l → stretch_value texts rule vs l f n ≡ rule.value (stretch f n (spell texts l))) →
        ((f n : ℕ) → f + n ≤ size r → stretch_value texts rule vs r f n ≡ rule.value (stretch f n (spell texts r))) →
        length (spell texts l) ≡ size l → length (spell texts r) ≡ size r → size l + size r ≤ limit → f + n ≤ size l + size r →
        stretch_value texts rule vs (node s l r) f n ≡ rule.value (stretch f n (spell texts l ++ spell texts r))
    stretch_node vs s l r f n held ihl ihr a b le h =
        let P : V → Type 0 = λ x. x ≡ rule.value (stretch f n (L ++ R)) in
        let both = rule.joined (stretch_value texts rule vs l f (size l - f)) (stretch_value texts rule vs r 0 (f + n - size l)) in
        let later = cond (leb (size l) f) (stretch_value texts rule vs r (f - size l) n) both in
        let parts = cond (leb (f + n) (size l)) (stretch_value texts rule vs l f n) later in
        cond_both (eqb f 0 && eqb n (size l + size r)) (value_at texts rule vs s) parts P
        (λ e. whole (and_parts (eqb f 0) (eqb n (size l + size r)) e))
        (λ _. cond_both (leb (f + n) (size l)) (stretch_value texts rule vs l f n) later P
        (λ e. left (leb-true (f + n) (size l) e))
        (λ e. cond_both (leb (size l) f) (stretch_value texts rule vs r (f - size l) n) both P
        (λ g. right_side (leb-true (size l) f g))
        (λ g. across (leb-false (f + n) (size l) e) (leb-false (size l) f g))))
      where
        L : List ℕ
        L = spell texts l

        R : List ℕ
        R = spell texts r

        whole : (eqb f 0 ≡ true) × (eqb n (size l + size r) ≡ true) → value_at texts rule vs s ≡ rule.value (stretch f n (L ++ R))
        whole e =
            let z = eqb-true f 0 e.0 in
            let m = eqb-true n (size l + size r) e.1 in
            let len : length (L ++ R) ≤ n = rw length-append (omega arith) in
            held ∙ ap rule.value (sym (ap (λ (x : ℕ). take n (drop x (L ++ R))) z ∙ take_all n (L ++ R) len))

        left : f + n ≤ size l → stretch_value texts rule vs l f n ≡ rule.value (stretch f n (L ++ R))
        left e = ihl f n e ∙ ap rule.value (sym (stretch_left f n L R (omega arith)))

        right_side : size l ≤ f → stretch_value texts rule vs r (f - size l) n ≡ rule.value (stretch f n (L ++ R))
        right_side e =
            ihr (f - size l) n (omega arith)
            ∙ ap rule.value (sym (stretch_right f n L R (omega arith) ∙ ap (λ (x : ℕ). take n (drop (f - x) R)) a))

        across : size l < f + n → f < size l →
            rule.joined (stretch_value texts rule vs l f (size l - f)) (stretch_value texts rule vs r 0 (f + n - size l)) ≡ rule.value (stretch f n (L ++ R))
        across e g =
            let u = take (size l - f) (drop f L) in
            let v = take (f + n - size l) R in
            let lu : length u ≤ size l = simp (length-take, length-drop) (omega arith) in
            let lv : length v ≤ size r = simp length-take (omega arith) in
            ap₂ rule.joined (ihl f (size l - f) (omega arith)) (ihr 0 (f + n - size l) (omega arith))
            ∙ joins u v (omega arith)
            ∙ ap rule.value (sym (stretch_both f n L R (omega arith) (omega arith) ∙ ap (λ (k : ℕ). take (k - f) (drop f L) ++ take (f + n - k) R) a))

    pub stretch_is : (ts : List Tree) (vs : List V) (c : ℕ) (t : Tree) (f n : ℕ) → Right ts vs c → Stored ts t → CoveredTree c t → Within texts t → size t ≤ limit →
        f + n ≤ size t → stretch_value texts rule vs t f n ≡ rule.value (stretch f n (spell texts t))
    stretch_is ts vs c (piece s k i m) f n right st co w le h =
        let P : V → Type 0 = λ x. x ≡ rule.value (take n (drop f (take m (drop i (text texts k))))) in
        cond_both (eqb f 0 && eqb n m) (get_or vs s (rule.value [])) (rule.value (take n (drop (i + f) (text texts k)))) P
        (λ e. whole (and_parts (eqb f 0) (eqb n m) e))
        (λ _. ap rule.value (sym (inside m f n (drop i (text texts k)) h ∙ ap (take n) (drop-drop f i (text texts k)))))
      where
        whole : (eqb f 0 ≡ true) × (eqb n m ≡ true) → get_or vs s (rule.value []) ≡ rule.value (take n (drop f (take m (drop i (text texts k)))))
        whole e =
            let z = eqb-true f 0 e.0 in
            let q = eqb-true n m e.1 in
            let bytes = take m (drop i (text texts k)) in
            let short : length bytes ≤ n = simp length-take (omega arith) in
            right s co
            ∙ ap (λ (x : Tree). rule.value (spell texts x)) (st.1 leaf)
            ∙ ap rule.value (sym (ap (λ (x : ℕ). take n (drop x bytes)) z ∙ take_all n bytes short))
    stretch_is ts vs c (node s l r) f n right st co w le h =
        stretch_node vs s l r f n (right s co.0 ∙ ap (λ (x : Tree). rule.value (spell texts x)) (st.0.1 leaf))
        (λ f n h. stretch_is ts vs c l f n right st.1 co.1 w.0 (omega arith) h)
        (λ f n h. stretch_is ts vs c r f n right st.2 co.2 w.1 (omega arith) h)
        (length_spell texts l w.0) (length_spell texts r w.1) le h

    pub version_value_is : (ts : List Tree) (vs : List V) (c : ℕ) (o : Option Tree) (f n : ℕ) → Right ts vs c → Fit texts limit ts o → Covered c o →
        f + n ≤ length (spell_any texts o) → version_value texts rule vs o f n ≡ rule.value (stretch f n (spell_any texts o))
    version_value_is ts vs c None f n right w co h = ap rule.value (sym (take_all n (drop f []) (simp length-drop (omega arith)) ∙ drop-nil f))
    version_value_is ts vs c (Some t) f n right w co h =
        let e = length_spell texts t w.0.within in
        stretch_is ts vs c t f n right w.1 co w.0.within w.0.short (omega arith)
