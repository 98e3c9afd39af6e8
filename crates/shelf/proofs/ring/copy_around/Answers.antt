use Rattle.std.proofs.Common.{◌≡◌, ◌+◌, ◌-◌, ◌%◌, ◌<◌, ◌++◌, length, take, drop, refl, ap, ◌∙◌, mod-lt, arith}
use Rattle.std.proofs.lemmas.List.{nil_from_length}
use Rattle.shelf.specs.Texts.{stretch}
use Rattle.shelf.proofs.Rings.{both_parts, stretch_round}
use Rattle.shelf.proofs.ring.copy_around.Goals as goal

pub returns-then-n-eq0 : goal.returns-then-n-eq0
returns-then-n-eq0 c = rw c.if-n-eq0.true (nil_from_length c.args.out.now c.if-n-eq0.true)

pub returns : goal.returns
returns c =
    let memory = c.args.memory.now in
    let m = length memory in
    let from = c.args.from in
    let n = length c.args.out.now in
    let at = (c.args.start % m + from) % m in
    let front = c.min-front.result in
    let xs = c.copy_from_slice.new.self in
    let ys = c.copy_from_slice-2.new.self in
    let in_memory : at < m = mod-lt (c.args.start % m + from) (omega (arith, c.requires.0)) in
    let to_front : at + front - at ≡ front = omega arith in
    let to_end : n - front - 0 ≡ n - front = omega arith in
    let e : xs ≡ stretch at front memory = c.copy_from_slice.ensures.after ∙ ap (λ k. take k (drop at memory)) to_front in
    let f : ys ≡ take (n - front) memory = c.copy_from_slice-2.ensures.after ∙ ap (λ k. take k memory) to_end in
    both_parts front c.args.out.now xs ys (omega arith) (omega arith) (omega arith)
    ∙ ap (λ zs. zs ++ ys) e
    ∙ ap (λ zs. stretch at front memory ++ zs) f
    ∙ stretch_round memory c.args.start from n at front refl in_memory (omega (arith, c.requires.0)) c.min-front.ensures
