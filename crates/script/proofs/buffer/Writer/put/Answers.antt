use Rattle.std.proofs.Common.{◌≡◌, ◌++◌, length, take, refl, ap, ◌∙◌, rules, arith}
use Rattle.std.proofs.lemmas.Slice.{take-put_mid, drop-put_mid}
use Rattle.script.proofs.buffer.Writer.put.Goals as goal

pub returns : goal.returns
returns c =
    let at = c.args.self.now.at in
    let out = c.args.self.now.out.now in
    let part = c.copy_from_slice.new.self in
    let same = c.copy_from_slice.ensures.after in
    let count : length part ≡ length c.args.bytes.now = ap length same in
    record {
      wrote = record {
        ends = refl;
        front = take-put_mid at _ out part _ (omega arith) (omega arith) ∙ ap (λ l. take at out ++ l) same;
        behind = drop-put_mid at _ out part _ (omega arith) (omega arith) (omega arith);
      };
      long = search rules;
      same = refl;
    }
